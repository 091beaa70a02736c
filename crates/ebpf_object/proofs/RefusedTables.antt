-- The faults of rewriting a table.
use Rattle.std.proofs.Common.{◌≡◌, ℕ, ◌==◌, ◌⊎◌, List, [], Option, Some, Bool, false, length, refl, inl, inr}
use Rattle.std.specs.Fn.{Mut}
use Rattle.btf_storage.specs.Faultless.{IsFaultless}
use Rattle.btf_records.specs.declared.error.BtfError.{BtfError}
use Rattle.btf_records.specs.declared.feature.BtfFeature.{BtfFeature}
use Rattle.btf_rewrite.specs.Sanitizing as tables
use Rattle.btf_rewrite.specs.Sanitizing.{StepFault, stepped}
use Rattle.btf_tables.specs.Tables.{Table}
use Rattle.ebpf_object.specs.Rewriting.{AreAnswered, AreNumbersOf, IsRefused, IsRefusedTable}

-- No question was asked.
pub none_answered : {F : Type 0} (predicate : Mut F (BtfFeature × Unit {0}) Bool) (before : F) → AreAnswered predicate before []
none_answered predicate before = record { after = before; given = record { more = []; appended = refl; called = refl } }

-- A fault of the step on `.ksyms` occurs before any question, and a fault of a record after the
-- step under the answers that were given.
pub refused_table : {F : Type 0} (predicate : Mut F (BtfFeature × Unit {0}) Bool) (before : F) (file : List ℕ) (ksyms : Option (ℕ × Option ℕ)) (table : Table) (sizes offsets : List ℕ → Option ℕ) → AreNumbersOf file sizes offsets → (e : BtfError) → StepFault ksyms table e ⊎ (IsFaultless (StepFault ksyms table) × tables.IsRefused predicate before sizes offsets (stepped ksyms table) e) → IsRefusedTable predicate before file ksyms table e
refused_table predicate before file ksyms table sizes offsets numbers e (inl fault) = record {
  answers = [];
  answered = none_answered predicate before;
  fault = record { sizes = sizes; offsets = offsets; numbers = numbers; fault = inl fault };
}
refused_table predicate before file ksyms table sizes offsets numbers e (inr fault) = record {
  answers = fault.1.answers;
  answered = record { after = fault.1.asked.after; given = fault.1.asked.given };
  fault = record {
    sizes = sizes;
    offsets = offsets;
    numbers = numbers;
    fault = inr (fault.0, (record { questions = fault.1.asked.questions; once = fault.1.asked.once }, fault.1.fault));
  };
}

-- A fault of an object's table is one of the object's types, if the table has a type.
pub refused : {F : Type 0} (predicate : Mut F (BtfFeature × Unit {0}) Bool) (before : F) (file : List ℕ) (ksyms : Option (ℕ × Option ℕ)) (table : Table) (e : BtfError) → (length table.types == 0) ≡ false → IsRefusedTable predicate before file ksyms table e → IsRefused predicate before file ksyms (Some table) e
refused predicate before file ksyms table e filled fault = record { answers = fault.answers; answered = fault.answered; fault = (filled, fault.fault) }
