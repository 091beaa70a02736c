-- The function records of a plan's programs name the same functions as in the object.
use Rattle.std.proofs.Common.{◌≡◌, ℕ, ◌-◌, ◌==◌, List, [], ◌∷◌, map, Bool, true, false, Some, None, length, refl, sym, ap, ◌∙◌, subst, arith}
use Rattle.std.proofs.lemmas.Bool.Decides.{nat_tests}
use Rattle.std.specs.Option.{option_map, option_map_or}
use Rattle.std.specs.Prelude.{Option, if◌then◌else◌, is_some, slice_get}
use Rattle.btf_records.specs.declared.types.BtfType.{BtfType}
use Rattle.btf_records.specs.declared.types.BtfType.TheVariants as types
use Rattle.btf_sanitize.specs.Answers.{Answers}
use Rattle.btf_rewrite.specs.Sanitizing.{stepped}
use Rattle.btf_tables.specs.Tables.{Table}
use Rattle.ebpf_object.specs.Helpers.{for_kernel}
use Rattle.ebpf_object.specs.Rewriting.{IsRewritten, IsRewrittenIf}
use Rattle.linker.specs.Layout.{Key}
use Rattle.load_plan.specs.NamedFunctions.{all_named, is_named_function, names_function, names_function_in}
use Rattle.load_plan.specs.RewrittenFunctions.{is_denied}
use Rattle.linker.specs.Linked.{AreLinked}
use Rattle.linker.specs.Records.{functions_in}
use Rattle.linker.specs.Unlinked.{Unlinked}
use Rattle.object_parts.specs.Content.{FunctionContent, ProgramContent, function_at}
use Rattle.object_parts.specs.Installed.{AreChanged}
use Rattle.load_plan.specs.ContentsLaws.{HaveRecordsOf, NamesAreCarried, RecordsName}
use Rattle.load_plan.specs.Plans.{AllNamed, HoldsTypeBytes, Names, plan_program_of, type_bytes, type_bytes_of}

abbrev Keyed : Type 0
Keyed = List (Key × FunctionContent)

-- In a table without types no id names a function.
not_empty : {A : Type 0} (x : A) (xs : List A) → (length (x ∷ xs) == 0) ≡ false
not_empty x xs = grind (arith, nat_tests)

none_named : (strings : List ℕ) (ts : List BtfType) (i : ℕ) (b : Bool) → (length ts == 0) ≡ true → option_map_or (is_named_function strings) (if b then Some types.Unknown else slice_get ts i) false ≡ true → ⊥
none_named strings [] i true e named = absurd (cc)
none_named strings [] i false e named = absurd (cc)
none_named strings (t ∷ ts) i b e named = let filled = not_empty t ts in absurd (cc)

same_order : (ksyms : Option (ℕ × Option ℕ)) (table : Table) → (stepped ksyms table).order ≡ table.order
same_order None table = refl
same_order (Some ids) table = refl

-- An id that names a function in an object's types names it in the bytes of the rewritten types.
carried_in : NamesAreCarried → (file : List ℕ) (ksyms : Option (ℕ × Option ℕ)) (table : Table) (answers : Answers) (new : Table) (bytes : Option (List ℕ)) (b : Bool) → (length table.types == 0) ≡ b → IsRewrittenIf b answers file ksyms table new → bytes ≡ type_bytes_of new → HoldsTypeBytes (Some new) bytes → is_denied answers ≡ false → (id : ℕ) → names_function_in id table ≡ true → Names (Some table) bytes id
carried_in law file ksyms table answers new bytes true e h is holds denied id named =
    absurd (none_named table.strings table.types (id - 1) (id == 0) e named)
carried_in law file ksyms table answers new bytes false e h is holds denied id named =
    law.each answers h.sizes h.offsets ksyms table new bytes id
    (record { asked = h.asked.questions; step = h.step; keeps = h.keeps; texts = h.texts })
    (ap (λ t. t.order) h.table_is ∙ same_order ksyms table) is holds denied named

carried : NamesAreCarried → (file : List ℕ) (ksyms : Option (ℕ × Option ℕ)) (old : Option Table) (answers : Answers) (new : Option Table) (bytes : Option (List ℕ)) → IsRewritten answers file ksyms old new → bytes ≡ type_bytes new → HoldsTypeBytes new bytes → is_denied answers ≡ false → (id : ℕ) → names_function old id ≡ true → Names old bytes id
carried law file ksyms None answers new bytes h is holds denied id named = absurd (cc)
carried law file ksyms (Some table) answers None bytes h is holds denied id named = absurd h
carried law file ksyms (Some table) answers (Some new) bytes h is holds denied id named =
    carried_in law file ksyms table answers new bytes (length table.types == 0) refl h is holds denied id named

-- A change that keeps the records of each function keeps all records.
same_records : (change : FunctionContent → FunctionContent) → ((f : FunctionContent) → (change f).func_info ≡ f.func_info) → (o : Option FunctionContent) → functions_in (option_map change o) ≡ functions_in o
same_records change keeps None = refl
same_records change keeps (Some f) = keeps f

pub records_of : (change : FunctionContent → FunctionContent) (old new : Keyed) → ((f : FunctionContent) → (change f).func_info ≡ f.func_info) → AreChanged change old new → HaveRecordsOf old new
records_of change old new keeps are = record { at = λ key. ap functions_in (are.at key) ∙ same_records change keeps (function_at old key) }

pub records_through : (old between new : Keyed) → HaveRecordsOf old between → HaveRecordsOf between new → HaveRecordsOf old new
records_through old between new first second = record { at = λ key. second.at key ∙ first.at key }

-- The records of a plan's programs, by the object's types and functions after the passes.
pub names : RecordsName → NamesAreCarried → (file : List ℕ) (ksyms : Option (ℕ × Option ℕ)) (old new : Option Table) (answers : Answers) (h : Bool) (bytes : Option (List ℕ)) (functions relocated linked : Keyed) (u : Unlinked) (keys : List Key) (programs : List (List ℕ × ProgramContent)) → all_named old functions ≡ true → IsRewritten answers file ksyms old new → bytes ≡ type_bytes new → HoldsTypeBytes new bytes → HaveRecordsOf functions relocated → u.functions ≡ relocated → AreLinked u keys linked → AllNamed old bytes (map (plan_program_of answers (is_some bytes) (for_kernel h linked)) programs)
names records carry file ksyms old new answers h bytes functions relocated linked u keys programs named types is holds slots same links =
    records.each old bytes answers (is_some bytes) h functions u keys linked programs named
    (subst (λ (fs : Keyed). HaveRecordsOf functions fs) (sym same) slots) links
    (carried carry file ksyms old answers new bytes types is holds)
