-- Outcomes that are remembered.
use Rattle.std.proofs.Common.{◌≡◌, ℕ, List, [], Some, refl, subst, sym, ◌∙◌}
use Rattle.std.proofs.lemmas.List.Elements.{All-nil}
use Rattle.std.proofs.lemmas.Map.Views.{All-values-insert_entry}
use Rattle.std.specs.BTreeMap.{insert_entry}
use Rattle.std.specs.List.{IsAmong}
use Rattle.std.specs.Map.{values_of}
use Rattle.std.specs.Prelude.{slice_get}
use Rattle.std.specs.declared.cmp.Ordering.{Ordering}
use Rattle.btf_tables.specs.Tables.{Table}
use Rattle.ebpf_items.specs.RelocationKind.{relocation_kinds}
use Rattle.ebpf_items.specs.declared.relocation_kind.RelocationKind.{RelocationKind}
use Rattle.core_resolve.specs.KnownOutcomes.{AreOutcomes, IsOutcome}
use Rattle.core_resolve.specs.declared.known.KnownOutcome.{KnownOutcome}
use Rattle.core_resolve.specs.declared.relocation.TypeRelocation.{TypeRelocation}

abbrev relocation_of : RelocationKind → ℕ → ℕ → TypeRelocation
relocation_of kind id access = record { kind = kind; type_id = id; access_str_off = access }

same_parts : (k l : RelocationKind) (i j o p : ℕ) → k ≡ l → i ≡ j → o ≡ p → relocation_of k i o ≡ relocation_of l j p
same_parts k l i j o p kinds ids accesses = rw (kinds, ids, accesses) refl

same_kind : (k l : RelocationKind) (n m : ℕ) → slice_get relocation_kinds n ≡ Some k → slice_get relocation_kinds m ≡ Some l → n ≡ m → k ≡ l
same_kind k l n m one other e = by l (subst (λ (i : ℕ). slice_get relocation_kinds i ≡ Some l) (sym e) other) where
  by : (l : RelocationKind) → slice_get relocation_kinds n ≡ Some l → k ≡ l
  by l is = let same : Some k ≡ Some l = sym one ∙ is in cc

pub same_relocation : (a b : TypeRelocation) (n m : ℕ) → slice_get relocation_kinds n ≡ Some a.kind → slice_get relocation_kinds m ≡ Some b.kind → n ≡ m → a.type_id ≡ b.type_id → a.access_str_off ≡ b.access_str_off → a ≡ b
same_relocation a b n m one other kinds ids accesses = same_parts a.kind b.kind a.type_id b.type_id a.access_str_off b.access_str_off (same_kind a.kind b.kind n m one other kinds) ids accesses

pub none_known : (local : Table) (targets : List Table) → AreOutcomes local targets []
none_known local targets = record { each = All-nil _ }

pub known_outcome : (local : Table) (targets : List Table) (known : List KnownOutcome) (k : KnownOutcome) (relocation : TypeRelocation) → AreOutcomes local targets known → IsAmong known k → k.relocation ≡ relocation → IsOutcome local targets relocation k.outcome
known_outcome local targets known k relocation are among same =
    let here : IsOutcome local targets k.relocation k.outcome = subst (λ (j : KnownOutcome). IsOutcome local targets j.relocation j.outcome) (sym among.1.1) (are.each among.0 k among.1.0) in
    subst (λ (r : TypeRelocation). IsOutcome local targets r k.outcome) same here

pub one_more : {K : Type 0} (cmp : K → K → Ordering) (entries : List (K × KnownOutcome)) (key : K) (k : KnownOutcome) (local : Table) (targets : List Table) → AreOutcomes local targets (values_of entries) → IsOutcome local targets k.relocation k.outcome → AreOutcomes local targets (values_of (insert_entry cmp entries key k))
one_more cmp entries key k local targets are here = record { each = All-values-insert_entry cmp key k (λ x. IsOutcome local targets x.relocation x.outcome) entries are.each here }
