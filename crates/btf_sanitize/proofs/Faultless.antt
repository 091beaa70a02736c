-- The absence of faults in several parts together.
use Rattle.std.proofs.Common.{◌≡◌, ℕ, Bool, true, false, List, ◌⊎◌, Any, Some, inl, inr, subst, sym}
use Rattle.std.specs.List.{All}
use Rattle.std.specs.Option.{IsSomeAnd}
use Rattle.string_table.specs.Texts.{text_at}
use Rattle.btf_records.specs.declared.error.BtfError.{BtfError}
use Rattle.btf_records.specs.declared.feature.BtfFeature.TheVariants.{DataSec}
use Rattle.btf_records.specs.declared.variables.DataSec.{DataSec as Section}
use Rattle.btf_sanitize.specs.Facts.{Facts}
use Rattle.btf_sanitize.specs.Faults.{MemberFault, NameFault, PlaceFault, SectionFault, SizeFault, UnsizedFault}
use Rattle.btf_storage.specs.Faultless.{IsFaultless}

-- No element has a fault.
pub none_of_any : {X : Type 0} (fault : X → BtfError → Type 0) (xs : List X) → All (λ x. IsFaultless (fault x)) xs → IsFaultless (λ e. Any (λ x. fault x e) xs)
none_of_any fault xs each = record { none = λ e any. (each any.0 any.1 any.2).none e (subst (λ x. fault x e) (sym any.3) any.4) }

-- Neither of two faults occurs.
pub none_of_either : (one other : BtfError → Type 0) → IsFaultless one → IsFaultless other → IsFaultless (λ e. one e ⊎ other e)
none_of_either one other p q = record { none = λ e either. elim either [ inl h ↦ p.none e h | inr h ↦ q.none e h ] }

-- A fault under a condition doesn't occur.
pub none_under : (condition : Type 0) (fault : BtfError → Type 0) → IsFaultless fault → IsFaultless (λ e. condition × fault e)
none_under condition fault p = record { none = λ e both. p.none e both.1 }

-- A fault under a condition that doesn't hold doesn't occur.
pub none_without : (condition : Type 0) (fault : BtfError → Type 0) → (condition → ⊥) → IsFaultless (λ e. condition × fault e)
none_without condition fault p = record { none = λ e both. p both.0 }

-- A section whose size and offsets come from the object has no fault.
pub none_of_unsized : (known : Facts) (t : Section) (name : List ℕ) → text_at known.strings t.name_offset ≡ Some name → IsFaultless (SizeFault known name) → IsFaultless (λ e. Any (λ entry. PlaceFault known entry e) t.entries) → IsFaultless (UnsizedFault known t)
none_of_unsized known t name named size places =
    subst (λ text. IsFaultless (λ e. IsSomeAnd text (λ n. SizeFault known n e) ⊎ Any (λ entry. PlaceFault known entry e) t.entries)) (sym named) (none_of_either _ _ size places)

-- A section has no fault: the case of a kernel that supports sections, and the other case.
pub none_of_granted : (known : Facts) (t : Section) → known.grants DataSec ≡ true → IsFaultless (NameFault known t.name_offset) → IsFaultless (λ e. (t.size ≡ 0) × UnsizedFault known t e) → IsFaultless (SectionFault known t)
none_of_granted known t granted name unsized = record {
  none = λ e fault. elim fault [
    | inl n ↦ name.none e n
    | inr either ↦ elim either [
      | inl denied ↦ absurd (true_or_not (known.grants DataSec) granted denied.0)
      | inr both ↦ unsized.none e (both.1, both.2)
    ]
  ];
}
  where
    true_or_not : (b : Bool) → b ≡ true → b ≡ false → ⊥
    true_or_not b h k = cc

pub none_of_denied : (known : Facts) (t : Section) → known.grants DataSec ≡ false → IsFaultless (NameFault known t.name_offset) → IsFaultless (λ e. Any (λ entry. MemberFault known entry e) t.entries) → IsFaultless (SectionFault known t)
none_of_denied known t refused name members = record {
  none = λ e fault. elim fault [
    | inl n ↦ name.none e n
    | inr either ↦ elim either [
      | inl denied ↦ members.none e denied.1
      | inr both ↦ absurd (true_or_not (known.grants DataSec) both.0 refused)
    ]
  ];
}
  where
    true_or_not : (b : Bool) → b ≡ true → b ≡ false → ⊥
    true_or_not b h k = cc
