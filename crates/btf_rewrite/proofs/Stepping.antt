-- The records of a table, rewritten one after the other.
use Rattle.std.proofs.Common.{◌≡◌, ℕ, ◌+◌, List, [], ◌∷◌, ◌++◌, drop, None, Some, append-nil, append_assoc, sym, ap, ◌∙◌, subst}
use Rattle.std.specs.List.{slice_get}
use Rattle.btf_records.specs.declared.types.BtfType.{BtfType}
use Rattle.btf_records.specs.declared.words.Endianness.{Endianness}
use Rattle.btf_rewrite.specs.Ksyms.{Ksyms, stepped, stepped_from}
use Rattle.btf_storage.proofs.Left.{left_none, left_some}
use Rattle.btf_rewrite.proofs.Growth.{too_many_more}
use Rattle.btf_storage.specs.Growth.{AreFew, AreTooMany}

pub record HaveStepped (k : Ksyms) (order : Endianness) (i : ℕ) (done : List BtfType) : Type 0 where
  pub made : done ++ stepped_from k (i + 1) (drop i k.types) ≡ stepped_from k 1 k.types
  pub few : AreFew order done

pub one_more_stepped : (k : Ksyms) (order : Endianness) (i : ℕ) (done : List BtfType) (t : BtfType) → HaveStepped k order i done → slice_get k.types i ≡ Some t → AreFew order (done ++ stepped k (i + 1) t ∷ []) → HaveStepped k order (i + 1) (done ++ stepped k (i + 1) t ∷ [])
one_more_stepped k order i done t before here few = record {
  made = append_assoc done (stepped k (i + 1) t ∷ []) _ ∙ (ap (λ l. done ++ stepped_from k (i + 1) l) (sym (left_some k.types i t here)) ∙ before.made);
  few = few;
}

pub too_many_stepped : (k : Ksyms) (order : Endianness) (i : ℕ) (done : List BtfType) (t : BtfType) → HaveStepped k order i done → slice_get k.types i ≡ Some t → AreTooMany order (done ++ stepped k (i + 1) t ∷ []) → AreTooMany order (stepped_from k 1 k.types)
too_many_stepped k order i done t before here many =
    let rest = stepped_from k (i + 1 + 1) (drop (i + 1) k.types) in
    subst (AreTooMany order) (append_assoc done (stepped k (i + 1) t ∷ []) rest ∙ (ap (λ l. done ++ stepped_from k (i + 1) l) (sym (left_some k.types i t here)) ∙ before.made)) (too_many_more order (done ++ stepped k (i + 1) t ∷ []) rest many)

pub all_stepped : (k : Ksyms) (order : Endianness) (i : ℕ) (done : List BtfType) → HaveStepped k order i done → slice_get k.types i ≡ None → done ≡ stepped_from k 1 k.types
all_stepped k order i done h past = sym (append-nil done) ∙ (ap (λ l. done ++ stepped_from k (i + 1) l) (sym (left_none k.types i past)) ∙ h.made)
