-- Tables that are too large, and errors.
use Rattle.std.proofs.Common.{◌≡◌, List, ◌++◌, ◌⊎◌, inl, inr, Result, Ok, Err, length, ap, sym, subst, arith, length-append}
use Rattle.std.specs.Result.{IfErr, IsErrAnd}
use Rattle.std.proofs.lemmas.Grind.{flat_map-append}
use Rattle.std.specs.List.{flat_map}
use Rattle.btf_encoding.specs.Records.{record_bytes}
use Rattle.btf_storage.specs.Faultless.{IsFaultless}
use Rattle.btf_storage.specs.Growth.{AreTooMany}
use Rattle.btf_records.specs.declared.error.BtfError.{BtfError}
use Rattle.btf_records.specs.declared.types.BtfType.{BtfType}
use Rattle.btf_records.specs.declared.words.Endianness.{Endianness}

-- If the types are too many, they are too many with more types after them.
pub too_many_more : (order : Endianness) (front rest : List BtfType) → AreTooMany order front → AreTooMany order (front ++ rest)
too_many_more order front rest (inl bytes) = inl (omega (arith, bytes, ap length (flat_map-append (record_bytes order) front rest), length-append (flat_map (record_bytes order) front) (flat_map (record_bytes order) rest)))
too_many_more order front rest (inr count) = inr (omega (arith, count, length-append front rest))

-- An error that is passed on.
pub passed_on : {T : Type 0} (result : Result T BtfError) (e : BtfError) (P : BtfError → Type 0) → IsErrAnd result (λ f. f ≡ e) → P e → IfErr result P
passed_on (Ok value) e P h p = tt
passed_on (Err f) e P h p = subst P (sym h) p

-- If neither of two faults occurs, their disjunction doesn't occur.
pub none_of_either : (one other : BtfError → Type 0) → IsFaultless one → IsFaultless other → IsFaultless (λ e. one e ⊎ other e)
none_of_either one other p q = record { none = λ e either. elim either [ inl h ↦ p.none e h | inr h ↦ q.none e h ] }
