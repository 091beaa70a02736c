-- Records written one after the other.
use Rattle.std.proofs.Common.{◌≡◌, ℕ, zero, suc, ◌+◌, List, [], ◌∷◌, ◌++◌, drop, None, Some, refl, sym, ap, ◌∙◌, arith, append-nil, append_assoc, slice_get}
use Rattle.std.specs.List.{flat_map}
use Rattle.std.proofs.lemmas.Grind.{flat_map-append}
use Rattle.btf_records.specs.Words.{word_bytes, words_bytes}
use Rattle.btf_records.specs.declared.words.Endianness.TheVariants.{Little}

pub left_some : {X : Type 0} (xs : List X) (i : ℕ) (x : X) → slice_get xs i ≡ Some x → drop i xs ≡ x ∷ drop (i + 1) xs
left_some [] i x e = absurd cc
left_some (y ∷ ys) zero x e = cc
left_some {X} (y ∷ ys) (suc i) x e =
    let same : suc i + 1 ≡ suc (i + 1) = omega arith in
    rw same (left_some ys i x e)

pub left_none : {X : Type 0} (xs : List X) (i : ℕ) → slice_get xs i ≡ None → drop i xs ≡ []
left_none [] zero e = refl
left_none [] (suc i) e = refl
left_none (y ∷ ys) zero e = absurd cc
left_none (y ∷ ys) (suc i) e = left_none ys i e

-- The written bytes, followed by the bytes of the remaining records, are the bytes of all records.
pub record AreWritten {R : Type 0} (words : R → List ℕ) (records : List R) (index : ℕ) (out : List ℕ) : Type 0 where
  pub all : out ++ words_bytes Little (flat_map words (drop index records)) ≡ words_bytes Little (flat_map words records)

pub none_written : {R : Type 0} (words : R → List ℕ) (records : List R) → AreWritten words records 0 []
none_written words records = record { all = refl }

pub one_more_written : {R : Type 0} (words : R → List ℕ) (records : List R) (index : ℕ) (out : List ℕ) (r : R) → AreWritten words records index out → slice_get records index ≡ Some r → AreWritten words records (index + 1) (out ++ words_bytes Little (words r))
one_more_written {R} words records index out r are some =
    let rest = drop (index + 1) records in
    let apart : words_bytes Little (flat_map words (drop index records)) ≡ words_bytes Little (words r) ++ words_bytes Little (flat_map words rest) =
    ap (λ (xs : List R). words_bytes Little (flat_map words xs)) (left_some records index r some) ∙ flat_map-append (word_bytes Little) (words r) (flat_map words rest)
    in
    record { all = append_assoc out (words_bytes Little (words r)) (words_bytes Little (flat_map words rest)) ∙ (ap (λ (xs : List ℕ). out ++ xs) (sym apart) ∙ are.all) }

pub all_written : {R : Type 0} (words : R → List ℕ) (records : List R) (index : ℕ) (out : List ℕ) → AreWritten words records index out → slice_get records index ≡ None → out ≡ words_bytes Little (flat_map words records)
all_written {R} words records index out are none =
    let end : out ++ words_bytes Little (flat_map words (drop index records)) ≡ out = ap (λ (xs : List R). out ++ words_bytes Little (flat_map words xs)) (left_none records index none) ∙ append-nil out in
    sym end ∙ are.all
