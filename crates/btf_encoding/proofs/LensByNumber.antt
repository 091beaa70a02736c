-- The lengths of records by the numbers of their kinds.
use Rattle.std.proofs.Common.{◌≡◌, ℕ, zero, suc, ◌+◌, ◌*◌, ◌<◌, List, [], ◌∷◌, refl, arith}
use Rattle.std.specs.Prelude.{slice_index}
use Rattle.btf_records.specs.Kinds.{kind_of}
use Rattle.btf_encoding.specs.Records.{len_after}

abbrev fixed : List ℕ
fixed = 12 ∷ 16 ∷ 12 ∷ 24 ∷ 12 ∷ 12 ∷ 12 ∷ 12 ∷ 12 ∷ 12 ∷ 12 ∷ 12 ∷ 12 ∷ 12 ∷ 16 ∷ 12 ∷ 12 ∷ 16 ∷ 12 ∷ 12 ∷ []

abbrev item : List ℕ
item = 0 ∷ 0 ∷ 0 ∷ 0 ∷ 12 ∷ 12 ∷ 8 ∷ 0 ∷ 0 ∷ 0 ∷ 0 ∷ 0 ∷ 0 ∷ 8 ∷ 0 ∷ 12 ∷ 0 ∷ 0 ∷ 0 ∷ 12 ∷ []

pub len_by_number : (n count : ℕ) → n < 20 → slice_index fixed n + slice_index item n * count ≡ 12 + len_after (kind_of n) count
unfolding kind_of
len_by_number zero count known = omega arith
len_by_number (suc zero) count known = omega arith
len_by_number (suc (suc zero)) count known = omega arith
len_by_number (suc (suc (suc zero))) count known = omega arith
len_by_number (suc (suc (suc (suc zero)))) count known = refl
len_by_number (suc (suc (suc (suc (suc zero))))) count known = refl
len_by_number (suc (suc (suc (suc (suc (suc zero)))))) count known = refl
len_by_number (suc (suc (suc (suc (suc (suc (suc zero))))))) count known = omega arith
len_by_number (suc (suc (suc (suc (suc (suc (suc (suc zero)))))))) count known = omega arith
len_by_number (suc (suc (suc (suc (suc (suc (suc (suc (suc zero))))))))) count known = omega arith
len_by_number (suc (suc (suc (suc (suc (suc (suc (suc (suc (suc zero)))))))))) count known = omega arith
len_by_number (suc (suc (suc (suc (suc (suc (suc (suc (suc (suc (suc zero))))))))))) count known = omega arith
len_by_number (suc (suc (suc (suc (suc (suc (suc (suc (suc (suc (suc (suc zero)))))))))))) count known = omega arith
len_by_number (suc (suc (suc (suc (suc (suc (suc (suc (suc (suc (suc (suc (suc zero))))))))))))) count known = refl
len_by_number (suc (suc (suc (suc (suc (suc (suc (suc (suc (suc (suc (suc (suc (suc zero)))))))))))))) count known = omega arith
len_by_number (suc (suc (suc (suc (suc (suc (suc (suc (suc (suc (suc (suc (suc (suc (suc zero))))))))))))))) count known = refl
len_by_number (suc (suc (suc (suc (suc (suc (suc (suc (suc (suc (suc (suc (suc (suc (suc (suc zero)))))))))))))))) count known = omega arith
len_by_number (suc (suc (suc (suc (suc (suc (suc (suc (suc (suc (suc (suc (suc (suc (suc (suc (suc zero))))))))))))))))) count known = omega arith
len_by_number (suc (suc (suc (suc (suc (suc (suc (suc (suc (suc (suc (suc (suc (suc (suc (suc (suc (suc zero)))))))))))))))))) count known = omega arith
len_by_number (suc (suc (suc (suc (suc (suc (suc (suc (suc (suc (suc (suc (suc (suc (suc (suc (suc (suc (suc zero))))))))))))))))))) count known = refl
len_by_number (suc (suc (suc (suc (suc (suc (suc (suc (suc (suc (suc (suc (suc (suc (suc (suc (suc (suc (suc (suc n)))))))))))))))))))) count known = absurd (omega (arith, known))
