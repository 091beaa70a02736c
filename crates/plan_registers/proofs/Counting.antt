-- How much is known grows with the order of known registers.
use Rattle.std.proofs.Common.{◌≡◌, ◌+◌, ◌*◌, ◌≤◌, true, [], ◌∷◌, length, refl, sym, ap, ◌∙◌, arith}
use Rattle.std.proofs.lemmas.List.Sums.{sum_by-cons}
use Rattle.plan_values.specs.declared.value.Value.{Value}
use Rattle.plan_values.specs.declared.value.Value.TheVariants as value
use Rattle.plan_values.specs.Values.{SaysNoMore, is_plain, weight}
use Rattle.plan_values.specs.Knowledge.{Known, IsWithin}
use Rattle.plan_registers.specs.Work.{count}

count_cons : (x : Value) (xs : Known) → count (x ∷ xs) ≡ weight x + count xs
count_cons x xs = sum_by-cons weight x xs

as_one : (x a : Value) → a ≡ x → weight x ≤ weight a
as_one x a p = let e : weight a ≡ weight x = ap weight p in omega (arith, e)

plain_weight : (a : Value) → is_plain a ≡ true → 1 ≤ weight a
plain_weight value.Unknown p = absurd (cc)
plain_weight value.Plain p = omega arith
plain_weight (value.Number n) p = omega arith
plain_weight value.Address p = omega arith
plain_weight (value.Map n j) p = omega arith
plain_weight (value.Context j) p = omega arith
plain_weight (value.Frame j) p = absurd (cc)
plain_weight (value.Part n j l) p = omega arith

weight_most : (a : Value) → weight a ≤ 2
weight_most value.Unknown = omega arith
weight_most value.Plain = omega arith
weight_most (value.Number n) = omega arith
weight_most value.Address = omega arith
weight_most (value.Map n j) = omega arith
weight_most (value.Context j) = omega arith
weight_most (value.Frame j) = omega arith
weight_most (value.Part n j l) = omega arith

one_less : (x a : Value) → SaysNoMore x a → weight x ≤ weight a
one_less value.Unknown a p = omega arith
one_less value.Plain a p = plain_weight a p
one_less (value.Number n) a p = as_one (value.Number n) a p
one_less value.Address a p = as_one value.Address a p
one_less (value.Map n j) a p = as_one (value.Map n j) a p
one_less (value.Context j) a p = as_one (value.Context j) a p
one_less (value.Frame j) a p = as_one (value.Frame j) a p
one_less (value.Part n j l) a p = as_one (value.Part n j l) a p

unknown_too : (a : Value) → 0 ≡ weight a → value.Unknown ≡ a
unknown_too value.Unknown e = refl
unknown_too value.Plain e = absurd (omega arith)
unknown_too (value.Number n) e = absurd (omega arith)
unknown_too value.Address e = absurd (omega arith)
unknown_too (value.Map n j) e = absurd (omega arith)
unknown_too (value.Context j) e = absurd (omega arith)
unknown_too (value.Frame j) e = absurd (omega arith)
unknown_too (value.Part n j l) e = absurd (omega arith)

plain_too : (a : Value) → is_plain a ≡ true → 1 ≡ weight a → value.Plain ≡ a
plain_too value.Unknown p e = absurd (cc)
plain_too value.Plain p e = refl
plain_too (value.Number n) p e = absurd (omega arith)
plain_too value.Address p e = absurd (omega arith)
plain_too (value.Map n j) p e = absurd (omega arith)
plain_too (value.Context j) p e = absurd (omega arith)
plain_too (value.Frame j) p e = absurd (omega arith)
plain_too (value.Part n j l) p e = absurd (omega arith)

one_same : (x a : Value) → SaysNoMore x a → weight x ≡ weight a → x ≡ a
one_same value.Unknown a p e = unknown_too a e
one_same value.Plain a p e = plain_too a p e
one_same (value.Number n) a p e = sym p
one_same value.Address a p e = sym p
one_same (value.Map n j) a p e = sym p
one_same (value.Context j) a p e = sym p
one_same (value.Frame j) a p e = sym p
one_same (value.Part n j l) a p e = sym p

pub count_most : (a : Known) → count a ≤ 2 * length a
count_most [] = omega arith
count_most (x ∷ xs) = omega (arith, count_cons x xs, weight_most x, count_most xs)

pub count_le : (a b : Known) → IsWithin a b → count a ≤ count b
count_le [] [] p = omega arith
count_le [] (y ∷ ys) p = absurd p
count_le (x ∷ xs) [] p = absurd p
count_le (x ∷ xs) (y ∷ ys) p = omega (arith, count_cons x xs, count_cons y ys, one_less x y p.0, count_le xs ys p.1)

pub count_same : (a b : Known) → IsWithin a b → count a ≡ count b → a ≡ b
count_same [] [] p e = refl
count_same [] (y ∷ ys) p e = absurd p
count_same (x ∷ xs) [] p e = absurd p
count_same (x ∷ xs) (y ∷ ys) p e =
    let l : weight x ≤ weight y = one_less x y p.0 in
    let t : count xs ≤ count ys = count_le xs ys p.1 in
    let f : weight x ≡ weight y = omega (arith, count_cons x xs, count_cons y ys) in
    let g : count xs ≡ count ys = omega (arith, count_cons x xs, count_cons y ys) in
    ap (λ (o : Value). o ∷ xs) (one_same x y p.0 f) ∙ ap (λ (r : Known). y ∷ r) (count_same xs ys p.1 g)
