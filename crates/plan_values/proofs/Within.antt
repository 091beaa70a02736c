-- The order of known registers, in which the meet of two is the greatest below both.
use Rattle.std.proofs.Common.{◌≡◌, ◌≢◌, ℕ, zero, suc, ◌+◌, ◌<◌, ◌≤◌, Bool, true, false, ◌&&◌, cond, [], ◌∷◌, ◌++◌, length, get_or, set, take, drop, replicate, ◌-◌, refl, sym, ap, ◌∙◌, subst, arith, eqb, eqb-true, eq-eqb, add-one}
use Rattle.std.proofs.lemmas.List.{length-drop}
use Rattle.plan_values.specs.declared.value.Value.{Value}
use Rattle.plan_values.specs.declared.value.Value.TheVariants as value
use Rattle.plan_values.specs.Values.{SaysNoMore, is_plain, plain_if, same_value, meet_values}
use Rattle.plan_values.specs.Knowledge.{Known, value_in, IsWithin, all_plain, forgotten, meet, is_same, unknowns}

-- Equal values.

pub and_left : (v w : Bool) → (v && w) ≡ true → v ≡ true
and_left true w e = refl
and_left false w e = e

pub and_right : (v w : Bool) → (v && w) ≡ true → w ≡ true
and_right true w e = e
and_right false w e = absurd (cc)

pub and_both : (v w : Bool) → v ≡ true → w ≡ true → (v && w) ≡ true
and_both true w e f = f
and_both false w e f = e

pub same_true : (a b : Value) → same_value a b ≡ true → a ≡ b
same_true value.Unknown value.Unknown e = refl
same_true value.Unknown value.Plain e = absurd (cc)
same_true value.Unknown (value.Number n) e = absurd (cc)
same_true value.Unknown value.Address e = absurd (cc)
same_true value.Unknown (value.Map n j) e = absurd (cc)
same_true value.Unknown (value.Context j) e = absurd (cc)
same_true value.Unknown (value.Frame j) e = absurd (cc)
same_true value.Unknown (value.Part n j l) e = absurd (cc)
same_true value.Plain value.Unknown e = absurd (cc)
same_true value.Plain value.Plain e = refl
same_true value.Plain (value.Number n) e = absurd (cc)
same_true value.Plain value.Address e = absurd (cc)
same_true value.Plain (value.Map n j) e = absurd (cc)
same_true value.Plain (value.Context j) e = absurd (cc)
same_true value.Plain (value.Frame j) e = absurd (cc)
same_true value.Plain (value.Part n j l) e = absurd (cc)
same_true (value.Number m) value.Unknown e = absurd (cc)
same_true (value.Number m) value.Plain e = absurd (cc)
same_true (value.Number m) (value.Number n) e = ap (λ (k : ℕ). value.Number k) (eqb-true m n e)
same_true (value.Number m) value.Address e = absurd (cc)
same_true (value.Number m) (value.Map n j) e = absurd (cc)
same_true (value.Number m) (value.Context j) e = absurd (cc)
same_true (value.Number m) (value.Frame j) e = absurd (cc)
same_true (value.Number m) (value.Part n j l) e = absurd (cc)
same_true value.Address value.Unknown e = absurd (cc)
same_true value.Address value.Plain e = absurd (cc)
same_true value.Address (value.Number n) e = absurd (cc)
same_true value.Address value.Address e = refl
same_true value.Address (value.Map n j) e = absurd (cc)
same_true value.Address (value.Context j) e = absurd (cc)
same_true value.Address (value.Frame j) e = absurd (cc)
same_true value.Address (value.Part n j l) e = absurd (cc)
same_true (value.Map m i) value.Unknown e = absurd (cc)
same_true (value.Map m i) value.Plain e = absurd (cc)
same_true (value.Map m i) (value.Number n) e = absurd (cc)
same_true (value.Map m i) value.Address e = absurd (cc)
same_true (value.Map m i) (value.Map n j) e =
    ap (λ (k : ℕ). value.Map k i) (eqb-true m n (and_left (eqb m n) (eqb i j) e))
    ∙ ap (λ (k : ℕ). value.Map n k) (eqb-true i j (and_right (eqb m n) (eqb i j) e))
same_true (value.Map m i) (value.Context j) e = absurd (cc)
same_true (value.Map m i) (value.Frame j) e = absurd (cc)
same_true (value.Map m i) (value.Part n j l) e = absurd (cc)
same_true (value.Context i) value.Unknown e = absurd (cc)
same_true (value.Context i) value.Plain e = absurd (cc)
same_true (value.Context i) (value.Number n) e = absurd (cc)
same_true (value.Context i) value.Address e = absurd (cc)
same_true (value.Context i) (value.Map n j) e = absurd (cc)
same_true (value.Context i) (value.Context j) e = ap (λ (k : ℕ). value.Context k) (eqb-true i j e)
same_true (value.Context i) (value.Frame j) e = absurd (cc)
same_true (value.Context i) (value.Part n j l) e = absurd (cc)
same_true (value.Frame i) value.Unknown e = absurd (cc)
same_true (value.Frame i) value.Plain e = absurd (cc)
same_true (value.Frame i) (value.Number n) e = absurd (cc)
same_true (value.Frame i) value.Address e = absurd (cc)
same_true (value.Frame i) (value.Map n j) e = absurd (cc)
same_true (value.Frame i) (value.Context j) e = absurd (cc)
same_true (value.Frame i) (value.Frame j) e = ap (λ (k : ℕ). value.Frame k) (eqb-true i j e)
same_true (value.Frame i) (value.Part n j l) e = absurd (cc)
same_true (value.Part m i k) value.Unknown e = absurd (cc)
same_true (value.Part m i k) value.Plain e = absurd (cc)
same_true (value.Part m i k) (value.Number n) e = absurd (cc)
same_true (value.Part m i k) value.Address e = absurd (cc)
same_true (value.Part m i k) (value.Map n j) e = absurd (cc)
same_true (value.Part m i k) (value.Context j) e = absurd (cc)
same_true (value.Part m i k) (value.Frame j) e = absurd (cc)
same_true (value.Part m i k) (value.Part n j l) e =
    let rest : (eqb i j && eqb k l) ≡ true = and_right (eqb m n) (eqb i j && eqb k l) e in
    ap (λ (x : ℕ). value.Part x i k) (eqb-true m n (and_left (eqb m n) (eqb i j && eqb k l) e))
    ∙ (ap (λ (x : ℕ). value.Part n x k) (eqb-true i j (and_left (eqb i j) (eqb k l) rest))
    ∙ ap (λ (x : ℕ). value.Part n j x) (eqb-true k l (and_right (eqb i j) (eqb k l) rest)))

pub same_self : (a : Value) → same_value a a ≡ true
same_self value.Unknown = refl
same_self value.Plain = refl
same_self value.Address = refl
same_self (value.Number n) = eq-eqb n n refl
same_self (value.Map n j) = and_both (eqb n n) (eqb j j) (eq-eqb n n refl) (eq-eqb j j refl)
same_self (value.Context j) = eq-eqb j j refl
same_self (value.Frame j) = eq-eqb j j refl
same_self (value.Part n j l) =
    and_both (eqb n n) (eqb j j && eqb l l) (eq-eqb n n refl) (and_both (eqb j j) (eqb l l) (eq-eqb j j refl) (eq-eqb l l refl))

pub is_same_self : (a : Known) → is_same a a ≡ true
is_same_self [] = refl
is_same_self (x ∷ xs) = and_both (same_value x x) (is_same xs xs) (same_self x) (is_same_self xs)

pub is_same_true : (a b : Known) → is_same a b ≡ true → a ≡ b
is_same_true [] [] e = refl
is_same_true [] (y ∷ ys) e = absurd (cc)
is_same_true (x ∷ xs) [] e = absurd (cc)
is_same_true (x ∷ xs) (y ∷ ys) e =
    ap (λ (v : Value). v ∷ xs) (same_true x y (and_left (same_value x y) (is_same xs ys) e))
    ∙ ap (λ (r : Known). y ∷ r) (is_same_true xs ys (and_right (same_value x y) (is_same xs ys) e))

pub is_same_false : (a b : Known) → is_same a b ≡ false → a ≢ b
is_same_false a b e = λ (p : a ≡ b).
    let t : is_same a b ≡ true = ap (λ (k : Known). is_same a k) (sym p) ∙ is_same_self a in
    absurd (cc)

-- The order is reflexive and transitive.

pub says_refl : (a : Value) → SaysNoMore a a
says_refl value.Unknown = tt
says_refl value.Plain = refl
says_refl (value.Number n) = refl
says_refl value.Address = refl
says_refl (value.Map n j) = refl
says_refl (value.Context j) = refl
says_refl (value.Frame j) = refl
says_refl (value.Part n j l) = refl

-- What says more than a plain value is plain.
pub plain_up : (b c : Value) → is_plain b ≡ true → SaysNoMore b c → is_plain c ≡ true
plain_up value.Unknown c e q = absurd (cc)
plain_up value.Plain c e q = q
plain_up (value.Number n) c e q = ap is_plain q
plain_up value.Address c e q = ap is_plain q
plain_up (value.Map n j) c e q = ap is_plain q
plain_up (value.Context j) c e q = ap is_plain q
plain_up (value.Frame j) c e q = absurd (cc)
plain_up (value.Part n j l) c e q = ap is_plain q

says_trans : (a b c : Value) → SaysNoMore a b → SaysNoMore b c → SaysNoMore a c
says_trans value.Unknown b c p q = tt
says_trans value.Plain b c p q = plain_up b c p q
says_trans (value.Number n) b c p q = subst (λ (o : Value). SaysNoMore o c) p q
says_trans value.Address b c p q = subst (λ (o : Value). SaysNoMore o c) p q
says_trans (value.Map n j) b c p q = subst (λ (o : Value). SaysNoMore o c) p q
says_trans (value.Context j) b c p q = subst (λ (o : Value). SaysNoMore o c) p q
says_trans (value.Frame j) b c p q = subst (λ (o : Value). SaysNoMore o c) p q
says_trans (value.Part n j l) b c p q = subst (λ (o : Value). SaysNoMore o c) p q

pub within_refl : (a : Known) → IsWithin a a
within_refl [] = tt
within_refl (x ∷ xs) = (says_refl x, within_refl xs)

pub within_trans : (a b c : Known) → IsWithin a b → IsWithin b c → IsWithin a c
within_trans [] [] c p q = q
within_trans [] (y ∷ ys) c p q = absurd p
within_trans (x ∷ xs) [] c p q = absurd p
within_trans (x ∷ xs) (y ∷ ys) [] p q = absurd q
within_trans (x ∷ xs) (y ∷ ys) (z ∷ zs) p q = (says_trans x y z p.0 q.0, within_trans xs ys zs p.1 q.1)

pub within_set : (a b : Known) (i : ℕ) (x y : Value) → IsWithin a b → SaysNoMore x y → IsWithin (set a i x) (set b i y)
within_set [] [] i x y p q = tt
within_set [] (t ∷ ts) i x y p q = absurd p
within_set (s ∷ ss) [] i x y p q = absurd p
within_set (s ∷ ss) (t ∷ ts) zero x y p q = (q, p.1)
within_set (s ∷ ss) (t ∷ ts) (suc i) x y p q = (p.0, within_set ss ts i x y p.1 q)

pub within_drop : (a b : Known) (n : ℕ) → IsWithin a b → IsWithin (drop n a) (drop n b)
within_drop a b zero p = p
within_drop [] [] (suc n) p = tt
within_drop [] (t ∷ ts) (suc n) p = absurd p
within_drop (s ∷ ss) [] (suc n) p = absurd p
within_drop (s ∷ ss) (t ∷ ts) (suc n) p = within_drop ss ts n p.1

pub within_take : (a b : Known) (n : ℕ) → IsWithin a b → IsWithin (take n a) (take n b)
within_take a b zero p = tt
within_take [] [] (suc n) p = tt
within_take [] (t ∷ ts) (suc n) p = absurd p
within_take (s ∷ ss) [] (suc n) p = absurd p
within_take (s ∷ ss) (t ∷ ts) (suc n) p = (p.0, within_take ss ts n p.1)

pub within_append : (a b c d : Known) → IsWithin a b → IsWithin c d → IsWithin (a ++ c) (b ++ d)
within_append [] [] c d p q = q
within_append [] (t ∷ ts) c d p q = absurd p
within_append (s ∷ ss) [] c d p q = absurd p
within_append (s ∷ ss) (t ∷ ts) c d p q = (p.0, within_append ss ts c d p.1 q)

pub within_value : (a b : Known) (r : ℕ) → IsWithin a b → SaysNoMore (value_in a r) (value_in b r)
within_value [] [] r p = tt
within_value [] (t ∷ ts) r p = absurd p
within_value (s ∷ ss) [] r p = absurd p
within_value (s ∷ ss) (t ∷ ts) zero p = p.0
within_value (s ∷ ss) (t ∷ ts) (suc r) p = within_value ss ts r p.1

-- The meet of two values is the greatest below both.

pub plain_says : (v : Bool) (a : Value) → (v ≡ true → is_plain a ≡ true) → SaysNoMore (plain_if v) a
plain_says true a f = f refl
plain_says false a f = tt

meet_left_at : (a b : Value) (v : Bool) → SaysNoMore (cond v a (plain_if (is_plain a && is_plain b))) a
meet_left_at a b true = says_refl a
meet_left_at a b false = plain_says (is_plain a && is_plain b) a (λ e. and_left (is_plain a) (is_plain b) e)

meet_right_at : (a b : Value) (v : Bool) → same_value a b ≡ v → SaysNoMore (cond v a (plain_if (is_plain a && is_plain b))) b
meet_right_at a b true e = subst (λ (o : Value). SaysNoMore a o) (same_true a b e) (says_refl a)
meet_right_at a b false e = plain_says (is_plain a && is_plain b) b (λ f. and_right (is_plain a) (is_plain b) f)

meet_self : (a : Value) → meet_values a a ≡ a
meet_self a = ap (λ (v : Bool). cond v a (plain_if (is_plain a && is_plain a))) (same_self a)

meet_both : (a b c : Value) → a ≡ c → b ≡ c → meet_values a b ≡ c
meet_both a b c p q =
    ap (λ (o : Value). meet_values o b) p ∙ (ap (λ (o : Value). meet_values c o) q ∙ meet_self c)

meet_plain : (a b : Value) (v : Bool) → is_plain a ≡ true → is_plain b ≡ true → is_plain (cond v a (plain_if (is_plain a && is_plain b))) ≡ true
meet_plain a b true p q = p
meet_plain a b false p q = ap (λ (w : Bool). is_plain (plain_if w)) (and_both (is_plain a) (is_plain b) p q)

meet_most : (c a b : Value) → SaysNoMore c a → SaysNoMore c b → SaysNoMore c (meet_values a b)
meet_most value.Unknown a b p q = tt
meet_most value.Plain a b p q = meet_plain a b (same_value a b) p q
meet_most (value.Number n) a b p q = meet_both a b (value.Number n) p q
meet_most value.Address a b p q = meet_both a b value.Address p q
meet_most (value.Map n j) a b p q = meet_both a b (value.Map n j) p q
meet_most (value.Context j) a b p q = meet_both a b (value.Context j) p q
meet_most (value.Frame j) a b p q = meet_both a b (value.Frame j) p q
meet_most (value.Part n j l) a b p q = meet_both a b (value.Part n j l) p q

tail_length : (x y : Value) (xs ys : Known) → length (x ∷ xs) ≡ length (y ∷ ys) → length xs ≡ length ys
tail_length x y xs ys e = omega arith

pub meet_left : (a b : Known) → length a ≡ length b → IsWithin (meet a b) a
meet_left [] b e = tt
meet_left (x ∷ xs) [] e = absurd (omega arith)
meet_left (x ∷ xs) (y ∷ ys) e = (meet_left_at x y (same_value x y), meet_left xs ys (tail_length x y xs ys e))

pub meet_right : (a b : Known) → length a ≡ length b → IsWithin (meet a b) b
meet_right [] [] e = tt
meet_right [] (y ∷ ys) e = absurd (omega arith)
meet_right (x ∷ xs) [] e = absurd (omega arith)
meet_right (x ∷ xs) (y ∷ ys) e = (meet_right_at x y (same_value x y) refl, meet_right xs ys (tail_length x y xs ys e))

pub meet_greatest : (c a b : Known) → IsWithin c a → IsWithin c b → IsWithin c (meet a b)
meet_greatest [] [] b p q = tt
meet_greatest [] (x ∷ xs) b p q = absurd p
meet_greatest (z ∷ zs) [] b p q = absurd p
meet_greatest (z ∷ zs) (x ∷ xs) [] p q = absurd q
meet_greatest (z ∷ zs) (x ∷ xs) (y ∷ ys) p q = (meet_most z x y p.0 q.0, meet_greatest zs xs ys p.1 q.1)

-- The meet of one more register.

pub meet_next : (a b : Known) (i : ℕ) → i < length a → length a ≡ length b → set (meet (take i a) b ++ drop i a) i (meet_values (get_or (meet (take i a) b ++ drop i a) i value.Unknown) (get_or b i value.Unknown)) ≡ meet (take (suc i) a) b ++ drop (suc i) a
meet_next [] b i h e = absurd (omega arith)
meet_next (x ∷ xs) [] i h e = absurd (omega arith)
meet_next (x ∷ xs) (y ∷ ys) zero h e = refl
meet_next (x ∷ xs) (y ∷ ys) (suc i) h e = ap (λ (r : Known). meet_values x y ∷ r) (meet_next xs ys i (omega arith) (tail_length x y xs ys e))

pub meet_step : (a b m : Known) (i : ℕ) (x : Value) → m ≡ meet (take i a) b ++ drop i a → i < 32 → length a ≡ 32 → length b ≡ 32 → x ≡ meet_values (get_or m i value.Unknown) (get_or b i value.Unknown) → set m i x ≡ meet (take (i + 1) a) b ++ drop (i + 1) a
meet_step a b m i x e h p q f =
    ap (λ (o : Value). set m i o) f
    ∙ (ap (λ (r : Known). set r i (meet_values (get_or r i value.Unknown) (get_or b i value.Unknown))) e
    ∙ (meet_next a b i (omega arith) (p ∙ sym q) ∙ ap (λ (k : ℕ). meet (take k a) b ++ drop k a) (sym (add-one i))))

-- The registers alone are copied.

copied_next : (a : Known) (i n : ℕ) (d : Value) → i < length a → set (take i a ++ replicate (suc n) value.Unknown) i (get_or a i d) ≡ take (suc i) a ++ replicate n value.Unknown
copied_next [] i n d h = absurd (omega arith)
copied_next (x ∷ xs) zero n d h = refl
copied_next (x ∷ xs) (suc i) n d h = ap (λ (r : Known). x ∷ r) (copied_next xs i n d (omega arith))

pub copy_step : (a m : Known) (i : ℕ) (x d : Value) → m ≡ take i a ++ replicate (32 - i) value.Unknown → i < 16 → length a ≡ 32 → x ≡ get_or a i d → set m i x ≡ take (i + 1) a ++ replicate (32 - (i + 1)) value.Unknown
copy_step a m i x d e h l f =
    let more : 32 - i ≡ suc (32 - (i + 1)) = omega arith in
    ap (λ (o : Value). set m i o) f
    ∙ (ap (λ (r : Known). set r i (get_or a i d)) (e ∙ ap (λ (n : ℕ). take i a ++ replicate n value.Unknown) more)
    ∙ (copied_next a i (32 - (i + 1)) d (omega (arith, l)) ∙ ap (λ (k : ℕ). take k a ++ replicate (32 - (i + 1)) value.Unknown) (sym (add-one i))))

pub unknowns_are : (a : Known) (n : ℕ) → length a ≡ n → unknowns a ≡ replicate n value.Unknown
unknowns_are [] zero l = refl
unknowns_are [] (suc n) l = absurd (omega arith)
unknowns_are (x ∷ xs) zero l = absurd (omega arith)
unknowns_are (x ∷ xs) (suc n) l = ap (λ (r : Known). value.Unknown ∷ r) (unknowns_are xs n (omega arith))

pub copied_all : (a m : Known) (i : ℕ) → m ≡ take i a ++ replicate (32 - i) value.Unknown → i ≡ 16 → length a ≡ 32 → m ≡ forgotten a
copied_all a m i e f l =
    let size : length (drop 16 a) ≡ 16 = length-drop 16 a ∙ omega (arith, l) in
    e ∙ (ap (λ (k : ℕ). take k a ++ replicate (32 - k) value.Unknown) f
    ∙ ap (λ (r : Known). take 16 a ++ r) (sym (unknowns_are (drop 16 a) 16 size)))

-- Less is known of a forgotten frame.

unknowns_less : (a b : Known) → IsWithin a b → IsWithin (unknowns a) b
unknowns_less [] [] p = tt
unknowns_less [] (t ∷ ts) p = absurd p
unknowns_less (s ∷ ss) [] p = absurd p
unknowns_less (s ∷ ss) (t ∷ ts) p = (tt, unknowns_less ss ts p.1)

unknowns_within : (a b : Known) → IsWithin a b → IsWithin (unknowns a) (unknowns b)
unknowns_within [] [] p = tt
unknowns_within [] (t ∷ ts) p = absurd p
unknowns_within (s ∷ ss) [] p = absurd p
unknowns_within (s ∷ ss) (t ∷ ts) p = (tt, unknowns_within ss ts p.1)

unknowns_set : (a b : Known) (k : ℕ) (v : Value) → IsWithin a b → IsWithin (unknowns a) (set b k v)
unknowns_set [] [] k v p = tt
unknowns_set [] (t ∷ ts) k v p = absurd p
unknowns_set (s ∷ ss) [] k v p = absurd p
unknowns_set (s ∷ ss) (t ∷ ts) zero v p = (tt, unknowns_less ss ts p.1)
unknowns_set (s ∷ ss) (t ∷ ts) (suc k) v p = (tt, unknowns_set ss ts k v p.1)

less_from : (a b : Known) (n : ℕ) → IsWithin a b → IsWithin (take n a ++ unknowns (drop n a)) b
less_from a b zero p = unknowns_less a b p
less_from [] [] (suc n) p = tt
less_from [] (t ∷ ts) (suc n) p = absurd p
less_from (s ∷ ss) [] (suc n) p = absurd p
less_from (s ∷ ss) (t ∷ ts) (suc n) p = (p.0, less_from ss ts n p.1)

set_from : (a b : Known) (n k : ℕ) (v : Value) → n ≤ k → IsWithin a b → IsWithin (take n a ++ unknowns (drop n a)) (set b k v)
set_from a b zero k v h p = unknowns_set a b k v p
set_from [] [] (suc n) k v h p = tt
set_from [] (t ∷ ts) (suc n) k v h p = absurd p
set_from (s ∷ ss) [] (suc n) k v h p = absurd p
set_from (s ∷ ss) (t ∷ ts) (suc n) zero v h p = absurd (omega arith)
set_from (s ∷ ss) (t ∷ ts) (suc n) (suc k) v h p = (p.0, set_from ss ts n k v (omega arith) p.1)

pub forgotten_less : (a b : Known) → IsWithin a b → IsWithin (forgotten a) b
forgotten_less a b p = less_from a b 16 p

pub forgotten_set : (a b : Known) (k : ℕ) (v : Value) → 16 ≤ k → IsWithin a b → IsWithin (forgotten a) (set b k v)
forgotten_set a b k v h p = set_from a b 16 k v h p

pub forgotten_within : (a b : Known) → IsWithin a b → IsWithin (forgotten a) (forgotten b)
forgotten_within a b p = within_append _ _ _ _ (within_take a b 16 p) (unknowns_within (drop 16 a) (drop 16 b) (within_drop a b 16 p))

pub all_plain_up : (a b : Known) → IsWithin a b → all_plain a ≡ true → all_plain b ≡ true
all_plain_up [] [] p e = refl
all_plain_up [] (t ∷ ts) p e = absurd p
all_plain_up (s ∷ ss) [] p e = absurd p
all_plain_up (s ∷ ss) (t ∷ ts) p e =
    and_both (is_plain t) (all_plain ts) (plain_up s t (and_left (is_plain s) (all_plain ss) e) p.0) (all_plain_up ss ts p.1 (and_right (is_plain s) (all_plain ss) e))
