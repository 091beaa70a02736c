-- The positions of the copies in the linked slots.
use Rattle.std.proofs.Common.{◌≡◌, ℕ, zero, suc, ◌+◌, ◌-◌, ◌<◌, ◌≤◌, Bool, true, false, cond, List, [], ◌∷◌, ◌++◌, length, Option, Some, None, refl, sym, ap, ◌∙◌, inl, inr, arith, ltb, length-append}
use Rattle.std.specs.Prelude.{slice_get, is_some}
use Rattle.std.proofs.lemmas.Bool.Decides.{nat_tests}
use Rattle.ebpf_items.specs.declared.instruction.bpf_insn.{bpf_insn}
use Rattle.linker.specs.Copies.{IsCopy}
use Rattle.linker.specs.Layout.{Key, same, Table, ref_at, has, end_of, start_of, placed, copy_of, copies_of}
use Rattle.linker.proofs.SameKey.{same_true}
use Rattle.linker.specs.Machines.{Place, source_place}

pub copy_end : (t : Table) (own : Key) (ks : List Key) (k : Key) (b : ℕ) → IsCopy t own ks k b → b + length (t.slots k) ≤ end_of t own ks
copy_end t own [] k b h =
    let e : length (t.slots k) ≡ length (t.slots own) = ap (λ x. length (t.slots x)) h.0 in omega arith
copy_end t own (c ∷ ks) k b (inl h) =
    let e : length (t.slots k) ≡ length (t.slots c) = ap (λ x. length (t.slots x)) h.0 in omega arith
copy_end t own (c ∷ ks) k b (inr h) = omega (arith, copy_end t own ks k b h)

start_copy_at : (t : Table) (own : Key) (ks : List Key) (c k : Key) (b : ℕ) (v : Bool) → same c k ≡ v → cond v (Some (end_of t own ks)) (start_of t own ks k) ≡ Some b → (start_of t own ks k ≡ Some b → IsCopy t own ks k b) → IsCopy t own (c ∷ ks) k b
start_copy_at t own ks c k b true e h ih = let q : end_of t own ks ≡ b = cc in inl (sym (same_true c k e), sym q)
start_copy_at t own ks c k b false e h ih = inr (ih h)

pub start_copy : (t : Table) (own : Key) (ks : List Key) (k : Key) (b : ℕ) → start_of t own ks k ≡ Some b → IsCopy t own ks k b
start_copy t own [] k b h = cc
start_copy t own (c ∷ ks) k b h = start_copy_at t own ks c k b (same c k) refl h (start_copy t own ks k b)

has_start_at : (t : Table) (own : Key) (ks : List Key) (c k : Key) (v : Bool) → cond v true (has ks k) ≡ true → (has ks k ≡ true → (b : ℕ) × (start_of t own ks k ≡ Some b)) → (b : ℕ) × (cond v (Some (end_of t own ks)) (start_of t own ks k) ≡ Some b)
has_start_at t own ks c k true h ih = (end_of t own ks, refl)
has_start_at t own ks c k false h ih = ih h

pub has_start : (t : Table) (own : Key) (ks : List Key) (k : Key) → has ks k ≡ true → (b : ℕ) × (start_of t own ks k ≡ Some b)
has_start t own [] k h = absurd (cc)
has_start t own (c ∷ ks) k h = has_start_at t own ks c k (same c k) h (has_start t own ks k)

-- The slots of one copy.
pub copy_length : (t : Table) (own : Key) (all : List Key) (k : Key) (b i : ℕ) (ss : List bpf_insn) → length (copy_of t own all k b i ss) ≡ length ss
copy_length t own all k b i [] = refl
copy_length t own all k b i (s ∷ ss) = ap suc (copy_length t own all k b (i + 1) ss)

copy_get : (t : Table) (own : Key) (all : List Key) (k : Key) (b i : ℕ) (ss : List bpf_insn) (j : ℕ) (s : bpf_insn) → slice_get ss j ≡ Some s → slice_get (copy_of t own all k b i ss) j ≡ Some (placed t own all (ref_at t k (i + j)) (b + (i + j)) s)
copy_get t own all k b i [] j s h = cc
copy_get t own all k b i (x ∷ ss) zero s h =
    let q : x ≡ s = cc in
    let z : i ≡ i + 0 = omega arith in
    ap (λ y. Some (placed t own all (ref_at t k i) (b + i) y)) q ∙ ap (λ n. Some (placed t own all (ref_at t k n) (b + n) s)) z
copy_get t own all k b i (x ∷ ss) (suc j) s h =
    let z : i + 1 + j ≡ i + suc j = omega arith in
    copy_get t own all k b (i + 1) ss j s h ∙ ap (λ n. Some (placed t own all (ref_at t k n) (b + n) s)) z

pub copies_length : (t : Table) (own : Key) (all ks : List Key) → length (copies_of t own all ks) ≡ end_of t own ks
copies_length t own all [] = copy_length t own all own 0 0 (t.slots own)
copies_length t own all (k ∷ ks) =
    length-append (copies_of t own all ks) (copy_of t own all k (end_of t own ks) 0 (t.slots k))
    ∙ ap (λ n. n + length (copy_of t own all k (end_of t own ks) 0 (t.slots k))) (copies_length t own all ks)
    ∙ ap (λ n. end_of t own ks + n) (copy_length t own all k (end_of t own ks) 0 (t.slots k))

get_front : (xs ys : List bpf_insn) (i : ℕ) (s : bpf_insn) → slice_get xs i ≡ Some s → slice_get (xs ++ ys) i ≡ Some s
get_front [] ys i s h = cc
get_front (x ∷ xs) ys zero s h = h
get_front (x ∷ xs) ys (suc i) s h = get_front xs ys i s h

get_back : (xs ys : List bpf_insn) (i : ℕ) → slice_get (xs ++ ys) (length xs + i) ≡ slice_get ys i
get_back [] ys i = let e : 0 + i ≡ i = omega arith in ap (slice_get ys) e
get_back (x ∷ xs) ys i =
    let e : length (x ∷ xs) + i ≡ suc (length xs + i) = omega arith in
    ap (slice_get (x ∷ (xs ++ ys))) e ∙ get_back xs ys i

pub fetch : (t : Table) (own : Key) (all ks : List Key) (k : Key) (b j : ℕ) (s : bpf_insn) → IsCopy t own ks k b → slice_get (t.slots k) j ≡ Some s → slice_get (copies_of t own all ks) (b + j) ≡ Some (placed t own all (ref_at t k j) (b + j) s)
fetch t own all [] k b j s c h =
    let e : slice_get (t.slots own) j ≡ Some s = ap (λ x. slice_get (t.slots x) j) (sym c.0) ∙ h in
    let g = copy_get t own all own 0 0 (t.slots own) j s e in
    let z : 0 + j ≡ b + j = omega arith in
    let z' : 0 + (0 + j) ≡ b + j = omega arith in
    let n : 0 + j ≡ j = omega arith in
    ap (slice_get (copy_of t own all own 0 0 (t.slots own))) (sym z ∙ n)
    ∙ g
    ∙ ap (λ m. Some (placed t own all (ref_at t own m) (0 + m) s)) n
    ∙ ap (λ m. Some (placed t own all (ref_at t own j) m s)) z
    ∙ ap (λ x. Some (placed t own all (ref_at t x j) (b + j) s)) (sym c.0)
fetch t own all (x ∷ ks) k b j s (inl c) h =
    let base = end_of t own ks in
    let e : slice_get (t.slots x) j ≡ Some s = ap (λ y. slice_get (t.slots y) j) (sym c.0) ∙ h in
    let g = copy_get t own all x base 0 (t.slots x) j s e in
    let at : b + j ≡ length (copies_of t own all ks) + j = omega (arith, copies_length t own all ks, c.1) in
    let n : 0 + j ≡ j = omega arith in
    ap (slice_get (copies_of t own all (x ∷ ks))) at
    ∙ get_back (copies_of t own all ks) (copy_of t own all x base 0 (t.slots x)) j
    ∙ g
    ∙ ap (λ m. Some (placed t own all (ref_at t x m) (base + m) s)) n
    ∙ ap (λ m. Some (placed t own all (ref_at t x j) (m + j) s)) (sym c.1)
    ∙ ap (λ y. Some (placed t own all (ref_at t y j) (b + j) s)) (sym c.0)
fetch t own all (x ∷ ks) k b j s (inr c) h =
    get_front (copies_of t own all ks) (copy_of t own all x (end_of t own ks) 0 (t.slots x)) (b + j) _ (fetch t own all ks k b j s c h)

made : (a b : Key) (m n : ℕ) → a ≡ b → m ≡ n → ◌≡◌ {A = Option Place} (Some (record { key = a; number = m })) (Some (record { key = b; number = n }))
made a b m n e h =
    let f : Key → ℕ → Option Place = λ x y. Some (record { key = x; number = y }) in
    ap (λ x. f x m) e ∙ ap (λ y. f b y) h

pub place : (t : Table) (own : Key) (ks : List Key) (k : Key) (b j : ℕ) → IsCopy t own ks k b → j < length (t.slots k) → source_place t own ks (b + j) ≡ Some (record { key = k; number = j })
place t own [] k b j c h =
    let e : length (t.slots k) ≡ length (t.slots own) = ap (λ x. length (t.slots x)) c.0 in
    let lt : ltb (b + j) (length (t.slots own)) ≡ true = grind (arith, nat_tests) in
    let n : b + j ≡ j = omega arith in
    ap (λ v. cond v (Some (record { key = own; number = b + j })) None) lt ∙ made own k (b + j) j (sym c.0) n
place t own (x ∷ ks) k b j (inl c) h =
    let e : length (t.slots k) ≡ length (t.slots x) = ap (λ y. length (t.slots y)) c.0 in
    let le : end_of t own ks ≤ b + j = omega (arith, c.1) in
    let lt : b + j < end_of t own ks + length (t.slots x) = omega (arith, c.1) in
    let no : ltb (b + j) (end_of t own ks) ≡ false = grind (arith, nat_tests) in
    let yes : ltb (b + j) (end_of t own ks + length (t.slots x)) ≡ true = grind (arith, nat_tests) in
    let n : b + j - end_of t own ks ≡ j = omega (arith, c.1) in
    ap (λ v. cond v (source_place t own ks (b + j)) (cond (ltb (b + j) (end_of t own (x ∷ ks))) (Some (record { key = x; number = b + j - end_of t own ks })) None)) no
    ∙ ap (λ v. cond v (Some (record { key = x; number = b + j - end_of t own ks })) None) yes
    ∙ made x k (b + j - end_of t own ks) j (sym c.0) n
place t own (x ∷ ks) k b j (inr c) h =
    let le = copy_end t own ks k b c in
    let yes : ltb (b + j) (end_of t own ks) ≡ true = grind (arith, nat_tests) in
    ap (λ v. cond v (source_place t own ks (b + j)) (cond (ltb (b + j) (end_of t own (x ∷ ks))) (Some (record { key = x; number = b + j - end_of t own ks })) None)) yes
    ∙ place t own ks k b j c h

has_start_of_at : (t : Table) (own : Key) (ks : List Key) (x k : Key) (b : Bool) → is_some (start_of t own ks k) ≡ has ks k → is_some (cond b (Some (end_of t own ks)) (start_of t own ks k)) ≡ cond b true (has ks k)
has_start_of_at t own ks x k true h = refl
has_start_of_at t own ks x k false h = h

-- A function has a start iff its copy is appended.
pub has_start_of : (t : Table) (own : Key) (ks : List Key) (k : Key) → is_some (start_of t own ks k) ≡ has ks k
has_start_of t own [] k = refl
has_start_of t own (x ∷ ks) k = has_start_of_at t own ks x k (same x k) (has_start_of t own ks k)
