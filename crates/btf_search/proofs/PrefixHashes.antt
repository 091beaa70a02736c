-- The hashes of prefixes.
use Rattle.std.proofs.Common.{◌≡◌, ℕ, zero, suc, ◌+◌, ◌-◌, ◌*◌, ◌/◌, ◌%◌, ◌^◌, ◌<◌, ◌≤◌, List, refl, sym, ap, ◌∙◌, arith, inl, inr}
use Rattle.std.specs.Prelude.{slice_index}
use Rattle.std.specs.Int.{byte_worth, from_le_bytes, sum_through, w64}
use Rattle.std.specs.Int.Bits.{bit_and}
use native.Mathlib.Nat.{pow-suc}
use Rattle.std.proofs.lemmas.Bool.{cases_lt}
use Rattle.std.proofs.Math.Nat.{add-mul-mod_self_right, mod-add-mod, mul_assoc, zero-add}
use Rattle.std.proofs.lemmas.Nat.{and_mask, pow-add}
use Rattle.btf_search.specs.Prefixes.{hash_of, prefix_of}

-- ---- The hash that the code computes

pub hash_is : (len mask : ℕ) (first : List ℕ) → mask ≡ 2 ^ (8 * len) - 1 → bit_and (from_le_bytes w64 first) mask * 11400714819323198485 % 2 ^ 64 / 2 ^ 48 ≡ hash_of len first
hash_is len mask first is =
    let prefix : bit_and (from_le_bytes w64 first) mask ≡ prefix_of len first = ap (bit_and (from_le_bytes w64 first)) is ∙ and_mask (from_le_bytes w64 first) (8 * len) in
    ap (λ (n : ℕ). n * 11400714819323198485 % 2 ^ 64 / 2 ^ 48) prefix

-- ---- Equal prefixes

worth_is : (i b : ℕ) → byte_worth i b ≡ b * 256 ^ i
worth_is zero b = omega arith
worth_is (suc i) b = refl

-- 256^i for an i of at least len is a multiple of 2^(8 * len).
power_is : (len i : ℕ) → len ≤ i → 256 ^ i ≡ 256 ^ (i - len) * 256 ^ len
power_is len i le = ap (λ (n : ℕ). 256 ^ n) (let e : i ≡ (i - len) + len = omega (arith, le) in e) ∙ pow-add 256 (i - len) len

-- A byte past the prefix changes nothing.
byte_past : (len i b n : ℕ) → len ≤ i → (n + byte_worth i b) % 256 ^ len ≡ n % 256 ^ len
byte_past len i b n le =
    let worth : byte_worth i b ≡ b * 256 ^ (i - len) * 256 ^ len = worth_is i b ∙ (ap (λ (p : ℕ). b * p) (power_is len i le) ∙ sym (mul_assoc b (256 ^ (i - len)) (256 ^ len))) in
    ap (λ (w : ℕ). (n + w) % 256 ^ len) worth ∙ add-mul-mod_self_right n (b * 256 ^ (i - len)) (256 ^ len)

-- An equal byte keeps equal remainders.
byte_more : (p m n w : ℕ) → m % p ≡ n % p → (m + w) % p ≡ (n + w) % p
byte_more p m n w is = sym (mod-add-mod m p w) ∙ (ap (λ (r : ℕ). (r + w) % p) is ∙ mod-add-mod n p w)

sums_by : (len i : ℕ) (f g : ℕ → ℕ) (m n : ℕ) → (i < len → f i ≡ g i) → m % 256 ^ len ≡ n % 256 ^ len → (m + byte_worth i (f i)) % 256 ^ len ≡ (n + byte_worth i (g i)) % 256 ^ len
sums_by len i f g m n same is = elim (cases_lt i len) [
  | inr past ↦ byte_past len i (f i) m (omega (arith, past)) ∙ (is ∙ sym (byte_past len i (g i) n (omega (arith, past))))
  | inl within ↦ ap (λ (b : ℕ). (m + byte_worth i b) % 256 ^ len) (same (omega (arith, within))) ∙ byte_more (256 ^ len) m n (byte_worth i (g i)) is
]

sums : (len k : ℕ) (f g : ℕ → ℕ) → ((i : ℕ) → i < len → f i ≡ g i) → sum_through (λ i. byte_worth i (f i)) k % 256 ^ len ≡ sum_through (λ i. byte_worth i (g i)) k % 256 ^ len
sums len zero f g same =
    let one = zero-add (byte_worth 0 (f 0)) in
    let other = zero-add (byte_worth 0 (g 0)) in
    ap (λ (n : ℕ). n % 256 ^ len) (sym one) ∙ (sums_by len zero f g 0 0 (same zero) refl ∙ ap (λ (n : ℕ). n % 256 ^ len) other)
sums len (suc k) f g same = sums_by len (suc k) f g (sum_through (λ i. byte_worth i (f i)) k) (sum_through (λ i. byte_worth i (g i)) k) (same (suc k)) (sums len k f g same)

power : (len : ℕ) → 2 ^ (8 * len) ≡ 256 ^ len
power zero = refl
power (suc len) =
    let sum : 8 * suc len ≡ 8 + 8 * len = omega arith in
    let more = pow-add 2 8 (8 * len) in
    let next = pow-suc 256 len in
    rw sum (omega (arith, more, next, power len))

-- Texts with the same first bytes have the same hash.
pub same_hash : (len : ℕ) (text other : List ℕ) → ((i : ℕ) → i < len → slice_index text i ≡ slice_index other i) → hash_of len text ≡ hash_of len other
same_hash len text other same =
    let prefix : prefix_of len text ≡ prefix_of len other =
    ap (λ (p : ℕ). from_le_bytes w64 text % p) (power len) ∙ (sums len 7 (slice_index text) (slice_index other) same ∙ ap (λ (p : ℕ). from_le_bytes w64 other % p) (sym (power len)))
    in
    ap (λ (n : ℕ). n * 11400714819323198485 % 2 ^ 64 / 2 ^ 48) prefix
