-- The first bytes of a text are the bytes at its offset.
use Rattle.std.proofs.Common.{◌≡◌, ℕ, ◌<◌, ◌≤◌, Bool, true, false, cond, nat_lt, List, None, Some, drop, take, length, ap, sym, ◌∙◌, arith}
use Rattle.std.specs.Prelude.{◌==◌, option_and_then, slice_index}
use Rattle.std.proofs.lemmas.List.{get_or-take, length-take}
use Rattle.std.specs.List.{position_or_len}
use Rattle.std.specs.Option.{option_map}
use Rattle.std.specs.Str.{is_utf8}
use Rattle.string_table.specs.Texts.{before_nul, text_at, text_of}
use Rattle.btf_search.specs.Prefixes.{Filter, HasPrefix, has_hash, hash_of}
use Rattle.btf_search.proofs.PrefixHashes.{same_hash}

abbrev nul_at : List ℕ → ℕ
nul_at bytes = position_or_len (λ b. b == 0) bytes

whole : (test : Bool) (bytes text : List ℕ) → cond test (Some bytes) None ≡ Some text → bytes ≡ text
whole true bytes text e = cc
whole false bytes text e = absurd cc

taken : (test : Bool) (len : ℕ) (bytes text : List ℕ) → option_and_then text_of (option_map (λ n. take n bytes) (cond test (Some len) None)) ≡ Some text → take len bytes ≡ text
taken true len bytes text e = whole (is_utf8 (take len bytes)) (take len bytes) text e
taken false len bytes text e = absurd cc

-- A text is the bytes at its offset before the first NUL.
text_taken : (strings text bytes : List ℕ) (offset : ℕ) → bytes ≡ drop offset strings → text_at strings offset ≡ Some text → take (nul_at bytes) bytes ≡ text
unfolding text_at
text_taken strings text bytes offset is e = taken (nat_lt (nul_at bytes) (length bytes)) (nul_at bytes) bytes text (ap (λ (bs : List ℕ). option_and_then text_of (before_nul bs)) is ∙ e)

byte_of : (n i : ℕ) (bytes : List ℕ) → i < length (take n bytes) → slice_index (take n bytes) i ≡ slice_index bytes i
byte_of n i bytes lt = get_or-take n bytes i 0 (omega (arith, lt, length-take n bytes))

-- If no prefix has the hash of the first bytes, the text has no prefix.
pub unmarked : (filter : Filter) (strings text bytes first : List ℕ) (offset hash : ℕ) → filter.len ≤ 8 → bytes ≡ drop offset strings → text_at strings offset ≡ Some text → first ≡ take 8 bytes → hash ≡ hash_of filter.len first → has_hash filter hash ≡ false → HasPrefix filter text → ⊥
unmarked filter strings text bytes first offset hash few is e chunk hashed other may =
    let taken = text_taken strings text bytes offset is e in
    let lens : length (take (nul_at bytes) bytes) ≡ length text = ap length taken in
    let same : hash_of filter.len text ≡ hash =
    ap (hash_of filter.len) (sym taken)
    ∙ (same_hash filter.len (take (nul_at bytes) bytes) first (λ i lt. byte_of (nul_at bytes) i bytes (omega (arith, lt, may.long, lens)) ∙ (sym (get_or-take 8 bytes i 0 (omega (arith, lt, few))) ∙ ap (λ (bs : List ℕ). slice_index bs i) (sym chunk)))
    ∙ sym hashed)
    in
    let both : true ≡ false = sym may.marked ∙ (ap (has_hash filter) same ∙ other) in
    absurd cc
