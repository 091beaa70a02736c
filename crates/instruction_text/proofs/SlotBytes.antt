-- The bytes of a slot, as a text shows them.
use Rattle.std.proofs.Common.{◌≡◌, ℕ, ◌+◌, ◌*◌, ◌/◌, ◌%◌, ◌^◌, ◌<◌, ◌≤◌, Bool, true, false, cond, List, [], ◌∷◌, Some, None, refl, ap, ◌∙◌, arith, ℤ, pos, negsuc}
use Rattle.std.specs.Prelude.{nat_lt, slice_index, FitsSigned}
use Rattle.std.specs.Int.{w16, w32, cast_signed, cast_unsigned, from_le_bytes, to_le_bytes}
use Rattle.std.proofs.Math.Facts.{sfits_to_z}
use Rattle.std.proofs.lemmas.Bool.Decides.{nat_tests}
use Rattle.std.proofs.lemmas.Int.{ints, to_z-of_z}
use Rattle.std.proofs.lemmas.Nat.{from_le_bytes-to_le_bytes_2, from_le_bytes-to_le_bytes_4}
use Rattle.ebpf_items.specs.declared.instruction.bpf_insn.{bpf_insn}
use Rattle.ebpf_items.specs.Instruction.{bytes_of, slot_of}
use Rattle.instruction_text.specs.Laws.{IsSlot}
use Rattle.instruction_text.specs.Reading.{byte_at, bytes_in, hex_value, read_bytes}
use Rattle.instruction_text.specs.Texts.{byte_text, hex_digit}
use Rattle.instruction_text.proofs.Numbers.{bits_32}

value_below : (n : ℕ) → n < 10 → hex_value (hex_digit n) ≡ n
value_below n h =
    let e : nat_lt n 10 ≡ true = grind (arith, nat_tests) in
    let k : nat_lt (48 + n) 64 ≡ true = grind (arith, nat_tests) in
    rw e (rw k (omega arith))

value_above : (n : ℕ) → 10 ≤ n → n < 16 → hex_value (hex_digit n) ≡ n
value_above n low high =
    let e : nat_lt n 10 ≡ false = grind (arith, nat_tests) in
    let k : nat_lt (87 + n) 64 ≡ false = grind (arith, nat_tests) in
    rw e (rw k (omega arith))

value_back : (n : ℕ) → n < 16 → hex_value (hex_digit n) ≡ n
value_back n h = by_test (nat_lt n 10) refl
  where
    by_test : (b : Bool) → nat_lt n 10 ≡ b → hex_value (hex_digit n) ≡ n
    by_test true e = value_below n (grind (arith, nat_tests))
    by_test false e = value_above n (grind (arith, nat_tests)) h

byte_back : (b : ℕ) → b < 256 → hex_value (hex_digit (b / 16)) * 16 + hex_value (hex_digit (b % 16)) ≡ b
byte_back b h =
    rw (value_back (b / 16) (omega arith), value_back (b % 16) (omega arith)) (omega arith)

bytes_back : (a b c d e f g h : ℕ) → a < 256 → b < 256 → c < 256 → d < 256 → e < 256 → f < 256 → g < 256 → h < 256 → read_bytes (byte_text (a ∷ b ∷ c ∷ d ∷ e ∷ f ∷ g ∷ h ∷ [])) ≡ Some (record { first = slot_of (a ∷ b ∷ c ∷ d ∷ e ∷ f ∷ g ∷ h ∷ []); second = None })
unfolding byte_text
bytes_back a b c d e f g h ha hb hc hd he hf hg hh =
    rw (byte_back a ha, byte_back b hb, byte_back c hc, byte_back d hd, byte_back e he, byte_back f hf, byte_back g hg, byte_back h hh) refl

bits_16 : (z : ℤ) → FitsSigned w16 z → cast_unsigned w16 z < 2 ^ 16
bits_16 (pos n) fits = omega (arith, ints)
bits_16 (negsuc n) fits = omega (arith, ints)

slot_again : (s : bpf_insn) → IsSlot s → slot_of (bytes_of s) ≡ s
slot_again s fits =
    let off : cast_signed w16 (from_le_bytes w16 (to_le_bytes w16 (cast_unsigned w16 s.off))) ≡ s.off =
    ap (cast_signed w16) (from_le_bytes-to_le_bytes_2 (cast_unsigned w16 s.off) (bits_16 s.off fits.off)) ∙ to_z-of_z w16 s.off fits.off in
    let imm : cast_signed w32 (from_le_bytes w32 (to_le_bytes w32 (cast_unsigned w32 s.imm))) ≡ s.imm =
    ap (cast_signed w32) (from_le_bytes-to_le_bytes_4 (cast_unsigned w32 s.imm) (bits_32 s.imm fits.imm)) ∙ to_z-of_z w32 s.imm fits.imm in
    ap (λ z. record { code = s.code; registers = s.registers; off = z; imm = cast_signed w32 (from_le_bytes w32 (to_le_bytes w32 (cast_unsigned w32 s.imm))) }) off
    ∙ ap (λ z. record { code = s.code; registers = s.registers; off = s.off; imm = z }) imm

low_byte : (n : ℕ) → n % 256 < 256
low_byte n = omega arith

pub slot_read : (s : bpf_insn) → IsSlot s → read_bytes (byte_text (bytes_of s)) ≡ Some (record { first = s; second = None })
slot_read s fits =
    let b = λ (i : ℕ). slice_index (bytes_of s) i in
    let o = cast_unsigned w16 s.off in
    let m = cast_unsigned w32 s.imm in
    bytes_back s.code s.registers (b 2) (b 3) (b 4) (b 5) (b 6) (b 7) (omega (arith, fits.code)) (omega (arith, fits.registers))
    (low_byte o) (low_byte (o / 256)) (low_byte m) (low_byte (m / 256)) (low_byte (m / 65536)) (low_byte (m / 16777216))
    ∙ ap (λ first. Some (record { first = first; second = None })) (slot_again s fits)

-- The bytes that are read are in range.

value_small : (c : ℕ) → hex_value c < 16
value_small c = by_test (nat_lt c 64)
  where
    by_test : (b : Bool) → cond b (c % 16) ((c % 16 + 9) % 16) < 16
    by_test true = omega arith
    by_test false = omega arith

byte_small : (text : List ℕ) (i : ℕ) → byte_at text i < 256
byte_small text i = omega (arith, value_small (slice_index text i), value_small (slice_index text (i + 1)))

off_fits : (a b : ℕ) → a < 256 → b < 256 → FitsSigned w16 (cast_signed w16 (a + b * 256))
off_fits a b h k = sfits_to_z (omega arith)

imm_fits : (a b c d : ℕ) → a < 256 → b < 256 → c < 256 → d < 256 → FitsSigned w32 (cast_signed w32 (a + b * 256 + c * 65536 + d * 16777216))
imm_fits a b c d h k l m = sfits_to_z (omega arith)

pub bytes_fit : (text : List ℕ) → IsSlot (slot_of (bytes_in text))
bytes_fit text = record {
  code = byte_small text 8;
  registers = byte_small text 14;
  off = off_fits (byte_at text 20) (byte_at text 26) (byte_small text 20) (byte_small text 26);
  imm = imm_fits (byte_at text 32) (byte_at text 38) (byte_at text 44) (byte_at text 50) (byte_small text 32) (byte_small text 38) (byte_small text 44) (byte_small text 50);
}
