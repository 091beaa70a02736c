-- An instruction that is read from a text has its fields in range.
use Rattle.std.proofs.Common.{◌≡◌, ℕ, ◌+◌, ◌*◌, ◌/◌, ◌%◌, ◌^◌, ◌<◌, Bool, true, false, cond, List, [], ◌∷◌, Option, Some, None, arith, ℤ, pos, negsuc}
use Rattle.std.specs.Prelude.{◌==◌, ◌&&◌, nat_lt, FitsSigned, IfSome, option_map, option_and_then}
use Rattle.std.specs.Int.{w16, w32, cast_signed}
use Rattle.std.proofs.Math.Facts.{sfits_to_z}
use Rattle.instruction_text.specs.declared.instruction.Instruction.{Instruction}
use Rattle.instruction_text.specs.declared.parts.Parts.{Parts}
use Rattle.instruction_text.specs.declared.parts.Field.{Field}
use Rattle.instruction_text.specs.declared.parts.Field.TheVariants.{Destination, Source, Offset, Immediate, LowerHalf, UpperHalf, High, Wide}
use Rattle.instruction_text.specs.declared.piece.Piece.{Piece}
use Rattle.instruction_text.specs.declared.piece.Piece.TheVariants.{Mark, Number}
use Rattle.instruction_text.specs.Fields.{lower_half, of_halves, second_slot, second_slot_of, upper_half, with_bits}
use Rattle.instruction_text.specs.Forms.{Form}
use Rattle.instruction_text.specs.Laws.{IsSlot}
use Rattle.instruction_text.specs.Reading.{after_sign, after_space, digits_from, instruction_of, is_digit, is_minus, number_at, read_form, read_pieces, signed_bits, state, with_digit}
use Rattle.instruction_text.specs.Texts.{fields_of, pieces_of}
use Rattle.instruction_text.proofs.Numbers.{bits_32}
use Rattle.instruction_text.proofs.FormTable.{is_ranged, is_small}
use Rattle.instruction_text.proofs.Shapes.{both, less_is}

abbrev pub IsInstruction : Instruction → Type 0
IsInstruction i = IsSlot i.first × IfSome i.second IsSlot

record IsRanged (p : Parts) : Type 0 where
  code : p.code < 2 ^ 8
  offset : FitsSigned w16 p.offset
  immediate : FitsSigned w32 p.immediate
  high : FitsSigned w32 p.high

low_16 : (bits : ℕ) → FitsSigned w16 (cast_signed w16 (bits % 2 ^ 16))
low_16 bits = sfits_to_z (omega arith)

low_32 : (bits : ℕ) → FitsSigned w32 (cast_signed w32 (bits % 2 ^ 32))
low_32 bits = sfits_to_z (omega arith)

high_32 : (bits : ℕ) → bits < 2 ^ 64 → FitsSigned w32 (cast_signed w32 (bits / 2 ^ 32))
high_32 bits h = sfits_to_z (omega arith)

halves_32 : (lower upper : ℕ) → lower < 2 ^ 16 → upper < 2 ^ 16 → FitsSigned w32 (of_halves lower upper)
halves_32 lower upper h k = sfits_to_z (omega arith)

lower_ranged : (bits : ℕ) (z : ℤ) → FitsSigned w32 z → FitsSigned w32 (of_halves (bits % 2 ^ 16) (upper_half z))
lower_ranged bits z r = let h = bits_32 z r in halves_32 (bits % 2 ^ 16) (upper_half z) (omega arith) (omega arith)

upper_ranged : (bits : ℕ) (z : ℤ) → FitsSigned w32 (of_halves (lower_half z) (bits % 2 ^ 16))
upper_ranged bits z = halves_32 (lower_half z) (bits % 2 ^ 16) (omega arith) (omega arith)

bits_ranged : (field : Field) (bits : ℕ) (p : Parts) → bits < 2 ^ 64 → IsRanged p → IsRanged (with_bits field bits p)
bits_ranged Destination bits p h r = record { code = r.code; offset = r.offset; immediate = r.immediate; high = r.high }
bits_ranged Source bits p h r = record { code = r.code; offset = r.offset; immediate = r.immediate; high = r.high }
bits_ranged Offset bits p h r = record { code = r.code; offset = low_16 bits; immediate = r.immediate; high = r.high }
bits_ranged Immediate bits p h r = record { code = r.code; offset = r.offset; immediate = low_32 bits; high = r.high }
bits_ranged LowerHalf bits p h r =
    record { code = r.code; offset = r.offset; immediate = lower_ranged bits p.immediate r.immediate; high = r.high }
bits_ranged UpperHalf bits p h r =
    record { code = r.code; offset = r.offset; immediate = upper_ranged bits p.immediate; high = r.high }
bits_ranged High bits p h r = record { code = r.code; offset = r.offset; immediate = r.immediate; high = low_32 bits }
bits_ranged Wide bits p h r = record { code = r.code; offset = r.offset; immediate = low_32 bits; high = high_32 bits h }

with_digit_few : (value c : ℕ) → with_digit value c < 2 ^ 64
with_digit_few value c = omega arith

digits_few : (value : ℕ) (text : List ℕ) → value < 2 ^ 64 → (digits_from value text).bits < 2 ^ 64
digits_few value [] h = h
digits_few value (c ∷ cs) h = by_test (is_digit c) (digits_few (with_digit value c) cs (with_digit_few value c))
  where
    by_test : (b : Bool) → (digits_from (with_digit value c) cs).bits < 2 ^ 64 → (cond b (digits_from (with_digit value c) cs) (record { bits = value; rest = c ∷ cs })).bits < 2 ^ 64
    by_test true k = k
    by_test false k = h

signed_few : (minus : Bool) (value : ℕ) → value < 2 ^ 64 → signed_bits minus value < 2 ^ 64
signed_few true value h = omega arith
signed_few false value h = h

number_few : (text : List ℕ) → (number_at text).bits < 2 ^ 64
number_few text =
    signed_few (is_minus text) (digits_from 0 (after_space (after_sign text))).bits (digits_few 0 (after_space (after_sign text)) (omega arith))

pieces_ranged : (ps : List Piece) (text : List ℕ) (p : Parts) → IsRanged p → IfSome (read_pieces ps (state text p)) IsRanged
pieces_ranged [] [] p r = r
pieces_ranged [] (c ∷ cs) p r = tt
pieces_ranged (Mark letter ∷ ps) [] p r = tt
pieces_ranged (Mark letter ∷ ps) (c ∷ cs) p r = by_test (c == letter) (pieces_ranged ps cs p r)
  where
    by_test : (b : Bool) → IfSome (read_pieces ps (state cs p)) IsRanged → IfSome (option_and_then (read_pieces ps) (cond b (Some (state cs p)) None)) IsRanged
    by_test true k = k
    by_test false k = tt
pieces_ranged (Number field style ∷ ps) text p r =
    pieces_ranged ps (number_at text).rest (with_bits field (number_at text).bits p) (bits_ranged field (number_at text).bits p (number_few text) r)

small_16 : (z : ℤ) → is_small z ≡ true → FitsSigned w16 z
small_16 (pos n) h = let few = less_is n (2 ^ 15) h in record { sfits = omega arith }
small_16 (negsuc n) h = cc

small_32 : (z : ℤ) → is_small z ≡ true → FitsSigned w32 z
small_32 (pos n) h = let few = less_is n (2 ^ 15) h in record { sfits = omega arith }
small_32 (negsuc n) h = cc

fields_ranged : (f : Form) → is_ranged f ≡ true → IsRanged (fields_of f)
fields_ranged f h =
    let t = both (nat_lt f.code (2 ^ 8)) (is_small f.offset && is_small f.immediate) h in
    let u = both (is_small f.offset) (is_small f.immediate) t.1 in
    record {
      code = less_is f.code (2 ^ 8) t.0;
      offset = small_16 f.offset u.0;
      immediate = small_32 f.immediate u.1;
      high = record { sfits = omega arith };
    }

second_fits : (p : Parts) → IsRanged p → IfSome (second_slot_of p) IsSlot
second_fits p r = by_test (p.code == 0x18)
  where
    by_test : (b : Bool) → IfSome (cond b (Some (second_slot p.high)) None) IsSlot
    by_test true = record { code = omega arith; registers = omega arith; off = record { sfits = omega arith }; imm = r.high }
    by_test false = tt

slots_fit : (p : Parts) → IsRanged p → IsInstruction (instruction_of p)
slots_fit p r = (record { code = r.code; registers = omega arith; off = r.offset; imm = r.immediate }, second_fits p r)

pub form_fits : (f : Form) (text : List ℕ) → is_ranged f ≡ true → IfSome (read_form f text) IsInstruction
form_fits f text h = by_read (read_pieces (pieces_of f) (state text (fields_of f))) (pieces_ranged (pieces_of f) text (fields_of f) (fields_ranged f h))
  where
    by_read : (o : Option Parts) → IfSome o IsRanged → IfSome (option_map instruction_of o) IsInstruction
    by_read None r = tt
    by_read (Some p) r = slots_fit p r
