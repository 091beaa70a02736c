-- The text of each instruction.
use Rattle.std.specs.Prelude.{ℕ, ◌+◌, ◌/◌, ◌%◌, ◌==◌, ◌&&◌, nat_lt, nat_le, Bool, true, false, if◌then◌else◌, List, [], ◌∷◌, ◌++◌, map, codes, find, Option, Some, None, is_some, ℤ, pos, int_lt, unsigned_abs, encode_utf8}
use Rattle.std.specs.Fmt.{decimal}
use Rattle.ebpf_items.specs.declared.instruction.bpf_insn.{bpf_insn}
use Rattle.ebpf_items.specs.Instruction.{bytes_of}
use Rattle.instruction_text.specs.declared.parts.Parts.{Parts}
use Rattle.instruction_text.specs.declared.parts.Field.TheVariants.{Destination, Source, Offset, Immediate, LowerHalf, UpperHalf, High, Wide}
use Rattle.instruction_text.specs.declared.piece.Piece.{Piece}
use Rattle.instruction_text.specs.declared.piece.Piece.TheVariants.{Mark, Number}
use Rattle.instruction_text.specs.declared.piece.Style.{Style}
use Rattle.instruction_text.specs.declared.piece.Style.TheVariants.{Plain, Signed, Spaced}
use Rattle.instruction_text.specs.declared.instruction.Instruction.{Instruction}
use Rattle.instruction_text.specs.Fields.{are_same, copied, number_in, parts_of}
use Rattle.instruction_text.specs.Forms.{Form, forms}

-- The piece that a letter of a form's text stands for.
abbrev pub piece_of : ℕ → Piece
piece_of letter =
    if letter == 68 then Number Destination Plain
    else (if letter == 83 then Number Source Plain
    else (if letter == 74 then Number Offset Signed
    else (if letter == 79 then Number Offset Spaced
    else (if letter == 73 then Number Immediate Plain
    else (if letter == 67 then Number Immediate Signed
    else (if letter == 77 then Number Immediate Spaced
    else (if letter == 70 then Number LowerHalf Plain
    else (if letter == 84 then Number UpperHalf Plain
    else (if letter == 72 then Number High Signed
    else (if letter == 87 then Number Wide Plain
    else Mark letter))))))))))

abbrev pub pieces_of : Form → List Piece
pieces_of form = map piece_of form.template

-- The characters before the digits of a number.
abbrev pub sign : Style → Bool → List ℕ
sign Plain false = []
sign Plain true = codes "-"
sign Signed false = codes "+"
sign Signed true = codes "-"
sign Spaced false = codes "+ "
sign Spaced true = codes "- "

abbrev pub shown_number : Style → ℤ → List ℕ
shown_number style z = sign style (int_lt z (pos 0)) ++ decimal (unsigned_abs z)

abbrev pub shown : Piece → Parts → List ℕ
shown (Mark letter) p = encode_utf8 letter
shown (Number field style) p = shown_number style (number_in field p)

-- A form's text with the fields of an instruction.
abbrev pub rendered : List Piece → Parts → List ℕ
rendered [] p = []
rendered (piece ∷ pieces) p = shown piece p ++ rendered pieces p

-- The fields `q`, with the fields of `p` that a text names.
abbrev pub filled_one : Piece → Parts → Parts → Parts
filled_one (Mark letter) p q = q
filled_one (Number field style) p q = copied field p q

abbrev pub filled : List Piece → Parts → Parts → Parts
filled [] p q = q
filled (piece ∷ pieces) p q = filled pieces p (filled_one piece p q)

-- The fields of a form. A field that the text names may have any value.
abbrev pub fields_of : Form → Parts
fields_of form =
    record {
      code = form.code;
      destination = 0;
      source = form.source;
      offset = form.offset;
      immediate = form.immediate;
      high = pos 0;
    }

-- Whether an instruction has a form: it has the form's code, it differs only in fields that the
-- text names, and its registers are r0 to r10.
abbrev pub takes : Parts → Form → Bool
takes p form =
    p.code == form.code && nat_le p.destination 10 && nat_le p.source 10
    && are_same (filled (pieces_of form) p (fields_of form)) p

abbrev pub form_for : Parts → Option Form
form_for p = find (takes p) forms

-- Slots whose encoding has no form.

abbrev pub hex_digit : ℕ → ℕ
hex_digit n = if nat_lt n 10 then 48 + n else 87 + n

abbrev pub hex_byte : ℕ → List ℕ
hex_byte byte = codes "0x" ++ hex_digit (byte / 16) ∷ hex_digit (byte % 16) ∷ []

abbrev pub more_bytes : List ℕ → List ℕ
more_bytes [] = []
more_bytes (byte ∷ bytes) = codes ", " ++ hex_byte byte ++ more_bytes bytes

abbrev pub listed_bytes : List ℕ → List ℕ
listed_bytes [] = []
listed_bytes (byte ∷ bytes) = hex_byte byte ++ more_bytes bytes

unfoldable pub byte_text : List ℕ → List ℕ
byte_text bytes = codes ".byte " ++ listed_bytes bytes

-- Instructions.

abbrev pub text_by : bpf_insn → Parts → Option Form → List ℕ
text_by first p None = byte_text (bytes_of first)
text_by first p (Some form) = rendered (pieces_of form) p

abbrev pub text_from : bpf_insn → Option Parts → List ℕ
text_from first None = byte_text (bytes_of first)
text_from first (Some p) = text_by first p (form_for p)

-- The text of the instruction in a slot and the slot after it.
abbrev pub text_of : bpf_insn → Option bpf_insn → List ℕ
text_of first second = text_from first (parts_of first second)

abbrev pub second_by : bpf_insn → Option bpf_insn → Option Form → Option bpf_insn
second_by first second None = None
second_by first second (Some form) = if first.code == 0x18 then second else None

abbrev pub second_from : bpf_insn → Option bpf_insn → Option Parts → Option bpf_insn
second_from first second None = None
second_from first second (Some p) = second_by first second (form_for p)

-- The instruction in a slot and the slot after it. Only a load of 64 bits takes the second slot.
abbrev pub taken : bpf_insn → Option bpf_insn → Instruction
taken first second =
    record { first = first; second = second_from first second (parts_of first second) }

-- The number of an instruction's slots.
abbrev pub slot_count : Instruction → ℕ
slot_count i = if is_some i.second then 2 else 1
