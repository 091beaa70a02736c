-- Reading the text of an instruction.
use Rattle.std.specs.Prelude.{ℕ, ◌+◌, ◌-◌, ◌*◌, ◌%◌, ◌^◌, ◌==◌, ◌&&◌, ◌||◌, nat_lt, nat_le, Bool, true, false, if◌then◌else◌, List, [], ◌∷◌, length, slice_index, bytes_eq, Option, Some, None, option_map, option_and_then}
use Rattle.ebpf_items.specs.Instruction.{slot_of}
use Rattle.instruction_text.specs.declared.instruction.Instruction.{Instruction}
use Rattle.instruction_text.specs.declared.parts.Parts.{Parts}
use Rattle.instruction_text.specs.declared.piece.Piece.{Piece}
use Rattle.instruction_text.specs.declared.piece.Piece.TheVariants.{Mark, Number}
use Rattle.instruction_text.specs.Fields.{first_slot, second_slot_of, with_bits}
use Rattle.instruction_text.specs.Forms.{Form, forms}
use Rattle.instruction_text.specs.Texts.{fields_of, pieces_of, shown, taken, text_of}

-- Numbers.

-- The bits of a number, and the text after it.
pub record Scan : Type 0 where
  pub bits : ℕ
  pub rest : List ℕ

abbrev pub is_digit : ℕ → Bool
is_digit c = nat_le 48 c && nat_le c 57

abbrev pub with_digit : ℕ → ℕ → ℕ
with_digit value c = (value * 10 % 2 ^ 64 + (c - 48)) % 2 ^ 64

abbrev pub digits_from : ℕ → List ℕ → Scan
digits_from value [] = record { bits = value; rest = [] }
digits_from value (c ∷ cs) =
    if is_digit c
    then digits_from (with_digit value c) cs
    else record { bits = value; rest = c ∷ cs }

abbrev pub is_minus : List ℕ → Bool
is_minus [] = false
is_minus (c ∷ cs) = c == 45

abbrev pub is_sign : ℕ → Bool
is_sign c = c == 43 || c == 45

abbrev pub after_sign : List ℕ → List ℕ
after_sign [] = []
after_sign (c ∷ cs) = if is_sign c then cs else c ∷ cs

abbrev pub after_space : List ℕ → List ℕ
after_space [] = []
after_space (c ∷ cs) = if c == 32 then cs else c ∷ cs

abbrev pub signed_bits : Bool → ℕ → ℕ
signed_bits minus value = if minus then (2 ^ 64 - value) % 2 ^ 64 else value

abbrev pub number_after : Bool → Scan → Scan
number_after minus scan = record { bits = signed_bits minus scan.bits; rest = scan.rest }

-- The number at the start of a text, with or without a sign.
abbrev pub number_at : List ℕ → Scan
number_at text = number_after (is_minus text) (digits_from 0 (after_space (after_sign text)))

-- Forms.

pub record State : Type 0 where
  pub rest : List ℕ
  pub parts : Parts

abbrev pub state : List ℕ → Parts → State
state rest parts = record { rest = rest; parts = parts }

abbrev pub read_mark : ℕ → List ℕ → Parts → Option State
read_mark letter [] parts = None
read_mark letter (c ∷ cs) parts =
    if c == letter then Some (state cs parts) else None

abbrev pub read_piece : Piece → State → Option State
read_piece (Mark letter) s = read_mark letter s.rest s.parts
read_piece (Number field style) s =
    Some (state (number_at s.rest).rest (with_bits field (number_at s.rest).bits s.parts))

abbrev pub at_end : List ℕ → Parts → Option Parts
at_end [] parts = Some parts
at_end (c ∷ cs) parts = None

abbrev pub read_pieces : List Piece → State → Option Parts
read_pieces [] s = at_end s.rest s.parts
read_pieces (piece ∷ pieces) s = option_and_then (read_pieces pieces) (read_piece piece s)

abbrev pub instruction_of : Parts → Instruction
instruction_of p = record { first = first_slot p; second = second_slot_of p }

-- The instruction of a text in a form, if the text has this form.
abbrev pub read_form : Form → List ℕ → Option Instruction
read_form form text =
    option_map instruction_of
    (read_pieces (pieces_of form) (state text (fields_of form)))

-- Bytes.

abbrev pub hex_value : ℕ → ℕ
hex_value c = if nat_lt c 64 then c % 16 else (c % 16 + 9) % 16

-- The byte of the two digits at an index.
abbrev pub byte_at : List ℕ → ℕ → ℕ
byte_at text i = hex_value (slice_index text i) * 16 + hex_value (slice_index text (i + 1))

abbrev pub bytes_in : List ℕ → List ℕ
bytes_in text =
    byte_at text 8 ∷ byte_at text 14 ∷ byte_at text 20 ∷ byte_at text 26 ∷ byte_at text 32
    ∷ byte_at text 38
    ∷ byte_at text 44
    ∷ byte_at text 50
    ∷ []

abbrev pub read_bytes : List ℕ → Option Instruction
read_bytes text =
    if length text == 52
    then Some (record { first = slot_of (bytes_in text); second = None })
    else None

-- Instructions.

-- The text after a prefix.
abbrev pub after_front : List ℕ → List ℕ → Option (List ℕ)
after_front [] text = Some text
after_front (c ∷ cs) [] = None
after_front (c ∷ cs) (d ∷ ds) = if c == d then after_front cs ds else None

abbrev pub after_pieces : List Piece → Parts → List ℕ → Option (List ℕ)
after_pieces [] p text = Some text
after_pieces (piece ∷ pieces) p text =
    option_and_then (after_pieces pieces p) (after_front (shown piece p) text)

abbrev pub is_done : Option (List ℕ) → Bool
is_done None = false
is_done (Some []) = true
is_done (Some (c ∷ cs)) = false

-- An instruction, if this is its text.
abbrev pub checked : List ℕ → Instruction → Option Instruction
checked text i =
    if bytes_eq (text_of i.first i.second) text then Some (taken i.first i.second) else None

abbrev pub checked_option : List ℕ → Option Instruction → Option Instruction
checked_option text None = None
checked_option text (Some i) = checked text i

abbrev pub or_else : Option Instruction → Option Instruction → Option Instruction
or_else None other = other
or_else (Some i) other = Some i

-- The instruction of a text, by the first of some forms in which the text is an instruction's.
abbrev pub read_in : List Form → List ℕ → Option Instruction
read_in [] text = None
read_in (form ∷ more) text = or_else (checked_option text (read_form form text)) (read_in more text)

-- The instruction with a text.
abbrev pub instruction_in : List ℕ → Option Instruction
instruction_in text = or_else (read_in forms text) (checked_option text (read_bytes text))
