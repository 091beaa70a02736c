-- The words of a text, and its lines of words.
use Rattle.std.specs.Prelude.{ℕ, ◌<◌, List, [], ◌∷◌, ◌++◌, flat_map, codes}
use Rattle.std.specs.List.{All}
use Rattle.ebpf_items.specs.declared.instruction.bpf_insn.{bpf_insn}
use Rattle.ebpf_items.specs.Instruction.{bytes_of}
use Rattle.hex.specs.Hex.{encode_lower}

-- Words with a space before each, followed by more bytes.
abbrev pub words_onto : List (List ℕ) → List ℕ → List ℕ
words_onto [] more = more
words_onto (word ∷ words) more = 32 ∷ word ++ words_onto words more

-- A line: words with one space between them and a line feed, followed by more bytes.
abbrev pub line_onto : List (List ℕ) → List ℕ → List ℕ
line_onto [] more = 10 ∷ more
line_onto (word ∷ words) more = word ++ words_onto words (10 ∷ more)

-- Words with one space between them.
abbrev pub joined : List (List ℕ) → List ℕ
joined [] = []
joined (word ∷ words) = word ++ words_onto words []

-- Lines, followed by more bytes.
abbrev pub lines_onto : List (List (List ℕ)) → List ℕ → List ℕ
lines_onto [] more = more
lines_onto (line ∷ lines) more = line_onto line (lines_onto lines more)

-- The text of some lines.
abbrev pub text_of_lines : List (List (List ℕ)) → List ℕ
text_of_lines lines = lines_onto lines []

-- Bytes in lower case hexadecimal, or a dash for no bytes.
abbrev pub hex_word : List ℕ → List ℕ
hex_word [] = codes "-"
hex_word (byte ∷ bytes) = encode_lower (byte ∷ bytes)

-- Each number is a byte.
abbrev pub AreBytes : List ℕ → Type 0
AreBytes bytes = All (λ b. b < 256) bytes

-- The bytes of slots, one slot after another.
abbrev pub slot_bytes : List bpf_insn → List ℕ
slot_bytes slots = flat_map bytes_of slots
