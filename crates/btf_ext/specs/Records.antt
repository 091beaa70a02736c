-- The records of the section infos ("BTF.ext section"; of relocations "BTF CO-RE relocations").
use Rattle.std.specs.Prelude.{ℕ, ◌/◌, List, [], ◌∷◌}
use Rattle.std.specs.List.{flat_map}
use Rattle.btf_records.specs.Words.{word_at, words_bytes}
use Rattle.btf_records.specs.declared.words.Endianness.{Endianness}
use Rattle.btf_records.specs.declared.words.Endianness.TheVariants.{Little}
use Rattle.btf_ext.specs.declared.record.bpf_core_relo.{bpf_core_relo}
use Rattle.btf_ext.specs.declared.record.bpf_func_info.{bpf_func_info}
use Rattle.btf_ext.specs.declared.record.bpf_line_info.{bpf_line_info}

-- The offset of an instruction in its section, in slots of 8 bytes. A record gives the offset in
-- bytes.
abbrev pub slot_at : Endianness → List ℕ → ℕ
slot_at order bytes = word_at order bytes 0 / 8

-- A function record: its first instruction and its type.
abbrev pub func_in : Endianness → List ℕ → bpf_func_info
func_in order bytes = record { insn_off = slot_at order bytes; type_id = word_at order bytes 4 }

-- A line record: its first instruction, the offsets of its file's name and of its text, and its
-- number and column.
abbrev pub line_in : Endianness → List ℕ → bpf_line_info
line_in order bytes = record {
  insn_off = slot_at order bytes;
  file_name_off = word_at order bytes 4;
  line_off = word_at order bytes 8;
  line_col = word_at order bytes 12;
}

-- A relocation: the instruction's offset in bytes, the type, the offset of the access string, and
-- the kind.
abbrev pub relocation_in : Endianness → List ℕ → bpf_core_relo
relocation_in order bytes = record {
  insn_off = word_at order bytes 0;
  type_id = word_at order bytes 4;
  access_str_off = word_at order bytes 8;
  kind = word_at order bytes 12;
}

-- The words of a record.
abbrev pub func_words : bpf_func_info → List ℕ
func_words r = r.insn_off ∷ r.type_id ∷ []

abbrev pub line_words : bpf_line_info → List ℕ
line_words r = r.insn_off ∷ r.file_name_off ∷ r.line_off ∷ r.line_col ∷ []

-- Records as little-endian words.
abbrev pub func_bytes : List bpf_func_info → List ℕ
func_bytes records = words_bytes Little (flat_map func_words records)

abbrev pub line_bytes : List bpf_line_info → List ℕ
line_bytes records = words_bytes Little (flat_map line_words records)
