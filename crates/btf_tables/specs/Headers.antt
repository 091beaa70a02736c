-- The header of a section that is written.
use Rattle.std.specs.Prelude.{ℕ, List}
use Rattle.btf_tables.specs.declared.section.Header.{Header}
use Rattle.btf_tables.specs.Tables.{header_bytes}
use Rattle.btf_records.specs.declared.words.Endianness.{Endianness}

-- The bytes of a header.
abbrev pub bytes_of_header : Endianness → Header → List ℕ
bytes_of_header order h = header_bytes order h.magic h.version h.flags h.types_len h.strings_len
