-- The byte order of an object's numbers.
use Rattle.std.specs.Prelude.{ℕ, List, unwrap_or}
use Rattle.btf_records.specs.declared.words.Endianness.{Endianness}
use Rattle.btf_records.specs.declared.words.Endianness.TheVariants as endianness
use Rattle.elf64.specs.declared.order.ByteOrder.{ByteOrder}
use Rattle.elf64.specs.declared.order.ByteOrder.TheVariants.{Little, Big}
use Rattle.elf64.specs.Headers.{order_of}

-- The byte order of type information for a byte order of ELF files.
abbrev pub endianness_of : ByteOrder → Endianness
endianness_of Little = endianness.Little
endianness_of Big = endianness.Big

-- The byte order of a file. It is little-endian where the file has none.
abbrev pub file_endianness : List ℕ → Endianness
file_endianness file = endianness_of (unwrap_or (order_of file) Little)
