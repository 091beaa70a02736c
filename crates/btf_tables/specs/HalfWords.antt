-- Words of 16 bits, in a byte order.
use Rattle.std.specs.Prelude.{ℕ, List, take, drop}
use Rattle.std.specs.Int.{w16, to_le_bytes, to_be_bytes, from_le_bytes, from_be_bytes}
use Rattle.btf_records.specs.declared.words.Endianness.{Endianness}
use Rattle.btf_records.specs.declared.words.Endianness.TheVariants.{Little, Big}

-- The two bytes of a half word.
unfoldable pub half_bytes : Endianness → ℕ → List ℕ
half_bytes Little n = to_le_bytes w16 n
half_bytes Big n = to_be_bytes w16 n

-- The half word of the two bytes at an offset.
unfoldable pub half_at : Endianness → List ℕ → ℕ → ℕ
half_at Little bytes offset = from_le_bytes w16 (take 2 (drop offset bytes))
half_at Big bytes offset = from_be_bytes w16 (take 2 (drop offset bytes))
