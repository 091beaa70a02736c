-- Words of 32 bits, in a byte order.
use Rattle.std.specs.Prelude.{ℕ, List, take, drop}
use Rattle.std.specs.List.{flat_map}
use Rattle.std.specs.Int.{w32, to_le_bytes, to_be_bytes, from_le_bytes, from_be_bytes}
use Rattle.btf_records.specs.declared.words.Endianness.{Endianness}
use Rattle.btf_records.specs.declared.words.Endianness.TheVariants.{Little, Big}

-- The four bytes of a word.
unfoldable pub word_bytes : Endianness → ℕ → List ℕ
word_bytes Little n = to_le_bytes w32 n
word_bytes Big n = to_be_bytes w32 n

abbrev pub words_bytes : Endianness → List ℕ → List ℕ
words_bytes order words = flat_map (word_bytes order) words

-- The word of the four bytes at an offset.
unfoldable pub word_at : Endianness → List ℕ → ℕ → ℕ
word_at Little bytes offset = from_le_bytes w32 (take 4 (drop offset bytes))
word_at Big bytes offset = from_be_bytes w32 (take 4 (drop offset bytes))
