-- The info word of a record ("Type Encoding"): bits 0 to 15 are the count, bits 24 to 28 the kind,
-- bit 31 the flag; and the word of an integer ("BTF_KIND_INT").
use Rattle.std.specs.Prelude.{ℕ, ◌+◌, ◌*◌, ◌/◌, ◌%◌, Bool, false, ◌==◌, if◌then◌else◌}
use Rattle.btf_records.specs.declared.info.InfoBits.{InfoBits}

abbrev pub count_in : ℕ → ℕ
count_in info = info % 65536

abbrev pub kind_number_in : ℕ → ℕ
kind_number_in info = info / 16777216 % 32

-- The bits of an info word that are neither count nor kind.
unfoldable pub bits_in : ℕ → InfoBits
bits_in info = record {
  flag = info / 2147483648 % 2 == 1;
  bit_30 = info / 1073741824 % 2 == 1;
  bit_29 = info / 536870912 % 2 == 1;
  bits_16_to_23 = info / 65536 % 256;
}

abbrev pub bit : Bool → ℕ
bit b = if b then 1 else 0

-- The info word of a kind, a count and the other bits.
unfoldable pub info_of : ℕ → ℕ → InfoBits → ℕ
info_of kind count bits =
    count + 65536 * bits.bits_16_to_23 + 16777216 * kind + 536870912 * bit bits.bit_29
    + 1073741824 * bit bits.bit_30 + 2147483648 * bit bits.flag

-- No bit is set except the flag, if given.
abbrev pub flagged : Bool → InfoBits
flagged flag = record { flag = flag; bit_30 = false; bit_29 = false; bits_16_to_23 = 0 }

-- The word of an integer: encoding in bits 24 to 27, offset in bits 16 to 23, number of bits in
-- bits 0 to 7.
abbrev pub int_word_of : ℕ → ℕ → ℕ → ℕ
int_word_of encoding offset bits = 16777216 * encoding + 65536 * (offset % 256) + bits % 256

abbrev pub encoding_in : ℕ → ℕ
encoding_in int_word = int_word / 16777216 % 16

abbrev pub offset_in : ℕ → ℕ
offset_in int_word = int_word / 65536 % 256

abbrev pub bit_count_in : ℕ → ℕ
bit_count_in int_word = int_word % 256
