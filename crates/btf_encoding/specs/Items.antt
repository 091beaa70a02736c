-- The items of the lists that follow a record's first three words, and the words of the items.
use Rattle.std.specs.Prelude.{ℕ, zero, suc, List, [], ◌∷◌, drop}
use Rattle.btf_records.specs.Words.{word_at}
use Rattle.btf_records.specs.declared.words.Endianness.{Endianness}
use Rattle.btf_records.specs.declared.item.BtfMember.{BtfMember}
use Rattle.btf_records.specs.declared.item.BtfArray.{BtfArray}
use Rattle.btf_records.specs.declared.item.BtfEnum.{BtfEnum}
use Rattle.btf_records.specs.declared.item.BtfEnum64.{BtfEnum64}
use Rattle.btf_records.specs.declared.item.BtfParam.{BtfParam}
use Rattle.btf_records.specs.declared.item.DataSecEntry.{DataSecEntry}

-- A member: name, type and offset.
abbrev pub member_in : Endianness → List ℕ → BtfMember
member_in order bytes =
    record {
      name_offset = word_at order bytes 0;
      btf_type = word_at order bytes 4;
      offset = word_at order bytes 8;
    }

abbrev pub member_words : BtfMember → List ℕ
member_words m = m.name_offset ∷ m.btf_type ∷ m.offset ∷ []

-- A variant: name and value.
abbrev pub variant_in : Endianness → List ℕ → BtfEnum
variant_in order bytes =
    record { name_offset = word_at order bytes 0; value = word_at order bytes 4 }

abbrev pub variant_words : BtfEnum → List ℕ
variant_words v = v.name_offset ∷ v.value ∷ []

-- A variant of 64 bits: name, low half and high half.
abbrev pub enum64_in : Endianness → List ℕ → BtfEnum64
enum64_in order bytes =
    record {
      name_offset = word_at order bytes 0;
      value_low = word_at order bytes 4;
      value_high = word_at order bytes 8;
    }

abbrev pub enum64_words : BtfEnum64 → List ℕ
enum64_words v = v.name_offset ∷ v.value_low ∷ v.value_high ∷ []

-- A parameter: name and type.
abbrev pub param_in : Endianness → List ℕ → BtfParam
param_in order bytes =
    record { name_offset = word_at order bytes 0; btf_type = word_at order bytes 4 }

abbrev pub param_words : BtfParam → List ℕ
param_words p = p.name_offset ∷ p.btf_type ∷ []

-- An entry of a section: type, offset and size.
abbrev pub entry_in : Endianness → List ℕ → DataSecEntry
entry_in order bytes =
    record {
      btf_type = word_at order bytes 0;
      offset = word_at order bytes 4;
      size = word_at order bytes 8;
    }

abbrev pub entry_words : DataSecEntry → List ℕ
entry_words e = e.btf_type ∷ e.offset ∷ e.size ∷ []

-- An array: the element type, index type and length.
abbrev pub array_in : Endianness → List ℕ → BtfArray
array_in order bytes =
    record {
      element_type = word_at order bytes 0;
      index_type = word_at order bytes 4;
      len = word_at order bytes 8;
    }

abbrev pub array_words : BtfArray → List ℕ
array_words a = a.element_type ∷ a.index_type ∷ a.len ∷ []

-- A number of items, each with the same number of bytes, one after the other.
abbrev pub items_in : {T : Type 0} → (List ℕ → T) → ℕ → ℕ → List ℕ → List T
items_in item size zero bytes = []
items_in item size (suc n) bytes = item bytes ∷ items_in item size n (drop size bytes)
