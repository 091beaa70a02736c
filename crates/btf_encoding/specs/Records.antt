-- The grammar of type records ("Type Encoding"): three words (name, info, and size or type), and
-- after them the words of each kind.
use Rattle.std.specs.Prelude.{◌≡◌, ℕ, ◌+◌, ◌*◌, ◌<◌, ◌≤◌, ◌⊎◌, ◌^◌, List, [], ◌∷◌, ◌++◌, length, drop, All, Option, None, false}
use Rattle.std.specs.List.{flat_map}
use Rattle.btf_records.specs.Words.{word_at, words_bytes}
use Rattle.btf_records.specs.Info.{bits_in, count_in, flagged, info_of, kind_number_in}
use Rattle.btf_records.specs.Kinds.{kind_count, kind_of}
use Rattle.btf_records.specs.Encodings.{number_of_var_linkage, var_linkage_of}
use Rattle.btf_encoding.specs.Items.{array_in, array_words, entry_in, entry_words, enum64_in, enum64_words, items_in, member_in, member_words, param_in, param_words, variant_in, variant_words}
use Rattle.btf_records.specs.declared.error.BtfError.{BtfError}
use Rattle.btf_records.specs.declared.error.BtfError.TheVariants.{InvalidTypeInfo, InvalidTypeKind}
use Rattle.btf_records.specs.declared.kind.BtfKind.{BtfKind}
use Rattle.btf_records.specs.declared.kind.BtfKind.TheVariants as kinds
use Rattle.btf_records.specs.declared.types.BtfType.{BtfType}
use Rattle.btf_records.specs.declared.types.BtfType.TheVariants as types
use Rattle.btf_records.specs.declared.compound.Enum64Fallback.{Enum64Fallback}
use Rattle.btf_records.specs.declared.info.InfoBits.{InfoBits}
use Rattle.btf_records.specs.declared.words.Endianness.{Endianness}

-- The kind and the count in the second word of the bytes.
abbrev pub kind_number_at : Endianness → List ℕ → ℕ
kind_number_at order bytes = kind_number_in (word_at order bytes 4)

abbrev pub kind_at : Endianness → List ℕ → BtfKind
kind_at order bytes = kind_of (kind_number_at order bytes)

abbrev pub count_at : Endianness → List ℕ → ℕ
count_at order bytes = count_in (word_at order bytes 4)

-- The name, the other bits and the third word of the first three words.
abbrev pub name_at : Endianness → List ℕ → ℕ
name_at order bytes = word_at order bytes 0

abbrev pub bits_at : Endianness → List ℕ → InfoBits
bits_at order bytes = bits_in (word_at order bytes 4)

abbrev pub third_at : Endianness → List ℕ → ℕ
third_at order bytes = word_at order bytes 8

-- The bytes after the first three words of a record.
abbrev pub after_words : List ℕ → List ℕ
after_words bytes = drop 12 bytes

-- The number of bytes of a record of a kind after its first three words.
abbrev pub len_after : BtfKind → ℕ → ℕ
len_after kinds.Int count = 4
len_after kinds.Array count = 12
len_after kinds.Struct count = 12 * count
len_after kinds.Union count = 12 * count
len_after kinds.Enum count = 8 * count
len_after kinds.FuncProto count = 8 * count
len_after kinds.Var count = 4
len_after kinds.DataSec count = 12 * count
len_after kinds.DeclTag count = 4
len_after kinds.Enum64 count = 12 * count
len_after _ count = 0

abbrev pub record_len : Endianness → List ℕ → ℕ
record_len order bytes = 12 + len_after (kind_at order bytes) (count_at order bytes)

-- The bytes begin with a record.
pub record HasRecord (order : Endianness) (bytes : List ℕ) : Type 0 where
  pub head : 12 ≤ length bytes
  pub known : kind_number_at order bytes < kind_count
  pub whole : record_len order bytes ≤ length bytes

-- The reason why the bytes don't begin with a record.
abbrev pub RecordFault : Endianness → List ℕ → BtfError → Type 0
RecordFault order bytes InvalidTypeInfo =
    (length bytes < 12)
    ⊎ ((kind_number_at order bytes < kind_count) × (length bytes < record_len order bytes))
RecordFault order bytes (InvalidTypeKind kind) =
    (12 ≤ length bytes) × (kind ≡ kind_number_at order bytes) × (kind_count ≤ kind)
RecordFault order bytes _ = ⊥

-- The record of a kind that the bytes begin with. The third word of FWD and ARRAY isn't kept, and
-- no word of UNKNOWN.
abbrev pub type_as : BtfKind → Endianness → List ℕ → BtfType
type_as kinds.Unknown order bytes = types.Unknown
type_as kinds.Int order bytes =
    types.Int
    (record {
      name_offset = name_at order bytes;
      vlen = count_at order bytes;
      info = bits_at order bytes;
      size = third_at order bytes;
      int_word = word_at order bytes 12;
    })
type_as kinds.Ptr order bytes =
    types.Ptr
    (record {
      name_offset = name_at order bytes;
      vlen = count_at order bytes;
      info = bits_at order bytes;
      btf_type = third_at order bytes;
    })
type_as kinds.Array order bytes =
    types.Array
    (record {
      name_offset = name_at order bytes;
      vlen = count_at order bytes;
      info = bits_at order bytes;
      array = array_in order (after_words bytes);
    })
type_as kinds.Struct order bytes =
    types.Struct
    (record {
      name_offset = name_at order bytes;
      info = bits_at order bytes;
      size = third_at order bytes;
      members = items_in (member_in order) 12 (count_at order bytes) (after_words bytes);
    })
type_as kinds.Union order bytes =
    types.Union
    (record {
      name_offset = name_at order bytes;
      info = bits_at order bytes;
      size = third_at order bytes;
      members = items_in (member_in order) 12 (count_at order bytes) (after_words bytes);
      fallback = None;
    })
type_as kinds.Enum order bytes =
    types.Enum
    (record {
      name_offset = name_at order bytes;
      info = bits_at order bytes;
      size = third_at order bytes;
      variants = items_in (variant_in order) 8 (count_at order bytes) (after_words bytes);
    })
type_as kinds.Fwd order bytes =
    types.Fwd
    (record
    { name_offset = name_at order bytes; vlen = count_at order bytes; info = bits_at order bytes })
type_as kinds.Typedef order bytes =
    types.Typedef
    (record {
      name_offset = name_at order bytes;
      vlen = count_at order bytes;
      info = bits_at order bytes;
      btf_type = third_at order bytes;
    })
type_as kinds.Volatile order bytes =
    types.Volatile
    (record {
      name_offset = name_at order bytes;
      vlen = count_at order bytes;
      info = bits_at order bytes;
      btf_type = third_at order bytes;
    })
type_as kinds.Const order bytes =
    types.Const
    (record {
      name_offset = name_at order bytes;
      vlen = count_at order bytes;
      info = bits_at order bytes;
      btf_type = third_at order bytes;
    })
type_as kinds.Restrict order bytes =
    types.Restrict
    (record {
      name_offset = name_at order bytes;
      vlen = count_at order bytes;
      info = bits_at order bytes;
      btf_type = third_at order bytes;
    })
type_as kinds.Func order bytes =
    types.Func
    (record {
      name_offset = name_at order bytes;
      vlen = count_at order bytes;
      info = bits_at order bytes;
      btf_type = third_at order bytes;
    })
type_as kinds.FuncProto order bytes =
    types.FuncProto
    (record {
      name_offset = name_at order bytes;
      info = bits_at order bytes;
      return_type = third_at order bytes;
      params = items_in (param_in order) 8 (count_at order bytes) (after_words bytes);
    })
type_as kinds.Var order bytes =
    types.Var
    (record {
      name_offset = name_at order bytes;
      vlen = count_at order bytes;
      info = bits_at order bytes;
      btf_type = third_at order bytes;
      linkage = var_linkage_of (word_at order bytes 12);
    })
type_as kinds.DataSec order bytes =
    types.DataSec
    (record {
      name_offset = name_at order bytes;
      info = bits_at order bytes;
      size = third_at order bytes;
      entries = items_in (entry_in order) 12 (count_at order bytes) (after_words bytes);
    })
type_as kinds.Float order bytes =
    types.Float
    (record {
      name_offset = name_at order bytes;
      vlen = count_at order bytes;
      info = bits_at order bytes;
      size = third_at order bytes;
    })
type_as kinds.DeclTag order bytes =
    types.DeclTag
    (record {
      name_offset = name_at order bytes;
      vlen = count_at order bytes;
      info = bits_at order bytes;
      btf_type = third_at order bytes;
      index_word = word_at order bytes 12;
    })
type_as kinds.TypeTag order bytes =
    types.TypeTag
    (record {
      name_offset = name_at order bytes;
      vlen = count_at order bytes;
      info = bits_at order bytes;
      btf_type = third_at order bytes;
    })
type_as kinds.Enum64 order bytes =
    types.Enum64
    (record {
      name_offset = name_at order bytes;
      info = bits_at order bytes;
      size = third_at order bytes;
      variants = items_in (enum64_in order) 12 (count_at order bytes) (after_words bytes);
    })

-- The record that the bytes begin with.
abbrev pub type_in : Endianness → List ℕ → BtfType
type_in order bytes = type_as (kind_at order bytes) order bytes

-- The words that a record is written as: 0 for the third word of FWD and ARRAY, 3 for an unknown
-- linkage of a VAR, zeros for UNKNOWN. The fallback of a UNION has no words.
abbrev pub words_of : BtfType → List ℕ
words_of types.Unknown = 0 ∷ 0 ∷ 0 ∷ []
words_of (types.Int t) = t.name_offset ∷ info_of 1 t.vlen t.info ∷ t.size ∷ t.int_word ∷ []
words_of (types.Ptr t) = t.name_offset ∷ info_of 2 t.vlen t.info ∷ t.btf_type ∷ []
words_of (types.Array t) = t.name_offset ∷ info_of 3 t.vlen t.info ∷ 0 ∷ array_words t.array
words_of (types.Struct t) =
    t.name_offset ∷ info_of 4 (length t.members) t.info ∷ t.size ∷ flat_map member_words t.members
words_of (types.Union t) =
    t.name_offset ∷ info_of 5 (length t.members) t.info ∷ t.size ∷ flat_map member_words t.members
words_of (types.Enum t) =
    t.name_offset ∷ info_of 6 (length t.variants) t.info ∷ t.size
    ∷ flat_map variant_words t.variants
words_of (types.Fwd t) = t.name_offset ∷ info_of 7 t.vlen t.info ∷ 0 ∷ []
words_of (types.Typedef t) = t.name_offset ∷ info_of 8 t.vlen t.info ∷ t.btf_type ∷ []
words_of (types.Volatile t) = t.name_offset ∷ info_of 9 t.vlen t.info ∷ t.btf_type ∷ []
words_of (types.Const t) = t.name_offset ∷ info_of 10 t.vlen t.info ∷ t.btf_type ∷ []
words_of (types.Restrict t) = t.name_offset ∷ info_of 11 t.vlen t.info ∷ t.btf_type ∷ []
words_of (types.Func t) = t.name_offset ∷ info_of 12 t.vlen t.info ∷ t.btf_type ∷ []
words_of (types.FuncProto t) =
    t.name_offset ∷ info_of 13 (length t.params) t.info ∷ t.return_type
    ∷ flat_map param_words t.params
words_of (types.Var t) =
    t.name_offset ∷ info_of 14 t.vlen t.info ∷ t.btf_type ∷ number_of_var_linkage t.linkage ∷ []
words_of (types.DataSec t) =
    t.name_offset ∷ info_of 15 (length t.entries) t.info ∷ t.size ∷ flat_map entry_words t.entries
words_of (types.Float t) = t.name_offset ∷ info_of 16 t.vlen t.info ∷ t.size ∷ []
words_of (types.DeclTag t) =
    t.name_offset ∷ info_of 17 t.vlen t.info ∷ t.btf_type ∷ t.index_word ∷ []
words_of (types.TypeTag t) = t.name_offset ∷ info_of 18 t.vlen t.info ∷ t.btf_type ∷ []
words_of (types.Enum64 t) =
    t.name_offset ∷ info_of 19 (length t.variants) t.info ∷ t.size
    ∷ flat_map enum64_words t.variants

-- The words of a record after the first three.
abbrev pub words_after : BtfType → List ℕ
words_after types.Unknown = []
words_after (types.Int t) = t.int_word ∷ []
words_after (types.Ptr t) = []
words_after (types.Array t) = array_words t.array
words_after (types.Struct t) = flat_map member_words t.members
words_after (types.Union t) = flat_map member_words t.members
words_after (types.Enum t) = flat_map variant_words t.variants
words_after (types.Fwd t) = []
words_after (types.Typedef t) = []
words_after (types.Volatile t) = []
words_after (types.Const t) = []
words_after (types.Restrict t) = []
words_after (types.Func t) = []
words_after (types.FuncProto t) = flat_map param_words t.params
words_after (types.Var t) = number_of_var_linkage t.linkage ∷ []
words_after (types.DataSec t) = flat_map entry_words t.entries
words_after (types.Float t) = []
words_after (types.DeclTag t) = t.index_word ∷ []
words_after (types.TypeTag t) = []
words_after (types.Enum64 t) = flat_map enum64_words t.variants

-- The bytes of a record.
unfoldable pub record_bytes : Endianness → BtfType → List ℕ
record_bytes order t = words_bytes order (words_of t)

-- A record, with this enum as the fallback if it is a UNION.
abbrev pub with_fallback : Option Enum64Fallback → BtfType → BtfType
with_fallback fallback (types.Union t) = types.Union (record t { fallback = fallback })
with_fallback fallback t = t

-- The record that is read back from the bytes of a record.
abbrev pub without_fallback : BtfType → BtfType
without_fallback t = with_fallback None t

-- The count in the info word of a record. For a kind with a list it is the length of the list.
abbrev pub count_of : BtfType → ℕ
count_of types.Unknown = 0
count_of (types.Int t) = t.vlen
count_of (types.Ptr t) = t.vlen
count_of (types.Array t) = t.vlen
count_of (types.Struct t) = length t.members
count_of (types.Union t) = length t.members
count_of (types.Enum t) = length t.variants
count_of (types.Fwd t) = t.vlen
count_of (types.Typedef t) = t.vlen
count_of (types.Volatile t) = t.vlen
count_of (types.Const t) = t.vlen
count_of (types.Restrict t) = t.vlen
count_of (types.Func t) = t.vlen
count_of (types.FuncProto t) = length t.params
count_of (types.Var t) = t.vlen
count_of (types.DataSec t) = length t.entries
count_of (types.Float t) = t.vlen
count_of (types.DeclTag t) = t.vlen
count_of (types.TypeTag t) = t.vlen
count_of (types.Enum64 t) = length t.variants

abbrev pub bits_of : BtfType → InfoBits
bits_of types.Unknown = flagged false
bits_of (types.Int t) = t.info
bits_of (types.Ptr t) = t.info
bits_of (types.Array t) = t.info
bits_of (types.Struct t) = t.info
bits_of (types.Union t) = t.info
bits_of (types.Enum t) = t.info
bits_of (types.Fwd t) = t.info
bits_of (types.Typedef t) = t.info
bits_of (types.Volatile t) = t.info
bits_of (types.Const t) = t.info
bits_of (types.Restrict t) = t.info
bits_of (types.Func t) = t.info
bits_of (types.FuncProto t) = t.info
bits_of (types.Var t) = t.info
bits_of (types.DataSec t) = t.info
bits_of (types.Float t) = t.info
bits_of (types.DeclTag t) = t.info
bits_of (types.TypeTag t) = t.info
bits_of (types.Enum64 t) = t.info

-- The numbers of a record are in the range of their fields, as in every value of `BtfType`.
pub record IsInRange (t : BtfType) : Type 0 where
  pub words : All (λ w. w < 2 ^ 32) (words_of t)
  pub count : count_of t < 65536
  pub bits : (bits_of t).bits_16_to_23 < 256

-- Appending bytes leaves the record that the bytes begin with, and its length, as they are.
pub record ReadsSame (order : Endianness) (bytes : List ℕ) : Type 0 where
  pub begins : (after : List ℕ) → HasRecord order (bytes ++ after)
  pub same : (after : List ℕ) → type_in order (bytes ++ after) ≡ type_in order bytes
  pub len : (after : List ℕ) → record_len order (bytes ++ after) ≡ record_len order bytes

-- The bytes begin with these records, one after the other, and the rest follows.
abbrev pub Begins : Endianness → List BtfType → List ℕ → List ℕ → Type 0
Begins order [] rest bytes = bytes ≡ rest
Begins order (t ∷ ts) rest bytes =
    HasRecord order bytes
    × (type_in order bytes ≡ t)
    × Begins order ts rest (drop (record_len order bytes) bytes)

-- The bytes are these records.
abbrev pub Spells : Endianness → List BtfType → List ℕ → Type 0
Spells order ts bytes = Begins order ts [] bytes

-- The bytes of a record are read back as this record and its length, whatever bytes follow. If they
-- are written after records, they are one more record.
pub record ReadsBack (order : Endianness) (t : BtfType) : Type 0 where
  pub begins : (after : List ℕ) → HasRecord order (record_bytes order t ++ after)
  pub same : (after : List ℕ) → type_in order (record_bytes order t ++ after) ≡ without_fallback t
  pub len : (after : List ℕ)
      → record_len order (record_bytes order t ++ after) ≡ length (record_bytes order t)
  pub alone : ReadsSame order (record_bytes order t)
  pub follows : (front : List BtfType) (bytes : List ℕ)
      → Spells order front bytes
      → Spells order (front ++ without_fallback t ∷ []) (bytes ++ record_bytes order t)

-- Some records are followed by bytes that don't begin with a record.
pub record TypesFault (order : Endianness) (bytes : List ℕ) (e : BtfError) : Type 0 where
  pub front : List BtfType
  pub rest : List ℕ
  pub begins : Begins order front rest bytes
  pub more : 0 < length rest
  pub wrong : RecordFault order rest e
