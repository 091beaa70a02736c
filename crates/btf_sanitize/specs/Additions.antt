-- The texts and types that are appended to a table.
use Rattle.std.specs.Prelude.{ℕ, ◌+◌, if◌then◌else◌, List, [], ◌∷◌, ◌++◌, length, Option, None, Some, is_some, unwrap_or, false}
use Rattle.btf_records.specs.Info.{flagged, int_word_of}
use Rattle.btf_records.specs.declared.encoding.VarLinkage.TheVariants.{Static}
use Rattle.btf_records.specs.declared.types.BtfType.{BtfType}
use Rattle.btf_records.specs.declared.types.BtfType.TheVariants.{Int, Var}
use Rattle.btf_sanitize.specs.Names.{filler_int_name, filler_name, has_byte, placeholder_name, replaced}

-- The additions to a table with `string_len` bytes of strings and `type_count` types: texts, types,
-- and the ids of two of the types if they were appended.
pub record Added : Type 0 where
  pub string_len : ℕ
  pub type_count : ℕ
  pub texts : List ℕ
  pub types : List BtfType
  pub placeholder : Option ℕ
  pub filler : Option ℕ

abbrev pub nothing_added : ℕ → ℕ → Added
nothing_added string_len type_count =
    record {
      string_len = string_len;
      type_count = type_count;
      texts = [];
      types = [];
      placeholder = None;
      filler = None;
    }

-- The offset of the next text, and the id of the next type.
abbrev pub next_offset : Added → ℕ
next_offset a = a.string_len + length a.texts

abbrev pub next_id : Added → ℕ
next_id a = a.type_count + length a.types + 1

-- Appends texts that each end in a NUL.
abbrev pub with_texts : List ℕ → Added → Added
with_texts texts a = record a { texts = a.texts ++ texts }

-- Appends one text, or one type.
abbrev pub with_text : List ℕ → Added → Added
with_text text a = with_texts (text ++ 0 ∷ []) a

abbrev pub with_type : BtfType → Added → Added
with_type t a = record a { types = a.types ++ t ∷ [] }

-- An integer of one byte.
abbrev pub small_int : ℕ → BtfType
small_int name_offset =
    Int
    (record {
      name_offset = name_offset;
      vlen = 0;
      info = flagged false;
      size = 1;
      int_word = int_word_of 0 0 8;
    })

abbrev pub static_var : ℕ → ℕ → BtfType
static_var name_offset btf_type =
    Var
    (record {
      name_offset = name_offset;
      vlen = 0;
      info = flagged false;
      btf_type = btf_type;
      linkage = Static;
    })

-- A name with one byte replaced by another. It is appended if the name has that byte.
abbrev pub renamed_offset : ℕ → List ℕ → ℕ → Added → ℕ
renamed_offset from name name_offset a = if has_byte from name then next_offset a else name_offset

abbrev pub with_renamed : ℕ → ℕ → List ℕ → Added → Added
with_renamed from to name a = if has_byte from name then with_text (replaced from to name) a else a

-- The integer that is the type of each member of a rewritten 64-bit enum.
abbrev pub with_new_placeholder : Added → Added
with_new_placeholder a =
    record (with_type (small_int (next_offset a)) (with_text placeholder_name a))
    { placeholder = Some (next_id a) }

abbrev pub with_placeholder : Added → Added
with_placeholder a = if is_some a.placeholder then a else with_new_placeholder a

abbrev pub placeholder_id : Added → ℕ
placeholder_id a = unwrap_or (with_placeholder a).placeholder 0

-- The variable that is put into a section without variables. Its type is an integer that is
-- appended with it.
abbrev pub with_filler_int : Added → Added
with_filler_int a = with_type (small_int (next_offset a)) (with_text filler_int_name a)

abbrev pub with_filler_var : ℕ → Added → Added
with_filler_var int a =
    record (with_type (static_var (next_offset a) int) (with_text filler_name a))
    { filler = Some (next_id a) }

abbrev pub with_filler : Added → Added
with_filler a = if is_some a.filler then a else with_filler_var (next_id a) (with_filler_int a)

abbrev pub filler_id : Added → ℕ
filler_id a = unwrap_or (with_filler a).filler 0
