-- The integer that is the type of the variables of `.ksyms`.
use Rattle.std.specs.Prelude.{ℕ, ◌+◌, ◌==◌, Bool, false, if◌then◌else◌, List, [], ◌∷◌, codes, Option, Some, None}
use Rattle.std.specs.Option.{option_map_or}
use Rattle.btf_records.specs.Fields.{int_of}
use Rattle.btf_records.specs.Info.{flagged, int_word_of}
use Rattle.btf_records.specs.declared.types.BtfType.{BtfType}
use Rattle.btf_records.specs.declared.types.BtfType.TheVariants as types

-- The integer of 4 bytes that is the type of each variable: the integer with the least id, or an
-- appended one if there is none.
abbrev pub is_int4 : BtfType → Bool
is_int4 t = option_map_or (λ int. int.size == 4) (int_of t) false

abbrev pub int4_from : ℕ → List BtfType → Option ℕ
int4_from id [] = None
int4_from id (t ∷ ts) = if is_int4 t then Some id else int4_from (id + 1) ts

-- The appended integer, which is signed.
abbrev pub signed_int : ℕ → BtfType
signed_int name_offset =
    types.Int
    (record {
      name_offset = name_offset;
      vlen = 0;
      info = flagged false;
      size = 4;
      int_word = int_word_of 1 0 32;
    })

abbrev pub int_name : List ℕ
int_name = codes "int"
