-- The kinds of records, by number and by name ("Type Encoding").
use Rattle.std.specs.Prelude.{ℕ, List, [], ◌∷◌, codes, slice_index_or}
use Rattle.btf_records.specs.declared.kind.BtfKind.{BtfKind}
use Rattle.btf_records.specs.declared.kind.BtfKind.TheVariants.{Unknown, Int, Ptr, Array, Struct, Union, Enum, Fwd, Typedef, Volatile, Const, Restrict, Func, FuncProto, Var, DataSec, Float, DeclTag, TypeTag, Enum64}

-- The kinds, from number 0 on.
abbrev pub all_kinds : List BtfKind
all_kinds =
    Unknown ∷ Int ∷ Ptr ∷ Array ∷ Struct ∷ Union ∷ Enum ∷ Fwd ∷ Typedef ∷ Volatile ∷ Const
    ∷ Restrict ∷ Func ∷ FuncProto ∷ Var ∷ DataSec ∷ Float ∷ DeclTag ∷ TypeTag ∷ Enum64 ∷ []

abbrev pub kind_count : ℕ
kind_count = 20

-- The kind of a number below 20.
unfoldable pub kind_of : ℕ → BtfKind
kind_of n = slice_index_or all_kinds n Unknown

abbrev pub number_of : BtfKind → ℕ
number_of Unknown = 0
number_of Int = 1
number_of Ptr = 2
number_of Array = 3
number_of Struct = 4
number_of Union = 5
number_of Enum = 6
number_of Fwd = 7
number_of Typedef = 8
number_of Volatile = 9
number_of Const = 10
number_of Restrict = 11
number_of Func = 12
number_of FuncProto = 13
number_of Var = 14
number_of DataSec = 15
number_of Float = 16
number_of DeclTag = 17
number_of TypeTag = 18
number_of Enum64 = 19

-- The kind as it is printed, in brackets.
abbrev pub text_of : BtfKind → List ℕ
text_of Unknown = codes "[UNKNOWN]"
text_of Int = codes "[INT]"
text_of Ptr = codes "[PTR]"
text_of Array = codes "[ARRAY]"
text_of Struct = codes "[STRUCT]"
text_of Union = codes "[UNION]"
text_of Enum = codes "[ENUM]"
text_of Fwd = codes "[FWD]"
text_of Typedef = codes "[TYPEDEF]"
text_of Volatile = codes "[VOLATILE]"
text_of Const = codes "[CONST]"
text_of Restrict = codes "[RESTRICT]"
text_of Func = codes "[FUNC]"
text_of FuncProto = codes "[FUNC_PROTO]"
text_of Var = codes "[VAR]"
text_of DataSec = codes "[DATASEC]"
text_of Float = codes "[FLOAT]"
text_of DeclTag = codes "[DECL_TAG]"
text_of TypeTag = codes "[TYPE_TAG]"
text_of Enum64 = codes "[ENUM64]"
