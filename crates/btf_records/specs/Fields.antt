-- The fields of a record: its kind, its name, its size or type, and its lists.
use Rattle.std.specs.Prelude.{ℕ, List, [], Option, None, Some}
use Rattle.btf_records.specs.declared.item.BtfArray.{BtfArray}
use Rattle.btf_records.specs.declared.item.BtfEnum.{BtfEnum}
use Rattle.btf_records.specs.declared.item.BtfEnum64.{BtfEnum64}
use Rattle.btf_records.specs.declared.item.BtfMember.{BtfMember}
use Rattle.btf_records.specs.declared.item.BtfParam.{BtfParam}
use Rattle.btf_records.specs.declared.item.DataSecEntry.{DataSecEntry}
use Rattle.btf_records.specs.declared.kind.BtfKind.{BtfKind}
use Rattle.btf_records.specs.declared.kind.BtfKind.TheVariants as kinds
use Rattle.btf_records.specs.declared.types.BtfType.{BtfType}
use Rattle.btf_records.specs.declared.types.BtfType.TheVariants as types
use Rattle.btf_records.specs.declared.compound.Enum64Fallback.{Enum64Fallback}
use Rattle.btf_records.specs.declared.functions.Func.{Func}
use Rattle.btf_records.specs.declared.references.DeclTag.{DeclTag}
use Rattle.btf_records.specs.declared.scalars.Int.{Int}
use Rattle.btf_records.specs.declared.variables.Var.{Var}

abbrev pub kind_of_type : BtfType → BtfKind
kind_of_type types.Unknown = kinds.Unknown
kind_of_type (types.Int t) = kinds.Int
kind_of_type (types.Ptr t) = kinds.Ptr
kind_of_type (types.Array t) = kinds.Array
kind_of_type (types.Struct t) = kinds.Struct
kind_of_type (types.Union t) = kinds.Union
kind_of_type (types.Enum t) = kinds.Enum
kind_of_type (types.Fwd t) = kinds.Fwd
kind_of_type (types.Typedef t) = kinds.Typedef
kind_of_type (types.Volatile t) = kinds.Volatile
kind_of_type (types.Const t) = kinds.Const
kind_of_type (types.Restrict t) = kinds.Restrict
kind_of_type (types.Func t) = kinds.Func
kind_of_type (types.FuncProto t) = kinds.FuncProto
kind_of_type (types.Var t) = kinds.Var
kind_of_type (types.DataSec t) = kinds.DataSec
kind_of_type (types.Float t) = kinds.Float
kind_of_type (types.DeclTag t) = kinds.DeclTag
kind_of_type (types.TypeTag t) = kinds.TypeTag
kind_of_type (types.Enum64 t) = kinds.Enum64

-- The offset of the name of a record. That of UNKNOWN is 0.
abbrev pub name_offset_of : BtfType → ℕ
name_offset_of types.Unknown = 0
name_offset_of (types.Int t) = t.name_offset
name_offset_of (types.Ptr t) = t.name_offset
name_offset_of (types.Array t) = t.name_offset
name_offset_of (types.Struct t) = t.name_offset
name_offset_of (types.Union t) = t.name_offset
name_offset_of (types.Enum t) = t.name_offset
name_offset_of (types.Fwd t) = t.name_offset
name_offset_of (types.Typedef t) = t.name_offset
name_offset_of (types.Volatile t) = t.name_offset
name_offset_of (types.Const t) = t.name_offset
name_offset_of (types.Restrict t) = t.name_offset
name_offset_of (types.Func t) = t.name_offset
name_offset_of (types.FuncProto t) = t.name_offset
name_offset_of (types.Var t) = t.name_offset
name_offset_of (types.DataSec t) = t.name_offset
name_offset_of (types.Float t) = t.name_offset
name_offset_of (types.DeclTag t) = t.name_offset
name_offset_of (types.TypeTag t) = t.name_offset
name_offset_of (types.Enum64 t) = t.name_offset

-- The size in bytes of a record of a kind that has one.
abbrev pub size_of : BtfType → Option ℕ
size_of (types.Int t) = Some t.size
size_of (types.Struct t) = Some t.size
size_of (types.Union t) = Some t.size
size_of (types.Enum t) = Some t.size
size_of (types.DataSec t) = Some t.size
size_of (types.Float t) = Some t.size
size_of (types.Enum64 t) = Some t.size
size_of _ = None

-- The id of a type in the third word of a record of a kind that has one there.
abbrev pub type_of : BtfType → Option ℕ
type_of (types.Ptr t) = Some t.btf_type
type_of (types.Typedef t) = Some t.btf_type
type_of (types.Volatile t) = Some t.btf_type
type_of (types.Const t) = Some t.btf_type
type_of (types.Restrict t) = Some t.btf_type
type_of (types.Func t) = Some t.btf_type
type_of (types.FuncProto t) = Some t.return_type
type_of (types.Var t) = Some t.btf_type
type_of (types.DeclTag t) = Some t.btf_type
type_of (types.TypeTag t) = Some t.btf_type
type_of _ = None

abbrev pub members_of : BtfType → List BtfMember
members_of (types.Struct t) = t.members
members_of (types.Union t) = t.members
members_of _ = []

abbrev pub variants_of : BtfType → List BtfEnum
variants_of (types.Enum t) = t.variants
variants_of _ = []

abbrev pub variants64_of : BtfType → List BtfEnum64
variants64_of (types.Enum64 t) = t.variants
variants64_of _ = []

abbrev pub params_of : BtfType → List BtfParam
params_of (types.FuncProto t) = t.params
params_of _ = []

abbrev pub entries_of : BtfType → List DataSecEntry
entries_of (types.DataSec t) = t.entries
entries_of _ = []

abbrev pub array_of : BtfType → Option BtfArray
array_of (types.Array t) = Some t.array
array_of _ = None

abbrev pub int_of : BtfType → Option Int
int_of (types.Int t) = Some t
int_of _ = None

abbrev pub func_of : BtfType → Option Func
func_of (types.Func t) = Some t
func_of _ = None

abbrev pub var_of : BtfType → Option Var
var_of (types.Var t) = Some t
var_of _ = None

abbrev pub decl_tag_of : BtfType → Option DeclTag
decl_tag_of (types.DeclTag t) = Some t
decl_tag_of _ = None

-- The enum that a UNION stands for.
abbrev pub fallback_of : BtfType → Option Enum64Fallback
fallback_of (types.Union t) = t.fallback
fallback_of _ = None
