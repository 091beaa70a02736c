-- The rewritten record of each kind. If a feature is missing, the record is replaced as in libbpf's
-- bpf_object__sanitize_btf (tools/lib/bpf/libbpf.c). Otherwise the record is adjusted to the
-- kernel's checks of names and linkages (kernel/bpf/btf.c).
use Rattle.std.specs.Prelude.{ℕ, ◌*◌, ◌==◌, ◌&&◌, Bool, false, true, not, if◌then◌else◌, List, [], ◌∷◌, length, map, Some, option_and_then, unwrap_or, max}
use Rattle.std.specs.Option.{option_map_or}
use Rattle.string_table.specs.Texts.{text_at}
use Rattle.btf_records.specs.Info.{flagged}
use Rattle.btf_records.specs.Fields.{name_offset_of, var_of}
use Rattle.btf_records.specs.declared.compound.Struct.{Struct}
use Rattle.btf_records.specs.declared.encoding.VarLinkage.{VarLinkage}
use Rattle.btf_records.specs.declared.encoding.VarLinkage.TheVariants as linkages
use Rattle.btf_records.specs.declared.feature.BtfFeature.TheVariants as feature
use Rattle.btf_records.specs.declared.functions.Func.{Func}
use Rattle.btf_records.specs.declared.functions.FuncProto.{FuncProto}
use Rattle.btf_records.specs.declared.item.BtfEnum.{BtfEnum}
use Rattle.btf_records.specs.declared.item.BtfEnum64.{BtfEnum64}
use Rattle.btf_records.specs.declared.item.BtfMember.{BtfMember}
use Rattle.btf_records.specs.declared.item.BtfParam.{BtfParam}
use Rattle.btf_records.specs.declared.item.DataSecEntry.{DataSecEntry}
use Rattle.btf_records.specs.declared.scalars.Enum64.{Enum64}
use Rattle.btf_records.specs.declared.types.BtfType.{BtfType}
use Rattle.btf_records.specs.declared.types.BtfType.TheVariants as types
use Rattle.btf_records.specs.declared.variables.DataSec.{DataSec}
use Rattle.btf_records.specs.declared.variables.Var.{Var}
use Rattle.btf_sanitize.specs.Additions.{Added, filler_id, next_offset, placeholder_id, renamed_offset, small_int, with_filler, with_placeholder, with_renamed, with_texts}
use Rattle.btf_sanitize.specs.Facts.{Facts, name_at, type_at}
use Rattle.btf_sanitize.specs.Names.{named_params, param_texts}
use Rattle.btf_sanitize.specs.Needs.{stays_global}

-- FUNC: without the feature the TYPEDEF of its name and type, as in libbpf. A global function
-- becomes static without the feature of global functions, as in libbpf, and also if it has the name
-- of a memory function.
abbrev pub rewritten_func : Facts → Func → BtfType
rewritten_func known t =
    if not (known.grants feature.Func)
    then types.Typedef
    (record { name_offset = t.name_offset; vlen = 0; info = flagged false; btf_type = t.btf_type })
    else
    if (t.vlen == 1)
    && not
    (stays_global (text_at known.strings t.name_offset) t.vlen && known.grants feature.FuncGlobal)
    then types.Func (record t { vlen = 0 })
    else types.Func t

-- FUNC_PROTO: without the feature an ENUM of 4 bytes with a variant for each parameter, as in
-- libbpf. With the feature its parameters get names, which the kernel requires in btf_func_check.
abbrev pub variant_of_param : BtfParam → BtfEnum
variant_of_param p = record { name_offset = p.name_offset; value = p.btf_type }

abbrev pub rewritten_func_proto : Facts → Added → FuncProto → BtfType
rewritten_func_proto known a t =
    if not (known.grants feature.Func)
    then types.Enum
    (record {
      name_offset = t.name_offset;
      info = flagged false;
      size = 4;
      variants = map variant_of_param t.params;
    })
    else types.FuncProto (record t { params = named_params 0 (next_offset a) t.params })

abbrev pub after_func_proto : Facts → Added → FuncProto → Added
after_func_proto known a t =
    if known.grants feature.Func then with_texts (param_texts 0 t.params) a else a

-- ENUM64: without the feature a UNION of its size with a member of one byte for each variant, as in
-- libbpf. The enum is kept as the fallback for relocations.
abbrev pub member_of_variant : ℕ → BtfEnum64 → BtfMember
member_of_variant placeholder v =
    record { name_offset = v.name_offset; btf_type = placeholder; offset = 0 }

abbrev pub after_enum64 : Facts → Added → Added
after_enum64 known a = if known.grants feature.Enum64 then a else with_placeholder a

abbrev pub rewritten_enum64 : Facts → Added → Enum64 → BtfType
rewritten_enum64 known a t =
    if known.grants feature.Enum64 then types.Enum64 t
    else types.Union
    (record {
      name_offset = t.name_offset;
      info = flagged false;
      size = t.size;
      members = map (member_of_variant (placeholder_id a)) t.variants;
      fallback = Some (record { signed = t.info.flag; variants = t.variants });
    })

-- DATASEC without the feature: a STRUCT with a member for each entry. Each `.` (46) of its name is
-- replaced by `_` (95), as in libbpf. libbpf keeps the size of the section and changes the name in
-- place; here the size is the number of entries.
abbrev pub member_of_entry : Facts → DataSecEntry → BtfMember
member_of_entry known e =
    record {
      name_offset = option_map_or name_offset_of (type_at known e.btf_type) 0;
      btf_type = e.btf_type;
      offset = 8 * e.offset;
    }

abbrev pub section_struct : Facts → Added → DataSec → Struct
section_struct known a t =
    record {
      name_offset = renamed_offset 46 (name_at known t.name_offset) t.name_offset a;
      info = flagged false;
      size = length t.entries;
      members = map (member_of_entry known) t.entries;
    }

-- DATASEC with the feature: each `/` (47) of its name is replaced by `.` (46), because kernels
-- reject `/` in names. A section without a size gets the size of the object's section of its
-- original name, and each variable that isn't static gets the offset of its symbol, as in libbpf's
-- btf_fixup_datasec, which also sorts the entries.
abbrev pub is_static : VarLinkage → Bool
is_static linkages.Static = true
is_static _ = false

abbrev pub placed_var : Facts → DataSecEntry → Var → DataSecEntry
placed_var known e v =
    if is_static v.linkage
    then e
    else record e
    { offset = unwrap_or (option_and_then known.offsets (text_at known.strings v.name_offset)) 0 }

abbrev pub placed : Facts → DataSecEntry → DataSecEntry
placed known e =
    option_map_or (placed_var known e) (option_and_then var_of (type_at known e.btf_type)) e

abbrev pub section_size : Facts → List ℕ → ℕ
section_size known name = unwrap_or (known.sizes name) 0

abbrev pub sized : Facts → DataSec → DataSec
sized known t =
    if t.size == 0
    then record t {
      size = section_size known (name_at known t.name_offset);
      entries = map (placed known) t.entries;
    }
    else t

-- Whether a section without size and variables gets a variable, because the kernel doesn't support
-- such sections.
abbrev pub is_filled : Facts → DataSec → Bool
is_filled known t =
    (t.size == 0) && (length t.entries == 0) && not (known.grants feature.DataSecZero)

abbrev pub with_new_name : Facts → Added → DataSec → Added
with_new_name known a t = with_renamed 47 46 (name_at known t.name_offset) a

abbrev pub filler_entry : ℕ → DataSecEntry
filler_entry filler = record { btf_type = filler; offset = 0; size = 1 }

abbrev pub granted_section : Facts → Added → DataSec → DataSec
granted_section known a t =
    let name_offset = renamed_offset 47 (name_at known t.name_offset) t.name_offset a in
    if is_filled known t
    then record t {
      name_offset = name_offset;
      size = max (sized known t).size 1;
      entries = filler_entry (filler_id (with_new_name known a t)) ∷ [];
    }
    else record (sized known t) { name_offset = name_offset }

abbrev pub rewritten_section : Facts → Added → DataSec → BtfType
rewritten_section known a t =
    if known.grants feature.DataSec
    then types.DataSec (granted_section known a t)
    else types.Struct (section_struct known a t)

abbrev pub after_granted : Facts → Added → DataSec → Added
after_granted known a t =
    if is_filled known t then with_filler (with_new_name known a t) else with_new_name known a t

abbrev pub after_section : Facts → Added → DataSec → Added
after_section known a t =
    if known.grants feature.DataSec
    then after_granted known a t
    else with_renamed 46 95 (name_at known t.name_offset) a

-- The rewritten record, given the additions for the records before it. PTR loses its name, which
-- the kernel rejects in btf_ref_type_check_meta. Without their features, as in libbpf: VAR and
-- DECL_TAG become an integer of one byte with their name, FLOAT a nameless struct of its size,
-- TYPE_TAG a nameless CONST, and a signed ENUM an unsigned one.
abbrev pub rewritten : Facts → Added → BtfType → BtfType
rewritten known a (types.Ptr t) = types.Ptr (record t { name_offset = 0 })
rewritten known a (types.Var t) =
    if known.grants feature.DataSec then types.Var t else small_int t.name_offset
rewritten known a (types.DataSec t) = rewritten_section known a t
rewritten known a (types.FuncProto t) = rewritten_func_proto known a t
rewritten known a (types.Func t) = rewritten_func known t
rewritten known a (types.Float t) =
    if known.grants feature.Float
    then types.Float t
    else types.Struct
    (record { name_offset = 0; info = flagged false; size = t.size; members = [] })
rewritten known a (types.DeclTag t) =
    if known.grants feature.DeclTag then types.DeclTag t else small_int t.name_offset
rewritten known a (types.TypeTag t) =
    if known.grants feature.TypeTag
    then types.TypeTag t
    else types.Const
    (record { name_offset = 0; vlen = 0; info = flagged false; btf_type = t.btf_type })
rewritten known a (types.Enum t) =
    if known.grants feature.Enum64
    then types.Enum t
    else types.Enum (record t { info = record t.info { flag = false } })
rewritten known a (types.Enum64 t) = rewritten_enum64 known a t
rewritten known a t = t

-- The additions after the record.
abbrev pub after : Facts → Added → BtfType → Added
after known a (types.DataSec t) = after_section known a t
after known a (types.FuncProto t) = after_func_proto known a t
after known a (types.Enum64 t) = after_enum64 known a
after known a _ = a

-- Whether the rewriting of a record depends on neither its name nor the additions.
abbrev pub is_alone : BtfType → Bool
is_alone (types.DataSec t) = false
is_alone (types.Func t) = false
is_alone (types.FuncProto t) = false
is_alone (types.Enum64 t) = false
is_alone _ = true

-- The records rewritten in order of ids, and all additions.
abbrev pub all_rewritten : Facts → Added → List BtfType → List BtfType
all_rewritten known a [] = []
all_rewritten known a (t ∷ ts) = rewritten known a t ∷ all_rewritten known (after known a t) ts

abbrev pub after_all : Facts → Added → List BtfType → Added
after_all known a [] = a
after_all known a (t ∷ ts) = after_all known (after known a t) ts
