-- The kernel's functions that check records of types (kernel/bpf/btf.c). They tell the kinds of
-- records that a kernel has whose types lack the enum of the kinds' numbers.
use Rattle.std.specs.Prelude.{ℕ, Bool, List, codes, if◌then◌else◌, is_some}
use Rattle.btf_records.specs.declared.kind.BtfKind.{BtfKind}
use Rattle.btf_records.specs.declared.kind.BtfKind.TheVariants as kinds
use Rattle.btf_tables.specs.Tables.{Table}
use Rattle.report_needs.specs.Enums.{missing_or_unknown}
use Rattle.report_needs.specs.Records.{first_named}
use Rattle.report_needs.specs.declared.check_functions.CheckFunctions.{CheckFunctions}
use Rattle.report_needs.specs.declared.enums.Presence.{Presence}
use Rattle.report_needs.specs.declared.enums.Presence.TheVariants.{Found, Missing, Unknown}

abbrev pub has_function : Table → List ℕ → Bool
has_function kernel name = is_some (first_named kernel kinds.Func name)

-- Whether the kernel has a function of btf.c. Nothing is known if its types lack even the function
-- that checks integers, which each kernel with BTF has.
abbrev pub function_presence : Table → List ℕ → Presence
function_presence kernel name =
    if has_function kernel name then Found
    else (if has_function kernel (codes "btf_int_check_meta") then Missing else Unknown)

-- The functions that check the kinds of records that came after Linux 5.12.
abbrev pub check_functions : Table → CheckFunctions
check_functions kernel =
    record {
      float = function_presence kernel (codes "btf_float_check_meta");
      decl_tag = function_presence kernel (codes "btf_decl_tag_check_meta");
      enum64 = function_presence kernel (codes "btf_enum64_check_meta");
    }

-- What they tell of a kind of records. TYPE_TAG came after DECL_TAG and has no function of its own.
abbrev pub checked_presence : CheckFunctions → BtfKind → Presence
checked_presence functions kinds.Float = functions.float
checked_presence functions kinds.DeclTag = functions.decl_tag
checked_presence functions kinds.TypeTag = missing_or_unknown functions.decl_tag
checked_presence functions kinds.Enum64 = functions.enum64
checked_presence functions _ = Unknown
