-- What a kernel grants: features of types, and the newer helpers that read memory.
use Rattle.std.specs.Prelude.{ℤ, pos, Bool, true, Option, None, Some, not, ◌||◌}
use Rattle.btf_records.specs.declared.feature.BtfFeature.TheVariants as features
use Rattle.btf_records.specs.declared.kind.BtfKind.TheVariants as kinds
use Rattle.load_plan.specs.Inputs.{BtfFeature, Table}
use Rattle.report_checks.specs.Causes.{is_missing}
use Rattle.report_needs.specs.Enums.{func_ids, helper_presence, linkage_presence}
use Rattle.report_needs.specs.Kinds.{kind_presence}
use Rattle.report_needs.specs.declared.enums.Presence.{Presence}
use Rattle.report_needs.specs.declared.enums.Presence.TheVariants.{Unknown}

-- What a kernel's types say of a feature: of the kind of records that it stands for, or of linkages
-- of functions. They say nothing of empty sections of data.
abbrev pub feature_presence : Table → BtfFeature → Presence
feature_presence kernel features.Func = kind_presence kernel kinds.Func
feature_presence kernel features.FuncGlobal = linkage_presence kernel
feature_presence kernel features.DataSec = kind_presence kernel kinds.DataSec
feature_presence kernel features.DataSecZero = Unknown
feature_presence kernel features.Float = kind_presence kernel kinds.Float
feature_presence kernel features.DeclTag = kind_presence kernel kinds.DeclTag
feature_presence kernel features.TypeTag = kind_presence kernel kinds.TypeTag
feature_presence kernel features.Enum64 = kind_presence kernel kinds.Enum64

-- Whether a kernel, if its types are given, grants a feature: they don't say that it lacks it.
abbrev pub grants_of : Option Table → BtfFeature → Bool
grants_of None feature = true
grants_of (Some kernel) feature = not (is_missing (feature_presence kernel feature))

abbrev pub lacks_helper : Table → ℤ → Bool
lacks_helper kernel helper = is_missing (helper_presence kernel (func_ids kernel) helper)

-- Whether a kernel, if its types are given, has the helpers 112 to 115 (bpf_probe_read_user to
-- bpf_probe_read_kernel_str): its enum doesn't lack one of them.
abbrev pub has_newer_helpers : Option Table → Bool
has_newer_helpers None = true
has_newer_helpers (Some kernel) =
    not (lacks_helper kernel (pos 112)
    || (lacks_helper kernel (pos 113)
    || (lacks_helper kernel (pos 114) || lacks_helper kernel (pos 115))))
