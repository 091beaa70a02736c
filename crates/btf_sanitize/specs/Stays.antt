-- Records that a rewriting leaves as they are.
use Rattle.std.specs.Prelude.{◌≡◌, ◌==◌, ◌&&◌, ◌||◌, Bool, true, false, not}
use Rattle.std.specs.List.{list_any}
use Rattle.btf_encoding.specs.Records.{bits_of, count_of}
use Rattle.btf_records.specs.Fields.{kind_of_type, name_offset_of, params_of}
use Rattle.btf_records.specs.declared.feature.BtfFeature.TheVariants as feature
use Rattle.btf_records.specs.declared.kind.BtfKind.{BtfKind}
use Rattle.btf_records.specs.declared.kind.BtfKind.TheVariants as kinds
use Rattle.btf_records.specs.declared.types.BtfType.{BtfType}
use Rattle.btf_sanitize.specs.Additions.{Added}
use Rattle.btf_sanitize.specs.Facts.{Facts}
use Rattle.btf_sanitize.specs.Faults.{KindFault}
use Rattle.btf_sanitize.specs.Names.{is_nameless}
use Rattle.btf_sanitize.specs.Rewritten.{after, rewritten}
use Rattle.btf_storage.specs.Faultless.{IsFaultless}

-- Whether a record of a kind is known to stay as it is, by its first words and its parameters.
abbrev pub stays_as : BtfKind → Facts → BtfType → Bool
stays_as kinds.Ptr known t = name_offset_of t == 0
stays_as kinds.Var known t = known.grants feature.DataSec
stays_as kinds.DataSec known t = false
stays_as kinds.FuncProto known t =
    known.grants feature.Func && not (list_any is_nameless (params_of t))
stays_as kinds.Func known t = known.grants feature.Func && not (count_of t == 1)
stays_as kinds.Float known t = known.grants feature.Float
stays_as kinds.DeclTag known t = known.grants feature.DeclTag
stays_as kinds.TypeTag known t = known.grants feature.TypeTag
stays_as kinds.Enum known t = known.grants feature.Enum64 || not (bits_of t).flag
stays_as kinds.Enum64 known t = known.grants feature.Enum64
stays_as _ known t = true

abbrev pub stays : Facts → BtfType → Bool
stays known t = stays_as (kind_of_type t) known t

-- The record stays as it is, nothing is added for it, and it has no fault.
pub record StaysAlone (known : Facts) (t : BtfType) : Type 0 where
  pub same : (a : Added) → rewritten known a t ≡ t
  pub nothing : (a : Added) → after known a t ≡ a
  pub faultless : IsFaultless (KindFault known t)
