-- The number of members of a record.
use Rattle.std.proofs.Common.{◌≡◌, ℕ, ◌≤◌, None, length, sym, arith}
use Rattle.std.proofs.lemmas.Option.{slice_get_past}
use Rattle.std.specs.Prelude.{slice_get}
use Rattle.btf_encoding.specs.Records.{count_of}
use Rattle.btf_records.specs.Fields.{members_of}
use Rattle.btf_records.specs.declared.types.BtfType.{BtfType}
use Rattle.btf_records.specs.declared.types.BtfType.TheVariants as types

few_members : (t : BtfType) → length (members_of t) ≤ count_of t
few_members (types.Struct t) = omega arith
few_members (types.Union t) = omega arith
few_members _ = omega arith

pub no_more : (t : BtfType) (index : ℕ) → count_of t ≤ index → None ≡ slice_get (members_of t) index
no_more t index le =
    let few = few_members t in
    sym (slice_get_past (members_of t) index (omega arith))
