-- The types of a kernel's tables that are searched.
use Rattle.std.specs.Prelude.{◌≡◌, ℕ, List, [], ◌∷◌, if◌then◌else◌, map, slice_get, IfSome, Some}
use Rattle.btf_records.specs.declared.kind.BtfKind.{BtfKind}
use Rattle.btf_records.specs.declared.kind.BtfKind.TheVariants.{Enum64}
use Rattle.btf_tables.specs.Tables.{Table}
use Rattle.core_match.specs.Candidates.{Wanted}
use Rattle.core_match.specs.declared.kernel_type.KernelType.{KernelType}

abbrev pub kinds_of : Wanted → List BtfKind
kinds_of wanted =
    if wanted.or_enum64 then wanted.kind ∷ Enum64 ∷ [] else wanted.kind ∷ []

abbrev pub type_at : ℕ → ℕ → KernelType
type_at table id = record { table = table; type_id = id }

abbrev pub types_of_ids : ℕ → List ℕ → List KernelType
types_of_ids table ids = map (type_at table) ids

-- The first tables are a prefix of all tables.
pub record AreFirst (first all : List Table) : Type 0 where
  pub each : (table : ℕ)
      → IfSome (slice_get first table) (λ t. slice_get all table ≡ Some t)
