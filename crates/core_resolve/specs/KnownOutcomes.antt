-- Outcomes that are remembered.
use Rattle.std.specs.Prelude.{◌≡◌, All, List, Ok}
use Rattle.btf_tables.specs.Tables.{Table}
use Rattle.core_resolve.specs.RelocationOutcomes.{relocation_outcome}
use Rattle.core_resolve.specs.declared.known.KnownOutcome.{KnownOutcome}
use Rattle.core_resolve.specs.declared.relocation.RelocationOutcome.{RelocationOutcome}
use Rattle.core_resolve.specs.declared.relocation.TypeRelocation.{TypeRelocation}

abbrev pub IsOutcome : Table → List Table → TypeRelocation → RelocationOutcome → Type 0
IsOutcome local targets relocation outcome =
    relocation_outcome local relocation targets ≡ Ok outcome

pub record AreOutcomes (local : Table) (targets : List Table) (known : List KnownOutcome)
    : Type 0 where
  pub each : All (λ k. IsOutcome local targets k.relocation k.outcome) known
