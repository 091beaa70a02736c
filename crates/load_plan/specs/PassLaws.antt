-- What the passes do to records, slots and names, as the crates of the passes state it.
use Rattle.core_relocation.specs.Laws.{RelocationsRest, TypesAreWritten}
use Rattle.linker.specs.Copies.{SlotsAreCopied}
use Rattle.linker.specs.Renamed.{RenamedVisitsSame}
use Rattle.linker.specs.Theorems.{ReachedAreAppended}
use Rattle.load_plan.specs.ContentsLaws.{NamesAreCarried, RecordsName}
use Rattle.slot_relocation.specs.ExternLaws.{ExternsAreWritten}
use Rattle.slot_relocation.specs.Laws.{NumbersAreWritten}

-- The laws of the passes that a plan rests on.
pub record PassLaws : Type 0 where
  pub types : TypesAreWritten
  pub written : NumbersAreWritten
  pub externs : ExternsAreWritten
  pub copies : SlotsAreCopied
  pub reach : ReachedAreAppended
  pub renamed : RenamedVisitsSame
  pub records : RecordsName
  pub carry : NamesAreCarried
  pub rest : RelocationsRest
