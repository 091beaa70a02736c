use Rattle.std.proofs.Common.{sym}
use Rattle.linker.proofs.writing.place.Goals as goal

pub aim-requires-clause-start : goal.aim-requires-clause-start
aim-requires-clause-start c = c.requires.starts.each c.in-Some.key c.in-Some-get.start.now (sym c.in-Some-get.ensures.value)
