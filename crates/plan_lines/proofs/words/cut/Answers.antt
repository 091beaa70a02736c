use Rattle.plan_lines.proofs.Cut.{piece_first, piece_whole}
use Rattle.plan_lines.proofs.words.cut.Goals as goal

pub returns-in-Some : goal.returns-in-Some
returns-in-Some c = piece_first _ _ _ c.in-Some.ensures.0 c.in-Some.ensures.1

pub returns-in-None : goal.returns-in-None
returns-in-None c = piece_whole _ c.in-None.ensures
