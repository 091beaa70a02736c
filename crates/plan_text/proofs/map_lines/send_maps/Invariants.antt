use Rattle.std.proofs.Common.{take}
use Rattle.std.specs.Prelude.{flat_map}
use Rattle.watched.specs.Watched.{Sends}
use Rattle.plan_text.specs.PlanGrammar.{map_lines}
use Rattle.plan_lines.specs.Words.{text_of_lines}
use Rattle.plan_text.proofs.map_lines.send_maps.Given as goal

abbrev pub invariant-loop-map : goal.invariant-loop-map
invariant-loop-map g l = Sends g.W.Write.contents l.fn.out l.out (text_of_lines (flat_map map_lines (take l.map-index l.maps)))
