use Rattle.std.proofs.Common.{◌≡◌, drop}
use Rattle.core_match.specs.Matches.{fields_matched, matched_from}
use Rattle.core_match.proofs.matching.fields_matched.Given as goal

abbrev pub invariant-loop-step : goal.invariant-loop-step
invariant-loop-step l = matched_from l.local l.target l.type_id l.steps l.progress (drop l.step-index l.path) ≡ fields_matched l.local l.path l.target l.type_id
