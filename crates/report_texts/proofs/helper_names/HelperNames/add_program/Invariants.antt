use Rattle.std.proofs.Common.{drop, map}
use Rattle.report_texts.specs.Helpers.{numbers_in}
use Rattle.report_texts.proofs.Added.{AreLeft}
use Rattle.report_texts.proofs.helper_names.HelperNames.add_program.Given as goal

abbrev pub invariant-loop-need : goal.invariant-loop-need
invariant-loop-need l = AreLeft l.kernel (map (λ need. need.number) (drop l.need-index l.report.needs.helpers.items)) (numbers_in l.report) l.fn.self l.self
