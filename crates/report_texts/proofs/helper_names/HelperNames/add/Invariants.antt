use Rattle.std.proofs.Common.{drop}
use Rattle.std.specs.List.{flat_map}
use Rattle.report_texts.specs.Helpers.{numbers_in, numbers_of}
use Rattle.report_texts.proofs.Added.{AreLeft}
use Rattle.report_texts.proofs.helper_names.HelperNames.add.Given as goal

abbrev pub invariant-loop-program : goal.invariant-loop-program
invariant-loop-program l = AreLeft l.kernel (flat_map numbers_in (drop l.program-index l.report.programs.items)) (numbers_of l.report) l.fn.self l.self
