use Rattle.std.proofs.Common.{◌∙◌}
use Rattle.std.proofs.lemmas.Fmt.{IsAscii-decimal}
use Rattle.std.proofs.lemmas.Str.{IsUtf8-from_ascii}
use Rattle.std.specs.Fmt.{decimal}
use Rattle.plan_lines.proofs.WordTexts.{parsed_again}
use Rattle.plan_lines.proofs.words.parsed.Goals as goal

pub returns-in-Ok : goal.returns-in-Ok
returns-in-Ok c = λ n few is. c.ok.ensures.value ∙ parsed_again _ c.parse.result n c.parse.ensures.value.0 few (c.in-Ok.ensures.cases.0 ∙ is)

pub returns-in-Err : goal.returns-in-Err
returns-in-Err c = λ n few is. absurd (c.in-Err.ensures.cases.0 (rw is (IsUtf8-from_ascii (decimal n) (IsAscii-decimal n few))))
