-- Reading a line.
use Rattle.std.proofs.Common.{◌≡◌, ℕ, List, None, Some, Result, Ok, Err, refl, ap, sym, ◌∙◌}
use Rattle.plan_lines.proofs.LineLaws.{line_again, line_takes}
use Rattle.plan_lines.proofs.NumberLists.{some_is}
use Rattle.plan_lines.specs.LineReading.{Says, line_in}
use Rattle.plan_lines.specs.LineReads.{IsReadLine, line_text}
use Rattle.plan_lines.specs.LineViews.{line_view}
use Rattle.plan_lines.specs.Lines.{IsSoundLine, LineContent}
use Rattle.plan_lines.specs.declared.error.LineError.{LineError}
use Rattle.plan_lines.specs.declared.error.LineError.TheVariants.{Invalid, OutOfMemory}
use Rattle.plan_lines.specs.declared.line.PlanLine.{PlanLine}

said_some : (bytes : List ℕ) (line : LineContent) → IsSoundLine line → bytes ≡ line_text line → line_in bytes ≡ Some line
said_some bytes line sound e = ap line_in e ∙ line_again line sound

-- A text is the text of at most one line.
pub told_apart : (line other : LineContent) → IsSoundLine line → IsSoundLine other → line_text line ≡ line_text other → line ≡ other
told_apart line other a b e = some_is line other (sym (line_again line a) ∙ said_some (line_text line) other b e)

pub is_read : (bytes : List ℕ) (answer : Result PlanLine LineError) → Says line_view (line_in bytes) answer → IsReadLine bytes answer
is_read bytes (Ok read) said = record {
  taken = line_takes bytes (line_view read) said;
  only = λ line sound e. some_is (line_view read) line (sym said ∙ said_some bytes line sound e);
}
is_read bytes (Err OutOfMemory) said = record { taken = tt; only = λ line sound e. refl }
is_read bytes (Err Invalid) said = record {
  taken = tt;
  only = λ line sound e. let none : line_in bytes ≡ None = said (λ (k : Invalid ≡ OutOfMemory). cc) in let some = said_some bytes line sound e in absurd cc;
}
