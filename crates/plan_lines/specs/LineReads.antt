-- Reading a line.
use Rattle.std.specs.Prelude.{◌≡◌, ℕ, List, IfOk, Result, MatchResult}
use Rattle.plan_lines.specs.LineViews.{line_view}
use Rattle.plan_lines.specs.Lines.{IsSoundLine, LineContent, words_of_line}
use Rattle.plan_lines.specs.WordReading.{IsUnbroken}
use Rattle.plan_lines.specs.Words.{joined}
use Rattle.plan_lines.specs.declared.error.LineError.{LineError}
use Rattle.plan_lines.specs.declared.error.LineError.TheVariants.{OutOfMemory}
use Rattle.plan_lines.specs.declared.line.PlanLine.{PlanLine}

-- The text of a line, without the line feed that ends it.
abbrev pub line_text : LineContent → List ℕ
line_text line = joined (words_of_line line)

-- The bytes are read as the line whose text they are, if there is one. Out of memory is allowed.
pub record IsReadLine (bytes : List ℕ) (answer : Result PlanLine LineError) : Type 0 where
  pub taken : IfOk answer (λ line.
      IsSoundLine (line_view line) × (bytes ≡ line_text (line_view line)))
  pub only : (line : LineContent)
      → IsSoundLine line
      → bytes ≡ line_text line
      → MatchResult answer (λ read. line_view read ≡ line) (λ e. e ≡ OutOfMemory)

-- Different lines have different texts.
pub record LinesAreToldApart : Type 0 where
  pub same : (line other : LineContent)
      → IsSoundLine line
      → IsSoundLine other
      → line_text line ≡ line_text other
      → line ≡ other

-- No line has a line feed within its text.
pub record LinesAreUnbroken : Type 0 where
  pub each : (line : LineContent) → IsSoundLine line → IsUnbroken (line_text line)
