-- The result of reading a plan.
use Rattle.std.specs.Prelude.{◌≡◌, ℕ, ◌+◌, ◌⊎◌, List, [], ◌∷◌, ◌++◌, length, Result, Ok, Err}
use Rattle.plan_lines.specs.WordReading.{IsUnbroken}
use Rattle.plan_text.specs.Content.{IsPlan, PlanContent}
use Rattle.plan_text.specs.PlanGrammar.{BeginsPlanText, IsPlanText, IsTextOf}
use Rattle.plan_text.specs.declared.reading.PlanReadError.{PlanReadError}
use Rattle.plan_text.specs.declared.reading.PlanReadError.TheVariants as error

-- Lines, each with the line feed that ends it.
abbrev pub ended : List (List ℕ) → List ℕ
ended [] = []
ended (line ∷ lines) = line ++ 10 ∷ ended lines

-- No line has a line feed within it.
abbrev pub AreUnbroken : List (List ℕ) → Type 0
AreUnbroken [] = Unit {0}
AreUnbroken (line ∷ lines) = IsUnbroken line × AreUnbroken lines

-- After `front` comes a line with which no plan's text begins.
pub record EndsPlanText (front rest : List ℕ) : Type 0 where
  pub line : List ℕ
  pub others : List ℕ
  pub cut : rest ≡ line ++ 10 ∷ others
  pub unbroken : IsUnbroken line
  pub bad : BeginsPlanText (front ++ (line ++ 10 ∷ [])) → ⊥

-- The number, from 1, of the first line with which no plan's text begins: some plan's text begins
-- with the lines before it. If there is no such line, the text ends too early, and the number is
-- that of the line after the last whole one.
pub record IsFirstBadLine (bytes : List ℕ) (bad_line : ℕ) : Type 0 where
  pub before : List (List ℕ)
  pub rest : List ℕ
  pub split : bytes ≡ ended before ++ rest
  pub unbroken : AreUnbroken before
  pub number : bad_line ≡ length before + 1
  pub begins : BeginsPlanText (ended before)
  pub stops : IsUnbroken rest ⊎ EndsPlanText (ended before) rest
  pub none : IsPlanText bytes → ⊥

abbrev pub IsReadFault : List ℕ → PlanReadError → Type 0
IsReadFault bytes (error.Line number) = IsFirstBadLine bytes number
IsReadFault bytes error.OutOfMemory = Unit {0}

-- The bytes are a text of this plan and of no other.
pub record IsReadPlan (bytes : List ℕ) (plan : PlanContent) : Type 0 where
  pub sound : IsPlan plan
  pub text : IsTextOf plan bytes
  pub only : (other : PlanContent) → IsTextOf other bytes → plan ≡ other

-- The plan was read, or memory ran out.
abbrev pub ReadsAs : Result PlanContent PlanReadError → PlanContent → Type 0
ReadsAs (Ok read) plan = read ≡ plan
ReadsAs (Err error.OutOfMemory) plan = Unit {0}
ReadsAs (Err (error.Line number)) plan = ⊥
