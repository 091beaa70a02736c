-- A rewriting keeps records and texts.
use Rattle.std.proofs.Common.{ℕ, List, Option, None, Some, refl}
use Rattle.btf_rewrite.proofs.Kept.{step_kept}
use Rattle.btf_rewrite.specs.Ksyms.{stepped_texts}
use Rattle.btf_rewrite.proofs.Carried.{rewriting_carries}
use Rattle.btf_rewrite.proofs.Sanitized.{texts_then}
use Rattle.btf_rewrite.specs.Carrying.{Carries, stays_in}
use Rattle.btf_rewrite.specs.Sanitizing.{StepStays, facts_in, ksyms_in, sanitized, stepped}
use Rattle.btf_sanitize.proofs.Kept.{kept}
use Rattle.btf_sanitize.specs.Answers.{Answers}
use Rattle.btf_sanitize.specs.Sanitized.{all_added}
use Rattle.btf_tables.proofs.Texts.{texts_after}
use Rattle.btf_tables.specs.GrownTables.{TextsStay}
use Rattle.btf_tables.specs.Tables.{Table}

pub step_stays : (ksyms : Option (ℕ × Option ℕ)) (table : Table) → StepStays ksyms table
step_stays None table = tt
step_stays (Some ids) table = step_kept (ksyms_in table ids.0 ids.1)

stepped_stay : (ksyms : Option (ℕ × Option ℕ)) (table : Table) → TextsStay table (stepped ksyms table)
stepped_stay None table = record { stay = λ offset text here. here }
stepped_stay (Some ids) table =
    texts_after table (stepped (Some ids) table) (stepped_texts (ksyms_in table ids.0 ids.1)) refl

module _ (ksyms : Option (ℕ × Option ℕ)) (answers : Answers) (sizes offsets : List ℕ → Option ℕ) (table : Table) where
  abbrev rewritten : Table
  rewritten = sanitized answers sizes offsets (stepped ksyms table)

  sanitized_stay : TextsStay (stepped ksyms table) rewritten
  sanitized_stay =
      texts_after (stepped ksyms table) rewritten (all_added (facts_in answers sizes offsets (stepped ksyms table))).texts refl

  pub texts_stay : TextsStay table rewritten
  texts_stay = texts_then table (stepped ksyms table) rewritten (stepped_stay ksyms table) sanitized_stay

  pub rewriting_kept : Carries (stays_in ksyms table (facts_in answers sizes offsets (stepped ksyms table))) table rewritten
  rewriting_kept =
      rewriting_carries ksyms answers sizes offsets table rewritten (step_stays ksyms table)
      (kept (facts_in answers sizes offsets (stepped ksyms table))) texts_stay
