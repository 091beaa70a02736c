-- The results that hold for a rewritten table if they hold for the table before the rewriting.
use Rattle.std.specs.Prelude.{◌≡◌, ℕ, ◌&&◌, Bool, true, All, IfSome, IsSomeAnd, Option, None, Some, is_some}
use Rattle.btf_rewrite.specs.Ksyms.{leaves}
use Rattle.btf_records.specs.declared.types.BtfType.{BtfType}
use Rattle.btf_sanitize.specs.Facts.{Facts}
use Rattle.btf_sanitize.specs.Stays.{stays}
use Rattle.btf_tables.specs.Agreement.{AgreeOn, AgreeOnNames}
use Rattle.btf_tables.specs.Holdings.{AgreeOnTexts, held_ids, held_names}
use Rattle.btf_rewrite.specs.Sanitizing.{ksyms_in}
use Rattle.btf_tables.specs.Tables.{Table, type_by_id}
use Rattle.string_table.specs.Texts.{text_at}

-- Whether the rewriting of `.ksyms` and that for the granted features both leave the record of an
-- id as it is.
abbrev pub stays_in : Option (ℕ × Option ℕ) → Table → Facts → ℕ → BtfType → Bool
stays_in None table known id t = stays known t
stays_in (Some ids) table known id t = leaves (ksyms_in table ids.0 ids.1) id t && stays known t

-- The records of the reached ids stay as they are, and lead only to reached ids.
pub record AreLeft (is_left : ℕ → BtfType → Bool) (reached : ℕ → Bool) (table : Table)
    : Type 0 where
  pub left : (id : ℕ)
      → reached id ≡ true
      → IsSomeAnd (type_by_id table id) (λ t. is_left id t ≡ true)
  pub closed : (id : ℕ)
      → reached id ≡ true
      → IfSome (type_by_id table id) (λ t. All (λ next. reached next ≡ true) (held_ids t))

-- The names that the records of the reached ids hold can be read.
pub record AreReadable (reached : ℕ → Bool) (table : Table) : Type 0 where
  pub each : (id : ℕ)
      → reached id ≡ true
      → IfSome (type_by_id table id) (λ t.
      All (λ offset. is_some (text_at table.strings offset) ≡ true) (held_names t))

-- A result that depends only on such ids and names is the same for both tables.
pub record Carries (is_left : ℕ → BtfType → Bool) (one other : Table) : Type 0 where
  pub ids : (reached : ℕ → Bool) → AreLeft is_left reached one → AgreeOn held_ids reached one other
  pub names : (reached : ℕ → Bool) → AreReadable reached one → AgreeOnNames reached one other
  pub texts : (reached : ℕ → Bool) → AreReadable reached one → AgreeOnTexts reached one other
