-- Laws of comparisons.
use Rattle.std.specs.Prelude.{◌≡◌, ℕ, Bool, true}
use Rattle.btf_tables.specs.Agreement.{AgreeOn}
use Rattle.btf_tables.specs.Holdings.{AgreeOnTexts, held_ids}
use Rattle.btf_tables.specs.Tables.{Table}
use Rattle.btf_compatibility.specs.FieldCompatibility.{fields_compatible}
use Rattle.btf_compatibility.specs.TypeCompatibility.{types_compatible}

-- A comparison with a type of a target table has the same result from every other local table that
-- agrees on the records that are reached from the local type, and on their texts.
pub record ComparisonsRest : Type 0 where
  pub fields : (reached : ℕ → Bool) (one other : Table)
      → AgreeOn held_ids reached one other
      → AgreeOnTexts reached one other
      → (l : ℕ)
      → reached l ≡ true
      → (target : Table) (r : ℕ)
      → fields_compatible other l target r ≡ fields_compatible one l target r
  pub types : (reached : ℕ → Bool) (one other : Table)
      → AgreeOn held_ids reached one other
      → (l : ℕ)
      → reached l ≡ true
      → (target : Table) (r : ℕ)
      → types_compatible other l target r ≡ types_compatible one l target r
