-- Laws of searches, and of paths in the target's types.
use Rattle.std.specs.Prelude.{◌≡◌, ◌≤◌, ℕ, Bool, true, List, [], Option}
use Rattle.core_spec.specs.Laws.{AreAlike, IsReachedPath}
use Rattle.core_spec.specs.declared.path.AccessPath.{AccessPath}
use Rattle.core_spec.specs.declared.subject.Subject.{Subject}
use Rattle.btf_tables.specs.Tables.{Table}
use Rattle.core_match.specs.Looks.{Search, searched}
use Rattle.core_match.specs.Matches.{matching_path}
use Rattle.core_match.specs.Searches.{found_in, member_found, most_open}

-- The limit on open structs and unions changes no result if it is at least the number of types.
pub record NestingNeverDecides : Type 0 where
  pub same : (search : Search) (root : ℕ) (bits : Option ℕ) (n : ℕ) → most_open search.target ≤ n
      → found_in n search [] root bits ≡ member_found search root bits

-- A search for a member that is compatible with a local type has the same result from every other
-- local table that agrees on the records reached from this type and on their texts.
pub record SearchesRest : Type 0 where
  pub same : (reached : ℕ → Bool) (one other : Table) → AreAlike reached one other → (id : ℕ)
      → reached id ≡ true
      → (name : List ℕ) (target : Table) (root : ℕ) (bits : Option ℕ)
      → member_found (searched other id name target) root bits
      ≡ member_found (searched one id name target) root bits

-- The path in a target's type is the same for every other local table that agrees on the records
-- reached from the local path and on their texts.
pub record MatchesRest : Type 0 where
  pub same : (reached : ℕ → Bool) (one other : Table) → AreAlike reached one other
      → (subject : Subject) (path : AccessPath) → IsReachedPath reached path
      → (target : Table) (id : ℕ)
      → matching_path subject other path target id ≡ matching_path subject one path target id
