-- The sections of an object that have functions.
use Rattle.std.specs.Prelude.{◌≡◌, ℕ, List, [], fold, Bool, ◌==◌}
use Rattle.std.specs.BTreeMap.{is_at}
use Rattle.std.specs.BTreeSet.{insert_key}
use Rattle.std.specs.List.{list_any}
use Rattle.std.specs.Map.{keys_of}
use Rattle.std.specs.Ordering.{nat_cmp}
use Rattle.object_parts.specs.Content.{FunctionContent}

-- The sections of functions with these keys, added to a sorted list without repetition.
abbrev pub with_sections : List ℕ → List (ℕ × ℕ) → List ℕ
with_sections sections keys = fold (λ so_far key. insert_key nat_cmp so_far key.0) sections keys

-- The indexes of the sections with functions.
abbrev pub text_sections : List ((ℕ × ℕ) × FunctionContent) → List ℕ
text_sections functions = with_sections [] (keys_of functions)

-- Whether the section with an index is in the list.
abbrev pub has_section : List ℕ → ℕ → Bool
has_section sections index = list_any (is_at (nat_cmp index)) sections

-- The list has the indexes of the sections with functions.
pub record AreTextSections (functions : List ((ℕ × ℕ) × FunctionContent)) (text_sections : List ℕ)
    : Type 0 where
  pub at : (index : ℕ) → has_section text_sections index ≡ list_any (λ e. e.0.0 == index) functions
