-- The relocations between two offsets.
use Rattle.std.proofs.Common.{arith, ◌≡◌, ℕ, List, ap, ◌∙◌, length}
use Rattle.std.specs.Prelude.{nat_le, nat_lt, ◌&&◌, filter}
use Rattle.std.specs.BTreeMap.Range.{entries_between, range_contains}
use Rattle.std.specs.Ordering.{nat_cmp}
use Rattle.std.specs.declared.ops.Bound.TheVariants.{Included, Excluded}
use Rattle.std.proofs.lemmas.Bool.Decides.{nat_tests}
use Rattle.std.proofs.lemmas.List.Elements.{filter_agree}
use Rattle.object_file.specs.Relocations.{relocations_by_offset}
use Rattle.object_parts.specs.Content.{FunctionContent}
use Rattle.elf64.specs.Relocations.{Relocation}
use Rattle.object_parts.specs.Geometry.{end_of, is_inside}
use Rattle.slot_relocation.specs.Writes.{number_of, relocations_inside}

between : (a b k : ℕ) → range_contains nat_cmp (Included a) (Excluded b) k ≡ (nat_le a k && nat_lt k b)
between a b k = grind (arith, nat_tests)

-- The relocations between a function's offset and its end are those inside the function.
inside_between : (f : FunctionContent) (start end : ℕ) (es : List (ℕ × Relocation)) → start ≡ f.section_offset → end ≡ end_of f → entries_between nat_cmp (Included start) (Excluded end) es ≡ filter (λ r. is_inside f r.0) es
inside_between f start end es begins ends =
    rw (begins, ends) (filter_agree (λ r. range_contains nat_cmp (Included f.section_offset) (Excluded (end_of f)) r.0) (λ r. is_inside f r.0) (λ r. between f.section_offset (end_of f) r.0) es)

pub inside_is : (file : List ℕ) (f : FunctionContent) (section start end : ℕ) (rs : List (ℕ × Relocation)) → rs ≡ entries_between nat_cmp (Included start) (Excluded end) (relocations_by_offset file section) → section ≡ f.section_index → start ≡ f.section_offset → end ≡ end_of f → rs ≡ relocations_inside file f
inside_is file f section start end rs e same begins ends =
    e ∙ inside_between f start end (relocations_by_offset file section) begins ends ∙ ap (λ n. filter (λ r. is_inside f r.0) (relocations_by_offset file n)) same

from_first : (b k : ℕ) → range_contains nat_cmp (Included 0) (Excluded b) k ≡ nat_lt k b
from_first b k = grind (arith, nat_tests)

pub number_between : (file : List ℕ) (section offset : ℕ) → length (entries_between nat_cmp (Included 0) (Excluded offset) (relocations_by_offset file section)) ≡ number_of file section offset
number_between file section offset =
    ap length (filter_agree (λ r. range_contains nat_cmp (Included 0) (Excluded offset) r.0) (λ r. nat_lt r.0 offset) (λ r. from_first offset r.0) (relocations_by_offset file section))
