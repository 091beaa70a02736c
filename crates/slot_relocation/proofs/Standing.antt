-- The slots of a function after the relocations in the file, which are at whole slots and have
-- strictly increasing offsets.
use Rattle.std.proofs.Common.{arith, ◌≡◌, ℕ, ◌+◌, ◌-◌, ◌/◌, ◌%◌, ◌<◌, ◌≤◌, inl, inr, true, List, [], ◌∷◌, ◌++◌, Some, refl, sym, ap, ◌∙◌, subst}
use Rattle.std.specs.Prelude.{slice_get, fold}
use Rattle.std.specs.Ordering.{nat_cmp}
use Rattle.std.specs.declared.cmp.Ordering.TheVariants.{Less}
use Rattle.std.specs.List.{AllByRecursion}
use Rattle.std.specs.List.Sorted.{IsStrictlySortedBy}
use Rattle.std.proofs.lemmas.Bool.Decides.{nat_tests}
use Rattle.std.proofs.lemmas.Cmp.{ranked}
use Rattle.std.proofs.lemmas.List.Elements.{filter_passes, recursion_from_All}
use Rattle.ebpf_items.specs.declared.instruction.bpf_insn.{bpf_insn}
use Rattle.object_file.specs.Relocations.{relocations_by_offset}
use Rattle.object_parts.specs.Content.{FunctionContent}
use Rattle.object_parts.specs.Geometry.{is_inside}
use Rattle.slot_relocation.specs.declared.outcome.Write.{Write}
use Rattle.slot_relocation.specs.BySymbol.{Does, symbol_rule}
use Rattle.slot_relocation.specs.WriteLaws.{IsKept, Makes, Reaches}
use Rattle.slot_relocation.specs.Writes.{after, after_all, after_one, distance, index_of_slot, relocations_inside}
use Rattle.slot_relocation.proofs.AfterAll.{after_split}
use Rattle.slot_relocation.proofs.BySymbol.{Stands, stands}
use Rattle.slot_relocation.proofs.Rising.{AllAbove, IsRising, Placed, offsets_rise, rising_filter}
use Rattle.slot_relocation.proofs.Writing.{stays_at, written_here}

rising_from : (before : List Placed) (r : Placed) (rest : List Placed) → IsRising (before ++ (r ∷ rest)) → AllAbove r.0 rest
unfolding IsStrictlySortedBy
rising_from [] r rest up = up.0
rising_from (b ∷ before) r rest up = rising_from before r rest up.1

abbrev AllInside : FunctionContent → List Placed → Type 0
AllInside f [] = Unit {0}
AllInside f (r ∷ rs) = (is_inside f r.0 ≡ true) × AllInside f rs

inside_at : (f : FunctionContent) (before : List Placed) (r : Placed) (rest : List Placed) → AllInside f (before ++ (r ∷ rest)) → is_inside f r.0 ≡ true
inside_at f [] r rest all = all.0
inside_at f (b ∷ before) r rest all = inside_at f before r rest all.1

from_start : (f : FunctionContent) (offset : ℕ) → is_inside f offset ≡ true → f.section_offset ≤ offset
from_start f offset h = grind (arith, nat_tests)

above : (a b : ℕ) → nat_cmp a b ≡ Less → a < b
above a b h = ranked a b Less (sym h)

-- A whole slot with a greater offset has a greater index.
after_of : (start a b : ℕ) → start ≤ a → a < b → (a - start) % 8 ≡ 0 → (b - start) % 8 ≡ 0 → (a - start) / 8 < (b - start) / 8
after_of start a b from less whole other = omega arith

not_at : (p q : ℕ) (w : Write) → q < p → Reaches p w q → ⊥
not_at p q w less (inl same) = omega arith
not_at p q w less (inr next) = let same = next.1 in omega arith

later_stay : (file : List ℕ) (does : Does) (f : FunctionContent) (r : Placed) (slots : List bpf_insn) (rest : List Placed) → f.section_offset ≤ r.0 → distance f r.0 % 8 ≡ 0 → AllAbove r.0 rest → slice_get (fold (after_one (symbol_rule file does) f) slots rest) (index_of_slot f r.0) ≡ slice_get slots (index_of_slot f r.0)
later_stay file does f r slots [] from whole up = refl
later_stay file does f r slots (x ∷ rest) from whole up =
    later_stay file does f r (after_one (symbol_rule file does) f slots x) rest from whole up.1
    ∙ stays_at (symbol_rule file does) f slots x (index_of_slot f r.0) (λ w made. not_at (index_of_slot f x.0) (index_of_slot f r.0) w (after_of f.section_offset r.0 x.0 from (above r.0 x.0 up.0) whole (stands file does slots (distance f x.0) x.1 w made).whole))

inside_passed : (f : FunctionContent) (rs : List Placed) → AllByRecursion (λ r. is_inside f r.0 ≡ true) rs → AllInside f rs
inside_passed f [] all = tt
inside_passed f (r ∷ rs) all = (all.0, inside_passed f rs all.1)

inside_all : (file : List ℕ) (f : FunctionContent) → AllInside f (relocations_inside file f)
inside_all file f = inside_passed f (relocations_inside file f) (recursion_from_All (λ r. is_inside f r.0 ≡ true) (relocations_inside file f) (filter_passes (λ r. is_inside f r.0) (relocations_by_offset file f.section_index)))

-- The slot that a relocation writes first is unchanged by all later relocations.
kept : (file : List ℕ) (does : Does) (f : FunctionContent) (r : Placed) (w : Write) → (m : Makes (symbol_rule file does) f (relocations_inside file f) r w) → Stands file does (after_all (symbol_rule file does) f m.before) (distance f r.0) r.1 w → slice_get (after_all (symbol_rule file does) f (relocations_inside file f)) (index_of_slot f r.0) ≡ Some w.first
kept file does f r w m s =
    let rule = symbol_rule file does in
    let slots = after_all rule f m.before in
    let inside = inside_at f m.before r m.rest (subst (AllInside f) (sym m.split) (inside_all file f)) in
    let up = rising_from m.before r m.rest (subst IsRising (sym m.split) (rising_filter (λ x. is_inside f x.0) (relocations_by_offset file f.section_index) (offsets_rise file f.section_index))) in
    ap (λ rs. slice_get (fold (after_one rule f) f.instructions rs) (index_of_slot f r.0)) (sym m.split)
    ∙ ap (λ l. slice_get l (index_of_slot f r.0)) (after_split rule f f.instructions m.before r m.rest)
    ∙ later_stay file does f r (after_one rule f slots r) m.rest (from_start f r.0 inside) s.whole up
    ∙ ap (λ o. slice_get (after slots (index_of_slot f r.0) o) (index_of_slot f r.0)) m.outcome
    ∙ written_here slots (index_of_slot f r.0) w s.slot s.at

pub is_kept : (file : List ℕ) (does : Does) (f : FunctionContent) (r : Placed) (w : Write) → Makes (symbol_rule file does) f (relocations_inside file f) r w → IsKept file does f r w
is_kept file does f r w m =
    let slots = after_all (symbol_rule file does) f m.before in
    let s = stands file does slots (distance f r.0) r.1 w m.outcome in
    record { slot = s.slot; next = slice_get slots (distance f r.0 / 8 + 1); symbol = s.symbol; known = s.known; made = s.made; kept = kept file does f r w m s }
