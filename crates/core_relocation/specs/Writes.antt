-- The writes of type relocations into the slots of functions.
use Rattle.std.specs.Prelude.{ℕ, ◌+◌, ◌/◌, List, map, filter, fold, slice_get}
use Rattle.std.specs.BTreeMap.{is_at}
use Rattle.std.specs.Option.{option_map_or}
use Rattle.object_parts.specs.Content.{FunctionContent, key_cmp, key_of}
use Rattle.object_parts.specs.Installed.{AreChanged}
use Rattle.object_parts.specs.MatchedTables.{with_table}
use Rattle.slot_relocation.specs.Writes.{RuleOf, relocated_by}
use Rattle.slot_relocation.specs.declared.outcome.Outcome.TheVariants.{Skipped}
use Rattle.core_patch.specs.Instructions.{patched}
use Rattle.core_relocation.specs.Relocations.{SectionInfos, TypesGiven, all_placed}
use Rattle.core_patch.specs.declared.instruction.WriteError.{WriteError}
use Rattle.core_relocation.specs.declared.placed_relocation.PlacedRelocation.{PlacedRelocation}

-- The rule for type relocations. A relocation is made at the slot that its distance from the start
-- of the function lies in. A relocation inside a function has such a slot.
abbrev pub type_rule : RuleOf PlacedRelocation WriteError
type_rule slots distance p =
    option_map_or (λ slot. patched slot (slice_get slots (distance / 8 + 1)) p.patch)
    (slice_get slots (distance / 8)) Skipped

-- The relocations of the function of a key, in order, with their offsets in its section.
abbrev pub placed_at : List PlacedRelocation → ℕ × ℕ → List (ℕ × PlacedRelocation)
placed_at ps key = map (λ p. (p.offset, p)) (filter (λ p. is_at (key_cmp key) p.key) ps)

abbrev pub inside_of : List PlacedRelocation → FunctionContent → List (ℕ × PlacedRelocation)
inside_of ps f = placed_at ps (key_of f)

-- The type relocations of a function.
abbrev pub types_inside : TypesGiven → SectionInfos → FunctionContent → List (ℕ × PlacedRelocation)
types_inside g section_infos f = inside_of (all_placed g section_infos) f

-- The tables with that of a relocation's first match, if it has one.
abbrev pub with_match : List ℕ → PlacedRelocation → List ℕ
with_match tables p = option_map_or (with_table tables) p.table tables

abbrev pub with_tables_of : List (ℕ × PlacedRelocation) → List ℕ → List ℕ
with_tables_of rs tables = fold (λ so_far r. with_match so_far r.1) tables rs

-- A function with the tables of the first matches of some relocations.
abbrev pub with_matches : List (ℕ × PlacedRelocation) → FunctionContent → FunctionContent
with_matches rs f = record f { matched_tables = with_tables_of rs f.matched_tables }

-- A function after relocations: they are written into its slots, and the tables of their first
-- matches are inserted.
abbrev pub after_types : (FunctionContent → List (ℕ × PlacedRelocation)) → FunctionContent → FunctionContent
after_types inside f = with_matches (inside f) (relocated_by type_rule (inside f) f)

-- A function after its type relocations.
abbrev pub with_types : TypesGiven → SectionInfos → FunctionContent → FunctionContent
with_types g section_infos f = after_types (types_inside g section_infos) f

-- Each function is relocated and stays under its key.
abbrev pub AreRelocated : TypesGiven → SectionInfos → List ((ℕ × ℕ) × FunctionContent) → Type 0
AreRelocated g section_infos new = AreChanged (with_types g section_infos) g.functions new
