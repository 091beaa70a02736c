-- The results of the steps of type relocation.
use Rattle.std.specs.Prelude.{◌≡◌, ◌⊎◌, ℕ, ◌++◌, ◌∷◌, [], Bool, true, not, List, map, Option, if◌then◌else◌}
use Rattle.std.specs.BTreeMap.{is_at}
use Rattle.std.specs.Map.{values_of}
use Rattle.btf_ext.specs.SectionInfos.{SectionInfo}
use Rattle.btf_ext.specs.declared.record.bpf_core_relo.{bpf_core_relo}
use Rattle.object_parts.specs.Content.{FunctionContent, key_cmp, key_of}
use Rattle.slot_relocation.specs.Walks.{AllSound, is_refused}
use Rattle.slot_relocation.specs.Writes.{after_one, outcome_at}
use Rattle.slot_relocation.specs.declared.outcome.Outcome.{Outcome}
use Rattle.slot_relocation.specs.declared.outcome.Outcome.TheVariants.{Refused}
use Rattle.core_patch.specs.declared.instruction.WriteError.{WriteError}
use Rattle.core_resolve.specs.RelocationOutcomes.{Matched}
use Rattle.core_relocation.specs.Faults.{FaultOfSectionInfo, LacksFunction, LacksOutcome, OfWrite, RecordsFault, WritesFault}
use Rattle.core_relocation.specs.Relocations.{TypesGiven, section_at}
use Rattle.core_relocation.specs.Writes.{after_types, inside_of, type_rule, with_match}
use Rattle.relocation_errors.specs.declared.type_relocations.BtfRelocationCause.{BtfRelocationCause}
use Rattle.core_relocation.specs.declared.placed_relocation.PlacedRelocation.{PlacedRelocation}

-- No cause has this property.
pub record StandsNone (Stands : BtfRelocationCause → Type 0) : Type 0 where
  pub none : (c : BtfRelocationCause) → Stands c → ⊥

-- The object's own types and the tables of a kernel.
abbrev pub matched : TypesGiven → Matched
matched g = record { local = g.local; targets = g.targets }

-- A fault of one relocation, before its instruction is read.
abbrev pub RecordFault : TypesGiven → Option ℕ → bpf_core_relo → BtfRelocationCause → Type 0
RecordFault g section r c = LacksFunction g section r c ⊎ LacksOutcome g r c

-- A fault of a section info, before its instructions are read.
abbrev pub SectionInfoFault : TypesGiven → SectionInfo bpf_core_relo → BtfRelocationCause → Type 0
SectionInfoFault g x c =
    FaultOfSectionInfo g x.name_offset c ⊎ RecordsFault g (section_at g x.name_offset) x.records c

-- ---- One relocation in a function

-- Whether a relocation is in a function.
abbrev pub is_in : PlacedRelocation → FunctionContent → Bool
is_in p f = is_at (key_cmp (key_of f)) p.key

-- The outcome of a relocation in a function, by its current slots.
abbrev pub outcome_in : PlacedRelocation → FunctionContent → Outcome WriteError
outcome_in p f = outcome_at type_rule f f.instructions (p.offset, p)

-- A function after a relocation: it is written into the slots.
abbrev pub with_patch : PlacedRelocation → FunctionContent → FunctionContent
with_patch p f = record f { instructions = after_one type_rule f f.instructions (p.offset, p) }

-- The same, with the table of the relocation's first match.
abbrev pub with_relocation : PlacedRelocation → FunctionContent → FunctionContent
with_relocation p f = record f {
  instructions = after_one type_rule f f.instructions (p.offset, p);
  matched_tables = with_match f.matched_tables p;
}

-- A function after a relocation that may be in another one.
abbrev pub after_relocation : PlacedRelocation → FunctionContent → FunctionContent
after_relocation p f = if is_in p f then with_relocation p f else f

-- Whether the relocation fits its instruction, or is in another function.
abbrev pub takes : PlacedRelocation → FunctionContent → Bool
takes p f = if is_in p f then not (is_refused (outcome_in p f)) else true

abbrev pub AllTake : PlacedRelocation → List FunctionContent → Type 0
AllTake p [] = Unit {0}
AllTake p (f ∷ fs) = (takes p f ≡ true) × AllTake p fs

-- The relocation doesn't fit its instruction.
abbrev pub IsRefusedBy : PlacedRelocation → FunctionContent → BtfRelocationCause → Type 0
IsRefusedBy p f c = (e : WriteError) × (outcome_in p f ≡ Refused e) × OfWrite e c

-- The relocation is in one of these functions and doesn't fit its instruction.
abbrev pub IsRefusedAmong : PlacedRelocation
    → List FunctionContent
    → BtfRelocationCause
    → Type 0
IsRefusedAmong p [] c = ⊥
IsRefusedAmong p (f ∷ fs) c = ((is_in p f ≡ true) × IsRefusedBy p f c) ⊎ IsRefusedAmong p fs c

-- ---- Relocations in all functions

-- The list has all functions, after these relocations, none of which has a fault.
pub record AreMade (g : TypesGiven) (ps : List PlacedRelocation) (list : List FunctionContent)
    : Type 0 where
  pub functions : list ≡ map (after_types (inside_of ps)) (values_of g.functions)
  pub sound : AllSound type_rule (inside_of ps) g.functions

-- These relocations are made in the functions, after those that were made before.
pub record MakesAll (g : TypesGiven) (ps : List PlacedRelocation) (old new : List FunctionContent)
    : Type 0 where
  pub after : (before : List PlacedRelocation)
      → AreMade g before old
      → AreMade g (before ++ ps) new

-- The write of one of these relocations has a fault, after those that were made before.
pub record HasWriteFault (g : TypesGiven) (ps : List PlacedRelocation) (old : List FunctionContent)
    (c : BtfRelocationCause) : Type 0 where
  pub after : (before : List PlacedRelocation)
      → AreMade g before old
      → WritesFault (inside_of (before ++ ps)) g.functions c
