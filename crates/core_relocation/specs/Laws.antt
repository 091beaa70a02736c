-- Laws of type relocations: the slots of a function after its relocations, and the part of the
-- object's own types that they depend on.
use Rattle.std.specs.Prelude.{◌≡◌, ◌≢◌, ◌<◌, ℕ, true, List, length, slice_get, Some, All, Result, Ok, Err}
use Rattle.btf_tables.specs.Holdings.{AgreeOnTexts}
use Rattle.btf_tables.specs.Tables.{Table, type_by_id}
use Rattle.ebpf_items.specs.declared.instruction.bpf_insn.{bpf_insn}
use Rattle.object_parts.specs.Content.{FunctionContent, function_at}
use Rattle.slot_relocation.specs.WriteLaws.{IsWritten, WritesAlone}
use Rattle.string_table.specs.Texts.{text_at}
use Rattle.core_relocation.specs.Carried.{CarriesType}
use Rattle.core_relocation.specs.Faults.{CanBeRelocated, HasTypesFault}
use Rattle.core_relocation.specs.Reach.{reach_of}
use Rattle.core_relocation.specs.Relocations.{SectionInfos, TypesGiven, all_placed}
use Rattle.core_relocation.specs.Writes.{AreRelocated, type_rule, types_inside}
use Rattle.relocation_errors.specs.declared.type_relocations.BtfRelocationCause.{BtfRelocationCause}
use Rattle.relocation_errors.specs.declared.type_relocations.BtfRelocationCause.TheVariants.{OutOfMemory}
use Rattle.relocation_errors.specs.declared.type_relocations.BtfRelocationError.{BtfRelocationError}

-- Some type relocation writes the slot at an index of a function, as its own slot or as the next
-- one.
abbrev pub WritesAt : TypesGiven → SectionInfos → FunctionContent → ℕ → Type 0
WritesAt g section_infos f place = IsWritten type_rule f (types_inside g section_infos f) place

-- Exactly one type relocation writes the slot at an index, and sets it to this slot.
abbrev pub PutsAt : TypesGiven → SectionInfos → FunctionContent → ℕ → bpf_insn → Type 0
PutsAt g section_infos f place s = WritesAlone type_rule f (types_inside g section_infos f) place s

-- The slots of a function after all type relocations. A slot that exactly one relocation writes has
-- the slot of this write, which carries the relocation's outcome. A slot that none writes is
-- unchanged.
pub record HasTypes (g : TypesGiven) (section_infos : SectionInfos) (old new : FunctionContent) : Type 0 where
  pub alone : (place : ℕ) (s : bpf_insn)
      → PutsAt g section_infos old place s
      → place < length old.instructions
      → slice_get new.instructions place ≡ Some s
  pub carried : (place : ℕ) (s : bpf_insn)
      → PutsAt g section_infos old place s
      → CarriesType g section_infos old place s
  pub others : (place : ℕ)
      → (WritesAt g section_infos old place → ⊥)
      → slice_get new.instructions place ≡ slice_get old.instructions place
  pub as_many : length new.instructions ≡ length old.instructions

-- The slots of the function of each key are as `HasTypes` says.
abbrev pub HaveTypes : TypesGiven → SectionInfos → List ((ℕ × ℕ) × FunctionContent) → Type 0
HaveTypes g section_infos new =
    (key : ℕ × ℕ) (f : FunctionContent) → function_at g.functions key ≡ Some f
    → (h : FunctionContent) × (function_at new key ≡ Some h) × HasTypes g section_infos f h

-- The relocated functions have the writes of their type relocations.
pub record TypesAreWritten : Type 0 where
  pub each : (g : TypesGiven) (section_infos : SectionInfos) (new : List ((ℕ × ℕ) × FunctionContent))
      → AreRelocated g section_infos new
      → HaveTypes g section_infos new

-- Two tables agree on what type relocations reach: on the reached records, on the texts that these
-- hold, on the relocations' access strings and on the names of their section infos' sections.
pub record AgreeOnReach (one other : Table) (section_infos : SectionInfos) : Type 0 where
  pub records : (id : ℕ)
      → reach_of one section_infos id ≡ true
      → type_by_id other id ≡ type_by_id one id
  pub texts : AgreeOnTexts (reach_of one section_infos) one other
  pub accesses : All (λ x.
      All (λ r. text_at other.strings r.access_str_off ≡ text_at one.strings r.access_str_off)
      x.records) section_infos
  pub sections : All (λ x. text_at other.strings x.name_offset ≡ text_at one.strings x.name_offset)
      section_infos

-- The inputs with another table of the object's own types.
abbrev pub with_types_of : TypesGiven → Table → TypesGiven
with_types_of g other = record g { local = other }

-- What the definitions say of an answer: on `Ok` the functions are relocated and no fault stands,
-- and an error other than out of memory is a fault that stands.
abbrev pub IsAnswer : {T : Type 0}
    → SectionInfos
    → List ((ℕ × ℕ) × FunctionContent)
    → Result T BtfRelocationError
    → TypesGiven
    → Type 0
IsAnswer section_infos new (Ok done) g =
    AreRelocated g section_infos new × CanBeRelocated g section_infos
IsAnswer section_infos new (Err e) g = e.error ≢ OutOfMemory → HasTypesFault g section_infos e.error

-- What holds of inputs holds too with every other table of the object's own types that agrees on
-- what type relocations reach.
pub record RestsOnReach (g : TypesGiven) (section_infos : SectionInfos)
    (Holds : TypesGiven → Type 0) : Type 0 where
  pub alike : (other : Table)
      → AgreeOnReach g.local other section_infos
      → Holds (with_types_of g other)

-- The outcomes, the writes and the faults of type relocations are the same for every other table
-- that agrees on what they reach.
pub record RelocationsRest : Type 0 where
  pub placed : (g : TypesGiven) (other : Table) (section_infos : SectionInfos)
      → AgreeOnReach g.local other section_infos
      → all_placed (with_types_of g other) section_infos ≡ all_placed g section_infos
  pub relocated : (g : TypesGiven) (other : Table) (section_infos : SectionInfos)
      → AgreeOnReach g.local other section_infos
      → (new : List ((ℕ × ℕ) × FunctionContent))
      → (AreRelocated g section_infos new → AreRelocated (with_types_of g other) section_infos new)
      × (AreRelocated (with_types_of g other) section_infos new → AreRelocated g section_infos new)
  pub refused : (g : TypesGiven) (other : Table) (section_infos : SectionInfos)
      → AgreeOnReach g.local other section_infos
      → (c : BtfRelocationCause)
      → (HasTypesFault g section_infos c → HasTypesFault (with_types_of g other) section_infos c)
      × (HasTypesFault (with_types_of g other) section_infos c → HasTypesFault g section_infos c)
  pub answered : (g : TypesGiven) (section_infos : SectionInfos)
      (new : List ((ℕ × ℕ) × FunctionContent))
      (result : Result (Unit {0}) BtfRelocationError)
      → IsAnswer section_infos new result g
      → RestsOnReach g section_infos (IsAnswer section_infos new result)
