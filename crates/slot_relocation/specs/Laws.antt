-- The slots of a function after the relocations by maps inside it.
use Rattle.std.specs.Prelude.{◌≡◌, ◌<◌, ℕ, List, [], ◌∷◌, length, slice_get, Some, Option, option_and_then}
use Rattle.ebpf_items.specs.Instruction.{src_reg_of}
use Rattle.ebpf_items.specs.declared.instruction.bpf_insn.{bpf_insn}
use Rattle.elf64.specs.Relocations.{Relocation}
use Rattle.elf64.specs.Symbols.{Symbol}
use Rattle.object_file.specs.Symbols.{symbol_at}
use Rattle.object_parts.specs.Content.{FunctionContent, function_at}
use Rattle.slot_relocation.specs.declared.outcome.Write.{Write}
use Rattle.slot_relocation.specs.BySymbol.{symbol_index}
use Rattle.slot_relocation.specs.Maps.{MapsGiven, NumberedMap, map_for, map_rule}
use Rattle.slot_relocation.specs.WriteLaws.{IsWritten, Makes, WritesAlone}
use Rattle.slot_relocation.specs.Writes.{AreRelocated, index_of_slot, relocated, relocations_inside}

abbrev pub slots_after : MapsGiven → FunctionContent → List bpf_insn
slots_after g f = (relocated (map_rule g) g.file f).instructions

-- A relocation inside a function has this write, computed from the slots after the relocations
-- before it.
abbrev pub Writes : MapsGiven → FunctionContent → ℕ × Relocation → Write → Type 0
Writes g f r w = Makes (map_rule g) f (relocations_inside g.file f) r w

-- Some relocation writes the slot at an index, as its own slot or as the next one.
abbrev pub WritesAt : MapsGiven → FunctionContent → ℕ → Type 0
WritesAt g f place = IsWritten (map_rule g) f (relocations_inside g.file f) place

-- Exactly one relocation writes the slot at an index, and sets it to this slot.
abbrev pub PutsAt : MapsGiven → FunctionContent → ℕ → bpf_insn → Type 0
PutsAt g f place s = WritesAlone (map_rule g) f (relocations_inside g.file f) place s

-- The map that a symbol names, and the map that a relocation names if it isn't skipped.
abbrev pub map_by : MapsGiven → ℕ → Symbol → Option NumberedMap
map_by g index s = option_and_then (map_for g.maps index) s.section_index

abbrev pub map_of : MapsGiven → Relocation → Option NumberedMap
map_of g r = option_and_then (map_by g (symbol_index r)) (symbol_at g.file (symbol_index r))

-- The source register that marks the number of a map: 2 if the map has bytes, otherwise 1.
abbrev pub mark_of : List ℕ → ℕ
mark_of [] = 1
mark_of (byte ∷ bytes) = 2

-- A slot has the number of the map that a relocation names.
pub record CarriesNumber (g : MapsGiven) (r : Relocation) (s : bpf_insn) : Type 0 where
  pub map : NumberedMap
  pub named : map_of g r ≡ Some map
  pub number : s.imm ≡ map.number
  pub source : src_reg_of s ≡ mark_of map.map.contents

-- After all relocations, the slot of a relocation that writes has the number of its map, whatever
-- the other relocations write.
pub record SlotsCarryNumbers : Type 0 where
  pub each : (g : MapsGiven) (f : FunctionContent) (r : ℕ × Relocation) (w : Write)
      → Writes g f r w
      → (s : bpf_insn)
      × (slice_get (slots_after g f) (index_of_slot f r.0) ≡ Some s)
      × CarriesNumber g r.1 s

-- The slots of a function after all relocations.
pub record HasNumbers (g : MapsGiven) (old new : FunctionContent) : Type 0 where
  pub numbers : (r : ℕ × Relocation) (w : Write)
      → Writes g old r w
      → (s : bpf_insn)
      × (slice_get new.instructions (index_of_slot old r.0) ≡ Some s)
      × CarriesNumber g r.1 s
  pub alone : (place : ℕ) (s : bpf_insn)
      → PutsAt g old place s
      → place < length old.instructions
      → slice_get new.instructions place ≡ Some s
  pub others : (place : ℕ)
      → (WritesAt g old place → ⊥)
      → slice_get new.instructions place ≡ slice_get old.instructions place
  pub as_many : length new.instructions ≡ length old.instructions

-- The slots of the function of each key are as `HasNumbers` says.
abbrev pub HaveNumbers : MapsGiven
    → List ((ℕ × ℕ) × FunctionContent)
    → List ((ℕ × ℕ) × FunctionContent)
    → Type 0
HaveNumbers g old new =
    (key : ℕ × ℕ) (f : FunctionContent)
    → function_at old key ≡ Some f
    → (h : FunctionContent) × (function_at new key ≡ Some h) × HasNumbers g f h

-- The relocated functions have the numbers of their maps.
pub record NumbersAreWritten : Type 0 where
  pub each : (g : MapsGiven) (old new : List ((ℕ × ℕ) × FunctionContent))
      → AreRelocated (map_rule g) g.file old new
      → HaveNumbers g old new
