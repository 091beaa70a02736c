-- The slots of a function after the relocations by externs inside it.
use Rattle.std.specs.Prelude.{◌≡◌, ◌⊎◌, ◌<◌, ℕ, ◌%◌, ◌^◌, List, length, slice_get, Some, Option, option_and_then, pos}
use Rattle.std.specs.Option.{option_map}
use Rattle.ebpf_items.specs.Instruction.{src_reg_of}
use Rattle.ebpf_items.specs.declared.instruction.bpf_insn.{bpf_insn}
use Rattle.elf64.specs.Relocations.{Relocation}
use Rattle.object_externs.specs.Externs.{ExternContent}
use Rattle.object_file.specs.Symbols.{symbol_at}
use Rattle.object_parts.specs.Content.{FunctionContent, function_at}
use Rattle.slot_relocation.specs.declared.outcome.Write.{Write}
use Rattle.slot_relocation.specs.BySymbol.{symbol_index}
use Rattle.slot_relocation.specs.WriteLaws.{IsWritten, Makes, WritesAlone}
use Rattle.slot_relocation.specs.Writes.{AreRelocated, index_of_slot, relocations_inside}
use Rattle.slot_relocation.specs.declared.extern_rule.Resolution.{Resolution}
use Rattle.slot_relocation.specs.declared.extern_rule.Resolution.TheVariants.{Id, Address, Missing, Unresolved}
use Rattle.slot_relocation.specs.Externs.{extern_of, extern_rule, missing_number, resolution, signed_word}

abbrev pub ByName : Type 0
ByName = List (List ℕ × ExternContent)

-- A relocation inside a function has this write, computed from the slots after the relocations
-- before it.
abbrev pub Writes : List ℕ → ByName → FunctionContent → ℕ × Relocation → Write → Type 0
Writes file externs f r w = Makes (extern_rule file externs) f (relocations_inside file f) r w

-- Some relocation writes the slot at an index, as its own slot or as the next one.
abbrev pub WritesAt : List ℕ → ByName → FunctionContent → ℕ → Type 0
WritesAt file externs f place =
    IsWritten (extern_rule file externs) f (relocations_inside file f) place

-- Exactly one relocation writes the slot at an index, and sets it to this slot.
abbrev pub PutsAt : List ℕ → ByName → FunctionContent → ℕ → bpf_insn → Type 0
PutsAt file externs f place s =
    WritesAlone (extern_rule file externs) f (relocations_inside file f) place s

-- The resolution of the extern that a relocation names.
abbrev pub resolution_of : List ℕ → ByName → Relocation → Option Resolution
resolution_of file externs r =
    option_map resolution (option_and_then (extern_of externs) (symbol_at file (symbol_index r)))

-- A call has the id of the kernel's function, or the number of its symbol if the kernel lacks the
-- function.
abbrev pub CallCarries : bpf_insn → ℕ → Resolution → Type 0
CallCarries s index (Id id) = (src_reg_of s ≡ 2) × (s.off ≡ pos 0) × (s.imm ≡ signed_word id)
CallCarries s index Missing =
    (s.registers ≡ 0) × (s.off ≡ pos 0) × (s.imm ≡ pos (missing_number index))
CallCarries s index _ = ⊥

-- A load has the id of the kernel's variable, the low word of its address, or 0 if the kernel lacks
-- the variable.
abbrev pub LoadCarries : bpf_insn → Resolution → Type 0
LoadCarries s (Id id) = (src_reg_of s ≡ 3) × (s.imm ≡ signed_word id)
LoadCarries s (Address address) = (src_reg_of s ≡ 0) × (s.imm ≡ signed_word (address % 2 ^ 32))
LoadCarries s Missing = (src_reg_of s ≡ 0) × (s.imm ≡ pos 0)
LoadCarries s Unresolved = ⊥

-- A slot has the resolution of the extern that a relocation names.
pub record CarriesExtern (file : List ℕ) (externs : ByName) (r : Relocation) (s : bpf_insn)
    : Type 0 where
  pub resolution : Resolution
  pub named : resolution_of file externs r ≡ Some resolution
  pub carried : ((s.code ≡ 0x85) × CallCarries s (symbol_index r) resolution)
      ⊎ ((s.code ≡ 0x18) × LoadCarries s resolution)

-- The slots of a function after all relocations. A slot of a relocation that writes has its extern,
-- whatever the other relocations write. A slot that exactly one relocation writes has the slot of
-- this write. A slot that none writes is unchanged.
pub record HasExterns (file : List ℕ) (externs : ByName) (old new : FunctionContent) : Type 0 where
  pub carry : (r : ℕ × Relocation) (w : Write)
      → Writes file externs old r w
      → (s : bpf_insn)
      × (slice_get new.instructions (index_of_slot old r.0) ≡ Some s)
      × CarriesExtern file externs r.1 s
  pub alone : (place : ℕ) (s : bpf_insn)
      → PutsAt file externs old place s
      → place < length old.instructions
      → slice_get new.instructions place ≡ Some s
  pub others : (place : ℕ)
      → (WritesAt file externs old place → ⊥)
      → slice_get new.instructions place ≡ slice_get old.instructions place
  pub as_many : length new.instructions ≡ length old.instructions

-- The slots of the function of each key are as `HasExterns` says.
abbrev pub HaveExterns : List ℕ
    → ByName
    → List ((ℕ × ℕ) × FunctionContent)
    → List ((ℕ × ℕ) × FunctionContent)
    → Type 0
HaveExterns file externs old new =
    (key : ℕ × ℕ) (f : FunctionContent)
    → function_at old key ≡ Some f
    → (h : FunctionContent) × (function_at new key ≡ Some h) × HasExterns file externs f h

-- The relocated functions have their externs.
pub record ExternsAreWritten : Type 0 where
  pub each : (file : List ℕ) (externs : ByName) (old new : List ((ℕ × ℕ) × FunctionContent))
      → AreRelocated (extern_rule file externs) file old new
      → HaveExterns file externs old new
