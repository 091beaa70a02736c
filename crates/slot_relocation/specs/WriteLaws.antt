-- The slots of a function after some relocations, for any rule.
use Rattle.std.specs.Prelude.{◌≡◌, ◌⊎◌, ℕ, ◌+◌, ◌<◌, true, List, ◌∷◌, ◌++◌, length, slice_get, Option, Some, is_some}
use Rattle.ebpf_items.specs.declared.instruction.bpf_insn.{bpf_insn}
use Rattle.object_parts.specs.Content.{FunctionContent}
use Rattle.elf64.specs.Relocations.{Relocation}
use Rattle.elf64.specs.Symbols.{Symbol}
use Rattle.object_file.specs.Symbols.{symbol_at}
use Rattle.slot_relocation.specs.BySymbol.{Does, symbol_index, symbol_rule}
use Rattle.slot_relocation.specs.declared.outcome.Outcome.TheVariants.{Written}
use Rattle.slot_relocation.specs.declared.outcome.Write.{Write}
use Rattle.slot_relocation.specs.Writes.{RuleOf, after_all, outcome_at, index_of_slot, relocations_inside}

-- A relocation of a function has this write, computed from the slots after the relocations before
-- it.
pub record Makes {A E : Type 0} (rule : RuleOf A E) (f : FunctionContent) (rs : List (ℕ × A))
    (r : ℕ × A) (w : Write) : Type 0 where
  pub before : List (ℕ × A)
  pub rest : List (ℕ × A)
  pub split : before ++ (r ∷ rest) ≡ rs
  pub outcome : outcome_at rule f (after_all rule f before) r ≡ Written w

-- The write at an index sets the slot at another index to this slot: it is the write's own slot or
-- the next one.
abbrev pub Puts : ℕ → Write → ℕ → bpf_insn → Type 0
Puts at w place s = ((at ≡ place) × (w.first ≡ s)) ⊎ ((at + 1 ≡ place) × (w.next ≡ Some s))

-- The write at an index writes the slot at another index.
abbrev pub Reaches : ℕ → Write → ℕ → Type 0
Reaches at w place = (at ≡ place) ⊎ ((is_some w.next ≡ true) × (at + 1 ≡ place))

-- Some relocation writes the slot at an index.
pub record IsWritten {A E : Type 0} (rule : RuleOf A E) (f : FunctionContent) (rs : List (ℕ × A))
    (place : ℕ) : Type 0 where
  pub relocation : ℕ × A
  pub write : Write
  pub made : Makes rule f rs relocation write
  pub at : Reaches (index_of_slot f relocation.0) write place

-- A slot that no relocation writes is unchanged.
pub record UnwrittenStay (A E : Type 0) : Type 0 where
  pub each : (rule : RuleOf A E) (f : FunctionContent) (rs : List (ℕ × A)) (place : ℕ)
      → (IsWritten rule f rs place → ⊥)
      → slice_get (after_all rule f rs) place ≡ slice_get f.instructions place

-- A slot that exactly one relocation writes has the slot of this write, computed from the slots
-- after the relocations before it. Relocations are identified by the relocations before them.
pub record OneWrites (A E : Type 0) : Type 0 where
  pub each : (rule : RuleOf A E) (f : FunctionContent) (rs : List (ℕ × A)) (r : ℕ × A) (w : Write)
      (place : ℕ) (s : bpf_insn)
      → (m : Makes rule f rs r w)
      → Puts (index_of_slot f r.0) w place s
      → place < length f.instructions
      → ((o : IsWritten rule f rs place) → o.made.before ≡ m.before)
      → slice_get (after_all rule f rs) place ≡ Some s

-- Exactly one relocation writes the slot at an index, and sets it to this slot.
pub record WritesAlone {A E : Type 0} (rule : RuleOf A E) (f : FunctionContent) (rs : List (ℕ × A))
    (place : ℕ) (s : bpf_insn) : Type 0 where
  pub relocation : ℕ × A
  pub write : Write
  pub made : Makes rule f rs relocation write
  pub puts : Puts (index_of_slot f relocation.0) write place s
  pub alone : (o : IsWritten rule f rs place) → o.made.before ≡ made.before

-- The number of slots is unchanged.
pub record LengthsRemain (A E : Type 0) : Type 0 where
  pub each : (rule : RuleOf A E) (f : FunctionContent) (rs : List (ℕ × A))
      → length (after_all rule f rs) ≡ length f.instructions

-- ---- Relocations in the file: they are at whole slots, and their offsets are strictly increasing

-- A relocation that writes is at a slot and has a symbol, which determine the write. After all
-- relocations the slot has this write, whatever the other relocations write.
pub record IsKept (file : List ℕ) (does : Does) (f : FunctionContent) (r : ℕ × Relocation)
    (w : Write) : Type 0 where
  pub slot : bpf_insn
  pub next : Option bpf_insn
  pub symbol : Symbol
  pub known : symbol_at file (symbol_index r.1) ≡ Some symbol
  pub made : does slot next (symbol_index r.1) symbol ≡ Written w
  pub kept : slice_get (after_all (symbol_rule file does) f (relocations_inside file f))
      (index_of_slot f r.0)
      ≡ Some w.first

pub record WritesAreKept : Type 0 where
  pub each : (file : List ℕ) (does : Does) (f : FunctionContent) (r : ℕ × Relocation) (w : Write)
      → Makes (symbol_rule file does) f (relocations_inside file f) r w
      → IsKept file does f r w
