-- The lengths of a plan's programs.
use Rattle.std.specs.Prelude.{◌≡◌, ℕ, ◌+◌, ◌≤◌, List, length}
use Rattle.ebpf_items.specs.declared.instruction.bpf_insn.{bpf_insn}
use Rattle.linker.specs.Layout.{Key, Table}
use Rattle.linker.specs.Reached.{AreDistinct}
use Rattle.linker.specs.Theorems.{slots_of}
use Rattle.linker.specs.Lengths.{slot_total}
use Rattle.load_plan.specs.Inputs.{Inputs, State, Under}
use Rattle.load_plan.specs.Programs.{Before, IsPlanProgram, own_key, source}
use Rattle.object_parts.specs.Content.{FunctionContent, ProgramContent}
use Rattle.plan_text.specs.Content.{PlanContent}
use Rattle.plan_text.specs.Content as plan

-- An object's functions by key.
abbrev pub Functions : Type 0
Functions = List (Key × FunctionContent)

-- The slots of a program are as many as those of its own function and, once, of each other function
-- in its layout. They are at most as many as those of its own function and of all functions
-- together.
pub record IsShort (t : Table) (all : Functions) (own : Key) (keys : List Key)
    (slots : List bpf_insn) : Type 0 where
  pub once : AreDistinct keys
  pub sum : length slots ≡ length (t.slots own) + slots_of t keys
  pub most : length slots ≤ length (t.slots own) + slot_total all

-- Each program of a plan has such a length.
pub record PlanProgramsAreShort : Type 0 where
  pub each : (i : Inputs) (u : Under) (object patched : State) (before : Before)
      → (whole : PlanContent) (e : List ℕ × ProgramContent) (p : plan.ProgramContent)
      → (is : IsPlanProgram i u object patched before whole e p)
      → IsShort (source u patched) patched.functions (own_key e.1) is.keys p.slots
