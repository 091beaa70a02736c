-- The functions of a program, as calls and loads of functions' addresses name them.
use Rattle.std.specs.Prelude.{ℕ, ◌+◌, ◌||◌, Bool, true, false, if◌then◌else◌, List, [], ◌∷◌, length, slice_set, replicate, Option, Some, None}
use Rattle.ebpf_items.specs.declared.instruction.bpf_insn.{bpf_insn}
use Rattle.ebpf_items.specs.Instruction.{is_pseudo_call}
use Rattle.plan_values.specs.Programs.{index_in, is_callback, target}

-- Whether a slot names a function.
abbrev pub names_function : bpf_insn → Bool
names_function s = is_pseudo_call s || is_callback s

abbrev pub with_mark : Option ℕ → List Bool → List Bool
with_mark None marks = marks
with_mark (Some slot) marks = slice_set marks slot true

abbrev pub mark : bpf_insn → ℕ → List Bool → List Bool
mark s position marks =
    if names_function s then with_mark (index_in (length marks) (target s position)) marks else marks

-- The marks, and one for each slot that a slot from a position on names.
abbrev pub marked : List bpf_insn → ℕ → List Bool → List Bool
marked [] position marks = marks
marked (s ∷ ss) position marks = marked ss (position + 1) (mark s position marks)

-- For each slot from a position on the last marked slot that isn't behind it, or else `function`.
abbrev pub begun_by : List Bool → ℕ → ℕ → List ℕ
begun_by [] position function = []
begun_by (true ∷ marks) position function = position ∷ begun_by marks (position + 1) position
begun_by (false ∷ marks) position function = function ∷ begun_by marks (position + 1) function

-- For each slot where its function begins: at the last slot before it, or there, that a slot names, or
-- at the first slot.
abbrev pub functions_of : List bpf_insn → List ℕ
functions_of slots = begun_by (marked slots 0 (replicate (length slots) false)) 0 0
