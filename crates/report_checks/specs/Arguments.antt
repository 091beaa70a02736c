-- Loads of arguments that what a program is attached to doesn't have.
use Rattle.std.specs.Prelude.{ℕ, ◌==◌, ◌||◌, ◌+◌, ◌/◌, ◌%◌, ◌^◌, nat_le, Bool, false, not, List, Option, None, Some, filter, slice_get}
use Rattle.std.specs.Int.{w64, cast_unsigned}
use Rattle.std.specs.List.{range_with_len}
use Rattle.ebpf_items.specs.declared.instruction.bpf_insn.{bpf_insn}
use Rattle.plan_registers.specs.Reach.{flat_option}

-- Whether a load at an offset of the context reads no word below a number, or not the beginning of one.
abbrev pub is_beyond : ℕ → ℕ → Bool
is_beyond words offset = not (offset % 8 == 0) || nat_le words (offset / 8)

-- The offset at which a load reads, given that of its source register.
abbrev pub read_offset : bpf_insn → ℕ → ℕ
read_offset s offset = (offset + cast_unsigned w64 s.off) % 2 ^ 64

abbrev pub reads_beyond : ℕ → Option bpf_insn → Option ℕ → Bool
reads_beyond words None offset = false
reads_beyond words (Some s) None = false
reads_beyond words (Some s) (Some offset) = is_beyond words (read_offset s offset)

-- Whether the load in a slot reads an argument that there isn't, given the offset of each load's source
-- register.
abbrev pub is_argument_missing : Option ℕ → List bpf_insn → List (Option ℕ) → ℕ → Bool
is_argument_missing None slots offsets slot = false
is_argument_missing (Some words) slots offsets slot =
    reads_beyond words (slice_get slots slot) (flat_option (slice_get offsets slot))

-- These slots below a count.
abbrev pub missing_arguments : Option ℕ → List bpf_insn → List (Option ℕ) → ℕ → List ℕ
missing_arguments words slots offsets count =
    filter (is_argument_missing words slots offsets) (range_with_len 0 count)
