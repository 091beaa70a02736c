-- The extents of functions in their sections. A slot has 8 bytes (instruction-set.rst, "Instruction
-- encoding").
use Rattle.std.specs.Prelude.{ℕ, ◌+◌, ◌*◌, nat_le, nat_lt, ◌&&◌, Bool, List, length}
use Rattle.ebpf_items.specs.declared.instruction.bpf_insn.{bpf_insn}
use Rattle.object_parts.specs.Content.{FunctionContent}

-- The end of a function in its section, in bytes.
abbrev pub end_of : FunctionContent → ℕ
end_of f = f.section_offset + 8 * length f.instructions

-- Whether an offset in its section lies inside a function.
abbrev pub is_inside : FunctionContent → ℕ → Bool
is_inside f offset = nat_le f.section_offset offset && nat_lt offset (end_of f)

abbrev pub with_instructions : FunctionContent → List bpf_insn → FunctionContent
with_instructions f slots = record f { instructions = slots }
