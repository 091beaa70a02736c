use Rattle.std.proofs.Common.{◌≡◌, ◌+◌, ◌++◌, drop, vec_len}
use Rattle.linker.specs.Faults.{are_sound}
use Rattle.linker.specs.Walks.{copy_in}
use Rattle.linker.proofs.source.Source.write_copy.Given as goal

abbrev pub invariant-loop-index : goal.invariant-loop-index
invariant-loop-index l = record {
  written : l.slots.items ++ copy_in l.self l.function l.starts l.begin l.index (drop l.index l.function.instructions) ≡ l.fn.slots.items ++ copy_in l.self l.function l.starts l.begin 0 l.function.instructions;
  placed : vec_len l.slots ≡ l.begin + l.index;
  sound : are_sound l.self l.function l.index (drop l.index l.function.instructions) ≡ are_sound l.self l.function 0 l.function.instructions;
}
