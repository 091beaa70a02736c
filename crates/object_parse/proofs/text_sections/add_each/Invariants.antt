use Rattle.std.proofs.Common.{◌≡◌, ◌-◌}
use Rattle.elf64.specs.Symbols.{symbols_of}
use Rattle.object_parse.specs.Places.{AreEntered, byte_count}
use Rattle.object_parse.proofs.text_sections.add_each.Given as goal

abbrev pub invariant-loop-offset : goal.invariant-loop-offset
invariant-loop-offset l = record {
  entered : AreEntered l.info (symbols_of l.file) l.section l.fn.code.functions l.code.functions l.offset;
  programs : l.code.programs ≡ l.fn.code.programs;
}

abbrev pub decreases-loop-offset : goal.decreases-loop-offset
decreases-loop-offset l = byte_count l.section - l.offset
