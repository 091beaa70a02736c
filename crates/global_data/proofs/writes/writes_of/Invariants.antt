use Rattle.std.proofs.Common.{◌≡◌, ◌++◌, None, fold}
use Rattle.elf64.specs.Symbols.{symbols_of}
use Rattle.settings.specs.Names.{by_bytes}
use Rattle.global_data.specs.GlobalData.{first_fault, or_fault}
use Rattle.global_data.specs.Writes.{writes_of}
use Rattle.global_data.proofs.writes.writes_of.Given as goal

abbrev pub invariant-loop-name : goal.invariant-loop-name
invariant-loop-name l = record {
  value : l.writes.items ++ writes_of (symbols_of l.file) l.fn.maps (by_bytes l.name-iterator) ≡ writes_of (symbols_of l.file) l.fn.maps l.values;
  fault : fold (or_fault (symbols_of l.file) l.fn.maps) None (by_bytes l.name-iterator) ≡ first_fault l.file l.fn.maps l.values;
}
