use Rattle.std.proofs.Common.{take}
use Rattle.std.specs.Option.{option_map}
use Rattle.object_file.specs.Named.{last_symbol}
use Rattle.object_file.proofs.Numbers.{HasNumbers}
use Rattle.object_file.proofs.offsets.offsets.Given as goal

abbrev pub invariant-loop-symbol : goal.invariant-loop-symbol
invariant-loop-symbol l = HasNumbers (λ q. option_map (λ s. s.address) (last_symbol (take l.symbol-index l.symbols) q)) l.offsets.entries
