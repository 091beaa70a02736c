use Rattle.std.proofs.Common.{◌+◌, ◌*◌, reverse, vec_len}
use Rattle.linker.specs.Walks.{has_start_in}
use Rattle.linker.proofs.Walk.{Walking, unknown_count}
use Rattle.linker.proofs.source.Source.order_of.Given as goal

abbrev pub invariant-loop-frame : goal.invariant-loop-frame
invariant-loop-frame l = Walking l.self l.fn.own l.own_function (reverse l.keys.items) (reverse l.path.items) l.starts l.end

abbrev pub decreases-loop-frame : goal.decreases-loop-frame
decreases-loop-frame l = 2 * unknown_count (has_start_in l.starts) l.self.functions + vec_len l.path
