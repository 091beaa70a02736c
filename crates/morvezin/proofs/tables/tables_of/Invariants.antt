use Rattle.std.proofs.Common.{◌≡◌, ◌≤◌, length, take}
use Rattle.morvezin.specs.Calls.{AreTables}
use Rattle.morvezin.proofs.tables.tables_of.Given as goal

abbrev pub invariant-loop-given : goal.invariant-loop-given
invariant-loop-given l = AreTables (take l.given-index l.types) l.tables.items × (length l.tables.items ≡ l.given-index)
