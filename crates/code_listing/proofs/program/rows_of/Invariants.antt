use Rattle.std.proofs.Common.{◌≡◌, ◌++◌, map}
use Rattle.std.specs.Vec.Iter.{into_iter_items}
use Rattle.code_listing.specs.Listing.{line_in, line_of, shown}
use Rattle.code_listing.proofs.program.rows_of.Given as goal

abbrev pub invariant-loop-listed : goal.invariant-loop-listed
invariant-loop-listed l =
    map line_in l.rows.items ++ map line_of (map shown (into_iter_items l.listed-iterator))
    ≡ map line_of (map shown l.fn.list.items)
