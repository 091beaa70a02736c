use Rattle.std.proofs.Common.{◌≡◌, ◌+◌, ◌++◌, map, length}
use Rattle.code_listing.specs.Listing.{listing, shown}
use Rattle.code_listing.proofs.listed.all_listed.Given as goal

abbrev pub invariant-loop-first : goal.invariant-loop-first
invariant-loop-first l =
    (map shown l.list.items ++ listing l.slot l.left ≡ listing 0 l.code)
    × (l.slot + length l.left ≡ length l.code)

abbrev pub decreases-loop-first : goal.decreases-loop-first
decreases-loop-first l = length l.left
