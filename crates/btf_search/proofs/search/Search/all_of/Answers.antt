use Rattle.std.proofs.Common.{◌≤◌, List, Bor, ℕ, [], length, arith}
use Rattle.std.proofs.lemmas.List.Elements.{All-get_or}
use Rattle.btf_search.proofs.search.Search.all_of.Goals as goal

pub add_name-requires-clause-long : goal.add_name-requires-clause-long
add_name-requires-clause-long c = omega (arith, c.loop-name.invariant.1, c.new-prefixes.ensures, All-get_or (λ (name : Bor (List ℕ)). c.prefix_len.result ≤ length name.now) c.args.wanted.now c.loop-name.name-index (record { ref_ptr = (0, 0); now = [] }) c.loop-name-test.true c.prefix_len.ensures.least)
