use Rattle.std.proofs.Common.{sym, ◌∙◌}
use Rattle.btf_tables.proofs.Named.{known_here, none_more, rest_here}
use Rattle.btf_tables.proofs.table.Btf.first_named.Goals as goal

pub returns-then-branch-clause-found : goal.returns-then-branch-clause-found
returns-then-branch-clause-found c =
    let here = sym c.loop-t.invariant.left ∙ c.in-Some.ensures.steps in
    record {
      named = rw (known_here c.args.self.now c.loop-t.id c.in-Some.t c.next.new.self here) (c.in_ok-is_named.ensures.named c.if-branch.true);
      first = c.loop-t.invariant.before.none;
    }

pub loop-t-preserved : goal.loop-t-preserved
loop-t-preserved c =
    let here = sym c.loop-t.invariant.left ∙ c.in-Some.ensures.steps in
    record {
      left = sym (rest_here c.args.self.now c.loop-t.id c.in-Some.t c.next.new.self here);
      before = none_more c.args.self.now c.args.name.now c.args.kind c.loop-t.id c.in-Some.t c.next.new.self c.loop-t.invariant.before here (c.in_ok-is_named.ensures.other c.if-branch.false);
    }
