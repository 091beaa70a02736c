use Rattle.std.proofs.Common.{◌<◌, ◌∙◌, sym, length, arith}
use Rattle.std.specs.BTreeSet.{contains}
use Rattle.std.specs.Ordering.{nat_cmp}
use Rattle.object_parse.proofs.Repeats.{distinct-more, seen-more, repeated-more}
use Rattle.object_parse.proofs.addresses.repeated_address.Goals as goal

pub returns-then-branch-clause-found : goal.returns-then-branch-clause-found
returns-then-branch-clause-found c =
    let within : c.loop-symbol.symbol-index < length c.args.symbols.now = omega arith in
    rw (c.address.ensures, c.view.ensures)
    (repeated-more c.args.symbols.now c.loop-symbol.symbol-index c.symbol-item.result (contains nat_cmp c.loop-symbol.addresses) within c.symbol-item.is c.loop-symbol.invariant.seen (sym c.if-branch.true ∙ c.in_ok-is_repeated.ensures.repeated))

pub loop-symbol-preserved : goal.loop-symbol-preserved
loop-symbol-preserved c =
    let within : c.loop-symbol.symbol-index < length c.args.symbols.now = omega arith in
    record {
      seen = seen-more c.args.symbols.now c.loop-symbol.symbol-index c.symbol-item.result (contains nat_cmp c.loop-symbol.addresses) (contains nat_cmp c.is_repeated.new.addresses) within c.symbol-item.is c.loop-symbol.invariant.seen c.in_ok-is_repeated.ensures.at;
      distinct = distinct-more c.args.symbols.now c.loop-symbol.symbol-index c.symbol-item.result (contains nat_cmp c.loop-symbol.addresses) within c.symbol-item.is c.loop-symbol.invariant.seen c.loop-symbol.invariant.distinct (sym c.if-branch.false ∙ c.in_ok-is_repeated.ensures.repeated);
    }
