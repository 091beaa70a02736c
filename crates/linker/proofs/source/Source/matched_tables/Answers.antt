use Rattle.std.proofs.Common.{sym, ap, ◌∙◌, get_or}
use Rattle.linker.specs.Records.{tables_of, with_matched}
use Rattle.linker.proofs.Emit.{all_taken, more_keys}
use Rattle.linker.proofs.source.Source.matched_tables.Goals as goal

pub loop-key-preserved : goal.loop-key-preserved
loop-key-preserved c =
    let u = c.args.self.now in
    let keys = c.deref-key-items.result.now in
    c.in_ok-enter_tables-2.ensures
    ∙ ap (λ tables. with_matched u tables (get_or keys c.loop-key.key-index (0, 0))) c.loop-key.invariant
    ∙ ap (tables_of u c.args.own) (sym (more_keys c.args.order.now keys c.loop-key.key-index (0, 0) c.deref-key-items.ensures.value c.loop-key-test.true))

pub returns : goal.returns
returns c =
    c.loop-key.invariant
    ∙ ap (tables_of c.args.self.now c.args.own) (all_taken c.args.order.now c.deref-key-items.result.now c.loop-key.key-index c.deref-key-items.ensures.value c.loop-key-test.false)
