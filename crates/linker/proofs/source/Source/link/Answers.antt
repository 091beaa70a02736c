use Rattle.linker.proofs.Alone.{alone}
use Rattle.linker.proofs.Sound.{can_be_linked, is_linked}
use Rattle.linker.proofs.source.Source.link.Goals as goal

pub returns-clause-linked : goal.returns-clause-linked
returns-clause-linked c =
    is_linked c.reached_are_appended.ensures c.linked_visits_same.ensures c.args.self.now c.args.own c.function-function.result.now c.in_ok-order.order c.in_ok-linked.linked _ _ _ _ c.function-function.ensures.value c.function-function.ensures.keyed c.in_ok-order.ensures.ordered c.in_ok-linked.ensures c.in_ok-copies.ensures.slots c.in_ok-copies.ensures.functions c.in_ok-copies.ensures.lines c.in_ok-tables.ensures

pub returns-clause-sound : goal.returns-clause-sound
returns-clause-sound c = can_be_linked c.order_laws.ensures c.args.self.now c.args.own c.function-function.result.now c.in_ok-order.order c.function-function.ensures.value c.in_ok-order.ensures.ordered c.in_ok-copies.ensures.sound

pub with_copies-requires : goal.with_copies-requires
with_copies-requires c = λ lone. alone c.args.self.now c.args.own c.function-function.result.now c.in_ok-order.order c.in_ok-copies.copies.slots.items c.in_ok-order.ensures.ordered (c.is_alone.ensures lone) c.function-function.ensures.value c.in_ok-copies.ensures.slots
