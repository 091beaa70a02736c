use Rattle.plan_registers.proofs.Calling.{is_listed_at}
use Rattle.plan_registers.proofs.calls.list_call.Goals as goal

pub returns : goal.returns
returns c = is_listed_at c.args.calls.now.items c.args.function c.args.position c.index_mut.result.now c.push.new.self c.requires c.index_mut.ensures.value c.in_ok-push.ensures.items
