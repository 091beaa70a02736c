use Rattle.plan_laws.proofs.Unread.{texts_are_unread}
use Rattle.plan_laws.proofs.determined.texts_are_unread.Goals as goal

pub returns : goal.returns
returns c = texts_are_unread
