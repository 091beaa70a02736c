use Rattle.linker.proofs.Unique.{front, order_back}
use Rattle.linker.proofs.layout.order_laws.Goals as goal

pub returns : goal.returns
returns c = record { front = front; back = order_back }
