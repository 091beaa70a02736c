use Rattle.core_resolve.proofs.OneTable.{of_one_table}
use Rattle.core_resolve.proofs.laws.lists_of_one_table.Goals as goal

pub returns : goal.returns
returns c = of_one_table
