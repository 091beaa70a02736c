use Rattle.string_table.proofs.Marks.{none_marked}
use Rattle.string_table.proofs.marked_bytes.MarkedBytes.new.Goals as goal

pub returns : goal.returns
returns c = λ byte. none_marked 256 byte
