use Rattle.std.proofs.Common.{Some, ◌≡◌, ◌≤◌, ◌+◌, ℕ, List, length}
use Rattle.linker.specs.Layout.{Key, Table, start_of, end_of}
use Rattle.linker.proofs.Flat.{copies_length, start_copy, copy_end, has_start_of}
use Rattle.linker.proofs.layout.place_laws.Goals as goal

start_end : (t : Table) (own : Key) (ks : List Key) (k : Key) (start : ℕ) → start_of t own ks k ≡ Some start → start + length (t.slots k) ≤ end_of t own ks
start_end t own ks k start e = copy_end t own ks k start (start_copy t own ks k start e)

pub returns : goal.returns
returns c = record { ends = copies_length; starts = start_end; appended = has_start_of }
