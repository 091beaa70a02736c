use Rattle.std.proofs.Common.{take}
use Rattle.btf_ext.specs.ByName.{AreLast}
use Rattle.btf_ext.proofs.named_records.last_of_names.Given as goal

abbrev pub invariant-loop-place : goal.invariant-loop-place
invariant-loop-place l = AreLast l.strings l.infos (take l.place-index l.infos.places.items) l.by_name
