use Rattle.std.proofs.Common.{◌≡◌, is_some}
use Rattle.std.specs.List.{list_any}
use Rattle.object_externs.specs.Names.{by_bytes}
use Rattle.object_externs.proofs.externs.Externs.has_typed.Given as goal

abbrev pub invariant-loop-name : goal.invariant-loop-name
invariant-loop-name l = list_any (λ e. is_some e.1.type_id) (by_bytes l._name-iterator) ≡ list_any (λ e. is_some e.1.type_id) l.self.by_name
