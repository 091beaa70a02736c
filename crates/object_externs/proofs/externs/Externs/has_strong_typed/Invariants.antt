use Rattle.std.proofs.Common.{◌≡◌, ◌&&◌, is_some, not}
use Rattle.std.specs.List.{list_any}
use Rattle.object_externs.specs.Names.{by_bytes}
use Rattle.object_externs.proofs.externs.Externs.has_strong_typed.Given as goal

abbrev pub invariant-loop-name : goal.invariant-loop-name
invariant-loop-name l = list_any (λ e. is_some e.1.type_id && not e.1.is_weak) (by_bytes l._name-iterator) ≡ list_any (λ e. is_some e.1.type_id && not e.1.is_weak) l.self.by_name
