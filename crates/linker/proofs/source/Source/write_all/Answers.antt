use Rattle.std.proofs.Common.{[], ◌∷◌, inl, reverse, take, arith}
use Rattle.std.proofs.lemmas.Result.{err_from_is_err_and}
use Rattle.linker.proofs.Emit.{room_own, room_key, starts_fit, start_room, first_copy, next_copy, first_functions, next_functions, first_lines, next_lines, sound_at, next_sound, key_there, named_at}
use Rattle.linker.proofs.source.Source.write_all.Goals as goal

pub write_copy-requires-clause-room : goal.write_copy-requires-clause-room
write_copy-requires-clause-room c =
    room_own c.args.self.now c.args.own c.args.own_function.now c.args.order.now _ c.requires.ordered c.requires.own c.new-slots.ensures.len

pub write_copy-requires-clause-starts : goal.write_copy-requires-clause-starts
write_copy-requires-clause-starts c = starts_fit c.place_laws.ensures c.args.self.now c.args.own c.args.own_function.now c.args.order.now c.requires.ordered

pub returns-in_err-write_copy-clause-fault : goal.returns-in_err-write_copy-clause-fault
returns-in_err-write_copy-clause-fault c =
    let p = err_from_is_err_and c.from_residual.result c.from_residual.ensures.1 in
    rw (p.1, p.2) (λ no. ([], (tt, inl (c.args.own_function.now, c.requires.own, c.in_err-write_copy.ensures.fault no))))

pub loop-key-init : goal.loop-key-init
loop-key-init c = record {
  slots = first_copy c.args.self.now c.args.own c.args.own_function.now c.args.order.now c.new-slots.result c.write_copy.new.slots c.requires.ordered c.requires.own c.new-slots.ensures.items c.new-slots.ensures.len c.in_ok-write_copy.ensures.written;
  functions = first_functions c.args.self.now c.args.own c.args.own_function.now c.new.result.items _ c.requires.own c.new.ensures.items c.in_ok-push_own_records.ensures.functions;
  lines = first_lines c.args.self.now c.args.own c.args.own_function.now c.new-2.result.items _ c.requires.own c.new-2.ensures.items c.in_ok-push_own_records.ensures.lines;
  sound = sound_at c.args.self.now c.args.own c.args.own_function.now c.requires.own c.in_ok-write_copy.ensures.sound;
}

pub function-function-requires : goal.function-function-requires
function-function-requires c = key_there c.args.self.now c.args.own c.args.own_function.now c.args.order.now c.deref-key-items.result.now c.loop-key.key-index (0, 0) c.requires.ordered c.deref-key-items.ensures.value c.loop-key-test.true

pub push_records-requires : goal.push_records-requires
push_records-requires c =
    let r = start_room c.place_laws.ensures c.args.self.now c.args.own c.args.own_function.now c.args.order.now c.loop-key.key-index c.loop-key.slots c.requires.ordered c.loop-key.invariant.slots in
    omega (arith, r, c.len.ensures)

pub write_copy-requires-in-loop-key-clause-room : goal.write_copy-requires-in-loop-key-clause-room
write_copy-requires-in-loop-key-clause-room c =
    room_key c.place_laws.ensures c.args.self.now c.args.own c.args.own_function.now c.args.order.now c.deref-key-items.result.now c.loop-key.key-index (0, 0) c.function-function.result.now c.loop-key.slots c.requires.ordered c.deref-key-items.ensures.value c.loop-key-test.true c.function-function.ensures.value c.loop-key.invariant.slots

pub write_copy-requires-in-loop-key-clause-starts : goal.write_copy-requires-in-loop-key-clause-starts
write_copy-requires-in-loop-key-clause-starts c = starts_fit c.place_laws.ensures c.args.self.now c.args.own c.args.own_function.now c.args.order.now c.requires.ordered

pub returns-in_err-write_copy-2-clause-fault : goal.returns-in_err-write_copy-2-clause-fault
returns-in_err-write_copy-2-clause-fault c =
    let p = err_from_is_err_and c.from_residual-in_err-write_copy-2.result c.from_residual-in_err-write_copy-2.ensures.1 in
    let o = named_at c.order_laws.ensures c.args.self.now c.args.own c.args.own_function.now c.args.order.now c.deref-key-items.result.now c.loop-key.key-index (0, 0) c.requires.ordered c.deref-key-items.ensures.value c.loop-key-test.true in
    rw (p.1, p.2) (λ no. (_ ∷ reverse (take c.loop-key.key-index c.args.order.now.keys.items), (o, inl (c.function-function.result.now, c.function-function.ensures.value, c.in_err-write_copy-2.ensures.fault no))))

pub loop-key-preserved : goal.loop-key-preserved
loop-key-preserved c = record {
  slots = next_copy c.place_laws.ensures c.args.self.now c.args.own c.args.own_function.now c.args.order.now c.deref-key-items.result.now c.loop-key.key-index (0, 0) c.function-function.result.now c.loop-key.slots c.write_copy-in-loop-key.new.slots c.requires.ordered c.deref-key-items.ensures.value c.loop-key-test.true c.function-function.ensures.value c.loop-key.invariant.slots c.in_ok-write_copy-2.ensures.written;
  functions = next_functions c.place_laws.ensures c.args.self.now c.args.own c.args.order.now c.deref-key-items.result.now c.loop-key.key-index (0, 0) c.function-function.result.now c.loop-key.slots c.len.result c.loop-key.records.functions.items _ c.deref-key-items.ensures.value c.loop-key-test.true c.function-function.ensures.value c.loop-key.invariant.slots c.len.ensures c.loop-key.invariant.functions c.in_ok-push_records.ensures.functions;
  lines = next_lines c.place_laws.ensures c.args.self.now c.args.own c.args.order.now c.deref-key-items.result.now c.loop-key.key-index (0, 0) c.function-function.result.now c.loop-key.slots c.len.result c.loop-key.records.lines.items _ c.deref-key-items.ensures.value c.loop-key-test.true c.function-function.ensures.value c.loop-key.invariant.slots c.len.ensures c.loop-key.invariant.lines c.in_ok-push_records.ensures.lines;
  sound = next_sound c.args.self.now c.args.own c.args.order.now c.deref-key-items.result.now c.loop-key.key-index (0, 0) c.function-function.result.now c.deref-key-items.ensures.value c.loop-key-test.true c.function-function.ensures.value c.in_ok-write_copy-2.ensures.sound c.loop-key.invariant.sound;
}
