use Rattle.std.proofs.Common.{◌≡◌, sym, ap, ◌∙◌, subst, None, [], ◌∷◌, ◌++◌, length, reverse, take, arith, inl, inr}
use Rattle.std.specs.Map.{lookup}
use Rattle.std.proofs.lemmas.Result.{err_from_is_err_and}
use Rattle.linker.specs.Layout.{same, first_open}
use Rattle.linker.specs.Walks.{has_start_in}
use Rattle.linker.proofs.Opens.{refs_length}
use Rattle.linker.proofs.Walk.{Walking, walk_start, walk_pop, walk_end, top, before_place, pushed, refs_read, slots_read, next_order, count_more, open_there, open_read, target_fault}
use Rattle.linker.proofs.source.Source.order_of.Goals as goal

pub returns-then-end-gt-MOST_SLOTS-clause-fault : goal.returns-then-end-gt-MOST_SLOTS-clause-fault
returns-then-end-gt-MOST_SLOTS-clause-fault c = λ _.
    let e = ap length (slots_read c.args.self.now c.args.own c.args.own_function.now c.requires) in
    ([], (tt, inr (inr (omega (arith, e, c.slot_count-end.ensures, c.if-end-gt-MOST_SLOTS.true), c.too_long.ensures))))

pub loop-frame-init : goal.loop-frame-init
loop-frame-init c =
    let u = c.args.self.now in
    let g = c.args.own_function.now in
    let keys : reverse c.new-keys.result.items ≡ [] = ap reverse c.new-keys.ensures.items in
    let path : reverse c.push.new.self.items ≡ record { key = c.args.own; next = 0 } ∷ [] = ap reverse (c.in_ok-push.ensures.items ∙ ap (λ l. l ++ (record { key = c.args.own; next = 0 } ∷ [])) c.new-path.ensures.items) in
    subst (λ k. Walking u c.args.own g k (reverse c.push.new.self.items) c.new-starts.result c.slot_count-end.result) (sym keys)
    (subst (λ p. Walking u c.args.own g [] p c.new-starts.result c.slot_count-end.result) (sym path)
    (walk_start c.walk_laws.ensures c.place_laws.ensures u c.args.own g c.slot_count-end.result c.new-starts.result c.requires (λ k. ap (lookup (same k)) c.new-starts.ensures.empty) c.slot_count-end.ensures (omega arith)))

pub next_open-requires-clause-within : goal.next_open-requires-clause-within
next_open-requires-clause-within c =
    let u = c.args.self.now in
    let f = c.function-function.result.now in
    let w = top c.walk_laws.ensures c.place_laws.ensures u c.args.own c.args.own_function.now _ _ _ _ _ _ c.loop-frame.invariant c.in-Some.ensures.items in
    let e = ap length (refs_read u c.in-Some.frame.key f c.function-function.ensures.value) in
    omega (arith, w.frames.0.within, e, refs_length u f 0 f.instructions)

pub next_open-requires-clause-before : goal.next_open-requires-clause-before
next_open-requires-clause-before c =
    let u = c.args.self.now in
    let w = top c.walk_laws.ensures c.place_laws.ensures u c.args.own c.args.own_function.now _ _ _ _ _ _ c.loop-frame.invariant c.in-Some.ensures.items in
    let e = refs_read u c.in-Some.frame.key c.function-function.result.now c.function-function.ensures.value in
    subst (λ l. first_open (has_start_in c.loop-frame.starts) (take c.in-Some.frame.next l) ≡ None) e (before_place c.walk_laws.ensures c.place_laws.ensures u c.args.own c.args.own_function.now _ _ _ _ _ w)

pub returns-in_err-found-clause-fault : goal.returns-in_err-found-clause-fault
returns-in_err-found-clause-fault c =
    let u = c.args.self.now in
    let w = top c.walk_laws.ensures c.place_laws.ensures u c.args.own c.args.own_function.now _ _ _ _ _ _ c.loop-frame.invariant c.in-Some.ensures.items in
    let p = err_from_is_err_and c.from_residual-in_err-found.result c.from_residual-in_err-found.ensures.1 in
    rw (p.1, p.2) (λ no. target_fault c.order_laws.ensures u c.args.own c.args.own_function.now _ c.in-Some.frame _ _ _ c.function-function.result.now _ w c.function-function.ensures.value (c.in_err-found.ensures.fault no))

pub function-callee-requires : goal.function-callee-requires
function-callee-requires c =
    let at1 = rw c.in-Some-2.is at c.in_ok-found.ensures.some in
    open_there c.args.self.now (has_start_in c.loop-frame.starts) c.function-function.result.now c.in-Some-2.found at1

pub returns-in_err-check_records-clause-fault : goal.returns-in_err-check_records-clause-fault
returns-in_err-check_records-clause-fault c =
    let u = c.args.self.now in
    let at1 = rw c.in-Some-2.is at c.in_ok-found.ensures.some in
    let at2 = open_read u (has_start_in c.loop-frame.starts) c.in-Some.frame.key c.function-function.result.now c.in-Some-2.found c.function-function.ensures.value at1 in
    let w = top c.walk_laws.ensures c.place_laws.ensures u c.args.own c.args.own_function.now _ _ _ _ _ _ c.loop-frame.invariant c.in-Some.ensures.items in
    let o = next_order c.walk_laws.ensures c.place_laws.ensures u c.args.own c.args.own_function.now _ _ _ _ _ _ w at2 in
    let p = err_from_is_err_and c.from_residual-in_err-check_records.result c.from_residual-in_err-check_records.ensures.1 in
    rw (p.1, p.2) (λ no. (c.in-Some-2.found.key ∷ reverse c.loop-frame.keys.items, (o, inr (inl (c.args.own_function.now, c.function-callee.result.now, c.requires, c.function-callee.ensures.value, (c.in_err-check_records.ensures.fault no).0, (c.in_err-check_records.ensures.fault no).1)))))

pub returns-then-more-end-clause-fault : goal.returns-then-more-end-clause-fault
returns-then-more-end-clause-fault c = λ _.
    let u = c.args.self.now in
    let at1 = rw c.in-Some-2.is at c.in_ok-found.ensures.some in
    let at2 = open_read u (has_start_in c.loop-frame.starts) c.in-Some.frame.key c.function-function.result.now c.in-Some-2.found c.function-function.ensures.value at1 in
    let w = top c.walk_laws.ensures c.place_laws.ensures u c.args.own c.args.own_function.now _ _ _ _ _ _ c.loop-frame.invariant c.in-Some.ensures.items in
    let o = next_order c.walk_laws.ensures c.place_laws.ensures u c.args.own c.args.own_function.now _ _ _ _ _ _ w at2 in
    let e = ap length (slots_read u c.in-Some-2.found.key c.function-callee.result.now c.function-callee.ensures.value) in
    let last = w.last in
    (c.in-Some-2.found.key ∷ reverse c.loop-frame.keys.items, (o, inr (inr (omega (arith, e, last, c.slot_count-more.ensures, c.if-more-end.true), c.too_long-then-more-end.ensures))))

pub append-requires : goal.append-requires
append-requires c = rw c.in-Some-2.is at c.in_ok-found.ensures.small

pub loop-frame-smaller-in-Some-2 : goal.loop-frame-smaller-in-Some-2
loop-frame-smaller-in-Some-2 c =
    let u = c.args.self.now in
    let at1 = rw c.in-Some-2.is at c.in_ok-found.ensures.some in
    let there = open_there u (has_start_in c.loop-frame.starts) c.function-function.result.now c.in-Some-2.found at1 in
    let less = count_more u c.loop-frame.starts c.append.new.starts c.in-Some-2.found.key c.loop-frame.end there at1.unset c.in_ok-append.ensures.starts in
    omega (arith, less, c.pop.ensures.len, c.in-Some.ensures.len, c.in_ok-append.ensures.len)

pub loop-frame-preserved-in-Some-2 : goal.loop-frame-preserved-in-Some-2
loop-frame-preserved-in-Some-2 c =
    let u = c.args.self.now in
    let at1 = rw c.in-Some-2.is at c.in_ok-found.ensures.some in
    let at2 = open_read u (has_start_in c.loop-frame.starts) c.in-Some.frame.key c.function-function.result.now c.in-Some-2.found c.function-function.ensures.value at1 in
    let w = top c.walk_laws.ensures c.place_laws.ensures u c.args.own c.args.own_function.now _ _ _ _ _ _ c.loop-frame.invariant c.in-Some.ensures.items in
    pushed c.walk_laws.ensures c.place_laws.ensures u c.args.own c.args.own_function.now c.loop-frame.keys.items _ _ _ c.in-Some.frame c.function-callee.result.now _ _ _ _ c.in-Some-2.found w at2 c.function-callee.ensures.value c.in_ok-check_records.ensures.fit c.slot_count-more.ensures (omega arith) c.in_ok-append.ensures.keys c.in_ok-append.ensures.path c.in_ok-append.ensures.starts

pub loop-frame-preserved : goal.loop-frame-preserved
loop-frame-preserved c =
    let u = c.args.self.now in
    let w = top c.walk_laws.ensures c.place_laws.ensures u c.args.own c.args.own_function.now _ _ _ _ _ _ c.loop-frame.invariant c.in-Some.ensures.items in
    let e = refs_read u c.in-Some.frame.key c.function-function.result.now c.function-function.ensures.value in
    let none = rw c.in_default-2.is at c.in_ok-found.ensures.none in
    walk_pop c.walk_laws.ensures c.place_laws.ensures u c.args.own c.args.own_function.now _ _ _ _ _ w (ap (first_open (has_start_in c.loop-frame.starts)) e ∙ none)

pub returns-clause-ordered : goal.returns-clause-ordered
returns-clause-ordered c =
    walk_end c.walk_laws.ensures c.args.self.now c.args.own c.args.own_function.now c.loop-frame.end c.loop-frame.path.items _ (omega (arith, c.in_default.ensures.cases)) c.loop-frame.invariant
