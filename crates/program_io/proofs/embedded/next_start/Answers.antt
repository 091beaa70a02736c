use Rattle.std.proofs.Common.{◌≡◌, ◌+◌, ◌-◌, ◌<◌, false, true, drop, length, sym, ◌∙◌, ap, arith}
use Rattle.std.proofs.lemmas.List.{length-drop}
use Rattle.program_io.specs.Embedded.{NoneBegins, begins_object}
use Rattle.program_io.proofs.Search.{header_fits, joined, one_more, passed_over}
use Rattle.program_io.proofs.embedded.next_start.Goals as goal

-- src/embedded.rt:43:13
pub returns-then-begins_object : goal.returns-then-begins_object
returns-then-begins_object c =
    let bytes = c.args.bytes.now in
    let found = rw (c.in-Some.is, c.after.ensures) at c.memchr.ensures in
    let at = c.loop-distance.at + c.in-Some.distance in
    let before = c.loop-distance.invariant in
    let none : NoneBegins bytes c.args.from at =
    joined bytes c.args.from c.loop-distance.at at before.0
    (passed_over bytes c.loop-distance.at c.in-Some.distance found.0.before) in
    let inside : c.in-Some.distance < length bytes - c.loop-distance.at =
    rw (length-drop c.loop-distance.at bytes) at found.0.high in
    let here : begins_object (drop at bytes) ≡ true =
    ap begins_object (sym c.after-in-Some.ensures) ∙ (sym c.begins_object.ensures ∙ c.if-begins_object.true) in
    (none, omega (arith, before.1), header_fits bytes at (omega (arith, inside, before.2)) here, here)

-- src/embedded.rt:40:5
pub loop-distance-preserved : goal.loop-distance-preserved
loop-distance-preserved c =
    let bytes = c.args.bytes.now in
    let found = rw (c.in-Some.is, c.after.ensures) at c.memchr.ensures in
    let at = c.loop-distance.at + c.in-Some.distance in
    let before = c.loop-distance.invariant in
    let none : NoneBegins bytes c.args.from at =
    joined bytes c.args.from c.loop-distance.at at before.0
    (passed_over bytes c.loop-distance.at c.in-Some.distance found.0.before) in
    let inside : c.in-Some.distance < length bytes - c.loop-distance.at =
    rw (length-drop c.loop-distance.at bytes) at found.0.high in
    let here : begins_object (drop at bytes) ≡ false =
    ap begins_object (sym c.after-in-Some.ensures) ∙ (sym c.begins_object.ensures ∙ c.if-begins_object.false) in
    (one_more bytes c.args.from at none here, omega (arith, before.1), omega (arith, inside, before.2))

-- src/embedded.rt:35:1
pub returns : goal.returns
returns c =
    let bytes = c.args.bytes.now in
    let at = c.loop-distance.at in
    let nowhere = rw (c.in_default.is, c.after.ensures) at c.memchr.ensures in
    let before = c.loop-distance.invariant in
    let rest : length (drop at bytes) ≡ length bytes - at = length-drop at bytes in
    let end : at + length (drop at bytes) ≡ length bytes = omega (arith, rest, before.2) in
    let past : NoneBegins bytes at (at + length (drop at bytes)) =
    passed_over bytes at (length (drop at bytes)) nowhere in
    joined bytes c.args.from at (length bytes) before.0 (rw end at past)
