use Rattle.std.proofs.Common.{◌<◌, Some, length, sym, arith}
use Rattle.program_io.specs.Embedded.{IsNextStart, NoneBegins, end_in}
use Rattle.program_io.specs.declared.embedded.EmbeddedObject.{EmbeddedObject}
use Rattle.program_io.proofs.Search.{added, end_inside, ended, ends_later}
use Rattle.program_io.proofs.embedded.embedded_objects.Goals as goal

-- src/embedded.rt:60:5
pub loop-start-smaller : goal.loop-start-smaller
loop-start-smaller c =
    let bytes = c.args.bytes.now in
    let o : EmbeddedObject = record { start = c.in-Some.start; size = c.object_size-size.result } in
    let next : IsNextStart bytes c.loop-start.from (Some o.start) = rw c.in-Some.is at c.next_start.ensures in
    let ends : o.start < end_in bytes o = ends_later bytes o c.object_size-size.ensures in
    let later : o.start < c.end_in-from.result = rw (sym c.end_in-from.ensures) at ends in
    omega (arith, next.1, next.2, later)

-- src/embedded.rt:60:5
pub loop-start-preserved : goal.loop-start-preserved
loop-start-preserved c =
    let bytes = c.args.bytes.now in
    let o : EmbeddedObject = record { start = c.in-Some.start; size = c.object_size-size.result } in
    let next : IsNextStart bytes c.loop-start.from (Some o.start) = rw c.in-Some.is at c.next_start.ensures in
    let holds = added bytes 0 c.loop-start.from c.loop-start.objects.items o c.loop-start.invariant.0 next in
    let inside = end_inside bytes o next.2 in (
      rw (c.in_ok-push.ensures.items, c.end_in-from.ensures) holds,
      rw c.end_in-from.ensures inside,
    )

-- src/embedded.rt:55:1
pub returns : goal.returns
returns c =
    let none : NoneBegins c.args.bytes.now c.loop-start.from (length c.args.bytes.now) =
    rw c.in_default.is at c.next_start.ensures in
    ended c.args.bytes.now 0 c.loop-start.from (length c.args.bytes.now) c.loop-start.objects.items
    c.loop-start.invariant.0 c.loop-start.invariant.1 none
