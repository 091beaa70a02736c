use Rattle.std.proofs.Common.{take, drop, ◌+◌, refl}
use Rattle.kernel_symbols.specs.Reading.{IsUnbroken, Refuses}
use Rattle.kernel_symbols.proofs.TextLemmas.{ascii_line, refused_after, takes_more, takes_none, takes_rest}
use Rattle.kernel_symbols.proofs.WantedLemmas.{passed_on}
use Rattle.kernel_symbols.proofs.reading.ReadingTakeBytesSymbolsError.take_bytes.Goals as goal

pub returns-in_err-end_line-clause-refused : goal.returns-in_err-end_line-clause-refused
returns-in_err-end_line-clause-refused c =
    passed_on _ c.in_err-end_line.field-0.0 (Refuses c.args.self.now c.args.bytes.now) c.from_residual.ensures.1
    (refused_after c.args.self.now c.loop-at.self c.args.bytes.now c.loop-at.rest.now (take c.in-Some.at c.loop-at.rest.now) (drop (c.in-Some.at + 1) c.loop-at.rest.now) _ c.loop-at.invariant c.in-Some.ensures.2 c.in_err-end_line.ensures.refused)

pub end_line-requires-clause-ascii : goal.end_line-requires-clause-ascii
end_line-requires-clause-ascii c = ascii_line c.is_ascii-is_ascii.result c.args.bytes.now c.loop-at.invariant.front c.loop-at.rest.now c.in-Some.at c.is_ascii-is_ascii.ensures.cases c.loop-at.invariant.parts

pub loop-at-init : goal.loop-at-init
loop-at-init c = takes_none _ _

pub loop-at-preserved : goal.loop-at-preserved
loop-at-preserved c =
    rw c.after-rest.ensures (takes_more c.args.self.now c.loop-at.self c.end_line.new.self c.args.bytes.now c.loop-at.rest.now (take c.in-Some.at c.loop-at.rest.now) (drop (c.in-Some.at + 1) c.loop-at.rest.now) c.loop-at.invariant c.in-Some.ensures.2 c.in_ok-end_line.ensures.taken)

pub returns-clause-taken : goal.returns-clause-taken
returns-clause-taken c =
    let whole : IsUnbroken c.loop-at.rest.now = rw c.in_default.is at c.line_end.ensures in
    takes_rest c.args.self.now c.loop-at.self _ c.args.bytes.now c.loop-at.rest.now c.loop-at.invariant whole refl c.in_ok-extend_from_slice.ensures.items
