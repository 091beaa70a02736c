use Rattle.std.proofs.Common.{◌≡◌, ◌++◌, rules}
use Rattle.std.proofs.lemmas.Slice.Zip.{Zip-more, either_empty_from_Zip}
use Rattle.kernel_reports.specs.Poison.{poison_in}
use Rattle.kernel_reports.proofs.FlatZips.{all_done, one_more}
use Rattle.kernel_reports.proofs.poison.poison_of.Goals as goal

pub loop-program-preserved : goal.loop-program-preserved
loop-program-preserved c =
    let more = Zip-more c.loop-program.program-iterator c.next.new.self c.next.result (c.in-Some.program, c.in-Some.found) c.in-Some.is c.next.ensures.steps in
    let added : c.add_program.new.poison.items ≡ c.loop-program.poison.items ++ poison_in c.args.object.now c.in-Some.program.now c.in-Some.found.now = search rules in
    one_more (λ p. poison_in c.args.object.now p.0 p.1) _ _ _ _ c.in-Some.program.now c.in-Some.found.now c.loop-program.poison.items c.add_program.new.poison.items _ more.0 more.1 c.loop-program.invariant added

pub returns : goal.returns
returns c =
    let ended = either_empty_from_Zip c.loop-program.program-iterator c.next.new.self c.next.result c.in-None.is c.next.ensures.steps in
    all_done (λ p. poison_in c.args.object.now p.0 p.1) _ _ c.loop-program.poison.items _ ended c.loop-program.invariant
