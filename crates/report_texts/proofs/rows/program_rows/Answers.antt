use Rattle.std.proofs.Common.{map}
use Rattle.std.proofs.lemmas.Slice.Zip.{either_empty_from_Zip}
use Rattle.report_texts.specs.Rows.{shown_program}
use Rattle.report_texts.proofs.MappedZips.{all_done}
use Rattle.report_texts.proofs.rows.program_rows.Goals as goal

pub returns : goal.returns
returns c =
    let ended = either_empty_from_Zip c.loop-name.name-iterator c.next.new.self c.next.result c.in-None.is c.next.ensures.steps in
    all_done (λ n. n.now) (λ s. s.now) _ _ (map shown_program c.loop-name.rows.items) _ ended c.loop-name.invariant
