use Rattle.std.proofs.Common.{◌∷◌, [], map}
use Rattle.std.specs.Fmt.{decimal}
use Rattle.watched.specs.Watched.{Sends-then}
use Rattle.plan_text.proofs.Texts.{words_onto-split}
use Rattle.plan_text.proofs.program_lines.send_program_line.Goals as goal

pub returns : goal.returns
returns g c =
    rw (← c.as_bytes.ensures.value, words_onto-split (map decimal (c.args.numbers.kind ∷ c.args.numbers.first ∷ c.args.numbers.second ∷ [])) (10 ∷ []))
    (Sends-then _ _ _ _ _ _ c.send.ensures
    (Sends-then _ _ _ _ _ _ c.send_bytes.ensures
    (Sends-then _ _ _ _ _ _ (rw (c.from.ensures, c.from-2.ensures, c.from-3.ensures) at c.send_numbers.ensures) c.send-2.ensures)))
