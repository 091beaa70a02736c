use Rattle.std.proofs.Common.{sym, ap, ◌∙◌}
use Rattle.command_line.proofs.Numbers.{small_of, small_read}
use Rattle.command_line.proofs.setting_words.small_number.Goals as goal

pub returns-in_default-2 : goal.returns-in_default-2
returns-in_default-2 c =
    let is = small_read c.args.digits.now c.parse.result c.parse.ensures.value.0 c.requires in
    sym (ap small_of c.in_default.is) ∙ is
