use Rattle.std.proofs.Common.{sym, ap, ◌∙◌}
use Rattle.kernel_symbols.specs.Reading.{RefusesLine}
use Rattle.kernel_symbols.specs.Words.{word_bytes}
use Rattle.kernel_symbols.proofs.SaidLemmas.{other_line, refused_line, same_bytes, short_line, wanted_line}
use Rattle.kernel_symbols.proofs.WantedLemmas.{passed_on}
use Rattle.kernel_symbols.proofs.line.take_line.Goals as goal

pub returns-in_default-clause-taken : goal.returns-in_default-clause-taken
returns-in_default-clause-taken c = short_line c.args.by_name.now c.args.line.now (sym c.is_text.ensures ∙ c.if-not-is_text.false) (sym c.first_and_third.ensures ∙ ap word_bytes c.in_default.is)

pub returns-in_default-get-clause-taken : goal.returns-in_default-get-clause-taken
returns-in_default-get-clause-taken c =
    other_line c.args.by_name.now c.args.line.now c.in-Some.word.now c.in-Some.name.now
    (sym c.is_text.ensures ∙ c.if-not-is_text.false)
    (sym c.first_and_third.ensures ∙ ap word_bytes c.in-Some.is)
    (sym c.get.ensures ∙ c.in_default-get.is)

pub returns-in_err-address-clause-refused : goal.returns-in_err-address-clause-refused
returns-in_err-address-clause-refused c =
    passed_on _ c.in_err-address.field-0.0 (RefusesLine c.args.by_name.now c.args.line.now) c.from_residual.ensures.1
    (refused_line c.args.by_name.now c.args.line.now c.in-Some.word.now c.in-Some.name.now c.in-Some-get.wanted _
    (sym c.first_and_third.ensures ∙ ap word_bytes c.in-Some.is)
    (sym c.get.ensures ∙ c.in-Some-get.is)
    (sym c.in_err-address.was ∙ c.settled.ensures)
    (same_bytes c.in-Some.name.now))

pub returns-clause-taken : goal.returns-clause-taken
returns-clause-taken c =
    wanted_line c.args.by_name.now c.put.new.self c.args.line.now c.in-Some.word.now c.in-Some.name.now c.in-Some-get.wanted c.in_ok-address.address
    (sym c.is_text.ensures ∙ c.if-not-is_text.false)
    (sym c.first_and_third.ensures ∙ ap word_bytes c.in-Some.is)
    (sym c.get.ensures ∙ c.in-Some-get.is)
    (sym c.in_ok-address.was ∙ c.settled.ensures)
    c.put.ensures
