use Rattle.std.proofs.Common.{◌≡◌, length, ◌∙◌, arith}
use Rattle.std.proofs.lemmas.Bool.Decides.{nat_tests}
use Rattle.kernel_symbols.specs.Reading.{Refuses}
use Rattle.kernel_symbols.proofs.TextLemmas.{end_refused, end_refused_err, ended, ended_ok, nothing_before}
use Rattle.kernel_symbols.proofs.WantedLemmas.{passed_on}
use Rattle.kernel_symbols.proofs.reading.Reading.end_line.Goals as goal

pub returns-then-is_empty-clause-taken : goal.returns-then-is_empty-clause-taken
returns-then-is_empty-clause-taken c =
    let none : length c.args.self.now.partial.items ≡ 0 = grind (arith, nat_tests, c.is_empty.ensures, c.if-is_empty.true) in
    ended_ok c.take_line.result c.args.self.now _ c.args.end.now c.args.end.now c.requires.unbroken (nothing_before _ _ none).0 (nothing_before _ c.args.end.now none).1 c.take_line.ensures.taken

pub returns-then-is_empty-clause-refused : goal.returns-then-is_empty-clause-refused
returns-then-is_empty-clause-refused c =
    let none : length c.args.self.now.partial.items ≡ 0 = grind (arith, nat_tests, c.is_empty.ensures, c.if-is_empty.true) in
    end_refused_err c.take_line.result c.args.self.now c.args.end.now c.args.end.now c.requires.unbroken (nothing_before _ _ none).0 c.take_line.ensures.refused

pub returns-in_err-take_line-clause-refused : goal.returns-in_err-take_line-clause-refused
returns-in_err-take_line-clause-refused c =
    passed_on _ c.in_err-take_line.field-0.0 (Refuses c.args.self.now _) c.from_residual-in_err-take_line.ensures.1
    (end_refused c.args.self.now c.args.end.now _ _ c.requires.unbroken (c.deref.ensures.value ∙ c.in_ok-extend_from_slice.ensures.items) c.in_err-take_line.ensures.refused)

pub returns-clause-taken : goal.returns-clause-taken
returns-clause-taken c = ended c.args.self.now _ c.args.end.now _ c.requires.unbroken (c.deref.ensures.value ∙ c.in_ok-extend_from_slice.ensures.items) c.clear.ensures.items c.in_ok-take_line.ensures.taken
