use Rattle.std.proofs.Common.{◌≡◌, false, length, arith, refl}
use Rattle.std.proofs.lemmas.Bool.Decides.{nat_tests}
use Rattle.kernel_symbols.proofs.ReaderLemmas.{finished, finished_line}
use Rattle.kernel_symbols.proofs.reading.Reading.finish.Goals as goal

pub returns-then-is_empty-clause-found : goal.returns-then-is_empty-clause-found
returns-then-is_empty-clause-found c =
    let none : length c.args.self.partial.items ≡ 0 = grind (arith, nat_tests, c.is_empty.ensures, c.if-is_empty.true) in
    finished c.args.self _ none refl

pub returns-clause-found : goal.returns-clause-found
returns-clause-found c =
    finished_line c.args.self _ _ false (grind (arith, nat_tests, c.is_empty.ensures, c.if-is_empty.false)) refl c.deref.ensures.value c.in_ok-take_line.ensures.taken
