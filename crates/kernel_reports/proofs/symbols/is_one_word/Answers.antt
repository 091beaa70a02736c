use Rattle.std.proofs.Common.{◌≡◌, ◌∙◌, ℕ, List, length, Bool, true, false, sym, refl, rules, tests}
use Rattle.std.specs.List.{list_any}
use Rattle.std.specs.Str.{chars}
use Rattle.kernel_reports.specs.Symbols.{is_one_word}
use Rattle.std.specs.Char.{is_whitespace}
use Rattle.std.specs.Prelude.{◌==◌, not}
use Rattle.std.proofs.lemmas.Iterator.{YieldsList-from_chars}
use Rattle.std.proofs.lemmas.Iterator.Search.{any_from_yields_List}
use Rattle.kernel_reports.proofs.Spaces.{no_space_in}
use Rattle.kernel_reports.proofs.symbols.is_one_word.Goals as goal

false_from_not : (b : Bool) → not b ≡ true → b ≡ false
false_from_not true h = sym h
false_from_not false h = refl

some_word : (name : List ℕ) (any : Bool) → (length name == 0) ≡ false → any ≡ list_any is_whitespace (chars name) → not any ≡ is_one_word name
some_word name any full is = rw (full, is) refl

pub returns-then-not-is_empty-clause-value : goal.returns-then-not-is_empty-clause-value
returns-then-not-is_empty-clause-value c =
    let any = any_from_yields_List is_whitespace _ _ _ c.any.ensures.ran (YieldsList-from_chars c.args.name.now c.utf8.name cc) (λ x b q k. search (rules, tests)) in
    some_word c.args.name.now c.any.result (sym c.if-not-is_empty.ensures) any

pub returns-then-not-is_empty-clause-plain : goal.returns-then-not-is_empty-clause-plain
returns-then-not-is_empty-clause-plain c = λ h.
    let any = any_from_yields_List is_whitespace _ _ _ c.any.ensures.ran (YieldsList-from_chars c.args.name.now c.utf8.name cc) (λ x b q k. search (rules, tests)) in
    record { text = c.utf8.name; plain = no_space_in c.args.name.now c.utf8.name (sym any ∙ false_from_not _ h) }
