-- The last symbols of their names.
use Rattle.std.proofs.Common.{◌≡◌, ℕ, ◌+◌, ◌<◌, Bool, true, false, cond, List, [], ◌∷◌, length, get_or, take, reverse, Option, Some, None, refl, ap, sym, ◌∙◌}
use Rattle.std.specs.Prelude.{IfSome, find}
use Rattle.std.specs.Borrow.{Bor}
use Rattle.std.specs.Option.{option_map, option_map_or}
use Rattle.std.specs.Str.{bytes_eq}
use Rattle.std.proofs.lemmas.List.{reverse-append, take_more}
use Rattle.std.proofs.lemmas.Slice.Eq.{bytes_eq-Decides}
use Rattle.elf64.specs.Symbols.{Symbol}
use Rattle.object_maps.specs.LastSymbols.{AreLast, ByName, IsEntered}
use Rattle.object_file.specs.Symbols.{is_named, last_named}

either : (test : Bool) (symbol : Bor Symbol) (other : Option (Bor Symbol)) → option_map (λ s. s.now) (cond test (Some symbol) other) ≡ cond test (Some symbol.now) (option_map (λ s. s.now) other)
either true symbol other = refl
either false symbol other = refl

-- One more symbol is entered.
pub one_more : (symbols : List Symbol) (i : ℕ) (old new : ByName) (symbol : Bor Symbol) → i < length symbols → symbol.now ≡ get_or symbols i symbol.now → AreLast (take i symbols) old → IsEntered old new symbol → AreLast (take (i + 1) symbols) new
one_more symbols i old new symbol within is last entered = record {
  at = λ name.
      ap (option_map (λ s. s.now)) (entered.at name)
      ∙ either (is_named name symbol.now) symbol _
      ∙ ap (cond (is_named name symbol.now) (Some symbol.now)) (last.at name)
      ∙ ap (λ s. find (is_named name) (s ∷ reverse (take i symbols))) is
      ∙ sym (ap (find (is_named name)) (ap reverse (take_more symbols i symbol.now within) ∙ reverse-append (take i symbols) (get_or symbols i symbol.now ∷ [])));
}

passes-by : (b : Bool) (test : Symbol → Bool) (x s : Symbol) (xs : List Symbol) → test x ≡ b → (find test xs ≡ Some s → test s ≡ true) → cond b (Some x) (find test xs) ≡ Some s → test s ≡ true
passes-by true test x s xs is later found = let one : x ≡ s = cc in ap test (sym one) ∙ is
passes-by false test x s xs is later found = later found

passes : (test : Symbol → Bool) (symbols : List Symbol) (s : Symbol) → find test symbols ≡ Some s → test s ≡ true
passes test [] s found = absurd cc
passes test (x ∷ xs) s found = passes-by (test x) test x s xs refl (passes test xs s) found

name-by : (name : List ℕ) (text : Option (List ℕ)) → option_map_or (λ t. bytes_eq t name) text false ≡ true → text ≡ Some name
name-by name (Some t) same = ap Some ((bytes_eq-Decides t name).0 same)
name-by name None same = absurd cc

-- The symbol that is found has the name.
pub found_named : (name : List ℕ) (symbols : List Symbol) (found : Option (Bor Symbol)) → option_map (λ s. s.now) found ≡ last_named symbols name → IfSome found (λ s. s.now.name ≡ Some name)
found_named name symbols (Some s) is = name-by name s.now.name (passes (is_named name) (reverse symbols) s.now (sym is))
found_named name symbols None is = tt
