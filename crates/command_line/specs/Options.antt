-- Options besides the object's file.
use Rattle.std.specs.Prelude.{◌≡◌, ◌∷◌, [], ℕ, List, codes, false, map, Some}
use Rattle.std.specs.Borrow.{Bor}
use Rattle.std.specs.Str.{bytes_eq}
use Rattle.clap.specs.Built.{IsPlainArg}
use Rattle.clap.specs.Simple.{App, new_rule, with_rule}
use Rattle.clap.specs.Walk.{Rule}
use Rattle.clap.specs.declared.builder.action.ArgAction.TheVariants.{Append, Set, SetTrue}
use Rattle.clap.specs.declared.builder.arg.Arg.{Arg}
use Rattle.clap.specs.declared.builder.value_parser.ValueParser.{ValueParser}
use Rattle.clap.specs.declared.builder.value_parser.ValueParser.TheVariants.{Names}

-- An option besides the object's file.
abbrev pub IsOption : Arg → Type 0
IsOption a = IsPlainArg a × (a.global ≡ false) × (bytes_eq a.id.now (codes "OBJECT") ≡ false)

-- The options, each with its long name: with a value, with a value each time that it is given, and
-- without a value.

abbrev pub valued : List ℕ → Rule
valued id = record (new_rule id) { long = Some id; action = Some Set; value_names = 1 }

abbrev pub repeated : List ℕ → Rule
repeated id = record (new_rule id) { long = Some id; action = Some Append; value_names = 1 }

abbrev pub flag : List ℕ → Rule
flag id = record (new_rule id) { long = Some id; action = Some SetTrue }

-- Each value is one of these names.
pub record TakesNames (parser : ValueParser) (names : List (List ℕ)) : Type 0 where
  pub list : Bor (List (Bor (List ℕ)))
  pub is : parser ≡ Names list
  pub named : map (λ name. name.now) list.now ≡ names

-- A command with several more options, one after another.
abbrev pub with_rules : App → List Rule → App
with_rules app [] = app
with_rules app (r ∷ rs) = with_rules (with_rule app r) rs
