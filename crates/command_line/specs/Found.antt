-- The values that are found in the words of a line.
use Rattle.std.specs.Prelude.{◌≡◌, ℕ, List, Bool, true, false, Option, Some, None, codes, unwrap_or, [], if◌then◌else◌}
use Rattle.std.specs.Option.{option_map}
use Rattle.std.specs.Str.{bytes_eq}
use Rattle.btf_records.specs.declared.words.Endianness.{Endianness}
use Rattle.btf_records.specs.declared.words.Endianness.TheVariants.{Little, Big}
use Rattle.clap.specs.Built.{IsParsedFrom}
use Rattle.clap.specs.Matches.{first_value, found_of, matched_of, one_text, raw_values}
use Rattle.clap.specs.Simple.{HasMatchesOf, app_of}
use Rattle.clap.specs.declared.builder.command.Command.{Command}
use Rattle.clap.specs.declared.parser.matches.ArgMatches.{ArgMatches}

-- The byte order of a name.
abbrev pub order_named : Option (List ℕ) → Endianness
order_named None = Little
order_named (Some name) = if bytes_eq name (codes "big") then Big else Little

-- The value that was found for an option, and the values for an option that may be given several
-- times.
abbrev pub value_found : ArgMatches → List ℕ → Option (List ℕ)
value_found matches id = first_value (found_of matches) id

abbrev pub values_found : ArgMatches → List ℕ → List (List ℕ)
values_found matches id = unwrap_or (option_map raw_values (matched_of (found_of matches) id)) []

-- Whether an option without a value was found.
pub record IsFlag (matches : ArgMatches) (id : List ℕ) (is_set : Bool) : Type 0 where
  pub none : one_text (found_of matches) id ≡ None → is_set ≡ false
  pub set : one_text (found_of matches) id ≡ Some (codes "true") → is_set ≡ true
  pub unset : one_text (found_of matches) id ≡ Some (codes "false") → is_set ≡ false

-- The matches that clap finds in the words, for a command.
pub record IsFoundBy (command : Command) (words : List (List ℕ)) (matches : ArgMatches)
    : Type 0 where
  pub parsed : IsParsedFrom command matches
  pub found : HasMatchesOf (app_of command) words matches
