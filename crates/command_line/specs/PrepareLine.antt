-- The arguments of a command line of `bpf_prepare`.
use Rattle.std.specs.Prelude.{◌≡◌, ℕ, List, Some, codes, false, map}
use Rattle.std.specs.Option.{option_map}
use Rattle.clap.specs.Simple.{app_of}
use Rattle.clap.specs.Takes.{takes}
use Rattle.clap.specs.declared.builder.command.Command.{Command}
use Rattle.clap.specs.declared.parser.matches.ArgMatches.{ArgMatches}
use Rattle.command_line.specs.Commands.{TakesObject}
use Rattle.command_line.specs.Found.{order_named, value_found, values_found, IsFlag, IsFoundBy}
use Rattle.command_line.specs.PrepareCommand.{IsPrepareCommand}
use Rattle.run_settings.specs.Features.{feature_named}
use Rattle.command_line.specs.declared.prepare_line.Arguments.{Arguments}

-- The matches that clap finds in the words, for the program's command line, which requires the
-- object's file.
pub record IsPrepareMatch (words : List (List ℕ)) (matches : ArgMatches) : Type 0 where
  pub command : Command
  pub program : IsPrepareCommand (app_of command)
  pub takes : TakesObject command
  pub found : IsFoundBy command words matches

-- The line has the values that are found in the words, and the object's file.
pub record IsPrepareLine (words : List (List ℕ)) (line : Arguments) : Type 0 where
  pub matches : ArgMatches
  pub match : IsPrepareMatch words matches
  pub object : value_found matches (codes "OBJECT") ≡ Some line.object.now
  pub types : map (λ name. name.now) line.types.items ≡ values_found matches (codes "types")
  pub types_order : line.types_order ≡ order_named (value_found matches (codes "types-order"))
  pub symbols : option_map (λ name. name.now) line.symbols ≡ value_found matches (codes "symbols")
  pub settings : option_map (λ name. name.now) line.settings
      ≡ value_found matches (codes "settings")
  pub rewrite_first : IsFlag matches (codes "rewrite-first") line.rewrite_first
  pub notes : IsFlag matches (codes "notes") line.notes
  pub number_maps : IsFlag matches (codes "number-maps") line.number_maps
  pub older_helpers : IsFlag matches (codes "older-helpers") line.has_older_helpers
  pub maps : map (λ word. word.now) line.maps.items ≡ values_found matches (codes "map")
  pub globals : map (λ word. word.now) line.globals.items ≡ values_found matches (codes "global")
  pub denied : map Some line.denied.items ≡ map feature_named (values_found matches (codes "deny"))

-- The program's command line refuses the words, by clap's own definition of the words that a
-- command takes.
pub record IsRefusedPrepareLine (words : List (List ℕ)) : Type 0 where
  pub command : Command
  pub program : IsPrepareCommand (app_of command)
  pub refused : takes (app_of command) words ≡ false
