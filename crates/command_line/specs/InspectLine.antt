-- The arguments of a command line of `inspect_object`.
use Rattle.std.specs.Prelude.{◌≡◌, ℕ, Bool, List, Option, None, Some, bytes_eq, codes, false, map, if◌then◌else◌}
use Rattle.std.specs.Option.{option_map}
use Rattle.clap.specs.Simple.{app_of}
use Rattle.clap.specs.Takes.{takes}
use Rattle.clap.specs.declared.builder.command.Command.{Command}
use Rattle.clap.specs.declared.parser.matches.ArgMatches.{ArgMatches}
use Rattle.command_line.specs.Commands.{TakesObject}
use Rattle.command_line.specs.Found.{order_named, value_found, values_found, IsFlag, IsFoundBy}
use Rattle.command_line.specs.InspectCommand.{IsInspectCommand}
use Rattle.command_line.specs.declared.format.Format.{Format}
use Rattle.command_line.specs.declared.format.Format.TheVariants.{Json, Lines, Table}
use Rattle.command_line.specs.declared.inspect_line.InspectArguments.{InspectArguments}

-- The format of a name. Without one it is a table if a summary is asked for.
abbrev pub format_named : Bool → Option (List ℕ) → Option Format
format_named summary None = if summary then Some Table else None
format_named summary (Some name) =
    if bytes_eq name (codes "table") then Some Table
    else (if bytes_eq name (codes "json") then Some Json
    else Some Lines)

-- The matches that clap finds in the words, for the program's command line, which requires the
-- object's file.
pub record IsInspectMatch (words : List (List ℕ)) (matches : ArgMatches) : Type 0 where
  pub command : Command
  pub program : IsInspectCommand (app_of command)
  pub takes : TakesObject command
  pub found : IsFoundBy command words matches

-- The line has the values that are found in the words, and the object's file.
pub record IsInspectLine (words : List (List ℕ)) (line : InspectArguments) : Type 0 where
  pub matches : ArgMatches
  pub match : IsInspectMatch words matches
  pub object : value_found matches (codes "OBJECT") ≡ Some line.object.now
  pub more_objects : map (λ name. name.now) line.more_objects.items
      ≡ values_found matches (codes "object")
  pub types : map (λ name. name.now) line.types.items ≡ values_found matches (codes "types")
  pub types_order : line.types_order ≡ order_named (value_found matches (codes "types-order"))
  pub symbols : option_map (λ name. name.now) line.symbols ≡ value_found matches (codes "symbols")
  pub check : IsFlag matches (codes "check") line.check
  pub optional : map (λ name. name.now) line.optional.items ≡ values_found matches (codes "optional")
  pub strict : IsFlag matches (codes "strict") line.strict
  pub failures : IsFlag matches (codes "failures") line.failures
  pub extract : option_map (λ name. name.now) line.extract ≡ value_found matches (codes "extract")
  pub summary : Bool
  pub is_summary : IsFlag matches (codes "summary") summary
  pub format : line.format ≡ format_named summary (value_found matches (codes "format"))
  pub code : IsFlag matches (codes "code") line.code
  pub program : option_map (λ name. name.now) line.program ≡ value_found matches (codes "program")
  pub plan : IsFlag matches (codes "plan") line.plan

-- The program's command line refuses the words, by clap's own definition of the words that a
-- command takes.
pub record IsRefusedInspectLine (words : List (List ℕ)) : Type 0 where
  pub command : Command
  pub program : IsInspectCommand (app_of command)
  pub refused : takes (app_of command) words ≡ false
