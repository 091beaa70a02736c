-- The command lines of both programs.
use Rattle.std.specs.Prelude.{◌≡◌, ◌∷◌, [], ℕ, List, codes, true, false, Some}
use Rattle.std.specs.List.{All}
use Rattle.std.specs.Str.{bytes_eq}
use Rattle.clap.specs.Built.{IsPlain, TakesValue}
use Rattle.clap.specs.Facts.{args_of}
use Rattle.clap.specs.Simple.{App, new_app, new_rule, on_top, with_rule}
use Rattle.clap.specs.Walk.{Rule}
use Rattle.clap.specs.declared.builder.action.ArgAction.TheVariants.{Set}
use Rattle.clap.specs.declared.builder.command.Command.TheViews.{out-Command}
use Rattle.clap.specs.declared.builder.arg.Arg.{Arg}
use Rattle.clap.specs.declared.builder.command.Command.{Command}
use Rattle.clap.specs.declared.builder.value_parser.ValueParser.{ValueParser}
use Rattle.command_line.specs.Options.{repeated, valued, with_rules, TakesNames}

-- A command requires the object's file, and no other argument excludes it.
pub record TakesObject (c : Command) : Type 0 where
  pub plain : IsPlain c
  pub local : (out-Command c).has_globals ≡ false
  pub needs : (out-Command c).subcommand_negates_reqs ≡ false
  pub object : Arg
  pub options : List Arg
  pub args : args_of c ≡ object ∷ options
  pub value : TakesValue object
  pub name : object.id.now ≡ codes "OBJECT"
  pub others : All (λ a. bytes_eq a.id.now (codes "OBJECT") ≡ false) options

-- The command that takes only the object's file, for the program of a name.
abbrev pub object_app : List ℕ → App
object_app program =
    with_rule (on_top (λ s. record s { has_version = true }) (new_app program))
    (record (new_rule (codes "OBJECT")) { required = true; action = Some Set })

-- The options that name files of kernels. The default byte order of their types is little-endian.
abbrev pub kernel_file_rules : ValueParser → List Rule
kernel_file_rules order =
    repeated (codes "types")
    ∷ record (valued (codes "types-order")) { parser = Some order; defaults = codes "little" ∷ [] }
    ∷ valued (codes "symbols")
    ∷ []

pub record HasKernelFiles (app new : App) : Type 0 where
  pub order : ValueParser
  pub orders : TakesNames order (codes "little" ∷ codes "big" ∷ [])
  pub is : new ≡ with_rules app (kernel_file_rules order)
