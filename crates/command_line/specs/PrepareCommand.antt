-- The command line of `bpf_prepare`.
use Rattle.std.specs.Prelude.{◌≡◌, ◌∷◌, [], List, codes, Some}
use Rattle.clap.specs.Simple.{App}
use Rattle.clap.specs.Walk.{Rule}
use Rattle.clap.specs.declared.builder.value_parser.ValueParser.{ValueParser}
use Rattle.command_line.specs.Commands.{object_app, HasKernelFiles}
use Rattle.command_line.specs.Options.{flag, repeated, valued, with_rules, TakesNames}
use Rattle.run_settings.specs.Features.{feature_names}

-- The options for parts that the kernel lacks.
abbrev pub lack_rules : ValueParser → List Rule
lack_rules feature =
    record (repeated (codes "deny")) { parser = Some feature } ∷ flag (codes "older-helpers") ∷ []

pub record HasLacks (app new : App) : Type 0 where
  pub feature : ValueParser
  pub features : TakesNames feature feature_names
  pub is : new ≡ with_rules app (lack_rules feature)

-- The options that set something for the object.
abbrev pub settings_rules : List Rule
settings_rules =
    valued (codes "settings")
    ∷ repeated (codes "map")
    ∷ repeated (codes "global")
    ∷ flag (codes "rewrite-first")
    ∷ flag (codes "notes")
    ∷ flag (codes "number-maps")
    ∷ []

pub record HasSettings (app new : App) : Type 0 where
  pub is : new ≡ with_rules app settings_rules

-- The command line has all of these options.
pub record IsPrepareCommand (app : App) : Type 0 where
  pub files : App
  pub of_files : HasKernelFiles (object_app (codes "bpf_prepare")) files
  pub lacks : App
  pub of_lacks : HasLacks files lacks
  pub of_settings : HasSettings lacks app
