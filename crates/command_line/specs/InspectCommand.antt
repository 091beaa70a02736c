-- The command line of `inspect_object`.
use Rattle.std.specs.Prelude.{◌≡◌, ◌∷◌, [], List, Some, codes}
use Rattle.clap.specs.Simple.{App}
use Rattle.clap.specs.Walk.{Rule}
use Rattle.clap.specs.declared.builder.value_parser.ValueParser.{ValueParser}
use Rattle.command_line.specs.Commands.{object_app, HasKernelFiles}
use Rattle.command_line.specs.Options.{flag, repeated, valued, with_rules, TakesNames}

-- The options for the form of the reports.
abbrev pub report_rules : ValueParser → List Rule
report_rules format =
    flag (codes "summary")
    ∷ flag (codes "check")
    ∷ record (valued (codes "format")) { parser = Some format }
    ∷ []

pub record HasReports (app new : App) : Type 0 where
  pub format : ValueParser
  pub formats : TakesNames format (codes "lines" ∷ codes "table" ∷ codes "json" ∷ [])
  pub is : new ≡ with_rules app (report_rules format)

-- The options for what a check counts.
abbrev pub check_rules : List Rule
check_rules = repeated (codes "optional") ∷ flag (codes "strict") ∷ []

-- The options for several objects.
abbrev pub object_rules : List Rule
object_rules =
    repeated (codes "object") ∷ flag (codes "failures") ∷ valued (codes "extract") ∷ []

-- The options for code.
abbrev pub listing_rules : List Rule
listing_rules = flag (codes "code") ∷ valued (codes "program") ∷ flag (codes "plan") ∷ []

-- The command line takes the object's file, the files of kernels, and these options.
pub record IsInspectCommand (app : App) : Type 0 where
  pub files : App
  pub of_files : HasKernelFiles (object_app (codes "inspect_object")) files
  pub reports : App
  pub of_reports : HasReports files reports
  pub of_listings : app
      ≡ with_rules (with_rules (with_rules reports check_rules) object_rules) listing_rules
