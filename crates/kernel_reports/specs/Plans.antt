-- Whether an object has a plan for a kernel that grants each feature of types but those whose kind
-- of records its own types lack, and has the newer helpers unless its own types lack them; and what
-- the kernel makes of the plan.
use Rattle.std.specs.Prelude.{◌≡◌, ◌≢◌, ℕ, List, Bool, false, Option, None, Some, slice_get}
use Rattle.std.specs.Borrow.{Bor}
use Rattle.std.specs.Option.{IsSomeAnd}
use Rattle.load_plan.specs.Content.{PlanContent}
use Rattle.load_plan.specs.Inputs.{BtfFeature, Inputs, SettingsContent, Table, inputs, symbols_given}
use Rattle.load_plan.specs.Known.{IsPlanFor, IsRefusalFor}
use Rattle.ebpf_object.specs.ParsedObject.{ObjectContent}
use Rattle.plan_errors.specs.declared.error.PrepareError.{PrepareError}
use Rattle.plan_errors.specs.declared.error.PrepareError.TheVariants.{OutOfMemory}
use Rattle.load_plan.specs.declared.order.Order.TheVariants.{RelocateFirst}
use Rattle.report_checks.specs.Reports.{IsPlanReport}
use Rattle.report_checks.specs.declared.reports.PlanReport.{PlanReport}
use Rattle.kernel_reports.specs.Grants.{grants_of, has_newer_helpers}
use Rattle.kernel_reports.specs.Reaches.{no_reaches, reaches_of}
use Rattle.kernel_reports.specs.declared.planned.PlanAnswer.{PlanAnswer}
use Rattle.kernel_reports.specs.declared.planned.PlanAnswer.TheVariants.{Planned, Refused}
use Rattle.kernel_reports.specs.declared.planned.Prepared.{Prepared}
use Rattle.kernel_reports.specs.declared.planned.Prepared.TheVariants as prepared
use Rattle.kernel_reports.specs.declared.reach.Reach.{Reach}
use Rattle.kernel_reports.specs.declared.relocations.RelocationAt.{RelocationAt}

-- The inputs with this text of symbols, which is read completely.
abbrev pub inputs_of : List ℕ → List Table → List ℕ → SettingsContent → Inputs
inputs_of file kernel text settings =
    inputs file kernel (symbols_given text false) settings RelocateFirst

-- There is this plan, or a refusal with this error.
abbrev pub SaysOfPlan : (BtfFeature → Bool) → Bool → Inputs → Prepared → Type 0
SaysOfPlan grants newer i (prepared.Planned plan) = IsPlanFor grants newer i plan
SaysOfPlan grants newer i (prepared.Refused e) = (e ≢ OutOfMemory) × IsRefusalFor grants i e

abbrev pub IsPrepared : List ℕ → List Table → List ℕ → SettingsContent → Prepared → Type 0
IsPrepared file kernel text settings prepared =
    SaysOfPlan (grants_of (slice_get kernel 0)) (has_newer_helpers (slice_get kernel 0))
    (inputs_of file kernel text settings) prepared

-- What the kernel makes of a plan, if its types are given. The second types are the object's own.
abbrev pub IsReportOf : Option Table
    → Option Table
    → List (Bor (List ℕ))
    → PlanContent
    → Option PlanReport
    → Type 0
IsReportOf None types sections plan report = report ≡ None
IsReportOf (Some kernel) types sections plan report =
    IsSomeAnd report (IsPlanReport kernel types sections plan)

-- There is this plan, and this is what the kernel's first table makes of it.
abbrev pub IsReportedPlan : Inputs
    → Option Table
    → Option Table
    → List (Bor (List ℕ))
    → PlanContent
    → Option PlanReport
    → Type 0
IsReportedPlan i kernel types sections plan report =
    IsPlanFor (grants_of kernel) (has_newer_helpers kernel) i plan
    × IsReportOf kernel types sections plan report

-- There is a refusal with this error.
abbrev pub IsReportedRefusal : Inputs → Option Table → PrepareError → Type 0
IsReportedRefusal i kernel e = (e ≢ OutOfMemory) × IsRefusalFor (grants_of kernel) i e

-- There is a plan, with what the kernel makes of it, or a refusal.
abbrev pub SaysOfAnswer : Inputs
    → Option Table
    → Option Table
    → List (Bor (List ℕ))
    → PlanAnswer
    → Type 0
SaysOfAnswer i kernel types sections (Planned report) =
    (plan : PlanContent) × IsReportedPlan i kernel types sections plan report
SaysOfAnswer i kernel types sections (Refused e) = IsReportedRefusal i kernel e

abbrev pub IsPlanAnswer : List ℕ
    → Option Table
    → List Table
    → List ℕ
    → SettingsContent
    → List (Bor (List ℕ))
    → PlanAnswer
    → Type 0
IsPlanAnswer file types kernel text settings sections answer =
    SaysOfAnswer (inputs_of file kernel text settings) (slice_get kernel 0) types sections answer

-- The same, with the reaches of relocations of an object: of their poison in this plan, and no
-- reach after a refusal.
abbrev pub SaysOfReaches : Inputs
    → Option Table
    → List (Bor (List ℕ))
    → ObjectContent
    → List RelocationAt
    → PlanAnswer
    → List (Option Reach)
    → Type 0
SaysOfReaches i kernel sections o relocations (Planned report) reaches =
    (plan : PlanContent)
    × IsReportedPlan i kernel o.types sections plan report
    × (reaches ≡ reaches_of o plan report relocations)
SaysOfReaches i kernel sections o relocations (Refused e) reaches =
    IsReportedRefusal i kernel e × (reaches ≡ no_reaches relocations)

-- The same of a file, the tables of a kernel, a text of symbols and settings.
abbrev pub IsKernelAnswer : List ℕ
    → List Table
    → List ℕ
    → SettingsContent
    → List (Bor (List ℕ))
    → ObjectContent
    → List RelocationAt
    → PlanAnswer
    → List (Option Reach)
    → Type 0
IsKernelAnswer file kernel text settings sections o relocations answer reaches =
    SaysOfReaches (inputs_of file kernel text settings) (slice_get kernel 0) sections o relocations
    answer reaches
