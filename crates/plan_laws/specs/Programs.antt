-- A description of each program of a plan.
use Rattle.std.specs.Prelude.{◌≡◌, ℕ, List, Option, Some, None}
use Rattle.std.specs.List.{AllZip}
use Rattle.btf_sanitize.specs.Answers.{Answers}
use Rattle.btf_rewrite.specs.Sanitizing.{stepped}
use Rattle.btf_tables.specs.Sections.{HoldsTable}
use Rattle.btf_tables.specs.Tables.{Table}
use Rattle.load_plan.specs.Granted.{NeedGranted}
use Rattle.load_plan.specs.Inputs.{Inputs, State, Under}
use Rattle.load_plan.specs.Passes.{Made, patching, unlinked_of}
use Rattle.load_plan.specs.Planned.{IsPlanOf}
use Rattle.load_plan.specs.Programs.{Before, IsPlanProgram, before_slots, func_records_of, own_key}
use Rattle.object_parts.specs.Content as parts
use Rattle.plan_text.specs.Content.{PlanContent, ProgramContent}

-- The bytes of a plan's types hold a table. The record of each id needs only features that the plan
-- lists as granted. A section without entries that had a size before needs only the features of a
-- section with entries.
pub record HoldsGranted (object : State) (table : Table) (features : Answers) (bytes : List ℕ)
    : Type 0 where
  pub old : object.types ≡ Some table
  pub held : Table
  pub holds : HoldsTable table.order bytes held
  pub granted : NeedGranted features (stepped object.externs.ksyms table).types held.types

-- A plan without types needs no feature.
abbrev pub TypesAreGranted : State → Answers → Option (List ℕ) → Type 0
TypesAreGranted object features None = Unit {0}
TypesAreGranted object features (Some bytes) =
    (table : Table) × HoldsGranted object table features bytes

-- A program of an object, with its name.
abbrev pub Named : Type 0
Named = List ℕ × parts.ProgramContent

-- A program of a plan is the program of the object that the contract of `prepare` says, and by the
-- plan alone: its function records are those for the features that the plan lists, and the features
-- that the records of types in the plan's bytes need are granted.
pub record IsDescribed (i : Inputs) (u : Under) (object patched : State) (before : Before)
    (plan : PlanContent) (e : Named) (p : ProgramContent) : Type 0 where
  pub program : IsPlanProgram i u object patched before plan e p
  pub records : p.func_records
      ≡ func_records_of plan.features (unlinked_of patched) (own_key e.1) program.keys
  pub types : TypesAreGranted object plan.features plan.type_bytes

-- The programs of a plan have this description.
pub record AreDescribed (i : Inputs) (u : Under) (object : State) (plan : PlanContent)
    : Type 0 where
  pub patched : State
  pub made : Made (patching i.order) i u object patched
  pub programs : AllZip
      (IsDescribed i u object patched (before_slots i u object patched made) plan) object.programs
      plan.programs

-- The programs of each plan have this description.
pub record PlanProgramsAreDescribed : Type 0 where
  pub each : (i : Inputs) (u : Under) (object : State) (plan : PlanContent)
      → IsPlanOf i u object plan → AreDescribed i u object plan
