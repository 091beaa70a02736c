-- The order of the passes over types changes neither a plan nor whether there is one, where what
-- type relocations reach in the object's types is left alone.
use Rattle.std.specs.Prelude.{◌≡◌, ◌⊎◌, ℕ, Bool, true, List, [], ◌∷◌, map, All, Some, is_some}
use Rattle.btf_records.specs.declared.feature.BtfFeature.{BtfFeature}
use Rattle.btf_records.specs.declared.types.BtfType.{BtfType}
use Rattle.btf_sanitize.specs.Answers.{Answers}
use Rattle.btf_tables.specs.Holdings.{held_names}
use Rattle.btf_tables.specs.Tables.{Table, type_by_id}
use Rattle.core_relocation.specs.Reach.{reach_of}
use Rattle.core_relocation.specs.Relocations.{SectionInfos}
use Rattle.ebpf_object.specs.TypeRelocations.{type_section_infos}
use Rattle.load_plan.specs.Inputs.{GoByFeature, Inputs, State, Under, in_order}
use Rattle.load_plan.specs.Passes.{Externs, FunctionRecords, GlobalValues, KernelTypes, Made, Makes, MapNumbers, Pass, Refused, Refuses, first_of, linking, passes, patching, second_of}
use Rattle.load_plan.specs.declared.order.Order.{Order}
use Rattle.load_plan.specs.declared.order.Order.TheVariants.{RelocateFirst, RewriteFirst}
use Rattle.ebpf_object.specs.Rewriting.{IsRewritten}
use Rattle.load_plan.specs.PlanMaps.{plan_map}
use Rattle.load_plan.specs.Plans.{plan_of}
use Rattle.plan_errors.specs.declared.error.PrepareError.{PrepareError}
use Rattle.plan_text.specs.Content.{PlanContent}
use Rattle.string_table.specs.Texts.{text_at}

-- The names of the reached records, the access strings, and the names of the sections of section
-- infos can be read.
pub record IsReadable (table : Table) (section_infos : SectionInfos) : Type 0 where
  pub names : (id : ℕ) (t : BtfType)
      → reach_of table section_infos id ≡ true
      → type_by_id table id ≡ Some t
      → All (λ offset. is_some (text_at table.strings offset) ≡ true) (held_names t)
  pub accesses : All (λ x.
      All (λ r. is_some (text_at table.strings r.access_str_off) ≡ true) x.records) section_infos
  pub sections : All (λ x. is_some (text_at table.strings x.name_offset) ≡ true) section_infos

-- The reached records are the same in another table.
pub record StaysReached (table new : Table) (section_infos : SectionInfos) : Type 0 where
  pub same : (id : ℕ)
      → reach_of table section_infos id ≡ true
      → type_by_id new id ≡ type_by_id table id

-- What an object's type relocations reach in its types can be read, and is unchanged where its
-- types are rewritten under the answers.
pub record IsOrderFree (answers : Answers) (object : State) : Type 0 where
  pub readable : (table : Table)
      → object.types ≡ Some table
      → IsReadable table (type_section_infos object)
  pub stays : (table new : Table)
      → object.types ≡ Some table
      → IsRewritten answers object.file object.externs.ksyms (Some table) (Some new)
      → StaysReached table new (type_section_infos object)

-- This holds under any answers that depend on the feature alone.
pub record IsOrderFreeFor (grants : BtfFeature → Bool) (object : State) : Type 0 where
  pub each : (answers : Answers) → GoByFeature grants answers → IsOrderFree answers object

-- The passes before those over types.
abbrev pub checking : List Pass
checking = FunctionRecords ∷ MapNumbers ∷ GlobalValues ∷ KernelTypes ∷ Externs ∷ []

-- A pass refuses an object in an order of the passes over types, for a kernel that grants these
-- features.
abbrev pub IsRefusedIn : Order → (BtfFeature → Bool) → Inputs → State → PrepareError → Type 0
IsRefusedIn order grants i object e =
    (u : Under) × GoByFeature grants u.answers × Refused (passes order) i u object e

-- The passes before those over types are made. Of the passes over types in an order, the second
-- refuses with this error whatever the first makes. A pass refuses in the order (`some`). This is
-- doubly negated, because which of the two refuses is found by running them.
pub record IsRefusedBySecond (order : Order) (grants : BtfFeature → Bool) (i : Inputs)
    (object : State) (e : PrepareError) : Type 0 where
  pub under : Under
  pub checked : State
  pub checking : Made checking i under object checked
  pub refused : (u : Under) (t : State)
      → GoByFeature grants u.answers
      → Makes (first_of order) i u checked t
      → (v : Under) × GoByFeature grants v.answers × Refuses (second_of order) i v t e
  pub some : ((fault : PrepareError) → IsRefusedIn order grants i object fault → ⊥) → ⊥

-- One fault or another: a pass refuses with this error in the order, or the second of the passes
-- over types does so unless the first refuses.
abbrev pub RefusesToo : Order → (BtfFeature → Bool) → Inputs → State → PrepareError → Type 0
RefusesToo order grants i object e =
    IsRefusedIn order grants i object e ⊎ IsRefusedBySecond order grants i object e

-- The plan is the result of all passes over an object, under answers.
pub record IsMadePlan (i : Inputs) (u : Under) (object : State) (plan : PlanContent) : Type 0 where
  pub patched : State
  pub patching : Made (patching i.order) i u object patched
  pub final : State
  pub linking : Made linking i u patched final
  pub is : plan ≡ plan_of u.answers (map (plan_map i.settings) final.maps) final

-- Both orders give the same plans, including the kernel tables that relocations matched.
pub record OrdersAgree : Type 0 where
  pub each : (i : Inputs) (u : Under) (object : State)
      → IsOrderFree u.answers object
      → (plan : PlanContent)
      → (IsMadePlan (in_order RelocateFirst i) u object plan
      → IsMadePlan (in_order RewriteFirst i) u object plan)
      × (IsMadePlan (in_order RewriteFirst i) u object plan
      → IsMadePlan (in_order RelocateFirst i) u object plan)
