-- Plans and refusals for a kernel, by answers that depend only on the question.
use Rattle.std.proofs.Common.{◌≡◌, ◌≢◌, ℕ, false, Bool, List, subst, sym}
use Rattle.std.specs.Fn.{Called}
use Rattle.load_plan.proofs.Known.{planned, refused}
use Rattle.load_plan.specs.Content.{PlanContent}
use Rattle.load_plan.specs.Inputs.{BtfFeature, Predicate, SettingsContent, Table, inputs, symbols_given}
use Rattle.load_plan.specs.Known.{IsPlanFor, IsRefusalFor}
use Rattle.load_plan.specs.Planned.{IsPlanned, IsRefusal}
use Rattle.plan_errors.specs.declared.error.PrepareError.{PrepareError}
use Rattle.plan_errors.specs.declared.error.PrepareError.TheVariants.{OutOfMemory}
use Rattle.load_plan.specs.declared.order.Order.TheVariants.{RelocateFirst}
use Rattle.kernel_reports.specs.Plans.{inputs_of}

-- A plan for a kernel whose symbols are these bytes, which are read completely.
pub planned_says : {F : Type 0} (predicate : Predicate F) (grants : BtfFeature → Bool) (Keeps : F → Type 0) → ((s t : F) (f : BtfFeature) (b : Bool) → Keeps s → Called predicate s (f, tt) b t → (b ≡ grants f) × Keeps t) → (before : F) → Keeps before → (Says : Bool → Type 0) → (newer : Bool) → ((answer : Bool) → Says answer → answer ≡ newer) → (file : List ℕ) (tables kernel : List Table) (text bytes : List ℕ) (failed : Bool) (settings : SettingsContent) (plan : PlanContent) → tables ≡ kernel → bytes ≡ text → failed ≡ false → IsPlanned predicate before Says (inputs file tables (symbols_given text failed) settings RelocateFirst) plan → IsPlanFor grants newer (inputs_of file kernel bytes settings) plan
planned_says predicate grants Keeps tells before keeps Says newer says file tables kernel text bytes failed settings plan same whole read p =
    subst (λ (ks : List Table). IsPlanFor grants newer (inputs file ks (symbols_given bytes false) settings RelocateFirst) plan) same
    (subst (λ (t : List ℕ). IsPlanFor grants newer (inputs file tables (symbols_given t false) settings RelocateFirst) plan) (sym whole)
    (subst (λ (b : Bool). IsPlanFor grants newer (inputs file tables (symbols_given text b) settings RelocateFirst) plan) read
    (planned predicate grants Keeps tells before keeps Says newer says (inputs file tables (symbols_given text failed) settings RelocateFirst) plan p)))

-- A refusal for such a kernel.
pub refused_says : {F : Type 0} (predicate : Predicate F) (grants : BtfFeature → Bool) (Keeps : F → Type 0) → ((s t : F) (f : BtfFeature) (b : Bool) → Keeps s → Called predicate s (f, tt) b t → (b ≡ grants f) × Keeps t) → (before : F) → Keeps before → (file : List ℕ) (tables kernel : List Table) (text bytes : List ℕ) (failed : Bool) (settings : SettingsContent) (e r : PrepareError) → tables ≡ kernel → bytes ≡ text → failed ≡ false → (r ≡ e) → (e ≢ OutOfMemory) → IsRefusal predicate before (inputs file tables (symbols_given text failed) settings RelocateFirst) e → (r ≢ OutOfMemory) × IsRefusalFor grants (inputs_of file kernel bytes settings) r
refused_says predicate grants Keeps tells before keeps file tables kernel text bytes failed settings e r given whole read same other p =
    subst (λ (x : PrepareError). (x ≢ OutOfMemory) × IsRefusalFor grants (inputs file kernel (symbols_given bytes false) settings RelocateFirst) x) (sym same) (
      other,
      subst (λ (ks : List Table). IsRefusalFor grants (inputs file ks (symbols_given bytes false) settings RelocateFirst) e) given
          (subst (λ (t : List ℕ). IsRefusalFor grants (inputs file tables (symbols_given t false) settings RelocateFirst) e) (sym whole)
          (subst (λ (b : Bool). IsRefusalFor grants (inputs file tables (symbols_given text b) settings RelocateFirst) e) read
          (refused predicate grants Keeps tells before keeps (inputs file tables (symbols_given text failed) settings RelocateFirst) e p))),
    )
