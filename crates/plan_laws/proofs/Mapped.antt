-- The maps of a plan.
use Rattle.std.proofs.Common.{◌≡◌, ◌∷◌, ℕ, Bool, true, false, not, ◌||◌, List, [], map, Option, None, Some, is_none, refl, sym, ap, ◌∙◌, subst}
use Rattle.std.specs.List.{AllByRecursion, AllZip, list_any}
use Rattle.std.specs.Option.{unwrap_or}
use Rattle.ebpf_items.specs.Maps.{MapView}
use Rattle.elf64.specs.Symbols.{symbols_of}
use Rattle.global_data.specs.GlobalData.{first_fault, patched}
use Rattle.global_data.specs.Kept.{IsOutside, Stays, ValuesLeaveBytes}
use Rattle.load_plan.specs.Inputs.{Inputs, State, Under}
use Rattle.load_plan.specs.Passes.{ExternSlots, Externs, FunctionRecords, GlobalValues, Helpers, KernelTypes, Links, Makes, MapNumbers, MapSlots, Pass, TypeSlots, Types, first_of, linking, second_of}
use Rattle.load_plan.specs.Planned.{IsPlanOf, IsWholeObject}
use Rattle.load_plan.specs.declared.order.Order.{Order}
use Rattle.load_plan.specs.declared.order.Order.TheVariants.{RelocateFirst, RewriteFirst}
use Rattle.plan_laws.proofs.Kept.{made-keeps}
use Rattle.plan_laws.proofs.Parsed.{maps-rise}
use Rattle.plan_laws.specs.Maps.{IsMapOf, MapsKeepLengths}
use Rattle.load_plan.specs.Numbers.{are_numbered, set_number}
use Rattle.load_plan.specs.PlanMaps.{plan_map}
use Rattle.plan_text.specs.Content.{PlanContent}
use Rattle.settings.specs.Content.{SettingsContent}

-- Exactly one pass changes maps.

abbrev LeavesMaps : Pass → Type 0
LeavesMaps GlobalValues = ⊥
LeavesMaps _ = Unit {0}

leaves-maps : (i : Inputs) (u : Under) (p : Pass) (s t : State) → LeavesMaps p → Makes p i u s t → t.maps ≡ s.maps
leaves-maps i u FunctionRecords s t leaves made = ap (λ (x : State). x.maps) made.1
leaves-maps i u MapNumbers s t leaves made = ap (λ (x : State). x.maps) made.1
leaves-maps i u GlobalValues s t leaves made = absurd leaves
leaves-maps i u KernelTypes s t leaves made = ap (λ (x : State). x.maps) made.1
leaves-maps i u Externs s t leaves made = ap (λ (x : State). x.maps) made.others
leaves-maps i u TypeSlots s t leaves made = ap (λ (x : State). x.maps) made.others
leaves-maps i u Types s t leaves made = ap (λ (x : State). x.maps) made.others
leaves-maps i u MapSlots s t leaves made = ap (λ (x : State). x.maps) made.others
leaves-maps i u ExternSlots s t leaves made = ap (λ (x : State). x.maps) made.others
leaves-maps i u Links s t leaves made = ap (λ (x : State). x.maps) made.others
leaves-maps i u Helpers s t leaves made = ap (λ (x : State). x.maps) made.functions

-- The passes after it.
all-leave : (order : Order)
    → AllByRecursion LeavesMaps (KernelTypes ∷ Externs ∷ first_of order ∷ second_of order ∷ MapSlots ∷ ExternSlots ∷ [])
all-leave RelocateFirst = (tt, (tt, (tt, (tt, (tt, (tt, tt))))))
all-leave RewriteFirst = (tt, (tt, (tt, (tt, (tt, (tt, tt))))))

-- Numbers that are set.

number-set : (o : Option ℕ) → is_none o ≡ false → o ≡ Some (unwrap_or o 0)
number-set None is = cc
number-set (Some n) is = refl

abbrev AreSet : SettingsContent → List (List ℕ × MapView) → Type 0
AreSet settings maps = list_any (λ e. is_none (set_number settings e.0)) maps ≡ false

-- The maps of a plan, by those of an object with values.

map-of : (i : Inputs) (object : State) (e m : List ℕ × MapView) → is_none (set_number i.settings e.0) ≡ false
    → Stays (IsOutside (symbols_of i.file) object.maps i.settings.globals) e m
    → IsMapOf i object e (plan_map i.settings m)
map-of i object e m set stays = record {
  name = stays.name;
  number =
      number-set (set_number i.settings e.0) set
      ∙ ap (λ (n : List ℕ). Some (unwrap_or (set_number i.settings n) 0)) (sym stays.name);
  sized = stays.sized;
  rest = stays.rest;
}

set-parts : (t u : Bool) → (t || u) ≡ false → (t ≡ false) × (u ≡ false)
set-parts true u is = absurd (cc)
set-parts false u is = (refl, is)

maps-of : (i : Inputs) (object : State) (es ms : List (List ℕ × MapView)) → AreSet i.settings es
    → AllZip (Stays (IsOutside (symbols_of i.file) object.maps i.settings.globals)) es ms
    → AllZip (IsMapOf i object) es (map (plan_map i.settings) ms)
maps-of i object [] [] set stays = tt
maps-of i object [] (m ∷ ms) set stays = absurd stays
maps-of i object (e ∷ es) [] set stays = absurd stays
maps-of i object (e ∷ es) (m ∷ ms) set stays =
    let parts =
    set-parts (is_none (set_number i.settings e.0)) (list_any (λ x. is_none (set_number i.settings x.0)) es) set in
    (map-of i object e m parts.0 stays.0, maps-of i object es ms parts.1 stays.1)

not-any : (t : Bool) → not t ≡ true → t ≡ false
not-any true is = cc
not-any false is = refl

keep-lengths : ValuesLeaveBytes → (i : Inputs) (u : Under) (object : State) (plan : PlanContent) → IsWholeObject i.file object
    → IsPlanOf i u object plan → AllZip (IsMapOf i object) object.maps plan.maps
keep-lengths law i u object plan whole planned =
    let one = planned.patching in
    let two = one.2 in
    let three = two.2 in
    let first : two.0 ≡ object = two.1.1 ∙ one.1.1 in
    let after =
    made-keeps i u (λ s. s.maps) LeavesMaps (leaves-maps i u)
    (KernelTypes ∷ Externs ∷ first_of i.order ∷ second_of i.order ∷ MapSlots ∷ ExternSlots ∷ [])
    (all-leave i.order) three.0 planned.patched three.2 in
    let linked =
    made-keeps i u (λ s. s.maps) LeavesMaps (leaves-maps i u) linking
    (tt, (tt, tt)) planned.patched planned.final planned.linking in
    let put =
    ap (λ (s : State). s.maps) three.1.maps ∙ ap (λ (s : State). patched s.file s.maps i.settings.globals) first
    ∙ ap (λ (file : List ℕ). patched file object.maps i.settings.globals) whole.parsed.same_file in
    let sound : first_fault i.file object.maps i.settings.globals ≡ None =
    subst (λ (file : List ℕ). first_fault file object.maps i.settings.globals ≡ None) whole.parsed.same_file
    (subst (λ (s : State). first_fault s.file s.maps i.settings.globals ≡ None) first three.1.sound) in
    let set : AreSet i.settings object.maps =
    not-any (list_any (λ e. is_none (set_number i.settings e.0)) object.maps)
    (subst (λ (s : State). are_numbered i.settings s.maps ≡ true) one.1.1 two.1.0) in
    let all =
    maps-of i object object.maps (patched i.file object.maps i.settings.globals) set
    (law.each i.file object.maps i.settings.globals (maps-rise i.file object whole) sound) in
    let maps = ap (λ (p : PlanContent). p.maps) planned.is ∙ ap (map (plan_map i.settings)) (linked ∙ after ∙ put) in
    subst (AllZip (IsMapOf i object) object.maps) (sym maps) all

pub maps_keep_lengths : ValuesLeaveBytes → MapsKeepLengths
maps_keep_lengths law = record { each = keep-lengths law }
