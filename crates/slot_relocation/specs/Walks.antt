-- The results of the steps of relocation.
use Rattle.std.specs.Prelude.{◌≡◌, ◌⊎◌, ⊤, ℕ, ◌+◌, ◌<◌, ◌&&◌, Bool, true, false, not, List, [], ◌∷◌, length, map, slice_get, IfSome, IsSome, Option, Some, None, option_and_then, if◌then◌else◌}
use Rattle.std.specs.BTreeMap.{get}
use Rattle.std.specs.Map.{values_of}
use Rattle.std.specs.Ordering.{is_lt, nat_cmp, ordering_then}
use Rattle.std.specs.declared.alloc.Global.{Global}
use Rattle.std.specs.declared.collections.BTreeMap.{BTreeMap}
use Rattle.ebpf_items.specs.declared.instruction.bpf_insn.{bpf_insn}
use Rattle.object_parts.specs.Content.{FunctionContent}
use Rattle.relocation_errors.specs.declared.error.RelocationError.{RelocationError}
use Rattle.slot_relocation.specs.declared.outcome.Fault.{Fault}
use Rattle.slot_relocation.specs.declared.outcome.Outcome.{Outcome}
use Rattle.slot_relocation.specs.declared.outcome.Outcome.TheVariants.{Written, Refused}
use Rattle.slot_relocation.specs.declared.rule.Refusal.{Refusal}
use Rattle.slot_relocation.specs.declared.rule.Refusal.TheVariants as refusal
use Rattle.slot_relocation.specs.declared.driver.FaultAt.{FaultAt}
use Rattle.slot_relocation.specs.declared.driver.Stop.{Stop}
use Rattle.slot_relocation.specs.declared.driver.Stop.TheVariants as stop
use Rattle.slot_relocation.specs.Writes.{IsErrorOf, RuleOf, HasFaultAmong, after_one, outcome_at, relocated_by}
use Rattle.slot_relocation.specs.Maps.{NumberedMap, is_of_section, is_of_symbol, last_map}

-- The indexes of maps, by the numbers of their symbols or sections.
abbrev pub Places : Type 0
Places = BTreeMap ℕ ℕ Global

abbrev pub map_at : List NumberedMap → Places → ℕ → Option NumberedMap
map_at maps places index = option_and_then (slice_get maps) (get nat_cmp places index)

-- The indexes are those of the last map of each symbol and of each section.
pub record AreLastOf (all given : List NumberedMap) (by_symbol by_section : Places) : Type 0 where
  pub symbol : (index : ℕ) → map_at all by_symbol index ≡ last_map (is_of_symbol index) given
  pub section : (index : ℕ) → map_at all by_section index ≡ last_map (is_of_section index) given

-- The slots that an outcome writes exist.
abbrev pub FitsIn : {E : Type 0} → List bpf_insn → ℕ → Outcome E → Type 0
FitsIn slots place (Written w) =
    (place < length slots) × IfSome w.next (λ s. place + 1 < length slots)
FitsIn slots place _ = ⊤

-- If an outcome writes the next slot, there is a next slot.
abbrev pub NextFits : {E : Type 0} → Option bpf_insn → Outcome E → Type 0
NextFits next (Written w) = IfSome w.next (λ s. IsSome next)
NextFits next _ = ⊤

abbrev pub is_refused : {E : Type 0} → Outcome E → Bool
is_refused (Refused cause) = true
is_refused _ = false

-- Whether no relocation has a fault, each computed from the slots after those before it.
abbrev pub are_sound : {A E : Type 0}
    → RuleOf A E
    → FunctionContent
    → List bpf_insn
    → List (ℕ × A)
    → Bool
are_sound rule f slots [] = true
are_sound rule f slots (r ∷ rs) =
    not (is_refused (outcome_at rule f slots r)) && are_sound rule f (after_one rule f slots r) rs

abbrev pub is_sound : {A E : Type 0} → RuleOf A E → List (ℕ × A) → FunctionContent → Bool
is_sound rule rs f = are_sound rule f f.instructions rs

-- The refusal of one relocation.
abbrev pub IsRefusalOf : {E : Type 0} → ℕ → Outcome E → Refusal E → Type 0
IsRefusalOf offset outcome (refusal.Fault o cause) = (o ≡ offset) × (outcome ≡ Refused cause)
IsRefusalOf offset outcome refusal.OutOfMemory = ⊤

-- The refusal of a function.
abbrev pub IsRefusal : {A E : Type 0}
    → RuleOf A E
    → List (ℕ × A)
    → FunctionContent
    → Refusal E
    → Type 0
IsRefusal rule rs f (refusal.Fault offset cause) = HasFaultAmong rule f rs offset cause
IsRefusal rule rs f refusal.OutOfMemory = ⊤

-- The fault is one of this function.
abbrev pub IsFaultAt : {A E : Type 0}
    → RuleOf A E
    → (FunctionContent → List (ℕ × A))
    → FunctionContent
    → FaultAt E
    → Type 0
IsFaultAt rule inside f x =
    (x.function.now ≡ f.name)
    × (x.section_index ≡ f.section_index)
    × HasFaultAmong rule f (inside f) x.offset x.fault

abbrev pub IsFaultIn : {A E : Type 0}
    → RuleOf A E
    → (FunctionContent → List (ℕ × A))
    → List ((ℕ × ℕ) × FunctionContent)
    → FaultAt E
    → Type 0
IsFaultIn rule inside [] x = ⊥
IsFaultIn rule inside (g ∷ gs) x = IsFaultAt rule inside g.1 x ⊎ IsFaultIn rule inside gs x

-- The reason for which functions aren't relocated: a fault of one of them, or out of memory.
abbrev pub IsStop : {A E : Type 0}
    → RuleOf A E
    → (FunctionContent → List (ℕ × A))
    → List ((ℕ × ℕ) × FunctionContent)
    → Stop E
    → Type 0
IsStop rule inside functions (stop.Fault x) = IsFaultIn rule inside functions x
IsStop rule inside functions stop.OutOfMemory = ⊤

abbrev pub changed : {A E : Type 0}
    → RuleOf A E
    → (FunctionContent → List (ℕ × A))
    → FunctionContent
    → FunctionContent
changed rule inside f = relocated_by rule (inside f) f

-- No relocation inside these functions has a fault.
abbrev pub AllSound : {A E : Type 0}
    → RuleOf A E
    → (FunctionContent → List (ℕ × A))
    → List ((ℕ × ℕ) × FunctionContent)
    → Type 0
AllSound rule inside [] = ⊤
AllSound rule inside (g ∷ gs) = (is_sound rule (inside g.1) g.1 ≡ true) × AllSound rule inside gs

-- The functions so far are relocated without a fault, or this is a fault of one of them.
abbrev pub AreWalked : {A E : Type 0}
    → RuleOf A E
    → (FunctionContent → List (ℕ × A))
    → List ((ℕ × ℕ) × FunctionContent)
    → List FunctionContent
    → Option (FaultAt E)
    → Type 0
AreWalked rule inside functions list None =
    (list ≡ map (changed rule inside) (values_of functions)) × AllSound rule inside functions
AreWalked rule inside functions list (Some x) = IsFaultIn rule inside functions x

-- Whether a fault of a relocation in the file precedes another, by section and then by offset.
abbrev pub is_before : {E : Type 0} → FaultAt E → FaultAt E → Bool
is_before a b =
    is_lt (ordering_then (nat_cmp a.section_index b.section_index) (nat_cmp a.offset b.offset))

-- The first of two faults in an order. If neither precedes the other, the one that was found
-- earlier.
abbrev pub first_of : {E : Type 0}
    → (FaultAt E → FaultAt E → Bool)
    → Option (FaultAt E)
    → FaultAt E
    → FaultAt E
first_of before None met = met
first_of before (Some earlier) met = if before met earlier then met else earlier

-- The error, with a function's name, for the fault that stopped the relocations of a file.
abbrev pub IsErrorFor : List ℕ → Stop Fault → Option (List ℕ) → RelocationError → Type 0
IsErrorFor file (stop.Fault x) name e =
    (name ≡ Some x.function.now) × IsErrorOf file x.section_index x.offset x.fault e
IsErrorFor file stop.OutOfMemory name e = ⊥
