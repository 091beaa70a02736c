-- The writes of relocations into the slots of functions: first for any rule and any sort of
-- relocation, then for the relocations in the file's sections.
use Rattle.std.specs.Prelude.{◌≡◌, ◌⊎◌, ℕ, ◌+◌, ◌-◌, ◌/◌, nat_lt, List, [], ◌∷◌, ◌++◌, length, filter, fold, slice_set, Option, Some, option_and_then, unwrap_or}
use Rattle.std.specs.Option.{option_map, option_map_or}
use Rattle.std.specs.String.{string_bytes}
use Rattle.ebpf_items.specs.declared.instruction.bpf_insn.{bpf_insn}
use Rattle.elf64.specs.Relocations.{Relocation}
use Rattle.object_file.specs.Relocations.{relocations_by_offset}
use Rattle.object_file.specs.Symbols.{symbol_at}
use Rattle.object_parts.specs.Content.{FunctionContent}
use Rattle.object_parts.specs.Geometry.{is_inside, with_instructions}
use Rattle.object_parts.specs.Installed.{AreChanged}
use Rattle.relocation_errors.specs.declared.error.RelocationError.{RelocationError}
use Rattle.relocation_errors.specs.declared.error.RelocationError.TheVariants as error
use Rattle.slot_relocation.specs.declared.outcome.Fault.{Fault}
use Rattle.slot_relocation.specs.declared.outcome.Fault.TheVariants as fault
use Rattle.slot_relocation.specs.declared.outcome.Outcome.{Outcome}
use Rattle.slot_relocation.specs.declared.outcome.Outcome.TheVariants.{Skipped, Written, Refused}
use Rattle.slot_relocation.specs.declared.outcome.Write.{Write}

-- A rule for relocations A with faults E: the outcome of a relocation by the current slots and its
-- distance in bytes from the start of the function.
abbrev pub RuleOf : Type 0 → Type 0 → Type 0
RuleOf A E = List bpf_insn → ℕ → A → Outcome E

-- The slots after a write. The next slot is written if the write has one.
abbrev pub written : List bpf_insn → ℕ → Write → List bpf_insn
written slots place w =
    option_map_or (slice_set (slice_set slots place w.first) (place + 1)) w.next
    (slice_set slots place w.first)

-- The slots after the outcome of a relocation at an index.
abbrev pub after : {E : Type 0} → List bpf_insn → ℕ → Outcome E → List bpf_insn
after slots place Skipped = slots
after slots place (Written w) = written slots place w
after slots place (Refused f) = slots

-- The distance of an offset of the section from the start of a function, in bytes.
abbrev pub distance : FunctionContent → ℕ → ℕ
distance f offset = offset - f.section_offset

-- The index of the slot of the relocation at an offset.
abbrev pub index_of_slot : FunctionContent → ℕ → ℕ
index_of_slot f offset = distance f offset / 8

-- The outcome of a relocation inside a function, by its current slots.
abbrev pub outcome_at : {A E : Type 0}
    → RuleOf A E
    → FunctionContent
    → List bpf_insn
    → ℕ × A
    → Outcome E
outcome_at rule f slots r = rule slots (distance f r.0) r.1

-- The slots after one relocation, and after some relocations in order.
abbrev pub after_one : {A E : Type 0}
    → RuleOf A E
    → FunctionContent
    → List bpf_insn
    → ℕ × A
    → List bpf_insn
after_one rule f slots r = after slots (index_of_slot f r.0) (outcome_at rule f slots r)

abbrev pub after_all : {A E : Type 0} → RuleOf A E → FunctionContent → List (ℕ × A) → List bpf_insn
after_all rule f rs = fold (after_one rule f) f.instructions rs

abbrev pub relocated_by : {A E : Type 0}
    → RuleOf A E
    → List (ℕ × A)
    → FunctionContent
    → FunctionContent
relocated_by rule rs f = with_instructions f (after_all rule f rs)

-- The relocation at an offset, among some relocations of a function, has a fault, computed from the
-- slots after the relocations before it.
abbrev pub HasFaultAmong : {A E : Type 0}
    → RuleOf A E
    → FunctionContent
    → List (ℕ × A)
    → ℕ
    → E
    → Type 0
HasFaultAmong {A} rule f rs offset cause =
    (before : List (ℕ × A)) × (r : ℕ × A) × (rest : List (ℕ × A))
    × (before ++ (r ∷ rest) ≡ rs)
    × (r.0 ≡ offset)
    × (outcome_at rule f (after_all rule f before) r ≡ Refused cause)

-- Some relocation of one of these functions has a fault. `inside` gives the relocations of each.
abbrev pub HasFaultInside : {A E : Type 0}
    → RuleOf A E
    → (FunctionContent → List (ℕ × A))
    → List ((ℕ × ℕ) × FunctionContent)
    → Type 0
HasFaultInside rule inside [] = ⊥
HasFaultInside {A} {E} rule inside (g ∷ gs) =
    ((offset : ℕ) × (cause : E) × HasFaultAmong rule g.1 (inside g.1) offset cause)
    ⊎ HasFaultInside rule inside gs

-- No relocation of these functions has a fault.
pub record AreFaultless {A E : Type 0} (rule : RuleOf A E) (inside : FunctionContent → List (ℕ × A))
    (functions : List ((ℕ × ℕ) × FunctionContent)) : Type 0 where
  pub none : HasFaultInside rule inside functions → ⊥

-- ---- Relocations of the file's sections

abbrev pub Rule : Type 0
Rule = RuleOf Relocation Fault

-- The relocations inside a function, in order of offset. Of several with one offset, the last one
-- counts.
abbrev pub relocations_inside : List ℕ → FunctionContent → List (ℕ × Relocation)
relocations_inside file f =
    filter (λ r. is_inside f r.0) (relocations_by_offset file f.section_index)

abbrev pub relocated : Rule → List ℕ → FunctionContent → FunctionContent
relocated rule file f = relocated_by rule (relocations_inside file f) f

-- Each function is relocated and stays under its key.
abbrev pub AreRelocated : Rule
    → List ℕ
    → List ((ℕ × ℕ) × FunctionContent)
    → List ((ℕ × ℕ) × FunctionContent)
    → Type 0
AreRelocated rule file old new = AreChanged (relocated rule file) old new

-- The relocation at an offset inside a function has a fault, computed from the slots after the
-- relocations before it.
abbrev pub HasFault : Rule → List ℕ → FunctionContent → ℕ → Fault → Type 0
HasFault rule file f offset cause = HasFaultAmong rule f (relocations_inside file f) offset cause

-- The number of a section's relocation: how many relocations have a lesser offset.
abbrev pub number_of : List ℕ → ℕ → ℕ → ℕ
number_of file section offset =
    length (filter (λ r. nat_lt r.0 offset) (relocations_by_offset file section))

abbrev pub name_of : List ℕ → ℕ → Option (List ℕ)
name_of file index = option_and_then (λ s. s.name) (symbol_at file index)

-- The name of the symbol of an index. It is empty if it can't be read.
abbrev pub text_of : List ℕ → ℕ → List ℕ
text_of file index = unwrap_or (name_of file index) []

-- The error for a fault of the relocation at an offset of a section.
abbrev pub IsErrorOf : List ℕ → ℕ → ℕ → Fault → RelocationError → Type 0
IsErrorOf file section offset fault.InvalidOffset (error.InvalidRelocationOffset o number) =
    (o ≡ offset) × (number ≡ number_of file section offset)
IsErrorOf file section offset (fault.UnknownSymbol index) (error.UnknownSymbol i) = i ≡ index
IsErrorOf file section offset (fault.NoMap s index) (error.SectionNotFound of i name) =
    (of ≡ s) × (i ≡ index) × (option_map string_bytes name ≡ name_of file index)
IsErrorOf file section offset (fault.NoExtern index) (error.ExternNotFound name) =
    string_bytes name ≡ text_of file index
IsErrorOf file section offset (fault.Unresolvable index) (error.UnresolvableSymbol name) =
    string_bytes name ≡ text_of file index
IsErrorOf file section offset _ _ = ⊥

-- An error of a function, with the function's name.
abbrev pub HasError : Rule → List ℕ → FunctionContent → Option (List ℕ) → RelocationError → Type 0
HasError rule file f name e =
    (offset : ℕ)
    × (cause : Fault)
    × HasFault rule file f offset cause
    × (name ≡ Some f.name)
    × IsErrorOf file f.section_index offset cause e

-- An error of one of these functions.
abbrev pub HasErrorIn : Rule
    → List ℕ
    → List ((ℕ × ℕ) × FunctionContent)
    → Option (List ℕ)
    → RelocationError
    → Type 0
HasErrorIn rule file [] name e = ⊥
HasErrorIn rule file (g ∷ gs) name e =
    HasError rule file g.1 name e ⊎ HasErrorIn rule file gs name e

-- No relocation inside these functions has a fault.
pub record CanBeRelocated (rule : Rule) (file : List ℕ)
    (functions : List ((ℕ × ℕ) × FunctionContent)) : Type 0 where
  pub none : HasFaultInside rule (relocations_inside file) functions → ⊥
