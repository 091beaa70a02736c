-- The writes of a rule on symbols.
use Rattle.std.proofs.Common.{arith, ◌≡◌, ℕ, ◌+◌, ◌/◌, ◌%◌, ◌==◌, Bool, true, false, cond, List, Option, Some, None, refl}
use Rattle.std.specs.Prelude.{slice_get}
use Rattle.std.specs.Option.{option_map_or}
use Rattle.std.proofs.lemmas.Bool.Decides.{nat_tests}
use Rattle.ebpf_items.specs.declared.instruction.bpf_insn.{bpf_insn}
use Rattle.elf64.specs.Relocations.{Relocation}
use Rattle.elf64.specs.Symbols.{Symbol}
use Rattle.object_file.specs.Symbols.{symbol_at}
use Rattle.slot_relocation.specs.BySymbol.{Does, outcome_of, slot_at, symbol_index, symbol_rule}
use Rattle.slot_relocation.specs.declared.outcome.Fault.{Fault}
use Rattle.slot_relocation.specs.declared.outcome.Fault.TheVariants.{InvalidOffset, UnknownSymbol}
use Rattle.slot_relocation.specs.declared.outcome.Outcome.{Outcome}
use Rattle.slot_relocation.specs.declared.outcome.Outcome.TheVariants.{Skipped, Written, Refused}
use Rattle.slot_relocation.specs.declared.outcome.Write.{Write}

-- An outcome that writes is neither refused nor skipped.
pub not_refused : (c : Fault) (w : Write) → ◌≡◌ {A = Outcome Fault} (Refused c) (Written w) → ⊥
not_refused c w e = absurd (cc)

pub not_skipped : (w : Write) → ◌≡◌ {A = Outcome Fault} Skipped (Written w) → ⊥
not_skipped w e = absurd (cc)

-- If a computation on an option writes and the outcome for none doesn't, the option has a value.
pub under_option : {A : Type 0} (o : Option A) (h : A → Outcome Fault) (d : Outcome Fault) (w : Write) → (d ≡ Written w → ⊥) → option_map_or h o d ≡ Written w → (a : A) × (o ≡ Some a) × (h a ≡ Written w)
under_option None h d w never e = absurd (never e)
under_option (Some a) h d w never e = (a, refl, e)

whole_slot : (slots : List bpf_insn) (distance : ℕ) (b : Bool) (slot : bpf_insn) → cond b (slice_get slots (distance / 8)) None ≡ Some slot → (b ≡ true) × (slice_get slots (distance / 8) ≡ Some slot)
whole_slot slots distance true slot e = (refl, e)
whole_slot slots distance false slot e = absurd (cc)

is_zero : (n : ℕ) → (n == 0) ≡ true → n ≡ 0
is_zero n e = grind (arith, nat_tests)

-- A relocation that writes is at a whole slot and has a known symbol.
pub record Stands (file : List ℕ) (does : Does) (slots : List bpf_insn) (distance : ℕ) (r : Relocation) (w : Write) : Type 0 where
  pub slot : bpf_insn
  pub symbol : Symbol
  pub whole : distance % 8 ≡ 0
  pub at : slice_get slots (distance / 8) ≡ Some slot
  pub known : symbol_at file (symbol_index r) ≡ Some symbol
  pub made : does slot (slice_get slots (distance / 8 + 1)) (symbol_index r) symbol ≡ Written w

pub stands : (file : List ℕ) (does : Does) (slots : List bpf_insn) (distance : ℕ) (r : Relocation) (w : Write) → symbol_rule file does slots distance r ≡ Written w → Stands file does slots distance r w
stands file does slots distance r w e =
    let next = slice_get slots (distance / 8 + 1) in
    let index = symbol_index r in
    let slot = under_option (slot_at slots distance) (λ slot. outcome_of file does slot next r) (Refused InvalidOffset) w (not_refused InvalidOffset w) e in
    let symbol = under_option (symbol_at file index) (does slot.0 next index) (Refused (UnknownSymbol index)) w (not_refused (UnknownSymbol index) w) slot.2 in
    let at = whole_slot slots distance (distance % 8 == 0) slot.0 slot.1 in
    record { slot = slot.0; symbol = symbol.0; whole = is_zero (distance % 8) at.0; at = at.1; known = symbol.1; made = symbol.2 }
