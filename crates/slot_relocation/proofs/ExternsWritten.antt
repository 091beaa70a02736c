-- The writes of relocations by externs.
use Rattle.std.proofs.Common.{arith, ◌≡◌, ℕ, ◌%◌, ◌/◌, ◌^◌, ◌==◌, Bool, true, false, cond, List, Option, Some, None, inl, inr, refl, sym, ap, ◌∙◌}
use Rattle.std.specs.Prelude.{◌⊎◌, slice_get, option_and_then, ℤ, pos, nat_lt}
use Rattle.std.specs.Option.{option_map, option_map_or}
use Rattle.std.proofs.lemmas.Bool.Decides.{nat_tests}
use Rattle.ebpf_items.specs.Instruction.{src_reg_of}
use Rattle.ebpf_items.specs.declared.instruction.bpf_insn.{bpf_insn}
use Rattle.elf64.specs.Relocations.{Relocation}
use Rattle.elf64.specs.Symbols.{Symbol}
use Rattle.object_externs.specs.Externs.{ExternContent}
use Rattle.object_externs.specs.Symbols.{is_extern_symbol}
use Rattle.object_file.specs.Symbols.{symbol_at}
use Rattle.object_parts.specs.Content.{FunctionContent}
use Rattle.slot_relocation.specs.declared.outcome.Fault.{Fault}
use Rattle.slot_relocation.specs.declared.outcome.Fault.TheVariants.{InvalidOffset, NoExtern, Unresolvable}
use Rattle.slot_relocation.specs.declared.outcome.Outcome.{Outcome}
use Rattle.slot_relocation.specs.declared.outcome.Outcome.TheVariants.{Skipped, Written, Refused}
use Rattle.slot_relocation.specs.declared.outcome.Write.{Write}
use Rattle.slot_relocation.specs.BySymbol.{symbol_index}
use Rattle.slot_relocation.specs.Slots.{with_number}
use Rattle.slot_relocation.specs.WriteLaws.{LengthsRemain, OneWrites, UnwrittenStay, WritesAreKept}
use Rattle.slot_relocation.specs.Writes.{AreRelocated, index_of_slot, relocated, relocations_inside}
use Rattle.slot_relocation.specs.declared.extern_rule.Resolution.{Resolution}
use Rattle.slot_relocation.specs.declared.extern_rule.Resolution.TheVariants.{Id, Address, Missing, Unresolved}
use Rattle.slot_relocation.specs.Externs.{call_outcome, extern_of, extern_outcome, extern_rule, kernel_call, load_outcome, load_write, missing_call, missing_number, resolution, resolved_outcome, signed_word}
use Rattle.slot_relocation.specs.ExternLaws.{ByName, CallCarries, CarriesExtern, ExternsAreWritten, HaveExterns, LoadCarries, Writes}

-- An outcome that writes is neither refused nor skipped.
not_refused : (c : Fault) (w : Write) → ◌≡◌ {A = Outcome Fault} (Refused c) (Written w) → ⊥
not_refused c w e = absurd (cc)

not_skipped : (w : Write) → ◌≡◌ {A = Outcome Fault} Skipped (Written w) → ⊥
not_skipped w e = absurd (cc)

abbrev first_in : bpf_insn → Outcome Fault → bpf_insn
first_in d (Written w) = w.first
first_in d _ = d

-- If a computation on an option, or after a test, writes and the other outcome doesn't, the option
-- has a value, or the test holds.
under_option : {A : Type 0} (o : Option A) (h : A → Outcome Fault) (d : Outcome Fault) (w : Write) → (d ≡ Written w → ⊥) → option_map_or h o d ≡ Written w → (a : A) × (o ≡ Some a) × (h a ≡ Written w)
under_option None h d w never e = absurd (never e)
under_option (Some a) h d w never e = (a, refl, e)

passed : (b : Bool) (a d : Outcome Fault) (w : Write) → (d ≡ Written w → ⊥) → cond b a d ≡ Written w → a ≡ Written w
passed true a d w never e = e
passed false a d w never e = absurd (never e)

same_code : (a b : ℕ) → (a == b) ≡ true → a ≡ b
same_code a b e = grind (arith, nat_tests)

-- The source register of a slot is the low four bits of the number that was written.
source_of : (slot : bpf_insn) (source : ℕ) (number : ℤ) → src_reg_of (with_number slot source number) ≡ source % 16
source_of slot source number = omega arith

first_is : (d : bpf_insn) (v w : Write) → ◌≡◌ {A = Outcome Fault} (Written v) (Written w) → w.first ≡ v.first
first_is d v w e = sym (ap (first_in d) e)

-- The write of a relocation at a call.
called : (slot : bpf_insn) (index : ℕ) (r : Resolution) (w : Write) → slot.code ≡ 0x85 → call_outcome slot index r ≡ Written w → (w.first.code ≡ 0x85) × CallCarries w.first index r
called slot index (Id id) w code e =
    let first : w.first ≡ kernel_call slot id = first_is slot (record { first = kernel_call slot id; next = None }) w e in
    (ap (λ s. s.code) first ∙ code, (ap src_reg_of first ∙ source_of slot 2 (signed_word id), ap (λ s. s.off) first, ap (λ s. s.imm) first))
called slot index (Address address) w code e = absurd (not_refused (Unresolvable index) w e)
called slot index Missing w code e =
    let made = passed (nat_lt (missing_number index) (2 ^ 31)) (Written (record { first = missing_call slot index; next = None })) (Refused InvalidOffset) w (not_refused InvalidOffset w) e in
    let first : w.first ≡ missing_call slot index = first_is slot (record { first = missing_call slot index; next = None }) w made in
    (ap (λ s. s.code) first ∙ code, (ap (λ s. s.registers) first, ap (λ s. s.off) first, ap (λ s. s.imm) first))
called slot index Unresolved w code e = absurd (not_refused (Unresolvable index) w e)

-- The first slot of a write at a load.
load_first : (slot : bpf_insn) (next : Option bpf_insn) (source : ℕ) (low high : ℤ) (w : Write) → load_write slot next source low high ≡ Written w → w.first ≡ with_number slot source low
load_first slot next source low high w e =
    let n = under_option next (λ n. Written (record { first = with_number slot source low; next = Some (record n { imm = high }) })) (Refused InvalidOffset) w (not_refused InvalidOffset w) e in
    first_is slot (record { first = with_number slot source low; next = Some (record n.0 { imm = high }) }) w n.2

loaded : (slot : bpf_insn) (next : Option bpf_insn) (index : ℕ) (r : Resolution) (w : Write) → slot.code ≡ 0x18 → load_outcome slot next index r ≡ Written w → (w.first.code ≡ 0x18) × LoadCarries w.first r
loaded slot next index (Id id) w code e =
    let first = load_first slot next 3 (signed_word id) (pos 0) w e in
    (ap (λ s. s.code) first ∙ code, (ap src_reg_of first ∙ source_of slot 3 (signed_word id), ap (λ s. s.imm) first))
loaded slot next index (Address address) w code e =
    let first = load_first slot next 0 (signed_word (address % 2 ^ 32)) (signed_word (address / 2 ^ 32)) w e in
    (ap (λ s. s.code) first ∙ code, (ap src_reg_of first ∙ source_of slot 0 (signed_word (address % 2 ^ 32)), ap (λ s. s.imm) first))
loaded slot next index Missing w code e =
    let first = load_first slot next 0 (pos 0) (pos 0) w e in
    (ap (λ s. s.code) first ∙ code, (ap src_reg_of first ∙ source_of slot 0 (pos 0), ap (λ s. s.imm) first))
loaded slot next index Unresolved w code e = absurd (not_refused (Unresolvable index) w e)

by_code : (is_call is_load : Bool) (slot : bpf_insn) (next : Option bpf_insn) (index : ℕ) (r : Resolution) (w : Write) → (slot.code == 0x85) ≡ is_call → (slot.code == 0x18) ≡ is_load → cond is_call (call_outcome slot index r) (cond is_load (load_outcome slot next index r) (Refused InvalidOffset)) ≡ Written w → ((w.first.code ≡ 0x85) × CallCarries w.first index r) ⊎ ((w.first.code ≡ 0x18) × LoadCarries w.first r)
by_code true is_load slot next index r w c l e = inl (called slot index r w (same_code slot.code 0x85 c) e)
by_code false true slot next index r w c l e = inr (loaded slot next index r w (same_code slot.code 0x18 l) e)
by_code false false slot next index r w c l e = absurd (not_refused InvalidOffset w e)

found_by : (file : List ℕ) (externs : ByName) (r : Relocation) (s : Symbol) (e : ExternContent) → symbol_at file (symbol_index r) ≡ Some s → extern_of externs s ≡ Some e → option_map resolution (option_and_then (extern_of externs) (symbol_at file (symbol_index r))) ≡ Some (resolution e)
found_by file externs r s e known found = ap (λ o. option_map resolution (option_and_then (extern_of externs) o)) known ∙ ap (option_map resolution) found

carries : (file : List ℕ) (externs : ByName) (r : Relocation) (slot : bpf_insn) (next : Option bpf_insn) (s : Symbol) (w : Write) → symbol_at file (symbol_index r) ≡ Some s → extern_outcome externs slot next (symbol_index r) s ≡ Written w → CarriesExtern file externs r w.first
carries file externs r slot next s w known made =
    let index = symbol_index r in
    let kept = passed (is_extern_symbol s) _ Skipped w (not_skipped w) made in
    let e = under_option (extern_of externs s) (λ e. resolved_outcome slot next index (resolution e)) (Refused (NoExtern index)) w (not_refused (NoExtern index) w) kept in
    record {
      resolution = resolution e.0;
      named = found_by file externs r s e.0 known e.1;
      carried = by_code (slot.code == 0x85) (slot.code == 0x18) slot next index (resolution e.0) w refl refl e.2;
    }

carry : WritesAreKept → (file : List ℕ) (externs : ByName) (f : FunctionContent) (r : ℕ × Relocation) (w : Write) → Writes file externs f r w → (s : bpf_insn) × (slice_get (relocated (extern_rule file externs) file f).instructions (index_of_slot f r.0) ≡ Some s) × CarriesExtern file externs r.1 s
carry keep file externs f r w m =
    let k = keep.each file (extern_outcome externs) f r w m in
    (w.first, k.kept, carries file externs r.1 k.slot k.next k.symbol w k.known k.made)

have_externs : WritesAreKept → OneWrites Relocation Fault → UnwrittenStay Relocation Fault → LengthsRemain Relocation Fault → (file : List ℕ) (externs : ByName) (old new : List ((ℕ × ℕ) × FunctionContent)) → AreRelocated (extern_rule file externs) file old new → HaveExterns file externs old new
have_externs keep one stay lengths file externs old new are key f at = (
  relocated (extern_rule file externs) file f,
  are.at key ∙ ap (option_map (relocated (extern_rule file externs) file)) at,
  record {
    carry = carry keep file externs f;
    alone = λ place s p within. one.each (extern_rule file externs) f (relocations_inside file f) p.relocation p.write place s p.made p.puts within p.alone;
    others = stay.each (extern_rule file externs) f (relocations_inside file f);
    as_many = lengths.each (extern_rule file externs) f (relocations_inside file f);
  },
)

pub externs_are_written : WritesAreKept → OneWrites Relocation Fault → UnwrittenStay Relocation Fault → LengthsRemain Relocation Fault → ExternsAreWritten
externs_are_written keep one stay lengths = record { each = have_externs keep one stay lengths }
