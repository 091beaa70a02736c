-- The rule for relocations by externs: a call or a load is set to the resolution of the kernel's
-- function or variable (libbpf's bpf_object__relocate_data and poison_kfunc_call in
-- tools/lib/bpf/libbpf.c; instruction-set.rst, "64-bit immediate instructions").
use Rattle.std.specs.Prelude.{ℕ, ◌+◌, ◌/◌, ◌%◌, ◌^◌, ◌==◌, nat_lt, Bool, true, false, if◌then◌else◌, List, Option, Some, None, option_and_then, ℤ, pos}
use Rattle.std.specs.BTreeMap.{is_at}
use Rattle.std.specs.Cmp.Lexicographic.{slice_cmp}
use Rattle.std.specs.Int.{w32, cast_signed}
use Rattle.std.specs.Map.{lookup}
use Rattle.std.specs.Option.{option_map_or}
use Rattle.std.specs.Ordering.{nat_cmp}
use Rattle.ebpf_items.specs.declared.instruction.bpf_insn.{bpf_insn}
use Rattle.elf64.specs.Symbols.{Symbol}
use Rattle.object_externs.specs.Externs.{ExternContent}
use Rattle.object_externs.specs.Symbols.{is_extern_symbol}
use Rattle.slot_relocation.specs.BySymbol.{symbol_rule}
use Rattle.slot_relocation.specs.Slots.{with_number}
use Rattle.slot_relocation.specs.Writes.{Rule}
use Rattle.slot_relocation.specs.declared.extern_rule.Resolution.{Resolution}
use Rattle.slot_relocation.specs.declared.extern_rule.Resolution.TheVariants.{Id, Address, Missing, Unresolved}
use Rattle.slot_relocation.specs.declared.outcome.Fault.{Fault}
use Rattle.slot_relocation.specs.declared.outcome.Fault.TheVariants.{InvalidOffset, NoExtern, Unresolvable}
use Rattle.slot_relocation.specs.declared.outcome.Outcome.{Outcome}
use Rattle.slot_relocation.specs.declared.outcome.Outcome.TheVariants.{Skipped, Written, Refused}

-- The extern with a symbol's name.
abbrev pub extern_of : List (List ℕ × ExternContent) → Symbol → Option ExternContent
extern_of externs s =
    option_and_then (λ name. lookup (is_at (slice_cmp nat_cmp name)) externs) s.name

-- The resolution of an extern that the kernel lacks. It may be missing iff it is weak.
abbrev pub not_found : Bool → Resolution
not_found true = Missing
not_found false = Unresolved

-- The resolution by the id of the kernel's type, or else by an address.
abbrev pub found : Option ℕ → Option ℕ → Bool → Resolution
found (Some id) address weak = Id id
found None (Some address) weak = Address address
found None None weak = not_found weak

abbrev pub resolution : ExternContent → Resolution
resolution e =
    if e.is_resolved then found e.kernel_btf_id e.ksym_addr e.is_weak else not_found e.is_weak

-- A word of 32 bits as a signed number.
abbrev pub signed_word : ℕ → ℤ
signed_word n = cast_signed w32 n

-- A call of the kernel's function of an id. Source register 2 (BPF_PSEUDO_KFUNC_CALL) marks it.
abbrev pub kernel_call : bpf_insn → ℕ → bpf_insn
kernel_call slot id = record (with_number slot 2 (signed_word id)) { off = pos 0 }

-- The number of a missing function in a call, by the index of its symbol.
abbrev pub missing_number : ℕ → ℕ
missing_number index = 2002000000 + index

-- A call of a missing function. The verifier refuses the program if the call can be reached.
abbrev pub missing_call : bpf_insn → ℕ → bpf_insn
missing_call slot index = record slot {
  registers = 0;
  off = pos 0;
  imm = pos (missing_number index);
}

-- The outcome of a relocation at a call.
abbrev pub call_outcome : bpf_insn → ℕ → Resolution → Outcome Fault
call_outcome slot index (Id id) = Written (record { first = kernel_call slot id; next = None })
call_outcome slot index (Address address) = Refused (Unresolvable index)
call_outcome slot index Missing =
    if nat_lt (missing_number index) (2 ^ 31) then Written (record { first = missing_call slot index; next = None })
    else Refused InvalidOffset
call_outcome slot index Unresolved = Refused (Unresolvable index)

-- The write into a load of 64 bits. Its source register and low word are set in its own slot, and
-- the high word in the next slot.
abbrev pub load_write : bpf_insn → Option bpf_insn → ℕ → ℤ → ℤ → Outcome Fault
load_write slot next source low high =
    option_map_or
    (λ n. Written (record {
      first = with_number slot source low;
      next = Some (record n { imm = high });
    }))
    next (Refused InvalidOffset)

-- The outcome of a relocation at a load of 64 bits. Source register 3 (BPF_PSEUDO_BTF_ID) marks the
-- id of a kernel's variable.
abbrev pub load_outcome : bpf_insn → Option bpf_insn → ℕ → Resolution → Outcome Fault
load_outcome slot next index (Id id) = load_write slot next 3 (signed_word id) (pos 0)
load_outcome slot next index (Address address) =
    load_write slot next 0 (signed_word (address % 2 ^ 32)) (signed_word (address / 2 ^ 32))
load_outcome slot next index Missing = load_write slot next 0 (pos 0) (pos 0)
load_outcome slot next index Unresolved = Refused (Unresolvable index)

-- The outcome by the resolution of the extern. Code 0x85 is a call (BPF_JMP | BPF_CALL), code 0x18
-- a load (BPF_LD | BPF_IMM | BPF_DW).
abbrev pub resolved_outcome : bpf_insn → Option bpf_insn → ℕ → Resolution → Outcome Fault
resolved_outcome slot next index r =
    if slot.code == 0x85 then call_outcome slot index r
    else if slot.code == 0x18 then load_outcome slot next index r
    else Refused InvalidOffset

-- The outcome by a symbol. A symbol that isn't an extern is skipped.
abbrev pub extern_outcome : List (List ℕ × ExternContent)
    → bpf_insn
    → Option bpf_insn
    → ℕ
    → Symbol
    → Outcome Fault
extern_outcome externs slot next index s =
    if is_extern_symbol s then option_map_or (λ e. resolved_outcome slot next index (resolution e))
    (extern_of externs s) (Refused (NoExtern index))
    else Skipped

-- The rule for the externs of a file's object, by name.
abbrev pub extern_rule : List ℕ → List (List ℕ × ExternContent) → Rule
extern_rule file externs slots distance r =
    symbol_rule file (extern_outcome externs) slots distance r
