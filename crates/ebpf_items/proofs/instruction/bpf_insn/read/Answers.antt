use Rattle.std.proofs.Common.{◌≡◌, subst, sym, arith, get_or}
use Rattle.std.proofs.lemmas.Grind.{common_steps}
use Rattle.std.specs.Int.{w16, w32, cast_signed, cast_unsigned}
use Rattle.ebpf_items.specs.declared.instruction.bpf_insn.{bpf_insn}
use Rattle.ebpf_items.specs.Instruction.{slot_of, bytes_of}
use Rattle.ebpf_items.proofs.SlotLists.{bytes_of-slot_of}
use Rattle.ebpf_items.proofs.instruction.bpf_insn.read.Goals as goal

pub returns-clause-again : goal.returns-clause-again
returns-clause-again c =
    let bytes = c.args.bytes.now in
    let slot : bpf_insn = record { code = get_or bytes 0 0; registers = get_or bytes 1 0; off = cast_signed w16 (cast_unsigned w16 c.from_le_bytes.result); imm = cast_signed w32 (cast_unsigned w32 c.from_le_bytes-2.result) } in
    let read : slot ≡ slot_of bytes = grind (arith, common_steps, c.from_le_bytes.ensures, c.from_le_bytes-2.ensures) in
    subst (λ (s : bpf_insn). bytes_of s ≡ bytes) (sym read) (bytes_of-slot_of bytes c.requires (λ i. omega (arith, c.type_inv.bytes i)))
