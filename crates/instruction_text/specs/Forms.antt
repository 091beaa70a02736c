-- The forms of instructions and of their texts (kernel documentation, instruction-set.rst; for
-- BPF_JCOND, BPF_ADDR_SPACE_CAST and a jump by a register, include/uapi/linux/bpf.h and the verifier).
use Rattle.std.specs.Prelude.{ℕ, ◌+◌, List, [], ◌∷◌, ◌++◌, flat_map, codes, ℤ, pos}
use Rattle.instruction_text.specs.declared.table.Row.{Row}

-- The instructions with a code and with these fields, except for the fields that the text names: D
-- and S name the registers, J and O the offset, I, C and M the immediate, F its lower and T its upper
-- 16 bits, H the immediate of the second slot, and W both immediates. The destination register is 0 if
-- the text names none.
pub record Form : Type 0 where
  pub code : ℕ
  pub source : ℕ
  pub offset : ℤ
  pub immediate : ℤ
  pub template : List ℕ

abbrev pub form_of : Row → Form
form_of row =
    record {
      code = row.0;
      source = row.1;
      offset = row.2;
      immediate = row.3;
      template = row.4.now;
    }

abbrev pub fixed : ℕ → ℕ → ℤ → ℤ → List ℕ → Form
fixed code source offset immediate template =
    record {
      code = code;
      source = source;
      offset = offset;
      immediate = immediate;
      template = template;
    }

abbrev pub plain : ℕ → List ℕ → Form
plain code template = fixed code 0 (pos 0) (pos 0) template

-- A number of the standard, and its word.
pub record Named : Type 0 where
  pub number : ℕ
  pub word : List ℕ

abbrev pub named : ℕ → List ℕ → Named
named number word = record { number = number; word = word }

-- Arithmetic instructions.

abbrev pub operators : List Named
operators =
    named 0x00 (codes "+=")
    ∷ named 0x10 (codes "-=")
    ∷ named 0x20 (codes "*=")
    ∷ named 0x30 (codes "/=")
    ∷ named 0x40 (codes "|=")
    ∷ named 0x50 (codes "&=")
    ∷ named 0x60 (codes "<<=")
    ∷ named 0x70 (codes ">>=")
    ∷ named 0x90 (codes "%=")
    ∷ named 0xa0 (codes "^=")
    ∷ named 0xb0 (codes "=")
    ∷ named 0xc0 (codes "s>>=")
    ∷ []

-- The classes ALU64 and ALU, each with a register and with an immediate.
abbrev pub arithmetic : ℤ → Named → List Form
arithmetic offset op =
    fixed (0x0f + op.number) 0 offset (pos 0) (codes "rD " ++ op.word ++ codes " rS")
    ∷ fixed (0x07 + op.number) 0 offset (pos 0) (codes "rD " ++ op.word ++ codes " I")
    ∷ fixed (0x0c + op.number) 0 offset (pos 0) (codes "wD " ++ op.word ++ codes " wS")
    ∷ fixed (0x04 + op.number) 0 offset (pos 0) (codes "wD " ++ op.word ++ codes " I")
    ∷ []

-- The offset 1 makes division and modulo signed.
abbrev pub signed_operators : List Named
signed_operators = named 0x30 (codes "s/=") ∷ named 0x90 (codes "s%=") ∷ []

-- The offset of a move with sign extension is the size of the source in bits. The offset 1 makes a
-- move a cast of an address, from the address space in the immediate's lower half to that in its
-- upper half.
abbrev pub other_arithmetic : List Form
other_arithmetic =
    fixed 0xbf 0 (pos 8) (pos 0) (codes "rD = (s8)rS")
    ∷ fixed 0xbf 0 (pos 16) (pos 0) (codes "rD = (s16)rS")
    ∷ fixed 0xbf 0 (pos 32) (pos 0) (codes "rD = (s32)rS")
    ∷ fixed 0xbc 0 (pos 8) (pos 0) (codes "wD = (s8)wS")
    ∷ fixed 0xbc 0 (pos 16) (pos 0) (codes "wD = (s16)wS")
    ∷ fixed 0xbf 0 (pos 1) (pos 0) (codes "rD = addr_space_cast(rS, T, F)")
    ∷ plain 0x87 (codes "rD = -rD")
    ∷ plain 0x84 (codes "wD = -wD")
    ∷ []

-- Byte swap instructions.

abbrev pub swaps : List Named
swaps = named 0xd4 (codes "le") ∷ named 0xdc (codes "be") ∷ named 0xd7 (codes "bswap") ∷ []

-- The immediate is the width.
abbrev pub swap : Named → List Form
swap op =
    fixed op.number 0 (pos 0) (pos 16) (codes "rD = " ++ op.word ++ codes "16 rD")
    ∷ fixed op.number 0 (pos 0) (pos 32) (codes "rD = " ++ op.word ++ codes "32 rD")
    ∷ fixed op.number 0 (pos 0) (pos 64) (codes "rD = " ++ op.word ++ codes "64 rD")
    ∷ []

-- Load and store instructions.

abbrev pub narrow_sizes : List Named
narrow_sizes = named 0x10 (codes "8") ∷ named 0x08 (codes "16") ∷ named 0x00 (codes "32") ∷ []

abbrev pub sizes : List Named
sizes = narrow_sizes ++ named 0x18 (codes "64") ∷ []

abbrev pub memory : Named → List Form
memory size =
    plain (0x61 + size.number) (codes "rD = *(u" ++ size.word ++ codes " *)(rS O)")
    ∷ plain (0x63 + size.number) (codes "*(u" ++ size.word ++ codes " *)(rD O) = rS")
    ∷ plain (0x62 + size.number) (codes "*(u" ++ size.word ++ codes " *)(rD O) = I")
    ∷ []

-- Loads with sign extension, and packet accesses.
abbrev pub narrow_memory : Named → List Form
narrow_memory size =
    plain (0x81 + size.number) (codes "rD = *(s" ++ size.word ++ codes " *)(rS O)")
    ∷ plain (0x20 + size.number) (codes "r0 = *(u" ++ size.word ++ codes " *)skb[I]")
    ∷ plain (0x40 + size.number) (codes "r0 = *(u" ++ size.word ++ codes " *)skb[rS]")
    ∷ plain (0x40 + size.number) (codes "r0 = *(u" ++ size.word ++ codes " *)skb[rS M]")
    ∷ []

-- Atomic operations.

pub record Atomic : Type 0 where
  pub number : ℕ
  pub operator : List ℕ
  pub word : List ℕ

abbrev pub atomic : ℕ → List ℕ → List ℕ → Atomic
atomic number operator word = record { number = number; operator = operator; word = word }

abbrev pub atomics : List Atomic
atomics =
    atomic 0x00 (codes "+=") (codes "add")
    ∷ atomic 0x40 (codes "|=") (codes "or")
    ∷ atomic 0x50 (codes "&=") (codes "and")
    ∷ atomic 0xa0 (codes "^=") (codes "xor")
    ∷ []

-- The operation is in the immediate, and the bit 1 makes it fetch.
abbrev pub atomic_forms : ℕ → List ℕ → List ℕ → Atomic → List Form
atomic_forms code register size op =
    fixed code 0 (pos 0) (pos op.number)
    (codes "lock *(u" ++ size ++ codes " *)(rD O) " ++ op.operator ++ codes " " ++ register ++ codes "S")
    ∷ fixed code 0 (pos 0) (pos (op.number + 1))
    (register ++ codes "S = atomic_fetch_" ++ op.word ++ codes "((u" ++ size ++ codes " *)(rD O), "
    ++ register ++ codes "S)")
    ∷ []

abbrev pub exchanges : List Form
exchanges =
    fixed 0xdb 0 (pos 0) (pos 0xe1) (codes "rS = xchg_64(rD O, rS)")
    ∷ fixed 0xdb 0 (pos 0) (pos 0xf1) (codes "r0 = cmpxchg_64(rD O, r0, rS)")
    ∷ fixed 0xc3 0 (pos 0) (pos 0xe1) (codes "wS = xchg32_32(rD O, wS)")
    ∷ fixed 0xc3 0 (pos 0) (pos 0xf1) (codes "w0 = cmpxchg32_32(rD O, w0, wS)")
    ∷ []

abbrev pub ordered : List ℕ → Named → List Form
ordered register size =
    fixed (0xc3 + size.number) 0 (pos 0) (pos 0x100)
    (register ++ codes "D = load_acquire((u" ++ size.word ++ codes " *)(rS O))")
    ∷ fixed (0xc3 + size.number) 0 (pos 0) (pos 0x110)
    (codes "store_release((u" ++ size.word ++ codes " *)(rD O), " ++ register ++ codes "S)")
    ∷ []

-- Jump instructions.

abbrev pub comparisons : List Named
comparisons =
    named 0x10 (codes "==")
    ∷ named 0x20 (codes ">")
    ∷ named 0x30 (codes ">=")
    ∷ named 0x40 (codes "&")
    ∷ named 0x50 (codes "!=")
    ∷ named 0x60 (codes "s>")
    ∷ named 0x70 (codes "s>=")
    ∷ named 0xa0 (codes "<")
    ∷ named 0xb0 (codes "<=")
    ∷ named 0xc0 (codes "s<")
    ∷ named 0xd0 (codes "s<=")
    ∷ []

-- The classes JMP and JMP32, each with a register and with an immediate.
abbrev pub jump : Named → List Form
jump op =
    plain (0x0d + op.number) (codes "if rD " ++ op.word ++ codes " rS goto J")
    ∷ plain (0x05 + op.number) (codes "if rD " ++ op.word ++ codes " I goto J")
    ∷ plain (0x0e + op.number) (codes "if wD " ++ op.word ++ codes " wS goto J")
    ∷ plain (0x06 + op.number) (codes "if wD " ++ op.word ++ codes " I goto J")
    ∷ []

-- The source register of a call gives its target: a helper, a function of the program, or a
-- function of the kernel. The offset is 0 for a function of no module.
abbrev pub control : List Form
control =
    plain 0x05 (codes "goto J")
    ∷ plain 0x06 (codes "gotol C")
    ∷ plain 0x0d (codes "gotox rD")
    ∷ plain 0xe5 (codes "may_goto J")
    ∷ fixed 0x85 0 (pos 0) (pos 0) (codes "call I")
    ∷ fixed 0x85 1 (pos 0) (pos 0) (codes "call pcC")
    ∷ fixed 0x85 2 (pos 0) (pos 0) (codes "call btf#I")
    ∷ fixed 0x85 2 (pos 0) (pos 0) (codes "call btf#I moduleJ")
    ∷ plain 0x8d (codes "callx rD")
    ∷ plain 0x95 (codes "exit")
    ∷ []

-- 64-bit immediate instructions.

-- The source register gives the meaning of the immediates.
abbrev pub wide : List Form
wide =
    fixed 0x18 0 (pos 0) (pos 0) (codes "rD = W ll")
    ∷ fixed 0x18 1 (pos 0) (pos 0) (codes "rD = map_fd#I ll")
    ∷ fixed 0x18 2 (pos 0) (pos 0) (codes "rD = map_value_fd#IH ll")
    ∷ fixed 0x18 3 (pos 0) (pos 0) (codes "rD = btf_id#I ll")
    ∷ fixed 0x18 3 (pos 0) (pos 0) (codes "rD = btf_id#I moduleH ll")
    ∷ fixed 0x18 4 (pos 0) (pos 0) (codes "rD = func pcC ll")
    ∷ fixed 0x18 5 (pos 0) (pos 0) (codes "rD = map_index#I ll")
    ∷ fixed 0x18 6 (pos 0) (pos 0) (codes "rD = map_value_index#IH ll")
    ∷ []

-- All forms.

unfoldable pub arithmetic_forms : List Form
arithmetic_forms = flat_map (arithmetic (pos 0)) operators

unfoldable pub other_arithmetic_forms : List Form
other_arithmetic_forms =
    flat_map (arithmetic (pos 1)) signed_operators ++ other_arithmetic ++ flat_map swap swaps

unfoldable pub memory_forms : List Form
memory_forms = flat_map memory sizes ++ flat_map narrow_memory narrow_sizes

unfoldable pub atomic_operation_forms : List Form
atomic_operation_forms =
    flat_map (atomic_forms 0xdb (codes "r") (codes "64")) atomics
    ++ flat_map (atomic_forms 0xc3 (codes "w") (codes "32")) atomics
    ++ exchanges
    ++ flat_map (ordered (codes "w")) narrow_sizes
    ++ ordered (codes "r") (named 0x18 (codes "64"))

unfoldable pub jump_forms : List Form
jump_forms = flat_map jump comparisons

unfoldable pub other_forms : List Form
other_forms = control ++ wide

abbrev pub forms : List Form
forms =
    arithmetic_forms
    ++ other_arithmetic_forms
    ++ memory_forms
    ++ atomic_operation_forms
    ++ jump_forms
    ++ other_forms
