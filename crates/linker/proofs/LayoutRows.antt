-- Worked programs, computed: their layouts, their slots, and the events of their runs.
use Rattle.std.proofs.Common.{◌≡◌, ℕ, true, List, [], ◌∷◌, Some, None, refl, ℤ, pos, negsuc, eqb, cond}
use Rattle.std.specs.Prelude.{map}
use Rattle.ebpf_items.specs.declared.instruction.bpf_insn.{bpf_insn}
use Rattle.ebpf_items.specs.Instruction.{with_older_helper}
use Rattle.linker.specs.Layout.{Key, Table, IsLayout, linked}
use Rattle.linker.specs.Renamed.{renamed_table}
use Rattle.linker.specs.Machines.{Cut, Done, Ends, Shows, FlatEvent, SourceEvent, flat_run, source_run}

-- The bytes 85 10 00 00 and an immediate.
abbrev call : ℤ → bpf_insn
call imm = record { code = 133; registers = 16; off = pos 0; imm = imm }

-- The byte 95 and zeros.
abbrev exit : bpf_insn
exit = record { code = 149; registers = 0; off = pos 0; imm = pos 0 }

-- The bytes b7 00 00 00 and an immediate.
abbrev move : ℕ → bpf_insn
move imm = record { code = 183; registers = 0; off = pos 0; imm = pos imm }

-- The byte 18, registers, and an immediate.
abbrev load : ℕ → ℤ → bpf_insn
load registers imm = record { code = 24; registers = registers; off = pos 0; imm = imm }

abbrev zeros : bpf_insn
zeros = record { code = 0; registers = 0; off = pos 0; imm = pos 0 }

-- The function f in a program section, and functions of `.text` at some slots.
abbrev f : Key
f = (3, 0)

abbrev text : ℕ → Key
text slot = (4, slot)

-- A call of a function, and an exit.
abbrev add : Table
add = record {
  slots = λ k. cond (eqb k.0 3) (call (negsuc 0) ∷ exit ∷ []) (move 7 ∷ exit ∷ []);
  refs = λ k. cond (eqb k.0 3) (Some (text 0) ∷ None ∷ []) (None ∷ None ∷ []);
}

call_layout : IsLayout add f (text 0 ∷ [])
call_layout = record { order = (tt, refl); complete = refl }

call_code : linked add f (text 0 ∷ []) ≡ call (pos 1) ∷ exit ∷ move 7 ∷ exit ∷ []
call_code = refl

-- Two calls of one function, which has one copy.
abbrev twice : Table
twice = record {
  slots = λ k. cond (eqb k.0 3) (call (negsuc 0) ∷ call (negsuc 0) ∷ exit ∷ []) (move 7 ∷ exit ∷ []);
  refs = λ k. cond (eqb k.0 3) (Some (text 0) ∷ Some (text 0) ∷ None ∷ []) (None ∷ None ∷ []);
}

two_calls_layout : IsLayout twice f (text 0 ∷ [])
two_calls_layout = record { order = (tt, refl); complete = refl }

two_calls_code : linked twice f (text 0 ∷ []) ≡ call (pos 2) ∷ call (pos 1) ∷ exit ∷ move 7 ∷ exit ∷ []
two_calls_code = refl

-- A function that calls itself: its own copy calls the appended one, which calls itself.
abbrev again : Table
again = record { slots = λ k. call (negsuc 0) ∷ exit ∷ []; refs = λ k. Some f ∷ None ∷ [] }

self_call_layout : IsLayout again f (f ∷ [])
self_call_layout = record { order = (tt, refl); complete = refl }

self_call_code : linked again f (f ∷ []) ≡ call (pos 1) ∷ exit ∷ call (negsuc 0) ∷ exit ∷ []
self_call_code = refl

abbrev self_call_shown : ℕ → ℤ → FlatEvent
self_call_shown position imm = record { key = f; number = 0; position = position; slot = call imm }

abbrev self_call_called : SourceEvent
self_call_called = record { key = f; number = 0; slot = call (negsuc 0); target = Some f }

self_call_flat : flat_run again f (f ∷ []) (linked again f (f ∷ [])) (true ∷ true ∷ true ∷ []) (pos 0) [] ≡ Shows (self_call_shown 0 (pos 1)) (Shows (self_call_shown 2 (negsuc 0)) (Shows (self_call_shown 2 (negsuc 0)) (Ends Cut)))
self_call_flat = refl

self_call_source : source_run again (true ∷ true ∷ true ∷ []) (record { key = f; slot = pos 0 } ∷ []) ≡ Shows self_call_called (Shows self_call_called (Shows self_call_called (Ends Cut)))
self_call_source = refl

-- A call of a function without slots, whose copy begins after the last slot.
abbrev none : Table
none = record {
  slots = λ k. cond (eqb k.1 0) (call (negsuc 0) ∷ exit ∷ []) [];
  refs = λ k. cond (eqb k.1 0) (Some (3, 16) ∷ None ∷ []) [];
}

empty_function_layout : IsLayout none f ((3, 16) ∷ [])
empty_function_layout = record { order = (tt, refl); complete = refl }

empty_function_code : linked none f ((3, 16) ∷ []) ≡ call (pos 1) ∷ exit ∷ []
empty_function_code = refl

empty_function_alone : IsLayout none (3, 16) []
empty_function_alone = record { order = tt; complete = refl }

empty_function_code_alone : linked none (3, 16) [] ≡ []
empty_function_code_alone = refl

-- The function f calls g, and g calls f.
abbrev two : Table
two = record { slots = λ k. call (negsuc 0) ∷ exit ∷ []; refs = λ k. Some (cond (eqb k.0 3) (text 0) f) ∷ None ∷ [] }

each_other_layout : IsLayout two f (f ∷ text 0 ∷ [])
each_other_layout = record { order = ((tt, refl), refl); complete = refl }

each_other_code : linked two f (f ∷ text 0 ∷ []) ≡ call (pos 1) ∷ exit ∷ call (pos 1) ∷ exit ∷ call (negsuc 2) ∷ exit ∷ []
each_other_code = refl

-- The function f calls a, then b, and a calls c: the copies are f, a, c, b.
abbrev a : Key
a = text 0

abbrev b : Key
b = text 1

abbrev c : Key
c = text 2

abbrev four : Table
four = record {
  slots = λ k. cond (eqb k.0 3) (call (negsuc 0) ∷ call (negsuc 0) ∷ exit ∷ []) (cond (eqb k.1 0) (call (negsuc 0) ∷ exit ∷ []) (cond (eqb k.1 1) (exit ∷ []) (move 2 ∷ exit ∷ [])));
  refs = λ k. cond (eqb k.0 3) (Some a ∷ Some b ∷ None ∷ []) (cond (eqb k.1 0) (Some c ∷ None ∷ []) []);
}

depth_first_layout : IsLayout four f (b ∷ c ∷ a ∷ [])
depth_first_layout = record { order = (((tt, refl), refl), refl); complete = refl }

depth_first_code : linked four f (b ∷ c ∷ a ∷ []) ≡ call (pos 2) ∷ call (pos 5) ∷ exit ∷ call (pos 1) ∷ exit ∷ move 2 ∷ exit ∷ exit ∷ []
depth_first_code = refl

-- The address of a function: a load whose source register is marked.
abbrev callback : Table
callback = record {
  slots = λ k. cond (eqb k.0 3) (load 1 (pos 0) ∷ zeros ∷ exit ∷ []) (move 7 ∷ exit ∷ []);
  refs = λ k. cond (eqb k.0 3) (Some (text 0) ∷ None ∷ None ∷ []) [];
}

address_code : linked callback f (text 0 ∷ []) ≡ load 65 (pos 2) ∷ zeros ∷ exit ∷ move 7 ∷ exit ∷ []
address_code = refl

-- Helpers by number, as in the kernel's uapi/linux/bpf.h: 4 bpf_probe_read, 45 bpf_probe_read_str,
-- 113 bpf_probe_read_kernel, 115 bpf_probe_read_kernel_str.

-- The byte 85 and an immediate.
abbrev helper : ℕ → bpf_insn
helper imm = record { code = 133; registers = 0; off = pos 0; imm = pos imm }

-- The function f calls a function and a newer helper, and the called function calls another newer
-- helper.
abbrev newer : Table
newer = record {
  slots = λ k. cond (eqb k.0 3) (call (negsuc 0) ∷ helper 113 ∷ exit ∷ []) (helper 115 ∷ exit ∷ []);
  refs = λ k. cond (eqb k.0 3) (Some (text 0) ∷ None ∷ None ∷ []) (None ∷ None ∷ []);
}

newer_layout : IsLayout newer f (text 0 ∷ [])
newer_layout = record { order = (tt, refl); complete = refl }

newer_code : linked newer f (text 0 ∷ []) ≡ call (pos 2) ∷ helper 113 ∷ exit ∷ helper 115 ∷ exit ∷ []
newer_code = refl

abbrev older_code : List bpf_insn
older_code = call (pos 2) ∷ helper 4 ∷ exit ∷ helper 45 ∷ exit ∷ []

renamed_code : map with_older_helper (linked newer f (text 0 ∷ [])) ≡ older_code
renamed_code = refl

renamed_functions_code : linked (renamed_table newer) f (text 0 ∷ []) ≡ older_code
renamed_functions_code = refl

abbrev older_shown : Key → ℕ → ℕ → bpf_insn → FlatEvent
older_shown key number position slot = record { key = key; number = number; position = position; slot = slot }

renamed_flat : flat_run newer f (text 0 ∷ []) older_code (true ∷ true ∷ true ∷ true ∷ true ∷ []) (pos 0) [] ≡ Shows (older_shown f 0 0 (call (pos 2))) (Shows (older_shown (text 0) 0 3 (helper 45)) (Shows (older_shown (text 0) 1 4 exit) (Shows (older_shown f 1 1 (helper 4)) (Shows (older_shown f 2 2 exit) (Ends Done)))))
renamed_flat = refl

-- A slot that refers to a function calls no helper once it is linked, whatever it was before.
abbrev referring : Table
referring = record {
  slots = λ k. cond (eqb k.0 3) (helper 113 ∷ exit ∷ []) (move 7 ∷ exit ∷ []);
  refs = λ k. cond (eqb k.0 3) (Some (text 0) ∷ None ∷ []) (None ∷ None ∷ []);
}

-- The bytes 85 40 00 00 and an immediate.
abbrev marked_call : ℕ → bpf_insn
marked_call imm = record { code = 133; registers = 64; off = pos 0; imm = pos imm }

referring_layout : IsLayout referring f (text 0 ∷ [])
referring_layout = record { order = (tt, refl); complete = refl }

referring_code : map with_older_helper (linked referring f (text 0 ∷ [])) ≡ marked_call 1 ∷ exit ∷ move 7 ∷ exit ∷ []
referring_code = refl

referring_functions_code : linked (renamed_table referring) f (text 0 ∷ []) ≡ marked_call 1 ∷ exit ∷ move 7 ∷ exit ∷ []
referring_functions_code = refl
