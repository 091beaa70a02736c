-- The slots that a program visits for a list of decisions about its branches: its functions run
-- with a stack of calls, and its linked slots run (kernel documentation, instruction-set.rst, Jump
-- instructions).
use Rattle.std.specs.Prelude.{◌≡◌, ℕ, ◌-◌, ◌%◌, ◌==◌, nat_lt, Bool, true, false, ◌||◌, if◌then◌else◌, List, [], ◌∷◌, length, Option, Some, None, slice_get, ℤ, pos, negsuc, ◌+ℤ◌}
use Rattle.ebpf_items.specs.declared.instruction.bpf_insn.{bpf_insn}
use Rattle.ebpf_items.specs.Instruction.{dst_reg_of, is_pseudo_call}
use Rattle.linker.specs.Layout.{Key, Table, ref_at, start_of, end_of}

-- The end of a run: no decision is left, the run is at no slot that may run, or the program has
-- exited.
pub data Ending : Type 0 where
  Cut : Ending
  Outside : Ending
  Done : Ending

-- The events of a run, one for each step, and its end.
pub data Trace (E : Type 0) : Type 0 where
  Ends : Ending → Trace E
  Shows : E → Trace E → Trace E

-- How a slot moves control.
pub data Move : Type 0 where
  Leave : Move
  Call : Move
  By : ℤ → Move

-- Whether an instruction code has the class JMP or JMP32 and isn't a call.
abbrev pub is_jump : ℕ → Bool
is_jump code = if code == 0x85 then false else (code % 8 == 5) || (code % 8 == 6)

-- How a slot moves control. A branch is taken or not by the decision `taken`.
abbrev pub move_of : bpf_insn → Bool → Move
move_of s taken =
    if s.code == 0x95 then Leave
    else (if is_pseudo_call s then Call
    else (if s.code == 0x18 then By (pos 2)
    else (if s.code == 0x05 then By (pos 1 +ℤ s.off)
    else (if s.code == 0x06 then By (pos 1 +ℤ s.imm)
    else (if is_jump s.code
    then (if taken then By (pos 1 +ℤ s.off) else By (pos 1))
    else By (pos 1))))))

-- The slot at an integer index.
abbrev pub slot_at : List bpf_insn → ℤ → Option bpf_insn
slot_at code (pos n) = slice_get code n
slot_at code (negsuc n) = None

abbrev pub nat_of : ℤ → ℕ
nat_of (pos n) = n
nat_of (negsuc n) = 0

-- A visited slot of a function, and the function that it refers to.
pub record SourceEvent : Type 0 where
  pub key : Key
  pub number : ℕ
  pub slot : bpf_insn
  pub target : Option Key

-- A visited slot of a program, with the function of its copy and its index in that function.
pub record FlatEvent : Type 0 where
  pub key : Key
  pub number : ℕ
  pub position : ℕ
  pub slot : bpf_insn

pub record Frame : Type 0 where
  pub key : Key
  pub slot : ℤ

-- Whether a slot may run: a call has to refer to a function, and of the other slots only a load of
-- 64 bits may.
abbrev pub may_run : bpf_insn → Option Key → Bool
may_run s None = if is_pseudo_call s then false else true
may_run s (Some key) = if is_pseudo_call s then true else s.code == 0x18

abbrev pub SourceRun : Type 0
SourceRun = List Frame → Trace SourceEvent

abbrev pub source_leave : SourceRun → List Frame → Trace SourceEvent
source_leave go [] = Ends Done
source_leave go (f ∷ fs) = go (f ∷ fs)

-- A call continues at the first slot of the function and returns to the slot after the call.
abbrev pub source_call : SourceRun → Option Key → Frame → List Frame → Trace SourceEvent
source_call go None f fs = Ends Outside
source_call go (Some key) f fs =
    go (record { key = key; slot = pos 0 } ∷ record f { slot = f.slot +ℤ pos 1 } ∷ fs)

abbrev pub source_move : SourceRun → Move → Option Key → Frame → List Frame → Trace SourceEvent
source_move go Leave r f fs = source_leave go fs
source_move go Call r f fs = source_call go r f fs
source_move go (By z) r f fs = go (record f { slot = f.slot +ℤ z } ∷ fs)

abbrev pub source_show : SourceRun
    → Bool
    → Option bpf_insn
    → Option Key
    → Frame
    → List Frame
    → Trace SourceEvent
source_show go d None r f fs = Ends Outside
source_show go d (Some s) r f fs =
    if may_run s r
    then Shows (record { key = f.key; number = nat_of f.slot; slot = s; target = r })
    (source_move go (move_of s d) r f fs)
    else Ends Outside

abbrev pub source_step : Table → SourceRun → Bool → SourceRun
source_step t go d [] = Ends Outside
source_step t go d (f ∷ fs) =
    source_show go d (slot_at (t.slots f.key) f.slot) (ref_at t f.key (nat_of f.slot)) f fs

-- The run of functions. The frames are the running function and then its callers.
abbrev pub source_run : Table → List Bool → SourceRun
source_run t [] fs = Ends Cut
source_run t (d ∷ ds) fs = source_step t (source_run t ds) d fs

-- A run from a position with a stack of return positions.
abbrev pub FlatRun : Type 0
FlatRun = ℤ → List ℤ → Trace FlatEvent

abbrev pub flat_leave : FlatRun → List ℤ → Trace FlatEvent
flat_leave go [] = Ends Done
flat_leave go (p ∷ ps) = go p ps

abbrev pub flat_move : FlatRun → Move → bpf_insn → ℤ → List ℤ → Trace FlatEvent
flat_move go Leave s p ps = flat_leave go ps
flat_move go Call s p ps = go ((p +ℤ pos 1) +ℤ s.imm) ((p +ℤ pos 1) ∷ ps)
flat_move go (By z) s p ps = go (p +ℤ z) ps

-- The function whose copy has a position, and the index of the slot in that function.
pub record Place : Type 0 where
  pub key : Key
  pub number : ℕ

abbrev pub source_place : Table → Key → List Key → ℕ → Option Place
source_place t own [] p =
    if nat_lt p (length (t.slots own)) then Some (record { key = own; number = p }) else None
source_place t own (k ∷ ks) p =
    if nat_lt p (end_of t own ks) then source_place t own ks p
    else
    (if nat_lt p (end_of t own (k ∷ ks))
    then Some (record { key = k; number = p - end_of t own ks })
    else None)

abbrev pub flat_show : FlatRun
    → Bool
    → Option bpf_insn
    → Option Place
    → ℤ
    → List ℤ
    → Trace FlatEvent
flat_show go d None at p ps = Ends Outside
flat_show go d (Some s) None p ps = Ends Outside
flat_show go d (Some s) (Some at) p ps =
    Shows (record { key = at.key; number = at.number; position = nat_of p; slot = s })
    (flat_move go (move_of s d) s p ps)

-- The run of a program's slots.
abbrev pub flat_run : Table → Key → List Key → List bpf_insn → List Bool → FlatRun
flat_run t own ks code [] p ps = Ends Cut
flat_run t own ks code (d ∷ ds) p ps =
    flat_show (flat_run t own ks code ds) d (slot_at code p) (source_place t own ks (nat_of p)) p ps

abbrev pub ends_outside : {E : Type 0} → Trace E → Bool
ends_outside (Ends Cut) = false
ends_outside (Ends Outside) = true
ends_outside (Ends Done) = false
ends_outside (Shows e rest) = ends_outside rest

-- The slot `b` at the position `p` of a program is the copy of the slot `a`. A slot that refers to
-- no function is unchanged. A slot that refers to a function has the same code, destination
-- register and offset, and the function's appended copy begins where it points.
abbrev pub SameSlot : Table → Key → List Key → Option Key → ℕ → bpf_insn → bpf_insn → Type 0
SameSlot t own ks None p a b = a ≡ b
SameSlot t own ks (Some key) p a b =
    (a.code ≡ b.code)
    × (dst_reg_of a ≡ dst_reg_of b)
    × (a.off ≡ b.off)
    × ((start : ℕ) × (start_of t own ks key ≡ Some start) × (pos start ≡ (pos p +ℤ pos 1) +ℤ b.imm))

pub record SameEvent (t : Table) (own : Key) (ks : List Key) (a : SourceEvent) (b : FlatEvent)
    : Type 0 where
  pub key : a.key ≡ b.key
  pub number : a.number ≡ b.number
  pub slot : SameSlot t own ks a.target b.position a.slot b.slot

-- Two runs have the same events, step by step, and the same end.
abbrev pub Agree : Table → Key → List Key → Trace SourceEvent → Trace FlatEvent → Type 0
Agree t own ks (Ends e) (Ends e') = e ≡ e'
Agree t own ks (Shows a s) (Shows b f) = SameEvent t own ks a b × Agree t own ks s f
Agree t own ks (Ends e) (Shows b f) = ⊥
Agree t own ks (Shows a s) (Ends e) = ⊥

-- For each list of decisions on which the run of the functions doesn't end outside, the run of the
-- program's slots agrees with it.
pub record VisitsSame (t : Table) (own : Key) (ks : List Key) (code : List bpf_insn) : Type 0 where
  pub each : (ds : List Bool)
      → ends_outside (source_run t ds (record { key = own; slot = pos 0 } ∷ [])) ≡ false
      → Agree t own ks (source_run t ds (record { key = own; slot = pos 0 } ∷ []))
      (flat_run t own ks code ds (pos 0) [])
