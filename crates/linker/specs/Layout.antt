-- The layout of a program whose functions are linked to it: which functions are copied and in which
-- order, where each copy begins, and the program's slots.
use Rattle.std.specs.Prelude.{◌≡◌, ℕ, ◌+◌, Bool, true, false, if◌then◌else◌, List, [], ◌∷◌, ◌++◌, length, Option, Some, None, slice_get, pos, ◌-ℤ◌}
use Rattle.std.specs.Ordering.{ordering_then, nat_cmp, is_eq}
use Rattle.std.specs.declared.cmp.Ordering.{Ordering}
use Rattle.ebpf_items.specs.declared.instruction.bpf_insn.{bpf_insn}
use Rattle.ebpf_items.specs.Instruction.{is_pseudo_call, with_src_reg}

-- The key of a function: the index of its section, and its address.
abbrev pub Key : Type 0
Key = ℕ × ℕ

abbrev pub key_cmp : Key → Key → Ordering
key_cmp a b = ordering_then (nat_cmp a.0 b.0) (nat_cmp a.1 b.1)

abbrev pub same : Key → Key → Bool
same a b = is_eq (key_cmp a b)

-- Functions by key: the slots of each function, and the function that each slot refers to.
pub record Table : Type 0 where
  pub slots : Key → List bpf_insn
  pub refs : Key → List (Option Key)

abbrev pub flat_option : {A : Type 0} → Option (Option A) → Option A
flat_option None = None
flat_option (Some o) = o

-- The function that a slot refers to.
abbrev pub ref_at : Table → Key → ℕ → Option Key
ref_at t key slot = flat_option (slice_get (t.refs key) slot)

-- Whether a list of appended copies has a function. Such a list has the functions of the copies,
-- the last copy first.

abbrev pub has : List Key → Key → Bool
has [] key = false
has (k ∷ ks) key = if same k key then true else has ks key

-- The first open reference of a list. A reference is open iff its function has no appended copy.
abbrev pub first_open : (Key → Bool) → List (Option Key) → Option Key
first_open appended [] = None
first_open appended (None ∷ refs) = first_open appended refs
first_open appended (Some key ∷ refs) = if appended key then first_open appended refs else Some key

abbrev pub back_from : Option Key → Key → List Key → List Key → List Key
back_from None c cs rest = rest
back_from (Some key) c cs rest = c ∷ cs

-- A path without the copies at its beginning that have no open reference.
abbrev pub back : Table → List Key → List Key → List Key
back t ks [] = []
back t ks (c ∷ cs) = back_from (first_open (has ks) (t.refs c)) c cs (back t ks cs)

-- The path from the last copy to the copy that refers to it, and so on to the program's own
-- function.
abbrev pub path : Table → Key → List Key → List Key
path t own [] = own ∷ []
path t own (k ∷ ks) = k ∷ back t ks (path t own ks)

abbrev pub or_else : Option Key → Option Key → Option Key
or_else None o = o
or_else (Some key) o = Some key

-- The first open reference of the first copy on a path that has one.
abbrev pub name_of : Table → List Key → List Key → Option Key
name_of t ks [] = None
name_of t ks (c ∷ cs) = or_else (first_open (has ks) (t.refs c)) (name_of t ks cs)

-- The function whose copy is appended next.
abbrev pub next_key : Table → Key → List Key → Option Key
next_key t own ks = name_of t ks (path t own ks)

-- Each copy is the next one after the copies before it.
abbrev pub IsOrder : Table → Key → List Key → Type 0
IsOrder t own [] = Unit {0}
IsOrder t own (k ∷ ks) = IsOrder t own ks × (next_key t own ks ≡ Some k)

-- The copies are all copies of a program: no copy comes next.
pub record IsLayout (t : Table) (own : Key) (ks : List Key) : Type 0 where
  pub order : IsOrder t own ks
  pub complete : next_key t own ks ≡ None

-- The slot at which the copies end. The copy of the program's own function comes first.
abbrev pub end_of : Table → Key → List Key → ℕ
end_of t own [] = length (t.slots own)
end_of t own (k ∷ ks) = end_of t own ks + length (t.slots k)

-- The slot at which the appended copy of a function begins.
abbrev pub start_of : Table → Key → List Key → Key → Option ℕ
start_of t own [] key = None
start_of t own (k ∷ ks) key = if same k key then Some (end_of t own ks) else start_of t own ks key

-- A reference with its source register: a reference that isn't a call has BPF_PSEUDO_FUNC.
abbrev pub marked : Bool → bpf_insn → bpf_insn
marked true s = s
marked false s = with_src_reg s 4

-- A reference at the position `p` to the copy that begins at `start`. Its immediate is the distance
-- from the position after `p`.
abbrev pub aimed : Option ℕ → ℕ → bpf_insn → bpf_insn
aimed None p s = s
aimed (Some start) p s =
    record (marked (is_pseudo_call s) s) { imm = (pos start -ℤ pos p) -ℤ pos 1 }

-- The slot that a slot of a function becomes at the position `p` of a program.
abbrev pub placed : Table → Key → List Key → Option Key → ℕ → bpf_insn → bpf_insn
placed t own ks None p s = s
placed t own ks (Some key) p s = aimed (start_of t own ks key) p s

-- The slots of the copy that begins at `b`, from slot `i` of the function on.
abbrev pub copy_of : Table → Key → List Key → Key → ℕ → ℕ → List bpf_insn → List bpf_insn
copy_of t own ks k b i [] = []
copy_of t own ks k b i (s ∷ ss) =
    placed t own ks (ref_at t k i) (b + i) s ∷ copy_of t own ks k b (i + 1) ss

-- The slots of the copies `ks` of a program whose appended copies are `all`.
abbrev pub copies_of : Table → Key → List Key → List Key → List bpf_insn
copies_of t own all [] = copy_of t own all own 0 0 (t.slots own)
copies_of t own all (k ∷ ks) =
    copies_of t own all ks ++ copy_of t own all k (end_of t own ks) 0 (t.slots k)

-- The slots of a program.
abbrev pub linked : Table → Key → List Key → List bpf_insn
linked t own ks = copies_of t own ks ks
