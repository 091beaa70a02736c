-- The copies of functions in a program: where each copy begins, and the slots that it has.
use Rattle.std.specs.Prelude.{◌≡◌, ◌⊎◌, ℕ, ◌+◌, List, [], ◌∷◌, Some, slice_get}
use Rattle.ebpf_items.specs.declared.instruction.bpf_insn.{bpf_insn}
use Rattle.linker.specs.Layout.{Key, Table, end_of, linked, placed, ref_at}

-- A copy of the function `key` begins at the slot `start`. The copy of the program's own function
-- begins at slot 0, and each appended copy where the copies before it end.
abbrev pub IsCopy : Table → Key → List Key → Key → ℕ → Type 0
IsCopy t own [] key start = (key ≡ own) × (start ≡ 0)
IsCopy t own (k ∷ ks) key start =
    ((key ≡ k) × (start ≡ end_of t own ks)) ⊎ IsCopy t own ks key start

-- Each slot of a copied function is in the program, at the same index in the copy. Where the slot
-- refers to a function, it points to that function's copy.
pub record SlotsAreCopied : Type 0 where
  pub each : (t : Table) (own : Key) (ks : List Key) (key : Key) (start slot : ℕ) (s : bpf_insn)
      → IsCopy t own ks key start
      → slice_get (t.slots key) slot ≡ Some s
      → slice_get (linked t own ks) (start + slot)
      ≡ Some (placed t own ks (ref_at t key slot) (start + slot) s)
