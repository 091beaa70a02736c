-- Programs that are renamed after they were linked: in each slot that calls a newer helper, an
-- older helper takes its place, for kernels that lack the newer one.
use Rattle.std.specs.Prelude.{◌≡◌, ℕ, ◌+◌, List, [], ◌∷◌, Option, Some, None, map}
use Rattle.ebpf_items.specs.declared.instruction.bpf_insn.{bpf_insn}
use Rattle.ebpf_items.specs.Instruction.{with_older_helper}
use Rattle.linker.specs.Layout.{Key, Table, ref_at, IsLayout, linked}
use Rattle.linker.specs.Machines.{VisitsSame}

-- A slot, renamed unless it refers to a function.
abbrev pub renamed_slot : Option Key → bpf_insn → bpf_insn
renamed_slot None s = with_older_helper s
renamed_slot (Some key) s = s

-- The slots of a function from slot `i` on, renamed where they have no reference.
abbrev pub renamed_from : Table → Key → ℕ → List bpf_insn → List bpf_insn
renamed_from t k i [] = []
renamed_from t k i (s ∷ ss) = renamed_slot (ref_at t k i) s ∷ renamed_from t k (i + 1) ss

-- Functions with their slots renamed where they have no reference.
abbrev pub renamed_table : Table → Table
renamed_table t = record { slots = λ k. renamed_from t k 0 (t.slots k); refs = t.refs }

-- The properties of a program in which all slots are renamed.
pub record RenamedProgram (t : Table) (own : Key) (ks : List Key) : Type 0 where
  -- The renamed functions have the same layout.
  pub layout : IsLayout (renamed_table t) own ks
  -- The renamed slots are the slots of the renamed functions, linked.
  pub slots : map with_older_helper (linked t own ks) ≡ linked (renamed_table t) own ks
  -- The run of the renamed slots agrees with the run of the renamed functions.
  pub visits : VisitsSame (renamed_table t) own ks (map with_older_helper (linked t own ks))

-- A program that is renamed after it was linked visits the slots of its renamed functions.
pub record RenamedVisitsSame : Type 0 where
  pub each : (t : Table) (own : Key) (ks : List Key) → IsLayout t own ks → RenamedProgram t own ks
