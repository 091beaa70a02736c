-- Programs whose slots are renamed after they were linked.
use Rattle.std.proofs.Common.{◌≡◌, ℕ, suc, ◌+◌, Bool, true, false, cond, List, [], ◌∷◌, ◌++◌, length, Option, Some, None, refl, sym, ap, ap₂, ◌∙◌, subst, inl, inr, arith, ℤ, pos, ◌-ℤ◌}
use Rattle.std.specs.Prelude.{map, unwrap_or}
use Rattle.std.proofs.lemmas.List.{map-append}
use Rattle.std.proofs.lemmas.Bool.Decides.{nat_tests}
use Rattle.ebpf_items.specs.declared.instruction.bpf_insn.{bpf_insn}
use Rattle.ebpf_items.specs.Instruction.{is_helper_call, is_pseudo_call, older_helper, with_older_helper}
use Rattle.linker.specs.Layout.{Key, same, Table, ref_at, has, first_open, back_from, back, path, or_else, name_of, next_key, IsOrder, IsLayout, start_of, end_of, marked, aimed, placed, copy_of, copies_of, linked}
use Rattle.linker.specs.Machines.{VisitsSame}
use Rattle.linker.specs.Renamed.{renamed_slot, renamed_from, renamed_table, RenamedProgram}
use Rattle.linker.proofs.Keys.{IsOf}
use Rattle.linker.proofs.Reach.{referred}
use Rattle.linker.proofs.Flat.{has_start}
use Rattle.linker.proofs.Same.{visits_same}

-- The order of copies depends on the references alone.
back_same : (t : Table) (ks cs : List Key) → back (renamed_table t) ks cs ≡ back t ks cs
back_same t ks [] = refl
back_same t ks (c ∷ cs) = ap (back_from (first_open (has ks) (t.refs c)) c cs) (back_same t ks cs)

path_same : (t : Table) (own : Key) (ks : List Key) → path (renamed_table t) own ks ≡ path t own ks
path_same t own [] = refl
path_same t own (k ∷ ks) =
    ap (λ cs. k ∷ cs) (back_same t ks (path (renamed_table t) own ks) ∙ ap (back t ks) (path_same t own ks))

name_same : (t : Table) (ks cs : List Key) → name_of (renamed_table t) ks cs ≡ name_of t ks cs
name_same t ks [] = refl
name_same t ks (c ∷ cs) = ap (or_else (first_open (has ks) (t.refs c))) (name_same t ks cs)

next_same : (t : Table) (own : Key) (ks : List Key) → next_key (renamed_table t) own ks ≡ next_key t own ks
next_same t own ks = name_same t ks (path (renamed_table t) own ks) ∙ ap (name_of t ks) (path_same t own ks)

order_same : (t : Table) (own : Key) (ks : List Key) → IsOrder t own ks → IsOrder (renamed_table t) own ks
order_same t own [] o = o
order_same t own (k ∷ ks) o = (order_same t own ks o.0, next_same t own ks ∙ o.1)

layout_same : (t : Table) (own : Key) (ks : List Key) → IsLayout t own ks → IsLayout (renamed_table t) own ks
layout_same t own ks l =
    record { order = order_same t own ks l.order; complete = next_same t own ks ∙ l.complete }

-- Renaming keeps the bounds of the copies.
renamed_length : (t : Table) (k : Key) (i : ℕ) (ss : List bpf_insn) → length (renamed_from t k i ss) ≡ length ss
renamed_length t k i [] = refl
renamed_length t k i (s ∷ ss) = ap suc (renamed_length t k (i + 1) ss)

end_same : (t : Table) (own : Key) (ks : List Key) → end_of (renamed_table t) own ks ≡ end_of t own ks
end_same t own [] = renamed_length t own 0 (t.slots own)
end_same t own (k ∷ ks) = ap₂ (λ m n. m + n) (end_same t own ks) (renamed_length t k 0 (t.slots k))

start_same : (t : Table) (own : Key) (ks : List Key) (key : Key) → start_of (renamed_table t) own ks key ≡ start_of t own ks key
start_same t own [] key = refl
start_same t own (k ∷ ks) key =
    ap₂ (λ m o. cond (same k key) (Some m) o) (end_same t own ks) (start_same t own ks key)

-- A slot that refers to a function calls no helper: its source register is BPF_PSEUDO_CALL or
-- BPF_PSEUDO_FUNC.
no_helper : (v : Bool) (s : bpf_insn) (imm : ℤ) → is_pseudo_call s ≡ v → is_helper_call (record (marked v s) { imm = imm }) ≡ false
no_helper true s imm e = grind (arith, nat_tests)
no_helper false s imm e = grind (arith, nat_tests)

stays : (s : bpf_insn) → is_helper_call s ≡ false → with_older_helper s ≡ s
stays s e = ap (λ v. cond v (record s { imm = unwrap_or (older_helper s.imm) s.imm }) s) e

aimed_stays : (start p : ℕ) (s : bpf_insn) → with_older_helper (aimed (Some start) p s) ≡ aimed (Some start) p s
aimed_stays start p s = stays (aimed (Some start) p s) (no_helper (is_pseudo_call s) s ((pos start -ℤ pos p) -ℤ pos 1) refl)

-- A function to which a slot refers has an appended copy.
abbrev HasStart : Table → Key → List Key → Option Key → Type 0
HasStart t own all r = (key : Key) → r ≡ Some key → (start : ℕ) × (start_of t own all key ≡ Some start)

placed_same : (t : Table) (own : Key) (all : List Key) (r : Option Key) (p : ℕ) (s : bpf_insn) → HasStart t own all r → with_older_helper (placed t own all r p s) ≡ placed (renamed_table t) own all r p (renamed_slot r s)
placed_same t own all None p s h = refl
placed_same t own all (Some key) p s h =
    let start = h key refl in
    ap (λ o. with_older_helper (aimed o p s)) start.1
    ∙ aimed_stays start.0 p s
    ∙ ap (λ o. aimed o p s) (sym start.1 ∙ sym (start_same t own all key))

copy_same : (t : Table) (own : Key) (all : List Key) (k : Key) (b i : ℕ) (ss : List bpf_insn) → ((j : ℕ) → HasStart t own all (ref_at t k j)) → map with_older_helper (copy_of t own all k b i ss) ≡ copy_of (renamed_table t) own all k b i (renamed_from t k i ss)
copy_same t own all k b i [] h = refl
copy_same t own all k b i (s ∷ ss) h =
    ap₂ (λ x xs. x ∷ xs) (placed_same t own all (ref_at t k i) (b + i) s (h i)) (copy_same t own all k b (i + 1) ss h)

copies_same : (t : Table) (own : Key) (all ks : List Key) → ((x : Key) → IsOf own ks x → (j : ℕ) → HasStart t own all (ref_at t x j)) → map with_older_helper (copies_of t own all ks) ≡ copies_of (renamed_table t) own all ks
copies_same t own all [] h = copy_same t own all own 0 0 (t.slots own) (h own refl)
copies_same t own all (k ∷ ks) h =
    let last : List bpf_insn = copy_of t own all k (end_of t own ks) 0 (t.slots k) in
    let there : map with_older_helper last ≡ copy_of (renamed_table t) own all k (end_of (renamed_table t) own ks) 0 (renamed_from t k 0 (t.slots k)) =
    copy_same t own all k (end_of t own ks) 0 (t.slots k) (h k (inl refl))
    ∙ ap (λ b. copy_of (renamed_table t) own all k b 0 (renamed_from t k 0 (t.slots k))) (sym (end_same t own ks)) in
    map-append with_older_helper (copies_of t own all ks) last
    ∙ ap₂ (λ xs ys. xs ++ ys) (copies_same t own all ks (λ x i. h x (inr i))) there

pub linked_same : (t : Table) (own : Key) (ks : List Key) → IsLayout t own ks → map with_older_helper (linked t own ks) ≡ linked (renamed_table t) own ks
linked_same t own ks l =
    copies_same t own ks ks (λ x i j key e. has_start t own ks key (referred t own ks x key l i (j, e)))

pub renamed_program : (t : Table) (own : Key) (ks : List Key) → IsLayout t own ks → RenamedProgram t own ks
renamed_program t own ks l =
    let there = layout_same t own ks l in
    let e = linked_same t own ks l in
    record {
      layout = there;
      slots = e;
      visits = subst (λ code. VisitsSame (renamed_table t) own ks code) (sym e) (visits_same (renamed_table t) own ks there);
    }
