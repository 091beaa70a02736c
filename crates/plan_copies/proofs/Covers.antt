-- The copies of a walk follow one another up to the slot that it has come to, and the first of them
-- is that of the program's own function.
use Rattle.std.proofs.Common.{◌≡◌, ℕ, ◌+◌, ◌-◌, ◌<◌, ◌≤◌, nat_lt, if◌then◌else◌, Bool, true, false, List, [], ◌∷◌, ◌++◌, length, Option, Some, None, refl, sym, ◌∙◌, subst, arith}
use Rattle.std.proofs.lemmas.Bool.Decides.{nat_tests}
use Rattle.ebpf_items.specs.declared.instruction.bpf_insn.{bpf_insn}
use Rattle.linker.specs.Layout.{Key}
use Rattle.linker.specs.Unlinked.{Unlinked}
use Rattle.plan_copies.specs.Copies.{AreCopies, Follow, Walk, copies_from, copies_of, copies_until, copy_until, entered, entered_at, first_key, visited, walk_of, with_start}
use Rattle.plan_copies.specs.declared.copies.FunctionCopy.{FunctionCopy}

record IsTold (own : Key) (w : Walk) (slot : ℕ) : Type 0 where
  follow : Follow 0 w.copies w.start
  within : w.start ≤ slot
  first : first_key w.copies w.key ≡ own

follow_push : (from : ℕ) (cs : List FunctionCopy) (c : FunctionCopy) → Follow from cs c.start → 0 < c.len → Follow from (cs ++ c ∷ []) (c.start + c.len)
follow_push from [] c f lt = (sym f, lt, refl)
follow_push from (d ∷ cs) c f lt = (f.0, f.1, follow_push (d.start + d.len) cs c f.2 lt)

first_push : (cs : List FunctionCopy) (c : FunctionCopy) (key : Key) → first_key (cs ++ c ∷ []) key ≡ first_key cs c.key
first_push [] c key = refl
first_push (d ∷ cs) c key = refl

first_any : (cs : List FunctionCopy) (key own : Key) → first_key cs key ≡ own → first_key cs own ≡ own
first_any [] key own e = refl
first_any (d ∷ cs) key own e = e

ended : (own : Key) (w : Walk) (slot : ℕ) → IsTold own w slot → w.start < slot → Follow 0 (w.copies ++ copy_until w slot ∷ []) slot
ended own w slot told lt =
    let some : 0 < slot - w.start = omega (arith, lt) in
    let whole : w.start + (slot - w.start) ≡ slot = omega (arith, lt) in
    let P : ℕ → Type 0 = λ n. Follow 0 (w.copies ++ copy_until w slot ∷ []) n in
    subst P whole (follow_push 0 w.copies (copy_until w slot) told.follow some)

entered_at_told : (own : Key) (w : Walk) (slot : ℕ) (o : Option Key) → IsTold own w slot → w.start < slot → IsTold own (entered_at w slot o) slot
entered_at_told own w slot None told lt = told
entered_at_told own w slot (Some key) told lt =
    let same : slot ≤ slot = omega arith in
    record {
      follow = ended own w slot told lt;
      within = same;
      first = first_push w.copies (copy_until w slot) key ∙ told.first;
    }

entered_by : (own : Key) (w : Walk) (slot : ℕ) (o : Option Key) (v : Bool) → nat_lt w.start slot ≡ v → IsTold own w slot → IsTold own (if v then entered_at w slot o else w) slot
entered_by own w slot o true is told =
    let lt : w.start < slot = grind (arith, nat_tests, is) in
    entered_at_told own w slot o told lt
entered_by own w slot o false is told = told

with_start_told : (own : Key) (w : Walk) (slot : ℕ) (start : Option ℕ) (key : Option Key) → IsTold own w slot → IsTold own (with_start w start key) slot
with_start_told own w slot (Some start) (Some key) told =
    record { follow = told.follow; within = told.within; first = told.first }
with_start_told own w slot (Some start) None told = told
with_start_told own w slot None key told = told

next : (own : Key) (w : Walk) (slot : ℕ) → IsTold own w slot → IsTold own w (slot + 1)
next own w slot told =
    let more : w.start ≤ slot + 1 = omega (arith, told.within) in
    record { follow = told.follow; within = more; first = told.first }

visited_told : (u : Unlinked) (own : Key) (w : Walk) (slot : ℕ) (s : bpf_insn) → IsTold own w slot → IsTold own (visited u w slot s) (slot + 1)
visited_told u own w slot s told =
    next own (visited u w slot s) slot
    (with_start_told own (entered w slot) slot _ _ (entered_by own w slot _ (nat_lt w.start slot) refl told))

last_by : (own : Key) (w : Walk) (slot : ℕ) (v : Bool) → nat_lt w.start slot ≡ v → IsTold own w slot → AreCopies own slot (if v then w.copies ++ copy_until w slot ∷ [] else w.copies)
last_by own w slot true is told =
    let lt : w.start < slot = grind (arith, nat_tests, is) in
    record {
      cover = ended own w slot told lt;
      first = first_push w.copies (copy_until w slot) own ∙ told.first;
    }
last_by own w slot false is told =
    let within = told.within in
    let same : w.start ≡ slot = grind (arith, nat_tests, is, within) in
    let P : ℕ → Type 0 = λ n. Follow 0 w.copies n in
    record { cover = subst P same told.follow; first = first_any w.copies w.key own told.first }

all_told : (u : Unlinked) (own : Key) (w : Walk) (slot count : ℕ) (ss : List bpf_insn) → slot + length ss ≡ count → IsTold own w slot → AreCopies own count (copies_from u w slot ss)
all_told u own w slot count [] e told =
    let same : slot ≡ count = omega (arith, e) in
    let P : ℕ → Type 0 = λ n. AreCopies own n (copies_until w slot) in
    subst P same (last_by own w slot (nat_lt w.start slot) refl told)
all_told u own w slot count (s ∷ ss) e told =
    let more : (slot + 1) + length ss ≡ count = omega (arith, e) in
    all_told u own (visited u w slot s) (slot + 1) count ss more (visited_told u own w slot s told)

whole : (u : Unlinked) (own : Key) (slots : List bpf_insn) → AreCopies own (length slots) (copies_of u own slots)
unfolding copies_of
whole u own slots =
    let none : 0 + length slots ≡ length slots = omega arith in
    let start : 0 ≤ 0 = omega arith in
    all_told u own (walk_of own) 0 (length slots) slots none
    (record { follow = refl; within = start; first = refl })

pub are_copies : (own : Key) (count : ℕ) (copies : List FunctionCopy) (u : Unlinked) (slots : List bpf_insn) → copies ≡ copies_of u own slots → count ≡ length slots → AreCopies own count copies
are_copies own count copies u slots is same = rw (is, same) (whole u own slots)
