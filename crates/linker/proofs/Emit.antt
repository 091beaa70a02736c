-- The slots and records of a program are written copy after copy.
use Rattle.std.proofs.Common.{◌≡◌, ℕ, zero, suc, ◌+◌, ◌<◌, ◌≤◌, Bool, true, List, [], ◌∷◌, ◌++◌, length, take, drop, map, get_or, Option, Some, None, refl, sym, ap, ◌∙◌, subst, arith, vec_len, Vec, Global, reverse, append_assoc, is_some}
use Rattle.std.specs.Prelude.{slice_get, ◌&&◌}
use Rattle.std.proofs.lemmas.List.{take_more, reverse-append, take_all, append-nil, take-append-drop}
use Rattle.std.specs.BTreeMap.{get}
use Rattle.ebpf_items.specs.declared.instruction.bpf_insn.{bpf_insn}
use Rattle.btf_ext.specs.declared.record.bpf_func_info.{bpf_func_info}
use Rattle.btf_ext.specs.declared.record.bpf_line_info.{bpf_line_info}
use Rattle.object_parts.specs.Content.{FunctionContent, function_at, has_function}
use Rattle.linker.specs.Layout.{Key, key_cmp, Table, flat_option, ref_at, aimed, placed, copy_of, copies_of, end_of, start_of, IsOrder}
use Rattle.linker.specs.Walking.{OrderLaws, PlaceLaws}
use Rattle.linker.specs.declared.order.CopyOrder.{CopyOrder}
use Rattle.linker.specs.Unlinked.{Unlinked, table_of, ref_of, refs_from, refs_of, target_at}
use Rattle.linker.specs.Records.{functions_in, functions_of, lines_in, lines_of, moved_function, moved_lines}
use Rattle.linker.specs.Faults.{are_sound, is_sound}
use Rattle.linker.specs.Walks.{Starts, StartsFit, placed_in, copy_in, IsOrdered, Fits, AllFit, SoundAt, AllSound}
use Rattle.linker.proofs.Gets.{drop_more}
use Rattle.linker.proofs.Walk.{refs_read, slots_read}

-- One more slot of a copy.
pub copy_more : (u : Unlinked) (f : FunctionContent) (starts : Starts) (b i : ℕ) (ss : List bpf_insn) (s w : bpf_insn) (key : Option Key) (code new all : List bpf_insn) → Some s ≡ slice_get ss i → key ≡ ref_of u f i s → w ≡ placed_in starts key (b + i) s → new ≡ code ++ (w ∷ []) → code ++ copy_in u f starts b i (drop i ss) ≡ all → new ++ copy_in u f starts b (i + 1) (drop (i + 1) ss) ≡ all
copy_more u f starts b i ss s w key code new all at k e n h =
    ap (λ l. l ++ copy_in u f starts b (i + 1) (drop (i + 1) ss)) n
    ∙ append_assoc code (w ∷ []) (copy_in u f starts b (i + 1) (drop (i + 1) ss))
    ∙ ap (λ x. code ++ (x ∷ copy_in u f starts b (i + 1) (drop (i + 1) ss))) (e ∙ ap (λ r. placed_in starts r (b + i) s) k)
    ∙ ap (λ l. code ++ copy_in u f starts b i l) (sym (drop_more ss i s (sym at)))
    ∙ h

pub sound_more : (u : Unlinked) (f : FunctionContent) (i : ℕ) (ss : List bpf_insn) (s : bpf_insn) (all : Bool) → Some s ≡ slice_get ss i → is_sound u (target_at u f i s) ≡ true → are_sound u f i (drop i ss) ≡ all → are_sound u f (i + 1) (drop (i + 1) ss) ≡ all
sound_more u f i ss s all at e h =
    sym (ap (λ b. b && are_sound u f (i + 1) (drop (i + 1) ss)) e) ∙ ap (are_sound u f i) (sym (drop_more ss i s (sym at))) ∙ h

-- A slot placed by the table of starts is the slot placed by the layout.
same_place : (t : Table) (own : Key) (ks : List Key) (starts : Starts) → ((k : Key) → get key_cmp starts k ≡ start_of t own ks k) → (r : Option Key) (p : ℕ) (s : bpf_insn) → placed_in starts r p s ≡ placed t own ks r p s
same_place t own ks starts h None p s = refl
same_place t own ks starts h (Some key) p s = ap (λ o. aimed o p s) (h key)

-- The list `rest` has the references of a function from index `i` on.
abbrev AreLeft : List (Option Key) → ℕ → List (Option Key) → Type 0
AreLeft all i rest = (n : ℕ) → slice_get all (i + n) ≡ slice_get rest n

same_copy : (t : Table) (own : Key) (ks : List Key) (u : Unlinked) (f : FunctionContent) (starts : Starts) → ((k : Key) → get key_cmp starts k ≡ start_of t own ks k) → (k : Key) (b i : ℕ) (ss : List bpf_insn) → AreLeft (t.refs k) i (refs_from u f i ss) → copy_in u f starts b i ss ≡ copy_of t own ks k b i ss
same_copy t own ks u f starts h k b i [] left = refl
same_copy t own ks u f starts h k b i (s ∷ ss) left =
    let z : i + 0 ≡ i = omega arith in
    let r : ref_of u f i s ≡ ref_at t k i = ap flat_option (sym (left 0) ∙ ap (slice_get (t.refs k)) z) in
    let rest : AreLeft (t.refs k) (i + 1) (refs_from u f (i + 1) ss) = λ n. let e : i + 1 + n ≡ i + suc n = omega arith in ap (slice_get (t.refs k)) e ∙ left (suc n) in
    ap (λ x. x ∷ copy_in u f starts b (i + 1) ss) (same_place t own ks starts h (ref_of u f i s) (b + i) s ∙ ap (λ o. placed t own ks o (b + i) s) r)
    ∙ ap (λ l. placed t own ks (ref_at t k i) (b + i) s ∷ l) (same_copy t own ks u f starts h k b (i + 1) ss rest)

-- The written copy is the copy of the layout.
pub written : (u : Unlinked) (own : Key) (g : FunctionContent) (o : CopyOrder) → IsOrdered u own g o → (k : Key) (f : FunctionContent) (b b' : ℕ) → function_at u.functions k ≡ Some f → b ≡ b' → copy_in u f o.starts b 0 f.instructions ≡ copy_of (table_of u) own (reverse o.keys.items) k b' 0 ((table_of u).slots k)
written u own g o h k f b b' at e =
    let t = table_of u in
    let ks = reverse o.keys.items in
    let left : AreLeft (t.refs k) 0 (refs_of u f) = λ n. let z : 0 + n ≡ n = omega arith in ap (slice_get (t.refs k)) z ∙ ap (λ l. slice_get l n) (refs_read u k f at) in
    same_copy t own ks u f o.starts h.starts k b 0 f.instructions left
    ∙ ap (λ n. copy_of t own ks k n 0 f.instructions) e
    ∙ ap (copy_of t own ks k b' 0) (sym (slots_read u k f at))

-- The end of a prefix of the copies is at most the end of all copies.
end_front : (t : Table) (own : Key) (a b : List Key) → end_of t own b ≤ end_of t own (a ++ b)
end_front t own [] b = omega arith
end_front t own (x ∷ a) b = omega (arith, end_front t own a b)

pub end_taken : (t : Table) (own : Key) (keys : List Key) (i : ℕ) → end_of t own (reverse (take i keys)) ≤ end_of t own (reverse keys)
end_taken t own keys i =
    let e : reverse keys ≡ reverse (drop i keys) ++ reverse (take i keys) = ap reverse (sym (take-append-drop i keys)) ∙ reverse-append (take i keys) (drop i keys) in
    subst (λ l. end_of t own (reverse (take i keys)) ≤ end_of t own l) (sym e) (end_front t own (reverse (drop i keys)) (reverse (take i keys)))

taken_more : (keys : List Key) (i : ℕ) (d : Key) → i < length keys → reverse (take (i + 1) keys) ≡ get_or keys i d ∷ reverse (take i keys)
taken_more keys i d lt = ap reverse (take_more keys i d lt) ∙ reverse-append (take i keys) (get_or keys i d ∷ [])

-- One more copy.
pub more_keys : (o : CopyOrder) (keys : List Key) (i : ℕ) (d : Key) → keys ≡ o.keys.items → i < length keys → reverse (take (i + 1) o.keys.items) ≡ get_or keys i d ∷ reverse (take i o.keys.items)
more_keys o keys i d e lt =
    let lt' : i < length o.keys.items = subst (λ l. i < length l) e lt in
    taken_more o.keys.items i d lt' ∙ ap (λ x. x ∷ reverse (take i o.keys.items)) (ap (λ l. get_or l i d) (sym e))

there_of : (g : FunctionContent) (o : Option FunctionContent) → Fits g o → is_some o ≡ true
there_of g None h = absurd h
there_of g (Some f) h = refl

fit_at : (u : Unlinked) (g : FunctionContent) (xs : List Key) (i : ℕ) (d : Key) → AllFit u g xs → i < length xs → has_function u.functions (get_or xs i d) ≡ true
fit_at u g [] i d h lt = absurd (omega arith)
fit_at u g (x ∷ xs) zero d h lt = there_of g (function_at u.functions x) h.0
fit_at u g (x ∷ xs) (suc i) d h lt = let l : i < length xs = omega arith in fit_at u g xs i d h.1 l

pub key_there : (u : Unlinked) (own : Key) (g : FunctionContent) (o : CopyOrder) (keys : List Key) (i : ℕ) (d : Key) → IsOrdered u own g o → keys ≡ o.keys.items → i < length keys → has_function u.functions (get_or keys i d) ≡ true
key_there u own g o keys i d h e lt = fit_at u g keys i d (subst (AllFit u g) (sym e) h.fit) lt

pub starts_fit : (places : PlaceLaws) (u : Unlinked) (own : Key) (g : FunctionContent) (o : CopyOrder) → IsOrdered u own g o → StartsFit o.starts
starts_fit places u own g o h = record {
  each = λ key start e.
      let c = places.starts (table_of u) own (reverse o.keys.items) key start (sym (h.starts key) ∙ e) in
      omega (arith, c, h.within);
}

-- The number of written slots.
pub written_slots : (places : PlaceLaws) (u : Unlinked) (own : Key) (o : CopyOrder) (i : ℕ) (code : Vec bpf_insn Global) → code.items ≡ copies_of (table_of u) own (reverse o.keys.items) (reverse (take i o.keys.items)) → vec_len code ≡ end_of (table_of u) own (reverse (take i o.keys.items))
written_slots places u own o i code inv =
    let c = ap length inv ∙ places.ends (table_of u) own (reverse o.keys.items) (reverse (take i o.keys.items)) in
    omega (arith, code.ok.0, c)

pub start_room : (places : PlaceLaws) (u : Unlinked) (own : Key) (g : FunctionContent) (o : CopyOrder) (i : ℕ) (code : Vec bpf_insn Global) → IsOrdered u own g o → code.items ≡ copies_of (table_of u) own (reverse o.keys.items) (reverse (take i o.keys.items)) → vec_len code < 2147483648
start_room places u own g o i code h inv =
    omega (arith, end_taken (table_of u) own o.keys.items i, h.within, written_slots places u own o i code inv)

pub room_own : (u : Unlinked) (own : Key) (g : FunctionContent) (o : CopyOrder) (n : ℕ) → IsOrdered u own g o → function_at u.functions own ≡ Some g → n ≡ 0 → n + length g.instructions < 2147483648
room_own u own g o n h at z =
    let t = table_of u in
    let s : length (t.slots own) ≡ length g.instructions = ap length (slots_read u own g at) in
    let m : end_of t own [] ≤ end_of t own (reverse o.keys.items) = subst (λ l. end_of t own [] ≤ end_of t own l) (append-nil (reverse o.keys.items)) (end_front t own (reverse o.keys.items) []) in
    omega (arith, s, m, h.within)

pub room_key : (places : PlaceLaws) (u : Unlinked) (own : Key) (g : FunctionContent) (o : CopyOrder) (keys : List Key) (i : ℕ) (d : Key) (f : FunctionContent) (code : Vec bpf_insn Global) → IsOrdered u own g o → keys ≡ o.keys.items → i < length keys → function_at u.functions (get_or keys i d) ≡ Some f → code.items ≡ copies_of (table_of u) own (reverse o.keys.items) (reverse (take i o.keys.items)) → vec_len code + length f.instructions < 2147483648
room_key places u own g o keys i d f code h e lt at inv =
    let t = table_of u in
    let s : length (t.slots (get_or keys i d)) ≡ length f.instructions = ap length (slots_read u (get_or keys i d) f at) in
    let more : end_of t own (reverse (take (i + 1) o.keys.items)) ≡ end_of t own (reverse (take i o.keys.items)) + length (t.slots (get_or keys i d)) = ap (end_of t own) (more_keys o keys i d e lt) in
    omega (arith, s, more, end_taken t own o.keys.items (i + 1), h.within, written_slots places u own o i code inv)

pub first_copy : (u : Unlinked) (own : Key) (g : FunctionContent) (o : CopyOrder) (code new : Vec bpf_insn Global) → IsOrdered u own g o → function_at u.functions own ≡ Some g → code.items ≡ [] → vec_len code ≡ 0 → new.items ≡ code.items ++ copy_in u g o.starts (vec_len code) 0 g.instructions → new.items ≡ copies_of (table_of u) own (reverse o.keys.items) []
first_copy u own g o code new h at z n w =
    w ∙ ap (λ l. l ++ copy_in u g o.starts (vec_len code) 0 g.instructions) z ∙ written u own g o h own g (vec_len code) 0 at n

pub next_copy : (places : PlaceLaws) (u : Unlinked) (own : Key) (g : FunctionContent) (o : CopyOrder) (keys : List Key) (i : ℕ) (d : Key) (f : FunctionContent) (code new : Vec bpf_insn Global) → IsOrdered u own g o → keys ≡ o.keys.items → i < length keys → function_at u.functions (get_or keys i d) ≡ Some f → code.items ≡ copies_of (table_of u) own (reverse o.keys.items) (reverse (take i o.keys.items)) → new.items ≡ code.items ++ copy_in u f o.starts (vec_len code) 0 f.instructions → new.items ≡ copies_of (table_of u) own (reverse o.keys.items) (reverse (take (i + 1) o.keys.items))
next_copy places u own g o keys i d f code new h e lt at inv w =
    let t = table_of u in
    let all = reverse o.keys.items in
    let front = reverse (take i o.keys.items) in
    let k = get_or keys i d in
    w
    ∙ ap (λ l. code.items ++ l) (written u own g o h k f (vec_len code) (end_of t own front) at (written_slots places u own o i code inv))
    ∙ ap (λ l. l ++ copy_of t own all k (end_of t own front) 0 (t.slots k)) inv
    ∙ ap (copies_of t own all) (sym (more_keys o keys i d e lt))

-- All copies are written.
pub all_taken : (o : CopyOrder) (keys : List Key) (i : ℕ) → keys ≡ o.keys.items → length keys ≤ i → reverse (take i o.keys.items) ≡ reverse o.keys.items
all_taken o keys i e le = ap reverse (take_all i o.keys.items (subst (λ l. length l ≤ i) e le))

-- The function records of one more function.
pub next_functions : (places : PlaceLaws) (u : Unlinked) (own : Key) (o : CopyOrder) (keys : List Key) (i : ℕ) (d : Key) (f : FunctionContent) (code : Vec bpf_insn Global) (n : ℕ) (out new : List bpf_func_info) → keys ≡ o.keys.items → i < length keys → function_at u.functions (get_or keys i d) ≡ Some f → code.items ≡ copies_of (table_of u) own (reverse o.keys.items) (reverse (take i o.keys.items)) → n ≡ vec_len code → out ≡ functions_of u own (reverse (take i o.keys.items)) → new ≡ out ++ map (moved_function n) f.func_info → new ≡ functions_of u own (reverse (take (i + 1) o.keys.items))
next_functions places u own o keys i d f code n out new e lt at inv m records w =
    let front = reverse (take i o.keys.items) in
    let k = get_or keys i d in
    w
    ∙ ap (λ l. l ++ map (moved_function n) f.func_info) records
    ∙ ap (λ x. functions_of u own front ++ map (moved_function x) f.func_info) (m ∙ written_slots places u own o i code inv)
    ∙ ap (λ x. functions_of u own front ++ map (moved_function (end_of (table_of u) own front)) (functions_in x)) (sym at)
    ∙ ap (functions_of u own) (sym (more_keys o keys i d e lt))

pub next_lines : (places : PlaceLaws) (u : Unlinked) (own : Key) (o : CopyOrder) (keys : List Key) (i : ℕ) (d : Key) (f : FunctionContent) (code : Vec bpf_insn Global) (n : ℕ) (out new : List bpf_line_info) → keys ≡ o.keys.items → i < length keys → function_at u.functions (get_or keys i d) ≡ Some f → code.items ≡ copies_of (table_of u) own (reverse o.keys.items) (reverse (take i o.keys.items)) → n ≡ vec_len code → out ≡ lines_of u own (reverse (take i o.keys.items)) → new ≡ out ++ moved_lines n f.line_info → new ≡ lines_of u own (reverse (take (i + 1) o.keys.items))
next_lines places u own o keys i d f code n out new e lt at inv m records w =
    let front = reverse (take i o.keys.items) in
    let k = get_or keys i d in
    w
    ∙ ap (λ l. l ++ moved_lines n f.line_info) records
    ∙ ap (λ x. lines_of u own front ++ moved_lines x f.line_info) (m ∙ written_slots places u own o i code inv)
    ∙ ap (λ x. lines_of u own front ++ moved_lines (end_of (table_of u) own front) (lines_in x)) (sym at)
    ∙ ap (lines_of u own) (sym (more_keys o keys i d e lt))

-- The function records of the program's own function.
pub first_functions : (u : Unlinked) (own : Key) (g : FunctionContent) (out new : List bpf_func_info) → function_at u.functions own ≡ Some g → out ≡ [] → new ≡ out ++ map (moved_function 0) g.func_info → new ≡ functions_of u own []
first_functions u own g out new at z w =
    w ∙ ap (λ l. l ++ map (moved_function 0) g.func_info) z ∙ ap (λ x. map (moved_function 0) (functions_in x)) (sym at)

pub first_lines : (u : Unlinked) (own : Key) (g : FunctionContent) (out new : List bpf_line_info) → function_at u.functions own ≡ Some g → out ≡ [] → new ≡ out ++ g.line_info → new ≡ lines_of u own []
first_lines u own g out new at z w = w ∙ ap (λ l. l ++ g.line_info) z ∙ ap lines_in (sym at)

-- The function of a key has no fault.
same_function : (f g : FunctionContent) → ◌≡◌ {A = Option FunctionContent} (Some f) (Some g) → f ≡ g
same_function f g e = cc

pub sound_at : (u : Unlinked) (k : Key) (f : FunctionContent) → function_at u.functions k ≡ Some f → are_sound u f 0 f.instructions ≡ true → SoundAt u k
sound_at u k f at s = record { each = λ h e. let q : f ≡ h = same_function f h (sym at ∙ e) in subst (λ x. are_sound u x 0 x.instructions ≡ true) q s }

pub next_sound : (u : Unlinked) (own : Key) (o : CopyOrder) (keys : List Key) (i : ℕ) (d : Key) (f : FunctionContent) → keys ≡ o.keys.items → i < length keys → function_at u.functions (get_or keys i d) ≡ Some f → are_sound u f 0 f.instructions ≡ true → AllSound u own (reverse (take i o.keys.items)) → AllSound u own (reverse (take (i + 1) o.keys.items))
next_sound u own o keys i d f e lt at s all = subst (AllSound u own) (sym (more_keys o keys i d e lt)) (sound_at u (get_or keys i d) f at s, all)

-- The key of a later copy is the next key after the copies before it.
pub named_at : (orders : OrderLaws) (u : Unlinked) (own : Key) (g : FunctionContent) (o : CopyOrder) (keys : List Key) (i : ℕ) (d : Key) → IsOrdered u own g o → keys ≡ o.keys.items → i < length keys → IsOrder (table_of u) own (get_or keys i d ∷ reverse (take i o.keys.items))
named_at orders u own g o keys i d h e lt =
    let t = table_of u in
    let split : reverse o.keys.items ≡ reverse (drop (i + 1) o.keys.items) ++ reverse (take (i + 1) o.keys.items) = ap reverse (sym (take-append-drop (i + 1) o.keys.items)) ∙ reverse-append (take (i + 1) o.keys.items) (drop (i + 1) o.keys.items) in
    subst (IsOrder t own) (more_keys o keys i d e lt) (orders.back t own (reverse (drop (i + 1) o.keys.items)) (reverse (take (i + 1) o.keys.items)) (subst (IsOrder t own) split h.layout.order))
