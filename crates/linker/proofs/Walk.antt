-- The walk over the references, by a table of starts.
use Rattle.std.proofs.Common.{◌≡◌, ℕ, zero, suc, ◌+◌, ◌<◌, ◌≤◌, Bool, true, false, cond, List, [], ◌∷◌, ◌++◌, length, take, Option, Some, None, refl, sym, ap, ◌∙◌, subst, arith, is_some, reverse, inl}
use Rattle.std.proofs.lemmas.Option.{slice_get_within}
use Rattle.std.proofs.lemmas.List.{reverse-append, reverse-reverse}
use Rattle.std.proofs.lemmas.Bool.Decides.{nat_tests}
use Rattle.std.specs.BTreeMap.{get}
use Rattle.std.specs.Map.{lookup}
use Rattle.object_parts.specs.Content.{FunctionContent, function_at, has_function}
use Rattle.relocation_errors.specs.declared.error.RelocationError.{RelocationError}
use Rattle.linker.specs.Layout.{Key, key_cmp, same, has, first_open, end_of, start_of, IsOrder}
use Rattle.linker.specs.Walking.{OnWay, WalkLaws, OrderLaws, PlaceLaws}
use Rattle.linker.specs.declared.order.Open.{Open}
use Rattle.linker.specs.declared.order.Frame.{Frame}
use Rattle.linker.specs.declared.order.CopyOrder.{CopyOrder}
use Rattle.linker.specs.Unlinked.{Unlinked, table_of, refs_from, refs_of, refs_in, slots_in, found, if_there, key_at, target_at}
use Rattle.linker.specs.declared.target.Target.{Target}
use Rattle.linker.specs.declared.target.Target.TheVariants as target
use Rattle.ebpf_items.specs.declared.instruction.bpf_insn.{bpf_insn}
use Rattle.std.specs.Prelude.{slice_get, option_and_then}
use Rattle.linker.specs.Records.{mismatches}
use Rattle.linker.specs.Faults.{HasLinkFault, HasTargetFault, last_of}
use Rattle.linker.specs.Walks.{Starts, SetsStart, has_start_in, IsOpen, Fits, AllFit, IsOrdered}
use Rattle.linker.proofs.Opens.{opened, first_same, up_to}

-- Equality of keys.
pub same_self : (a : Key) → same a a ≡ true
same_self a = grind (arith, nat_tests)

same_parts : (a b : Key) → same a b ≡ true → (a.0 ≡ b.0) × (a.1 ≡ b.1)
same_parts a b h = (grind (arith, nat_tests), grind (arith, nat_tests))

pub same_true : (a b : Key) → same a b ≡ true → a ≡ b
same_true (a, b) (c, d) h =
    let p = same_parts (a, b) (c, d) h in
    let f : ℕ → ℕ → Key = λ x y. (x, y) in
    ap (λ x. f x b) p.0 ∙ ap (λ y. f c y) p.1

-- With one more key, no reference becomes open.
has_more : (ks : List Key) (k key : Key) → has ks key ≡ true → has (k ∷ ks) key ≡ true
has_more ks k key h = elim (same k key) as (λ b. cond b true (has ks key) ≡ true) [ true ↦ refl | false ↦ h ]

first_at : (ks : List Key) (key : Key) (rs : List (Option Key)) (b : Bool) (o : Option Key) → has ks key ≡ b → cond b (first_open (has ks) rs) (Some key) ≡ None → (has ks key ≡ true) × (first_open (has ks) rs ≡ None)
first_at ks key rs true o h e = (h, e)
first_at ks key rs false o h e = cc

closed_more : (ks : List Key) (k : Key) (rs : List (Option Key)) → first_open (has ks) rs ≡ None → first_open (has (k ∷ ks)) rs ≡ None
closed_more ks k [] e = refl
closed_more ks k (None ∷ rs) e = closed_more ks k rs e
closed_more ks k (Some key ∷ rs) e =
    let p = first_at ks key rs (has ks key) None refl e in
    ap (λ b. cond b (first_open (has (k ∷ ks)) rs) (Some key)) (has_more ks k key p.0) ∙ closed_more ks k rs p.1

abbrev IsThere : Option FunctionContent → Type 0
IsThere o = is_some o ≡ true

-- The number of functions whose key isn't known.
abbrev pub unknown_count : (Key → Bool) → List (Key × FunctionContent) → ℕ
unknown_count p [] = 0
unknown_count p (e ∷ es) = cond (p e.0) 0 1 + unknown_count p es

le_at : (v w : Bool) → (v ≡ true → w ≡ true) → cond w 0 1 ≤ cond v 0 1
le_at true true h = omega arith
le_at true false h = let e = h refl in cc
le_at false true h = omega arith
le_at false false h = omega arith

count_le : (p q : Key → Bool) (es : List (Key × FunctionContent)) → ((k : Key) → p k ≡ true → q k ≡ true) → unknown_count q es ≤ unknown_count p es
count_le p q [] h = omega arith
count_le p q (e ∷ es) h = omega (arith, le_at (p e.0) (q e.0) (h e.0), count_le p q es h)

less_here : (a b x y : ℕ) → a ≡ 1 → b ≡ 0 → y ≤ x → b + y < a + x
less_here a b x y e h l = omega arith

less_later : (a b x y : ℕ) → b ≤ a → y < x → b + y < a + x
less_later a b x y e l = omega arith

count_less_at : (p q : Key → Bool) (key : Key) (e : Key × FunctionContent) (es : List (Key × FunctionContent)) (v : Bool) → same key e.0 ≡ v → IsThere (cond v (Some e.1) (lookup (same key) es)) → p key ≡ false → q key ≡ true → ((k : Key) → p k ≡ true → q k ≡ true) → (IsThere (lookup (same key) es) → unknown_count q es < unknown_count p es) → unknown_count q (e ∷ es) < unknown_count p (e ∷ es)
count_less_at p q key e es true s h nk yk le ih =
    let k = same_true key e.0 s in
    let f : (Key → Bool) → Key → ℕ = λ t x. cond (t x) 0 1 in
    less_here (f p e.0) (f q e.0) (unknown_count p es) (unknown_count q es) (ap (f p) (sym k) ∙ ap (λ (b : Bool). cond {A = ℕ} b 0 1) nk) (ap (f q) (sym k) ∙ ap (λ (b : Bool). cond {A = ℕ} b 0 1) yk) (count_le p q es le)
count_less_at p q key e es false s h nk yk le ih =
    less_later (cond (p e.0) 0 1) (cond (q e.0) 0 1) (unknown_count p es) (unknown_count q es) (le_at (p e.0) (q e.0) (le e.0)) (ih h)

-- With one more known key, the number of unknown functions is lower.
pub count_less : (p q : Key → Bool) (key : Key) (es : List (Key × FunctionContent)) → IsThere (lookup (same key) es) → p key ≡ false → q key ≡ true → ((k : Key) → p k ≡ true → q k ≡ true) → unknown_count q es < unknown_count p es
count_less p q key [] h nk yk le = cc
count_less p q key (e ∷ es) h nk yk le = count_less_at p q key e es (same key e.0) refl h nk yk le (λ x. count_less p q key es x nk yk le)

-- A frame is that of a copy so far. Its references before the index `next` all lead to copies.
pub record IsFrame (u : Unlinked) (own : Key) (ks : List Key) (f : Frame) : Type 0 where
  pub in_range : has_function u.functions f.key ≡ true
  pub within : f.next ≤ length ((table_of u).refs f.key)
  pub before : first_open (has ks) (take f.next ((table_of u).refs f.key)) ≡ None
  pub later : List Key
  pub earlier : List Key
  pub split : ks ≡ later ++ earlier
  pub last : last_of own earlier ≡ f.key

abbrev pub AreFrames : Unlinked → Key → List Key → List Frame → Type 0
AreFrames u own ks [] = Unit {0}
AreFrames u own ks (f ∷ frames) = IsFrame u own ks f × AreFrames u own ks frames

abbrev pub keys_of : List Frame → List Key
keys_of [] = []
keys_of (f ∷ frames) = f.key ∷ keys_of frames

-- The walk, with the keys and the frames newest first.
pub record Walking (u : Unlinked) (own : Key) (g : FunctionContent) (ks : List Key) (fr : List Frame) (st : Starts) (n : ℕ) : Type 0 where
  pub way : OnWay (table_of u) own ks (keys_of fr)
  pub frames : AreFrames u own ks fr
  pub starts : (k : Key) → get key_cmp st k ≡ start_of (table_of u) own ks k
  pub last : n ≡ end_of (table_of u) own ks
  pub within : n < 2147483648
  pub fit : AllFit u g ks

frames_more : (u : Unlinked) (own : Key) (ks : List Key) (k : Key) (frames : List Frame) → AreFrames u own ks frames → AreFrames u own (k ∷ ks) frames
frames_more u own ks k [] h = tt
frames_more u own ks k (f ∷ frames) h =
    (record { in_range = h.0.in_range; within = h.0.within; before = closed_more ks k (take f.next ((table_of u).refs f.key)) h.0.before; later = k ∷ h.0.later; earlier = h.0.earlier; split = ap (λ l. k ∷ l) h.0.split; last = h.0.last }, frames_more u own ks k frames h.1)

has_head : (ks : List Key) (k : Key) → has (k ∷ ks) k ≡ true
has_head ks k = ap (λ b. cond b true (has ks k)) (same_self k)

closed_append_at : (ks : List Key) (key k : Key) (rs : List (Option Key)) (b : Bool) → cond b (first_open (has ks) rs) (Some k) ≡ None → (first_open (has ks) rs ≡ None → first_open (has ks) (rs ++ (Some key ∷ [])) ≡ None) → cond b (first_open (has ks) (rs ++ (Some key ∷ []))) (Some k) ≡ None
closed_append_at ks key k rs true e ih = ih e
closed_append_at ks key k rs false e ih = cc

closed_append : (ks : List Key) (key : Key) (rs : List (Option Key)) → first_open (has ks) rs ≡ None → has ks key ≡ true → first_open (has ks) (rs ++ (Some key ∷ [])) ≡ None
closed_append ks key [] e h = ap (λ b. cond b None (Some key)) h
closed_append ks key (None ∷ rs) e h = closed_append ks key rs e h
closed_append ks key (Some k ∷ rs) e h = closed_append_at ks key k rs (has ks k) e (λ x. closed_append ks key rs x h)

-- The references of a function in the table.
pub refs_read : (u : Unlinked) (k : Key) (f : FunctionContent) → function_at u.functions k ≡ Some f → (table_of u).refs k ≡ refs_of u f
unfolding table_of
refs_read u k f e = ap (refs_in u) e

pub slots_read : (u : Unlinked) (k : Key) (f : FunctionContent) → function_at u.functions k ≡ Some f → (table_of u).slots k ≡ f.instructions
unfolding table_of
slots_read u k f e = ap slots_in e

reverse_push : {A : Type 0} (xs : List A) (x : A) → reverse (xs ++ (x ∷ [])) ≡ x ∷ reverse xs
reverse_push xs x = reverse-append xs (x ∷ [])

module _ (walk : WalkLaws) (places : PlaceLaws) (u : Unlinked) (own : Key) (g : FunctionContent) where
  pub known_starts : (ks : List Key) (frames : List Frame) (starts : Starts) (last : ℕ) → Walking u own g ks frames starts last → (k : Key) → has_start_in starts k ≡ has ks k
  known_starts ks frames starts last w k = ap is_some (w.starts k) ∙ places.appended (table_of u) own ks k

  pub walk_pop : (ks : List Key) (f : Frame) (frames : List Frame) (starts : Starts) (last : ℕ) → Walking u own g ks (f ∷ frames) starts last → first_open (has_start_in starts) ((table_of u).refs f.key) ≡ None → Walking u own g ks frames starts last
  walk_pop ks f frames starts last w e =
      let closed = sym (first_same (has_start_in starts) (has ks) ((table_of u).refs f.key) (known_starts ks (f ∷ frames) starts last w)) ∙ e in
      record {
        way = walk.pop (table_of u) own ks (keys_of frames) f.key w.way closed;
        frames = w.frames.1;
        starts = w.starts;
        last = w.last;
        within = w.within;
        fit = w.fit;
      }

  -- The function of the next copy.
  named : (ks : List Key) (f : Frame) (frames : List Frame) (starts : Starts) (last : ℕ) (o : Open) → Walking u own g ks (f ∷ frames) starts last → IsOpen (has_start_in starts) ((table_of u).refs f.key) o → first_open (has ks) ((table_of u).refs f.key) ≡ Some o.key
  named ks f frames starts last o w p =
      let rs = (table_of u).refs f.key in
      sym (first_same (has_start_in starts) (has ks) rs (known_starts ks (f ∷ frames) starts last w)) ∙ opened (has_start_in starts) rs o.slot o.key p.at_slot p.unset p.before

  pub next_order : (ks : List Key) (f : Frame) (frames : List Frame) (starts : Starts) (last : ℕ) (o : Open) → Walking u own g ks (f ∷ frames) starts last → IsOpen (has_start_in starts) ((table_of u).refs f.key) o → IsOrder (table_of u) own (o.key ∷ ks)
  next_order ks f frames starts last o w p =
      (walk.push (table_of u) own ks (keys_of frames) f.key o.key w.way (named ks f frames starts last o w p)).order

  walk_push : (ks : List Key) (f : Frame) (frames : List Frame) (starts starts' : Starts) (last : ℕ) (o : Open) → Walking u own g ks (f ∷ frames) starts last → IsOpen (has_start_in starts) ((table_of u).refs f.key) o → has_function u.functions o.key ≡ true → Fits g (function_at u.functions o.key) → last + length ((table_of u).slots o.key) < 2147483648 → SetsStart starts starts' o.key last → Walking u own g (o.key ∷ ks) (record { key = o.key; next = 0 } ∷ record { key = f.key; next = o.slot + 1 } ∷ frames) starts' (last + length ((table_of u).slots o.key))
  walk_push ks f frames starts starts' last o w p lt fit fits up =
      let t = table_of u in
      let rs = t.refs f.key in
      let known = known_starts ks (f ∷ frames) starts last w in
      let before = sym (first_same (has_start_in starts) (has ks) (take o.slot rs) known) ∙ p.before in
      let inside = slice_get_within rs o.slot (Some o.key) p.at_slot in
      let next : o.slot + 1 ≡ suc o.slot = omega arith in
      let passed = ap (λ n. first_open (has (o.key ∷ ks)) (take n rs)) next ∙ ap (first_open (has (o.key ∷ ks))) (up_to rs o.slot o.key p.at_slot) ∙ closed_append (o.key ∷ ks) o.key (take o.slot rs) (closed_more ks o.key (take o.slot rs) before) (has_head ks o.key) in
      record {
        way = walk.push t own ks (keys_of frames) f.key o.key w.way (named ks f frames starts last o w p);
        frames = (record { in_range = lt; within = omega arith; before = refl; later = []; earlier = o.key ∷ ks; split = refl; last = refl }, (record { in_range = w.frames.0.in_range; within = omega (arith, inside); before = passed; later = o.key ∷ w.frames.0.later; earlier = w.frames.0.earlier; split = ap (λ l. o.key ∷ l) w.frames.0.split; last = w.frames.0.last }, frames_more u own ks o.key frames w.frames.1));
        starts = λ k. up.at k ∙ ap (λ x. cond (same o.key k) (Some last) x) (w.starts k) ∙ ap (λ x. cond (same o.key k) (Some x) (start_of t own ks k)) w.last;
        last = ap (λ n. n + length (t.slots o.key)) w.last;
        within = fits;
        fit = (fit, w.fit);
      }

  pub walk_start : (n : ℕ) (st : Starts) → function_at u.functions own ≡ Some g → ((k : Key) → get key_cmp st k ≡ None) → n ≡ length g.instructions → n < 2147483648 → Walking u own g [] (record { key = own; next = 0 } ∷ []) st n
  walk_start n st e none h lt = record {
    way = walk.start (table_of u) own;
    frames = (record { in_range = ap is_some e; within = omega arith; before = refl; later = []; earlier = []; split = refl; last = refl }, tt);
    starts = none;
    last = h ∙ ap length (sym (slots_read u own g e));
    within = lt;
    fit = tt;
  }

  pub top : (ks : List Key) (frames rest : List Frame) (f : Frame) (starts : Starts) (last : ℕ) → Walking u own g ks (reverse frames) starts last → frames ≡ rest ++ (f ∷ []) → Walking u own g ks (f ∷ reverse rest) starts last
  top ks frames rest f starts last w e = subst (λ l. Walking u own g ks l starts last) (ap reverse e ∙ reverse_push rest f) w

  -- The search continues at a reference before which none is open.
  pub before_place : (ks : List Key) (f : Frame) (frames : List Frame) (starts : Starts) (last : ℕ) → Walking u own g ks (f ∷ frames) starts last → first_open (has_start_in starts) (take f.next ((table_of u).refs f.key)) ≡ None
  before_place ks f frames starts last w =
      first_same (has_start_in starts) (has ks) (take f.next ((table_of u).refs f.key)) (known_starts ks (f ∷ frames) starts last w) ∙ w.frames.0.before

  pub pushed : (keys keys' : List Key) (rest path : List Frame) (f : Frame) (h : FunctionContent) (starts starts' : Starts) (last more : ℕ) (o : Open) → Walking u own g (reverse keys) (f ∷ reverse rest) starts last → IsOpen (has_start_in starts) ((table_of u).refs f.key) o → function_at u.functions o.key ≡ Some h → mismatches g h ≡ false → more ≡ length h.instructions → last + more < 2147483648 → keys' ≡ keys ++ (o.key ∷ []) → path ≡ (rest ++ (record { key = f.key; next = o.slot + 1 } ∷ [])) ++ (record { key = o.key; next = 0 } ∷ []) → SetsStart starts starts' o.key last → Walking u own g (reverse keys') (reverse path) starts' (last + more)
  pushed keys keys' rest path f h starts starts' last more o w p at fit m fits ek ep up =
      let n = length ((table_of u).slots o.key) in
      let m' : more ≡ n = m ∙ ap length (sym (slots_read u o.key h at)) in
      let fits' : last + n < 2147483648 = omega arith in
      let ks : reverse keys' ≡ o.key ∷ reverse keys = ap reverse ek ∙ reverse_push keys o.key in
      let second : Frame = record { key = f.key; next = o.slot + 1 } in
      let first : Frame = record { key = o.key; next = 0 } in
      let fr : reverse path ≡ first ∷ second ∷ reverse rest = ap reverse ep ∙ reverse_push (rest ++ (second ∷ [])) first ∙ ap (λ l. first ∷ l) (reverse_push rest second) in
      let made = walk_push (reverse keys) f (reverse rest) starts starts' last o w p (ap is_some at) (subst (Fits g) (sym at) fit) fits' up in
      subst (λ x. Walking u own g (reverse keys') (reverse path) starts' (last + x)) (sym m')
      (subst (λ l. Walking u own g (reverse keys') l starts' (last + n)) (sym fr)
      (subst (λ l. Walking u own g l (first ∷ second ∷ reverse rest) starts' (last + n)) (sym ks) made))

all_both : (u : Unlinked) (g : FunctionContent) (xs ys : List Key) → AllFit u g xs → AllFit u g ys → AllFit u g (xs ++ ys)
all_both u g [] ys h k = k
all_both u g (x ∷ xs) ys h k = (h.0, all_both u g xs ys h.1 k)

all_reverse : (u : Unlinked) (g : FunctionContent) (xs : List Key) → AllFit u g xs → AllFit u g (reverse xs)
all_reverse u g [] h = h
all_reverse u g (x ∷ xs) h = subst (AllFit u g) (sym (reverse-append (x ∷ []) xs)) (all_both u g (reverse xs) (x ∷ []) (all_reverse u g xs h.1) (h.0, tt))

empty_list : {A : Type 0} (xs : List A) → length xs ≡ 0 → xs ≡ []
empty_list [] e = refl
empty_list (x ∷ xs) e = absurd (omega arith)

pub walk_end : (walk : WalkLaws) (u : Unlinked) (own : Key) (g : FunctionContent) (last : ℕ) (frames : List Frame) (o : CopyOrder) → length frames ≡ 0 → Walking u own g (reverse o.keys.items) (reverse frames) o.starts last → IsOrdered u own g o
walk_end walk u own g last frames o z w' =
    let w = subst (λ l. Walking u own g (reverse o.keys.items) (reverse l) o.starts last) (empty_list frames z) w' in
    record {
      layout = walk.end (table_of u) own (reverse o.keys.items) w.way;
      starts = w.starts;
      within = subst (λ n. n < 2147483648) w.last w.within;
      fit = subst (AllFit u g) (reverse-reverse o.keys.items) (all_reverse u g (reverse o.keys.items) w.fit);
    }

-- A slot refers to a function of the list.
there_if : (functions : List (Key × FunctionContent)) (k key : Key) (b : Bool) → has_function functions k ≡ b → cond b (Some k) None ≡ Some key → has_function functions key ≡ true
there_if functions k key true e h = let q : k ≡ key = cc in subst (λ x. has_function functions x ≡ true) q e
there_if functions k key false e h = absurd (cc)

there_at : (functions : List (Key × FunctionContent)) (o : Option Key) (key : Key) → option_and_then (if_there functions) o ≡ Some key → has_function functions key ≡ true
there_at functions None key h = absurd (cc)
there_at functions (Some k) key h = there_if functions k key (has_function functions k) refl h

found_there : (functions : List (Key × FunctionContent)) (t : Target) (key : Key) → found functions t ≡ Some key → has_function functions key ≡ true
found_there functions target.Nothing key h = absurd (cc)
found_there functions (target.UnknownSymbol index) key h = absurd (cc)
found_there functions (target.Function section address) key h = there_at functions (key_at section address) key h

refs_there : (u : Unlinked) (f : FunctionContent) (i : ℕ) (ss : List bpf_insn) (n : ℕ) (key : Key) → slice_get (refs_from u f i ss) n ≡ Some (Some key) → has_function u.functions key ≡ true
refs_there u f i [] n key h = absurd (cc)
refs_there u f i (s ∷ ss) zero key h =
    let e : found u.functions (target_at u f i s) ≡ Some key = cc in found_there u.functions (target_at u f i s) key e
refs_there u f i (s ∷ ss) (suc n) key h = refs_there u f (i + 1) ss n key h

pub open_there : (u : Unlinked) (known : Key → Bool) (f : FunctionContent) (o : Open) → IsOpen known (refs_of u f) o → has_function u.functions o.key ≡ true
open_there u known f o p = refs_there u f 0 f.instructions o.slot o.key p.at_slot

-- The faults that the walk finds.
pub target_fault : (orders : OrderLaws) (u : Unlinked) (own : Key) (g : FunctionContent) (ks : List Key) (f : Frame) (frames : List Frame) (starts : Starts) (last : ℕ) (h : FunctionContent) (e : RelocationError) → Walking u own g ks (f ∷ frames) starts last → function_at u.functions f.key ≡ Some h → HasTargetFault u h e → HasLinkFault u own e
target_fault orders u own g ks f frames starts last h e w at fault =
    let frame = w.frames.0 in
    (frame.earlier, (orders.back (table_of u) own frame.later frame.earlier (subst (IsOrder (table_of u) own) frame.split w.way.order), inl (h, ap (function_at u.functions) frame.last ∙ at, fault)))

-- An open reference of a function is an open reference in the table.
pub open_read : (u : Unlinked) (known : Key → Bool) (k : Key) (h : FunctionContent) (o : Open) → function_at u.functions k ≡ Some h → IsOpen known (refs_of u h) o → IsOpen known ((table_of u).refs k) o
open_read u known k h o at p = subst (λ l. IsOpen known l o) (sym (refs_read u k h at)) p

is_more : (o n : Option ℕ) (v : Bool) (last : ℕ) → n ≡ cond v (Some last) o → is_some o ≡ true → is_some n ≡ true
is_more o n true last e h = ap is_some e
is_more o n false last e h = ap is_some e ∙ h

-- One more function has a start.
pub count_more : (u : Unlinked) (starts starts' : Starts) (key : Key) (last : ℕ) → has_function u.functions key ≡ true → has_start_in starts key ≡ false → SetsStart starts starts' key last → unknown_count (has_start_in starts') u.functions < unknown_count (has_start_in starts) u.functions
count_more u starts starts' key last there no' up =
    count_less (has_start_in starts) (has_start_in starts') key u.functions there no' (ap is_some (up.at key ∙ ap (λ b. cond b (Some last) (get key_cmp starts key)) (same_self key))) (λ k h. is_more (get key_cmp starts k) (get key_cmp starts' k) (same key k) last (up.at k) h)
