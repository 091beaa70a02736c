-- The offsets of a section's relocations are strictly increasing.
use Rattle.std.proofs.Common.{arith, ◌≡◌, ℕ, ◌<◌, ◌≤◌, List, [], ◌∷◌, Bool, true, false, cond, refl, ap, ◌∙◌, subst, length}
use Rattle.std.specs.Prelude.{nat_lt, filter, fold}
use Rattle.std.specs.BTreeMap.{insert_entry}
use Rattle.std.proofs.lemmas.List.Elements.{All-map, All-weaker, filter_passes}
use Rattle.std.proofs.lemmas.Map.Entries.{length-keys_of}
use Rattle.std.proofs.lemmas.Map.Views.{length-le_from_below}
use Rattle.std.specs.List.{All, AllByRecursion}
use Rattle.std.specs.List.Sorted.{IsStrictlySortedBy}
use Rattle.std.specs.Map.{keys_of}
use Rattle.std.specs.Ordering.{match_ordering, nat_cmp, ordering_reverse}
use Rattle.std.specs.declared.cmp.Ordering.{Ordering}
use Rattle.std.specs.declared.cmp.Ordering.TheVariants.{Less, Equal, Greater}
use Rattle.std.proofs.lemmas.Bool.Decides.{nat_tests}
use Rattle.std.proofs.lemmas.Cmp.{nat_cmp_total}
use Rattle.elf64.specs.Relocations.{Relocation, relocations_of}
use Rattle.object_file.specs.Relocations.{relocations_by_offset, with_relocation}
use Rattle.slot_relocation.specs.Writes.{number_of}

abbrev pub Placed : Type 0
Placed = ℕ × Relocation

abbrev pub IsRising : List Placed → Type 0
IsRising rs = IsStrictlySortedBy nat_cmp (keys_of rs)

abbrev pub AllAbove : ℕ → List Placed → Type 0
AllAbove n rs = AllByRecursion (λ y. nat_cmp n y ≡ Less) (keys_of rs)

pub above_more : (n m : ℕ) (rs : List Placed) → nat_cmp n m ≡ Less → AllAbove m rs → AllAbove n rs
above_more n m [] h all = all
above_more n m (r ∷ rs) h all = (nat_cmp_total.trans n m r.0 h all.0, above_more n m rs h all.1)

above_match : (n : ℕ) (o : Ordering) (a b c : List Placed) → AllAbove n a → AllAbove n b → AllAbove n c → AllAbove n (match_ordering o a b c)
above_match n Less a b c x y z = x
above_match n Equal a b c x y z = y
above_match n Greater a b c x y z = z

above_insert : (n k : ℕ) (v : Relocation) (rs : List Placed) → nat_cmp n k ≡ Less → AllAbove n rs → AllAbove n (insert_entry nat_cmp rs k v)
above_insert n k v [] h all = (h, all)
above_insert n k v (r ∷ rs) h all =
    above_match n (nat_cmp k r.0) ((k, v) ∷ r ∷ rs) ((r.0, v) ∷ rs) (r ∷ insert_entry nat_cmp rs k v) (h, all) all (all.0, above_insert n k v rs h all.1)

rising_match : (o : Ordering) (a b c : List Placed) → (o ≡ Less → IsRising a) → IsRising b → (o ≡ Greater → IsRising c) → IsRising (match_ordering o a b c)
rising_match Less a b c x y z = x refl
rising_match Equal a b c x y z = y
rising_match Greater a b c x y z = z refl

turned : (a b : ℕ) → nat_cmp a b ≡ Greater → nat_cmp b a ≡ Less
turned a b h = nat_cmp_total.antisymm b a ∙ ap ordering_reverse h

rising_insert : (k : ℕ) (v : Relocation) (rs : List Placed) → IsRising rs → IsRising (insert_entry nat_cmp rs k v)
unfolding IsStrictlySortedBy
rising_insert k v [] up = (up, up)
rising_insert k v (r ∷ rs) up =
    rising_match (nat_cmp k r.0) ((k, v) ∷ r ∷ rs) ((r.0, v) ∷ rs) (r ∷ insert_entry nat_cmp rs k v)
    (λ less. ((less, above_more k r.0 rs less up.0), up)) up
    (λ greater. (above_insert r.0 k v rs (turned k r.0 greater) up.0, rising_insert k v rs up.1))

rising_all : (es : List Placed) (rs : List Relocation) → IsRising es → IsRising (fold with_relocation es rs)
rising_all es [] up = up
rising_all es (r ∷ rs) up = rising_all (with_relocation es r) rs (rising_insert r.offset r es up)

nothing_rises : IsRising []
unfolding IsStrictlySortedBy
nothing_rises = tt

pub offsets_rise : (file : List ℕ) (section : ℕ) → IsRising (relocations_by_offset file section)
offsets_rise file section = rising_all [] (relocations_of file section) nothing_rises

-- A subsequence of relocations is strictly increasing too.
above_kept : (b : Bool) (n : ℕ) (r : Placed) (rs : List Placed) → nat_cmp n r.0 ≡ Less → AllAbove n rs → AllAbove n (cond b (r ∷ rs) rs)
above_kept true n r rs h all = (h, all)
above_kept false n r rs h all = all

above_filter : (p : Placed → Bool) (n : ℕ) (rs : List Placed) → AllAbove n rs → AllAbove n (filter p rs)
above_filter p n [] all = all
above_filter p n (r ∷ rs) all = above_kept (p r) n r (filter p rs) all.0 (above_filter p n rs all.1)

rising_kept : (b : Bool) (r : Placed) (rs : List Placed) → AllAbove r.0 rs → IsRising rs → IsRising (cond b (r ∷ rs) rs)
unfolding IsStrictlySortedBy
rising_kept true r rs all up = (all, up)
rising_kept false r rs all up = up

pub rising_filter : (p : Placed → Bool) (rs : List Placed) → IsRising rs → IsRising (filter p rs)
unfolding IsStrictlySortedBy
rising_filter p [] up = up
rising_filter p (r ∷ rs) up = rising_kept (p r) r (filter p rs) (above_filter p r.0 rs up.0) (rising_filter p rs up.1)

-- At most as many relocations precede an offset as its value, by the strict order of the offsets.
below : (a b : ℕ) → nat_lt a b ≡ true → a < b
below a b h = grind (arith, nat_tests)

pub few_before : (file : List ℕ) (section offset : ℕ) → number_of file section offset ≤ offset
few_before file section offset =
    let before = filter (λ r. nat_lt r.0 offset) (relocations_by_offset file section) in
    let pass : All (λ r. nat_lt r.0 offset ≡ true) before = filter_passes (λ r. nat_lt r.0 offset) (relocations_by_offset file section) in
    let under : All (λ r. r.0 < offset) before = All-weaker (λ r. nat_lt r.0 offset ≡ true) (λ r. r.0 < offset) (λ r h. below r.0 offset h) before pass in
    let few : length (keys_of before) ≤ offset = length-le_from_below offset (keys_of before) (rising_filter (λ r. nat_lt r.0 offset) (relocations_by_offset file section) (offsets_rise file section)) (All-map (λ x. x < offset) (λ r. r.0) before under) in
    subst (λ n. n ≤ offset) (length-keys_of before) few
