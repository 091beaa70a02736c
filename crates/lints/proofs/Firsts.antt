-- The first maps with each number, after one more map.
use Rattle.std.proofs.Common.{◌≡◌, ℕ, Bool, true, false, cond, List, [], ◌∷◌, ◌++◌, Option, Some, None, refl, ap, sym, ◌∙◌}
use Rattle.std.proofs.lemmas.List.{append-nil}
use Rattle.std.specs.BTreeMap.{is_at}
use Rattle.std.specs.Borrow.{Bor}
use Rattle.std.specs.Map.{lookup}
use Rattle.std.specs.Option.{option_map, option_map_or, option_or}
use Rattle.std.specs.Ordering.{is_eq, nat_cmp, ordering_reverse}
use Rattle.std.proofs.lemmas.Cmp.{nat_cmp_total, ranked}
use Rattle.std.specs.declared.cmp.Ordering.{Ordering}
use Rattle.std.specs.declared.cmp.Ordering.TheVariants.{Less, Equal, Greater}
use Rattle.lints.specs.Firsts.{AreFirsts, AreNoted}
use Rattle.lints.specs.Notes.{NoteContent, SharedNumber, first_with}

-- The first value of a key, with one more entry at the end.

further : {X : Type 0} (b : Bool) (x : X) (found rest : Option X) → cond b (Some x) (option_or found rest) ≡ option_or (cond b (Some x) found) rest
further true x found rest = refl
further false x found rest = refl

lookup-end : {X : Type 0} (test : ℕ → Bool) (es : List (ℕ × X)) (e : ℕ × X) → lookup test (es ++ e ∷ []) ≡ option_or (lookup test es) (cond (test e.0) (Some e.1) None)
lookup-end test [] e = refl
lookup-end {X} test (first ∷ es) e =
    ap (λ (rest : Option X). cond (test first.0) (Some first.1) rest) (lookup-end test es e)
    ∙ further (test first.0) first.1 (lookup test es) (cond (test e.0) (Some e.1) None)

-- Comparison of keys by number.

equal-if : (o : Ordering) → is_eq o ≡ true → o ≡ Equal
equal-if Less h = absurd (cc)
equal-if Equal h = refl
equal-if Greater h = absurd (cc)

same-key : (a b : ℕ) → is_at (nat_cmp a) b ≡ true → a ≡ b
same-key a b h = ranked a b Equal (sym (equal-if (nat_cmp a b) h))

-- One more number: its first map is kept, or it is this map.

kept : {X : Type 0} (b : Bool) (found : Option X) (first x : X) → (b ≡ true → found ≡ Some first) → option_or found (cond b (Some x) None) ≡ found
kept true found first x h = rw (h refl) refl
kept false (Some found) first x h = refl
kept false None first x h = refl

-- The number occurs before.
pub stays : (numbers : List (ℕ × List ℕ)) (number : ℕ) (name first : List ℕ) → first_with numbers number ≡ Some first → (q : ℕ) → first_with (numbers ++ (number, name) ∷ []) q ≡ first_with numbers q
stays numbers number name first found q =
    lookup-end (is_at (nat_cmp q)) numbers (number, name)
    ∙ kept (is_at (nat_cmp q) number) (first_with numbers q) first name (λ h. ap (first_with numbers) (same-key q number h) ∙ found)

mapped : {X Y : Type 0} (f : X → Y) (b : Bool) (x : X) (o : Option X) (found : Option Y) → option_map f o ≡ found → (b ≡ true → found ≡ None) → option_map f (cond b (Some x) o) ≡ option_or found (cond b (Some (f x)) None)
mapped f true x o found same none = rw (none refl) refl
mapped f false x o (Some y) same none = same
mapped f false x o None same none = same

reversed : (o : Ordering) → is_eq (ordering_reverse o) ≡ is_eq o
reversed Less = refl
reversed Equal = refl
reversed Greater = refl

exchanged : (a b : ℕ) → is_at (nat_cmp a) b ≡ is_at (nat_cmp b) a
exchanged a b = ap is_eq (nat_cmp_total.antisymm a b) ∙ reversed (nat_cmp b a)

-- The number doesn't occur before.
begins : (numbers : List (ℕ × List ℕ)) (firsts : List (ℕ × Bor (List ℕ))) (number : ℕ) (name : Bor (List ℕ)) → AreFirsts numbers firsts → first_with numbers number ≡ None → (q : ℕ) → option_map (λ (n : Bor (List ℕ)). n.now) (cond (is_at (nat_cmp number) q) (Some name) (lookup (is_at (nat_cmp q)) firsts)) ≡ first_with (numbers ++ (number, name.now) ∷ []) q
begins numbers firsts number name are none q =
    mapped (λ (n : Bor (List ℕ)). n.now) (is_at (nat_cmp number) q) name (lookup (is_at (nat_cmp q)) firsts) (first_with numbers q) (are.each q) (λ h. ap (first_with numbers) (sym (same-key number q h)) ∙ none)
    ∙ ap (λ (b : Bool). option_or (first_with numbers q) (cond b (Some name.now) None)) (exchanged number q)
    ∙ sym (lookup-end (is_at (nat_cmp q)) numbers (number, name.now))

-- The notes after one more map.

pub noted_again : (firsts : List (ℕ × Bor (List ℕ))) (number : ℕ) (name first : Bor (List ℕ)) (notes notes_after : List NoteContent) → lookup (is_at (nat_cmp number)) firsts ≡ Some first → notes_after ≡ notes ++ SharedNumber number first.now name.now ∷ [] → AreNoted ((number, name.now) ∷ []) firsts firsts notes notes_after
noted_again firsts number name first notes notes_after found after =
    let stands : (numbers : List (ℕ × List ℕ)) → AreFirsts numbers firsts → first_with numbers number ≡ Some first.now = λ numbers are. sym (are.each number) ∙ ap (option_map (λ (n : Bor (List ℕ)). n.now)) found in
    record {
      firsts_are = λ numbers are. record { each = λ q. are.each q ∙ sym (stays numbers number name.now first.now (stands numbers are) q) };
      notes_are = λ numbers are. after ∙ ap (λ (f : Option (List ℕ)). notes ++ (option_map_or (λ first. SharedNumber number first name.now ∷ []) f [] ++ [])) (sym (stands numbers are));
    }

pub noted_first : (firsts firsts_after : List (ℕ × Bor (List ℕ))) (number : ℕ) (name : Bor (List ℕ)) (notes : List NoteContent) → lookup (is_at (nat_cmp number)) firsts ≡ None → ((q : ℕ) → lookup (is_at (nat_cmp q)) firsts_after ≡ cond (is_at (nat_cmp number) q) (Some name) (lookup (is_at (nat_cmp q)) firsts)) → AreNoted ((number, name.now) ∷ []) firsts firsts_after notes notes
noted_first firsts firsts_after number name notes none after =
    let lacks : (numbers : List (ℕ × List ℕ)) → AreFirsts numbers firsts → first_with numbers number ≡ None = λ numbers are. sym (are.each number) ∙ ap (option_map (λ (n : Bor (List ℕ)). n.now)) none in
    record {
      firsts_are = λ numbers are. record { each = λ q. ap (option_map (λ (n : Bor (List ℕ)). n.now)) (after q) ∙ begins numbers firsts number name are (lacks numbers are) q };
      notes_are = λ numbers are. sym (append-nil notes) ∙ ap (λ (f : Option (List ℕ)). notes ++ (option_map_or (λ first. SharedNumber number first name.now ∷ []) f [] ++ [])) (sym (lacks numbers are));
    }
