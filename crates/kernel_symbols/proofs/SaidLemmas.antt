-- The addresses that lines give for a name.
use Rattle.std.proofs.Common.{◌≡◌, ℕ, Bool, true, false, cond, List, [], ◌∷◌, ◌++◌, Option, None, Some, Ok, Err, refl, ap, sym, ◌∙◌, subst, arith, append-nil, inl, inr}
use Rattle.std.specs.Prelude.{◌==◌, IfSome, is_some, slice_get, is_none}
use Rattle.std.specs.List.{list_all, list_any}
use Rattle.std.specs.Cmp.Lexicographic.{same_text}
use Rattle.std.specs.Str.{bytes_eq, is_utf8}
use Rattle.std.proofs.lemmas.Bool.{and_from, and_parts, or_cases, or_from, or_left, or_right}
use Rattle.std.proofs.lemmas.Bool.Decides.{nat_tests}
use Rattle.std.proofs.lemmas.List.Concat.{flat_map-append}
use Rattle.std.proofs.lemmas.List.Folds.{list_all-append, list_any-append}
use Rattle.kernel_symbols.specs.Addresses.{address_in}
use Rattle.kernel_symbols.specs.Reading.{IsOnly, IsSettled, IsSettledAs, IsWantedIn, RefusesLine, TakesLine, settled, settled_beside}
use Rattle.kernel_symbols.specs.Wanted.{under, with_address}
use Rattle.kernel_symbols.specs.Texts.{LinesFault, addresses_in, has_unreadable, is_foreign, said, said_by, said_in, shown}
use Rattle.kernel_symbols.specs.Words.{first_and_third, words_of}
use Rattle.kernel_symbols.specs.declared.error.SymbolsError.{SymbolsError}
use Rattle.kernel_symbols.specs.declared.error.SymbolsError.TheVariants.{Ambiguous, UnreadableAddress}
use Rattle.kernel_symbols.specs.declared.wanted.Wanted.{Wanted}

eq_self : (n : ℕ) → (n == n) ≡ true
eq_self n = grind (arith, nat_tests)

eq_is : (m n : ℕ) → (m == n) ≡ true → m ≡ n
eq_is m n h = grind (arith, nat_tests)

pub same_bytes : (name : List ℕ) → bytes_eq name name ≡ true
same_bytes [] = refl
same_bytes (x ∷ xs) = rw (eq_self x) (same_bytes xs)

-- The addresses of one more line follow those of the lines before it.
pub said_more : (name : List ℕ) (lines more : List (List ℕ)) (line : List ℕ) → said name (lines ++ line ∷ more) ≡ said name lines ++ (said_in name line ++ said name more)
said_more name lines more line = flat_map-append (said_in name) lines (line ∷ more)

said_one : (name : List ℕ) (lines : List (List ℕ)) (line : List ℕ) → said name (lines ++ line ∷ []) ≡ said name lines ++ said_in name line
said_one name lines line = said_more name lines [] line ∙ ap (λ (l : List (Option ℕ)). said name lines ++ l) (append-nil (said_in name line))

addresses_more : (one other : List (Option ℕ)) → addresses_in (one ++ other) ≡ addresses_in one ++ addresses_in other
addresses_more one other = flat_map-append shown one other

first_before : (xs ys : List ℕ) (first : ℕ) → Some first ≡ slice_get xs 0 → slice_get (xs ++ ys) 0 ≡ Some first
first_before [] ys first h = absurd cc
first_before (x ∷ xs) ys first h = sym h

pub only_first : (address : Option ℕ) (xs : List ℕ) → IsOnly address xs → address ≡ slice_get xs 0
only_first None xs h = rw h refl
only_first (Some a) xs h = sym h.0

pub only_has : (xs : List ℕ) (first second : ℕ) → list_all (λ a. a == first) xs ≡ true → list_any (λ a. a == second) xs ≡ true → first ≡ second
only_has [] first second all has = absurd cc
only_has (a ∷ xs) first second all has =
    let both = and_parts (a == first) (list_all (λ a. a == first) xs) all in
    elim (or_cases (a == second) (list_any (λ a. a == second) xs) has) [
      | inl here ↦ sym (eq_is a first both.0) ∙ eq_is a second here
      | inr later ↦ only_has xs first second both.1 later
    ]

only_more : (address : Option ℕ) (xs : List ℕ) (n : ℕ) → IsOnly address xs → IfSome address (λ a. (a == n) ≡ true) → IsOnly (Some n) (xs ++ n ∷ [])
only_more None xs n none same = rw none (refl, rw (eq_self n) refl)
only_more (Some a) xs n found same =
    let is : a ≡ n = eq_is a n same in
    rw (← is) (first_before xs (a ∷ []) a (sym found.0), list_all-append (λ b. b == a) xs (a ∷ []) ∙ and_from _ _ found.1 (rw (eq_self a) refl))

settled_one : (s : List (Option ℕ)) (n : ℕ) (address : Option ℕ) → has_unreadable s ≡ false → IsOnly address (addresses_in s ++ shown (Some n)) → IsSettled (s ++ Some n ∷ []) address
settled_one s n address readable only = record {
  readable = list_any-append is_none s (Some n ∷ []) ∙ or_from _ _ readable refl;
  only =
      let all : addresses_in (s ++ Some n ∷ []) ≡ addresses_in s ++ shown (Some n) = addresses_more s (Some n ∷ []) ∙ ap (λ (l : List ℕ). addresses_in s ++ l) (append-nil (shown (Some n))) in
      subst (IsOnly address) (sym all) only;
}

-- One more address is settled.
pub settled_more : (w : Wanted) (s : List (Option ℕ)) (x address : Option ℕ) → IsSettled s w.address → Ok address ≡ settled w x → IsSettled (s ++ x ∷ []) address
settled_more w s None address before is = absurd cc
settled_more w s (Some n) address before is = at (n == 0) refl is
  where
    known_as : (found : Option ℕ) → w.address ≡ found → (n == 0) ≡ false → IfSome found (λ a. (a == n) ≡ true) → IsSettled (s ++ Some n ∷ []) (Some n)
    known_as found known more same =
        let only : IsOnly found (addresses_in s) = subst (λ (o : Option ℕ). IsOnly o (addresses_in s)) known before.only in
        settled_one s n (Some n) before.readable (rw more (only_more found (addresses_in s) n only same))

    beside : (found : Option ℕ) → w.address ≡ found → (n == 0) ≡ false → Ok address ≡ settled_beside w n found → IsSettled (s ++ Some n ∷ []) address
    beside None known more is =
        let here : address ≡ Some n = cc in
        rw here (known_as None known more tt)
    beside (Some first) known more is = same (first == n) refl is
      where
        same : (b : Bool) → (first == n) ≡ b → Ok address ≡ cond b (Ok (Some first)) (Err (Ambiguous w.name first n)) → IsSettled (s ++ Some n ∷ []) address
        same true equal is =
            let first_is : first ≡ n = eq_is first n equal in
            let here : address ≡ Some n = rw (← first_is) cc in
            rw here (known_as (Some first) known more equal)
        same false equal is = absurd cc

    at : (b : Bool) → (n == 0) ≡ b → Ok address ≡ cond b (Ok w.address) (settled_beside w n w.address) → IsSettled (s ++ Some n ∷ []) address
    at true none is =
        let here : address ≡ w.address = cc in
        rw here (settled_one s n w.address before.readable (rw none (subst (IsOnly w.address) (sym (append-nil (addresses_in s))) before.only)))
    at false more is = beside w.address refl more is

-- If one more address isn't settled, the fault holds for all of the lines.
pub refused_more : (w : Wanted) (s more : List (Option ℕ)) (x : Option ℕ) (e : SymbolsError) → IsSettled s w.address → Err e ≡ settled w x → (failed : Bool) (IsWanted : List ℕ → Type 0) (lines : List (List ℕ)) → IsWanted w.name.now → said w.name.now lines ≡ s ++ x ∷ more → LinesFault failed IsWanted lines e
refused_more w s more None e before is failed IsWanted lines wanted all =
    let here : e ≡ UnreadableAddress w.name = cc in
    rw here (wanted, ap has_unreadable all ∙ list_any-append is_none s (None ∷ more) ∙ or_right (has_unreadable s) true refl)
refused_more w s more (Some n) e before is failed IsWanted lines wanted all = at (n == 0) refl is
  where
    beside : (found : Option ℕ) → w.address ≡ found → (n == 0) ≡ false → Err e ≡ settled_beside w n found → LinesFault failed IsWanted lines e
    beside None known other is = absurd cc
    beside (Some first) known other is = same (first == n) refl is
      where
        shows : addresses_in (s ++ Some n ∷ more) ≡ addresses_in s ++ (n ∷ addresses_in more)
        shows = addresses_more s (Some n ∷ more) ∙ ap (λ (l : List ℕ). addresses_in s ++ (l ++ addresses_in more)) {x = shown (Some n)} {y = n ∷ []} (rw other refl)

        same : (b : Bool) → (first == n) ≡ b → Err e ≡ cond b (Ok (Some first)) (Err (Ambiguous w.name first n)) → LinesFault failed IsWanted lines e
        same true equal is = absurd cc
        same false equal is =
            let here : e ≡ Ambiguous w.name first n = cc in
            let found : addresses_in (said w.name.now lines) ≡ addresses_in s ++ (n ∷ addresses_in more) = ap addresses_in all ∙ shows in
            let begun : Some first ≡ slice_get (addresses_in s) 0 = sym known ∙ only_first w.address (addresses_in s) before.only in
            rw here (
              wanted,
              (
                ap (λ (l : List ℕ). slice_get l 0) found ∙ first_before (addresses_in s) (n ∷ addresses_in more) first begun,
                ap (list_any (λ a. a == n)) found ∙ list_any-append (λ a. a == n) (addresses_in s) (n ∷ addresses_in more) ∙ or_right _ _ (or_left (n == n) _ (eq_self n)),
                equal,
              ),
            )

    at : (b : Bool) → (n == 0) ≡ b → Err e ≡ cond b (Ok w.address) (settled_beside w n w.address) → LinesFault failed IsWanted lines e
    at true none is = absurd cc
    at false other is = beside w.address refl other is

-- ---- A line

foreign_more : (lines : List (List ℕ)) (line : List ℕ) → is_utf8 line ≡ true → list_any is_foreign lines ≡ false → list_any is_foreign (lines ++ line ∷ []) ≡ false
foreign_more lines line text before = list_any-append is_foreign lines (line ∷ []) ∙ or_from _ _ before (rw text refl)

unsaid : (name : List ℕ) (lines : List (List ℕ)) (line : List ℕ) (w : Option Wanted) → said_in name line ≡ [] → IfSome w (IsSettledAs name lines) → IfSome w (IsSettledAs name (lines ++ line ∷ []))
unsaid name lines line None nothing before = tt
unsaid name lines line (Some w) nothing before =
    let same : said name (lines ++ line ∷ []) ≡ said name lines = said_one name lines line ∙ ap (λ (l : List (Option ℕ)). said name lines ++ l) nothing ∙ append-nil (said name lines) in
    (before.0, subst (λ (s : List (Option ℕ)). IsSettled s w.address) (sym same) before.1)

-- A line of fewer than three words gives no address.
pub short_line : (entries : List (List ℕ × Wanted)) (line : List ℕ) → is_utf8 line ≡ true → first_and_third (words_of line) ≡ None → TakesLine entries entries line
short_line entries line text short = record {
  settled = λ lines before. record {
    texts = foreign_more lines line text before.texts;
    found = λ name. unsaid name lines line (under entries name) (ap (said_by name) short) (before.found name);
  };
  names = record { same = λ name. refl };
}

-- A line of a name that isn't wanted.
pub other_line : (entries : List (List ℕ × Wanted)) (line word name : List ℕ) → is_utf8 line ≡ true → first_and_third (words_of line) ≡ Some (word, name) → under entries name ≡ None → TakesLine entries entries line
other_line entries line word name text says unwanted = record {
  settled = λ lines before. record {
    texts = foreign_more lines line text before.texts;
    found = λ other. at other lines (bytes_eq name other) refl (before.found other);
  };
  names = record { same = λ other. refl };
}
  where
    at : (other : List ℕ) (lines : List (List ℕ)) (b : Bool) → bytes_eq name other ≡ b → IfSome (under entries other) (IsSettledAs other lines) → IfSome (under entries other) (IsSettledAs other (lines ++ line ∷ []))
    at other lines true equal before =
        let is : name ≡ other = same_text name other (sym equal) in
        let none : under entries other ≡ None = subst (λ (n : List ℕ). under entries n ≡ None) is unwanted in
        rw none tt
    at other lines false equal before = unsaid other lines line (under entries other) (ap (said_by other) says ∙ ap (λ (b : Bool). cond b (address_in word ∷ []) []) equal) before

-- A line of a wanted name.
pub wanted_line : (old new : List (List ℕ × Wanted)) (line word name : List ℕ) (w : Wanted) (address : Option ℕ) → is_utf8 line ≡ true → first_and_third (words_of line) ≡ Some (word, name) → under old name ≡ Some w → Ok address ≡ settled w (address_in word) → ((other : List ℕ) → under new other ≡ cond (bytes_eq name other) (with_address address (under old name)) (under old other)) → TakesLine old new line
wanted_line old new line word name w address text says known is put = record {
  settled = λ lines before. record {
    texts = foreign_more lines line text before.texts;
    found = λ other. rw (put other) (at other lines (bytes_eq name other) refl (before.found other) (subst (λ (o : Option Wanted). IfSome o (IsSettledAs name lines)) known (before.found name)));
  };
  names = record { same = λ other. ap is_some (put other) ∙ still other (bytes_eq name other) refl };
}
  where
    still : (other : List ℕ) (b : Bool) → bytes_eq name other ≡ b → is_some (cond b (with_address address (under old name)) (under old other)) ≡ is_some (under old other)
    still other true equal =
        let here : name ≡ other = same_text name other (sym equal) in
        rw known (ap is_some (sym (subst (λ (n : List ℕ). under old n ≡ Some w) here known)))
    still other false equal = refl

    at : (other : List ℕ) (lines : List (List ℕ)) (b : Bool) → bytes_eq name other ≡ b → IfSome (under old other) (IsSettledAs other lines) → IsSettledAs name lines w → IfSome (cond b (with_address address (under old name)) (under old other)) (IsSettledAs other (lines ++ line ∷ []))
    at other lines true equal before settled_before =
        let here : name ≡ other = same_text name other (sym equal) in
        let says_here : said_in name line ≡ address_in word ∷ [] = ap (said_by name) says ∙ ap (λ (b : Bool). cond b (address_in word ∷ []) []) (equal_here here) in
        let all : said name (lines ++ line ∷ []) ≡ said name lines ++ address_in word ∷ [] = said_one name lines line ∙ ap (λ (l : List (Option ℕ)). said name lines ++ l) says_here in
        let after : IsSettled (said name (lines ++ line ∷ [])) address = rw all (settled_more w (said name lines) (address_in word) address settled_before.1 is) in
        rw known (settled_before.0 ∙ here, subst (λ (n : List ℕ). IsSettled (said n (lines ++ line ∷ [])) address) here after)
      where
        equal_here : name ≡ other → bytes_eq name name ≡ true
        equal_here here = ap (bytes_eq name) here ∙ equal
    at other lines false equal before settled_before = unsaid other lines line (under old other) (ap (said_by other) says ∙ ap (λ (b : Bool). cond b (address_in word ∷ []) []) equal) before

-- A line of a wanted name that is refused.
pub refused_line : (old : List (List ℕ × Wanted)) (line word name : List ℕ) (w : Wanted) (e : SymbolsError) → first_and_third (words_of line) ≡ Some (word, name) → under old name ≡ Some w → Err e ≡ settled w (address_in word) → bytes_eq name name ≡ true → RefusesLine old line e
refused_line old line word name w e says known is equal = record {
  stands = λ _ failed lines more before.
      let settled_before : IsSettledAs name lines w = subst (λ (o : Option Wanted). IfSome o (IsSettledAs name lines)) known (before.found name) in
      let says_here : said_in name line ≡ address_in word ∷ [] = ap (said_by name) says ∙ ap (λ (b : Bool). cond b (address_in word ∷ []) []) equal in
      let all : said name (lines ++ line ∷ more) ≡ said name lines ++ address_in word ∷ said name more = said_more name lines more line ∙ ap (λ (l : List (Option ℕ)). said name lines ++ (l ++ said name more)) says_here in
      refused_more w (said name lines) (said name more) (address_in word) e settled_before.1 is failed (IsWantedIn old) (lines ++ line ∷ more)
      (wanted_as settled_before.0) (ap (λ (n : List ℕ). said n (lines ++ line ∷ more)) settled_before.0 ∙ all);
}
  where
    wanted_as : w.name.now ≡ name → IsWantedIn old w.name.now
    wanted_as same = subst (λ (n : List ℕ). IsWantedIn old n) (sym same) (rw known refl)
