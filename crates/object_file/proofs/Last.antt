-- The last element that passes a test, after one more element is appended to the list.
use Rattle.std.proofs.Common.{◌≡◌, ℕ, ◌+◌, ◌<◌, Bool, true, false, cond, List, [], ◌∷◌, take, length, get_or, Option, Some, refl, ap, sym, ◌∙◌, reverse}
use Rattle.std.specs.Prelude.{find, ◌&&◌}
use Rattle.std.specs.Option.{option_map, option_map_or}
use Rattle.std.specs.Str.{bytes_eq}
use Rattle.std.proofs.lemmas.List.{reverse-append, take_more}
use Rattle.elf64.specs.Sections.{Section, has_name}
use Rattle.elf64.specs.Symbols.{Symbol}
use Rattle.object_file.specs.Named.{has_offset, is_named}

one-more : {X : Type 0} (xs : List X) (i : ℕ) (x : X) → i < length xs → x ≡ get_or xs i x → reverse (take (i + 1) xs) ≡ x ∷ reverse (take i xs)
one-more xs i x within is =
    ap reverse (take_more xs i x within)
    ∙ reverse-append (take i xs) (get_or xs i x ∷ [])
    ∙ ap (λ y. y ∷ reverse (take i xs)) (sym is)

chosen : {X : Type 0} (b : Bool) (f : X → ℕ) (x : X) (rest : Option X) → cond b (Some (f x)) (option_map f rest) ≡ option_map f (cond b (Some x) rest)
chosen true f x rest = refl
chosen false f x rest = refl

last-more : {X : Type 0} (f : X → ℕ) (test : X → Bool) (b : Bool) (xs : List X) (i : ℕ) (x : X) (old new : Option ℕ) → i < length xs → x ≡ get_or xs i x → test x ≡ b → old ≡ option_map f (find test (reverse (take i xs))) → new ≡ cond b (Some (f x)) old → new ≡ option_map f (find test (reverse (take (i + 1) xs)))
last-more f test b xs i x old new within is tested had entered =
    entered
    ∙ ap (cond b (Some (f x))) had
    ∙ ap (λ t. cond t (Some (f x)) (option_map f (find test (reverse (take i xs))))) (sym tested)
    ∙ chosen (test x) f x (find test (reverse (take i xs)))
    ∙ ap (λ ys. option_map f (find test ys)) (sym (one-more xs i x within is))

pub section_more : (f : Section → ℕ) (xs : List Section) (i : ℕ) (x : Section) (name q : List ℕ) (number : ℕ) (old new : Option ℕ) → i < length xs → x ≡ get_or xs i x → x.name ≡ Some name → number ≡ f x → old ≡ option_map f (find (has_name q) (reverse (take i xs))) → new ≡ cond (bytes_eq name q) (Some number) old → new ≡ option_map f (find (has_name q) (reverse (take (i + 1) xs)))
section_more f xs i x name q number old new within is named numbered had entered =
    last-more f (has_name q) (bytes_eq name q) xs i x old new within is (ap (λ (n : Option (List ℕ)). option_map_or (λ text. bytes_eq text q) n false) named) had (entered ∙ ap (λ n. cond (bytes_eq name q) (Some n) old) numbered)

symbol-test : (x : Symbol) (name q : List ℕ) (b : Bool) → has_offset x ≡ b → x.name ≡ Some name → (has_offset x && is_named q x) ≡ (b && bytes_eq name q)
symbol-test x name q b counts named = rw (counts, named) refl

pub symbol_more : (xs : List Symbol) (i : ℕ) (x : Symbol) (name q : List ℕ) (number : ℕ) (old new : Option ℕ) → i < length xs → x ≡ get_or xs i x → has_offset x ≡ true → x.name ≡ Some name → number ≡ x.address → old ≡ option_map (λ s. s.address) (find (λ s. has_offset s && is_named q s) (reverse (take i xs))) → new ≡ cond (bytes_eq name q) (Some number) old → new ≡ option_map (λ s. s.address) (find (λ s. has_offset s && is_named q s) (reverse (take (i + 1) xs)))
symbol_more xs i x name q number old new within is counts named numbered had entered =
    last-more (λ s. s.address) (λ s. has_offset s && is_named q s) (bytes_eq name q) xs i x old new within is (symbol-test x name q true counts named) had (entered ∙ ap (λ n. cond (bytes_eq name q) (Some n) old) numbered)

pub symbol_without : (xs : List Symbol) (i : ℕ) (x : Symbol) (q : List ℕ) (old : Option ℕ) → i < length xs → x ≡ get_or xs i x → has_offset x ≡ false → old ≡ option_map (λ s. s.address) (find (λ s. has_offset s && is_named q s) (reverse (take i xs))) → old ≡ option_map (λ s. s.address) (find (λ s. has_offset s && is_named q s) (reverse (take (i + 1) xs)))
symbol_without xs i x q old within is skipped had =
    last-more (λ s. s.address) (λ s. has_offset s && is_named q s) false xs i x old old within is (ap (λ b. b && is_named q x) skipped) had refl
