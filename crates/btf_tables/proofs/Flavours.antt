-- Names without their flavours.
use Rattle.std.proofs.Common.{◌≡◌, ℕ, zero, suc, ◌<◌, ◌≤◌, true, false, List, [], ◌∷◌, ◌++◌, take, drop, length, Some, None, refl, sym, ap, ◌∙◌, arith}
use Rattle.std.proofs.lemmas.Str.Pattern.{starts_text}
use Rattle.std.specs.Prelude.{codes, nat_eq}
use Rattle.std.specs.List.{starts_with}
use Rattle.std.specs.Str.Pattern.{FindsText, LacksTextAt}
use Rattle.btf_tables.specs.EssentialNames.{essential_name}

abbrev pub separator : List ℕ
separator = codes "___"

no_flavour : (bs : List ℕ) → LacksTextAt separator bs 0 → starts_with nat_eq bs separator ≡ false
no_flavour bs h = sym (starts_text false separator bs h)

a_flavour : (bs rest : List ℕ) → bs ≡ separator ++ rest → starts_with nat_eq bs separator ≡ true
a_flavour bs rest e = rw e refl

whole : (bs : List ℕ) → ((i : ℕ) → i ≤ length bs → LacksTextAt separator bs i) → essential_name bs ≡ bs
whole [] h = refl
whole (b ∷ bs) h =
    let here = no_flavour (b ∷ bs) (h 0 (omega arith)) in
    rw here (ap (λ (cs : List ℕ). b ∷ cs) (whole bs (λ i le. h (suc i) (omega arith))))

cut : (bs rest : List ℕ) (i : ℕ) → ((k : ℕ) → k < i → LacksTextAt separator bs k) → drop i bs ≡ separator ++ rest → essential_name bs ≡ take i bs
cut [] rest zero h e = refl
cut [] rest (suc i) h e = absurd cc
cut (b ∷ bs) rest zero h e = rw (a_flavour (b ∷ bs) rest e) refl
cut (b ∷ bs) rest (suc i) h e =
    let here = no_flavour (b ∷ bs) (h 0 (omega arith)) in
    rw here (ap (λ (cs : List ℕ). b ∷ cs) (cut bs rest i (λ k lt. h (suc k) (omega arith)) e))

pub name_whole : (bs : List ℕ) → FindsText separator bs None → bs ≡ essential_name bs
name_whole bs h = sym (whole bs h)

pub name_cut : (bs front : List ℕ) (i j : ℕ) → FindsText separator bs (Some (i, j)) → front ≡ take i bs → front ≡ essential_name bs
name_cut bs front i j h e = e ∙ sym (cut bs (drop j bs) i h.0 h.1.split)
