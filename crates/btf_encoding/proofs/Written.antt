-- Bytes that are appended word by word and item by item.
use Rattle.std.proofs.Common.{◌≡◌, ℕ, zero, suc, ◌+◌, ◌<◌, ◌^◌, List, [], ◌∷◌, ◌++◌, length, take, get_or, refl, sym, ap, subst, ◌∙◌, arith, length-append, append-nil, append_assoc}
use Rattle.std.specs.Prelude.{All, Result, Ok, Err, OnOk, OnErr}
use Rattle.btf_records.specs.Words.{word_bytes, words_bytes}
use Rattle.btf_records.specs.declared.words.Endianness.{Endianness}
use Rattle.std.specs.List.{flat_map}
use Rattle.std.proofs.lemmas.Grind.{flat_map-append}
use Rattle.std.proofs.lemmas.List.{take-take, take_more}
use Rattle.std.proofs.lemmas.List.Elements.{All-append}
use Rattle.std.proofs.Math.Seq.{take-append_seam}

-- A write that keeps some bytes keeps each prefix of them.
pub kept : (old x mid new : List ℕ) → mid ≡ old ++ x → take (length mid) new ≡ mid → take (length old) new ≡ old
kept old x mid new parts same =
    let shorter : take (length old) (take (length mid) new) ≡ take (length old) new = take-take (length old) (length mid) new (omega (arith, ap length parts, length-append old x)) in
    sym shorter ∙ ap (take (length old)) same ∙ rw parts (take-append_seam old x)

pub on_err : {X E : Type 0} (r : Result X E) (P : Type 0) → P → OnErr r P
on_err (Ok x) P p = tt
on_err (Err e) P p = p

-- One more item.
pub flat_map-take_more : {X : Type 0} (words : X → List ℕ) (xs : List X) (i : ℕ) (x : X) → i < length xs → x ≡ get_or xs i x → flat_map words (take (i + 1) xs) ≡ flat_map words (take i xs) ++ words x
flat_map-take_more words xs i x lt is =
    ap (flat_map words) (take_more xs i x lt ∙ rw (← is) refl) ∙ flat_map-append words (take i xs) (x ∷ []) ∙ rw append-nil refl

abbrev pub Fit : List ℕ → Type 0
Fit ws = All (λ w. w < 2 ^ 32) ws

-- One more word.
whichever : (ws : List ℕ) (i d e : ℕ) → i < length ws → get_or ws i d ≡ get_or ws i e
whichever [] i d e lt = absurd (omega (arith, lt))
whichever (w ∷ ws) zero d e lt = refl
whichever (w ∷ ws) (suc i) d e lt = whichever ws i d e (omega (arith, lt))

pub one_word : (order : Endianness) (ws : List ℕ) (i d : ℕ) (front old new : List ℕ) → i < length ws → old ≡ front ++ words_bytes order (take i ws) → new ≡ old ++ word_bytes order (get_or ws i d) → new ≡ front ++ words_bytes order (take (i + 1) ws)
one_word order ws i d front old new lt were is =
    is
    ∙ rw were (append_assoc front (words_bytes order (take i ws)) (word_bytes order (get_or ws i d)))
    ∙ ap (λ (l : List ℕ). front ++ l) (sym (flat_map-take_more (word_bytes order) ws i (get_or ws i d) lt (whichever ws i d (get_or ws i d) lt)))

one-fits : (w : ℕ) → w < 2 ^ 32 → Fit (w ∷ [])
one-fits w fits = λ k d below. by k d below where
  by : (k d : ℕ) → k < 1 → get_or (w ∷ []) k d < 2 ^ 32
  by zero d below = fits
  by (suc k) d below = absurd (omega (arith, below))

pub fits_too : (ws : List ℕ) (i d : ℕ) → i < length ws → get_or ws i d < 2 ^ 32 → Fit (take i ws) → Fit (take (i + 1) ws)
fits_too ws i d lt fits front =
    let w = get_or ws i d in
    let is : w ≡ get_or ws i w = whichever ws i d w lt in
    let more : take (i + 1) ws ≡ take i ws ++ w ∷ [] = take_more ws i w lt ∙ rw (← is) refl in
    subst (λ (zs : List ℕ). Fit zs) (sym more) (All-append (λ (x : ℕ). x < 2 ^ 32) (take i ws) (w ∷ []) front (one-fits w fits))
