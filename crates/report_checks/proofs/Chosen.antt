-- Items that are mapped or left out, one index after another.
use Rattle.std.proofs.Common.{◌≡◌, ◌∙◌, ℕ, ◌+◌, List, [], ◌∷◌, ◌++◌, drop, Option, None, Some, slice_get}
use Rattle.std.specs.Prelude.{filter_map}
use Rattle.std.proofs.lemmas.List.{append_assoc}
use Rattle.report_checks.proofs.Lasts.{left_at}

pub chosen : {X Y : Type 0} (f : X → Option Y) (xs : List X) (i : ℕ) (x : X) (y : Y) (ys new all : List Y) → ys ++ filter_map f (drop i xs) ≡ all → Some x ≡ slice_get xs i → f x ≡ Some y → new ≡ ys ++ y ∷ [] → new ++ filter_map f (drop (i + 1) xs) ≡ all
chosen f xs i x y ys new all left is there pushed =
    rw pushed (append_assoc ys (y ∷ []) (filter_map f (drop (i + 1) xs)) ∙ (rw (left_at xs i x is, there) at left))

pub left_out : {X Y : Type 0} (f : X → Option Y) (xs : List X) (i : ℕ) (x : X) (ys all : List Y) → ys ++ filter_map f (drop i xs) ≡ all → Some x ≡ slice_get xs i → f x ≡ None → ys ++ filter_map f (drop (i + 1) xs) ≡ all
left_out f xs i x ys all left is none = rw (left_at xs i x is, none) at left
