-- An entry of a map whose keys are names, by the bytes of the name.
use Rattle.std.proofs.Common.{◌≡◌, ℕ, Bool, true, false, cond, List, [], ◌∷◌, Option, Some, refl, ap, ◌∙◌}
use Rattle.std.specs.Prelude.{String, string_bytes}
use Rattle.std.specs.String.{string_cmp}
use Rattle.std.specs.declared.cmp.Ordering.{Ordering}
use Rattle.std.specs.declared.cmp.Ordering.TheVariants.{Less, Equal, Greater}
use Rattle.std.specs.Ordering.{nat_cmp, match_ordering, is_eq}
use Rattle.std.specs.Cmp.Lexicographic.{slice_cmp}
use Rattle.std.specs.BTreeMap.{insert_entry, is_at}
use Rattle.std.specs.Map.{lookup}
use Rattle.settings.specs.Names.{by_bytes}

by_bytes-match : {Y V : Type 0} (o : Ordering) (a b c : List (String Y × V)) → by_bytes (match_ordering o a b c) ≡ match_ordering o (by_bytes a) (by_bytes b) (by_bytes c)
by_bytes-match Less a b c = refl
by_bytes-match Equal a b c = refl
by_bytes-match Greater a b c = refl

pub by_bytes-insert : {Y V : Type 0} (entries : List (String Y × V)) (name : String Y) (value : V) → by_bytes (insert_entry string_cmp entries name value) ≡ insert_entry (slice_cmp nat_cmp) (by_bytes entries) (string_bytes name) value
by_bytes-insert [] name value = refl
by_bytes-insert {Y} {V} (e ∷ es) name value =
    by_bytes-match (slice_cmp nat_cmp (string_bytes name) (string_bytes e.0)) ((name, value) ∷ e ∷ es) ((e.0, value) ∷ es) (e ∷ insert_entry string_cmp es name value)
    ∙ ap (λ (rest : List (List ℕ × V)). match_ordering (slice_cmp nat_cmp (string_bytes name) (string_bytes e.0)) ((string_bytes name, value) ∷ (string_bytes e.0, e.1) ∷ by_bytes es) ((string_bytes e.0, value) ∷ by_bytes es) ((string_bytes e.0, e.1) ∷ rest)) (by_bytes-insert es name value)

chosen : {V : Type 0} (test : Bool) (v : V) (a b : Option V) → a ≡ b → cond test (Some v) a ≡ cond test (Some v) b
chosen true v a b same = refl
chosen false v a b same = same

-- The value under a name.
pub by_bytes-lookup : {Y V : Type 0} (name : List ℕ) (entries : List (String Y × V)) → lookup (is_at (λ key. slice_cmp nat_cmp name (string_bytes key))) entries ≡ lookup (is_at (slice_cmp nat_cmp name)) (by_bytes entries)
by_bytes-lookup name [] = refl
by_bytes-lookup {Y} {V} name (e ∷ es) = chosen (is_eq (slice_cmp nat_cmp name (string_bytes e.0))) e.1 (lookup (is_at (λ key. slice_cmp nat_cmp name (string_bytes key))) es) (lookup (is_at (slice_cmp nat_cmp name)) (by_bytes es)) (by_bytes-lookup name es)
