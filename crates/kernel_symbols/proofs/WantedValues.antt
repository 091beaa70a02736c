-- The value that is written under a name.
use Rattle.std.proofs.Common.{◌≡◌, ℕ, Bool, true, false, cond, List, [], ◌∷◌, Option, Some, None, refl, ap, sym, ◌∙◌}
use Rattle.std.specs.Prelude.{bytes_eq}
use Rattle.std.specs.Borrow.{Bor}
use Rattle.std.specs.BTreeMap.{BTreeMap, UpdatesBy, is_at}
use Rattle.std.specs.Cmp.Lexicographic.{same_text, slice_cmp}
use Rattle.std.specs.Map.{lookup}
use Rattle.std.specs.Ordering.{is_eq, nat_cmp}
use Rattle.std.proofs.lemmas.Map.Text.{btree_map_updates_str}
use Rattle.string_table.specs.Names.{by_bytes}
use Rattle.kernel_symbols.specs.Wanted.{under, with_address}
use Rattle.kernel_symbols.specs.declared.wanted.Wanted.{Wanted}

either : (test : Bool) (value : Wanted) (a b : Option Wanted) → a ≡ b → cond test (Some value) a ≡ cond test (Some value) b
either true value a b same = refl
either false value a b same = same

-- A look-up of a name, by its bytes.
pub found : (name : List ℕ) (entries : List (Bor (List ℕ) × Wanted)) → lookup (is_at (λ key. slice_cmp nat_cmp name key.now)) entries ≡ under (by_bytes entries) name
found name [] = refl
found name (e ∷ es) = either (is_eq (slice_cmp nat_cmp name e.0.now)) e.1 _ _ (found name es)

-- The values of all names after a change under one name.
pub written : (name other : List ℕ) (old new : BTreeMap (Bor (List ℕ)) Wanted) (w : Option Wanted) → UpdatesBy (λ x y. slice_cmp nat_cmp x.now y.now) (λ k. slice_cmp nat_cmp name k.now) old new w → under (by_bytes new.entries) other ≡ cond (bytes_eq name other) w (under (by_bytes old.entries) other)
written name other old new w updates =
    sym (found other new.entries)
    ∙ btree_map_updates_str name old new w updates other
    ∙ ap (cond (bytes_eq name other) w) (found other old.entries)

put-by : (b : Bool) (address : Option ℕ) (here other : Option Wanted) → here ≡ None → (b ≡ true → other ≡ None) → other ≡ cond b (with_address address here) other
put-by true address None other none same = same refl
put-by true address (Some x) other none same = absurd cc
put-by false address here other none same = refl

-- A name that isn't wanted leaves the entries as they are.
pub none_put : (name other : List ℕ) (address : Option ℕ) (entries : List (List ℕ × Wanted)) → None ≡ under entries name → under entries other ≡ cond (bytes_eq name other) (with_address address (under entries name)) (under entries other)
none_put name other address entries none = put-by (bytes_eq name other) address (under entries name) (under entries other) (sym none) (λ same. ap (under entries) (sym (same_text name other (sym same))) ∙ sym none)
