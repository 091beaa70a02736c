-- Whether some parameter passes a test, one index after another.
use Rattle.std.proofs.Common.{◌≡◌, ℕ, zero, suc, ◌+◌, ◌≤◌, Bool, true, false, List, [], ◌∷◌, drop, refl, sym, ◌∙◌, arith, length, slice_get}
use Rattle.std.specs.List.{list_any}
use Rattle.std.specs.Option.{option_map_or}
use Rattle.std.specs.Prelude.{◌||◌}
use Rattle.std.proofs.lemmas.Grind.{common_steps}
use Rattle.btf_records.specs.declared.item.BtfParam.{BtfParam}

step : (q : BtfParam → Bool) (params : List BtfParam) (index : ℕ) → list_any q (drop index params) ≡ (option_map_or q (slice_get params index) false || list_any q (drop (index + 1) params))
step q [] zero = refl
step q [] (suc index) = let same : suc index + 1 ≡ suc (index + 1) = omega arith in rw same refl
step q (t ∷ ts) zero = refl
step q (t ∷ ts) (suc index) = let same : suc index + 1 ≡ suc (index + 1) = omega arith in rw same (step q ts index)

pub here : (q : BtfParam → Bool) (params : List BtfParam) (index : ℕ) (answer : Bool) → list_any q (drop index params) ≡ answer → option_map_or q (slice_get params index) false ≡ true → true ≡ answer
here q params index answer left is = sym (step q params index ∙ rw is refl) ∙ left

pub later : (q : BtfParam → Bool) (params : List BtfParam) (index : ℕ) (answer : Bool) → list_any q (drop index params) ≡ answer → option_map_or q (slice_get params index) false ≡ false → list_any q (drop (index + 1) params) ≡ answer
later q params index answer left isnt = sym (step q params index ∙ rw isnt refl) ∙ left

pub nowhere : (q : BtfParam → Bool) (params : List BtfParam) (index : ℕ) (answer : Bool) → length params ≤ index → list_any q (drop index params) ≡ answer → false ≡ answer
nowhere q params index answer past left = let none : drop index params ≡ [] = grind (arith, common_steps) in rw none at left
