use Rattle.std.proofs.Common.{◌≡◌, ℕ, ◌+◌, ◌-◌, ◌≤◌, Bool, true, false, ltb, List, get_or, take, drop, filter, arith, rules, ap, ◌∙◌}
use Rattle.std.specs.List.Sorted.{IsNonDecreasingBy, IsPartitionPoint}
use Rattle.std.proofs.lemmas.Bool.Decides.{nat_tests}
use Rattle.std.proofs.lemmas.List.{get_or-drop, length-drop}
use Rattle.std.proofs.lemmas.List.Sorted.{IsNonDecreasingBy-drop, IsPartitionPoint-from_clause, IsPartitionedBy-ltb}
use Rattle.object_parse.specs.Kept.{is_within}
use Rattle.object_parse.specs.declared.slot_index.IndexedSlot.{IndexedSlot}
use Rattle.object_parse.proofs.Stretches.{kept_stretch}
use Rattle.object_parse.proofs.slot_index.stretch.Goals as goal

later : (from : ℕ) (places : List IndexedSlot) → IsNonDecreasingBy (λ p. p.slot) places → IsNonDecreasingBy (λ p. p.slot - from) places
later from places h = λ i j d le l. omega (arith, h i j d le l)

below : (from many slot : ℕ) → ltb slot from ≡ true → is_within from many slot ≡ false
below from many slot h = grind (arith, nat_tests)

inside : (from many slot : ℕ) → ltb slot from ≡ false → ltb (slot - from) many ≡ true → is_within from many slot ≡ true
inside from many slot h l = grind (arith, nat_tests)

after : (from many slot : ℕ) → ltb (slot - from) many ≡ false → is_within from many slot ≡ false
after from many slot h = grind (arith, nat_tests)

-- A property of the rest of a list after an index.
at_place : {X : Type 0} (p : X → Bool) (b : Bool) (places : List X) (begin k : ℕ) (d : X) → begin ≤ k → p (get_or (drop begin places) (k - begin) d) ≡ b → p (get_or places k d) ≡ b
at_place p b places begin k d h e =
    let same : begin + (k - begin) ≡ k = omega arith in
    rw same at (rw get_or-drop at e)

stretch_by : (from many begin len : ℕ) (places : List IndexedSlot) → IsPartitionPoint (λ p. ltb p.slot from ≡ true) (λ p. ltb p.slot from ≡ false) places begin → IsPartitionPoint (λ p. ltb (p.slot - from) many ≡ true) (λ p. ltb (p.slot - from) many ≡ false) (drop begin places) len → take len (drop begin places) ≡ filter (λ p. is_within from many p.slot) places
stretch_by from many begin len places first second =
    kept_stretch (λ p. is_within from many p.slot) places begin len
    (λ k d h l. below from many (get_or places k d).slot (first.0 k d (omega arith) h))
    (λ k d h m l. inside from many (get_or places k d).slot (first.1 k d h l) (at_place (λ p. ltb (p.slot - from) many) true places begin k d h (second.0 (k - begin) d (omega arith) (omega arith))))
    (λ k d h l. after from many (get_or places k d).slot (at_place (λ p. ltb (p.slot - from) many) false places begin k d (omega arith) (second.1 (k - begin) d (omega arith) (omega (arith, length-drop begin places)))))

pub returns : goal.returns
returns c =
    let begin = IsPartitionPoint-from_clause (λ p. ltb p.slot c.args.from) _ _ c.partition_point-begin.ensures.partitioned (IsPartitionedBy-ltb (λ p. p.slot) _ c.args.from c.requires) (λ a r q k. search rules) in
    let rest : IsNonDecreasingBy (λ p. p.slot) c.split_at.result.1.now = rw c.split_at.ensures.back (IsNonDecreasingBy-drop (λ p. p.slot) _ _ c.requires) in
    let len = IsPartitionPoint-from_clause (λ p. ltb (p.slot - c.args.from) c.args.count) _ _ c.partition_point-len.ensures.partitioned (IsPartitionedBy-ltb (λ p. p.slot - c.args.from) _ c.args.count (later _ _ rest)) (λ a r q k. search rules) in
    c.split_at-2.ensures.front ∙ ap (take c.partition_point-len.result) c.split_at.ensures.back ∙ stretch_by c.args.from c.args.count c.partition_point-begin.result c.partition_point-len.result c.args.places.now begin (rw c.split_at.ensures.back at len)
