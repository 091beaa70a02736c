use Rattle.std.proofs.Common.{◌≡◌, ◌+◌, ◌++◌, ◌∷◌, [], sym, ap, ◌∙◌, take, Some, false, ◌==◌}
use Rattle.std.specs.Prelude.{slice_get}
use Rattle.std.specs.Option.{option_map_or}
use Rattle.std.proofs.lemmas.List.{take_more}
use Rattle.std.proofs.lemmas.Option.{slice_get-get_or}
use Rattle.slot_relocation.specs.Maps.{is_of_section, is_of_symbol}
use Rattle.slot_relocation.proofs.Indexes.{passed, placed}
use Rattle.slot_relocation.proofs.map_index.MapIndex.new.Goals as goal
use Rattle.slot_relocation.proofs.map_index.MapIndex.new.Goals.{in-Some+in_ok-insert, in_default}

pub loop-place-preserved : goal.loop-place-preserved
loop-place-preserved c =
    let all = c.args.maps.now in
    let i = c.loop-place.place in
    let m = c.index-maps-place.result in
    let split = take_more all i m c.loop-place-test.true ∙ ap (λ x. take i all ++ (x ∷ [])) (sym c.index-maps-place.is) in
    let at : slice_get all i ≡ Some m = slice_get-get_or all i m c.loop-place-test.true ∙ ap Some (sym c.index-maps-place.is) in
    let symbol_is = sym (c.symbol_index.ensures ∙ ap (λ g. g.map.symbol_index) c.numbered.view_is) in
    let section_is = sym (c.section_index.ensures ∙ ap (λ g. g.map.section_index) c.numbered.view_is) in
    record {
      symbol = elim c.match-symbol_index.branch [
        | in-Some+in_ok-insert w ↦ rw w.by_symbol-is (placed is_of_symbol all (take i all) (take (i + 1) all) i w.in-Some.index m c.loop-place.by_symbol w.insert.new.self split at (λ q. ap (λ o. option_map_or (λ i. i == q) o false) (symbol_is ∙ w.in-Some.is)) (λ q. w.in_ok-insert.ensures.updates.0 q) c.loop-place.invariant.symbol)
        | in_default w ↦ rw w.by_symbol-is (passed is_of_symbol all (take i all) (take (i + 1) all) m c.loop-place.by_symbol split (λ q. ap (λ o. option_map_or (λ i. i == q) o false) (symbol_is ∙ w.in_default.is)) c.loop-place.invariant.symbol)
      ];
      section = placed is_of_section all (take i all) (take (i + 1) all) i c.section_index.result m c.loop-place.by_section c.insert-in-loop-place.new.self split at (λ q. ap (λ n. n == q) section_is) (λ q. c.in_ok-insert-2.ensures.updates.0 q) c.loop-place.invariant.section;
    }
