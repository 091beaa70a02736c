use Rattle.std.proofs.Common.{arith, subst, sym, ◌∙◌, ap}
use Rattle.std.proofs.lemmas.List.{take_all}
use Rattle.std.specs.Option.{option_map}
use Rattle.object_file.specs.Named.{last_symbol, number_under}
use Rattle.object_file.proofs.Last.{symbol_more, symbol_without}
use Rattle.object_file.proofs.Numbers.{HasNumbers, one_entered}
use Rattle.object_file.proofs.offsets.offsets.Goals as goal
use Rattle.object_file.proofs.offsets.offsets.Goals.{then-has_offset+in_ok-insert, else-has_offset}

pub loop-symbol-preserved : goal.loop-symbol-preserved
loop-symbol-preserved c =
    record {
      at = λ q.
          elim c.if-has_offset.branch [
            | then-has_offset+in_ok-insert w ↦
                ap (λ m. number_under m.entries q) w.offsets-is
                ∙ symbol_more c.args.symbols.now c.loop-symbol.symbol-index c.symbol-item.result w.name.result.now q w.address.result _ _ c.loop-symbol-test.true c.symbol-item.is (sym c.has_offset.ensures ∙ w.if-has_offset.true) w.name.ensures (w.address.ensures ∙ ap (λ s. s.address) w.view.ensures) (c.loop-symbol.invariant.at q) (one_entered _ _ w.name.result.now q w.address.result (w.in_ok-insert.ensures.updates.0 (record w.name.result { now = q })))
            | else-has_offset w ↦
                ap (λ m. number_under m.entries q) w.offsets-is
                ∙ symbol_without c.args.symbols.now c.loop-symbol.symbol-index c.symbol-item.result q _ c.loop-symbol-test.true c.symbol-item.is (sym c.has_offset.ensures ∙ w.if-has_offset.false) (c.loop-symbol.invariant.at q)
          ];
    }

pub returns : goal.returns
returns c =
    record { at = (subst (λ xs. HasNumbers (λ q. option_map (λ s. s.address) (last_symbol xs q)) c.loop-symbol.offsets.entries) (take_all c.loop-symbol.symbol-index c.args.symbols.now (omega arith)) c.loop-symbol.invariant).at }
