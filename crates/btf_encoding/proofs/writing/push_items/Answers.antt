use Rattle.std.proofs.Common.{◌≡◌, ℕ, ◌+◌, ◌<◌, ◌^◌, ◌++◌, take, append_assoc}
use Rattle.std.specs.List.{flat_map}
use Rattle.std.proofs.lemmas.Grind.{flat_map-append}
use Rattle.std.proofs.lemmas.List.Elements.{All-append}
use Rattle.btf_encoding.proofs.Written.{flat_map-take_more, kept, on_err}
use Rattle.btf_encoding.proofs.writing.push_items.Goals as goal

pub returns-in_err-write-clause-err : goal.returns-in_err-write-clause-err
returns-in_err-write-clause-err g c = on_err _ _ (kept _ _ _ _ c.loop-item.invariant.written c.in_err-write.ensures.err)

pub loop-item-preserved : goal.loop-item-preserved
loop-item-preserved g c =
    let more : flat_map g.T.Item.words (take (c.loop-item.item-index + 1) c.args.items.now) ≡ flat_map g.T.Item.words (take c.loop-item.item-index c.args.items.now) ++ g.T.Item.words c.item-item.result = flat_map-take_more g.T.Item.words c.args.items.now c.loop-item.item-index c.item-item.result c.loop-item-test.true c.item-item.is in
    record {
      written = rw (more, flat_map-append, ← append_assoc, ← c.loop-item.invariant.written) c.in_ok-write.ensures.ok;
      fits = rw more (All-append (λ (w : ℕ). w < 2 ^ 32) _ _ c.loop-item.invariant.fits c.in_ok-write.ensures.fits);
    }
