use Rattle.std.proofs.Common.{ℕ, [], ◌∷◌, ◌*◌, drop, refl, arith, add-one, ◌∙◌, ap, length-append}
use Rattle.std.proofs.lemmas.List.{drop-drop}
use Rattle.btf_encoding.proofs.InBytes.{items_in-suc}
use Rattle.btf_encoding.proofs.reading.items.Goals as goal

pub loop-preserved : goal.loop-preserved
loop-preserved g c = record {
  read = rw (add-one, items_in-suc, ← c.loop.invariant.read, ← c.loop.invariant.left, c.in_ok-push.ensures.ok, c.read.ensures) refl;
  left =
      rw (c.after-rest-in-loop.ensures.value, c.SIZE.ensures, c.loop.invariant.left)
      (drop-drop g.T.Item.SIZE (g.T.Item.SIZE * c.loop.counter) (drop 12 c.args.bytes.now) ∙ ap (λ (k : ℕ). drop k (drop 12 c.args.bytes.now)) (omega arith));
  counted = rw c.in_ok-push.ensures.ok (omega (arith, length-append c.loop.items (c.read.result ∷ []), c.loop.invariant.counted));
  bounded = omega arith;
}
