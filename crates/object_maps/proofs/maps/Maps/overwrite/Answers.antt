use Rattle.std.proofs.Common.{None, Some, length, subst, sym, ap, ◌∙◌}
use Rattle.object_maps.specs.Maps.{shown}
use Rattle.object_maps.specs.Overwritten.{HasRange}
use Rattle.object_maps.proofs.Overwriting.{has_range, overwritten_shown}
use Rattle.object_maps.proofs.maps.Maps.overwrite.Goals as goal
use Rattle.object_maps.proofs.maps.Maps.overwrite.Goals.{in-Some, in_default}

pub overwrite-requires : goal.overwrite-requires
overwrite-requires c =
    has_range c.args.name.now c.args.start (length c.args.bytes.now) c.self.inside.by_name.entries (Some c.in-Some.map.now) c.in-Some.ensures.value
    (subst (λ ms. HasRange ms c.args.name.now c.args.start (length c.args.bytes.now)) (sym c.self.view_is) c.requires)

pub returns : goal.returns
returns c = elim c.match-get_mut.branch [
  | in-Some w ↦ rw (w.self-inside-is, ← c.self.view_is) (ap shown (c.get_mut.follows.holds w.overwrite.new.map).0 ∙ overwritten_shown c.args.name.now c.args.start c.args.bytes.now w.in-Some.map.now w.overwrite.new.map w.overwrite.ensures c.self.inside.by_name.entries w.in-Some.ensures.ordered (sym w.in-Some.ensures.value))
  | in_default w ↦ absurd (has_range c.args.name.now c.args.start (length c.args.bytes.now) c.self.inside.by_name.entries None w.in_default.ensures.value
      (subst (λ ms. HasRange ms c.args.name.now c.args.start (length c.args.bytes.now)) (sym c.self.view_is) c.requires))
]
