use Rattle.std.proofs.Common.{ap, sym, ◌∙◌}
use Rattle.std.specs.Option.{option_map}
use Rattle.ebpf_items.specs.Maps.{map_view}
use Rattle.object_maps.proofs.Views.{copied_view, shown_at}
use Rattle.object_maps.proofs.maps.Maps.get.Goals as goal

pub returns : goal.returns
returns c = rw (← c.self.view_is) (copied_view c.get.result ∙ ap (option_map map_view) c.get.ensures.value ∙ sym (shown_at c.args.name.now c.self.inside.by_name.entries))
