use Rattle.plan_laws.proofs.Determining.{unchanged}
use Rattle.plan_laws.proofs.determined.features_leave_slots_and_maps.Goals as goal

pub returns : goal.returns
returns c = unchanged c.layout_is_unique.ensures
