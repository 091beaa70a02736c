use Rattle.std.proofs.Common.{ap}
use Rattle.std.proofs.lemmas.Map.Entries.{entries_from_clone}
use Rattle.object_parts.specs.Names.{by_bytes}
use Rattle.object_parts.proofs.by_name.Programs.try_clone.Goals as goal

pub returns : goal.returns
returns c = rw (← c.self.view_is) (ap by_bytes (entries_from_clone _ _ (λ x y same. same) (λ v w same. same) c.self.inside.entries.entries c.in_ok-clone.field-0.entries c.in_ok-clone.ensures.cases))
