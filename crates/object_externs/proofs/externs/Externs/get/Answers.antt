use Rattle.std.proofs.Common.{ap, ◌∙◌}
use Rattle.std.specs.BTreeMap.{is_at}
use Rattle.std.specs.Cmp.Lexicographic.{slice_cmp}
use Rattle.std.specs.Map.{lookup}
use Rattle.std.specs.Ordering.{nat_cmp}
use Rattle.object_externs.specs.Externs.{ExternsContent}
use Rattle.object_externs.proofs.ByBytes.{value_bytes}
use Rattle.object_externs.proofs.externs.Externs.get.Goals as goal

pub returns : goal.returns
returns c =
    c.get.ensures.value
    ∙ value_bytes c.args.name.now c.self.inside.by_name.entries
    ∙ ap (λ (e : ExternsContent). lookup (is_at (slice_cmp nat_cmp c.args.name.now)) e.by_name) c.self.view_is
