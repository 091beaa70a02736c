use Rattle.std.proofs.Common.{◌≡◌, ap, ◌∙◌}
use Rattle.std.specs.BTreeMap.{is_at}
use Rattle.std.specs.Map.{lookup}
use Rattle.std.specs.Ordering.{nat_cmp}
use Rattle.elf64.specs.Relocations.{relocations_of}
use Rattle.object_file.specs.Relocations.{relocations_by_offset}
use Rattle.object_file.proofs.Lookups.{last_stands}
use Rattle.object_file.proofs.file.ObjectFile.relocation_at.Goals as goal

pub returns-clause-last : goal.returns-clause-last
returns-clause-last c =
    let table : c.by_offset.result.now.entries ≡ relocations_by_offset c.self.inside.opened c.args.index = c.by_offset.ensures ∙ c.relocations.ensures.by_offset c.args.index in
    rw (← c.self.view_is) (c.get.ensures.value ∙ ap (lookup (is_at (nat_cmp c.args.offset))) table ∙ last_stands (relocations_of c.self.inside.opened c.args.index) c.args.offset)
