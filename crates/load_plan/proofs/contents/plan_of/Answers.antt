use Rattle.load_plan.proofs.contents.plan_of.Goals as goal

pub plan_of_parts-requires : goal.plan_of_parts-requires
plan_of_parts-requires c = record {
  license = c.license.ensures.text;
  version = c.kernel_version.ensures.known;
  features = c.requires.answers;
  type_bytes = c.in_ok-type_bytes.ensures.some;
  maps = c.requires.maps;
  map_names = c.requires.rising;
  programs = c.in_ok-programs.ensures.sound;
  program_names = c.in_ok-programs.ensures.rising;
}
