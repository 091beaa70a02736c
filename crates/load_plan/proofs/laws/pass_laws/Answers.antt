use Rattle.load_plan.proofs.laws.pass_laws.Goals as goal

pub returns : goal.returns
returns c = record {
  types = c.types_are_written.ensures;
  written = c.numbers_are_written.ensures;
  externs = c.externs_are_written.ensures;
  copies = c.slots_are_copied.ensures;
  reach = c.reached_are_appended.ensures;
  renamed = c.renamed_visits_same.ensures;
  records = c.records_name.ensures;
  carry = c.names_are_carried.ensures;
  rest = c.relocations_rest.ensures;
}
