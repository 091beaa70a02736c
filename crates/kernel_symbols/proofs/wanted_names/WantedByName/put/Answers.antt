use Rattle.std.proofs.Common.{Some, ap, cond, rules, ◌∙◌}
use Rattle.std.specs.Str.{bytes_eq}
use Rattle.string_table.specs.Names.{by_bytes}
use Rattle.kernel_symbols.specs.Wanted.{under}
use Rattle.kernel_symbols.proofs.WantedValues.{found, none_put, written}
use Rattle.kernel_symbols.proofs.WantedLemmas.{marked_still, put_under}
use Rattle.kernel_symbols.proofs.wanted_names.WantedByName.put.Goals as goal
use Rattle.kernel_symbols.proofs.wanted_names.WantedByName.put.Goals.{in-Some, in_default}

pub invariant_of-self : goal.invariant_of-self
invariant_of-self c = elim c.match-get_mut.branch [
  | in-Some w ↦ rw w.self-inside-is (marked_still c.args.name.now w.in-Some.wanted.now w.put.new.wanted (by_bytes c.self.inside.by_name.entries) _ c.self.inside.is_wanted (w.in-Some.ensures.value ∙ found c.args.name.now c.self.inside.by_name.entries)
      (λ other. written c.args.name.now other c.self.inside.by_name (c.get_mut.follows.lender w.put.new.wanted) (Some w.put.new.wanted) ((c.get_mut.follows.holds w.put.new.wanted).3 (search rules))) c.self.invariant)
  | in_default w ↦ rw (w.self-inside-is, c.get_mut.follows.holds-at-none) c.self.invariant
]

pub returns : goal.returns
returns c = λ other. elim c.match-get_mut.branch [
  | in-Some w ↦ rw (w.self-inside-is, ← c.self.view_is) (put_under c.args.name.now other c.args.address w.in-Some.wanted.now (by_bytes c.self.inside.by_name.entries) _ (w.in-Some.ensures.value ∙ found c.args.name.now c.self.inside.by_name.entries)
      (written c.args.name.now other c.self.inside.by_name (c.get_mut.follows.lender w.put.new.wanted) (Some w.put.new.wanted) ((c.get_mut.follows.holds w.put.new.wanted).3 (search rules))
      ∙ ap (λ x. cond (bytes_eq c.args.name.now other) (Some x) (under (by_bytes c.self.inside.by_name.entries) other)) w.put.ensures))
  | in_default w ↦ rw (w.self-inside-is, c.get_mut.follows.holds-at-none, ← c.self.view_is) (none_put c.args.name.now other c.args.address (by_bytes c.self.inside.by_name.entries) (w.in_default.ensures.value ∙ found c.args.name.now c.self.inside.by_name.entries))
]
