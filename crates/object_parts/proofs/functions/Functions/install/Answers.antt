use Rattle.std.proofs.Common.{◌++◌, ◌∷◌, [], sym, ap, ◌∙◌, append_assoc, append-nil}
use Rattle.object_parts.proofs.Installs.{none_installed, one_installed, popped_there}
use Rattle.object_parts.proofs.functions.Functions.install.Goals as goal

pub loop-function-init : goal.loop-function-init
loop-function-init c = ([], (append-nil c.args.list.items, none_installed c.args.self.now))

pub replace-requires : goal.replace-requires
replace-requires c =
    popped_there c.args.self.now c.loop-function.self c.args.list.items c.loop-function.rest.items c.pop.new.self.items c.in-Some.function c.loop-function.invariant.0 c.requires c.loop-function.invariant.1.0 c.in-Some.ensures.items c.loop-function.invariant.1.1

pub loop-function-preserved : goal.loop-function-preserved
loop-function-preserved c =
    let done = c.loop-function.invariant.0 in
    (c.in-Some.function ∷ done, (sym (append_assoc c.pop.new.self.items (c.in-Some.function ∷ []) done) ∙ ap (λ l. l ++ done) (sym c.in-Some.ensures.items) ∙ c.loop-function.invariant.1.0, one_installed c.args.self.now c.loop-function.self c.replace.new.self c.in-Some.function done c.loop-function.invariant.1.1 c.replace.ensures))
