use Rattle.std.proofs.Common.{◌∷◌, ap, sym, ◌∙◌}
use Rattle.std.specs.Option.{option_copied}
use Rattle.std.specs.Vec.Iter.{into_iter_items}
use Rattle.elf64.specs.Sections.{Section}
use Rattle.object_parse.proofs.LackingCode.{found_here, found_later}
use Rattle.object_parse.specs.LackingCode.{place_without_code}
use Rattle.object_parse.proofs.lacking_code.function_without_code.Goals as goal

pub returns-in-Some-function_without_code_in : goal.returns-in-Some-function_without_code_in
returns-in-Some-function_without_code_in c =
    found_here c.args.file.now (into_iter_items c.loop-view.view-iterator) (into_iter_items c.next.new.self) c.in-Ok.section (place_without_code c.args.file.now)
    (c.in-Some.ensures.steps.0 ∙ ap (λ (v : Section). v ∷ into_iter_items c.next.new.self) (sym c.in-Ok.ensures.value)) c.loop-view.invariant c.in-Some-function_without_code_in.symbol.now _ _ _
    (sym c.function_without_code_in.ensures ∙ ap option_copied c.in-Some-function_without_code_in.is) c.index.ensures c.name.ensures c.name-in-Some-function_without_code_in.ensures

pub loop-view-preserved : goal.loop-view-preserved
loop-view-preserved c =
    found_later c.args.file.now (into_iter_items c.loop-view.view-iterator) (into_iter_items c.next.new.self) c.in-Ok.section (place_without_code c.args.file.now)
    (c.in-Some.ensures.steps.0 ∙ ap (λ (v : Section). v ∷ into_iter_items c.next.new.self) (sym c.in-Ok.ensures.value)) c.loop-view.invariant
    (sym c.function_without_code_in.ensures ∙ ap option_copied c.in_default-function_without_code_in.is)
