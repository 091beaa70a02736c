use Rattle.std.proofs.Common.{rules, arith, ◌≡◌, ◌∷◌, ◌++◌, [], List, ap, subst, sym, ◌∙◌}
use Rattle.std.proofs.lemmas.Grind.{common_steps}
use Rattle.std.specs.Option.{option_copied}
use Rattle.std.specs.Vec.Iter.{into_iter_items}
use Rattle.elf64.specs.Sections.{Section}
use Rattle.object_file.specs.Reading.{read_sections}
use Rattle.object_contents.proofs.NoPrograms.{none_lacks}
use Rattle.object_contents.proofs.Sections.{none_left, none_read, one_more}
use Rattle.object_contents.specs.Contents.{AreContentsOf}
use Rattle.object_contents.proofs.contents.read_sections.Goals as goal

pub loop-view-init : goal.loop-view-init
loop-view-init c =
    let file = c.args.file.now in
    let table = option_copied c.args.table in
    let extension = option_copied c.args.extension in
    let contents = c.new-contents.result in
    let is = c.new-contents.ensures in
    let all : into_iter_items c.into_iter-view-iterator.result ≡ read_sections file = search rules in
    record {
      all = ap (λ (xs : List Section). xs ++ into_iter_items c.into_iter-view-iterator.result) is.sections ∙ all;
      are =
          subst (λ (xs : List Section). AreContentsOf file table extension xs contents) (sym is.sections)
          (none_read file table extension contents is.sections is.programs is.functions (none_lacks contents.code.programs contents.code.functions is.programs) is.maps);
    }

pub loop-view-preserved : goal.loop-view-preserved
loop-view-preserved c =
    let file = c.args.file.now in
    let table = option_copied c.args.table in
    let extension = option_copied c.args.extension in
    let done = c.loop-view.contents.sections.items in
    let rest = into_iter_items c.next.new.self in
    let new = c.read_section.new.self in
    let all : done ++ c.in-Some.view ∷ rest ≡ read_sections file = ap (λ (xs : List Section). done ++ xs) (sym c.in-Some.ensures.steps.0) ∙ c.loop-view.invariant.all in
    let are = c.in_ok-read_section.ensures.read done c.loop-view.invariant.are in
    record {
      all = one_more (read_sections file) done rest new.sections.items c.in-Some.view are.read all;
      are = subst (λ (xs : List Section). AreContentsOf file table extension xs new) (sym are.read) are;
    }

pub returns-clause-value : goal.returns-clause-value
returns-clause-value c =
    let none : into_iter_items c.loop-view.view-iterator ≡ [] = grind (arith, common_steps) in
    subst (λ (xs : List Section). AreContentsOf c.args.file.now (option_copied c.args.table) (option_copied c.args.extension) xs c.loop-view.contents)
    (none_left (read_sections c.args.file.now) c.loop-view.contents.sections.items (into_iter_items c.loop-view.view-iterator) none c.loop-view.invariant.all)
    c.loop-view.invariant.are
