use Rattle.std.proofs.Common.{List, ap, map, subst, sym, ◌∙◌}
use Rattle.core_resolve.specs.FoundPaths.{ArePathsOf, match_from}
use Rattle.core_resolve.specs.RelocationOutcomes.{Matched}
use Rattle.core_resolve.specs.declared.paths.FoundPath.{FoundPath}
use Rattle.core_resolve.proofs.FoundPaths.{matches_are, paths_here, paths_more, paths_refused, paths_there}
use Rattle.core_resolve.proofs.matcher.TypeMatcher.part_matches.Goals as goal

pub returns-in-Some-clause-value : goal.returns-in-Some-clause-value
returns-in-Some-clause-value c =
    let m = c.args.self.now in
    let r = c.args.relocation in
    let path = c.args.path.now in
    let paths = c.in-Some.paths.now in
    matches_are r.kind m.local path m.targets c.self.inside.targets.now paths _ c.requires.part (paths_there m.local m.targets r path paths c.requires.path c.in-Some.ensures) (ap (λ (t : Matched). t.targets) c.self.view_is) c.in_ok-matches.ensures

pub returns-in_err-paths-clause-refused : goal.returns-in_err-paths-clause-refused
returns-in_err-paths-clause-refused c =
    paths_refused c.args.relocation.kind c.args.self.now.local c.args.path.now c.args.self.now.targets _ _ c.requires.part c.in_err-paths.ensures.refused c.from_residual-in_err-paths.ensures.1

pub invariant_of-self-2 : goal.invariant_of-self-2
invariant_of-self-2 c =
    let m = c.args.self.now in
    let r = c.args.relocation in
    let here = paths_here m.local m.targets r c.args.path.now c.in_ok-paths.paths.items c.requires.path c.in_ok-paths.ensures.value in
    let inside = subst (λ (t : Matched). ArePathsOf t.local t.targets r c.in_ok-paths.paths.items) (sym c.self.view_is) here in
    let known = paths_more _ c.self.inside.paths.entries _ (record { relocation = r; paths = c.in_ok-paths.paths }) c.self.inside.local.now c.self.inside.targets.now c.self.invariant.2 inside in
    (c.self.invariant.0, c.self.invariant.1, rw c.in_ok-insert.ensures.entries known)

pub returns-clause-value : goal.returns-clause-value
returns-clause-value c =
    let m = c.args.self.now in
    let r = c.args.relocation in
    let are = c.in_ok-matches-2.ensures ∙ ap (λ (ps : List FoundPath). map (match_from r.kind c.self.inside.targets.now) ps) c.as_slice.ensures.value in
    matches_are r.kind m.local c.args.path.now m.targets c.self.inside.targets.now c.in_ok-paths.paths.items _ c.requires.part c.in_ok-paths.ensures.value (ap (λ (t : Matched). t.targets) c.self.view_is) are
