use Rattle.std.proofs.Common.{◌-◌, [], length, take}
use Rattle.btf_sanitize.specs.Answers.{AreDistinct, AreGiven, features}
use Rattle.btf_sanitize.specs.Needs.{AreQuestionsSoFar}
use Rattle.btf_sanitize.proofs.answers.ask_all.Given as goal

abbrev pub invariant-loop-t : goal.invariant-loop-t
invariant-loop-t g l =
    goal.F-IsAlwaysCallable g l.predicate
    × AreDistinct (features l.answers.items)
    × AreGiven g.F.FnMut l.fn.predicate [] l.answers.items l.predicate
    × AreQuestionsSoFar l.strings (take l.index l.types.types) l.answers.items

abbrev pub decreases-loop-t : goal.decreases-loop-t
decreases-loop-t g l = length l.types.types - l.index
