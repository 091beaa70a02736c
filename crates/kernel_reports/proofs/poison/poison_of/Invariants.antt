use Rattle.std.proofs.Common.{◌≡◌, ◌++◌, zip}
use Rattle.std.specs.Iterator.Adapters.{zip_first, zip_second}
use Rattle.std.specs.List.{flat_map}
use Rattle.std.specs.Slice.Iter.{iter_rest}
use Rattle.kernel_reports.specs.Poison.{poison_in, poison_of}
use Rattle.kernel_reports.proofs.poison.poison_of.Given as goal

abbrev pub invariant-loop-program : goal.invariant-loop-program
invariant-loop-program l = l.poison.items ++ flat_map (λ p. poison_in l.object p.0 p.1) (zip (iter_rest (zip_first l.program-iterator)) (iter_rest (zip_second l.program-iterator))) ≡ poison_of l.object l.plan l.report
