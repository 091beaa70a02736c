use Rattle.std.proofs.Common.{◌≤◌, arith}
use Rattle.ebpf_items.specs.declared.maps.PinningType.{PinningType}
use Rattle.ebpf_items.specs.declared.maps.PinningType.TheVariants as pinning
use Rattle.plan_lines.specs.Lines.{pinning_number}
use Rattle.plan_lines.proofs.limits.words_fit.Goals as goal

few : (p : PinningType) → pinning_number p ≤ 1
few pinning.None = omega arith
few pinning.ByName = omega arith

pub returns : goal.returns
returns c =
    (omega arith, (omega arith, (omega arith, (omega arith, (omega arith, (omega arith, (few c.args.words.pinning, (omega arith, (omega arith, (omega arith, tt))))))))))
