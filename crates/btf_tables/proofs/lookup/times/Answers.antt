use Rattle.std.proofs.Common.{◌*◌, ◌<◌, ◌^◌, arith}
use Rattle.std.proofs.lemmas.Nat.{mul-lt}
use Rattle.btf_tables.proofs.lookup.times.Goals as goal

pub overflow_mul-result : goal.overflow_mul-result
overflow_mul-result c =
    let bound : c.from.result * c.from-2.result < 2 ^ 32 * 2 ^ 32 = mul-lt _ _ (2 ^ 32) (2 ^ 32) (omega arith) (omega arith) in
    omega arith
