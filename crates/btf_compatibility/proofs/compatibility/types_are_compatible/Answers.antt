use Rattle.std.proofs.Common.{◌≡◌, Ok, arith}
use Rattle.std.proofs.lemmas.Grind.{common_steps}
use Rattle.std.specs.Prelude.{IfOk}
use Rattle.btf_compatibility.specs.TypeCompatibility.{types_compatible}
use Rattle.btf_compatibility.proofs.Agreed.{types_rest}
use Rattle.btf_compatibility.proofs.Fuel.{boundless}
use Rattle.btf_compatibility.proofs.Exchanged.{answer-exchanged}
use Rattle.btf_compatibility.proofs.compatibility.types_are_compatible.Goals as goal

pub returns-clause-exchanged : goal.returns-clause-exchanged
returns-clause-exchanged c =
    let a = c.args in
    answer-exchanged a.local.now a.local_id a.target.now a.target_id _ c.compared.ensures.answer

pub returns-clause-rests : goal.returns-clause-rests
returns-clause-rests c = types_rest _ _ _ _

pub returns-clause-boundless : goal.returns-clause-boundless
returns-clause-boundless c = boundless _ _ _ _
