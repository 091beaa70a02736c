use Rattle.btf_compatibility.proofs.LocalsAgreed.{comparisons_rest}
use Rattle.btf_compatibility.proofs.laws.comparisons_rest.Goals as goal

pub returns : goal.returns
returns c = comparisons_rest
