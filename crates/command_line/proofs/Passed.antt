-- An error that is passed on.
use Rattle.std.proofs.Common.{◌≡◌, Ok, Err, Result, subst, sym}
use Rattle.std.specs.Prelude.{IfErr, IsErrAnd}

pub passed_on : {T E : Type 0} (result : Result T E) (e : E) (P : E → Type 0) → IsErrAnd result (λ f. f ≡ e) → P e → IfErr result P
passed_on (Ok value) e P h p = tt
passed_on (Err f) e P h p = subst P (sym h) p
