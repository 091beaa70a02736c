use Rattle.std.proofs.Common.{◌≡◌, ap, ◌∙◌, arith, suc}
use Rattle.std.specs.Prelude.{slice_get}
use Rattle.object_file.proofs.Indexes.{no_symbol_0, place_of_index}
use Rattle.object_file.proofs.file.ObjectFile.symbol_at.Goals as goal

pub returns-in_err-place : goal.returns-in_err-place
returns-in_err-place c = rw c.from_residual.ensures (no_symbol_0 c.args.self.now c.args.index c.in_err-place.ensures)

pub returns : goal.returns
returns c =
    let after = c.in_ok-place.ensures in
    let index : suc c.in_ok-place.place ≡ c.args.index = omega (arith, after.0, after.1) in
    c.symbol_of_place.ensures ∙ ap (λ symbols. slice_get symbols c.in_ok-place.place) c.symbols.ensures.value ∙ place_of_index c.args.self.now c.in_ok-place.place c.args.index index
