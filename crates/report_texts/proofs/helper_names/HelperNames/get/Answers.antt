use Rattle.std.proofs.Common.{◌≡◌, ◌∙◌, ℤ, ap, to_z, of_z}
use Rattle.std.proofs.lemmas.Int.{to_z-of_z}
use Rattle.std.specs.Int.{w32}
use Rattle.std.specs.Option.{option_map}
use Rattle.std.specs.String.{string_bytes}
use Rattle.report_texts.specs.Helpers.{name_of}
use Rattle.report_texts.proofs.helper_names.HelperNames.get.Goals as goal

pub returns-in-Some : goal.returns-in-Some
returns-in-Some c =
    let same : to_z w32 (of_z w32 c.args.number) ≡ c.args.number = to_z-of_z w32 c.args.number c.ranges.number in
    rw c.as_str.ensures.value (ap (option_map string_bytes) c.in-Some.ensures.value ∙ ap (λ (n : ℤ). name_of c.args.self.now n) same)

pub returns-in-None : goal.returns-in-None
returns-in-None c =
    let same : to_z w32 (of_z w32 c.args.number) ≡ c.args.number = to_z-of_z w32 c.args.number c.ranges.number in
    ap (option_map string_bytes) c.in-None.ensures.value ∙ ap (λ (n : ℤ). name_of c.args.self.now n) same
