use Rattle.std.proofs.Common.{ap, lit<, sym, ◌∙◌}
use Rattle.btf_sanitize.specs.Answers.{Answers}
use Rattle.plan_text.proofs.Room.{room_for_one}
use Rattle.plan_text.specs.Machine.{is_asked}
use Rattle.plan_text.proofs.reading.Reader.feature.Goals as goal

pub push-requires : goal.push-requires
push-requires c = (
  lit< tt,
  room_for_one c.args.self.now.features.items c.args.feature c.requires
      (ap (λ (xs : Answers). is_asked xs c.args.feature) (sym c.as_slice.ensures.value) ∙ (sym c.is_asked.ensures ∙ c.if-is_asked.false)),
)
