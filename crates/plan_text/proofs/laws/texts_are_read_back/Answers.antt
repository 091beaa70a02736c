use Rattle.plan_text.proofs.OwnText.{read_back}
use Rattle.plan_text.proofs.laws.texts_are_read_back.Goals as goal

pub returns : goal.returns
returns c = read_back c.lines_are_unbroken.ensures c.lines_are_told_apart.ensures c.args.plan.now c.fits.ensures
