use Rattle.std.proofs.Common.{subst}
use Rattle.std.proofs.lemmas.Str.{is_utf8-from_IsUtf8}
use Rattle.plan_lines.specs.Words.{AreBytes}
use Rattle.plan_lines.proofs.limits.name_fits.Goals as goal

pub returns : goal.returns
returns c = record {
  bytes = subst AreBytes c.as_bytes.ensures.value c.bytes_fit.ensures;
  text = is_utf8-from_IsUtf8 c.args.name.now c.utf8.name;
}
