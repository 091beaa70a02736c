use Rattle.btf_rewrite.proofs.Sanitized.{short_step}
use Rattle.btf_rewrite.proofs.rewriting.with_ksyms.Goals as goal

pub with_records-requires : goal.with_records-requires
with_records-requires c = rw (c.as_slice.ensures.value, c.in_ok-step.ensures.texts, c.records-types.ensures, c.strings-strings.ensures.strings) (rw (c.records-types.ensures, c.strings-strings.ensures.strings) at (short_step _ _ c.in_ok-step.ensures.accepted))
