use Rattle.std.proofs.Common.{append-nil, append_assoc}
use Rattle.btf_tables.proofs.section.push_header.Goals as goal

pub returns-clause-written : goal.returns-clause-written
returns-clause-written c =
    rw (c.in_ok-push_word-5.ensures.ok, c.in_ok-push_word-4.ensures.ok, c.in_ok-push_word-3.ensures.ok, c.in_ok-push_word-2.ensures.ok, c.in_ok-push_word.ensures.ok, c.in_ok-push-2.ensures.items, c.in_ok-push.ensures.items, c.in_ok-push_half_word.ensures.ok) (simp (append_assoc, append-nil))
