use Rattle.std.proofs.Common.{sym, ◌∙◌}
use Rattle.btf_encoding.proofs.InBytes.{count_read}
use Rattle.btf_encoding.proofs.view.TypeRef.vlen.Goals as goal

pub returns-in_default : goal.returns-in_default
returns-in_default c = rw c.word.ensures (sym (count_read _ _ _ _ _ c.self.view_is (λ e. c.in_default.not-Unknown (c.kind.ensures ∙ e))))
