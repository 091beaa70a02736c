use Rattle.std.proofs.Common.{◌∙◌}
use Rattle.btf_ext.proofs.Named.{same_extension, same_kinds, same_laid_out}
use Rattle.btf_ext.proofs.extension.BtfExt.try_clone.Goals as goal

pub invariant_of-result : goal.invariant_of-result
invariant_of-result c =
    let s = c.self.inside in
    let f = c.in_ok-try_clone-2.ensures in
    let l = c.in_ok-try_clone-3.ensures in
    let r = c.in_ok-try_clone-4.ensures in
    let is = c.self.invariant in (
      same_laid_out 8 s.functions c.in_ok-try_clone-2.field-0 f is.0,
      same_laid_out 16 s.lines c.in_ok-try_clone-3.field-0 l is.1,
      same_laid_out 16 s.relocations c.in_ok-try_clone-4.field-0 r is.2,
      same_kinds s.relocations c.in_ok-try_clone-4.field-0 r is.3,
    )

pub returns : goal.returns
returns c =
    let s = c.self.inside in
    same_extension s.strings c.in_ok-try_clone.field-0 s.functions s.lines s.relocations c.in_ok-try_clone-2.field-0 c.in_ok-try_clone-3.field-0 c.in_ok-try_clone-4.field-0 c.in_ok-try_clone.ensures c.in_ok-try_clone-2.ensures c.in_ok-try_clone-3.ensures c.in_ok-try_clone-4.ensures ∙ c.self.view_is
