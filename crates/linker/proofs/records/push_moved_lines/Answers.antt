use Rattle.std.proofs.Common.{◌≡◌, List, [], ◌∷◌, ◌∙◌, ap, map, ◌++◌, Some, ℕ}
use Rattle.std.specs.Prelude.{slice_get}
use Rattle.btf_ext.specs.declared.record.bpf_line_info.{bpf_line_info}
use Rattle.linker.specs.Records.{moved_line, moved_lines}
use Rattle.linker.proofs.Gets.{pushed, pushed_all}
use Rattle.linker.proofs.records.push_moved_lines.Goals as goal

from_first : (start : ℕ) (rs : List bpf_line_info) (first : bpf_line_info) → Some first ≡ slice_get rs 0 → map (moved_line start first.insn_off) rs ≡ moved_lines start rs
from_first start [] first h = absurd (cc)
from_first start (r ∷ rs) first h = let e : first ≡ r = cc in ap (λ x. map (moved_line start x.insn_off) (r ∷ rs)) e

pub loop-record-preserved : goal.loop-record-preserved
loop-record-preserved c = pushed (moved_line c.args.start c.in-Some.first.insn_off) c.args.records.now c.loop-record.index c.in-Some-get.record _ _ _ _ c.in-Some-get.ensures.value c.in-Some-moved.ensures c.in_ok-push.ensures.items c.loop-record.invariant

pub returns : goal.returns
returns c =
    pushed_all (moved_line c.args.start c.in-Some.first.insn_off) c.args.records.now c.loop-record.index _ _ c.in_default-get.ensures.value c.loop-record.invariant
    ∙ ap (λ l. c.args.out.now.items ++ l) (from_first c.args.start c.args.records.now c.in-Some.first c.in-Some.ensures.value)
