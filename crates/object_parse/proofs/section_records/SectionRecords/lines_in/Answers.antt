use Rattle.std.proofs.Common.{◌∙◌, ap, map, arith}
use Rattle.std.specs.Prelude.{filter_map, slice_get}
use Rattle.object_parse.specs.Kept.{SectionContent, is_within, kept_lines, moved_line}
use Rattle.object_parse.proofs.Records.{kept_few, records_within}
use Rattle.object_parse.proofs.section_records.SectionRecords.lines_in.Goals as goal

pub from_records-requires : goal.from_records-requires
from_records-requires c = kept_few (moved_line c.args.relative c.args.start) (λ r. is_within c.args.start c.args.slots r.insn_off) c.self.inside.lines _ _ (c.in_ok-kept.ensures ∙ ap (λ xs. map (moved_line c.args.relative c.args.start) (filter_map (slice_get c.self.inside.lines) xs)) (c.as_slice-2.ensures.value ∙ c.in_ok-indexes.ensures _ (rw c.as_slice.ensures.value c.self.invariant.1)) ∙ ap (map (moved_line c.args.relative c.args.start)) (records_within (λ r. r.insn_off) c.args.start c.args.slots c.self.inside.lines)) (omega (arith, c.num_info-count.ensures, c.num_info-count.type_inv))

pub returns : goal.returns
returns c = c.from_records.ensures ∙ c.in_ok-kept.ensures ∙ ap (λ xs. map (moved_line c.args.relative c.args.start) (filter_map (slice_get c.self.inside.lines) xs)) (c.as_slice-2.ensures.value ∙ c.in_ok-indexes.ensures _ (rw c.as_slice.ensures.value c.self.invariant.1)) ∙ ap (map (moved_line c.args.relative c.args.start)) (records_within (λ r. r.insn_off) c.args.start c.args.slots c.self.inside.lines) ∙ ap (λ (s : SectionContent). kept_lines c.args.relative c.args.start c.args.slots s.lines) c.self.view_is
