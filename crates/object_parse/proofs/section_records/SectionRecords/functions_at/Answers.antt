use Rattle.std.proofs.Common.{◌==◌, ◌∙◌, ap, map, arith}
use Rattle.std.specs.Prelude.{filter_map, slice_get}
use Rattle.object_parse.specs.Kept.{SectionContent, kept_functions, moved_function}
use Rattle.object_parse.proofs.Records.{kept_few, records_at_slot}
use Rattle.object_parse.proofs.section_records.SectionRecords.functions_at.Goals as goal

pub from_records-requires : goal.from_records-requires
from_records-requires c = kept_few (moved_function c.args.relative c.args.start) (λ r. r.insn_off == c.args.start) c.self.inside.functions _ _ (c.in_ok-kept.ensures ∙ ap (λ xs. map (moved_function c.args.relative c.args.start) (filter_map (slice_get c.self.inside.functions) xs)) (c.as_slice-2.ensures.value ∙ c.in_ok-indexes.ensures _ (rw c.as_slice.ensures.value c.self.invariant.0)) ∙ ap (map (moved_function c.args.relative c.args.start)) (records_at_slot (λ r. r.insn_off) c.args.start c.self.inside.functions)) (omega (arith, c.num_info-count.ensures, c.num_info-count.type_inv))

pub returns : goal.returns
returns c = c.from_records.ensures ∙ c.in_ok-kept.ensures ∙ ap (λ xs. map (moved_function c.args.relative c.args.start) (filter_map (slice_get c.self.inside.functions) xs)) (c.as_slice-2.ensures.value ∙ c.in_ok-indexes.ensures _ (rw c.as_slice.ensures.value c.self.invariant.0)) ∙ ap (map (moved_function c.args.relative c.args.start)) (records_at_slot (λ r. r.insn_off) c.args.start c.self.inside.functions) ∙ ap (λ (s : SectionContent). kept_functions c.args.relative c.args.start s.functions) c.self.view_is
