use Rattle.btf_ext.proofs.section_info_list.SectionInfoList.read.Goals as goal

pub returns-clause-laid_out : goal.returns-clause-laid_out
returns-clause-laid_out c = record {
  whole = record { stand = c.in_ok-places.ensures.stand };
  sized = λ i d lt. rw c.least_size.ensures at c.if-size-least_size.false;
}
