use Rattle.std.proofs.Common.{◌≤◌, List, None, Some, drop, sym, ap, ◌∙◌}
use Rattle.btf_ext.specs.Extensions.{Extension}
use Rattle.btf_ext.specs.Layout.{is_named}
use Rattle.btf_ext.specs.Names.{records_of}
use Rattle.btf_ext.specs.Records.{line_in}
use Rattle.btf_ext.specs.SectionInfos.{IsSectionInfo, SectionInfo}
use Rattle.btf_ext.specs.declared.record.bpf_line_info.{bpf_line_info}
use Rattle.btf_ext.proofs.ByName.{last_in}
use Rattle.btf_ext.proofs.Named.{named_records, same_records}
use Rattle.btf_ext.proofs.named_records.NamedRecords.lines_of.Goals as goal

pub records-requires : goal.records-requires
records-requires c =
    let n = c.self.inside in
    let g = n.lines.infos.now in
    last_in (λ place. IsSectionInfo g.order g.size (drop place g.bytes.now)) (is_named n.extension.now.strings c.args.name.now g) g.places.items (Some c.in-Some.place.now)
    (c.in-Some.ensures.value ∙ c.self.invariant.1.last.at c.args.name.now) c.self.invariant.1.laid_out.whole.stand

pub of_section_info-requires-clause-sized : goal.of_section_info-requires-clause-sized
of_section_info-requires-clause-sized c =
    let n = c.self.inside in
    let g = n.lines.infos.now in
    let sized : 16 ≤ g.size =
    last_in (λ place. 16 ≤ g.size) (is_named n.extension.now.strings c.args.name.now g) g.places.items (Some c.in-Some.place.now)
    (c.in-Some.ensures.value ∙ c.self.invariant.1.last.at c.args.name.now) c.self.invariant.1.laid_out.sized in
    rw c.records.ensures.value.size sized

pub returns-in-Some : goal.returns-in-Some
returns-in-Some c =
    let n = c.self.inside in
    let g = n.lines.infos.now in
    let named = named_records line_in n.extension.now.strings c.args.name.now g (Some c.in-Some.place.now) (sym (c.in-Some.ensures.value ∙ c.self.invariant.1.last.at c.args.name.now)) in
    let read = c.of_section_info.ensures ∙ same_records line_in g c.in-Some.place.now c.records.result c.records.ensures.value in
    ap (λ (rs : List bpf_line_info). Some rs) read
    ∙ sym named
    ∙ ap (λ (infos : List (SectionInfo bpf_line_info)). records_of n.extension.now.strings c.args.name.now infos) c.self.invariant.1.same
    ∙ ap (λ (x : Extension). records_of x.strings c.args.name.now x.lines) c.self.view_is

pub returns-in-None : goal.returns-in-None
returns-in-None c =
    let n = c.self.inside in
    let g = n.lines.infos.now in
    let named = named_records line_in n.extension.now.strings c.args.name.now g None (sym (c.in-None.ensures.value ∙ c.self.invariant.1.last.at c.args.name.now)) in
    sym named
    ∙ ap (λ (infos : List (SectionInfo bpf_line_info)). records_of n.extension.now.strings c.args.name.now infos) c.self.invariant.1.same
    ∙ ap (λ (x : Extension). records_of x.strings c.args.name.now x.lines) c.self.view_is
