use Rattle.std.proofs.Common.{List, None, Some, sym, ap, ◌∙◌}
use Rattle.btf_ext.specs.Extensions.{Extension}
use Rattle.btf_ext.specs.Names.{records_of}
use Rattle.btf_ext.specs.Records.{line_in}
use Rattle.btf_ext.specs.declared.record.bpf_line_info.{bpf_line_info}
use Rattle.btf_ext.proofs.Named.{named_records, same_records}
use Rattle.btf_ext.proofs.extension.BtfExt.line_info.Goals as goal

pub returns-in-Some : goal.returns-in-Some
returns-in-Some c =
    let s = c.self.inside in
    let g = s.lines in
    let named = named_records line_in s.strings c.args.name.now g (Some c.in-Some.place) (sym c.last_named.ensures.value ∙ c.in-Some.is) in
    let read = c.of_section_info.ensures ∙ same_records line_in g c.in-Some.place c.records.result c.records.ensures.value in
    ap (λ (rs : List bpf_line_info). Some rs) read ∙ (sym named ∙ ap (λ (x : Extension). records_of x.strings c.args.name.now x.lines) c.self.view_is)

pub returns-in-None : goal.returns-in-None
returns-in-None c =
    let s = c.self.inside in
    let named = named_records line_in s.strings c.args.name.now s.lines None (sym c.last_named.ensures.value ∙ c.in-None.is) in
    sym named ∙ ap (λ (x : Extension). records_of x.strings c.args.name.now x.lines) c.self.view_is
