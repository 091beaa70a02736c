use Rattle.std.proofs.Common.{◌≡◌, ◌∙◌, ℕ, List, IfOk, ap, subst}
use Rattle.std.specs.Option.{option_map}
use Rattle.std.specs.String.{string_bytes}
use Rattle.object_parse.specs.LackingCode.{name_at}
use Rattle.object_parts.specs.Content.{ProgramContent}
use Rattle.kernel_reports.specs.Reports.{record_name, target_name}
use Rattle.kernel_reports.proofs.program_names.target_name.Goals as goal

pub returns : goal.returns
returns c =
    let kind = c.program.inside.section in
    let index = c.program.inside.section_index in
    let section : c.name_at-section.result.now ≡ name_at c.args.object.now.file index =
    c.name_at-section.ensures ∙ ap (λ (file : List ℕ). name_at file index) c.file.ensures in
    subst (λ (p : ProgramContent). IfOk c.record_name.result (λ name. option_map string_bytes name ≡ target_name c.args.object.now p)) c.program.view_is
    (subst (λ (s : List ℕ). IfOk c.record_name.result (λ name. option_map string_bytes name ≡ record_name kind s)) section c.record_name.ensures)
