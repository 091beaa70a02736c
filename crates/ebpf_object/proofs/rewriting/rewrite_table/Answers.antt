use Rattle.btf_sanitize.specs.Facts.{number_named}
use Rattle.object_contents.proofs.Faultless.{if-err}
use Rattle.ebpf_object.proofs.RefusedTables.{refused_table}
use Rattle.ebpf_object.proofs.rewriting.rewrite_table.Goals as goal

pub returns-clause-refused : goal.returns-clause-refused
returns-clause-refused g c =
    if-err c.fixup_and_sanitize.result (λ e fault other.
    refused_table g.F.FnMut c.args.predicate c.args.file.now c.args.ksyms c.args.table.now (number_named c.in_ok-sizes.sizes.entries) (number_named c.in_ok-offsets.offsets.entries)
    (record { size_at = c.in_ok-sizes.ensures.at; offset_at = c.in_ok-offsets.ensures.at }) e (fault other)) c.fixup_and_sanitize.ensures.refused
