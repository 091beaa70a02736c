use Rattle.std.proofs.Common.{◌<◌, ℕ, List, [], length, get_or, ap, sym, ◌∙◌}
use Rattle.std.proofs.lemmas.List.Elements.{All-more}
use Rattle.std.proofs.lemmas.List.Sums.{fold_more}
use Rattle.btf_records.specs.declared.item.DataSecEntry.{DataSecEntry}
use Rattle.object_externs.specs.Externs.{ExternContent, with_extern}
use Rattle.btf_storage.specs.Faultless.{IsFaultless}
use Rattle.object_externs.specs.Faults.{EntryFault}
use Rattle.object_externs.proofs.Faultless.{each_of_all, none_of_any}
use Rattle.object_externs.proofs.entries.read_entries.Goals as goal

pub returns-clause-accepted : goal.returns-clause-accepted
returns-clause-accepted c = none_of_any (EntryFault c.args.symbols.now c.args.table.now) c.args.entries.now (each_of_all (λ entry. IsFaultless (EntryFault c.args.symbols.now c.args.table.now entry)) c.args.entries.now c.loop-entry.entry-index c.loop-entry-test.false c.loop-entry.invariant.each)

pub loop-entry-preserved : goal.loop-entry-preserved
loop-entry-preserved c =
    let within : c.loop-entry.entry-index < length c.args.entries.now = c.loop-entry-test.true in
    let past : DataSecEntry = record { btf_type = 0; offset = 0; size = 0 } in
    record {
      entered =
          c.in_ok-enter.ensures.externs
          ∙ ap (λ (es : List (List ℕ × ExternContent)). with_extern c.args.symbols.now c.args.table.now es (get_or c.args.entries.now c.loop-entry.entry-index past)) c.loop-entry.invariant.entered
          ∙ sym (fold_more (with_extern c.args.symbols.now c.args.table.now) [] c.args.entries.now c.loop-entry.entry-index past within);
      each = All-more (λ (entry : DataSecEntry). IsFaultless (EntryFault c.args.symbols.now c.args.table.now entry)) c.args.entries.now c.loop-entry.entry-index past within c.loop-entry.invariant.each c.in_ok-enter.ensures.accepted;
    }
