use Rattle.std.proofs.Common.{rules, ◌≡◌, Any, option_copied, OnOk, Option, None, Some, subst}
use Rattle.btf_tables.specs.Tables.{Table}
use Rattle.extern_resolution.specs.Faults.{EntryTypedFault}
use Rattle.extern_resolution.specs.Steps.{NoFault}
use Rattle.extern_resolution.proofs.typed.typed_externs.Goals as goal

pub returns-in_default-clause-accepted : goal.returns-in_default-clause-accepted
returns-in_default-clause-accepted c =
    let known : None ≡ option_copied c.args.kernel = search rules in
    subst (λ (k : Option Table). OnOk c.typed_by.result (NoFault (λ f. Any (EntryTypedFault c.args.table.now k f) c.args.externs.now.by_name))) known c.typed_by.ensures.accepted

pub returns-clause-accepted : goal.returns-clause-accepted
returns-clause-accepted c =
    let known : Some c.in_ok-records.records ≡ option_copied c.args.kernel = search rules in
    subst (λ (k : Option Table). OnOk c.typed_by-2.result (NoFault (λ f. Any (EntryTypedFault c.args.table.now k f) c.args.externs.now.by_name))) known c.typed_by-2.ensures.accepted
