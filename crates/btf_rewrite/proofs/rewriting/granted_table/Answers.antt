use Rattle.std.proofs.Common.{◌≢◌}
use Rattle.btf_records.specs.declared.error.BtfError.TheVariants.{OutOfMemory}
use Rattle.btf_sanitize.specs.Answers.{granted}
use Rattle.btf_sanitize.specs.Facts.{Facts, number_named}
use Rattle.btf_rewrite.specs.Sanitizing.{IsRefused}
use Rattle.btf_rewrite.proofs.Sanitized.{passed_on, short_table}
use Rattle.btf_rewrite.proofs.rewriting.granted_table.Goals as goal

pub returns-in_err-sanitized-clause-refused : goal.returns-in_err-sanitized-clause-refused
returns-in_err-sanitized-clause-refused g c =
    passed_on _ c.in_err-sanitized.field-0.0 (λ e. e ≢ OutOfMemory → IsRefused g.F.FnMut c.args.predicate (number_named c.args.sizes.now.entries) (number_named c.args.offsets.now.entries) c.args.table.now e) c.from_residual.ensures.1
    (λ other. record {
      answers = c.ask_all-answers.result.items;
      asked = record {
        questions = rw (c.records-types.ensures, c.strings-strings.ensures.strings) at c.ask_all-answers.ensures.questions;
        once = c.ask_all-answers.ensures.distinct;
        after = c.ask_all-answers.new.predicate;
        given = c.ask_all-answers.ensures.given;
      };
      fault = rw (c.records-types.ensures, c.strings-strings.ensures.strings) at c.in_err-sanitized.ensures.refused other;
    })

pub with_records-requires : goal.with_records-requires
with_records-requires g c =
    let types = c.records-types.result.now in
    let known : Facts = record { grants = granted c.ask_all-answers.result.items; strings = c.strings-strings.result.now; types = types.types; sizes = number_named c.args.sizes.now.entries; offsets = number_named c.args.offsets.now.entries } in
    rw c.as_slice.ensures.value (rw (← c.in_ok-sanitized.ensures.strings, c.strings-strings.ensures.strings) at (short_table types.order known c.in_ok-sanitized.ensures.accepted))

pub returns-clause-answers : goal.returns-clause-answers
returns-clause-answers g c = record {
  questions = rw (c.records-types.ensures, c.strings-strings.ensures.strings) at c.ask_all-answers.ensures.questions;
  once = c.ask_all-answers.ensures.distinct;
  after = c.ask_all-answers.new.predicate;
  given = c.ask_all-answers.ensures.given;
}
