use Rattle.std.proofs.Common.{[], ◌∷◌, refl}
use Rattle.std.proofs.lemmas.Result.{err_from_is_err_and}
use Rattle.load_plan.specs.Inputs.{Under}
use Rattle.load_plan.specs.Passes.{ExternSlots, MapSlots}
use Rattle.load_plan.proofs.Chain.{in_extern_slots, in_externs, in_kernel_types, in_links, in_map_slots, in_numbers, in_records, in_types, in_values, types_made}
use Rattle.load_plan.proofs.Changes.{kernel_of, renames}
use Rattle.watched.specs.Watched.{watched_inner}
use Rattle.load_plan.proofs.Texts.{some_given, some_text}
use Rattle.load_plan.proofs.making.make.Goals as goal

pub returns-in_err-require_named-clause-refused : goal.returns-in_err-require_named-clause-refused
returns-in_err-require_named-clause-refused g c =
    let p = err_from_is_err_and c.from_residual.result c.from_residual.ensures.1 in
    rw (p.1, p.2)
    (λ other. (
      some_text (g.R.Read.remaining (watched_inner c.args.symbols.now)),
      some_given (g.R.Read.remaining (watched_inner c.args.symbols.now)),
      λ file. in_records g.F.FnMut c.args.predicate _ c.args.object.now _
          (c.in_err-require_named.ensures.refused other),
    ))

pub returns-in_err-require_numbered-clause-refused : goal.returns-in_err-require_numbered-clause-refused
returns-in_err-require_numbered-clause-refused g c =
    let p = err_from_is_err_and c.from_residual-in_err-require_numbered.result c.from_residual-in_err-require_numbered.ensures.1 in
    rw (p.1, p.2)
    (λ other. (
      some_text (g.R.Read.remaining (watched_inner c.args.symbols.now)),
      some_given (g.R.Read.remaining (watched_inner c.args.symbols.now)),
      λ file. in_numbers g.F.FnMut c.args.predicate _ c.args.object.now _
          c.in_ok-require_named.ensures.made
          (c.in_err-require_numbered.ensures.refused other),
    ))

pub returns-in_err-put_values-clause-refused : goal.returns-in_err-put_values-clause-refused
returns-in_err-put_values-clause-refused g c =
    let p = err_from_is_err_and c.from_residual-in_err-put_values.result c.from_residual-in_err-put_values.ensures.1 in
    rw (p.1, p.2)
    (λ other. (
      some_text (g.R.Read.remaining (watched_inner c.args.symbols.now)),
      some_given (g.R.Read.remaining (watched_inner c.args.symbols.now)),
      λ file. in_values g.F.FnMut c.args.predicate _ c.args.object.now _
          c.in_ok-require_named.ensures.made
          c.in_ok-require_numbered.ensures.made
          (c.in_err-put_values.ensures.refused other),
    ))

pub returns-in_err-require_kernel_types-clause-refused : goal.returns-in_err-require_kernel_types-clause-refused
returns-in_err-require_kernel_types-clause-refused g c =
    let p = err_from_is_err_and c.from_residual-in_err-require_kernel_types.result c.from_residual-in_err-require_kernel_types.ensures.1 in
    rw (p.1, p.2)
    (λ other. (
      some_text (g.R.Read.remaining (watched_inner c.args.symbols.now)),
      some_given (g.R.Read.remaining (watched_inner c.args.symbols.now)),
      λ file. in_kernel_types g.F.FnMut c.args.predicate _ c.args.object.now _
          c.in_ok-require_named.ensures.made
          c.in_ok-require_numbered.ensures.made
          c.put_values.new.object c.in_ok-put_values.ensures.made
          c.in_err-require_kernel_types.ensures.refused,
    ))

pub returns-in_err-resolve-clause-refused : goal.returns-in_err-resolve-clause-refused
returns-in_err-resolve-clause-refused g c =
    let p = err_from_is_err_and c.from_residual-in_err-resolve.result c.from_residual-in_err-resolve.ensures.1 in
    rw (p.1, p.2)
    (λ other. let fault = c.in_err-resolve.ensures.refused other in (
      fault.0,
      fault.1,
      λ file. in_externs g.F.FnMut c.args.predicate _ c.args.object.now _
          c.in_ok-require_named.ensures.made
          c.in_ok-require_numbered.ensures.made
          c.put_values.new.object c.in_ok-put_values.ensures.made
          c.in_ok-require_kernel_types.ensures.made
          fault.2,
    ))

pub returns-in_err-answers-clause-refused : goal.returns-in_err-answers-clause-refused
returns-in_err-answers-clause-refused g c =
    let p = err_from_is_err_and c.from_residual-in_err-answers.result c.from_residual-in_err-answers.ensures.1 in
    rw (p.1, p.2)
    (λ other. let made = c.in_ok-resolve.ensures.made in (
      made.0,
      made.1,
      λ file. in_types g.F.FnMut c.args.predicate _ c.args.object.now _
          c.in_ok-require_named.ensures.made
          c.in_ok-require_numbered.ensures.made
          c.put_values.new.object c.in_ok-put_values.ensures.made
          c.in_ok-require_kernel_types.ensures.made
          c.resolve.new.object made.2
          (c.in_err-answers.ensures.refused other),
    ))

pub returns-in_err-write_numbers-clause-refused : goal.returns-in_err-write_numbers-clause-refused
returns-in_err-write_numbers-clause-refused g c =
    let p = err_from_is_err_and c.from_residual-in_err-write_numbers.result c.from_residual-in_err-write_numbers.ensures.1 in
    rw (p.1, p.2)
    (λ other. let made = c.in_ok-resolve.ensures.made in (
      made.0,
      made.1,
      λ file. in_map_slots g.F.FnMut c.args.predicate _ c.args.object.now _
          c.in_ok-require_named.ensures.made
          c.in_ok-require_numbered.ensures.made
          c.put_values.new.object c.in_ok-put_values.ensures.made
          c.in_ok-require_kernel_types.ensures.made
          c.resolve.new.object made.2
          c.in_ok-answers.answers.items c.make_types.new.object c.in_ok-answers.ensures.made
          (c.in_err-write_numbers.ensures.refused other),
    ))

pub returns-in_err-write_externs-clause-refused : goal.returns-in_err-write_externs-clause-refused
returns-in_err-write_externs-clause-refused g c =
    let p = err_from_is_err_and c.from_residual-in_err-write_externs.result c.from_residual-in_err-write_externs.ensures.1 in
    rw (p.1, p.2)
    (λ other. let made = c.in_ok-resolve.ensures.made in (
      made.0,
      made.1,
      λ file. in_extern_slots g.F.FnMut c.args.predicate _ c.args.object.now _
          c.in_ok-require_named.ensures.made
          c.in_ok-require_numbered.ensures.made
          c.put_values.new.object c.in_ok-put_values.ensures.made
          c.in_ok-require_kernel_types.ensures.made
          c.resolve.new.object made.2
          c.in_ok-answers.answers.items c.make_types.new.object c.in_ok-answers.ensures.made
          c.write_numbers.new.object c.in_ok-write_numbers.ensures.made
          (c.in_err-write_externs.ensures.refused other),
    ))

pub returns-in_err-link-clause-refused : goal.returns-in_err-link-clause-refused
returns-in_err-link-clause-refused g c =
    let p = err_from_is_err_and c.from_residual-in_err-link.result c.from_residual-in_err-link.ensures.1 in
    rw (p.1, p.2)
    (λ other. let made = c.in_ok-resolve.ensures.made in (
      made.0,
      made.1,
      λ file. in_links g.F.FnMut c.args.predicate _ c.args.object.now _
          c.in_ok-require_named.ensures.made
          c.in_ok-require_numbered.ensures.made
          c.put_values.new.object c.in_ok-put_values.ensures.made
          c.in_ok-require_kernel_types.ensures.made
          c.resolve.new.object made.2
          c.in_ok-answers.answers.items c.make_types.new.object c.in_ok-answers.ensures.made
          c.write_numbers.new.object c.in_ok-write_numbers.ensures.made
          c.write_externs.new.object c.in_ok-write_externs.ensures.made
          (c.in_err-link.ensures.refused other),
    ))

pub returns-clause-made : goal.returns-clause-made
returns-clause-made g c =
    let externs = c.in_ok-resolve.ensures.made in (
      externs.0,
      externs.1,
      λ file.
          let kernel = kernel_of (g.P.FnOnce.post c.args.probe tt) c.link.new.object.functions c.sanitize_functions.new.self.functions c.sanitize_functions.ensures.sanitized in
          let under : Under = record { answers = c.in_ok-answers.answers.items; has_helpers = kernel.answer } in
          record {
            under = under;
            features = refl;
            said = record { features = c.in_ok-answers.ensures.made.answered; helpers = kernel.said };
            patched = c.write_externs.new.object;
            patching = (
              c.args.object.now,
              c.in_ok-require_named.ensures.made,
              (
                c.args.object.now,
                c.in_ok-require_numbered.ensures.made,
                (
                  c.put_values.new.object,
                  c.in_ok-put_values.ensures.made,
                  (
                    c.put_values.new.object,
                    c.in_ok-require_kernel_types.ensures.made,
                    (
                      c.resolve.new.object,
                      externs.2,
                      types_made c.args.order (MapSlots ∷ ExternSlots ∷ []) _ under c.resolve.new.object c.make_types.new.object c.write_externs.new.object
                          c.in_ok-answers.ensures.made.made (
                            c.write_numbers.new.object,
                            c.in_ok-write_numbers.ensures.made,
                            (c.write_externs.new.object, c.in_ok-write_externs.ensures.made, refl),
                          ),
                    ),
                  ),
                ),
              ),
            );
            linking = (
              c.link.new.object,
              c.in_ok-link.ensures.made,
              (
                c.sanitize_functions.new.self,
                renames (g.P.FnOnce.post c.args.probe tt) c.in_ok-answers.answers.items c.link.new.object c.sanitize_functions.new.self kernel c.sanitize_functions.ensures.others,
                refl,
              ),
            );
          },
    )
