-- A pass refuses in the chain, and the chain of all passes.
use Rattle.std.proofs.Common.{List, [], ◌∷◌, None, refl, inl, inr}
use Rattle.std.specs.Prelude.{IfErr, IfOk, Result, Ok, Err}
use Rattle.btf_sanitize.specs.Answers.{Answers}
use Rattle.btf_tables.specs.Tables.{Table}
use Rattle.ebpf_object.specs.Rewriting.{AreAnswered}
use Rattle.load_plan.specs.Inputs.{Inputs, Predicate, State, Under}
use Rattle.load_plan.specs.Made.{AreTypesMade, AreTypesRefused, IsRefusedTypes, MakesTypes, RefusesTypes}
use Rattle.load_plan.specs.Passes.{CannotLink, CannotPutValues, CannotRelocateTypes, CannotResolve, CannotWriteExterns, CannotWriteNumbers, ExternSlots, HasKernelTypes, HasNamelessRecord, IsNumbered, KeepsNamed, LacksKernelTypes, LacksNumber, Made, MapSlots, OfKsyms, OfParse, OfRelocation, OfTypeRelocation, Pass, PutsValues, Refused, RelocatesTypes, ResolvesExterns, RewritesTypes, WritesExterns, WritesNumbers, first_of, first_table, linking, passes, second_of}
use Rattle.load_plan.specs.Planned.{IsRefusedObject}
use Rattle.plan_errors.specs.declared.error.PrepareError.{PrepareError}
use Rattle.load_plan.specs.declared.order.Order.{Order}
use Rattle.load_plan.specs.declared.order.Order.TheVariants.{RelocateFirst, RewriteFirst}

-- No answer was given yet.
abbrev pub unanswered : Under
unanswered = record { answers = []; has_helpers = None }

pub none_answered : {F : Type 0} (predicate : Predicate F) (before : F) → AreAnswered predicate before []
none_answered predicate before = record { after = before; given = record { more = []; appended = refl; called = refl } }

-- The two passes over types in the chain.
refused_in_types : (order : Order) (ps : List Pass) (i : Inputs) (u : Under) (s : State) (e : PrepareError) → RefusesTypes order i.kernel_types u.answers s e → Refused (first_of order ∷ second_of order ∷ ps) i u s e
refused_in_types RelocateFirst ps i u s e (inl fault) = inl fault
refused_in_types RelocateFirst ps i u s e (inr r) = inr (r.0, r.1, inl r.2)
refused_in_types RewriteFirst ps i u s e (inl fault) = inl fault
refused_in_types RewriteFirst ps i u s e (inr r) = inr (r.0, r.1, inl r.2)

refused_after_types : (order : Order) (ps : List Pass) (i : Inputs) (u : Under) (s t : State) (e : PrepareError) → MakesTypes order i.kernel_types u.answers s t → Refused ps i u t e → Refused (first_of order ∷ second_of order ∷ ps) i u s e
refused_after_types RelocateFirst ps i u s t e made refused = inr (made.0, made.1, inr (t, made.2, refused))
refused_after_types RewriteFirst ps i u s t e made refused = inr (made.0, made.1, inr (t, made.2, refused))

pub types_made : (order : Order) (ps : List Pass) (i : Inputs) (u : Under) (s t end : State) → MakesTypes order i.kernel_types u.answers s t → Made ps i u t end → Made (first_of order ∷ second_of order ∷ ps) i u s end
types_made RelocateFirst ps i u s t end made rest = (made.0, made.1, (t, made.2, rest))
types_made RewriteFirst ps i u s t end made rest = (made.0, made.1, (t, made.2, rest))

module _ {F : Type 0} (predicate : Predicate F) (before : F) (i : Inputs) (s : State) (e : PrepareError) where
  unasked : Refused (passes i.order) i unanswered s e → IsRefusedObject predicate before i s e
  unasked refused = record { under = unanswered; answered = none_answered predicate before; refused = refused }

  pub in_records : HasNamelessRecord s e → IsRefusedObject predicate before i s e
  in_records fault = unasked (inl fault)

  pub in_numbers : KeepsNamed s s → LacksNumber i.settings s e → IsRefusedObject predicate before i s e
  in_numbers named fault = unasked (inr (s, named, inl fault))

  module _ (named : KeepsNamed s s) (numbered : IsNumbered i.settings s s) where
    pub in_values : OfParse (CannotPutValues i.settings s) e → IsRefusedObject predicate before i s e
    in_values fault = unasked (inr (s, named, inr (s, numbered, inl fault)))

    module _ (valued : State) (values : PutsValues i.settings s valued) where
      pub in_kernel_types : LacksKernelTypes i.kernel_types valued e → IsRefusedObject predicate before i s e
      in_kernel_types fault = unasked (inr (s, named, inr (s, numbered, inr (valued, values, inl fault))))

      module _ (given : HasKernelTypes i.kernel_types valued valued) where
        pub in_externs : OfKsyms (CannotResolve (first_table i) i.symbols valued) e → IsRefusedObject predicate before i s e
        in_externs fault = unasked (inr (s, named, inr (s, numbered, inr (valued, values, inr (valued, given, inl fault)))))

        module _ (resolved : State) (externs : ResolvesExterns (first_table i) i.symbols valued resolved) where
          -- The passes before the passes over types are made.
          after_externs : (u : Under) → Refused (first_of i.order ∷ second_of i.order ∷ MapSlots ∷ ExternSlots ∷ linking) i u resolved e → Refused (passes i.order) i u s e
          after_externs u refused = inr (s, named, inr (s, numbered, inr (valued, values, inr (valued, given, inr (resolved, externs, refused)))))

          pub in_types : AreTypesRefused predicate before i.kernel_types i.order resolved e → IsRefusedObject predicate before i s e
          in_types refused =
              let u : Under = record { answers = refused.answers; has_helpers = None } in
              record {
                under = u;
                answered = refused.answered;
                refused = after_externs u (refused_in_types i.order (MapSlots ∷ ExternSlots ∷ linking) i u resolved e refused.refused);
              }

          module _ (answers : Answers) (typed : State) (made : AreTypesMade predicate before i.kernel_types i.order answers resolved typed) where
            abbrev answered_under : Under
            answered_under = record { answers = answers; has_helpers = None }

            after_types : Refused (MapSlots ∷ ExternSlots ∷ linking) i answered_under typed e → IsRefusedObject predicate before i s e
            after_types refused = record {
              under = answered_under;
              answered = made.answered;
              refused = after_externs answered_under (refused_after_types i.order (MapSlots ∷ ExternSlots ∷ linking) i answered_under resolved typed e made.made refused);
            }

            pub in_map_slots : OfRelocation (CannotWriteNumbers i.settings typed) e → IsRefusedObject predicate before i s e
            in_map_slots fault = after_types (inl fault)

            module _ (mapped : State) (numbers : WritesNumbers i.settings typed mapped) where
              pub in_extern_slots : OfRelocation (CannotWriteExterns mapped) e → IsRefusedObject predicate before i s e
              in_extern_slots fault = after_types (inr (mapped, numbers, inl fault))

              pub in_links : (patched : State) → WritesExterns mapped patched → OfRelocation (CannotLink patched) e → IsRefusedObject predicate before i s e
              in_links patched slots fault = after_types (inr (mapped, numbers, inr (patched, slots, inl fault)))

-- The two passes over types by themselves, before any question is asked and after it.
module _ {F : Type 0} (predicate : Predicate F) (before : F) (kernel : List Table) (s : State) where
  pub relocated_first : (e : PrepareError) → OfTypeRelocation (CannotRelocateTypes kernel s) e → AreTypesRefused predicate before kernel RelocateFirst s e
  relocated_first e fault = record { answers = []; answered = none_answered predicate before; refused = inl fault }

  pub rewritten_second : (e : PrepareError) (m : State) → RelocatesTypes kernel s m → IsRefusedTypes predicate before m e → AreTypesRefused predicate before kernel RelocateFirst s e
  rewritten_second e m slots r = record { answers = r.answers; answered = r.answered; refused = inr (m, slots, r.fault) }

  pub rewritten_first : (e : PrepareError) → IsRefusedTypes predicate before s e → AreTypesRefused predicate before kernel RewriteFirst s e
  rewritten_first e r = record { answers = r.answers; answered = r.answered; refused = inl r.fault }

  pub relocated_second : (e : PrepareError) (answers : Answers) (m : State) → AreAnswered predicate before answers → RewritesTypes answers s m → OfTypeRelocation (CannotRelocateTypes kernel m) e → AreTypesRefused predicate before kernel RewriteFirst s e
  relocated_second e answers m answered types fault = record { answers = answers; answered = answered; refused = inr (m, types, fault) }

-- A property of a part's result as a property of the whole result.
pub through_ok : {A E : Type 0} {P Q : A → Type 0} (r : Result A E) → ((x : A) → P x → Q x) → IfOk r P → IfOk r Q
through_ok (Ok x) more said = more x said
through_ok (Err e) more said = tt

pub through_err : {A E : Type 0} {P Q : E → Type 0} (r : Result A E) → ((e : E) → P e → Q e) → IfErr r P → IfErr r Q
through_err (Ok x) more said = tt
through_err (Err e) more said = more e said
