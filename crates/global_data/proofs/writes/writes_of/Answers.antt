use Rattle.std.proofs.Common.{◌≡◌, ◌++◌, [], ◌∷◌, ℕ, List, Option, ap, sym, ◌∙◌}
use Rattle.std.proofs.lemmas.Result.{err_from_is_err_and}
use Rattle.std.specs.Option.{option_copied, option_map_or}
use Rattle.elf64.specs.Symbols.{Symbol, symbols_of}
use Rattle.object_file.specs.Symbols.{last_named}
use Rattle.settings.specs.Names.{by_bytes}
use Rattle.global_data.specs.GlobalData.{Write, first_fault, write_of}
use Rattle.global_data.proofs.Steps.{fault_at_start, fault_said, fault_tail, value_at_start, value_tail, value_told}
use Rattle.global_data.proofs.writes.writes_of.Goals as goal

pub loop-name-init : goal.loop-name-init
loop-name-init c =
    let same : by_bytes c.into_iter-name-iterator.result ≡ c.args.values.now = ap by_bytes c.into_iter-name-iterator.ensures.into_iter_gives ∙ c.iter-name-items.ensures.value in
    record {
      value = value_at_start (symbols_of c.args.file.now) c.args.maps.now c.args.values.now _ _ same c.new-writes.ensures.items;
      fault = fault_at_start c.args.file.now c.args.maps.now c.args.values.now _ same;
    }

pub returns-in_err-write-clause-fault : goal.returns-in_err-write-clause-fault
returns-in_err-write-clause-fault c =
    let p = err_from_is_err_and c.from_residual-in_err-write.result c.from_residual-in_err-write.ensures.1 in
    let left : by_bytes c.loop-name.name-iterator ≡ (c.as_str-name.result.now, c.in-Some.value.now) ∷ by_bytes c.next.new.self =
    ap by_bytes c.in-Some.ensures.steps ∙ ap (λ (n : List ℕ). (n, c.in-Some.value.now) ∷ by_bytes c.next.new.self) (sym c.as_str-name.ensures.value) in
    let named : option_copied c.named.result ≡ last_named (symbols_of c.args.file.now) c.as_str-name.result.now =
    c.named.ensures.value
    ∙ ap (λ (ss : List Symbol). last_named ss c.as_str-name.result.now) (c.in_ok-symbols.ensures ∙ c.symbols.ensures.value) in
    rw (p.1, p.2)
    (λ other. fault_said (symbols_of c.args.file.now) c.args.maps.now c.in_ok-maps.maps _ _ (c.as_str-name.result.now, c.in-Some.value.now) (option_copied c.named.result) (first_fault c.args.file.now c.args.maps.now c.args.values.now) _ left c.in_ok-maps.ensures.value named (c.in_err-write.ensures.fault other) c.loop-name.invariant.fault)

pub loop-name-preserved : goal.loop-name-preserved
loop-name-preserved c =
    let left : by_bytes c.loop-name.name-iterator ≡ (c.as_str-name.result.now, c.in-Some.value.now) ∷ by_bytes c.next.new.self =
    ap by_bytes c.in-Some.ensures.steps ∙ ap (λ (n : List ℕ). (n, c.in-Some.value.now) ∷ by_bytes c.next.new.self) (sym c.as_str-name.ensures.value) in
    let named : option_copied c.named.result ≡ last_named (symbols_of c.args.file.now) c.as_str-name.result.now =
    c.named.ensures.value
    ∙ ap (λ (ss : List Symbol). last_named ss c.as_str-name.result.now) (c.in_ok-symbols.ensures ∙ c.symbols.ensures.value) in
    let wrote : c.in_ok-write.field-0 ≡ write_of (symbols_of c.args.file.now) c.args.maps.now (c.as_str-name.result.now, c.in-Some.value.now) =
    value_told (symbols_of c.args.file.now) c.args.maps.now c.in_ok-maps.maps (c.as_str-name.result.now, c.in-Some.value.now) (option_copied c.named.result) c.in_ok-write.field-0 c.in_ok-maps.ensures.value named c.in_ok-write.ensures.value in
    let grown : c.push.new.self.items ≡ c.loop-name.writes.items ++ option_map_or (λ (w : Write). w ∷ []) c.in_ok-write.field-0 [] =
    c.in_ok-push.ensures.items ∙ ap (λ (o : Option Write). c.loop-name.writes.items ++ option_map_or (λ w. w ∷ []) o []) (sym c.in-Some-2.is) in
    record {
      value = value_tail (symbols_of c.args.file.now) c.args.maps.now _ (by_bytes c.next.new.self) (c.as_str-name.result.now, c.in-Some.value.now) c.loop-name.writes.items c.push.new.self.items _ c.in_ok-write.field-0 left wrote grown c.loop-name.invariant.value;
      fault = fault_tail (symbols_of c.args.file.now) c.args.maps.now c.in_ok-maps.maps _ (by_bytes c.next.new.self) (c.as_str-name.result.now, c.in-Some.value.now) (option_copied c.named.result) _ left c.in_ok-maps.ensures.value named c.in_ok-write.ensures.sound c.loop-name.invariant.fault;
    }
