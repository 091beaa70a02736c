-- The composition of the steps of the resolution.
use Rattle.std.proofs.Common.{◌≡◌, ◌≢◌, ℕ, Bool, true, false, ◌||◌, ◌&&◌, ◌⊎◌, List, [], ◌∷◌, Option, None, Some, Result, Ok, Err, Any, refl, ap, sym, ◌∙◌, subst, arith, inl, inr}
use Rattle.std.specs.Prelude.{IfErr, IfOk, MatchOption, is_none, is_some, not}
use Rattle.std.specs.Result.{IsErrAnd}
use Rattle.std.specs.List.{AllByRecursion, AllZip, list_any}
use Rattle.std.specs.Str.{bytes_eq}
use Rattle.std.specs.String.{string_bytes}
use Rattle.std.proofs.lemmas.Bool.Decides.{nat_tests}
use Rattle.btf_tables.specs.Tables.{Table}
use Rattle.extern_resolution.proofs.Each.{Some-of, of_any, to_any}
use Rattle.extern_resolution.proofs.Seeking.{some_given, some_text}
use Rattle.extern_resolution.specs.Faults.{EntryAddressFault, EntryTypedFault}
use Rattle.extern_resolution.specs.Outcomes.{EntryBecomes, IsFoundIn, is_name_sought, is_sought, left_weak, sought_address, with_address, with_kernel_id}
use Rattle.extern_resolution.specs.Resolution.{AreResolved, CannotResolve, ForText}
use Rattle.extern_resolution.specs.Steps.{AreSought, AreSteps, CannotSeek, EntryAddressed, EntryTyped, NoAddress, NoFault, address_found, addressed}
use Rattle.extern_resolution.specs.declared.error.KsymsError.{KsymsError}
use Rattle.extern_resolution.specs.declared.error.KsymsError.TheVariants as error
use Rattle.kernel_symbols.specs.Reading.{address_under}
use Rattle.kernel_symbols.specs.Texts.{address_of}
use Rattle.kernel_symbols.specs.declared.wanted.Addresses.{Addresses}
use Rattle.object_externs.specs.Externs.{ExternContent, ExternsContent}

true_false : true ≡ false → ⊥
true_false h = absurd cc

same_name : (name : List ℕ) → bytes_eq name name ≡ true
same_name [] = refl
same_name (x ∷ xs) = at (x_eq x) (same_name xs)
  where
    x_eq : (x : ℕ) → Rattle.std.specs.Prelude.nat_eq x x ≡ true
    x_eq x = grind (arith, nat_tests)

    at : Rattle.std.specs.Prelude.nat_eq x x ≡ true → bytes_eq xs xs ≡ true → bytes_eq (x ∷ xs) (x ∷ xs) ≡ true
    at one rest = rw one rest

or_left : (a b : Bool) → a ≡ true → (a || b) ≡ true
or_left true b h = refl
or_left false b h = absurd cc

or_right : (a b : Bool) → b ≡ true → (a || b) ≡ true
or_right true b h = refl
or_right false b h = h

-- The address of an extern that is searched is its address in the text.
abbrev pub HasValue : Addresses → List ℕ → (List ℕ × ExternContent) → Type 0
HasValue found text entry = is_sought entry.1 ≡ true → address_under found entry.0 ≡ address_of entry.0 text

each_value : (found : Addresses) (text : List ℕ) (externs : List (List ℕ × ExternContent)) → ((name : List ℕ) → is_name_sought externs name ≡ true → address_under found name ≡ address_of name text) → AllByRecursion (HasValue found text) externs
each_value found text [] value = tt
each_value found text (e ∷ externs) value = (
  λ sought. value e.0 (or_left (is_sought e.1 && bytes_eq e.0 e.0) (is_name_sought externs e.0) (rw sought (same_name e.0))),
  each_value found text externs (λ name h. value name (or_right (is_sought e.1 && bytes_eq e.0 name) (is_name_sought externs name) h)),
)

-- The outcome of one extern.

sought_is : (found : Addresses) (text name : List ℕ) (e : ExternContent) (b : Bool) → is_sought e ≡ b → (is_sought e ≡ true → address_under found name ≡ address_of name text) → address_found found name e ≡ sought_address text name e
sought_is found text name e true is value = rw is (value is)
sought_is found text name e false is value = rw is refl

typed_unsought : (e : ExternContent) (id : ℕ) → e.type_id ≡ Some id → is_sought e ≡ false
typed_unsought e id is = rw is refl

kernel_id_typed : (found : Option ℕ) (e : ExternContent) → (with_kernel_id found e).type_id ≡ e.type_id
kernel_id_typed None e = refl
kernel_id_typed (Some id) e = refl

becomes_one : (table : Table) (kernel : Option Table) (found : Addresses) (text : List ℕ) (p q r : List ℕ × ExternContent) (type_id : Option ℕ) → p.1.type_id ≡ type_id → HasValue found text p → q.0 ≡ p.0 → MatchOption type_id (q.1 ≡ p.1) (λ id. (o : Option ℕ) × IsFoundIn table kernel p.0 p.1 id o × (q.1 ≡ with_kernel_id o p.1)) → r.1 ≡ addressed found q.0 q.1 → MatchOption type_id
    (r.1 ≡ left_weak (with_address (sought_address text p.0 p.1) p.1))
    (λ id. (o : Option ℕ) × IsFoundIn table kernel p.0 p.1 id o × (r.1 ≡ left_weak (with_kernel_id o p.1)))
becomes_one table kernel found text p q r None typed value name first second =
    second ∙ ap (λ (n : List ℕ). addressed found n q.1) name ∙ ap (addressed found p.0) first
    ∙ ap (λ (o : Option ℕ). left_weak (with_address o p.1)) (sought_is found text p.0 p.1 (is_sought p.1) refl value)
becomes_one table kernel found text p q r (Some id) typed value name first second =
    let known : q.1.type_id ≡ Some id = ap (λ (e : ExternContent). e.type_id) first.2 ∙ kernel_id_typed first.0 p.1 ∙ typed in
    let none : address_found found q.0 q.1 ≡ None = rw (typed_unsought q.1 id known) refl in
    (first.0, first.1, second ∙ ap (λ (o : Option ℕ). left_weak (with_address o q.1)) none ∙ ap left_weak first.2)

becomes_each : (table : Table) (kernel : Option Table) (found : Addresses) (text : List ℕ) (old mid new : List (List ℕ × ExternContent)) → AllByRecursion (HasValue found text) old → AllZip (EntryTyped table kernel) old mid → AllZip (EntryAddressed found) mid new → AllZip (EntryBecomes table kernel text) old new
becomes_each table kernel found text [] [] [] value first second = tt
becomes_each table kernel found text [] [] (r ∷ new) value first second = absurd second
becomes_each table kernel found text [] (q ∷ mid) new value first second = absurd first
becomes_each table kernel found text (p ∷ old) [] new value first second = absurd first
becomes_each table kernel found text (p ∷ old) (q ∷ mid) [] value first second = absurd second
becomes_each table kernel found text (p ∷ old) (q ∷ mid) (r ∷ new) value first second = (
  (second.0.0 ∙ first.0.0, becomes_one table kernel found text p q r p.1.type_id refl value.0 first.0.0 first.0.1 second.0.1),
  becomes_each table kernel found text old mid new value.1 first.1 second.1,
)

-- The step by type doesn't change an extern that is searched by its name.
sought_same : (table : Table) (kernel : Option Table) (p q : List ℕ × ExternContent) (type_id : Option ℕ) → p.1.type_id ≡ type_id → MatchOption type_id (q.1 ≡ p.1) (λ id. (o : Option ℕ) × IsFoundIn table kernel p.0 p.1 id o × (q.1 ≡ with_kernel_id o p.1)) → (is_sought p.1 ≡ true) ⊎ (is_sought q.1 ≡ true) → q.1 ≡ p.1
sought_same table kernel p q None typed first sought = first
sought_same table kernel p q (Some id) typed first sought =
    let known : q.1.type_id ≡ Some id = ap (λ (e : ExternContent). e.type_id) first.2 ∙ kernel_id_typed first.0 p.1 ∙ typed in
    elim sought [ inl h ↦ absurd (true_false (sym h ∙ typed_unsought p.1 id typed)) | inr h ↦ absurd (true_false (sym h ∙ typed_unsought q.1 id known)) ]

-- Faults of addresses.

address_to : (table : Table) (kernel : Option Table) (found : Addresses) (text : List ℕ) (p q : List ℕ × ExternContent) (f : KsymsError) → HasValue found text p → EntryTyped table kernel p q → EntryAddressFault text f p → NoAddress found f q
address_to table kernel found text p q (error.VariableNotFound n) value step h =
    let same : q.1 ≡ p.1 = sought_same table kernel p q p.1.type_id refl step.1 (inl h.1) in
    (h.0 ∙ sym step.0, ap is_sought same ∙ h.1, ap (λ (e : ExternContent). e.is_weak) same ∙ h.2, ap (address_under found) step.0 ∙ value h.1 ∙ h.3)
address_to table kernel found text p q error.TypedKsymRequiresKernelBtf value step h = h
address_to table kernel found text p q (error.FunctionNotFound n) value step h = h
address_to table kernel found text p q (error.IncompatibleFunctionSignature n) value step h = h
address_to table kernel found text p q (error.IncompatibleVariableType n) value step h = h
address_to table kernel found text p q (error.InvalidExternType n) value step h = h
address_to table kernel found text p q (error.BtfError x) value step h = h
address_to table kernel found text p q (error.AmbiguousResolution n a b) value step h = h
address_to table kernel found text p q (error.KallsymsAccessError x) value step h = h
address_to table kernel found text p q (error.KallsymsParseError n) value step h = h
address_to table kernel found text p q error.OutOfMemory value step h = h

address_from : (table : Table) (kernel : Option Table) (found : Addresses) (text : List ℕ) (p q : List ℕ × ExternContent) (f : KsymsError) → HasValue found text p → EntryTyped table kernel p q → NoAddress found f q → EntryAddressFault text f p
address_from table kernel found text p q (error.VariableNotFound n) value step h =
    let same : q.1 ≡ p.1 = sought_same table kernel p q p.1.type_id refl step.1 (inr h.1) in
    let sought : is_sought p.1 ≡ true = sym (ap is_sought same) ∙ h.1 in
    (h.0 ∙ step.0, sought, sym (ap (λ (e : ExternContent). e.is_weak) same) ∙ h.2, sym (value sought) ∙ sym (ap (address_under found) step.0) ∙ h.3)
address_from table kernel found text p q error.TypedKsymRequiresKernelBtf value step h = h
address_from table kernel found text p q (error.FunctionNotFound n) value step h = h
address_from table kernel found text p q (error.IncompatibleFunctionSignature n) value step h = h
address_from table kernel found text p q (error.IncompatibleVariableType n) value step h = h
address_from table kernel found text p q (error.InvalidExternType n) value step h = h
address_from table kernel found text p q (error.BtfError x) value step h = h
address_from table kernel found text p q (error.AmbiguousResolution n a b) value step h = h
address_from table kernel found text p q (error.KallsymsAccessError x) value step h = h
address_from table kernel found text p q (error.KallsymsParseError n) value step h = h
address_from table kernel found text p q error.OutOfMemory value step h = h

some_to : (table : Table) (kernel : Option Table) (found : Addresses) (text : List ℕ) (f : KsymsError) (old mid : List (List ℕ × ExternContent)) → AllByRecursion (HasValue found text) old → AllZip (EntryTyped table kernel) old mid → Some-of (EntryAddressFault text f) old → Some-of (NoAddress found f) mid
some_to table kernel found text f [] mid value steps h = absurd h
some_to table kernel found text f (p ∷ old) [] value steps h = absurd steps
some_to table kernel found text f (p ∷ old) (q ∷ mid) value steps h = elim h [
  | inl x ↦ inl (address_to table kernel found text p q f value.0 steps.0 x)
  | inr x ↦ inr (some_to table kernel found text f old mid value.1 steps.1 x)
]

some_from : (table : Table) (kernel : Option Table) (found : Addresses) (text : List ℕ) (f : KsymsError) (old mid : List (List ℕ × ExternContent)) → AllByRecursion (HasValue found text) old → AllZip (EntryTyped table kernel) old mid → Some-of (NoAddress found f) mid → Some-of (EntryAddressFault text f) old
some_from table kernel found text f old [] value steps h = absurd h
some_from table kernel found text f [] (q ∷ mid) value steps h = absurd steps
some_from table kernel found text f (p ∷ old) (q ∷ mid) value steps h = elim h [
  | inl x ↦ inl (address_from table kernel found text p q f value.0 steps.0 x)
  | inr x ↦ inr (some_from table kernel found text f old mid value.1 steps.1 x)
]

-- The outcomes of all externs.

pub resolved : (table : Table) (kernel : Option Table) (known : Option (List ℕ)) (failed : Bool) (found : Addresses) (old mid : ExternsContent) (new : List (List ℕ × ExternContent)) → AreSteps (EntryTyped table kernel) old mid → NoFault (λ f. Any (EntryTypedFault table kernel f) old.by_name) → AreSought old.by_name known failed found → AllZip (EntryAddressed found) mid.by_name new → NoFault (λ f. Any (NoAddress found f) mid.by_name) → ForText known (λ text. AreResolved table kernel text failed old (record old { by_name = new }))
resolved table kernel known failed found old mid new typed typed_sound sought by_address sound =
    let value = each_value found sought.text old.by_name sought.value in (
      sought.text,
      sought.given,
      record {
        faultless = λ f h. elim h [
          | inl any ↦ typed_sound.none f any
          | inr other ↦ elim other [
            | inl symbols ↦ sought.none.none f symbols
            | inr any ↦ sound.none f (to_any (NoAddress found f) mid.by_name (some_to table kernel found sought.text f old.by_name mid.by_name value typed.each (of_any (EntryAddressFault sought.text f) old.by_name any)))
          ]
        ];
        each = becomes_each table kernel found sought.text old.by_name mid.by_name new value typed.each by_address;
        section = refl;
      },
    )

pub refused_typed : (table : Table) (kernel : Option Table) (known : Option (List ℕ)) (failed : Bool) (old : ExternsContent) (f : KsymsError) → Any (EntryTypedFault table kernel f) old.by_name → ForText known (λ text. CannotResolve table kernel text failed old f)
refused_typed table kernel known failed old f any = (some_text known, some_given known, inl any)

pub refused_sought : (table : Table) (kernel : Option Table) (known : Option (List ℕ)) (failed : Bool) (old : ExternsContent) (f : KsymsError) → CannotSeek old.by_name known failed f → ForText known (λ text. CannotResolve table kernel text failed old f)
refused_sought table kernel known failed old f fault = (fault.text, fault.given, inr (inl fault.stands))

pub refused_address : (table : Table) (kernel : Option Table) (known : Option (List ℕ)) (failed : Bool) (found : Addresses) (old mid : ExternsContent) (f : KsymsError) → AreSteps (EntryTyped table kernel) old mid → AreSought old.by_name known failed found → Any (NoAddress found f) mid.by_name → ForText known (λ text. CannotResolve table kernel text failed old f)
refused_address table kernel known failed found old mid f typed sought any =
    let value = each_value found sought.text old.by_name sought.value in
    (sought.text, sought.given, inr (inr (to_any (EntryAddressFault sought.text f) old.by_name (some_from table kernel found sought.text f old.by_name mid.by_name value typed.each (of_any (NoAddress found f) mid.by_name any)))))

-- The results of the resolution.

pub err_typed : {T : Type 0} (r : Result T KsymsError) (table : Table) (kernel : Option Table) (known : Option (List ℕ)) (failed : Bool) (old : ExternsContent) (f : KsymsError) → IsErrAnd r (λ g. g ≡ f) → (f ≢ error.OutOfMemory → Any (EntryTypedFault table kernel f) old.by_name) → IfErr r (λ g. g ≢ error.OutOfMemory → ForText known (λ text. CannotResolve table kernel text failed old g))
err_typed (Ok x) table kernel known failed old f passed any = tt
err_typed (Err g) table kernel known failed old f passed any = λ other. subst (λ (g : KsymsError). ForText known (λ text. CannotResolve table kernel text failed old g)) (sym passed) (refused_typed table kernel known failed old f (any (λ is. other (passed ∙ is))))

pub ok_resolved : {T : Type 0} (shown : T → List (List ℕ × ExternContent)) (r : Result T KsymsError) (table : Table) (kernel : Option Table) (known : Option (List ℕ)) (failed : Bool) (found : Addresses) (old mid : ExternsContent) → AreSteps (EntryTyped table kernel) old mid → NoFault (λ f. Any (EntryTypedFault table kernel f) old.by_name) → AreSought old.by_name known failed found → IfOk r (λ new. AllZip (EntryAddressed found) mid.by_name (shown new)) → IfOk r (λ _. NoFault (λ f. Any (NoAddress found f) mid.by_name)) → IfOk r (λ new. ForText known (λ text. AreResolved table kernel text failed old (record old { by_name = shown new })))
ok_resolved shown (Ok new) table kernel known failed found old mid typed typed_sound sought by_address sound = resolved table kernel known failed found old mid (shown new) typed typed_sound sought by_address sound
ok_resolved shown (Err f) table kernel known failed found old mid typed typed_sound sought by_address sound = tt

pub err_address : {T : Type 0} (r : Result T KsymsError) (table : Table) (kernel : Option Table) (known : Option (List ℕ)) (failed : Bool) (found : Addresses) (old mid : ExternsContent) → AreSteps (EntryTyped table kernel) old mid → AreSought old.by_name known failed found → IfErr r (λ f. f ≢ error.OutOfMemory → Any (NoAddress found f) mid.by_name) → IfErr r (λ f. f ≢ error.OutOfMemory → ForText known (λ text. CannotResolve table kernel text failed old f))
err_address (Ok new) table kernel known failed found old mid typed sought any = tt
err_address (Err f) table kernel known failed found old mid typed sought any = λ other. refused_address table kernel known failed found old mid f typed sought (any other)
