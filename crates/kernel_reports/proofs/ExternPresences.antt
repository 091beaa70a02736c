-- The presence of declared externs, from the resolution of these externs as weak ones.
use Rattle.std.proofs.Common.{◌≡◌, ℕ, List, [], ◌∷◌, map, refl, sym, subst, inl, inr, Bool, true, false, Option, None, Some}
use Rattle.std.specs.Prelude.{◌&&◌, not, if◌then◌else◌, is_none}
use Rattle.std.specs.List.{AllZip}
use Rattle.std.specs.Option.{MatchOption}
use Rattle.btf_tables.specs.Tables.{Table}
use Rattle.extern_resolution.specs.Outcomes.{EntryBecomes, IsFoundIn, left_weak, sought_address, with_address, with_kernel_id}
use Rattle.extern_resolution.specs.Resolution.{AreResolved, CannotResolve}
use Rattle.extern_resolution.specs.declared.error.KsymsError.{KsymsError}
use Rattle.kernel_symbols.specs.Texts.{address_of}
use Rattle.object_externs.specs.Externs.{ExternContent, ExternsContent}
use Rattle.kernel_reports.proofs.Growing.{weak_entry}
use Rattle.kernel_reports.specs.Presences.{SaysOfExtern, SaysOfExterns, WeakFault, all_unknown, all_weak, as_weak, presence_of}
use Rattle.report_needs.specs.declared.enums.Presence.{Presence}
use Rattle.report_needs.specs.declared.enums.Presence.TheVariants.{Found, Missing, Unknown}

-- The result of the search for a weak extern is the result for the declared one.
found_for : (table : Table) (kernel : Option Table) (name : List ℕ) (e : ExternContent) (type_id : ℕ) (found : Option ℕ) → IsFoundIn table kernel name (as_weak e) type_id found → IsFoundIn table kernel name e type_id found
found_for table None name e type_id found h = h
found_for table (Some kernel) name e type_id found h = record { kind = h.kind; declared_as = h.declared_as; is_found = h.is_found }

-- The presence of an extern, by its type.
abbrev pub says_by : Table → Option Table → List ℕ → Bool → List ℕ → ExternContent → Option ℕ → Presence → Type 0
says_by table kernel text has_symbols name e type Found = ((is_none type && not has_symbols) ≡ false) × MatchOption type ((address : ℕ) × (address_of name text ≡ Some address)) (λ type_id. (id : ℕ) × IsFoundIn table kernel name e type_id (Some id))
says_by table kernel text has_symbols name e type Missing = ((is_none type && not has_symbols) ≡ false) × MatchOption type (address_of name text ≡ None) (λ type_id. IsFoundIn table kernel name e type_id None)
says_by table kernel text has_symbols name e type Unknown = (is_none type && not has_symbols) ≡ true

abbrev pub presence_by : Bool → Option ℕ → Bool → Presence
presence_by has_symbols type is_resolved = if is_none type && not has_symbols then Unknown else if is_resolved then Found else Missing

says : (table : Table) (kernel : Option Table) (text : List ℕ) (has_symbols : Bool) (name : List ℕ) (e : ExternContent) (p : Presence) → says_by table kernel text has_symbols name e e.type_id p → SaysOfExtern table kernel text has_symbols (name, e) p
says table kernel text has_symbols name e Found h = h
says table kernel text has_symbols name e Missing h = h
says table kernel text has_symbols name e Unknown h = h

-- The given presence is the one by the type.
shown : (table : Table) (kernel : Option Table) (text : List ℕ) (has_symbols : Bool) (name : List ℕ) (e : ExternContent) (is_resolved : Bool) (type : Option ℕ) → e.type_id ≡ type → says_by table kernel text has_symbols name e type (presence_by has_symbols type is_resolved) → SaysOfExtern table kernel text has_symbols (name, e) (presence_by has_symbols e.type_id is_resolved)
shown table kernel text has_symbols name e is_resolved type is h =
    says table kernel text has_symbols name e (presence_by has_symbols e.type_id is_resolved)
    (subst (λ (o : Option ℕ). says_by table kernel text has_symbols name e o (presence_by has_symbols o is_resolved)) (sym is) h)

-- An extern with a type.
typed : (table : Table) (kernel : Option Table) (text : List ℕ) (has_symbols : Bool) (name : List ℕ) (e : ExternContent) (type_id : ℕ) (is : e.type_id ≡ Some type_id) (found : Option ℕ) → IsFoundIn table kernel name e type_id found → SaysOfExtern table kernel text has_symbols (name, e) (presence_of has_symbols (left_weak (with_kernel_id found (as_weak e))))
typed table kernel text has_symbols name e type_id is (Some id) h = shown table kernel text has_symbols name e true (Some type_id) is (refl, (id, h))
typed table kernel text has_symbols name e type_id is None h = shown table kernel text has_symbols name e false (Some type_id) is (refl, h)

-- An extern without a type, where no symbols are given and where they are.
unknown : (table : Table) (kernel : Option Table) (text : List ℕ) (name : List ℕ) (e : ExternContent) (is : e.type_id ≡ None) (found : Option ℕ) → SaysOfExtern table kernel text false (name, e) (presence_of false (left_weak (with_address found (as_weak e))))
unknown table kernel text name e is (Some address) = shown table kernel text false name e true None is refl
unknown table kernel text name e is None = shown table kernel text false name e false None is refl

named : (table : Table) (kernel : Option Table) (text : List ℕ) (name : List ℕ) (e : ExternContent) (is : e.type_id ≡ None) (found : Option ℕ) → address_of name text ≡ found → SaysOfExtern table kernel text true (name, e) (presence_of true (left_weak (with_address found (as_weak e))))
named table kernel text name e is (Some address) h = shown table kernel text true name e true None is (refl, (address, h))
named table kernel text name e is None h = shown table kernel text true name e false None is (refl, h)

by_type : (table : Table) (kernel : Option Table) (text : List ℕ) (has_symbols : Bool) (name : List ℕ) (e new : ExternContent) (type : Option ℕ) → e.type_id ≡ type
    → MatchOption type (new ≡ left_weak (with_address (sought_address text name (as_weak e)) (as_weak e))) (λ type_id. (found : Option ℕ) × IsFoundIn table kernel name (as_weak e) type_id found × (new ≡ left_weak (with_kernel_id found (as_weak e))))
    → SaysOfExtern table kernel text has_symbols (name, e) (presence_of has_symbols new)
by_type table kernel text false name e new None is h =
    subst (λ (n : ExternContent). SaysOfExtern table kernel text false (name, e) (presence_of false n)) (sym h) (unknown table kernel text name e is (sought_address text name (as_weak e)))
by_type table kernel text true name e new None is h =
    let found : address_of name text ≡ sought_address text name (as_weak e) =
    subst (λ (o : Option ℕ). address_of name text ≡ (if is_none o && not false then address_of name text else None)) (sym is) refl in
    subst (λ (n : ExternContent). SaysOfExtern table kernel text true (name, e) (presence_of true n)) (sym h) (named table kernel text name e is (sought_address text name (as_weak e)) found)
by_type table kernel text has_symbols name e new (Some type_id) is h =
    subst (λ (n : ExternContent). SaysOfExtern table kernel text has_symbols (name, e) (presence_of has_symbols n)) (sym h.2) (typed table kernel text has_symbols name e type_id is h.0 (found_for table kernel name e type_id h.0 h.1))

each_presence : (table : Table) (kernel : Option Table) (text : List ℕ) (has_symbols : Bool) (xs ys : List (List ℕ × ExternContent)) → AllZip (EntryBecomes table kernel text) (map weak_entry xs) ys → AllZip (SaysOfExtern table kernel text has_symbols) xs (map (λ e. presence_of has_symbols e.1) ys)
each_presence table kernel text has_symbols [] [] h = tt
each_presence table kernel text has_symbols [] (y ∷ ys) h = absurd h
each_presence table kernel text has_symbols (x ∷ xs) [] h = absurd h
each_presence table kernel text has_symbols (x ∷ xs) (y ∷ ys) h = (by_type table kernel text has_symbols x.0 x.1 y.1 x.1.type_id refl h.0.1, each_presence table kernel text has_symbols xs ys h.1)

-- The presence of externs that were resolved by a text of these bytes.
pub presences_are : (table : Table) (kernel : Option Table) (text bytes : List ℕ) (failed has_symbols : Bool) (externs weak new : ExternsContent) (said : List Presence) → bytes ≡ text → failed ≡ false → weak ≡ all_weak externs → AreResolved table kernel text failed weak new → said ≡ map (λ e. presence_of has_symbols e.1) new.by_name → SaysOfExterns (Some table) kernel bytes has_symbols externs said
presences_are table kernel text bytes failed has_symbols externs weak new said whole read all h is =
    let resolved : AreResolved table kernel text false (all_weak externs) new =
    subst (λ (w : ExternsContent). AreResolved table kernel text false w new) all
    (subst (λ (b : Bool). AreResolved table kernel text b weak new) read h) in
    inl (rw (is, whole) (record {
      faultless = resolved.faultless;
      each = each_presence table kernel text has_symbols externs.by_name new.by_name resolved.each;
    }))

-- The presence of externs that weren't resolved.
pub nothing_of : (table : Table) (kernel : Option Table) (text bytes : List ℕ) (failed has_symbols : Bool) (externs weak : ExternsContent) (fault : KsymsError) (said : List Presence) → bytes ≡ text → failed ≡ false → weak ≡ all_weak externs → CannotResolve table kernel text failed weak fault → said ≡ all_unknown externs → SaysOfExterns (Some table) kernel bytes has_symbols externs said
nothing_of table kernel text bytes failed has_symbols externs weak fault said whole read all h is =
    let refused : CannotResolve table kernel text false (all_weak externs) fault =
    subst (λ (w : ExternsContent). CannotResolve table kernel text false w fault) all
    (subst (λ (b : Bool). CannotResolve table kernel text b weak fault) read h) in
    inr (record {
      fault = fault;
      stands = subst (λ (t : List ℕ). WeakFault table kernel t externs fault) (sym whole) refused;
      nothing = is;
    })
