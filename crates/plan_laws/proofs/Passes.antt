-- The result of each pass is unique, and a pass that is made doesn't refuse.
use Rattle.std.proofs.Common.{◌≡◌, ◌⊎◌, inl, inr, ◌==◌, ◌&&◌, ◌||◌, not, ℕ, Bool, true, false, List, [], ◌∷◌, length, Option, None, Some, is_some, is_none, refl, sym, ap, ap₂, ◌∙◌, subst, bytes_eq, MatchOption, IsSomeAnd, arith}
use Rattle.std.specs.List.{list_any}
use Rattle.std.specs.List.Sorted.{IsStrictlySortedBy}
use Rattle.std.specs.Map.{keys_of}
use Rattle.std.specs.Option.{option_map, unwrap_or}
use Rattle.std.specs.String.{string_bytes}
use Rattle.std.proofs.lemmas.Slice.Eq.{bytes_eq-Decides}
use Rattle.btf_storage.specs.Faultless.{IsFaultless}
use Rattle.btf_records.specs.declared.error.BtfError.{BtfError}
use Rattle.btf_sanitize.specs.Answers.{Answers}
use Rattle.btf_sanitize.specs.Sanitized.{SanitizingFault}
use Rattle.btf_rewrite.specs.Sanitizing.{StepFault, facts_in, sanitized, stepped}
use Rattle.btf_tables.specs.Tables.{Table}
use Rattle.ebpf_items.specs.Maps.{MapView}
use Rattle.ebpf_items.specs.declared.error.ParseError.{ParseError}
use Rattle.ebpf_object.specs.Helpers.{for_kernel}
use Rattle.ebpf_object.specs.Rewriting.{AreAsked, AreNumbersOf, CannotRewrite, IsRefusedUnder, IsRewritten, IsRewrittenIf, IsRewrittenTable, TableFault}
use Rattle.extern_resolution.specs.Resolution.{AreResolved}
use Rattle.extern_resolution.specs.Resolution as resolution
use Rattle.extern_resolution.specs.declared.error.KsymsError.{KsymsError}
use Rattle.linker.specs.Layout.{Key, has}
use Rattle.linker.specs.Theorems.{LayoutIsUnique}
use Rattle.load_plan.specs.NamedFunctions.{all_named, keeps_nameless, keeps_type, names_function}
use Rattle.global_data.specs.GlobalData.{GlobalFault, Says}
use Rattle.linker.specs.Linked.{AllCanBeLinked, AreLinked, HasFaultOf, IsLinked, linked_function, program_keys}
use Rattle.linker.specs.Unlinked.{Unlinked, table_of}
use Rattle.load_plan.specs.Inputs.{Inputs, State, Under, keeps_helpers}
use Rattle.load_plan.specs.Passes.{CannotPutValues, CannotRelocateTypes, CannotResolve, CannotWriteExterns, CannotWriteNumbers, ExternSlots, Externs, FunctionRecords, GlobalValues, HasNamelessRecord, Helpers, KernelTypes, LacksKernelTypes, LacksNumber, Links, Makes, MapNumbers, MapSlots, OfKsyms, OfParse, OfRelocation, OfTypeRelocation, OfTypes, Pass, Refuses, TypeSlots, Types, first_table, lacks_kernel_types, maps_given, rule_of_externs, unlinked_of}
use Rattle.plan_errors.specs.declared.error.PrepareError.{PrepareError}
use Rattle.plan_errors.specs.declared.error.PrepareError.TheVariants as error
use Rattle.object_externs.specs.Externs.{ExternsContent}
use Rattle.object_parts.specs.Content.{FunctionContent, ProgramContent, function_at, key_cmp}
use Rattle.object_parts.specs.Installed.{AreChanged}
use Rattle.plan_laws.proofs.Entries.{same-entries}
use Rattle.plan_laws.proofs.Parsed.{Rising, keys-total}
use Rattle.plan_laws.proofs.Resolved.{resolved-same}
use Rattle.load_plan.specs.Numbers.{are_numbered, is_unnumbered, set_number}
use Rattle.relocation_errors.specs.declared.error.EbpfRelocationError.{EbpfRelocationError}
use Rattle.relocation_errors.specs.declared.error.RelocationError.{RelocationError}
use Rattle.settings.specs.Content.{SettingsContent}
use Rattle.slot_relocation.specs.Maps.{map_rule}
use Rattle.slot_relocation.specs.Writes.{HasErrorIn, HasFaultInside, Rule, relocations_inside}
use Rattle.relocation_errors.specs.declared.type_relocations.BtfRelocationCause.{BtfRelocationCause}

-- Functions by key.

functions-same : (old a b : List (Key × FunctionContent)) → IsStrictlySortedBy key_cmp (keys_of old)
    → keys_of a ≡ keys_of old → keys_of b ≡ keys_of old → ((key : Key) → function_at a key ≡ function_at b key) → a ≡ b
functions-same old a b rising one two same =
    same-entries keys-total b a (subst (IsStrictlySortedBy key_cmp) (sym two) rising) (one ∙ sym two) same

changed-same : (change : FunctionContent → FunctionContent) (old a b : List (Key × FunctionContent))
    → IsStrictlySortedBy key_cmp (keys_of old) → AreChanged change old a → AreChanged change old b → a ≡ b
changed-same change old a b rising one two =
    functions-same old a b rising one.keys two.keys (λ key. one.at key ∙ sym (two.at key))

-- Linked programs.

value-of : {A : Type 0} (x y : A) → Some x ≡ Some y → x ≡ y
value-of x y same = cc

linked-one : (laws : LayoutIsUnique) (u : Unlinked) (own : Key) (g h : FunctionContent) → IsLinked u own g
    → IsLinked u own h → g ≡ h
linked-one laws u own g h one two =
    let keys : one.keys ≡ two.keys = laws.same (table_of u) own one.keys two.keys one.layout two.layout in
    let function : one.function ≡ two.function = value-of one.function two.function (sym one.before ∙ two.before) in
    one.content ∙ ap₂ (λ (ks : List Key) (f : FunctionContent). linked_function u own ks f) keys function
    ∙ sym two.content

linked-same : (laws : LayoutIsUnique) (u : Unlinked) (keys : List Key) (a b : List (Key × FunctionContent))
    → IsStrictlySortedBy key_cmp (keys_of u.functions) → AreLinked u keys a → AreLinked u keys b → a ≡ b
linked-same laws u keys a b rising one two =
    functions-same u.functions a b rising one.stay two.stay (λ key. by key (has keys key) refl) where
      by : (key : Key) (t : Bool) → has keys key ≡ t → function_at a key ≡ function_at b key
      by key true is =
          let g = one.programs key is in
          let h = two.programs key is in
          g.1.0 ∙ ap (λ (f : FunctionContent). Some f) (linked-one laws u key g.0 h.0 g.1.1 h.1.1) ∙ sym h.1.0
      by key false is = one.others key is ∙ sym (two.others key is)

-- Rewritten types.

sizes-same : (file : List ℕ) (s o t p : List ℕ → Option ℕ) → AreNumbersOf file s o → AreNumbersOf file t p → s ≡ t
sizes-same file s o t p one two = λ i name. (one.size_at name ∙ sym (two.size_at name)) i

offsets-same : (file : List ℕ) (s o t p : List ℕ → Option ℕ) → AreNumbersOf file s o → AreNumbersOf file t p → o ≡ p
offsets-same file s o t p one two = λ i name. (one.offset_at name ∙ sym (two.offset_at name)) i

-- The answers to the questions of a table are the same.
pub record Agree (u v : Under) : Type 0 where
  pub answers : (table : Table) → AreAsked table u.answers → AreAsked table v.answers → u.answers ≡ v.answers

pub answers-same : (u v : Under) (agree : Agree u v) (file : List ℕ) (ksyms : Option (ℕ × Option ℕ))
    → (types a b : Option Table) → IsRewritten u.answers file ksyms types a → IsRewritten v.answers file ksyms types b
    → u.answers ≡ v.answers
answers-same u v agree file ksyms None None None one two = one.unasked ∙ sym two.unasked
answers-same u v agree file ksyms None None (Some y) one two = absurd two
answers-same u v agree file ksyms None (Some x) b one two = absurd one
answers-same u v agree file ksyms (Some table) None b one two = absurd one
answers-same u v agree file ksyms (Some table) (Some x) None one two = absurd two
answers-same u v agree file ksyms (Some table) (Some x) (Some y) one two = by (length table.types == 0) one two where
  by : (t : Bool) → IsRewrittenIf t u.answers file ksyms table x → IsRewrittenIf t v.answers file ksyms table y
      → u.answers ≡ v.answers
  by true first second = first.unasked ∙ sym second.unasked
  by false first second = agree.answers (stepped ksyms table) first.asked second.asked

types-same : (answers : Answers) (file : List ℕ) (ksyms : Option (ℕ × Option ℕ)) (types a b : Option Table)
    → IsRewritten answers file ksyms types a → IsRewritten answers file ksyms types b → a ≡ b
types-same answers file ksyms None None None one two = refl
types-same answers file ksyms None None (Some y) one two = absurd two
types-same answers file ksyms None (Some x) b one two = absurd one
types-same answers file ksyms (Some table) None b one two = absurd one
types-same answers file ksyms (Some table) (Some x) None one two = absurd two
types-same answers file ksyms (Some table) (Some x) (Some y) one two = by (length table.types == 0) one two where
  by : (t : Bool) → IsRewrittenIf t answers file ksyms table x → IsRewrittenIf t answers file ksyms table y
      → Some x ≡ Some y
  by true first second = first.same ∙ sym second.same
  by false first second =
      let sizes = sizes-same file first.sizes first.offsets second.sizes second.offsets first.numbers second.numbers in
      let offsets =
      offsets-same file first.sizes first.offsets second.sizes second.offsets first.numbers second.numbers in
      ap (λ (t : Table). Some t)
      (first.table_is ∙ ap₂ (λ (s o : List ℕ → Option ℕ). sanitized answers s o (stepped ksyms table)) sizes offsets
      ∙ sym second.table_is)

-- Each pass.

-- The condition on two answers under which a pass has one result.
abbrev pub Needs : Pass → Under → Under → Type 0
Needs Types u v = Agree u v
Needs Helpers u v = is_some u.has_helpers ≡ is_some v.has_helpers → u.has_helpers ≡ v.has_helpers
Needs _ u v = Unit {0}

externs-same : (i : Inputs) (types : Option Table) (old a b : ExternsContent)
    → MatchOption types (a ≡ old)
    (λ table. AreResolved table (first_table i) i.symbols.bytes i.symbols.failed old a)
    → MatchOption types (b ≡ old)
    (λ table. AreResolved table (first_table i) i.symbols.bytes i.symbols.failed old b) → a ≡ b
externs-same i None old a b one two = one ∙ sym two
externs-same i (Some table) old a b one two =
    resolved-same table (first_table i) i.symbols.bytes i.symbols.failed old a b one two

with-functions : (s a b : State) → a ≡ record s { functions = a.functions } → b ≡ record s { functions = b.functions }
    → a.functions ≡ b.functions → a ≡ b
with-functions s a b one two same =
    one ∙ ap (λ (f : List (Key × FunctionContent)). record s { functions = f }) same ∙ sym two

pub makes-one : (laws : LayoutIsUnique) (i : Inputs) (u v : Under) (p : Pass)
    → (s a b : State) → Rising s → Needs p u v → Makes p i u s a → Makes p i v s b → a ≡ b
makes-one laws i u v FunctionRecords s a b rising needs one two = one.1 ∙ sym two.1
makes-one laws i u v MapNumbers s a b rising needs one two = one.1 ∙ sym two.1
makes-one laws i u v GlobalValues s a b rising needs one two = one.maps ∙ sym two.maps
makes-one laws i u v KernelTypes s a b rising needs one two = one.1 ∙ sym two.1
makes-one laws i u v Externs s a b rising needs one two =
    one.others ∙ ap (λ (x : ExternsContent). record s { externs = x })
    (externs-same i s.types s.externs a.externs b.externs one.externs two.externs) ∙ sym two.others
makes-one laws i u v TypeSlots s a b rising needs one two =
    with-functions s a b one.others two.others
    (changed-same _ s.functions a.functions b.functions rising one.functions two.functions)
makes-one laws i u v Types s a b rising needs one two =
    let answers : v.answers ≡ u.answers =
    sym (answers-same u v needs s.file s.externs.ksyms s.types a.types b.types one.types two.types) in
    let there : IsRewritten u.answers s.file s.externs.ksyms s.types b.types =
    subst (λ (x : Answers). IsRewritten x s.file s.externs.ksyms s.types b.types) answers two.types in
    one.others ∙ ap (λ (x : Option Table). record s { types = x })
    (types-same u.answers s.file s.externs.ksyms s.types a.types b.types one.types there) ∙ sym two.others
makes-one laws i u v MapSlots s a b rising needs one two =
    with-functions s a b one.others two.others
    (changed-same _ s.functions a.functions b.functions rising one.functions two.functions)
makes-one laws i u v ExternSlots s a b rising needs one two =
    with-functions s a b one.others two.others
    (changed-same _ s.functions a.functions b.functions rising one.functions two.functions)
makes-one laws i u v Links s a b rising needs one two =
    with-functions s a b one.others two.others
    (linked-same laws (unlinked_of s)
    (program_keys s.programs) a.functions b.functions rising one.programs two.programs)
makes-one laws i u v Helpers s a b rising needs one two =
    let same : keeps_helpers u ≡ keeps_helpers v =
    ap (λ (o : Option Bool). unwrap_or o true) (needs (one.asked ∙ sym two.asked)) in
    one.functions ∙ ap (λ (t : Bool). record s { functions = for_kernel t s.functions }) same ∙ sym two.functions

-- The keys are unchanged.

helpers-keys : (t : Bool) (functions : List (Key × FunctionContent))
    → keys_of (for_kernel t functions) ≡ keys_of functions
helpers-keys true functions = refl
helpers-keys false [] = refl
helpers-keys false (f ∷ fs) = ap (λ (ks : List Key). f.0 ∷ ks) (helpers-keys false fs)

keys-stay : (i : Inputs) (u : Under) (p : Pass) (s t : State) → Makes p i u s t
    → keys_of t.functions ≡ keys_of s.functions
keys-stay i u FunctionRecords s t made = ap (λ (x : State). keys_of x.functions) made.1
keys-stay i u MapNumbers s t made = ap (λ (x : State). keys_of x.functions) made.1
keys-stay i u GlobalValues s t made = ap (λ (x : State). keys_of x.functions) made.maps
keys-stay i u KernelTypes s t made = ap (λ (x : State). keys_of x.functions) made.1
keys-stay i u Externs s t made = ap (λ (x : State). keys_of x.functions) made.others
keys-stay i u TypeSlots s t made = made.functions.keys
keys-stay i u Types s t made = ap (λ (x : State). keys_of x.functions) made.others
keys-stay i u MapSlots s t made = made.functions.keys
keys-stay i u ExternSlots s t made = made.functions.keys
keys-stay i u Links s t made = made.programs.stay
keys-stay i u Helpers s t made =
    ap (λ (x : State). keys_of x.functions) made.functions ∙ helpers-keys (keeps_helpers u) s.functions

pub stays-rising : (i : Inputs) (u : Under) (p : Pass) (s t : State) → Rising s → Makes p i u s t → Rising t
stays-rising i u p s t rising made = subst (IsStrictlySortedBy key_cmp) (sym (keys-stay i u p s t made)) rising

-- A pass that is made doesn't refuse.

or-left : (a b : Bool) → a ≡ true → (a || b) ≡ true
or-left true b is = refl
or-left false b is = cc

or-right : (a b : Bool) → b ≡ true → (a || b) ≡ true
or-right true b is = refl
or-right false b is = is

both : (a b : Bool) → (a && b) ≡ true → (a ≡ true) × (b ≡ true)
both true b is = (refl, is)
both false b is = absurd (cc)

any-then : {A : Type 0} (p q : A → Bool) → ((x : A) → p x ≡ true → q x ≡ true) → (xs : List A) → list_any p xs ≡ true
    → list_any q xs ≡ true
any-then p q then [] is = is
any-then p q then (x ∷ xs) is = by (p x) refl is (any-then p q then xs) where
  by : (t : Bool) → p x ≡ t → (t || list_any p xs) ≡ true → (list_any p xs ≡ true → list_any q xs ≡ true)
      → (q x || list_any q xs) ≡ true
  by true here is rest = or-left (q x) (list_any q xs) (then x here)
  by false here is rest = or-right (q x) (list_any q xs) (rest is)

not-true : (t : Bool) → not t ≡ true → t ≡ true → ⊥
not-true true one two = cc
not-true false one two = cc

keeps-then : (types : Option Table) (name : List ℕ) (id : ℕ) → names_function types id ≡ false → (f : FunctionContent)
    → keeps_type name id f ≡ true → keeps_nameless types f ≡ true
unfolding keeps_type
keeps-then types name id nameless f is =
    let kept = (both (bytes_eq f.name name) (list_any (λ r. r.type_id == id) f.func_info) is).1 in
    any-then (λ r. r.type_id == id) (λ r. not (names_function types r.type_id))
    (λ r same. let e : r.type_id ≡ id = grind arith in ap not (ap (names_function types) e ∙ nameless)) f.func_info kept

not-nameless : (s : State) (e : PrepareError) → all_named s.types s.functions ≡ true → HasNamelessRecord s e → ⊥
not-nameless s (error.FunctionRecordType function id) named lacks =
    not-true (list_any (λ x. keeps_nameless s.types x.1) s.functions) named
    (any-then (λ x. keeps_type (string_bytes function) id x.1) (λ x. keeps_nameless s.types x.1)
    (λ x. keeps-then s.types (string_bytes function) id lacks.nameless x.1) s.functions lacks.kept)
not-nameless s _ named lacks = lacks

unnumbered-then : (settings : SettingsContent) (name : List ℕ) (e : List ℕ × MapView)
    → is_unnumbered settings name e ≡ true → is_none (set_number settings e.0) ≡ true
unfolding is_unnumbered
unnumbered-then settings name e is =
    let parts = both (bytes_eq e.0 name) (is_none (set_number settings name)) is in
    ap (λ (n : List ℕ). is_none (set_number settings n)) ((bytes_eq-Decides e.0 name).0 parts.0) ∙ parts.1

not-unnumbered : (settings : SettingsContent) (s : State) (e : PrepareError) → are_numbered settings s.maps ≡ true
    → LacksNumber settings s e → ⊥
not-unnumbered settings s (error.MapNumberMissing name) numbered lacks =
    not-true (list_any (λ x. is_none (set_number settings x.0)) s.maps) numbered
    (any-then (is_unnumbered settings (string_bytes name)) (λ x. is_none (set_number settings x.0))
    (unnumbered-then settings (string_bytes name)) s.maps lacks)
not-unnumbered settings s _ numbered lacks = lacks

not-without-types : (kernel : List Table) (s : State) (e : PrepareError) → lacks_kernel_types kernel s ≡ false
    → LacksKernelTypes kernel s e → ⊥
not-without-types kernel s error.KernelTypesRequired there lacks = cc
not-without-types kernel s _ there lacks = lacks

pub of-parse : (Stands : ParseError → Type 0) → ((e : ParseError) → Stands e → ⊥) → (e : PrepareError)
    → OfParse Stands e → ⊥
of-parse Stands none (error.Parse e) stands = none e stands
of-parse Stands none _ stands = stands

of-ksyms : (Stands : KsymsError → Type 0) → ((e : KsymsError) → Stands e → ⊥) → (e : PrepareError) → OfKsyms Stands e
    → ⊥
of-ksyms Stands none (error.Ksyms e) stands = none e stands
of-ksyms Stands none _ stands = stands

of-type-relocation : (Stands : BtfRelocationCause → Type 0) → ((e : BtfRelocationCause) → Stands e → ⊥)
    → (e : PrepareError) → OfTypeRelocation Stands e → ⊥
of-type-relocation Stands none (error.BtfRelocation e) stands = none e.error stands
of-type-relocation Stands none _ stands = stands

of-types : (Stands : BtfError → Type 0) → ((e : BtfError) → Stands e → ⊥) → (e : PrepareError) → OfTypes Stands e → ⊥
of-types Stands none (error.Types e) stands = none e stands
of-types Stands none _ stands = stands

of-relocation : (Stands : EbpfRelocationError → Type 0) → ((e : EbpfRelocationError) → Stands e → ⊥)
    → (e : PrepareError) → OfRelocation Stands e → ⊥
of-relocation Stands none (error.Relocation e) stands = none e stands
of-relocation Stands none _ stands = stands

not-faulty : (fault : Option GlobalFault) → fault ≡ None → (e : ParseError) → Says fault e → ⊥
not-faulty fault none e says = subst (λ (o : Option GlobalFault). Says o e) none says

not-unresolvable : (i : Inputs) (types : Option Table) (old new : ExternsContent)
    → MatchOption types (new ≡ old)
    (λ table. AreResolved table (first_table i) i.symbols.bytes i.symbols.failed old new)
    → (e : KsymsError)
    → IsSomeAnd types (λ table. resolution.CannotResolve table (first_table i) i.symbols.bytes i.symbols.failed old e)
    → ⊥
not-unresolvable i None old new made e cannot = cannot
not-unresolvable i (Some table) old new made e cannot = made.faultless e cannot

not-refused-table : (u v : Under) (agree : Agree u v) (file : List ℕ) (ksyms : Option (ℕ × Option ℕ))
    → (table new : Table) → IsRewrittenTable u.answers file ksyms table new → (e : BtfError)
    → TableFault v.answers file ksyms table e → ⊥
not-refused-table u v agree file ksyms table new made e fault = by fault.fault where
  by : StepFault ksyms table e
      ⊎ (IsFaultless (StepFault ksyms table)
      × IsRefusedUnder v.answers fault.sizes fault.offsets (stepped ksyms table) e) → ⊥
  by (inl step) = made.stepped_whole.none e step
  by (inr refused) =
      let answers : v.answers ≡ u.answers = sym (agree.answers (stepped ksyms table) made.asked refused.1.0) in
      let sizes = sizes-same file fault.sizes fault.offsets made.sizes made.offsets fault.numbers made.numbers in
      let offsets = offsets-same file fault.sizes fault.offsets made.sizes made.offsets fault.numbers made.numbers in
      let one =
      subst (λ (x : Answers). SanitizingFault (stepped ksyms table).order
      (facts_in x fault.sizes fault.offsets (stepped ksyms table)) e) answers refused.1.1 in
      let two =
      subst (λ (x : List ℕ → Option ℕ). SanitizingFault (stepped ksyms table).order
      (facts_in u.answers x fault.offsets (stepped ksyms table)) e) sizes one in
      made.accepted.none.none e
      (subst (λ (x : List ℕ → Option ℕ). SanitizingFault (stepped ksyms table).order
      (facts_in u.answers made.sizes x (stepped ksyms table)) e) offsets two)

not-unrewritable : (u v : Under) (agree : Agree u v) (file : List ℕ) (ksyms : Option (ℕ × Option ℕ))
    → (types new : Option Table) → IsRewritten u.answers file ksyms types new → (e : BtfError)
    → CannotRewrite v.answers file ksyms types e → ⊥
not-unrewritable u v agree file ksyms None new made e cannot = cannot
not-unrewritable u v agree file ksyms (Some table) None made e cannot = made
not-unrewritable u v agree file ksyms (Some table) (Some new) made e cannot =
    by (length table.types == 0) cannot.0 made where
      by : (t : Bool) → t ≡ false → IsRewrittenIf t u.answers file ksyms table new → ⊥
      by true some first = cc
      by false some first = not-refused-table u v agree file ksyms table new first e cannot.1

fault-inside : (rule : Rule) (file : List ℕ) (functions : List (Key × FunctionContent)) (name : Option (List ℕ))
    → (e : RelocationError) → HasErrorIn rule file functions name e
    → HasFaultInside rule (relocations_inside file) functions
fault-inside rule file [] name e has = has
fault-inside rule file (g ∷ gs) name e (inl has) = inl (has.0, has.1, has.2)
fault-inside rule file (g ∷ gs) name e (inr has) = inr (fault-inside rule file gs name e has)

not-unlinkable : (u : Unlinked) (programs : List (List ℕ × ProgramContent)) (name : Option (List ℕ))
    → (e : RelocationError) → AllCanBeLinked u (program_keys programs) → HasFaultOf u programs name e → ⊥
not-unlinkable u [] name e can has = has
not-unlinkable u (p ∷ ps) name e can (inl has) = can.0.none e has.1
not-unlinkable u (p ∷ ps) name e can (inr has) = not-unlinkable u ps name e can.1 has

pub refuses-not : (i : Inputs) (u v : Under) (agree : Agree u v) (p : Pass)
    → (s t : State) (e : PrepareError) → Rising s → Makes p i u s t → Refuses p i v s e → ⊥
refuses-not i u v agree FunctionRecords s t e rising made refuses = not-nameless s e made.0 refuses
refuses-not i u v agree MapNumbers s t e rising made refuses = not-unnumbered i.settings s e made.0 refuses
refuses-not i u v agree GlobalValues s t e rising made refuses =
    of-parse (CannotPutValues i.settings s) (not-faulty _ made.sound) e refuses
refuses-not i u v agree KernelTypes s t e rising made refuses = not-without-types i.kernel_types s e made.0 refuses
refuses-not i u v agree Externs s t e rising made refuses =
    of-ksyms (CannotResolve (first_table i) i.symbols s)
    (not-unresolvable i s.types s.externs t.externs made.externs) e refuses
refuses-not i u v agree TypeSlots s t e rising made refuses =
    of-type-relocation (CannotRelocateTypes i.kernel_types s) made.sound.none e refuses
refuses-not i u v agree Types s t e rising made refuses =
    of-types (CannotRewrite v.answers s.file s.externs.ksyms s.types)
    (not-unrewritable u v agree s.file s.externs.ksyms s.types t.types made.types) e refuses
refuses-not i u v agree MapSlots s t e rising made refuses =
    of-relocation (CannotWriteNumbers i.settings s)
    (λ x has. made.sound.none
    (fault-inside (map_rule (maps_given i.settings s)) s.file s.functions
    (option_map string_bytes x.function) x.error has)) e refuses
refuses-not i u v agree ExternSlots s t e rising made refuses =
    of-relocation (CannotWriteExterns s)
    (λ x has. made.sound.none
    (fault-inside (rule_of_externs s) s.file s.functions (option_map string_bytes x.function) x.error has)) e refuses
refuses-not i u v agree Links s t e rising made refuses =
    of-relocation _ (λ x has. not-unlinkable (unlinked_of s) s.programs
    (option_map string_bytes x.function) x.error made.sound has) e refuses
refuses-not i u v agree Helpers s t e rising made refuses = refuses
