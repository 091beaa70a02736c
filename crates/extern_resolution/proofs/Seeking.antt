-- The externs that are searched among the kernel's symbols.
use Rattle.std.proofs.Common.{◌≡◌, ◌≢◌, ℕ, Bool, true, false, ◌||◌, ◌&&◌, List, [], ◌∷◌, Option, None, Some, Bor, refl, ap, sym, ◌∙◌, subst}
use Rattle.std.specs.Str.{bytes_eq}
use Rattle.std.specs.String.{string_bytes}
use Rattle.extern_resolution.specs.Errors.{SaysOfSymbols}
use Rattle.extern_resolution.specs.Faults.{SymbolsFault}
use Rattle.extern_resolution.specs.Outcomes.{is_any_sought, is_name_sought, is_sought}
use Rattle.extern_resolution.specs.Steps.{AreSought, AreSoughtNames, CannotSeek}
use Rattle.extern_resolution.specs.declared.error.KsymsError.{KsymsError}
use Rattle.extern_resolution.specs.declared.error.KsymsError.TheVariants as error
use Rattle.kernel_symbols.specs.Reading.{AreAddresses, ReaderFault}
use Rattle.kernel_symbols.specs.Texts.{AreTwo, IsAmong, IsGiven, TextFault, has_unreadable, lines_of, said}
use Rattle.kernel_symbols.specs.declared.error.SymbolsError.{SymbolsError}
use Rattle.kernel_symbols.specs.declared.error.SymbolsError.TheVariants as symbols_error
use Rattle.kernel_symbols.specs.declared.wanted.Addresses.{Addresses}
use Rattle.object_externs.specs.Externs.{ExternContent}

true_false : true ≡ false → ⊥
true_false h = absurd cc

-- If no extern is searched, no name is searched.
no_name : (externs : List (List ℕ × ExternContent)) (name : List ℕ) → is_any_sought externs ≡ false → is_name_sought externs name ≡ false
no_name [] name none = refl
no_name (e ∷ externs) name none = at (is_sought e.1) refl none (no_name externs name)
  where
    at : (b : Bool) → is_sought e.1 ≡ b → (b || is_any_sought externs) ≡ false → (is_any_sought externs ≡ false → is_name_sought externs name ≡ false) → is_name_sought (e ∷ externs) name ≡ false
    at true is h rest = absurd cc
    at false is h rest = ap (λ (b : Bool). (b && bytes_eq e.0 name) || is_name_sought externs name) is ∙ rest h

-- The text that a reader has, or no bytes.
abbrev pub some_text : Option (List ℕ) → List ℕ
some_text None = []
some_text (Some bytes) = bytes

pub some_given : (known : Option (List ℕ)) → IsGiven known (some_text known)
some_given None = tt
some_given (Some bytes) = refl

no_symbols_fault : (failed : Bool) (text : List ℕ) (externs : List (List ℕ × ExternContent)) → is_any_sought externs ≡ false → (f : KsymsError) → SymbolsFault failed text externs f → ⊥
no_symbols_fault failed text externs none (error.KallsymsAccessError x) h = true_false (sym h.0 ∙ none)
no_symbols_fault failed text externs none (error.KallsymsParseError n) h = true_false (sym h.0 ∙ no_name externs (string_bytes n) none)
no_symbols_fault failed text externs none (error.AmbiguousResolution n a b) h = true_false (sym h.0 ∙ no_name externs (string_bytes n) none)
no_symbols_fault failed text externs none error.TypedKsymRequiresKernelBtf h = h
no_symbols_fault failed text externs none (error.VariableNotFound n) h = h
no_symbols_fault failed text externs none (error.FunctionNotFound n) h = h
no_symbols_fault failed text externs none (error.IncompatibleFunctionSignature n) h = h
no_symbols_fault failed text externs none (error.IncompatibleVariableType n) h = h
no_symbols_fault failed text externs none (error.InvalidExternType n) h = h
no_symbols_fault failed text externs none (error.BtfError x) h = h
no_symbols_fault failed text externs none error.OutOfMemory h = h

pub nothing_sought : (externs : List (List ℕ × ExternContent)) (known : Option (List ℕ)) (failed : Bool) (found : Addresses) → is_any_sought externs ≡ false → AreSought externs known failed found
nothing_sought externs known failed found none = record {
  text = some_text known;
  given = some_given known;
  none = record { none = no_symbols_fault failed (some_text known) externs none };
  value = λ name h. absurd (true_false (sym h ∙ no_name externs name none));
}

lent : List ℕ → Bor (List ℕ)
lent bytes = record { ref_ptr = (0, 0); now = bytes }

all_sought_faultless : (externs : List (List ℕ × ExternContent)) (names : List (Bor (List ℕ))) (text : List ℕ) → AreSoughtNames externs names → ((e : SymbolsError) → TextFault false (IsAmong names) text e → ⊥) → (f : KsymsError) → SymbolsFault false text externs f → ⊥
unfolding lent
all_sought_faultless externs names text same none (error.KallsymsAccessError x) h = none (symbols_error.Access x) h.1
all_sought_faultless externs names text same none (error.KallsymsParseError n) h = none (symbols_error.UnreadableAddress (lent (string_bytes n))) (same.same (string_bytes n) ∙ h.0, h.1)
all_sought_faultless externs names text same none (error.AmbiguousResolution n a b) h = none (symbols_error.Ambiguous (lent (string_bytes n)) a b) (same.same (string_bytes n) ∙ h.0, h.1)
all_sought_faultless externs names text same none error.TypedKsymRequiresKernelBtf h = h
all_sought_faultless externs names text same none (error.VariableNotFound n) h = h
all_sought_faultless externs names text same none (error.FunctionNotFound n) h = h
all_sought_faultless externs names text same none (error.IncompatibleFunctionSignature n) h = h
all_sought_faultless externs names text same none (error.IncompatibleVariableType n) h = h
all_sought_faultless externs names text same none (error.InvalidExternType n) h = h
all_sought_faultless externs names text same none (error.BtfError x) h = h
all_sought_faultless externs names text same none error.OutOfMemory h = h

pub all_sought : (externs : List (List ℕ × ExternContent)) (names : List (Bor (List ℕ))) (known : Option (List ℕ)) (failed : Bool) (found : Addresses) → failed ≡ false → AreSoughtNames externs names → AreAddresses names known found → AreSought externs known failed found
all_sought externs names known failed found sound same addresses = record {
  text = addresses.text;
  given = addresses.given;
  none = rw sound (record { none = all_sought_faultless externs names addresses.text same addresses.faultless });
  value = λ name h. addresses.value name (same.same name ∙ h);
}

says : (failed : Bool) (text : List ℕ) (externs : List (List ℕ × ExternContent)) (names : List (Bor (List ℕ))) (e : SymbolsError) (f : KsymsError) → is_any_sought externs ≡ true → AreSoughtNames externs names → SaysOfSymbols e f → f ≢ error.OutOfMemory → TextFault failed (IsAmong names) text e → SymbolsFault failed text externs f
says failed text externs names (symbols_error.Access x) (error.KallsymsAccessError y) some same is other h = (some, h)
says failed text externs names (symbols_error.Access x) (error.KallsymsParseError n) some same is other h = absurd is
says failed text externs names (symbols_error.Access x) (error.AmbiguousResolution n a b) some same is other h = absurd is
says failed text externs names (symbols_error.Access x) error.TypedKsymRequiresKernelBtf some same is other h = absurd is
says failed text externs names (symbols_error.Access x) (error.VariableNotFound n) some same is other h = absurd is
says failed text externs names (symbols_error.Access x) (error.FunctionNotFound n) some same is other h = absurd is
says failed text externs names (symbols_error.Access x) (error.IncompatibleFunctionSignature n) some same is other h = absurd is
says failed text externs names (symbols_error.Access x) (error.IncompatibleVariableType n) some same is other h = absurd is
says failed text externs names (symbols_error.Access x) (error.InvalidExternType n) some same is other h = absurd is
says failed text externs names (symbols_error.Access x) (error.BtfError y) some same is other h = absurd is
says failed text externs names (symbols_error.Access x) error.OutOfMemory some same is other h = absurd is
says failed text externs names (symbols_error.UnreadableAddress name) (error.KallsymsParseError n) some same is other h = (ap (is_name_sought externs) is ∙ sym (same.same name.now) ∙ h.0, ap (λ (b : List ℕ). has_unreadable (said b (lines_of text))) is ∙ h.1)
says failed text externs names (symbols_error.UnreadableAddress name) (error.KallsymsAccessError y) some same is other h = absurd is
says failed text externs names (symbols_error.UnreadableAddress name) (error.AmbiguousResolution n a b) some same is other h = absurd is
says failed text externs names (symbols_error.UnreadableAddress name) error.TypedKsymRequiresKernelBtf some same is other h = absurd is
says failed text externs names (symbols_error.UnreadableAddress name) (error.VariableNotFound n) some same is other h = absurd is
says failed text externs names (symbols_error.UnreadableAddress name) (error.FunctionNotFound n) some same is other h = absurd is
says failed text externs names (symbols_error.UnreadableAddress name) (error.IncompatibleFunctionSignature n) some same is other h = absurd is
says failed text externs names (symbols_error.UnreadableAddress name) (error.IncompatibleVariableType n) some same is other h = absurd is
says failed text externs names (symbols_error.UnreadableAddress name) (error.InvalidExternType n) some same is other h = absurd is
says failed text externs names (symbols_error.UnreadableAddress name) (error.BtfError y) some same is other h = absurd is
says failed text externs names (symbols_error.UnreadableAddress name) error.OutOfMemory some same is other h = absurd is
says failed text externs names (symbols_error.Ambiguous name first second) (error.AmbiguousResolution n a b) some same is other h =
    let two : AreTwo (said (string_bytes n) (lines_of text)) first second = subst (λ (b : List ℕ). AreTwo (said b (lines_of text)) first second) (sym is.0) h.1 in
    let here : AreTwo (said (string_bytes n) (lines_of text)) a b = rw (is.1, is.2) two in
    (ap (is_name_sought externs) is.0 ∙ sym (same.same name.now) ∙ h.0, here)
says failed text externs names (symbols_error.Ambiguous name first second) (error.KallsymsAccessError y) some same is other h = absurd is
says failed text externs names (symbols_error.Ambiguous name first second) (error.KallsymsParseError n) some same is other h = absurd is
says failed text externs names (symbols_error.Ambiguous name first second) error.TypedKsymRequiresKernelBtf some same is other h = absurd is
says failed text externs names (symbols_error.Ambiguous name first second) (error.VariableNotFound n) some same is other h = absurd is
says failed text externs names (symbols_error.Ambiguous name first second) (error.FunctionNotFound n) some same is other h = absurd is
says failed text externs names (symbols_error.Ambiguous name first second) (error.IncompatibleFunctionSignature n) some same is other h = absurd is
says failed text externs names (symbols_error.Ambiguous name first second) (error.IncompatibleVariableType n) some same is other h = absurd is
says failed text externs names (symbols_error.Ambiguous name first second) (error.InvalidExternType n) some same is other h = absurd is
says failed text externs names (symbols_error.Ambiguous name first second) (error.BtfError y) some same is other h = absurd is
says failed text externs names (symbols_error.Ambiguous name first second) error.OutOfMemory some same is other h = absurd is
says failed text externs names symbols_error.OutOfMemory f some same is other h = absurd h

pub cannot_seek : (externs : List (List ℕ × ExternContent)) (names : List (Bor (List ℕ))) (known : Option (List ℕ)) (failed : Bool) (e : SymbolsError) (f : KsymsError) → is_any_sought externs ≡ true → AreSoughtNames externs names → (f ≢ error.OutOfMemory → SaysOfSymbols e f) → (e ≢ symbols_error.OutOfMemory → ReaderFault names known failed e) → f ≢ error.OutOfMemory → CannotSeek externs known failed f
cannot_seek externs names known failed e f some same is refused other =
    let fault = refused (λ memory. other (at e memory (is other))) in
    record { text = fault.text; given = fault.given; stands = says failed fault.text externs names e f some same (is other) other fault.stands }
  where
    at : (e : SymbolsError) → e ≡ symbols_error.OutOfMemory → SaysOfSymbols e f → f ≡ error.OutOfMemory
    at e memory says = subst (λ (x : SymbolsError). SaysOfSymbols x f) memory says
