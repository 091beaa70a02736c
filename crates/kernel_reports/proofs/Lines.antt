-- Lines of one address and one name, read as symbols.
use Rattle.std.proofs.Common.{◌≡◌, ℕ, Bool, true, false, List, [], ◌∷◌, ◌++◌, length, Option, None, Some, refl, ap, sym, subst, ◌∙◌, arith, append_assoc, inl, inr, true≢false}
use Rattle.std.specs.Prelude.{filter, flat_map, codes, slice_get, ◌==◌, ◌&&◌, ◌||◌, not, if◌then◌else◌}
use Rattle.std.specs.List.{AllByRecursion, list_any}
use Rattle.std.specs.Str.{IsUtf8, bytes_eq}
use Rattle.std.proofs.lemmas.Str.{IsUtf8-append, is_utf8-from_IsUtf8}
use lib.Utf8.{encode}
use Rattle.std.proofs.lemmas.Bool.Decides.{nat_tests}
use Rattle.kernel_symbols.specs.Addresses.{address_in}
use Rattle.kernel_symbols.specs.Reading.{is_break}
use Rattle.kernel_symbols.specs.Texts.{AreTwo, TextFault, address_of, addresses_in, has_address, has_unreadable, is_foreign, lines_of, said, said_by, said_in}
use Rattle.kernel_symbols.specs.Words.{first_and_third, is_word, onto_first, pieces_after, space_len, words_of}
use Rattle.kernel_symbols.specs.declared.error.SymbolsError.{SymbolsError}
use Rattle.kernel_symbols.specs.declared.error.SymbolsError.TheVariants as error
use Rattle.object_externs.specs.Externs.{ExternContent}
use Rattle.kernel_reports.proofs.Spaces.{neither}
use Rattle.kernel_reports.specs.Symbols.{HasNoSpace, IsAny, IsAssumed, IsPlainName, assumed_text, is_assumed, is_name_assumed, is_one_word, line_of}

one_piece : (xs : List ℕ) → HasNoSpace xs → pieces_after 0 xs ≡ xs ∷ []
unfolding pieces_after
one_piece [] h = refl
one_piece (x ∷ xs) h = rw h.0 (ap (onto_first x) (one_piece xs h.1))

one_word : (name : List ℕ) → (length name == 0) ≡ false → filter is_word (name ∷ []) ≡ name ∷ []
one_word [] h = grind arith
one_word (x ∷ xs) h = refl

-- The words of a line.
words : (name : List ℕ) → HasNoSpace name → (length name == 0) ≡ false → words_of (codes "1 T " ++ name) ≡ (49 ∷ []) ∷ (84 ∷ []) ∷ name ∷ []
unfolding pieces_after space_len
words name plain some = ap (λ ps. (49 ∷ []) ∷ (84 ∷ []) ∷ filter is_word ps) (one_piece name plain) ∙ ap (λ ws. (49 ∷ []) ∷ (84 ∷ []) ∷ ws) (one_word name some)

no_break : (x : ℕ) (xs : List ℕ) → space_len (x ∷ xs) ≡ 0 → (b : Bool) → (x == 10) ≡ b → b ≡ false
unfolding space_len
no_break x xs h true is =
    let ten : x ≡ 10 = grind (arith, nat_tests) in
    absurd (omega (arith, subst (λ y. space_len (y ∷ xs) ≡ 0) ten h))
no_break x xs h false is = refl

unbroken : (xs : List ℕ) → HasNoSpace xs → list_any is_break xs ≡ false
unbroken [] h = refl
unbroken (x ∷ xs) h = rw (no_break x xs h.0 (x == 10) refl) (unbroken xs h.1)

line_taken : (line rest : List ℕ) → list_any is_break line ≡ false → lines_of (line ++ 10 ∷ rest) ≡ line ∷ lines_of rest
unfolding lines_of
line_taken [] rest h = refl
line_taken (x ∷ xs) rest h =
    let both = neither (x == 10) (list_any is_break xs) h in
    rw both.0 (ap (onto_first x) (line_taken xs rest both.1))

lines_more : (name rest : List ℕ) → HasNoSpace name → lines_of (line_of name ++ rest) ≡ (codes "1 T " ++ name) ∷ lines_of rest
lines_more name rest plain =
    ap (λ l. lines_of (codes "1 T " ++ l)) (append_assoc name (10 ∷ []) rest)
    ∙ line_taken (codes "1 T " ++ name) rest (unbroken name plain)

line_says : (sought name : List ℕ) → HasNoSpace name → (length name == 0) ≡ false → said_in sought (codes "1 T " ++ name) ≡ (if bytes_eq name sought then Some 1 ∷ [] else [])
unfolding address_in
line_says sought name plain some = ap (λ ws. said_by sought (first_and_third ws)) (words name plain some)

abbrev says : List ℕ → List ℕ × ExternContent → List (Option ℕ)
says sought e = if is_assumed e && bytes_eq e.0 sought then Some 1 ∷ [] else []

both_true : (a b : Bool) → (a && b) ≡ true → (a ≡ true) × (b ≡ true)
both_true true b h = (refl, h)
both_true false b h = grind arith

not_empty : (name : List ℕ) → is_one_word name ≡ true → (length name == 0) ≡ false
not_empty [] h = grind arith
not_empty (x ∷ xs) h = grind (arith, nat_tests)

entry_says : (sought : List ℕ) (e : List ℕ × ExternContent) (rest : List ℕ) (others : List (Option ℕ)) → IsPlainName e → said sought (lines_of rest) ≡ others → (b : Bool) → is_assumed e ≡ b → said sought (lines_of ((if b then line_of e.0 else []) ++ rest)) ≡ (if b && bytes_eq e.0 sought then Some 1 ∷ [] else []) ++ others
entry_says sought e rest others plain h true is =
    let word : is_one_word e.0 ≡ true = (both_true _ (is_one_word e.0) is).1 in
    let name = plain is in
    ap (said sought) (lines_more e.0 rest name.plain)
    ∙ ap (λ l. l ++ said sought (lines_of rest)) (line_says sought e.0 name.plain (not_empty e.0 word))
    ∙ ap (λ l. (if bytes_eq e.0 sought then Some 1 ∷ [] else []) ++ l) h
entry_says sought e rest others plain h false is = h

text_says : (sought : List ℕ) (externs : List (List ℕ × ExternContent)) → AllByRecursion IsPlainName externs → said sought (lines_of (assumed_text externs)) ≡ flat_map (says sought) externs
unfolding lines_of
text_says sought [] plain = refl
text_says sought (e ∷ externs) plain = entry_says sought e (assumed_text externs) (flat_map (says sought) externs) plain.0 (text_says sought externs plain.1) (is_assumed e) refl

entry_first : (others : List (Option ℕ)) (other : Bool) → slice_get (addresses_in others) 0 ≡ (if other then Some 1 else None) → (b : Bool) → slice_get (addresses_in ((if b then Some 1 ∷ [] else []) ++ others)) 0 ≡ (if b || other then Some 1 else None)
entry_first others other h true = refl
entry_first others other h false = h

first_said : (sought : List ℕ) (externs : List (List ℕ × ExternContent)) → slice_get (addresses_in (flat_map (says sought) externs)) 0 ≡ (if is_name_assumed externs sought then Some 1 else None)
first_said sought [] = refl
first_said sought (e ∷ externs) = entry_first (flat_map (says sought) externs) (is_name_assumed externs sought) (first_said sought externs) (is_assumed e && bytes_eq e.0 sought)

begins_well : IsUtf8 (codes "1 T ")
unfolding encode
begins_well = (codes "1 T ", (refl, refl))

line_is_text : (name : List ℕ) → IsUtf8 name → is_foreign (codes "1 T " ++ name) ≡ false
line_is_text name u = ap not (is_utf8-from_IsUtf8 (codes "1 T " ++ name) (IsUtf8-append (codes "1 T ") name begins_well u))

entry_reads : (e : List ℕ × ExternContent) (rest : List ℕ) → IsPlainName e → list_any is_foreign (lines_of rest) ≡ false → (b : Bool) → is_assumed e ≡ b → list_any is_foreign (lines_of ((if b then line_of e.0 else []) ++ rest)) ≡ false
entry_reads e rest plain h true is =
    let name = plain is in
    ap (list_any is_foreign) (lines_more e.0 rest name.plain) ∙ ap (λ b. b || list_any is_foreign (lines_of rest)) (line_is_text e.0 name.text) ∙ h
entry_reads e rest plain h false is = h

text_reads : (externs : List (List ℕ × ExternContent)) → AllByRecursion IsPlainName externs → list_any is_foreign (lines_of (assumed_text externs)) ≡ false
unfolding lines_of
text_reads [] plain = refl
text_reads (e ∷ externs) plain = entry_reads e (assumed_text externs) plain.0 (text_reads externs plain.1) (is_assumed e) refl

-- The only address is 1.
entry_readable : (others : List (Option ℕ)) → has_unreadable others ≡ false → (b : Bool) → has_unreadable ((if b then Some 1 ∷ [] else []) ++ others) ≡ false
entry_readable others h true = h
entry_readable others h false = h

said_readable : (sought : List ℕ) (externs : List (List ℕ × ExternContent)) → has_unreadable (flat_map (says sought) externs) ≡ false
said_readable sought [] = refl
said_readable sought (e ∷ externs) = entry_readable (flat_map (says sought) externs) (said_readable sought externs) (is_assumed e && bytes_eq e.0 sought)

entry_single : (others : List (Option ℕ)) (other : ℕ) → (1 == other) ≡ false → has_address others other ≡ false → (b : Bool) → has_address ((if b then Some 1 ∷ [] else []) ++ others) other ≡ false
entry_single others other differs h true = rw differs h
entry_single others other differs h false = h

said_single : (sought : List ℕ) (other : ℕ) → (1 == other) ≡ false → (externs : List (List ℕ × ExternContent)) → has_address (flat_map (says sought) externs) other ≡ false
said_single sought other differs [] = refl
said_single sought other differs (e ∷ externs) = entry_single (flat_map (says sought) externs) other differs (said_single sought other differs externs) (is_assumed e && bytes_eq e.0 sought)

first_is_one : (b : Bool) (first : ℕ) → (if b then Some 1 else None) ≡ Some first → 1 ≡ first
first_is_one true first h = grind arith
first_is_one false first h = grind arith

not_two : (sought : List ℕ) (externs : List (List ℕ × ExternContent)) (first second : ℕ) → AreTwo (flat_map (says sought) externs) first second → ⊥
not_two sought externs first second two =
    let one : 1 ≡ first = first_is_one (is_name_assumed externs sought) first (sym (first_said sought externs) ∙ two.0) in
    let differs : (1 == second) ≡ false = rw one two.2 in
    true≢false (sym two.1 ∙ said_single sought second differs externs)

no_fault : (externs : List (List ℕ × ExternContent)) → AllByRecursion IsPlainName externs → (f : SymbolsError) → TextFault false IsAny (assumed_text externs) f → ⊥
no_fault externs plain (error.Access e) (inl h) = true≢false (sym h)
no_fault externs plain (error.Access e) (inr h) = true≢false (sym h ∙ text_reads externs plain)
no_fault externs plain (error.UnreadableAddress name) h = true≢false (sym h.1 ∙ ap has_unreadable (text_says name.now externs plain) ∙ said_readable name.now externs)
no_fault externs plain (error.Ambiguous name first second) h = not_two name.now externs first second (subst (λ s. AreTwo s first second) (text_says name.now externs plain) h.1)
no_fault externs plain error.OutOfMemory h = h

-- The text of the lines.
pub assumed : (externs : List (List ℕ × ExternContent)) (text : List ℕ) → AllByRecursion IsPlainName externs → text ≡ assumed_text externs → IsAssumed externs text
unfolding address_of
assumed externs text plain is = record {
  lines = is;
  addresses = λ name.
      ap (address_of name) is
      ∙ ap (λ s. slice_get (addresses_in s) 0) (text_says name externs plain)
      ∙ first_said name externs;
  faultless = λ f. subst (λ t. TextFault false IsAny t f → ⊥) (sym is) (no_fault externs plain f);
}
