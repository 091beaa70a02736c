-- Texts that are written piece by piece.
use Rattle.std.proofs.Common.{◌≡◌, ℕ, ◌+◌, ◌<◌, ◌≤◌, List, [], ◌∷◌, ◌++◌, length, take, get_or, map, slice_get, zero, suc, None, Some, refl, ap, sym, ◌∙◌, append_assoc, append-nil, arith}
use Rattle.std.specs.Prelude.{flat_map, codes}
use Rattle.std.specs.Fmt.{decimal}
use Rattle.std.proofs.lemmas.Grind.{flat_map-append}
use Rattle.std.proofs.lemmas.List.{map-append, take_more}
use Rattle.std.proofs.lemmas.Option.{get_or_from_slice_get, slice_get_within}
use Rattle.plan_text.specs.Content.{MapContent, PlanContent, ProgramContent}
use Rattle.plan_text.specs.PlanGrammar.{map_line, map_lines, program_line, slots_line, func_line, source_line, program_lines, first_lines, feature_line, types_line, end_line, tables_line, text_in, text_of}
use Rattle.plan_lines.specs.Words.{hex_word, words_onto, line_onto, lines_onto, text_of_lines}
use Rattle.plan_lines.specs.Lines.{numbers_of, form_word}
use Rattle.plan_lines.specs.declared.line.TextVersion.TheVariants.{Second}
use Rattle.plan_lines.specs.ProgramKinds.{kind_numbers}

-- Some words, followed by more bytes.
pub words_onto-append : (words : List (List ℕ)) (s t : List ℕ) → words_onto words s ++ t ≡ words_onto words (s ++ t)
words_onto-append [] s t = refl
words_onto-append (w ∷ ws) s t = ap (λ x. 32 ∷ x) (append_assoc w (words_onto ws s) t ∙ ap (λ x. w ++ x) (words_onto-append ws s t))

pub words_onto-words : (xs ys : List (List ℕ)) (t : List ℕ) → words_onto (xs ++ ys) t ≡ words_onto xs (words_onto ys t)
words_onto-words [] ys t = refl
words_onto-words (x ∷ xs) ys t = ap (λ s. 32 ∷ x ++ s) (words_onto-words xs ys t)

pub words_onto-split : (words : List (List ℕ)) (t : List ℕ) → words_onto words t ≡ words_onto words [] ++ t
words_onto-split words t = sym (words_onto-append words [] t)

pub line_onto-append : (line : List (List ℕ)) (s t : List ℕ) → line_onto line s ++ t ≡ line_onto line (s ++ t)
line_onto-append [] s t = refl
line_onto-append (w ∷ ws) s t = append_assoc w (words_onto ws (10 ∷ s)) t ∙ ap (λ x. w ++ x) (words_onto-append ws (10 ∷ s) t)

pub lines_onto-append : (lines : List (List (List ℕ))) (s t : List ℕ) → lines_onto lines s ++ t ≡ lines_onto lines (s ++ t)
lines_onto-append [] s t = refl
lines_onto-append (line ∷ lines) s t = line_onto-append line (lines_onto lines s) t ∙ ap (line_onto line) (lines_onto-append lines s t)

pub lines_onto-lines : (xs ys : List (List (List ℕ))) (t : List ℕ) → lines_onto (xs ++ ys) t ≡ lines_onto xs (lines_onto ys t)
lines_onto-lines [] ys t = refl
lines_onto-lines (x ∷ xs) ys t = ap (line_onto x) (lines_onto-lines xs ys t)

-- Some lines, followed by other lines.
pub text_of_lines-append : (xs ys : List (List (List ℕ))) → text_of_lines (xs ++ ys) ≡ text_of_lines xs ++ text_of_lines ys
text_of_lines-append xs ys = lines_onto-lines xs ys [] ∙ sym (lines_onto-append xs [] (lines_onto ys []))

-- A line, followed by other lines.
pub text_of_lines-first : (line : List (List ℕ)) (lines : List (List (List ℕ))) → text_of_lines (line ∷ lines) ≡ text_of_lines (line ∷ []) ++ text_of_lines lines
text_of_lines-first line lines = text_of_lines-append (line ∷ []) lines

-- The text of the first `i + 1` elements is that of the first `i` elements, followed by that of the
-- element at index `i`.
pub each_line-more : {A : Type 0} (line : A → List (List ℕ)) (xs : List A) (i : ℕ) (x : A) → i < length xs → text_of_lines (map line (take (i + 1) xs)) ≡ text_of_lines (map line (take i xs)) ++ text_of_lines (line (get_or xs i x) ∷ [])
each_line-more line xs i x within =
    ap (λ some. text_of_lines (map line some)) (take_more xs i x within)
    ∙ ap text_of_lines (map-append line (take i xs) (get_or xs i x ∷ []))
    ∙ text_of_lines-append (map line (take i xs)) (line (get_or xs i x) ∷ [])

pub each_line-next : {A : Type 0} (line : A → List (List ℕ)) (xs : List A) (i : ℕ) (x : A) → slice_get xs i ≡ Some x → text_of_lines (map line (take (i + 1) xs)) ≡ text_of_lines (map line (take i xs)) ++ text_of_lines (line x ∷ [])
each_line-next line xs i x is =
    each_line-more line xs i x (slice_get_within xs i x is)
    ∙ ap (λ last. text_of_lines (map line (take i xs)) ++ text_of_lines (line last ∷ [])) (get_or_from_slice_get xs i x x is)

-- If there is no element at an index, all elements are before it.
pub take-all : {A : Type 0} (xs : List A) (i : ℕ) → slice_get xs i ≡ None → take i xs ≡ xs
take-all [] zero none = refl
take-all [] (suc i) none = refl
take-all (x ∷ xs) zero none = absurd cc
take-all (x ∷ xs) (suc i) none = ap (λ rest. x ∷ rest) (take-all xs i none)

pub each_lines-more : {A : Type 0} (lines : A → List (List (List ℕ))) (xs : List A) (i : ℕ) (x : A) → i < length xs → text_of_lines (flat_map lines (take (i + 1) xs)) ≡ text_of_lines (flat_map lines (take i xs)) ++ text_of_lines (lines (get_or xs i x))
each_lines-more lines xs i x within =
    ap (λ some. text_of_lines (flat_map lines some)) (take_more xs i x within)
    ∙ ap text_of_lines (flat_map-append lines (take i xs) (get_or xs i x ∷ []) ∙ ap (λ last. flat_map lines (take i xs) ++ last) (append-nil (lines (get_or xs i x))))
    ∙ text_of_lines-append (flat_map lines (take i xs)) (lines (get_or xs i x))

-- Lines by their words.

pub line-parts : (first : List ℕ) (words : List (List ℕ)) → text_of_lines ((first ∷ words) ∷ []) ≡ first ++ (words_onto words [] ++ 10 ∷ [])
line-parts first words = ap (λ rest. first ++ rest) (words_onto-split words (10 ∷ []))

pub map_line-parts : (m : MapContent) → text_of_lines (map_line m ∷ []) ≡ codes "map " ++ (hex_word m.name ++ ((32 ∷ []) ++ (decimal m.number ++ ((32 ∷ []) ++ (form_word m.is_btf ++ (words_onto (map decimal (numbers_of m.words)) [] ++ ((32 ∷ []) ++ (hex_word m.contents ++ 10 ∷ []))))))))
map_line-parts m =
    ap (λ rest. codes "map " ++ (hex_word m.name ++ 32 ∷ (decimal m.number ++ 32 ∷ (form_word m.is_btf ++ rest))))
    (words_onto-words (map decimal (numbers_of m.words)) (hex_word m.contents ∷ []) (10 ∷ [])
    ∙ words_onto-split (map decimal (numbers_of m.words)) ((32 ∷ hex_word m.contents) ++ 10 ∷ []))

-- Programs and plans by their lines.

pub program_lines-parts : (p : ProgramContent) → text_of_lines (program_lines Second p) ≡ text_of_lines (program_line p.name (kind_numbers p.section) ∷ []) ++ (text_of_lines (slots_line p.slots ∷ []) ++ (text_of_lines (tables_line p.tables ∷ []) ++ (text_of_lines (map func_line p.func_records) ++ text_of_lines (map source_line p.line_records))))
program_lines-parts p =
    text_of_lines-first (program_line p.name (kind_numbers p.section)) (slots_line p.slots ∷ tables_line p.tables ∷ (map func_line p.func_records ++ map source_line p.line_records))
    ∙ ap (λ rest. text_of_lines (program_line p.name (kind_numbers p.section) ∷ []) ++ rest)
    (text_of_lines-first (slots_line p.slots) (tables_line p.tables ∷ (map func_line p.func_records ++ map source_line p.line_records))
    ∙ ap (λ rest. text_of_lines (slots_line p.slots ∷ []) ++ rest)
    (text_of_lines-first (tables_line p.tables) (map func_line p.func_records ++ map source_line p.line_records)
    ∙ ap (λ rest. text_of_lines (tables_line p.tables ∷ []) ++ rest) (text_of_lines-append (map func_line p.func_records) (map source_line p.line_records))))

five_parts : (a b c d e : List (List (List ℕ))) (line : List (List ℕ)) → text_of_lines (a ++ (b ++ line ∷ (c ++ (d ++ e)))) ≡ text_of_lines a ++ (text_of_lines b ++ (text_of_lines (line ∷ []) ++ (text_of_lines c ++ (text_of_lines d ++ text_of_lines e))))
five_parts a b c d e line =
    text_of_lines-append a (b ++ line ∷ (c ++ (d ++ e)))
    ∙ ap (λ rest. text_of_lines a ++ rest) (text_of_lines-append b (line ∷ (c ++ (d ++ e)))
    ∙ ap (λ rest. text_of_lines b ++ rest) (text_of_lines-first line (c ++ (d ++ e))
    ∙ ap (λ rest. text_of_lines (line ∷ []) ++ rest) (text_of_lines-append c (d ++ e)
    ∙ ap (λ rest. text_of_lines c ++ rest) (text_of_lines-append d e))))

pub text_of-parts : (plan : PlanContent) → text_of plan ≡ text_of_lines (first_lines Second plan) ++ (text_of_lines (map feature_line plan.features) ++ (text_of_lines (types_line plan.type_bytes ∷ []) ++ (text_of_lines (flat_map map_lines plan.maps) ++ (text_of_lines (flat_map (program_lines Second) plan.programs) ++ text_of_lines (end_line ∷ [])))))
unfolding text_in
text_of-parts plan =
    five_parts (first_lines Second plan) (map feature_line plan.features) (flat_map map_lines plan.maps) (flat_map (program_lines Second) plan.programs) (end_line ∷ []) (types_line plan.type_bytes)

-- If the number of elements to take is at least the length, all elements are taken.
pub take-whole : {A : Type 0} (xs : List A) (i : ℕ) → length xs ≤ i → take i xs ≡ xs
take-whole [] zero h = refl
take-whole [] (suc i) h = refl
take-whole (x ∷ xs) zero h = absurd (omega (arith, h))
take-whole (x ∷ xs) (suc i) h = ap (λ rest. x ∷ rest) (take-whole xs i (omega (arith, h)))
