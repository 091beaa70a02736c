-- The symbols that define functions, found by address in lists that grow.
use Rattle.std.proofs.Common.{◌≡◌, ℕ, ◌+◌, ◌<◌, Bool, true, false, List, [], ◌∷◌, ◌++◌, length, take, get_or, Option, Some, refl, sym, ap, ◌∙◌, ◌==◌, cond}
use Rattle.std.specs.Option.{option_or}
use Rattle.std.specs.Prelude.{filter, find}
use Rattle.std.proofs.lemmas.List.{take_more}
use Rattle.elf64.specs.Symbols.{Symbol}
use Rattle.object_parse.specs.TextSections.{definition_of, is_text_definition}

found-here : (here : Bool) (x : Symbol) (xs ys : Option Symbol) → cond here (Some x) (option_or xs ys) ≡ option_or (cond here (Some x) xs) ys
found-here true x xs ys = refl
found-here false x xs ys = refl

kept : (keep : Bool) (address : ℕ) (x : Symbol) (xs : List Symbol) → find (λ s. s.address == address) (cond keep (x ∷ xs) xs) ≡ cond keep (cond (x.address == address) (Some x) (find (λ s. s.address == address) xs)) (find (λ s. s.address == address) xs)
kept true address x xs = refl
kept false address x xs = refl

grouped : (keep here : Bool) (x : Symbol) (xs ys : Option Symbol) → cond keep (cond here (Some x) (option_or xs ys)) (option_or xs ys) ≡ option_or (cond keep (cond here (Some x) xs) xs) ys
grouped true here x xs ys = found-here here x xs ys
grouped false here x xs ys = refl

pub definition_of-append : (xs ys : List Symbol) (address : ℕ) → definition_of (xs ++ ys) address ≡ option_or (definition_of xs address) (definition_of ys address)
definition_of-append [] ys address = refl
definition_of-append (x ∷ xs) ys address =
    kept (is_text_definition x) address x (filter is_text_definition (xs ++ ys))
    ∙ ap (λ rest. cond (is_text_definition x) (cond (x.address == address) (Some x) rest) rest) (definition_of-append xs ys address)
    ∙ grouped (is_text_definition x) (x.address == address) x (definition_of xs address) (definition_of ys address)
    ∙ sym (ap (λ front. option_or front (definition_of ys address)) (kept (is_text_definition x) address x (filter is_text_definition xs)))

pub definition_of-more : (symbols : List Symbol) (i : ℕ) (symbol : Symbol) (address : ℕ) → i < length symbols → symbol ≡ get_or symbols i symbol → definition_of (take (i + 1) symbols) address ≡ option_or (definition_of (take i symbols) address) (definition_of (symbol ∷ []) address)
definition_of-more symbols i symbol address within is =
    ap (λ front. definition_of front address) (take_more symbols i symbol within)
    ∙ definition_of-append (take i symbols) (get_or symbols i symbol ∷ []) address
    ∙ ap (λ s. option_or (definition_of (take i symbols) address) (definition_of (s ∷ []) address)) (sym is)
