-- The rows of a listing.
use Rattle.std.proofs.Common.{◌≡◌, List, [], ◌∷◌, ◌++◌, map, ap, sym, ◌∙◌, append_assoc, append-nil}
use Rattle.std.proofs.lemmas.List.{map-append}
use Rattle.code_listing.specs.declared.column.CodeRow.{CodeRow}
use Rattle.code_listing.specs.declared.listed.ListedInstruction.{ListedInstruction}
use Rattle.code_listing.specs.Listing.{Line, line_in, line_of, shown}

abbrev lines_of : List ListedInstruction → List Line
lines_of list = map line_of (map shown list)

pub no_row : (rows : List CodeRow) (left list : List ListedInstruction) → rows ≡ [] → left ≡ list → map line_in rows ++ lines_of left ≡ lines_of list
no_row rows left list none same =
    ap (λ (rs : List CodeRow). map line_in rs ++ lines_of left) none ∙ ap lines_of same

-- One more row.
pub one_row : (done new : List CodeRow) (row : CodeRow) (x : ListedInstruction) (here left : List ListedInstruction) (all : List Line)
    → here ≡ x ∷ left
    → map line_in done ++ lines_of here ≡ all
    → line_in row ≡ line_of (shown x)
    → new ≡ done ++ row ∷ []
    → map line_in new ++ lines_of left ≡ all
one_row done new row x here left all begins before is push =
    ap (λ (rs : List CodeRow). map line_in rs ++ lines_of left) push
    ∙ ap (λ (l : List Line). l ++ lines_of left) (map-append line_in done (row ∷ []))
    ∙ append_assoc (map line_in done) (line_in row ∷ []) (lines_of left)
    ∙ ap (λ (l : Line). map line_in done ++ l ∷ lines_of left) is
    ∙ ap (λ (xs : List ListedInstruction). map line_in done ++ lines_of xs) (sym begins)
    ∙ before

-- All rows.
pub none_left : (rows : List CodeRow) (left : List ListedInstruction) (all : List Line) → left ≡ [] → map line_in rows ++ lines_of left ≡ all → map line_in rows ≡ all
none_left rows left all none h =
    sym (append-nil (map line_in rows)) ∙ ap (λ (xs : List ListedInstruction). map line_in rows ++ lines_of xs) (sym none) ∙ h
