use Rattle.std.proofs.Common.{◌≡◌, ℕ, List, [], ◌∷◌, Some, Bool, true, false, refl, ap, sym, ◌∙◌, drop, length, not}
use Rattle.std.specs.Prelude.{IsTrue, slice_get}
use Rattle.std.specs.Cmp.Lexicographic.{same_text}
use Rattle.string_table.specs.Texts.{before_nul}
use Rattle.string_table.proofs.Texts.{compared, equal_by_bytes}
use Rattle.string_table.proofs.text.begins_with.Goals as goal

-- The byte after a text that the bytes begin with is a NUL.
nul_after : (bytes text after : List ℕ) (next : ℕ) → after ≡ drop (length text) bytes → Some next ≡ slice_get after 0 → before_nul bytes ≡ Some text → next ≡ 0
nul_after bytes text after next is first e =
    let c = compared bytes text e in
    let nul : slice_get after 0 ≡ Some 0 = ap (λ (bs : List ℕ). slice_get bs 0) (is ∙ c.after) in
    cc

pub returns-then-next-ne0 : goal.returns-then-next-ne0
returns-then-next-ne0 c = (λ no. absurd cc, λ e. absurd (c.if-next-ne0.true (nul_after _ _ _ _ c.in-Some.ensures.cases.1 c.in-Some-first.ensures.value e)))

split : (xs : List ℕ) (x : ℕ) → Some x ≡ slice_get xs 0 → x ≡ 0 → (more : List ℕ) × (xs ≡ 0 ∷ more)
split [] x e z = absurd cc
split (y ∷ ys) x e z = (ys, cc)

plain_by : (b : Bool) → IsTrue (not b) → b ≡ false
plain_by true t = absurd cc
plain_by false t = refl

not_by : (b : Bool) → b ≡ false → IsTrue (not b)
not_by b e = rw e refl

pub returns : goal.returns
returns c =
    let s = split c.in-Some.after.now _ c.in-Some-first.ensures.value c.if-next-ne0.false in
    let prefix = sym (same_text _ _ (sym c.in-Some.ensures.cases.0)) in (
      λ plain. equal_by_bytes c.args.bytes.now c.args.text.now (record { more = s.0; prefix = sym prefix; after = sym c.in-Some.ensures.cases.1 ∙ s.1; plain = sym c.has_nul.ensures ∙ plain_by c.has_nul.result plain }),
      λ e. not_by c.has_nul.result (c.has_nul.ensures ∙ (compared c.args.bytes.now c.args.text.now e).plain),
    )
