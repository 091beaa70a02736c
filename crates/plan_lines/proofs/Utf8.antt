-- Names in UTF-8.
use Rattle.std.proofs.Common.{◌≡◌, ℕ, Bool, true, false, List, None, Some, refl, subst}
use Rattle.std.specs.Prelude.{String, Vec}
use Rattle.std.specs.Str.{IsUtf8, is_utf8}
use Rattle.std.specs.String.{string_bytes, string_vec}
use Rattle.std.specs.declared.alloc.Global.{Global}
use Rattle.std.proofs.lemmas.Str.{is_utf8-from_IsUtf8, IsUtf8-from_is_utf8, IsUtf8-string_bytes}
use Rattle.plan_lines.specs.LineReading.{text_in}

not_true : (b : Bool) → (b ≡ true → ⊥) → b ≡ false
not_true true h = absurd (h refl)
not_true false h = refl

pub text_in-some : (t : String Global) (v : Vec ℕ Global) → string_vec t ≡ v → text_in v.items ≡ Some (string_bytes t)
text_in-some t v e =
    subst (λ (x : Vec ℕ Global). text_in x.items ≡ Some (string_bytes t)) e
    (rw (is_utf8-from_IsUtf8 (string_bytes t) (IsUtf8-string_bytes t)) refl)

pub text_in-none : (bytes : List ℕ) → (IsUtf8 bytes → ⊥) → text_in bytes ≡ None
text_in-none bytes h = rw (not_true (is_utf8 bytes) (λ k. h (IsUtf8-from_is_utf8 bytes k))) refl
