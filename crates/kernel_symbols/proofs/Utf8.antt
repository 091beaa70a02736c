-- Bytes that are UTF-8.
use Rattle.std.proofs.Common.{◌≡◌, ℕ, Bool, true, List, Result, Ok, Err, Bor, sym, ◌∙◌}
use Rattle.std.specs.Prelude.{MatchResult, is_ok}
use Rattle.std.specs.Str.{IsAscii, IsUtf8, is_utf8}
use Rattle.std.proofs.lemmas.Bool.{false_from_ne_true}
use Rattle.std.proofs.lemmas.Str.{is_utf8-from_IsUtf8, IsUtf8-from_ascii, IsUtf8-from_is_utf8}

-- Bytes of ASCII are UTF-8.
pub ascii_text : (bytes : List ℕ) → IsAscii bytes → true ≡ is_utf8 bytes
ascii_text bytes ascii = sym (is_utf8-from_IsUtf8 bytes (IsUtf8-from_ascii bytes ascii))

pub is_text : {E : Type 0} (P : E → Type 0) (bytes : List ℕ) (r : Result (Bor (List ℕ)) E) (b : Bool) → MatchResult r (λ s. (s.now ≡ bytes) × IsUtf8 bytes) (λ e. ¬ (IsUtf8 bytes) × P e) → b ≡ is_ok r → b ≡ is_utf8 bytes
is_text P bytes (Ok s) b h e = e ∙ sym (is_utf8-from_IsUtf8 bytes h.1)
is_text P bytes (Err s) b h e = e ∙ sym (false_from_ne_true (is_utf8 bytes) (λ k. h.0 (IsUtf8-from_is_utf8 bytes k)))
