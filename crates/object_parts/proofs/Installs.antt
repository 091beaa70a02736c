-- Functions that are installed one after the other.
use Rattle.std.proofs.Common.{◌≡◌, ℕ, Bool, true, false, cond, List, [], ◌∷◌, ◌++◌, Option, Some, refl, sym, ap, ◌∙◌, subst, is_some, append_assoc}
use Rattle.std.specs.Prelude.{◌||◌}
use Rattle.std.specs.BTreeMap.{is_at}
use Rattle.std.specs.List.{list_any}
use Rattle.std.specs.Map.{keys_of}
use Rattle.object_parts.specs.Content.{FunctionContent, Replaces, function_at, has_function, key_cmp, key_of}
use Rattle.object_parts.specs.Installed.{AreThere, Installed}

abbrev Entry : Type 0
Entry = (ℕ × ℕ) × FunctionContent

-- Whether a function has a key depends on the keys alone.
has_first : (b : Bool) (f : FunctionContent) (o : Option FunctionContent) (rest : Bool) → is_some o ≡ rest → is_some (cond b (Some f) o) ≡ (b || rest)
has_first true f o rest h = refl
has_first false f o rest h = h

has_by_keys : (es : List Entry) (key : ℕ × ℕ) → has_function es key ≡ list_any (is_at (key_cmp key)) (keys_of es)
has_by_keys [] key = refl
has_by_keys (e ∷ es) key = has_first (is_at (key_cmp key) e.0) e.1 (function_at es key) (list_any (is_at (key_cmp key)) (keys_of es)) (has_by_keys es key)

still_there : (old new : List Entry) (key : ℕ × ℕ) → keys_of new ≡ keys_of old → has_function old key ≡ true → has_function new key ≡ true
still_there old new key e h = has_by_keys new key ∙ ap (list_any (is_at (key_cmp key))) e ∙ sym (has_by_keys old key) ∙ h

pub none_installed : (old : List Entry) → Installed old old []
none_installed old = record { keys = refl; at = λ key. refl }

pub one_installed : (old cur new : List Entry) (g : FunctionContent) (gs : List FunctionContent) → Installed old cur gs → Replaces cur new g → Installed old new (g ∷ gs)
one_installed old cur new g gs i r = record {
  keys = r.keys ∙ i.keys;
  at = λ key. r.at key ∙ ap (λ o. cond (is_at (key_cmp (key_of g)) key) (Some g) o) (i.at key);
}

there_back : (fs : List Entry) (xs : List FunctionContent) (g : FunctionContent) (done : List FunctionContent) → AreThere fs (xs ++ (g ∷ done)) → has_function fs (key_of g) ≡ true
there_back fs [] g done h = h.0
there_back fs (x ∷ xs) g done h = there_back fs xs g done h.1

pub popped_there : (old cur : List Entry) (all rest xs : List FunctionContent) (g : FunctionContent) (done : List FunctionContent) → AreThere old all → rest ++ done ≡ all → rest ≡ xs ++ (g ∷ []) → Installed old cur done → has_function cur (key_of g) ≡ true
popped_there old cur all rest xs g done h e r i =
    let split : all ≡ xs ++ (g ∷ done) = sym e ∙ ap (λ l. l ++ done) r ∙ append_assoc xs (g ∷ []) done in
    still_there old cur (key_of g) i.keys (there_back old xs g done (subst (AreThere old) split h))
