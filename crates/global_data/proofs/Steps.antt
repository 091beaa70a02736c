-- The steps of patching, one global variable after the other.
use Rattle.std.proofs.Common.{◌≡◌, ℕ, suc, arith, true, false, List, [], ◌∷◌, ◌++◌, length, Option, Some, None, refl, ap, sym, ◌∙◌, subst, fold, append_assoc}
use Rattle.std.specs.Prelude.{◌==◌, option_and_then}
use Rattle.std.specs.Option.{option_map_or}
use Rattle.ebpf_items.specs.Maps.{MapView}
use Rattle.ebpf_items.specs.declared.error.ParseError.{ParseError}
use Rattle.elf64.specs.Symbols.{Symbol, symbols_of}
use Rattle.object_file.specs.Symbols.{last_named}
use Rattle.settings.specs.ValuesContent.{GlobalContent}
use Rattle.global_data.specs.GlobalData.{GlobalFault, Says, Write, first_fault, global_fault, or_fault, patched, symbol_fault, write_of, write_over}
use Rattle.global_data.specs.Writes.{writes_of}
use Rattle.global_data.proofs.Fitting.{first-stays}

-- ---- Before the first variable

pub fault_at_start : (file : List ℕ) (maps : List (List ℕ × MapView)) (globals left : List (List ℕ × GlobalContent)) → left ≡ globals → fold (or_fault (symbols_of file) maps) None left ≡ first_fault file maps globals
unfolding first_fault
fault_at_start file maps globals left is = ap (fold (or_fault (symbols_of file) maps) None) is

pub value_at_start : (symbols : List Symbol) (maps : List (List ℕ × MapView)) (globals left : List (List ℕ × GlobalContent)) (writes : List Write) → left ≡ globals → writes ≡ [] → writes ++ writes_of symbols maps left ≡ writes_of symbols maps globals
value_at_start symbols maps globals left writes is none = ap (λ (ws : List Write). ws ++ writes_of symbols maps left) none ∙ ap (writes_of symbols maps) is

-- ---- The first of the remaining variables

pub value_told : (symbols : List Symbol) (maps held : List (List ℕ × MapView)) (g : List ℕ × GlobalContent) (found : Option Symbol) (o : Option Write) → held ≡ maps → found ≡ last_named symbols g.0 → o ≡ option_and_then (write_over held g.1.bytes) found → o ≡ write_of symbols maps g
value_told symbols maps held g found o same is value =
    value ∙ ap (λ ms. option_and_then (write_over ms g.1.bytes) found) same ∙ ap (option_and_then (write_over maps g.1.bytes)) is

fault-told : (symbols : List Symbol) (maps held : List (List ℕ × MapView)) (g : List ℕ × GlobalContent) (found : Option Symbol) → held ≡ maps → found ≡ last_named symbols g.0 → symbol_fault held g found ≡ global_fault symbols maps g
fault-told symbols maps held g found same is = ap (λ ms. symbol_fault ms g found) same ∙ ap (symbol_fault maps g) is

pub value_tail : (symbols : List Symbol) (maps : List (List ℕ × MapView)) (left rest : List (List ℕ × GlobalContent)) (g : List ℕ × GlobalContent) (before later all : List Write) (o : Option Write) → left ≡ g ∷ rest → o ≡ write_of symbols maps g → later ≡ before ++ option_map_or (λ w. w ∷ []) o [] → before ++ writes_of symbols maps left ≡ all → later ++ writes_of symbols maps rest ≡ all
value_tail symbols maps left rest g before later all o is wrote grown value =
    ap (λ (ws : List Write). ws ++ writes_of symbols maps rest) grown
    ∙ append_assoc before (option_map_or (λ w. w ∷ []) o []) (writes_of symbols maps rest)
    ∙ ap (λ (x : Option Write). before ++ (option_map_or (λ w. w ∷ []) x [] ++ writes_of symbols maps rest)) wrote
    ∙ ap (λ l. before ++ writes_of symbols maps l) (sym is)
    ∙ value

pub fault_tail : (symbols : List Symbol) (maps held : List (List ℕ × MapView)) (left rest : List (List ℕ × GlobalContent)) (g : List ℕ × GlobalContent) (found : Option Symbol) (first : Option GlobalFault) → left ≡ g ∷ rest → held ≡ maps → found ≡ last_named symbols g.0 → symbol_fault held g found ≡ None → fold (or_fault symbols maps) None left ≡ first → fold (or_fault symbols maps) None rest ≡ first
fault_tail symbols maps held left rest g found first is same named sound value =
    ap (λ o. fold (or_fault symbols maps) o rest) (sym sound ∙ fault-told symbols maps held g found same named)
    ∙ ap (fold (or_fault symbols maps) None) (sym is)
    ∙ value

said : (symbols : List Symbol) (maps : List (List ℕ × MapView)) (rest : List (List ℕ × GlobalContent)) (e : ParseError) (fault : Option GlobalFault) → Says fault e → Says (fold (or_fault symbols maps) fault rest) e
said symbols maps rest e (Some f) says = let P : Option GlobalFault → Type 0 = λ o. Says o e in subst P (sym (first-stays symbols maps f rest)) says
said symbols maps rest e None says = absurd says

pub fault_said : (symbols : List Symbol) (maps held : List (List ℕ × MapView)) (left rest : List (List ℕ × GlobalContent)) (g : List ℕ × GlobalContent) (found : Option Symbol) (first : Option GlobalFault) (e : ParseError) → left ≡ g ∷ rest → held ≡ maps → found ≡ last_named symbols g.0 → Says (symbol_fault held g found) e → fold (or_fault symbols maps) None left ≡ first → Says first e
fault_said symbols maps held left rest g found first e is same named says value =
    let P : Option GlobalFault → Type 0 = λ o. Says o e in
    subst P (ap (λ o. fold (or_fault symbols maps) o rest) (fault-told symbols maps held g found same named) ∙ ap (fold (or_fault symbols maps) None) (sym is) ∙ value)
    (said symbols maps rest e (symbol_fault held g found) says)

-- ---- No variable is set

not-zero : (n : ℕ) → (suc n == 0) ≡ false
not-zero n = grind arith

pub none_set : (globals : List (List ℕ × GlobalContent)) → (length globals == 0) ≡ true → globals ≡ []
none_set [] none = refl
none_set (g ∷ gs) none = let some : (suc (length gs) == 0) ≡ false = not-zero (length gs) in absurd (cc)

pub nothing_patched : (file : List ℕ) (maps : List (List ℕ × MapView)) (globals : List (List ℕ × GlobalContent)) → globals ≡ [] → maps ≡ patched file maps globals
unfolding patched
nothing_patched file maps globals none = let P : List (List ℕ × GlobalContent) → Type 0 = λ l. maps ≡ patched file maps l in subst P (sym none) refl

pub nothing_wrong : (file : List ℕ) (maps : List (List ℕ × MapView)) (globals : List (List ℕ × GlobalContent)) → globals ≡ [] → first_fault file maps globals ≡ None
unfolding first_fault
nothing_wrong file maps globals none = let P : List (List ℕ × GlobalContent) → Type 0 = λ l. first_fault file maps l ≡ None in subst P (sym none) refl
