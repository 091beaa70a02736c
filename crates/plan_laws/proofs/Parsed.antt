-- The object of a file.
use Rattle.std.proofs.Common.{◌≡◌, ℕ, Bool, true, false, cond, List, [], ◌∷◌, fold, Option, None, Some, refl, sym, ap, ◌∙◌, subst}
use Rattle.std.specs.BTreeMap.{insert_entry}
use Rattle.std.specs.Cmp.Lexicographic.{slice_cmp}
use Rattle.std.specs.List.Sorted.{IsStrictlySortedBy}
use Rattle.std.specs.Map.{keys_of}
use Rattle.std.specs.Option.{option_map, option_map_or}
use Rattle.std.specs.Ordering.{nat_cmp}
use Rattle.std.specs.Prelude.{codes}
use Rattle.std.specs.Cmp.{IsTotalOrder}
use Rattle.std.proofs.lemmas.Cmp.{nat_cmp_total, nat_list_cmp_total, on_total, then_total}
use Rattle.btf_ext.specs.Extensions.{Extension}
use Rattle.btf_records.specs.declared.words.Endianness.{Endianness}
use Rattle.btf_tables.specs.Tables.{Table}
use Rattle.ebpf_items.specs.Maps.{MapView}
use Rattle.ebpf_object.specs.ParsedObject.{IsParsed}
use Rattle.object_contents.specs.Types.{HoldsRecordsIn}
use Rattle.object_externs.specs.Types.{HoldsTypesIn, completed, no_externs}
use Rattle.elf64.specs.Sections.{Section}
use Rattle.elf64.specs.Symbols.{Symbol, symbols_of}
use Rattle.linker.specs.Layout.{Key}
use Rattle.load_plan.specs.Inputs.{State}
use Rattle.load_plan.specs.Planned.{IsWholeObject}
use Rattle.object_externs.specs.Externs.{externs_of}
use Rattle.object_file.specs.ByteOrders.{file_endianness}
use Rattle.object_file.specs.Reading.{contents_named, read_sections}
use Rattle.object_file.specs.Symbols.{symbols_in}
use Rattle.object_maps.specs.Found.{entered, with_map}
use Rattle.object_maps.specs.Maps.{maps_of}
use Rattle.object_parse.specs.Functions.{functions_of, programs_of, with_functions}
use Rattle.object_parse.specs.Programs.{function_of, is_function, is_program, with_function, with_program_functions}
use Rattle.object_parse.specs.SectionInfos.{SectionInfo, info_of}
use Rattle.object_parse.specs.TextSections.{is_text_section, places_of, text_function_of, with_text_function, with_text_functions}
use Rattle.object_parts.specs.Content.{FunctionContent, key_cmp}
use Rattle.plan_laws.proofs.Entries.{sorted-more}

-- The object of a file is unique.

tables-same : (order : Endianness) (bytes : Option (List ℕ)) (a b : Option Table) → HoldsTypesIn order bytes a
    → HoldsTypesIn order bytes b → a ≡ b
tables-same order None None None one two = refl
tables-same order None None (Some y) one two = absurd two
tables-same order None (Some x) b one two = absurd one
tables-same order (Some bytes) None b one two = absurd one
tables-same order (Some bytes) (Some x) None one two = absurd two
tables-same order (Some bytes) (Some x) (Some y) one two = ap (λ (t : Table). Some t) (two.alone x one.holds)

records-same : (order : Endianness) (table : Option Table) (bytes : Option (List ℕ)) (a b : Option Extension)
    → HoldsRecordsIn order table bytes a → HoldsRecordsIn order table bytes b → a ≡ b
records-same order None bytes None None one two = refl
records-same order None bytes None (Some y) one two = absurd two
records-same order None bytes (Some x) b one two = absurd one
records-same order (Some table) None None None one two = refl
records-same order (Some table) None None (Some y) one two = absurd two
records-same order (Some table) None (Some x) b one two = absurd one
records-same order (Some table) (Some bytes) None b one two = absurd one
records-same order (Some table) (Some bytes) (Some x) None one two = absurd two
records-same order (Some table) (Some bytes) (Some x) (Some y) one two =
    ap (λ (e : Extension). Some e) (two.alone x one.holds)

-- A parsed object, by its table and its extension.
made-of : List ℕ → Option Table → Option Extension → State
made-of file table extension = record {
  file = file;
  types = option_map completed table;
  extension = extension;
  maps = maps_of file (option_map completed table);
  programs = programs_of file;
  functions = functions_of file extension;
  externs = option_map_or (externs_of (symbols_of file)) table no_externs;
}

parsed-is : (file : List ℕ) (object : State) (p : IsParsed file object) → object ≡ made-of file p.table object.extension
unfolding made-of
parsed-is file object p = λ j. record {
  file = p.same_file j;
  types = p.types j;
  extension = object.extension;
  maps = (p.maps ∙ ap (maps_of file) p.types) j;
  programs = p.programs j;
  functions = p.functions j;
  externs = p.externs j;
}

pub whole-same : (file : List ℕ) (a b : State) → IsWholeObject file a → IsWholeObject file b → a ≡ b
whole-same file a b one two =
    let p = one.parsed in
    let q = two.parsed in
    let table : p.table ≡ q.table =
    tables-same (file_endianness file) (contents_named file (codes ".BTF")) p.table q.table p.holds q.holds in
    let beside =
    subst (λ (t : Option Table). HoldsRecordsIn (file_endianness file) t
    (contents_named file (codes ".BTF.ext")) a.extension) table p.extension in
    let extension : a.extension ≡ b.extension =
    records-same (file_endianness file) q.table
    (contents_named file (codes ".BTF.ext")) a.extension b.extension beside q.extension in
    parsed-is file a p ∙ ap (λ (t : Option Table). made-of file t a.extension) table
    ∙ ap (made-of file q.table) extension ∙ sym (parsed-is file b q)

-- Its keys and names are strictly increasing.

pub keys-total : IsTotalOrder key_cmp
keys-total = then_total (on_total (λ (k : ℕ × ℕ). k.0) nat_cmp_total) (on_total (λ (k : ℕ × ℕ). k.1) nat_cmp_total)

-- The keys of an object's functions are strictly increasing.
abbrev pub Rising : State → Type 0
Rising s = IsStrictlySortedBy key_cmp (keys_of s.functions)

sorted-fold : {A V K : Type 0} (Sorted : List (K × V) → Type 0) (step : List (K × V) → A → List (K × V))
    → ((es : List (K × V)) (x : A) → Sorted es → Sorted (step es x)) → (xs : List A) (es : List (K × V)) → Sorted es
    → Sorted (fold step es xs)
sorted-fold Sorted step steps [] es sorted = sorted
sorted-fold Sorted step steps (x ∷ xs) es sorted = sorted-fold Sorted step steps xs (step es x) (steps es x sorted)

sorted-either : {A : Type 0} (Sorted : A → Type 0) (t : Bool) (a b : A) → Sorted a → Sorted b → Sorted (cond t a b)
sorted-either Sorted true a b one two = one
sorted-either Sorted false a b one two = two

abbrev AreRising : List (Key × FunctionContent) → Type 0
AreRising functions = IsStrictlySortedBy key_cmp (keys_of functions)

one-rises : (info : SectionInfo) (section : Section) (functions : List (Key × FunctionContent)) (s : Symbol)
    → AreRising functions → AreRising (with_function info section functions s)
one-rises info section functions s rising =
    sorted-either AreRising (is_function s)
    (insert_entry key_cmp functions (section.index, s.address) (function_of info section s)) functions
    (sorted-more keys-total functions (section.index, s.address) (function_of info section s) rising) rising

-- The functions with one more function, that of a symbol in a section.
abbrev entered-at : SectionInfo → Section → ℕ → List (Key × FunctionContent) → Symbol → List (Key × FunctionContent)
entered-at info section offset functions s =
    insert_entry key_cmp functions (section.index, s.address) (text_function_of info section offset s)

placed-by : (info : SectionInfo) (section : Section) (offset : ℕ) (functions : List (Key × FunctionContent))
    → (o : Option Symbol) → AreRising functions
    → AreRising (option_map_or (entered-at info section offset functions) o functions)
placed-by info section offset functions None rising = rising
placed-by info section offset functions (Some s) rising =
    sorted-more keys-total functions (section.index, s.address) (text_function_of info section offset s) rising

section-rises : (extension : Option Extension) (symbols : List Symbol) (functions : List (Key × FunctionContent))
    → (section : Section) → AreRising functions → AreRising (with_functions extension symbols functions section)
section-rises extension symbols functions section rising =
    sorted-either AreRising (is_program section)
    (with_program_functions (info_of extension section) symbols functions section)
    (cond (is_text_section section)
    (with_text_functions (info_of extension section) symbols functions section) functions)
    (sorted-fold AreRising (with_function (info_of extension section) section)
    (one-rises (info_of extension section) section) (symbols_in symbols section.index) functions rising)
    (sorted-either AreRising (is_text_section section)
    (with_text_functions (info_of extension section) symbols functions section) functions
    (sorted-fold AreRising (with_text_function (info_of extension section) section)
    (λ fs place. placed-by (info_of extension section) section place.offset fs place.symbol)
    (places_of symbols section) functions rising)
    rising)

functions-rise : (file : List ℕ) (extension : Option Extension) → AreRising (functions_of file extension)
unfolding IsStrictlySortedBy
functions-rise file extension =
    sorted-fold AreRising (with_functions extension (symbols_of file)) (section-rises extension (symbols_of file))
    (read_sections file) [] tt

pub whole-rises : (file : List ℕ) (object : State) → IsWholeObject file object → Rising object
whole-rises file object whole = subst AreRising (sym whole.parsed.functions) (functions-rise file object.extension)

maps-enter : (found : List (List ℕ × MapView)) → IsStrictlySortedBy (slice_cmp nat_cmp) (keys_of (entered [] found))
unfolding entered IsStrictlySortedBy
maps-enter found =
    sorted-fold (λ es. IsStrictlySortedBy (slice_cmp nat_cmp) (keys_of es)) with_map
    (λ es x. sorted-more nat_list_cmp_total es x.0 x.1) found [] tt

-- The names of its maps.
pub maps-rise : (file : List ℕ) (object : State) → IsWholeObject file object
    → IsStrictlySortedBy (slice_cmp nat_cmp) (keys_of object.maps)
maps-rise file object whole =
    subst (λ (es : List (List ℕ × MapView)). IsStrictlySortedBy (slice_cmp nat_cmp) (keys_of es))
    (sym whole.parsed.maps) (maps-enter _)
