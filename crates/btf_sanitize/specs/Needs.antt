-- The features of a kernel that a record needs. libbpf detects them as FEAT_BTF_FUNC,
-- FEAT_BTF_GLOBAL_FUNC, FEAT_BTF_DATASEC, FEAT_BTF_FLOAT, FEAT_BTF_DECL_TAG, FEAT_BTF_TYPE_TAG and
-- FEAT_BTF_ENUM64 (tools/lib/bpf/features.c).
use Rattle.std.specs.Prelude.{◌≡◌, ℕ, ◌==◌, ◌&&◌, Bool, false, not, if◌then◌else◌, List, [], ◌∷◌, ◌++◌, flat_map, Option}
use Rattle.std.specs.Option.{option_map_or}
use Rattle.string_table.specs.Texts.{text_at}
use Rattle.btf_records.specs.declared.feature.BtfFeature.{BtfFeature}
use Rattle.btf_records.specs.declared.feature.BtfFeature.TheVariants as feature
use Rattle.btf_encoding.specs.Records.{bits_of, count_of}
use Rattle.btf_records.specs.Fields.{kind_of_type, name_offset_of, size_of}
use Rattle.btf_records.specs.declared.kind.BtfKind.{BtfKind}
use Rattle.btf_records.specs.declared.kind.BtfKind.TheVariants as kinds
use Rattle.btf_records.specs.declared.types.BtfType.{BtfType}
use Rattle.btf_sanitize.specs.Answers.{Answers, features, granted, noted_all}
use Rattle.btf_sanitize.specs.Names.{is_memory_function}

-- Whether a function may stay global: it has global linkage, and its name can be read and isn't
-- that of a memory function.
abbrev pub stays_global : Option (List ℕ) → ℕ → Bool
stays_global text linkage =
    (linkage == 1) && option_map_or (λ name. not (is_memory_function name)) text false

-- Whether a section has no size and no variables.
abbrev pub is_empty_section : BtfType → Bool
is_empty_section t = option_map_or (λ size. size == 0) (size_of t) false && (count_of t == 0)

-- The features that a record of a kind needs, in the order of the queries, given the granted
-- features.
abbrev pub needs_as : BtfKind → (BtfFeature → Bool) → List ℕ → BtfType → List BtfFeature
needs_as kinds.Func grants strings t =
    feature.Func
    ∷ (if grants feature.Func && stays_global (text_at strings (name_offset_of t)) (count_of t)
    then feature.FuncGlobal ∷ []
    else [])
needs_as kinds.FuncProto grants strings t = feature.Func ∷ []
needs_as kinds.Var grants strings t = feature.DataSec ∷ []
needs_as kinds.DataSec grants strings t =
    feature.DataSec
    ∷ (if grants feature.DataSec && is_empty_section t then feature.DataSecZero ∷ [] else [])
needs_as kinds.Float grants strings t = feature.Float ∷ []
needs_as kinds.DeclTag grants strings t = feature.DeclTag ∷ []
needs_as kinds.TypeTag grants strings t = feature.TypeTag ∷ []
needs_as kinds.Enum grants strings t = if (bits_of t).flag then feature.Enum64 ∷ [] else []
needs_as kinds.Enum64 grants strings t = feature.Enum64 ∷ []
needs_as _ grants strings t = []

abbrev pub needs_of : (BtfFeature → Bool) → List ℕ → BtfType → List BtfFeature
needs_of grants strings t = needs_as (kind_of_type t) grants strings t

-- The queried features are those that these records need, each once, in the order of need.
pub record AreQuestions (strings : List ℕ) (ts : List BtfType) (answers : Answers) : Type 0 where
  pub asked : features answers ≡ noted_all [] (flat_map (needs_of (granted answers) strings) ts)

-- The queried features are those that these records need, whatever is queried later.
pub record AreQuestionsSoFar (strings : List ℕ) (ts : List BtfType) (answers : Answers)
    : Type 0 where
  pub asked : (later : Answers)
      → features answers
      ≡ noted_all [] (flat_map (needs_of (granted (answers ++ later)) strings) ts)

-- The first feature is queried after the old queries. If it is granted and `more` is set, the
-- second feature is queried too.
pub record AsksBoth (first : BtfFeature) (more : Bool) (second : BtfFeature) (old new : Answers)
    : Type 0 where
  pub asked : (later : Answers)
      → features new
      ≡ noted_all (features old)
      (first ∷ (if granted (new ++ later) first && more then second ∷ [] else []))

-- The features that one record needs are queried after the old queries.
pub record AsksFor (strings : List ℕ) (t : BtfType) (old new : Answers) : Type 0 where
  pub asked : (later : Answers)
      → features new ≡ noted_all (features old) (needs_of (granted (new ++ later)) strings t)
