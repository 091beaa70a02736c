-- The features of types that a kernel grants, and their names.
use Rattle.std.specs.Prelude.{ℕ, Bool, true, List, [], ◌∷◌, codes, Option, None, Some, if◌then◌else◌}
use Rattle.std.specs.Str.{bytes_eq}
use Rattle.btf_records.specs.declared.feature.BtfFeature.{BtfFeature}
use Rattle.btf_records.specs.declared.feature.BtfFeature.TheVariants as feature
use Rattle.run_settings.specs.declared.features.GrantedFeatures.{GrantedFeatures}

abbrev pub all_granted : GrantedFeatures
all_granted = record {
  func = true;
  func_global = true;
  data_sec = true;
  data_sec_zero = true;
  float = true;
  decl_tag = true;
  type_tag = true;
  enum64 = true;
}

abbrev pub grants : GrantedFeatures → BtfFeature → Bool
grants g feature.Func = g.func
grants g feature.FuncGlobal = g.func_global
grants g feature.DataSec = g.data_sec
grants g feature.DataSecZero = g.data_sec_zero
grants g feature.Float = g.float
grants g feature.DeclTag = g.decl_tag
grants g feature.TypeTag = g.type_tag
grants g feature.Enum64 = g.enum64

abbrev pub with_answer : GrantedFeatures → BtfFeature → Bool → GrantedFeatures
with_answer g feature.Func answer = record g { func = answer }
with_answer g feature.FuncGlobal answer = record g { func_global = answer }
with_answer g feature.DataSec answer = record g { data_sec = answer }
with_answer g feature.DataSecZero answer = record g { data_sec_zero = answer }
with_answer g feature.Float answer = record g { float = answer }
with_answer g feature.DeclTag answer = record g { decl_tag = answer }
with_answer g feature.TypeTag answer = record g { type_tag = answer }
with_answer g feature.Enum64 answer = record g { enum64 = answer }

abbrev pub feature_names : List (List ℕ)
feature_names =
    codes "Func"
    ∷ codes "FuncGlobal"
    ∷ codes "DataSec"
    ∷ codes "DataSecZero"
    ∷ codes "Float"
    ∷ codes "DeclTag"
    ∷ codes "TypeTag"
    ∷ codes "Enum64"
    ∷ []

abbrev pub feature_named : List ℕ → Option BtfFeature
feature_named name =
    if bytes_eq name (codes "Func") then Some feature.Func
    else if bytes_eq name (codes "FuncGlobal") then Some feature.FuncGlobal
    else if bytes_eq name (codes "DataSec") then Some feature.DataSec
    else if bytes_eq name (codes "DataSecZero") then Some feature.DataSecZero
    else if bytes_eq name (codes "Float") then Some feature.Float
    else if bytes_eq name (codes "DeclTag") then Some feature.DeclTag
    else if bytes_eq name (codes "TypeTag") then Some feature.TypeTag
    else if bytes_eq name (codes "Enum64") then Some feature.Enum64
    else None
