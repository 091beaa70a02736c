-- Records that the step leaves as they are.
use Rattle.std.proofs.Common.{◌≡◌, ℕ, ◌==◌, Bool, true, false, not, cond, refl}
use Rattle.btf_records.specs.declared.types.BtfType.{BtfType}
use Rattle.btf_records.specs.declared.types.BtfType.TheVariants as types
use Rattle.btf_rewrite.specs.Ksyms.{Ksyms, is_named, leaves, stepped}

unless : (test : Bool) (x y : BtfType) → not test ≡ true → cond test x y ≡ y
unless true x y h = absurd cc
unless false x y h = refl

pub left_alone : (k : Ksyms) (id : ℕ) (t : BtfType) → leaves k id t ≡ true → stepped k id t ≡ t
left_alone k id types.Unknown h = refl
left_alone k id (types.Fwd t) h = refl
left_alone k id (types.Const t) h = refl
left_alone k id (types.Volatile t) h = refl
left_alone k id (types.Restrict t) h = refl
left_alone k id (types.Ptr t) h = refl
left_alone k id (types.Typedef t) h = refl
left_alone k id (types.Func t) h = unless (is_named k id) _ _ h
left_alone k id (types.Int t) h = refl
left_alone k id (types.Float t) h = refl
left_alone k id (types.Enum t) h = refl
left_alone k id (types.Array t) h = refl
left_alone k id (types.Struct t) h = refl
left_alone k id (types.Union t) h = refl
left_alone k id (types.FuncProto t) h = refl
left_alone k id (types.Var t) h = unless (is_named k id) _ _ h
left_alone k id (types.DataSec t) h = unless (id == k.section) _ _ h
left_alone k id (types.DeclTag t) h = refl
left_alone k id (types.TypeTag t) h = refl
left_alone k id (types.Enum64 t) h = refl
