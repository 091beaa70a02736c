-- A list of distinct features that lacks one of the eight has fewer than eight.
use Rattle.std.proofs.Common.{◌≡◌, suc, ◌+◌, ◌<◌, ◌≤◌, List, [], ◌∷◌, length, refl, ap, arith}
use Rattle.btf_records.specs.declared.feature.BtfFeature.{BtfFeature}
use Rattle.btf_records.specs.declared.feature.BtfFeature.TheVariants.{Func, FuncGlobal, DataSec, DataSecZero, Float, DeclTag, TypeTag, Enum64}
use Rattle.btf_sanitize.specs.Answers.{Answers, AreDistinct, features, times}

-- Each feature is one of the eight.
length_is_times : (fs : List BtfFeature) → length fs ≡ times Func fs + times FuncGlobal fs + times DataSec fs + times DataSecZero fs + times Float fs + times DeclTag fs + times TypeTag fs + times Enum64 fs
length_is_times [] = refl
length_is_times (Func ∷ fs) = omega (arith, length_is_times fs)
length_is_times (FuncGlobal ∷ fs) = omega (arith, length_is_times fs)
length_is_times (DataSec ∷ fs) = omega (arith, length_is_times fs)
length_is_times (DataSecZero ∷ fs) = omega (arith, length_is_times fs)
length_is_times (Float ∷ fs) = omega (arith, length_is_times fs)
length_is_times (DeclTag ∷ fs) = omega (arith, length_is_times fs)
length_is_times (TypeTag ∷ fs) = omega (arith, length_is_times fs)
length_is_times (Enum64 ∷ fs) = omega (arith, length_is_times fs)

pub has_room : (f : BtfFeature) (fs : List BtfFeature) → AreDistinct fs → times f fs ≡ 0 → length fs < 8
has_room f fs d z =
    let all = length_is_times fs in
    let a = d.once Func in let b = d.once FuncGlobal in let c = d.once DataSec in let e = d.once DataSecZero in
    let g = d.once Float in let h = d.once DeclTag in let i = d.once TypeTag in let j = d.once Enum64 in
    less_with f z all a b c e g h i j
  where
    less_with : (f : BtfFeature) → times f fs ≡ 0 → length fs ≡ times Func fs + times FuncGlobal fs + times DataSec fs + times DataSecZero fs + times Float fs + times DeclTag fs + times TypeTag fs + times Enum64 fs → times Func fs ≤ 1 → times FuncGlobal fs ≤ 1 → times DataSec fs ≤ 1 → times DataSecZero fs ≤ 1 → times Float fs ≤ 1 → times DeclTag fs ≤ 1 → times TypeTag fs ≤ 1 → times Enum64 fs ≤ 1 → length fs < 8
    less_with Func z all a b c e g h i j = omega arith
    less_with FuncGlobal z all a b c e g h i j = omega arith
    less_with DataSec z all a b c e g h i j = omega arith
    less_with DataSecZero z all a b c e g h i j = omega arith
    less_with Float z all a b c e g h i j = omega arith
    less_with DeclTag z all a b c e g h i j = omega arith
    less_with TypeTag z all a b c e g h i j = omega arith
    less_with Enum64 z all a b c e g h i j = omega arith

pub length_features : (known : Answers) → length (features known) ≡ length known
length_features [] = refl
length_features (a ∷ known) = ap suc (length_features known)
