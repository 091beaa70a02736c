-- Without programs, no program lacks its function.
use Rattle.std.proofs.Common.{◌≡◌, ℕ, List, [], sym, subst}
use Rattle.object_parts.specs.Content.{FunctionContent, HaveFunctions, ProgramContent}

nothing_lacks : (functions : List ((ℕ × ℕ) × FunctionContent)) → HaveFunctions [] functions
unfolding HaveFunctions
nothing_lacks functions = tt

pub none_lacks : (programs : List (List ℕ × ProgramContent)) (functions : List ((ℕ × ℕ) × FunctionContent)) → programs ≡ [] → HaveFunctions programs functions
none_lacks programs functions none = subst (λ (ps : List (List ℕ × ProgramContent)). HaveFunctions ps functions) (sym none) (nothing_lacks functions)
