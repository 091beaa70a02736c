-- Names without their flavours ("BPF CO-RE"). A flavour begins at the first `___`.
use Rattle.std.specs.Prelude.{List, ℕ, [], ◌∷◌, codes, nat_eq, if◌then◌else◌}
use Rattle.std.specs.List.{starts_with}

abbrev pub essential_name : List ℕ → List ℕ
essential_name [] = []
essential_name (b ∷ bs) =
    if starts_with nat_eq (b ∷ bs) (codes "___") then [] else b ∷ essential_name bs
