-- A map whose bytes are mutably borrowed.
use Rattle.std.specs.Prelude.{ℕ, Vec}
use Rattle.std.specs.Borrow.{Lends, MutBor, Fml, RattleType, u8}
use Rattle.std.specs.declared.alloc.Global.{Global}
use Rattle.std.specs.contracts.alloc.Global as global
use Rattle.std.specs.contracts.vec.Vec as vec
use Rattle.std.specs.contracts.impls.GlobalAllocator.TheImpl.{ghosts}
use Rattle.ebpf_items.specs.declared.maps.Map.{Map}
use Rattle.ebpf_items.specs.declared.maps.Map.TheVariants.{Legacy, Btf}
use Rattle.ebpf_items.specs.contracts.maps.Map.{the_row}

-- The type of byte lists, as borrows name it.
abbrev pub bytes_row : RattleType
bytes_row = vec.the_row u8 global.the_row ghosts

abbrev pub with_contents : Map → Vec ℕ Global → Map
with_contents (Legacy m) contents = Legacy (record m { contents = contents })
with_contents (Btf m) contents = Btf (record m { contents = contents })

-- At the end of the borrow, the map has the final bytes of the reference and is otherwise
-- unchanged.
abbrev pub LendsContents : MutBor Map → MutBor (Vec ℕ Global) → Fml
LendsContents map contents = Lends the_row bytes_row map contents (with_contents map.now)
