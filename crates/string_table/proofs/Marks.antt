-- Sets of bytes.
use Rattle.std.proofs.Common.{◌≡◌, ℕ, zero, suc, ◌<◌, ◌≢◌, Bool, true, false, length, replicate, List, refl, arith}
use Rattle.std.specs.Prelude.{◌==◌, ◌||◌, slice_set}
use Rattle.std.proofs.lemmas.Bool.Decides.{nat_tests}
use Rattle.std.proofs.lemmas.List.{get_or-set_other, get_or-set_same}
use Rattle.string_table.specs.FirstBytes.{is_marked}

pub none_marked : (n byte : ℕ) → is_marked (replicate n false) byte ≡ false
none_marked zero byte = refl
none_marked (suc n) zero = refl
none_marked (suc n) (suc byte) = none_marked n byte

here : (marks : List Bool) (byte other : ℕ) → byte < length marks → other ≡ byte → is_marked (slice_set marks byte true) other ≡ true
here marks byte other lt same = rw same (get_or-set_same marks byte true false lt)

marked_by : (marks : List Bool) (byte other : ℕ) (test : Bool) → byte < length marks → test ≡ (other == byte) → is_marked (slice_set marks byte true) other ≡ (test || is_marked marks other)
marked_by marks byte other true lt is = let same : other ≡ byte = grind (arith, nat_tests, is) in here marks byte other lt same
marked_by marks byte other false lt is = let apart : other ≢ byte = λ same. grind (arith, nat_tests, is, same) in get_or-set_other marks byte other true false apart

pub one_marked : (marks : List Bool) (byte : ℕ) → byte < length marks → (other : ℕ) → is_marked (slice_set marks byte true) other ≡ (other == byte || is_marked marks other)
one_marked marks byte lt other = marked_by marks byte other (other == byte) lt refl
