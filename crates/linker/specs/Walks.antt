-- The results of the linker's functions.
use Rattle.std.specs.Prelude.{◌≡◌, ℕ, ◌+◌, ◌<◌, true, false, if◌then◌else◌, List, [], ◌∷◌, take, reverse, Option, Some, None, Bool, slice_get, is_some}
use Rattle.std.specs.BTreeMap.{get}
use Rattle.std.specs.declared.alloc.Global.{Global}
use Rattle.std.specs.declared.collections.BTreeMap.{BTreeMap}
use Rattle.ebpf_items.specs.declared.instruction.bpf_insn.{bpf_insn}
use Rattle.object_parts.specs.Content.{FunctionContent, function_at}
use Rattle.linker.specs.Layout.{Key, key_cmp, same, aimed, first_open, start_of, end_of, IsLayout}
use Rattle.linker.specs.declared.order.Open.{Open}
use Rattle.linker.specs.declared.order.CopyOrder.{CopyOrder}
use Rattle.linker.specs.Unlinked.{Unlinked, table_of, ref_of}
use Rattle.linker.specs.Records.{mismatches}
use Rattle.linker.specs.Faults.{are_sound}

-- The slot where each appended copy begins.
abbrev pub Starts : Type 0
Starts = BTreeMap Key ℕ Global

abbrev pub has_start_in : Starts → Key → Bool
has_start_in starts key = is_some (get key_cmp starts key)

-- The new starts are the old ones, with `start` for `key`.
pub record SetsStart (old new : Starts) (key : Key) (start : ℕ) : Type 0 where
  pub at : (k : Key) → get key_cmp new k ≡ (if same key k then Some start else get key_cmp old k)

-- The key of a reference, if its function has no start.
abbrev pub open_in : (Key → Bool) → Option Key → Option Key
open_in known None = None
open_in known (Some key) = if known key then None else Some key

-- The first open reference of a list: its function has no start, and the functions of all
-- references before it have one.
pub record IsOpen (known : Key → Bool) (refs : List (Option Key)) (o : Open) : Type 0 where
  pub at_slot : slice_get refs o.slot ≡ Some (Some o.key)
  pub unset : known o.key ≡ false
  pub before : first_open known (take o.slot refs) ≡ None

abbrev pub placed_in : Starts → Option Key → ℕ → bpf_insn → bpf_insn
placed_in starts None p s = s
placed_in starts (Some key) p s = aimed (get key_cmp starts key) p s

-- The slots of a function's copy that begins at `b`, from slot `i` on.
abbrev pub copy_in : Unlinked → FunctionContent → Starts → ℕ → ℕ → List bpf_insn → List bpf_insn
copy_in u f starts b i [] = []
copy_in u f starts b i (s ∷ ss) =
    placed_in starts (ref_of u f i s) (b + i) s ∷ copy_in u f starts b (i + 1) ss

-- Each start fits 31 bits.
pub record StartsFit (starts : Starts) : Type 0 where
  pub each : (key : Key) (start : ℕ) → get key_cmp starts key ≡ Some start → start < 2147483648

-- There is a function, and its records fit those of the program's own function.
abbrev pub Fits : FunctionContent → Option FunctionContent → Type 0
Fits own None = ⊥
Fits own (Some f) = mismatches own f ≡ false

abbrev pub AllFit : Unlinked → FunctionContent → List Key → Type 0
AllFit u own [] = Unit {0}
AllFit u own (k ∷ ks) = Fits own (function_at u.functions k) × AllFit u own ks

-- The keys of the appended copies in order, and the slot where each copy begins.
pub record IsOrdered (u : Unlinked) (own : Key) (f : FunctionContent) (o : CopyOrder) : Type 0 where
  pub layout : IsLayout (table_of u) own (reverse o.keys.items)
  pub starts : (key : Key)
      → get key_cmp o.starts key ≡ start_of (table_of u) own (reverse o.keys.items) key
  pub within : end_of (table_of u) own (reverse o.keys.items) < 2147483648
  pub fit : AllFit u f o.keys.items

-- No slot of the function of a key has a fault.
pub record SoundAt (u : Unlinked) (key : Key) : Type 0 where
  pub each : (f : FunctionContent)
      → function_at u.functions key ≡ Some f
      → are_sound u f 0 f.instructions ≡ true

abbrev pub AllSound : Unlinked → Key → List Key → Type 0
AllSound u own [] = SoundAt u own
AllSound u own (k ∷ ks) = SoundAt u k × AllSound u own ks
