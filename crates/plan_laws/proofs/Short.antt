-- The lengths of a plan's programs.
use Rattle.std.proofs.Common.{◌≡◌, ℕ, suc, ◌+◌, Bool, true, false, List, [], ◌∷◌, length, refl, ap, ◌∙◌, arith}
use Rattle.ebpf_items.specs.declared.instruction.bpf_insn.{bpf_insn}
use Rattle.linker.specs.Layout.{Key, Table}
use Rattle.linker.specs.Renamed.{renamed_from, renamed_table}
use Rattle.linker.specs.Theorems.{LengthsAdd, slots_of}
use Rattle.linker.specs.Lengths.{ProgramsAreShort}
use Rattle.linker.specs.Unlinked.{Unlinked, table_of}
use Rattle.load_plan.specs.Inputs.{Inputs, State, Under, keeps_helpers}
use Rattle.load_plan.specs.Passes.{unlinked_of}
use Rattle.load_plan.specs.Programs.{Before, IsPlanProgram, own_key, source, source_for}
use Rattle.object_parts.specs.Content.{ProgramContent}
use Rattle.plan_laws.specs.Lengths.{IsShort}
use Rattle.plan_text.specs.Content.{PlanContent}
use Rattle.plan_text.specs.Content as plan

-- The renaming of helpers keeps the length of each function.
renamed_length : (t : Table) (key : Key) (i : ℕ) (slots : List bpf_insn) → length (renamed_from t key i slots) ≡ length slots
renamed_length t key i [] = refl
renamed_length t key i (s ∷ ss) = ap suc (renamed_length t key (i + 1) ss)

renamed_slots : (t : Table) (keys : List Key) → slots_of (renamed_table t) keys ≡ slots_of t keys
renamed_slots t [] = refl
renamed_slots t (k ∷ ks) = omega (arith, renamed_length t k 0 (t.slots k), renamed_slots t ks)

source_slots : (keeps : Bool) (u : Unlinked) (keys : List Key) → slots_of (source_for keeps u) keys ≡ slots_of (table_of u) keys
source_slots true u keys = refl
source_slots false u keys = renamed_slots (table_of u) keys

pub short : (adds : LengthsAdd) (laws : ProgramsAreShort) (i : Inputs) (u : Under) (object patched : State) (before : Before) (whole : PlanContent) (e : List ℕ × ProgramContent) (p : plan.ProgramContent) (is : IsPlanProgram i u object patched before whole e p)
    → IsShort (source u patched) patched.functions (own_key e.1) is.keys p.slots
short adds laws i u object patched before whole e p is =
    let sum = ap length is.slots ∙ adds.each (source u patched) (own_key e.1) is.keys in
    let same = source_slots (keeps_helpers u) (unlinked_of patched) is.keys in
    let most = laws.copies (unlinked_of patched) is.keys is.reached.once in
    record { once = is.reached.once; sum = sum; most = omega (arith, sum, same, most) }
