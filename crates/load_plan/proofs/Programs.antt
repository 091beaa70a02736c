-- The programs of a plan are those of an object, linked.
use Rattle.std.proofs.Common.{◌≡◌, ℕ, List, [], ◌∷◌, map, Bool, true, false, Option, Some, refl, sym, ap, ◌∙◌, subst}
use Rattle.std.proofs.lemmas.Map.Made.{lookup-map_values}
use Rattle.std.specs.BTreeMap.{is_at}
use Rattle.std.specs.Cmp.{nat_cmp_is}
use Rattle.std.specs.Option.{option_map}
use Rattle.std.specs.Ordering.{is_eq, nat_cmp, ordering_then}
use Rattle.std.specs.Prelude.{◌||◌, not, is_some, if◌then◌else◌}
use Rattle.std.specs.declared.cmp.Ordering.{Ordering}
use Rattle.std.specs.declared.cmp.Ordering.TheVariants.{Equal}
use Rattle.btf_ext.specs.declared.record.bpf_func_info.{bpf_func_info}
use Rattle.btf_ext.specs.declared.record.bpf_line_info.{bpf_line_info}
use Rattle.ebpf_items.specs.Instruction.{with_older_helper}
use Rattle.ebpf_items.specs.declared.instruction.bpf_insn.{bpf_insn}
use Rattle.ebpf_object.specs.Helpers.{for_kernel}
use Rattle.linker.specs.Copies.{SlotsAreCopied}
use Rattle.linker.specs.Layout.{IsLayout, Key, has, linked, same}
use Rattle.linker.specs.Machines.{VisitsSame}
use Rattle.linker.specs.Reached.{AreReached}
use Rattle.linker.specs.Renamed.{RenamedProgram, RenamedVisitsSame, renamed_table}
use Rattle.linker.specs.Theorems.{ReachedAreAppended}
use Rattle.load_plan.specs.RewrittenFunctions.{is_denied}
use Rattle.linker.specs.Linked.{IsLinked, IsLinkedIn, program_keys}
use Rattle.linker.specs.Records.{functions_of, lines_of, tables_of}
use Rattle.linker.specs.Unlinked.{Unlinked, table_of}
use Rattle.object_parts.specs.Content.{FunctionContent, ProgramContent, function_at, key_cmp, with_older_helpers}
use Rattle.load_plan.specs.Plans.{AllName, AllNamed, plan_program_of, program_of}
use Rattle.plan_text.specs.Content.{PlanContent}
use Rattle.load_plan.specs.Inputs.{Inputs, State, Under, keeps_helpers}
use Rattle.load_plan.specs.Passes.{unlinked_of}
use Rattle.load_plan.specs.Programs.{ArePlanPrograms, Before, IsPlanProgram, own_key, source_for}
use Rattle.load_plan.proofs.Carried.{AreAmong, Stands, kernel_slots, slots_carried}

abbrev Keyed : Type 0
Keyed = List (Key × FunctionContent)

-- The properties of a program's slots under a layout.
record IsLaidOut (h : Bool) (u : Unlinked) (own : Key) (keys : List Key) (slots : List bpf_insn) : Type 0 where
  layout : IsLayout (source_for h u) own keys
  reached : AreReached (source_for h u) own keys
  is : slots ≡ linked (source_for h u) own keys
  kernel : slots ≡ kernel_slots h (linked (table_of u) own keys)
  visits : VisitsSame (source_for h u) own keys slots

laid_out : (u : Unlinked) (own : Key) (g : FunctionContent) (one : IsLinked u own g) → IsLaidOut true u own one.keys g.instructions
laid_out u own g one =
    let slots = ap (λ (f : FunctionContent). f.instructions) one.content in
    record { layout = one.layout; reached = one.reached; is = slots; kernel = slots; visits = one.visits }

laid_out_renamed : ReachedAreAppended → (u : Unlinked) (own : Key) (g : FunctionContent) (one : IsLinked u own g) → RenamedProgram (table_of u) own one.keys → IsLaidOut false u own one.keys (map with_older_helper g.instructions)
laid_out_renamed reach u own g one program =
    let slots = ap (λ (f : FunctionContent). map with_older_helper f.instructions) one.content in
    record {
      layout = program.layout;
      reached = reach.each (renamed_table (table_of u)) own one.keys program.layout;
      is = slots ∙ program.slots;
      kernel = slots;
      visits = subst (λ (l : List bpf_insn). VisitsSame (renamed_table (table_of u)) own one.keys l) (sym slots) program.visits;
    }

-- The function of a program, linked and for a kernel.
function_for : ReachedAreAppended → RenamedVisitsSame → (u : Unlinked) (h : Bool) (functions before : Keyed) (own : Key) → functions ≡ for_kernel h before → IsLinkedIn u before own → (f : FunctionContent) × (function_at functions own ≡ Some f) × ((keys : List Key) × IsLaidOut h u own keys f.instructions × (f.func_info ≡ functions_of u own keys) × (f.line_info ≡ lines_of u own keys) × (f.matched_tables ≡ tables_of u own keys))
function_for reach renamed u true functions before own is one = (
  one.0,
  ap (λ (fs : Keyed). function_at fs own) is ∙ one.1.0,
  (
    one.1.1.keys,
    laid_out u own one.0 one.1.1,
    ap (λ (f : FunctionContent). f.func_info) one.1.1.content,
    ap (λ (f : FunctionContent). f.line_info) one.1.1.content,
    ap (λ (f : FunctionContent). f.matched_tables) one.1.1.content,
  ),
)
function_for reach renamed u false functions before own is one = (
  with_older_helpers one.0,
  ap (λ (fs : Keyed). function_at fs own) is ∙ lookup-map_values with_older_helpers (is_at (key_cmp own)) before ∙ ap (option_map with_older_helpers) one.1.0,
  (
    one.1.1.keys,
    laid_out_renamed reach u own one.0 one.1.1 (renamed.each (table_of u) own one.1.1.keys one.1.1.layout),
    ap (λ (f : FunctionContent). f.func_info) one.1.1.content,
    ap (λ (f : FunctionContent). f.line_info) one.1.1.content,
    ap (λ (f : FunctionContent). f.matched_tables) one.1.1.content,
  ),
)

-- The properties that all programs of a plan share.
pub record Known (i : Inputs) (u : Under) (object patched : State) (b : Before) (whole : PlanContent) (functions before : Keyed) : Type 0 where
  pub reach : ReachedAreAppended
  pub renamed : RenamedVisitsSame
  pub copies : SlotsAreCopied
  pub is : functions ≡ for_kernel (keeps_helpers u) before
  pub stands : Stands i object b patched
  pub among : AreAmong i b whole.maps

-- A program by its function.
planned_as : (i : Inputs) (u : Under) (object patched : State) (b : Before) (whole : PlanContent) (functions before : Keyed) (known : Known i u object patched b whole functions before) (e : List ℕ × ProgramContent) (f : FunctionContent) (keys : List Key) → IsLaidOut (keeps_helpers u) (unlinked_of patched) (own_key e.1) keys f.instructions → f.func_info ≡ functions_of (unlinked_of patched) (own_key e.1) keys → f.line_info ≡ lines_of (unlinked_of patched) (own_key e.1) keys → f.matched_tables ≡ tables_of (unlinked_of patched) (own_key e.1) keys → AllName object.types whole.type_bytes (program_of u.answers (is_some whole.type_bytes) e.0 e.1.section (Some f)).func_records → IsPlanProgram i u object patched b whole e (program_of u.answers (is_some whole.type_bytes) e.0 e.1.section (Some f))
planned_as i u object patched b whole functions before known e f keys laid records lines tables names = record {
  name = refl;
  section = refl;
  keys = keys;
  layout = laid.layout;
  reached = laid.reached;
  slots = laid.is;
  carried = slots_carried known.copies i u object patched b whole.maps known.stands known.among (own_key e.1) keys f.instructions laid.kernel;
  visits = laid.visits;
  func_records = ap (λ (rs : List bpf_func_info). if is_denied u.answers then [] else rs) records;
  line_records = ap (λ (rs : List bpf_line_info). if is_denied u.answers || not (is_some whole.type_bytes) then [] else rs) lines;
  tables = ap (λ (l : List ℕ). Some l) tables;
  names = names;
}

planned_program : (i : Inputs) (u : Under) (object patched : State) (b : Before) (whole : PlanContent) (functions before : Keyed) (known : Known i u object patched b whole functions before) (e : List ℕ × ProgramContent) → IsLinkedIn (unlinked_of patched) before (own_key e.1) → AllName object.types whole.type_bytes (plan_program_of u.answers (is_some whole.type_bytes) functions e).func_records → IsPlanProgram i u object patched b whole e (plan_program_of u.answers (is_some whole.type_bytes) functions e)
planned_program i u object patched b whole functions before known e one names =
    let f = function_for known.reach known.renamed (unlinked_of patched) (keeps_helpers u) functions before (own_key e.1) known.is one in
    subst (λ (o : Option FunctionContent). AllName object.types whole.type_bytes (program_of u.answers (is_some whole.type_bytes) e.0 e.1.section o).func_records → IsPlanProgram i u object patched b whole e (program_of u.answers (is_some whole.type_bytes) e.0 e.1.section o)) (sym f.1)
    (planned_as i u object patched b whole functions before known e f.0 f.2.0 f.2.1 f.2.2 f.2.3 f.2.4) names

equal_self : (n : ℕ) → nat_cmp n n ≡ Equal
equal_self n = sym (nat_cmp_is n n Equal refl)

same_self : (k : Key) → same k k ≡ true
same_self k = ap (λ (o : Ordering). is_eq (ordering_then o (nat_cmp k.1 k.1))) (equal_self k.0) ∙ ap is_eq (equal_self k.1)

has_under : (b x : Bool) → b ≡ true → (if b then true else x) ≡ true
has_under true x h = refl
has_under false x h = absurd (cc)

has_later : (b x : Bool) → x ≡ true → (if b then true else x) ≡ true
has_later true x h = refl
has_later false x h = h

pub planned_programs : (i : Inputs) (u : Under) (object patched : State) (b : Before) (whole : PlanContent) (functions before : Keyed) (known : Known i u object patched b whole functions before) (es : List (List ℕ × ProgramContent)) → ((key : Key) → has (program_keys es) key ≡ true → IsLinkedIn (unlinked_of patched) before key) → AllNamed object.types whole.type_bytes (map (plan_program_of u.answers (is_some whole.type_bytes) functions) es) → ArePlanPrograms i u object patched b whole es (map (plan_program_of u.answers (is_some whole.type_bytes) functions) es)
planned_programs i u object patched b whole functions before known [] linked names = tt
planned_programs i u object patched b whole functions before known (e ∷ es) linked names = (
  planned_program i u object patched b whole functions before known e (linked (own_key e.1) (has_under (same (own_key e.1) (own_key e.1)) (has (program_keys es) (own_key e.1)) (same_self (own_key e.1)))) names.0,
  planned_programs i u object patched b whole functions before known es (λ key later. linked key (has_later (same (own_key e.1) key) (has (program_keys es) key) later)) names.1,
)
