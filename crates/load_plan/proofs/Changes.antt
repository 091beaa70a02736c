-- The states within a chain of passes.
use Rattle.std.proofs.Common.{◌≡◌, List, Bool, true, false, Option, Some, None, refl, sym, ap, ◌∙◌, subst}
use Rattle.std.specs.Prelude.{is_some, unwrap_or}
use Rattle.btf_sanitize.specs.Answers.{Answers}
use Rattle.btf_tables.specs.Tables.{Table}
use Rattle.ebpf_object.specs.Helpers.{IsSanitized, IsSanitizedIf, for_kernel}
use Rattle.ebpf_object.specs.Rewriting.{IsRewritten}
use Rattle.ebpf_object.specs.TypeRelocations.{type_section_infos, types_of}
use Rattle.linker.specs.Layout.{Key}
use Rattle.load_plan.specs.NamedFunctions.{all_named}
use Rattle.object_parts.specs.Content.{FunctionContent, has_newer_helper}
use Rattle.load_plan.specs.Inputs.{Inputs, IsSaid, State, Under}
use Rattle.load_plan.specs.Passes.{LinksPrograms, Made, Makes, PutsValues, RenamesHelpers, ResolvesExterns, WritesExterns, WritesNumbers, first_of, first_table, linking, patching, second_of}
use Rattle.load_plan.specs.Programs.{relocating_in}
use Rattle.load_plan.specs.declared.order.Order.{Order}
use Rattle.load_plan.specs.declared.order.Order.TheVariants.{RelocateFirst, RewriteFirst}
use Rattle.core_relocation.specs.Writes as types

abbrev Keyed : Type 0
Keyed = List (Key × FunctionContent)

-- The result of the two passes over types, in either order.
pub record TypePasses (i : Inputs) (u : Under) (resolved typed relocating : State) : Type 0 where
  pub before : relocating.functions ≡ resolved.functions
  pub written : types.AreRelocated (types_of relocating i.kernel_types) (type_section_infos relocating) typed.functions
  pub rewritten : IsRewritten u.answers resolved.file resolved.externs.ksyms resolved.types typed.types
  pub others : typed ≡ record resolved { functions = typed.functions; types = typed.types }

type_passes : (order : Order) (i : Inputs) (u : Under) (resolved middle typed : State) → Makes (first_of order) i u resolved middle → Makes (second_of order) i u middle typed → TypePasses i u resolved typed (relocating_in order resolved middle)
type_passes RelocateFirst i u resolved middle typed a b =
    let functions = ap (λ (o : State). o.functions) b.others in
    record {
      before = refl;
      written = subst (λ (fs : Keyed). types.AreRelocated (types_of resolved i.kernel_types) (type_section_infos resolved) fs) (sym functions) a.functions;
      rewritten = subst (λ (m : State). IsRewritten u.answers m.file m.externs.ksyms m.types typed.types) a.others b.types;
      others = b.others ∙ ap (λ (m : State). record m { types = typed.types }) a.others ∙ ap (λ (fs : Keyed). record resolved { functions = fs; types = typed.types }) (sym functions);
    }
type_passes RewriteFirst i u resolved middle typed a b =
    let tables = ap (λ (o : State). o.types) b.others in
    record {
      before = ap (λ (o : State). o.functions) a.others;
      written = b.functions;
      rewritten = subst (λ (t : Option Table). IsRewritten u.answers resolved.file resolved.externs.ksyms resolved.types t) (sym tables) a.types;
      others = b.others ∙ ap (λ (m : State). record m { functions = typed.functions }) a.others ∙ ap (λ (t : Option Table). record resolved { functions = typed.functions; types = t }) (sym tables);
    }

-- The states between the passes that change an object before its programs are linked.
pub record Changes (i : Inputs) (u : Under) (s t resolved typed mapped relocating : State) : Type 0 where
  pub named : all_named s.types s.functions ≡ true
  pub valued : State
  pub values : PutsValues i.settings s valued
  pub externs : ResolvesExterns (first_table i) i.symbols valued resolved
  pub types : TypePasses i u resolved typed relocating
  pub numbers : WritesNumbers i.settings typed mapped
  pub slots : WritesExterns mapped t

pub changes_of : (i : Inputs) (u : Under) (s t : State) (made : Made (patching i.order) i u s t) → Changes i u s t made.2.2.2.2.0 made.2.2.2.2.2.2.0 made.2.2.2.2.2.2.2.0 (relocating_in i.order made.2.2.2.2.0 made.2.2.2.2.2.0)
changes_of i u s t made =
    let a = made.2 in
    let b = a.2 in
    let c = b.2 in
    let d = c.2 in
    let e = d.2 in
    let f = e.2 in
    let g = f.2 in
    let h = g.2 in
    record {
      named = made.1.0;
      valued = b.0;
      values = subst (λ (m : State). PutsValues i.settings m b.0) (a.1.1 ∙ made.1.1) b.1;
      externs = subst (λ (m : State). ResolvesExterns (first_table i) i.symbols m d.0) c.1.1 d.1;
      types = type_passes i.order i u d.0 e.0 f.0 e.1 f.1;
      numbers = g.1;
      slots = subst (λ (m : State). WritesExterns g.0 m) (sym h.2) h.1;
    }

-- The states between the passes that link programs.
pub record Linked (u : Under) (s t : State) : Type 0 where
  pub linked : State
  pub links : LinksPrograms s linked
  pub helpers : RenamesHelpers u linked t

pub linked_of : (i : Inputs) (u : Under) (s t : State) → Made linking i u s t → Linked u s t
linked_of i u s t made = record {
  linked = made.0;
  links = made.1;
  helpers = subst (λ (m : State). RenamesHelpers u made.0 m) (sym made.2.2) made.2.1;
}

-- The functions for a kernel that has the newer helpers or lacks them, by the answer if the
-- question was asked.
pub record Kernel (Says : Bool → Type 0) (asks : Bool) (old new : Keyed) : Type 0 where
  pub answer : Option Bool
  pub said : IsSaid Says answer
  pub asked : is_some answer ≡ asks
  pub is : new ≡ for_kernel (unwrap_or answer true) old

kernel_if : (Says : Bool → Type 0) (b : Bool) (old new : Keyed) → IsSanitizedIf b Says old new → Kernel Says b old new
kernel_if Says false old new s = record { answer = None; said = tt; asked = refl; is = s }
kernel_if Says true old new s = record { answer = Some s.answer; said = s.said; asked = refl; is = s.is }

pub kernel_of : (Says : Bool → Type 0) (old new : Keyed) → IsSanitized Says old new → Kernel Says (has_newer_helper old) old new
kernel_of Says old new s = kernel_if Says (has_newer_helper old) old new s

-- The answers about an object whose helpers were renamed.
pub renames : (Says : Bool → Type 0) (answers : Answers) (s t : State) (kernel : Kernel Says (has_newer_helper s.functions) s.functions t.functions) → t ≡ record s { functions = t.functions } → RenamesHelpers (record { answers = answers; has_helpers = kernel.answer }) s t
renames Says answers s t kernel others = record {
  asked = kernel.asked;
  functions = others ∙ ap (λ (fs : Keyed). record s { functions = fs }) kernel.is;
}
