-- The records of a section info, one by one.
use Rattle.std.proofs.Common.{◌≡◌, ℕ, zero, suc, ◌*◌, ◌<◌, ◌≤◌, List, length, drop, None, Option, Some, refl, ap, subst, ◌∙◌, arith, mul-zero, slice_get}
use Rattle.std.specs.Prelude.{IfSome}
use Rattle.std.proofs.lemmas.List.{drop-drop}
use Rattle.std.proofs.lemmas.Option.{slice_get_past}
use Rattle.btf_encoding.specs.Items.{items_in}
use Rattle.btf_ext.specs.Faults.{kind_count}
use Rattle.btf_ext.specs.Records.{relocation_in}
use Rattle.btf_ext.specs.SecInfoRecords.{AreOfKnownKinds, records_in}
use Rattle.btf_ext.specs.declared.record.bpf_core_relo.{bpf_core_relo}
use Rattle.btf_ext.specs.declared.sec_info.SectionInfoRecords.{SectionInfoRecords}

pub length_items_in : {T : Type 0} (item : List ℕ → T) (size n : ℕ) (bytes : List ℕ) → length (items_in item size n bytes) ≡ n
length_items_in item size zero bytes = refl
length_items_in item size (suc n) bytes = ap suc (length_items_in item size n (drop size bytes))

pub item_at : {T : Type 0} (item : List ℕ → T) (size n i : ℕ) (bytes : List ℕ) → i < n → slice_get (items_in item size n bytes) i ≡ Some (item (drop (size * i) bytes))
item_at item size zero i bytes lt = absurd (omega arith)
item_at item size (suc n) zero bytes lt = rw mul-zero refl
item_at item size (suc n) (suc i) bytes lt =
    let at : drop (size * i) (drop size bytes) ≡ drop (size * suc i) bytes = drop-drop (size * i) size bytes ∙ ap (λ (k : ℕ). drop k bytes) (omega arith) in
    item_at item size n i (drop size bytes) (omega arith) ∙ ap (λ (b : List ℕ). Some (item b)) at

pub no_item_at : {T : Type 0} (item : List ℕ → T) (size n i : ℕ) (bytes : List ℕ) → n ≤ i → slice_get (items_in item size n bytes) i ≡ None
no_item_at item size n i bytes past =
    let past_all : length (items_in item size n bytes) ≤ i = rw length_items_in past in
    slice_get_past (items_in item size n bytes) i past_all

kind_of_same : (a b : bpf_core_relo) → Some a ≡ Some b → b.kind < kind_count → a.kind < kind_count
kind_of_same a b e less =
    let same : b ≡ a = cc in
    subst (λ (r : bpf_core_relo). r.kind < kind_count) same less

-- The relocation at an index has a known kind.
known_at : (g : SectionInfoRecords) (index : ℕ) (r : bpf_core_relo) → AreOfKnownKinds g → Some r ≡ slice_get (records_in relocation_in g) index → index < g.count → r.kind < kind_count
known_at g index r are some within =
    kind_of_same r (relocation_in g.order (drop (g.size * index) g.bytes.now)) (some ∙ item_at (relocation_in g.order) g.size g.count index g.bytes.now within) (are.known index within)

pub known_where_found : (g : SectionInfoRecords) (index : ℕ) (found : Option bpf_core_relo) → AreOfKnownKinds g → found ≡ slice_get (records_in relocation_in g) index → IfSome found (λ r. index < g.count) → IfSome found (λ r. r.kind < kind_count)
known_where_found g index None are is within = tt
known_where_found g index (Some r) are is within = known_at g index r are is within
