use Rattle.std.proofs.Common.{◌≡◌, Some, slice_get, refl, sym, ap, ◌∙◌}
use Rattle.btf_storage.specs.Layout.{RecordList}
use Rattle.btf_storage.proofs.Places.{record_is, stands_at}
use Rattle.btf_records.specs.declared.types.BtfType.{BtfType}
use Rattle.btf_storage.proofs.records.TypeRecords.get.Goals as goal

pub record_at-t-requires : goal.record_at-t-requires
record_at-t-requires c =
    let s = c.self.inside in
    let some : slice_get s.places.items c.args.index ≡ Some c.in-Some.place = rw c.deref.ensures.value at (sym c.place_at.ensures.value ∙ c.in-Some.is) in
    rw c.as_slice.ensures (stands_at s.order s.bytes s.places.items c.args.index c.in-Some.place c.self.invariant.stand some)

pub returns-in-Some-clause-value : goal.returns-in-Some-clause-value
returns-in-Some-clause-value c =
    let s = c.self.inside in
    let some : slice_get s.places.items c.args.index ≡ Some c.in-Some.place = rw c.deref.ensures.value at (sym c.place_at.ensures.value ∙ c.in-Some.is) in
    let read = ap (λ (t : RecordList). slice_get t.types c.args.index) (sym c.self.view_is) ∙ record_is s.order s.bytes s.fallbacks.entries s.places.items c.args.index c.in-Some.place some in
    let t = rw c.as_slice.ensures at c.record_at-t.ensures in
    sym (read ∙ ap (λ (x : BtfType). Some x) (sym (c.with_fallback.ensures ∙ rw (t, c.fallback_by_id-fallback.ensures) refl)))
