use Rattle.std.proofs.Common.{◌≡◌, ◌++◌, map, subst}
use Rattle.std.specs.Prelude.{OnOk}
use Rattle.std.specs.List.{flat_map}
use Rattle.btf_encoding.specs.Records.{Spells, record_bytes, without_fallback}
use Rattle.btf_storage.specs.Layout.{RecordList}
use Rattle.btf_storage.proofs.Writing.{all_spelled, all_written, are_records}
use Rattle.btf_storage.proofs.records.TypeRecords.write.Goals as goal

pub push_types-requires : goal.push_types-requires
push_types-requires c =
    let s = c.self.inside in
    rw c.as_slice.ensures (are_records s.order s.bytes s.places.items s.fallbacks.entries c.self.invariant)

pub returns-clause-written : goal.returns-clause-written
returns-clause-written c =
    let s = c.self.inside in
    let again = rw c.as_slice.ensures at c.push_types.ensures.written in
    let written = all_written c.push_types.result s.order s.bytes s.places.items s.fallbacks.entries c.args.out.now.items c.push_types.new.out.items c.self.invariant again in
    subst (λ (l : RecordList). OnOk c.push_types.result (c.push_types.new.out.items ≡ c.args.out.now.items ++ flat_map (record_bytes l.order) l.types)) c.self.view_is written

pub returns-clause-spelled : goal.returns-clause-spelled
returns-clause-spelled c =
    let s = c.self.inside in
    let again = rw c.as_slice.ensures at c.push_types.ensures.written in
    let spelled = all_spelled c.push_types.result s.order s.bytes s.places.items s.fallbacks.entries c.args.out.now.items c.push_types.new.out.items c.self.invariant again in
    subst (λ (l : RecordList). OnOk c.push_types.result (Spells l.order (map without_fallback l.types) (flat_map (record_bytes l.order) l.types))) c.self.view_is spelled
