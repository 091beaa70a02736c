use Rattle.std.proofs.Common.{◌+◌, [], ◌∷◌, ◌++◌, length, ap, subst, ◌∙◌}
use Rattle.std.specs.Prelude.{◌⊎◌}
use Rattle.std.specs.List.{flat_map}
use Rattle.btf_storage.specs.Growth.{TooMany}
use Rattle.btf_storage.specs.Layout.{RecordList}
use Rattle.btf_storage.specs.NewRecords.{record_of}
use Rattle.btf_storage.proofs.Places.{few_bytes_of, few_types_of}
use Rattle.btf_storage.proofs.Growth.{grown, grown_tight, too_many}
use Rattle.btf_encoding.specs.Records.{record_bytes}
use Rattle.btf_storage.proofs.records.TypeRecords.push_record.Goals as goal

pub invariant_of-self : goal.invariant_of-self
invariant_of-self c =
    let s = c.self.inside in
    let few_bytes = rw c.in-Ok.ensures.bytes at c.in-Ok.ensures.few_bytes in
    let few_types = rw c.in-Ok.ensures.places at c.in-Ok.ensures.few_types in
    rw (c.in-Ok.ensures.bytes, c.in-Ok.ensures.places) (grown_tight s.order s.bytes s.places.items s.fallbacks.entries c.append.new.fallbacks.entries (record_of c.args.t) c.self.invariant c.in-Ok.ensures.read_back c.in-Ok.ensures.fallbacks few_bytes few_types)

pub returns-in-Ok-clause-types : goal.returns-in-Ok-clause-types
returns-in-Ok-clause-types c =
    let s = c.self.inside in
    rw (c.in-Ok.ensures.bytes, c.in-Ok.ensures.places) (grown s.order s.bytes s.places.items s.fallbacks.entries c.append.new.fallbacks.entries (record_of c.args.t) c.self.invariant c.in-Ok.ensures.read_back c.in-Ok.ensures.fallbacks ∙ ap (λ (l : RecordList). l.types ++ (record_of c.args.t) ∷ []) c.self.view_is)

pub returns-in-Err-clause-refused : goal.returns-in-Err-clause-refused
returns-in-Err-clause-refused c = λ other.
    let s = c.self.inside in
    let refused = c.in-Err.ensures.refused other in
    (refused.0, subst (λ (l : RecordList). TooMany (length (flat_map (record_bytes l.order) (l.types ++ (record_of c.args.t) ∷ []))) ⊎ TooMany (length l.types + 1)) c.self.view_is (too_many s.order s.bytes s.places.items s.fallbacks.entries (record_of c.args.t) c.self.invariant refused.1))

pub returns-in-Ok-clause-few_bytes : goal.returns-in-Ok-clause-few_bytes
returns-in-Ok-clause-few_bytes c =
    let s = c.self.inside in
    let few_bytes = rw c.in-Ok.ensures.bytes at c.in-Ok.ensures.few_bytes in
    let few_types = rw c.in-Ok.ensures.places at c.in-Ok.ensures.few_types in
    let laid = grown_tight s.order s.bytes s.places.items s.fallbacks.entries c.append.new.fallbacks.entries (record_of c.args.t) c.self.invariant c.in-Ok.ensures.read_back c.in-Ok.ensures.fallbacks few_bytes few_types in
    rw (c.in-Ok.ensures.bytes, c.in-Ok.ensures.places) (few_bytes_of s.order (s.bytes ++ record_bytes s.order (record_of c.args.t)) (s.places.items ++ length s.bytes ∷ []) c.append.new.fallbacks.entries laid)

pub returns-in-Ok-clause-few_types : goal.returns-in-Ok-clause-few_types
returns-in-Ok-clause-few_types c =
    let s = c.self.inside in
    let few_bytes = rw c.in-Ok.ensures.bytes at c.in-Ok.ensures.few_bytes in
    let few_types = rw c.in-Ok.ensures.places at c.in-Ok.ensures.few_types in
    let laid = grown_tight s.order s.bytes s.places.items s.fallbacks.entries c.append.new.fallbacks.entries (record_of c.args.t) c.self.invariant c.in-Ok.ensures.read_back c.in-Ok.ensures.fallbacks few_bytes few_types in
    rw (c.in-Ok.ensures.bytes, c.in-Ok.ensures.places) (few_types_of s.order (s.bytes ++ record_bytes s.order (record_of c.args.t)) (s.places.items ++ length s.bytes ∷ []) c.append.new.fallbacks.entries laid)
