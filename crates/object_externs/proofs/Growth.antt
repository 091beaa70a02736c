-- Tables to which types and strings are added.
use Rattle.std.proofs.Common.{◌≡◌, ℕ, ◌+◌, [], ◌∷◌, ◌++◌, length, inl, inr, ap, ◌∙◌, arith, length-append}
use Rattle.std.specs.List.{flat_map}
use Rattle.std.proofs.lemmas.Grind.{flat_map-append}
use Rattle.btf_encoding.specs.Records.{record_bytes}
use Rattle.btf_tables.specs.GrownTables.{TextsStay, TypesStay}
use Rattle.btf_tables.specs.Tables.{Table, type_bytes}
use Rattle.object_externs.specs.Faults.{IsOverfull}
use Rattle.object_externs.specs.Placeholder.{placeholder, placeholder_name, with_variable}

pub texts_then : (a b c : Table) → TextsStay a b → TextsStay b c → TextsStay a c
texts_then a b c p q = record { stay = λ offset text h. q.stay offset text (p.stay offset text h) }

pub types_then : (a b c : Table) → TypesStay a b → TypesStay b c → TypesStay a c
types_then a b c p q = record { stay = λ id t h. q.stay id t (p.stay id t h) }

-- A table that is too large remains too large when a variable is added.
pub still_overfull : (table : Table) (int : ℕ) → IsOverfull table → IsOverfull (with_variable int table)
still_overfull table int (inl strings) =
    let more : length (with_variable int table).strings ≡ length table.strings + length placeholder_name + 1 = length-append (table.strings ++ placeholder_name) (0 ∷ []) ∙ ap (λ n. n + 1) (length-append table.strings placeholder_name) in
    inl (omega (arith, strings, more))
still_overfull table int (inr (inl bytes)) =
    let more : length (type_bytes (with_variable int table)) ≡ length (type_bytes table) + length (flat_map (record_bytes table.order) (placeholder (length table.strings) int ∷ [])) =
    ap length (flat_map-append (record_bytes table.order) table.types (placeholder (length table.strings) int ∷ [])) ∙ length-append (type_bytes table) _ in
    inr (inl (omega (arith, bytes, more)))
still_overfull table int (inr (inr types)) = inr (inr (omega (arith, types, length-append table.types (placeholder (length table.strings) int ∷ []))))
