use Rattle.std.proofs.Common.{refl, rules, subst}
use Rattle.btf_tables.specs.Sections.{HoldsTable, without_fallbacks}
use Rattle.btf_tables.specs.declared.section.Header.{Header}
use Rattle.btf_tables.proofs.Headers.{section_holds}
use Rattle.btf_tables.specs.Tables.{Table, type_bytes}
use Rattle.btf_tables.proofs.table.Btf.to_bytes.Goals as goal

pub returns-clause-holds : goal.returns-clause-holds
returns-clause-holds c =
    let s = c.self.inside in
    let table : Table = record { order = s.records.order; magic = s.magic; version = s.version; flags = s.flags; strings = s.strings; types = s.records.types } in
    let h : Header = record { magic = s.magic; version = s.version; flags = s.flags; types_len = c.byte_len-types_len.result; strings_len = c.len-strings_len.result } in
    subst (λ (t : Table). HoldsTable t.order c.extend_from_slice.new.self.items (without_fallbacks t)) c.self.view_is
    (section_holds s.records.order h (type_bytes table) s.strings c.extend_from_slice.new.self.items (without_fallbacks table) (rw (c.in_ok-extend_from_slice.ensures.items, c.in_ok-write.ensures.written, c.in_ok-push_header.ensures.written, c.order.ensures, c.as_slice.ensures, c.in_ok-out.ensures.items) refl) (record {
      types_len = c.byte_len-types_len.ensures.value;
      strings_len = search rules;
      few_types = c.byte_len-types_len.ensures.bounded;
      few_strings = search rules;
      magic_fits = c.in_ok-push_header.ensures.fits;
      same_order = refl;
      magic = refl;
      version = refl;
      flags = refl;
      strings = refl;
      spelled = c.in_ok-write.ensures.spelled;
    }))
