use Rattle.std.proofs.Common.{◌≡◌, ◌/◌, ◌%◌, ◌^◌, refl, ap, sym, ◌∙◌, arith}
use Rattle.std.specs.Prelude.{slice_index}
use Rattle.btf_search.specs.Prefixes.{Filter, hash_of}
use Rattle.btf_search.proofs.MarkedNames.{marked}
use Rattle.btf_search.proofs.prefixes.PrefixFilter.mark.Goals as goal

pub returns : goal.returns
returns c =
    let len : c.self.inside.len ≡ c.args.self.now.len = ap (λ (f : Filter). f.len) c.self.view_is in
    rw (← c.self.view_is) (marked c.self.inside.len c.hash_of-hash.result (c.hash_of-hash.result / 2 ^ 8) (c.hash_of-hash.result % 2 ^ 8) c.args.name.now c.first_bytes.result c.self.inside.high c.self.inside.low c.mark.new.self c.mark-2.new.self (omega (arith, len, c.requires)) c.self.invariant.0
    (λ i lt. c.first_bytes.ensures i lt ∙ ap (λ bytes. slice_index bytes i) c.as_bytes.ensures.value)
    (c.hash_of-hash.ensures.value ∙ ap (λ n. hash_of n c.first_bytes.result) (sym len))
    refl refl c.mark.ensures c.mark-2.ensures)
