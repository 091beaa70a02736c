use Rattle.std.proofs.Common.{sym, ◌∙◌}
use Rattle.btf_search.proofs.RawTexts.{unmarked}
use Rattle.btf_search.proofs.prefixes.PrefixFilter.may_have.Goals as goal

pub returns-in-Some : goal.returns-in-Some
returns-in-Some c = λ strings text offset is e isnt may.
    unmarked c.args.self.now strings text c.args.bytes.now c.in-Some.first.now offset c.hash_of.result c.hash_of.ensures.few is e c.in-Some.ensures.cases.same c.hash_of.ensures.value (sym c.has_hash.ensures ∙ isnt) may
