use Rattle.std.proofs.Common.{◌≡◌, rules, subst}
use Rattle.std.specs.Option.{option_copied}
use Rattle.btf_encoding.specs.Records.{ReadsBack, type_in}
use Rattle.btf_records.specs.declared.types.BtfType.{BtfType}
use Rattle.btf_records.specs.declared.words.Endianness.{Endianness}
use Rattle.btf_encoding.proofs.CopiedBack.{back_with}
use Rattle.btf_encoding.proofs.view.TypeRef.push_to.Goals as goal

pub returns-then-eq-clause-read_back : goal.returns-then-eq-clause-read_back
returns-then-eq-clause-read_back c =
    let same : c.args.order ≡ c.self.inside.order = search rules in
    let read : ReadsBack c.args.order (type_in c.self.inside.order c.self.inside.bytes.now) = subst (λ (o : Endianness). ReadsBack c.args.order (type_in o c.self.inside.bytes.now)) same c.in_ok-push_read.ensures.read_back in
    subst (λ (t : BtfType). ReadsBack c.args.order t) c.self.view_is (back_with c.args.order (option_copied c.self.inside.fallback) (type_in c.self.inside.order c.self.inside.bytes.now) read)
