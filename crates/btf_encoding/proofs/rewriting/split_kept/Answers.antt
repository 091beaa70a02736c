use Rattle.std.proofs.Common.{◌≡◌, ℕ, ◌-◌, [], true, length, drop, take, ◌∙◌, ap, arith, rules, length-drop}
use Rattle.btf_encoding.specs.Records.{kind_at, record_len}
use Rattle.btf_encoding.specs.Rewriting.{is_kept}
use Rattle.btf_encoding.proofs.Kept.{is_kept_after}
use Rattle.btf_encoding.proofs.ManyTypes.{first_record}
use Rattle.btf_encoding.proofs.Rewritten.{copied_more, left_more, records_left}
use Rattle.btf_encoding.proofs.rewriting.split_kept.Goals as goal

pub is_kept-requires : goal.is_kept-requires
is_kept-requires c = first_record c.args.order c.loop-order.rest.now c.loop-order.invariant.are (search rules)

pub loop-order-preserved : goal.loop-order-preserved
loop-order-preserved c =
    let order = c.args.order in
    let bytes = c.args.bytes.now in
    let rest = c.loop-order.rest.now in
    let i = c.loop-order.invariant in
    let has = first_record order rest i.are (search rules) in
    let kept : is_kept (kind_at order rest) order rest ≡ true = search rules in
    let left : c.after-rest.result.now ≡ drop (record_len order rest) rest = c.after-rest.ensures.value ∙ ap (λ (n : ℕ). drop n rest) c.len_of.ensures in
    let up = copied_more order bytes rest i.left i.within i.kept has (is_kept_after order bytes rest (length bytes - length rest) i.left has (λ k. omega (arith, c.type_inv.bytes k)) kept) in
    rw left (record {
      kept = up;
      left = left_more bytes rest (record_len order rest) i.left i.within has.whole;
      within = omega (arith, length-drop (record_len order rest) rest, i.within);
      are = records_left order bytes (drop (record_len order rest) rest) [] (take (length bytes - length (drop (record_len order rest) rest)) bytes) c.requires up;
    })
