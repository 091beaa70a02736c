use Rattle.std.proofs.Common.{◌≡◌, ◌++◌, ℕ, List, true, ap, ◌∙◌, sym, arith, take}
use Rattle.btf_encoding.specs.Records.{kind_at}
use Rattle.btf_encoding.specs.Rewriting.{is_kept}
use Rattle.btf_encoding.proofs.CopiedBack.{copied_back}
use Rattle.btf_encoding.proofs.Kept.{is_kept_back}
use Rattle.btf_encoding.proofs.rewriting.push_read.Goals as goal

pub returns-then-is_kept-clause-ok : goal.returns-then-is_kept-clause-ok
returns-then-is_kept-clause-ok c =
    let order = c.args.order in
    let bytes = c.args.bytes.now in
    let kept : is_kept (kind_at order bytes) order bytes ≡ true = sym c.is_kept.ensures ∙ c.if-is_kept.true in
    let written = is_kept_back order bytes c.requires (λ k. omega (arith, c.type_inv.bytes k)) kept in
    c.in_ok-extend_from_slice.ensures.items ∙ ap (λ (l : List ℕ). c.args.out.now.items ++ l) (c.split_at.ensures.front ∙ (ap (λ (n : ℕ). take n bytes) c.len_of.ensures ∙ sym written))

pub returns-then-is_kept-clause-read_back : goal.returns-then-is_kept-clause-read_back
returns-then-is_kept-clause-read_back c =
    let order = c.args.order in
    let bytes = c.args.bytes.now in
    let kept : is_kept (kind_at order bytes) order bytes ≡ true = sym c.is_kept.ensures ∙ c.if-is_kept.true in
    copied_back order bytes c.requires (λ k. omega (arith, c.type_inv.bytes k)) kept
