use Rattle.std.proofs.Common.{leb, cond, refl}
use Rattle.std.proofs.lemmas.Simd.{length-chunk, splat_is_map, zip2_of_maps, zip2_splat}
use lib.Lanes.{chunk}
use Rattle.kernel_symbols.proofs.BlockLemmas.{block_plain, block_within}
use Rattle.kernel_symbols.proofs.blocks.plain_in_block.Goals as goal

pub returns-clause-within : goal.returns-clause-within
returns-clause-within c =
    let block = chunk c.args.at 16 c.args.bytes.now in
    let long = length-chunk c.args.at 16 c.args.bytes.now c.requires in
    block_within c.args.bytes.now c.args.at _ _ c.requires c.type_inv.bytes c.first_set.ensures _
    (zip2_of_maps (λ a b. cond (leb a b) 255 0) _ _ block (splat_is_map block 16 95 long) (zip2_splat _ block 16 33 long))

pub returns-clause-plain : goal.returns-clause-plain
returns-clause-plain c =
    let block = chunk c.args.at 16 c.args.bytes.now in
    let long = length-chunk c.args.at 16 c.args.bytes.now c.requires in
    block_plain c.args.bytes.now c.args.at _ _ c.requires c.type_inv.bytes c.first_set.ensures _
    (zip2_of_maps (λ a b. cond (leb a b) 255 0) _ _ block (splat_is_map block 16 95 long) (zip2_splat _ block 16 33 long)) refl
