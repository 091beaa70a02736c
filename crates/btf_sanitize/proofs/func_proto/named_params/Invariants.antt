use Rattle.std.proofs.Common.{◌≡◌, ◌++◌, drop, length}
use Rattle.btf_sanitize.specs.Additions.{next_offset, with_texts}
use Rattle.btf_sanitize.specs.Names.{named_params, param_texts}
use Rattle.btf_sanitize.proofs.func_proto.named_params.Given as goal

abbrev pub invariant-loop-index : goal.invariant-loop-index
invariant-loop-index l =
    (l.named.items ++ named_params l.index (next_offset l.additions) (drop l.index l.params) ≡ named_params 0 (next_offset l.fn.additions) l.params)
    × (length l.named.items ≡ l.index)
    × (with_texts (param_texts l.index (drop l.index l.params)) l.additions ≡ with_texts (param_texts 0 l.params) l.fn.additions)
