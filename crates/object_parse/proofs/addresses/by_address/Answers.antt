use Rattle.std.proofs.Common.{◌<◌, ◌∙◌, ◌∷◌, [], sym, ap, length, arith}
use Rattle.std.specs.Option.{option_or}
use Rattle.object_parse.proofs.Definitions.{definition_of-more}
use Rattle.object_parse.specs.TextSections.{definition_of}
use Rattle.object_parse.proofs.addresses.by_address.Goals as goal

pub loop-symbol-preserved : goal.loop-symbol-preserved
loop-symbol-preserved c =
    let within : c.loop-symbol.symbol-index < length c.args.symbols.now = omega arith in
    record {
      at =
          λ address. c.in_ok-add_definition.ensures.at address
          ∙ ap (λ o. option_or o (definition_of (c.symbol-item.result ∷ []) address)) (c.loop-symbol.invariant.at address)
          ∙ sym (definition_of-more c.args.symbols.now c.loop-symbol.symbol-index c.symbol-item.result address within c.symbol-item.is);
    }
