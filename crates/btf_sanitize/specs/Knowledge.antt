-- The facts given to a rewriting.
use Rattle.btf_sanitize.specs.Answers.{granted}
use Rattle.btf_sanitize.specs.Facts.{Facts, number_named}
use Rattle.btf_sanitize.specs.declared.known.Known.{Known}

abbrev pub facts_of : Known → Facts
facts_of k =
    record {
      grants = granted k.answers.now.items;
      strings = k.strings.now;
      types = k.types.now.types;
      sizes = number_named k.sizes.now.entries;
      offsets = number_named k.offsets.now.entries;
    }
