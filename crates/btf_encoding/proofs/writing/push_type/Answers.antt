use Rattle.btf_encoding.proofs.RoundTrip.{read_back}
use Rattle.btf_encoding.proofs.writing.push_type.Goals as goal

pub returns-in-Ok-clause-read_back : goal.returns-in-Ok-clause-read_back
returns-in-Ok-clause-read_back c = read_back _ _ (record { words = c.in-Ok.ensures.fits; count = c.in-Ok.ensures.count; bits = c.in-Ok.ensures.bits })
