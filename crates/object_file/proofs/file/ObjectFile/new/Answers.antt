use Rattle.object_file.proofs.Faultless.{file-faultless, no-held-fault}
use Rattle.object_file.proofs.file.ObjectFile.new.Goals as goal

pub returns-clause-faultless : goal.returns-clause-faultless
returns-clause-faultless c =
    let sound = c.requires.openable in
    record {
      none =
          file-faultless c.args.opened sound.faultless
          (no-held-fault c.args.opened c.requires.readable c.requires.related sound.license sound.version sound.named);
    }
