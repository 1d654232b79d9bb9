use Rattle.st_dir.proofs.Listed.{granted_listed}
use Rattle.st_dir.proofs.law.what_is_granted_is_listed.Goals as goal

pub returns : goal.returns
returns g c d user scope p = granted_listed d user scope p
