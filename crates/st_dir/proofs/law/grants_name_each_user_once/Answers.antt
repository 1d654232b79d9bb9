use Rattle.std.proofs.Common.{map, filter, sym, subst}
use Rattle.st_grant.specs.Grants.{same_scope}
use Rattle.st_sorted.specs.Sorted.{Rises, name_key}
use Rattle.st_dir.proofs.Laws.{named_back}
use Rattle.st_grant.proofs.Sets.{rises_set}
use Rattle.st_dir.proofs.law.grants_name_each_user_once.Goals as goal

pub returns : goal.returns
returns g c d scope = subst (Rises name_key) (sym (named_back d scope)) (rises_set (map (λ h. h.user) (filter (λ h. same_scope scope h.scope) d.grants)))
