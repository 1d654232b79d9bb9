use Rattle.std.proofs.Common.{inl, refl}
use Rattle.st_service.proofs.Unheard.{replies_to_stranger}
use Rattle.st_service.proofs.law.strangers_are_refused.Goals as goal

pub returns : goal.returns
returns g c = λ s m is_found none. replies_to_stranger s m is_found none _ (inl refl)
