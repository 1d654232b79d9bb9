use Rattle.std.proofs.Common.{refl, inl, inr}
use Rattle.st_service.proofs.Replying.{not_found, replies_unrouted, replies_mismatched}
use Rattle.st_service.proofs.answer.Answer.of_unrouted.Goals as goal

pub returns-in-Found-clause-routed : goal.returns-in-Found-clause-routed
returns-in-Found-clause-routed g c = (c.in-Found.field-0, c.in-Found.field-1.now, rw c.in-Found.is refl)

pub returns-in-NoRoute-clause-unrouted : goal.returns-in-NoRoute-clause-unrouted
returns-in-NoRoute-clause-unrouted g c = not_found c.args.message.now (inl c.in-NoRoute.is)

pub returns-in-NoRoute-clause-told : goal.returns-in-NoRoute-clause-told
returns-in-NoRoute-clause-told g c s = replies_unrouted s c.args.message.now _ c.in-NoRoute.is c.with.ensures

pub returns-in-BadMethod-clause-unrouted : goal.returns-in-BadMethod-clause-unrouted
returns-in-BadMethod-clause-unrouted g c = not_found c.args.message.now (inr (_, c.in-BadMethod.is))

pub returns-in-BadMethod-clause-told : goal.returns-in-BadMethod-clause-told
returns-in-BadMethod-clause-told g c s = replies_mismatched s c.args.message.now _ _ c.in-BadMethod.is c.with-in-BadMethod.ensures
