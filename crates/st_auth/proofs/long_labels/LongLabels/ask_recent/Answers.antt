use Rattle.std.proofs.Common.{sym, subst}
use Rattle.st_auth.specs.inner.Remembered.{AreHeld}
use Rattle.st_auth.proofs.long_labels.LongLabels.ask_recent.Goals as goal

pub ask_in-verdict-requires : goal.ask_in-verdict-requires
ask_in-verdict-requires g c = record { entries = c.in-Some.ensures c.args.auths.now (subst (AreHeld c.args.auths.now) (sym c.take.ensures.value) c.requires.held) }
