use Rattle.std.proofs.Common.{rules}
use Rattle.st_hall_press.proofs.Unheard.{refused_for_token, told_otherwise}
use Rattle.st_hall_desk.proofs.desk.is_known.Goals as goal

pub returns-in-Refused-Denied-Token : goal.returns-in-Refused-Denied-Token
returns-in-Refused-Denied-Token c s asked bad told = refused_for_token s asked bad (search rules)

pub returns-in_default : goal.returns-in_default
returns-in_default c s asked bad told = told_otherwise s asked _ bad told (λ e. search rules)

pub returns-in_default-2 : goal.returns-in_default-2
returns-in_default-2 c s asked bad told = told_otherwise s asked _ bad told (λ e. search rules)

pub returns-in_default-3 : goal.returns-in_default-3
returns-in_default-3 c s asked bad told = told_otherwise s asked _ bad told (λ e. search rules)
