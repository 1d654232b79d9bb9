use Rattle.std.proofs.Common.{sym, Some, None, arith}
use Rattle.std.proofs.lemmas.List.{take_all}
use Rattle.std.proofs.lemmas.Str.Pattern.{split_once_first}
use Rattle.st_journal_rows.proofs.other.owner_in.Goals as goal

pub returns-in-Some : goal.returns-in-Some
returns-in-Some c = (split_once_first 32 c.args.opening.now (Some (c.in-Some.owner, c.in-Some.field-0-1)) c.in-Some.ensures.cases (omega arith)).1

pub returns-in-None : goal.returns-in-None
returns-in-None c =
    let none = split_once_first 32 c.args.opening.now None c.in-None.ensures.cases (omega arith) in
    sym (take_all _ c.args.opening.now (omega arith))
