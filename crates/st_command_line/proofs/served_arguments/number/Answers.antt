use Rattle.std.proofs.Common.{rules}
use Rattle.clap.specs.Words.{found_of, one_text}
use Rattle.st_command_line.specs.ServedArguments.{Gives, Writes, number_options}
use Rattle.st_command_line.proofs.Numbers.{IsUnread, bad_value, no_number, value_read}
use Rattle.st_command_line.proofs.served_arguments.number.Goals as goal

pub returns-in-Ok-clause-ok : goal.returns-in-Ok-clause-ok
returns-in-Ok-clause-ok c = λ words parsed.
    let gives : Gives Writes (one_text (found_of c.args.matches.now) c.args.id.now) c.in-Ok.number = search rules in
    value_read Writes words c.args.id.now c.args.matches.now parsed c.in-Ok.number gives

pub returns-in-Err-clause-err : goal.returns-in-Err-clause-err
returns-in-Err-clause-err c = λ words parsed.
    let unread : IsUnread (one_text (found_of c.args.matches.now) c.args.id.now) = search rules in
    bad_value number_options Writes words c.args.id.now c.args.matches.now c.requires.taken parsed (no_number _ unread)
