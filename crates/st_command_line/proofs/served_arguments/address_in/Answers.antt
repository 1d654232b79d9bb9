use Rattle.std.specs.Prelude.{Err}
use Rattle.std.specs.Net.Grammar.{IsIpv4Text}
use Rattle.std.proofs.Common.{refl, rules}
use Rattle.clap.specs.Words.{found_of, one_text}
use Rattle.st_command_line.specs.ServedArguments.{Gives, address_options}
use Rattle.st_command_line.proofs.Numbers.{bad_value, no_address, value_read}
use Rattle.st_command_line.proofs.served_arguments.address_in.Goals as goal

pub returns-in-Ok-clause-ok : goal.returns-in-Ok-clause-ok
returns-in-Ok-clause-ok c = λ words parsed.
    let gives : Gives IsIpv4Text (one_text (found_of c.args.matches.now) c.args.id.now) c.in-Ok.address = search rules in
    value_read IsIpv4Text words c.args.id.now c.args.matches.now parsed c.in-Ok.address gives

pub returns-in-Err-clause-err : goal.returns-in-Err-clause-err
returns-in-Err-clause-err c = λ words parsed.
    let unread = no_address (one_text (found_of c.args.matches.now) c.args.id.now) (Err c.in-Err.field-0) refl c.in-Err.ensures.none c.in-Err.ensures.value in
    bad_value address_options IsIpv4Text words c.args.id.now c.args.matches.now c.requires.taken parsed unread
