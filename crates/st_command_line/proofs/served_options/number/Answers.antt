use Rattle.std.proofs.Common.{rules}
use Rattle.st_command_line.proofs.Refusing.{fits}
use Rattle.st_command_line.proofs.served_options.number.Goals as goal

pub returns-clause-fits : goal.returns-clause-fits
returns-clause-fits c = fits c.value_parser.result c.args.name.now (search rules) c.requires.own (search rules) (search rules)
