use Rattle.st_label.proofs.Places.{one_tree, reading_is, reading_none}
use Rattle.st_label.proofs.law.one_reading.Goals as goal

pub returns-clause-one : goal.returns-clause-one
returns-clause-one c = one_tree

pub returns-clause-reading : goal.returns-clause-reading
returns-clause-reading c = reading_is

pub returns-clause-nothing : goal.returns-clause-nothing
returns-clause-nothing c = reading_none
