use Rattle.st_core.proofs.Shelving.{is_there}
use Rattle.st_core.proofs.store.tables.position.Goals as goal

pub returns-clause-inside : goal.returns-clause-inside
returns-clause-inside g c = (is_there c.args.name.now c.args.shelves.now c.place_of.result c.place_of.ensures.alone c.requires.there).0

pub returns-clause-found : goal.returns-clause-found
returns-clause-found g c = (is_there c.args.name.now c.args.shelves.now c.place_of.result c.place_of.ensures.alone c.requires.there).1
