use Rattle.st_command.proofs.opening.store_and_opening_for.Goals as goal

pub returns-clause-ok : goal.returns-clause-ok
returns-clause-ok c = record {
  opens = record {
    digest = c.in_ok-digest.digest;
    written = c.in_ok-digest.ensures.ok;
    good = c.in_ok-opened.ensures.good;
    is = c.in_ok-opened.ensures.ok;
  };
  opening_is = c.in_ok-opening.ensures;
}
