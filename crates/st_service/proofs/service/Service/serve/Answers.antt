use Rattle.std.proofs.Common.{◌≡◌, sym, true, false}
use Rattle.st_service.proofs.service.Service.serve.Goals as goal

pub returns-clause-served : goal.returns-clause-served
returns-clause-served g c =
    rw (sym c.self.view_is) (record {
      kept = _;
      within = c.serve.ensures.served;
      not_lost = λ e. let k : false ≡ true = c.serve.ensures.kept.lost e in cc;
    })
