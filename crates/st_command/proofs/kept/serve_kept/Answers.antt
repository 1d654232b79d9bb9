use Rattle.std.proofs.Common.{inl, inr, rules}
use Rattle.st_command.proofs.kept.serve_kept.Goals as goal

pub returns : goal.returns
returns g c = elim c.serve_opened.ensures [
  | inl serves ↦ inl (record {
    journal = c.in_ok-journal.journal;
    before = c.into_store-store.result;
    found = search rules;
    made = search rules;
    serves = serves;
  })
  | inr refused ↦ inr refused
]
