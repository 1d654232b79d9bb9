use Rattle.st_journal_file.proofs.Restart.{finds}
use Rattle.st_journal_file.proofs.law.finds_what_was_left.Goals as goal

pub returns : goal.returns
returns g c image opening changes before after may opens =
    let journal = c.args.journal.now in
    finds journal.store image may (journal.numbered c.requires.clean) (journal.lasting c.requires.clean) g.R.Replay.applies opening changes before after opens
