use Rattle.st_journal_compact.proofs.Seeing as seeing
use Rattle.st_journal_compact.proofs.law.stands_for_the_same.Goals as goal

pub returns-clause-whole : goal.returns-clause-whole
returns-clause-whole c = λ first after records made. (seeing.seen first after records made).made

pub returns-clause-short : goal.returns-clause-short
returns-clause-short c = λ first after records kept bare watched short.
    (seeing.stands_for_the_same first after records kept bare.0 bare.1 watched.0 watched.1 short).1
