use Rattle.std.proofs.Common.{inl}
use Rattle.st_store_file.proofs.journal.put_in_place.Goals as goal

pub returns-then-kept-before-clause-crash : goal.returns-then-kept-before-clause-crash
returns-then-kept-before-clause-crash g c = λ clean left leaves. inl (c.leave.ensures clean left leaves)
