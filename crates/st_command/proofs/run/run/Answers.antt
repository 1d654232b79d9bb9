use Rattle.std.proofs.Common.{◌⊎◌, inl, inr}
use Rattle.st_command.proofs.run.run.Goals as goal

-- a run in memory is one of the three, or is refused
in_memory : {A B C : Type 0} → A ⊎ B → A ⊎ (B ⊎ C)
in_memory (inl served) = inl served
in_memory (inr refused) = inr (inl refused)

pub returns-in-Some : goal.returns-in-Some
returns-in-Some g c = λ words says. inr (c.run_kept.ensures words says)

pub returns-in-None : goal.returns-in-None
returns-in-None g c = λ words says. in_memory (c.run_in_memory.ensures words says)
