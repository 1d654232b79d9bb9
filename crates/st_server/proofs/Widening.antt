-- What a server whose store is kept tells, and what any server tells.
use Rattle.std.proofs.Common.{◌≡◌, ℕ, List, Option, Result, Ok, Err, refl, subst}
use Rattle.st_text.specs.Texts.{Text}
use Rattle.st_command_line.specs.declared.fault.Fault.{Fault}
use Rattle.st_command_line.specs.declared.fault.Fault.TheVariants.{StoreLost}
use Rattle.st_server.specs.Keeping.{TellsKept}
use Rattle.st_server_workers.specs.Telling.{Tells}

-- they differ where the store is lost
both : (address : Text) (connections : Option ℕ) (old new : Option (List ℕ)) (result : Result Unit Fault)
    → (Tells address connections old new result → TellsKept address connections old new result)
    × ((result ≡ Err StoreLost → ⊥) → TellsKept address connections old new result → Tells address connections old new result)
both address connections old new (Ok done) = (λ t. t, λ sound t. t)
both address connections old new (Err Fault.StoreLost) = (λ t. absurd t, λ sound t. absurd (sound refl))
both address connections old new (Err (Fault.Usage e)) = (λ t. t, λ sound t. t)
both address connections old new (Err Fault.NotText) = (λ t. t, λ sound t. t)
both address connections old new (Err Fault.BadNumber) = (λ t. t, λ sound t. t)
both address connections old new (Err Fault.BadAddress) = (λ t. t, λ sound t. t)
both address connections old new (Err Fault.WantsBindAddress) = (λ t. t, λ sound t. t)
both address connections old new (Err Fault.WantsPort) = (λ t. t, λ sound t. t)
both address connections old new (Err Fault.WantsStore) = (λ t. t, λ sound t. t)
both address connections old new (Err Fault.WantsCopy) = (λ t. t, λ sound t. t)
both address connections old new (Err Fault.BadDigest) = (λ t. t, λ sound t. t)
both address connections old new (Err Fault.BadName) = (λ t. t, λ sound t. t)
both address connections old new (Err Fault.Cut) = (λ t. t, λ sound t. t)
both address connections old new (Err Fault.TurnsSpent) = (λ t. t, λ sound t. t)
both address connections old new (Err Fault.OtherStore) = (λ t. t, λ sound t. t)
both address connections old new (Err Fault.OtherNames) = (λ t. t, λ sound t. t)
both address connections old new (Err Fault.StoreInUse) = (λ t. t, λ sound t. t)
both address connections old new (Err (Fault.LaterStore format)) = (λ t. t, λ sound t. t)
both address connections old new (Err Fault.NoStore) = (λ t. t, λ sound t. t)
both address connections old new (Err Fault.StoreDamaged) = (λ t. t, λ sound t. t)
both address connections old new (Err Fault.StoreInterrupted) = (λ t. t, λ sound t. t)
both address connections old new (Err Fault.StoreIo) = (λ t. t, λ sound t. t)
both address connections old new (Err Fault.Io) = (λ t. t, λ sound t. t)
both address connections old new (Err Fault.Bind) = (λ t. t, λ sound t. t)
both address connections old new (Err Fault.Accept) = (λ t. t, λ sound t. t)
both address connections old new (Err Fault.Write) = (λ t. t, λ sound t. t)
both address connections old new (Err Fault.NoMemory) = (λ t. t, λ sound t. t)
both address connections old new (Err Fault.NoPlace) = (λ t. t, λ sound t. t)
both address connections old new (Err Fault.NoThread) = (λ t. t, λ sound t. t)

pub widened : (address : Text) (connections : Option ℕ) (old new : Option (List ℕ)) (result : Result Unit Fault)
    → Tells address connections old new result → TellsKept address connections old new result
widened address connections old new result = (both address connections old new result).0

pub narrowed : (address : Text) (connections : Option ℕ) (old new : Option (List ℕ)) (result : Result Unit Fault)
    → (result ≡ Err StoreLost → ⊥) → TellsKept address connections old new result → Tells address connections old new result
narrowed address connections old new result = (both address connections old new result).1

-- what any server tells is not that its store is lost
pub not_lost : (address : Text) (connections : Option ℕ) (old new : Option (List ℕ)) (result : Result Unit Fault)
    → Tells address connections old new result → result ≡ Err StoreLost → ⊥
not_lost address connections old new result told lost = subst (λ r. Tells address connections old new r) lost told
