-- What a run told, by the place where it stopped.
use Rattle.std.proofs.Common.{◌≡◌, ◌⊎◌, ℕ, List, Option, Some, Result, Ok, Err, OnOk, IfErr, codes, decimal, inl, inr, sym, subst}
use Rattle.std.specs.Io.KnownBytes.{Appends}
use Rattle.std.proofs.KnownBytes.{Appends-nil, Appends-trans}
use Rattle.st_text.specs.Texts.{Text}
use Rattle.st_command_line.specs.declared.fault.Fault.{Fault}
use Rattle.st_command_line.specs.declared.fault.Fault.TheVariants.{Bind, Write, NoMemory}
use Rattle.st_server_workers.specs.Telling.{Stops, Tells, line}

-- a line was not taken, or there was no memory for it and nothing was told
abbrev pub Untold : Option (List ℕ) → Option (List ℕ) → Fault → Type 0
Untold old new fault = (fault ≡ Write) ⊎ ((fault ≡ NoMemory) × (new ≡ old))

pub not_bound : (address : Text) (connections : Option ℕ) (old : Option (List ℕ)) (fault : Fault) → fault ≡ Bind → Tells address connections old old (Err fault)
not_bound address connections old fault is = subst (λ f. Tells address connections old old (Err f)) (sym is) (Appends-nil old)

pub no_memory : (address : Text) (connections : Option ℕ) (old : Option (List ℕ)) (fault : Fault) → fault ≡ NoMemory → Tells address connections old old (Err fault)
no_memory address connections old fault is = subst (λ f. Tells address connections old old (Err f)) (sym is) (inl (Appends-nil old))

pub not_listening : (address : Text) (connections : Option ℕ) (old new : Option (List ℕ)) (fault : Fault) → Untold old new fault → Tells address connections old new (Err fault)
not_listening address connections old new fault (inl is) = subst (λ f. Tells address connections old new (Err f)) (sym is) tt
not_listening address connections old new fault (inr h) = subst (λ n. Tells address connections old n (Err fault)) (sym h.1) (no_memory address connections old fault h.0)

pub all_told : (address : Text) (number : ℕ) (connections : Option ℕ) (old mid new : Option (List ℕ)) (result : Result Unit Fault)
    → Appends old mid (line (codes "listening") address) → connections ≡ Some number
    → OnOk result (Appends mid new (line (codes "served") (decimal number))) → IfErr result (Untold mid new)
    → Tells address connections old new result
all_told address number connections old mid new (Ok done) first is told untold = (number, is, Appends-trans old mid new _ _ first told)
all_told address number connections old mid new (Err fault) first is told (inl write) = subst (λ f. Tells address connections old new (Err f)) (sym write) tt
all_told address number connections old mid new (Err fault) first is told (inr h) =
    subst (λ f. Tells address connections old new (Err f)) (sym h.0) (inr (subst (λ n. Appends old n (line (codes "listening") address)) (sym h.1) first))

pub stopped : (address : Text) (connections : Option ℕ) (old new : Option (List ℕ)) (fault : Fault) → Appends old new (line (codes "listening") address)
    → Stops fault → Tells address connections old new (Err fault)
stopped address connections old new fault told (inl is) = subst (λ f. Tells address connections old new (Err f)) (sym is) told
stopped address connections old new fault told (inr (inl is)) = subst (λ f. Tells address connections old new (Err f)) (sym is) told
stopped address connections old new fault told (inr (inr is)) = subst (λ f. Tells address connections old new (Err f)) (sym is) (inr told)
