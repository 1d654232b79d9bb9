-- What is said of a run in which no worker began.
use Rattle.std.proofs.Common.{◌≡◌, ◌⊎◌, ◌==◌, ℕ, List, [], Option, Err, inl, inr, refl, sym, ap, ◌∙◌, length, true, false, arith}
use Rattle.st_command_line.specs.declared.fault.Fault.{Fault}
use Rattle.st_command_line.specs.declared.fault.Fault.TheVariants.{StoreLost}
use Rattle.st_server_peer.specs.Meeting.{Call, Serving}
use Rattle.st_hall.specs.Steps.{Ask, HallState as State}
use Rattle.st_hall.specs.Decisions.{Standing}
use Rattle.st_server.specs.Attending.{Attends, AttendsFrom}

pub idle : {T P : Type 0} (leaves : (kept list : List Ask) → Type 0) (serves : Serving T) (call : P → Call) (standing : T → Standing) (attendants : List T)
    (connections : Option ℕ) (fault : Fault) → (fault ≡ StoreLost → ⊥)
    → AttendsFrom leaves serves call standing attendants connections (Err fault)
idle leaves serves call standing attendants connections fault sound = record {
  workers = [];
  each = inl refl;
  ok = tt;
  lost = λ is. absurd (sound (cc is));
  known = λ _. inl refl;
  number = tt;
}

pub nobody : {P : Type 0} (call : P → Call) (start : State) (leaves : (kept list : List Ask) → Type 0) (hold : ℕ) (connections : Option ℕ) (fault : Fault)
    → (fault ≡ StoreLost → ⊥) → Attends call start leaves hold connections (Err fault)
nobody call start leaves hold connections fault sound =
    record { stations = []; new = λ k d below. absurd (omega (arith, below)); attends = idle leaves _ call _ [] connections fault sound }

-- the workers are some, so this is so of them
pub of_some : {X W : Type 0} (workers : List X) (count : ℕ) → length workers ≡ count → (workers ≡ []) ⊎ W → (count == 0) ≡ false → W
of_some workers count is (inl none) some =
    let no : true ≡ false = sym (ap (λ w. length w == 0) none) ∙ (ap (λ n. n == 0) is ∙ some) in absurd (cc no)
of_some workers count is (inr each) some = each
