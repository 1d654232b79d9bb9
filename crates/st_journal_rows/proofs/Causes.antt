-- Why a call of a store failed.
use Rattle.std.proofs.Common.{◌≡◌, ◌⊎◌, inl, inr, ◌≤◌, ℕ, false, IsTrue, Ok, Err, OnOk, refl, sym, subst}
use Rattle.std.specs.Prelude.{⊤, Result, IfErr}
use Rattle.sqlite_trees.specs.declared.error.StoreError.{StoreError}
use Rattle.sqlite_trees.specs.declared.error.StoreError.TheVariants.{OutOfMemory, Io, Corrupt, Full, Broken, Unstorable}
use Rattle.sqlite_trees.specs.View.{View, HasCause, IsRolledBack}
use Rattle.st_journal.specs.Faults.{FaultsRise}
use Rattle.st_journal.proofs.Rising.{rises_after, rises_before}
use Rattle.st_journal_rows.specs.inner.Writes.{Wrote}

-- what is known of the error of a call
pub known_of : {X E : Type 0} (P : E → Type 0) (r : Result X E) (e : E) → r ≡ Err e → IfErr r P → P e
known_of P r e is h = subst (λ q. IfErr q P) is h

-- the cause of a call, as one since an earlier moment
pub carried : {f g : Type 0} (u : Type 0) (old mid : View) (e : StoreError) → mid.is_broken ≡ old.is_broken → (f → g) → HasCause mid f u e → HasCause old g ⊤ e
carried u old mid OutOfMemory same rise why = tt
carried u old mid Io same rise why = rise why
carried u old mid Corrupt same rise why = rise why
carried u old mid Full same rise why = rise why
carried u old mid Broken same rise why = subst IsTrue same why
carried u old mid Unstorable same rise why = tt

pub all_carried : {X f g : Type 0} (u : Type 0) (r : Result X StoreError) (old mid : View) → mid.is_broken ≡ old.is_broken → (f → g)
    → IfErr r (HasCause mid f u) → IfErr r (HasCause old g ⊤)
all_carried u (Ok x) old mid same rise why = why
all_carried u (Err e) old mid same rise why = carried u old mid e same rise why

pub of_memory : (f u : Type 0) (old : View) (e : StoreError) → e ≡ OutOfMemory → HasCause old f u e
of_memory f u old e is = subst (λ x. HasCause old f u x) (sym is) tt

-- an error of the writing or of the commit, where only a fault can be the cause
pub refused_by : (sound old : View) (before mid after : ℕ) (written : Result (Unit {0}) StoreError) (e : StoreError)
    → ((v : View) (from to : ℕ) → v.is_broken ≡ false → HasCause v (FaultsRise from to) ⊤ e → FaultsRise from to)
    → Wrote sound old before mid written → before ≤ mid → mid ≤ after
    → (written ≡ Err e) ⊎ ((written ≡ Ok tt) × HasCause old (FaultsRise mid after) ⊥ e) → FaultsRise before after
refused_by sound old before mid after written e fault wrote grown more (inl is) =
    rises_before before mid after (fault sound before mid wrote.sound (known_of (HasCause sound (FaultsRise before mid) ⊤) written e is wrote.failed)) more
refused_by sound old before mid after written e fault wrote grown more (inr (is, why)) =
    fault old before after (subst (λ r. OnOk r (old.is_broken ≡ false)) is wrote.went)
    (carried ⊥ old old e refl (rises_after before mid after grown) why)

-- a store that is broken after a rollback was shut by a fault
pub shut : {f : Type 0} (old new : View) → IsRolledBack old new → IsTrue new.is_broken → IsTrue new.is_open ⊎ f → f
shut old new rolled broken (inl still) = absurd (let sound = (rolled.undone still).1 in cc)
shut old new rolled broken (inr fault) = fault
