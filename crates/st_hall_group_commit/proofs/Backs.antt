-- A journal before and after records were read back from it.
use Rattle.std.proofs.Common.{◌≡◌, ◌≢◌, ◌≤◌, ◌∙◌, ℕ, Bool, false, List, Result, Ok, Err, IfOk, drop, take, ap, sym, subst, arith}
use Rattle.st_journal.specs.declared.record.Record.{Record}
use Rattle.st_journal.specs.declared.journal.Journal.{Ghosts}
use Rattle.st_journal.specs.declared.read_back.ReadError.{ReadError}
use Rattle.st_journal.specs.declared.read_back.ReadError.TheVariants.{Lost}
use Rattle.st_journal.specs.Replays.{Replays}
use Rattle.st_journal_store.specs.Applying.{Applies}
use Rattle.st_hall_press.specs.Steps.{Ask, HallState as State, state_after}
use Rattle.st_hall_press.proofs.Fronts.{prefix_self}
use Rattle.st_hall_group_commit.specs.Rolls.{WasRead}
use Rattle.st_hall_group_commit.specs.inner.Sound.{IsSound}
use Rattle.st_hall_group_commit.proofs.Batches.{roll}

module _ {J : Type 0} (journals : Ghosts J)
    (first start : State) (list kept published : List Ask) (old new : J) (lost : Bool) (batch : List Record) where
  pub read_back : (was : Bool) → was ≡ false → IsSound journals first start batch (roll list kept published old was)
      → journals.misreads old ≤ journals.misreads new → (lost ≡ false → journals.is_ready new) → (lost ≡ false → journals.misreads new ≡ 0 → journals.list new ≡ journals.list old)
      → (journals.misreads new ≡ 0 → (left : List Record) → journals.may_leave new left → left ≡ journals.list old)
      → IsSound journals first start batch (roll list kept published new lost)
  read_back was alive s fewer ready same crash =
      let clean_then : journals.misreads new ≡ 0 → journals.misreads old ≡ 0 = λ clean. omega (arith, fewer, clean) in
      record {
        published_kept = s.published_kept;
        begins = s.begins;
        ready = ready;
        stands = λ goes_on clean.
            subst (λ (l : List Record). Replays Applies first l (state_after start kept)) (sym (same goes_on clean)) (s.stands alive (clean_then clean));
        waits = λ _. s.waits alive;
        leaves = λ clean left leaves. record {
          front = kept;
          past = prefix_self kept;
          begins = s.begins;
          made = subst (λ (l : List Record). Replays Applies first l (state_after start kept)) (sym (crash clean left leaves)) (s.stands alive (clean_then clean));
        };
      }

module _ {J : Type 0} (journals : Ghosts J) (first start : State) (kept : List Ask) (old new : J) where
  -- what was read is what the journal has there after the reading
  pub was_read : {T : Type 0} (items : T → List Record) (result : Result T ReadError) (from most : ℕ) → journals.misreads old ≤ journals.misreads new
      → IfOk result (λ x. journals.misreads new ≡ 0 → items x ≡ take most (drop from (journals.list old)))
      → (journals.misreads new ≡ 0 → result ≢ Err Lost → journals.list new ≡ journals.list old)
      → (journals.misreads old ≡ 0 → Replays Applies first (journals.list old) (state_after start kept))
      → IfOk result (λ x. WasRead journals first start kept from most (items x))
  was_read items (Err e) from most fewer read same stands = tt
  was_read items (Ok x) from most fewer read same stands =
      let good : Ok x ≢ Err Lost = λ e. absurd (cc e) in
      record {
        journal = new;
        stood = λ clean. read clean ∙ ap (λ l. take most (drop from l)) (sym (same clean good));
        stands = λ clean.
            subst (λ (l : List Record). Replays Applies first l (state_after start kept)) (sym (same clean good)) (stands (omega (arith, fewer, clean)));
      }
