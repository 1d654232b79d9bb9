-- A store and its journal before and after a change is kept.
use Rattle.std.proofs.Common.{◌≡◌, ◌⊎◌, inl, inr, ◌≤◌, ℕ, false, List, [], ◌∷◌, ◌++◌, Option, Some, None, refl, sym, ap, subst, ◌∙◌, arith}
use Rattle.std.specs.Prelude.{IfSome}
use Rattle.std.specs.Option.{is_some}
use Rattle.std.specs.declared.alloc.Global.{Global}
use Rattle.st_core.specs.State.{State}
use Rattle.st_core.specs.Step.{settle}
use Rattle.st_journal.specs.declared.record.Record.{Record}
use Rattle.st_journal.specs.declared.journal.Journal.{Ghosts}
use Rattle.st_journal.specs.Faults.{FaultsRise}
use Rattle.st_journal.specs.Replays.{Replays}
use Rattle.st_journal.proofs.Rising.{rises_after}
use Rattle.st_journal_store.specs.declared.loss.Loss.{Loss}
use Rattle.st_journal_store.specs.declared.loss.Loss.TheVariants.{Disk}
use Rattle.st_journal_store.specs.declared.pending.Pending.{Pending}
use Rattle.st_journal_store.specs.Applying.{Applies}
use Rattle.st_journal_store.specs.Keeping.{Keeping, LeadTo, state_with}
use Rattle.st_journal_store.specs.inner.Sound.{IsNoted, IsSound}
use Rattle.st_journal_store.proofs.Replaying.{one_more}

-- where no change waits
pub none_waits : (kept : State Global) (pending : Option Pending) → false ≡ is_some pending → state_with kept pending ≡ kept
none_waits kept None e = refl
none_waits kept (Some p) e = absurd (cc)

-- where none was lost
pub none_lost : {J : Type 0} (view now : Keeping J) → view ≡ now → is_some now.loss ≡ false → view.loss ≡ None
none_lost {J = J} view now is sound = go view.loss (ap (λ (k : Keeping J). is_some k.loss) is ∙ sound)
  where
    go : (loss : Option Loss) → is_some loss ≡ false → loss ≡ None
    go None e = refl
    go (Some l) e = absurd (cc)

module _ {J : Type 0} (journals : Ghosts J)
    (leaves_list : (journal : J) (left : List Record) → journals.misreads journal ≡ 0 → journals.is_ready journal → journals.may_leave journal left → left ≡ journals.list journal)
    (first : State Global) (begun : ℕ) where
  -- so it stands with its parts
  abbrev Stands : State Global → J → Option Pending → Option Loss → Type 0
  Stands kept journal pending loss =
      IsSound journals first begun (record { kept = kept; journal = journal; pending = pending; loss = loss })

  -- a journal that takes records leaves its list
  pub working : (journal : J) (kept : State Global) (pending : Option Pending) → journals.is_ready journal
      → (journals.misreads journal ≡ 0 → Replays Applies first (journals.list journal) kept) → IfSome pending (IsNoted kept) → begun ≤ journals.faults journal
      → Stands kept journal pending None
  working journal kept pending ready stands noted grown = record {
    ready = λ _. ready;
    stands = λ _. stands;
    leaves = λ clean left leaves. record {
      after = kept;
      made = subst (λ (l : List Record). Replays Applies first l kept) (sym (leaves_list journal left clean ready leaves)) (stands clean);
      is = inl refl;
    };
    waits = noted;
    grown = grown;
    disk = λ clean lost. absurd (let e : None ≡ Some Disk = lost in cc);
  }

  -- with another change that waits
  pub held : (journal : J) (kept : State Global) (before pending : Option Pending) (loss : Option Loss) → loss ≡ None
      → Stands kept journal before loss → IfSome pending (IsNoted kept) → Stands kept journal pending loss
  held journal kept before pending loss works sound noted =
      subst (Stands kept journal pending) (sym works) (working journal kept pending (sound.ready works) (sound.stands works) noted sound.grown)

  module _ (old journal : J) (kept : State Global) (p : Pending) (fewer : journals.misreads old ≤ journals.misreads journal) (more : journals.faults old ≤ journals.faults journal)
      (grown : begun ≤ journals.faults old) (stands : journals.misreads old ≡ 0 → Replays Applies first (journals.list old) kept) (noted : IsNoted kept p) where
    was_clean : journals.misreads journal ≡ 0 → journals.misreads old ≡ 0
    was_clean clean = omega (arith, fewer, clean)

    -- the list with the record leads to the state with the change
    made : journals.misreads journal ≡ 0 → Replays Applies first (journals.list old ++ p.note ∷ []) (settle kept p.judged).state
    made clean = one_more Applies first kept (settle kept p.judged).state (journals.list old) p.note (stands (was_clean clean)) noted.noted

    pub is_kept : (store : State Global) (loss : Option Loss) → loss ≡ None → journals.is_ready journal
        → (journals.misreads journal ≡ 0 → journals.list journal ≡ journals.list old ++ p.note ∷ []) → store ≡ (settle kept p.judged).state → Stands store journal None loss
    is_kept store loss sound ready appended is =
        subst (Stands store journal None) (sym sound) (working journal store None ready
        (λ clean. subst (λ (s : State Global). Replays Applies first (journals.list journal) s) (sym is)
        (subst (λ (l : List Record). Replays Applies first l (settle kept p.judged).state) (sym (appended clean)) (made clean))) tt
        (omega (arith, grown, more)))

    left_by : journals.misreads journal ≡ 0 → (left : List Record) → (left ≡ journals.list old) ⊎ (left ≡ journals.list old ++ p.note ∷ [])
        → LeadTo first kept (settle kept p.judged).state left
    left_by clean left (inl is) = record {
      after = kept;
      made = subst (λ (l : List Record). Replays Applies first l kept) (sym is) (stands (was_clean clean));
      is = inl refl;
    }
    left_by clean left (inr is) = record {
      after = (settle kept p.judged).state;
      made = subst (λ (l : List Record). Replays Applies first l (settle kept p.judged).state) (sym is) (made clean);
      is = inr refl;
    }

    pub is_lost : (loss : Loss) (store : State Global) (pending : Option Pending) → pending ≡ Some p → store ≡ kept
        → (journals.misreads journal ≡ 0 → (left : List Record) → journals.may_leave journal left → (left ≡ journals.list old) ⊎ (left ≡ journals.list old ++ p.note ∷ []))
        → (journals.misreads journal ≡ 0 → loss ≡ Disk → FaultsRise (journals.faults old) (journals.faults journal)) → Stands store journal pending (Some loss)
    is_lost loss store pending is unmade crash disk =
        subst (λ (s : State Global). Stands s journal pending (Some loss)) (sym unmade)
        (subst (λ (o : Option Pending). Stands kept journal o (Some loss)) (sym is) (record {
          ready = λ none. absurd (let e : Some loss ≡ None = none in cc);
          stands = λ none clean. absurd (let e : Some loss ≡ None = none in cc);
          leaves = λ clean left leaves. left_by clean left (crash clean left leaves);
          waits = noted;
          grown = omega (arith, grown, more);
          disk = λ clean lost. rises_after begun (journals.faults old) (journals.faults journal) grown
              (disk clean (let e : Some loss ≡ Some Disk = lost in let is : loss ≡ Disk = cc in is));
        }))
