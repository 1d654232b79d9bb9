-- What records lead to.
use Rattle.std.proofs.Common.{◌≡◌, ◌⊎◌, List, [], ◌∷◌, ◌++◌, true, false, Some, Ok, refl, sym, ap, subst, ◌∙◌}
use Rattle.st_policy.specs.declared.request.Request.{Request}
use Rattle.st_policy.specs.Requests.{is_change}
use Rattle.st_core.specs.declared.asked.Call.{Call}
use Rattle.st_core.specs.State.{State}
use Rattle.st_core.specs.Step.{judge_call, settle}
use Rattle.st_journal.specs.declared.record.Record.{Record}
use Rattle.st_journal.specs.Replays.{Replays}
use Rattle.st_journal_record.specs.Records.{ReadsAs}
use Rattle.st_journal_record.proofs.ReadBack.{one}
use Rattle.st_journal_store.specs.Applying.{Applies}
use Rattle.st_journal_store.specs.Keeping.{LeadTo}
use Rattle.std.specs.declared.alloc.Global.{Global}

-- one record more
pub one_more : {S : Type 0} (applies : S → Record → S → Type 0) (first mid after : S) (records : List Record) (r : Record)
    → Replays applies first records mid → applies mid r after → Replays applies first (records ++ r ∷ []) after
one_more applies first mid after [] r made next = (after, subst (λ s. applies s r after) made next, refl)
one_more applies first mid after (change ∷ records) r (s, made, later) next = (s, made, one_more applies s mid after records r later next)

module _ {A : Type 0} where
  -- what a user's request makes of a state
  after_by : State A → Record → Request A → State A
  after_by s r request = (settle s (judge_call s.directory (Some r.user) (Call.Good request))).state

  one_step : (s t u : State A) (r : Record) → Applies s r t → Applies s r u → t ≡ u
  unfolding after_by
  one_step s t u r a b =
      let same : Ok a.request ≡ Ok b.request = one r (Ok a.request) (Ok b.request) a.reads b.reads in
      let request : a.request ≡ b.request = cc in
      let x : t ≡ after_by s r a.request = a.after_is in
      let y : u ≡ after_by s r b.request = b.after_is in
      x ∙ ap (after_by s r) request ∙ sym y

  -- the record of a read applies to no state
  pub applies_none : (s t : State A) (r : Record) (request : Request A) → ReadsAs r (Ok request) → is_change request ≡ false → Applies s r t → ⊥
  applies_none s t r request reads reading a =
      let same : Ok a.request ≡ Ok request = one r (Ok a.request) (Ok request) a.reads reads in
      let equal : a.request ≡ request = cc in
      let change : is_change request ≡ true = subst (λ (q : Request A). is_change q ≡ true) equal a.change in
      absurd (cc)

  pub one_state : (first t u : State A) (records : List Record) → Replays Applies first records t → Replays Applies first records u → t ≡ u
  one_state first t u [] x y = x ∙ sym y
  one_state first t u (r ∷ records) (m, a, x) (n, b, y) =
      one_state m t u records x (subst (λ (k : State A). Replays Applies k records u) (one_step first n m r b a) y)

-- what is opened again is what was left
pub again : (first kept answered t : State Global) (left : List Record) → LeadTo first kept answered left → Replays Applies first left t
    → (t ≡ kept) ⊎ (t ≡ answered)
again first kept answered t left lead made =
    let same : lead.after ≡ t = one_state first lead.after t left lead.made made in
    subst (λ (s : State Global). (s ≡ kept) ⊎ (s ≡ answered)) same lead.is
