-- A list and its journal before and after changes are added and kept.
use Rattle.std.proofs.Common.{◌≡◌, ◌⊎◌, inl, inr, ◌≤◌, ℕ, Bool, true, false, List, [], ◌∷◌, ◌++◌, Option, Some, None, refl, sym, subst, ◌∙◌, arith, append-nil}
use Rattle.std.specs.Prelude.{option_to_list}
use mathlib.Core.List.{IsPrefix}
use Rattle.std.specs.declared.alloc.Global.{Global}
use Rattle.st_dir.specs.Directory.{Directory}
use Rattle.st_core.specs.Step.{after, step}
use Rattle.st_journal.specs.declared.record.Record.{Record}
use Rattle.st_journal.specs.declared.journal.Journal.{Ghosts}
use Rattle.st_journal.specs.Replays.{Replays}
use Rattle.st_journal_store.specs.Applying.{Applies, Notes}
use Rattle.st_journal_store.proofs.Replaying.{one_more, one_state}
use Rattle.st_hall_press.specs.Steps.{Ask, HallState as State, next, state_after}
use Rattle.st_hall_press.proofs.Following.{after_none, after_snoc}
use Rattle.st_hall_press.proofs.Fronts.{prefix_self, prefix_trans}
use Rattle.st_hall_group_commit.specs.Rolls.{KeptRoll, LeadPast, LeadToOne}
use Rattle.st_hall_group_commit.specs.inner.Sound.{IsSound}

abbrev pub roll : {J : Type 0} → (list kept published : List Ask) → J → Bool → KeptRoll J
roll list kept published journal lost = record { list = list; kept = kept; published = published; journal = journal; is_lost = lost }

-- records after records
pub more : {S : Type 0} (applies : S → Record → S → Type 0) (first mid last : S) (records later : List Record)
    → Replays applies first records mid → Replays applies mid later last → Replays applies first (records ++ later) last
more applies first mid last [] later made goes_on = subst (λ s. Replays applies s later last) made goes_on
more applies first mid last (r ∷ records) later (s, one, made) goes_on = (s, one, more applies s mid last records later made goes_on)

run_join : (s : State) (xs ys : List Ask) → after (after s xs) ys ≡ after s (xs ++ ys)
run_join s [] ys = refl
run_join s (x ∷ xs) ys = run_join (step s x).state xs ys

-- a list after a list
pub after_join : (s : State) (xs ys : List Ask) → state_after (state_after s xs) ys ≡ state_after s (xs ++ ys)
unfolding state_after
after_join s xs ys = run_join s xs ys

next_is : (s : State) (a : Ask) → next s a ≡ (step s a).state
unfolding next
next_is s a = refl

-- the state after one change more
one_after : (start : State) (list : List Ask) (a : Ask) → state_after start (list ++ a ∷ []) ≡ (step (state_after start list) a).state
one_after start list a = after_snoc start list a ∙ next_is (state_after start list) a

-- the record of one change more, where it has one
pub notes_more : (start mid : State) (list : List Ask) (batch : List Record) (a : Ask) (d : Directory Global) (note : Option Record)
    → d ≡ (state_after start list).directory → Notes d a note → Replays Applies mid batch (state_after start list)
    → Replays Applies mid (batch ++ option_to_list note) (state_after start (list ++ a ∷ []))
notes_more start mid list batch a d None is noted made =
    subst (λ (b : List Record). Replays Applies mid b (state_after start (list ++ a ∷ []))) (sym (append-nil batch))
    (subst (λ (s : State). Replays Applies mid batch s) (sym (one_after start list a ∙ noted (state_after start list) (sym is))) made)
notes_more start mid list batch a d (Some r) is noted made =
    subst (λ (s : State). Replays Applies mid (batch ++ r ∷ []) s) (sym (one_after start list a))
    (one_more Applies mid (state_after start list) (step (state_after start list) a).state batch r made (noted (state_after start list) (sym is)))

-- what is opened again is what was left
pub again : (first start t : State) (kept list : List Ask) (left : List Record) → LeadPast first start kept list left → Replays Applies first left t
    → (front : List Ask) × IsPrefix kept front × IsPrefix front list × (t ≡ state_after start front)
again first start t kept list left lead made =
    (lead.front, lead.past, lead.begins, sym (one_state first (state_after start lead.front) t left lead.made made))

module _ {J : Type 0} (journals : Ghosts J)
    (first start : State) where
  abbrev pub Sound : List Record → KeptRoll J → Type 0
  Sound batch k = IsSound journals first start batch k

  module _ (list kept published : List Ask) (old new : J) (batch : List Record) (s : Sound batch (roll list kept published old false))
      (fewer : journals.misreads old ≤ journals.misreads new) where
    was_clean : journals.misreads new ≡ 0 → journals.misreads old ≡ 0
    was_clean clean = omega (arith, fewer, clean)

    -- the list with the batch leads to the state after the whole list
    pub made : journals.misreads new ≡ 0 → Replays Applies first (journals.list old ++ batch) (state_after start list)
    made clean = more Applies first (state_after start kept) (state_after start list) (journals.list old) batch (s.stands refl (was_clean clean)) (s.waits refl)

    left_by : journals.misreads new ≡ 0 → (left : List Record) → (left ≡ journals.list old) ⊎ (left ≡ journals.list old ++ batch) → LeadPast first start kept list left
    left_by clean left (inl is) = record {
      front = kept;
      past = prefix_self kept;
      begins = s.begins;
      made = subst (λ (l : List Record). Replays Applies first l (state_after start kept)) (sym is) (s.stands refl (was_clean clean));
    }
    left_by clean left (inr is) = record {
      front = list;
      past = s.begins;
      begins = prefix_self list;
      made = subst (λ (l : List Record). Replays Applies first l (state_after start list)) (sym is) (made clean);
    }

    pub lost : (journals.misreads new ≡ 0 → (left : List Record) → journals.may_leave new left → (left ≡ journals.list old) ⊎ (left ≡ journals.list old ++ batch))
        → Sound batch (roll list kept published new true)
    lost crash = record {
      published_kept = s.published_kept;
      begins = s.begins;
      ready = λ e. absurd (let f : true ≡ false = e in cc);
      stands = λ e clean. absurd (let f : true ≡ false = e in cc);
      waits = λ e. absurd (let f : true ≡ false = e in cc);
      leaves = λ clean left leaves. left_by clean left (crash clean left leaves);
    }

    -- all of the batch is left, or none of it
    pub left_one : journals.misreads new ≡ 0 → (left : List Record) → (left ≡ journals.list old) ⊎ (left ≡ journals.list old ++ batch) → LeadToOne first start kept list left
    left_one clean left (inl is) =
        inl (subst (λ (l : List Record). Replays Applies first l (state_after start kept)) (sym is) (s.stands refl (was_clean clean)))
    left_one clean left (inr is) = inr (subst (λ (l : List Record). Replays Applies first l (state_after start list)) (sym is) (made clean))

  pub lost_all : (list kept published : List Ask) (old new : J) (lost : Bool) (batch : List Record)
      → Sound batch (roll list kept published old lost) → lost ≡ false → journals.misreads old ≤ journals.misreads new
      → (journals.misreads new ≡ 0 → (left : List Record) → journals.may_leave new left → (left ≡ journals.list old) ⊎ (left ≡ journals.list old ++ batch))
      → Sound batch (roll list kept published new true)
  lost_all list kept published old new is_lost batch s is fewer crash =
      lost list kept published old new batch (subst (λ (b : Bool). Sound batch (roll list kept published old b)) is s) fewer crash

  pub left_by_all : (list kept published : List Ask) (old new : J) (lost : Bool) (batch : List Record)
      → Sound batch (roll list kept published old lost) → lost ≡ false → journals.misreads old ≤ journals.misreads new
      → (journals.misreads new ≡ 0 → (left : List Record) → journals.may_leave new left → (left ≡ journals.list old) ⊎ (left ≡ journals.list old ++ batch))
      → journals.misreads new ≡ 0 → (left : List Record) → journals.may_leave new left → LeadToOne first start kept list left
  left_by_all list kept published old new is_lost batch s is fewer crash clean left leaves =
      left_one list kept published old new batch (subst (λ (b : Bool). Sound batch (roll list kept published old b)) is s) fewer clean left
      (crash clean left leaves)

  module _ (leaves_list : (journal : J) (left : List Record) → journals.misreads journal ≡ 0 → journals.is_ready journal → journals.may_leave journal left → left ≡ journals.list journal) where
    -- all is kept, in a journal that takes records
    pub whole : (list published : List Ask) (journal : J) → IsPrefix published list → journals.is_ready journal
        → (journals.misreads journal ≡ 0 → Replays Applies first (journals.list journal) (state_after start list)) → Sound [] (roll list list published journal false)
    whole list published journal published_kept ready stands = record {
      published_kept = published_kept;
      begins = prefix_self list;
      ready = λ _. ready;
      stands = λ _. stands;
      waits = λ _. refl;
      leaves = λ clean left leaves. record {
        front = list;
        past = prefix_self list;
        begins = prefix_self list;
        made = subst (λ (l : List Record). Replays Applies first l (state_after start list)) (sym (leaves_list journal left clean ready leaves)) (stands clean);
      };
    }

    pub opened : (list kept published : List Ask) (journal : J) (batch : List Record) → list ≡ [] → kept ≡ list → published ≡ [] → batch ≡ []
        → journals.is_ready journal → (journals.misreads journal ≡ 0 → Replays Applies first (journals.list journal) start)
        → Sound batch (roll list kept published journal false)
    opened list kept published journal batch empty same none void ready stands =
        subst (λ (b : List Record). Sound b (roll list kept published journal false)) (sym void)
        (subst (λ (k : List Ask). Sound [] (roll list k published journal false)) (sym same)
        (subst (λ (p : List Ask). Sound [] (roll list list p journal false)) (sym none)
        (subst (λ (l : List Ask). Sound [] (roll l l [] journal false)) (sym empty)
        (whole [] [] journal (prefix_self []) ready
        (λ clean. subst (λ (s : State). Replays Applies first (journals.list journal) s) (sym (after_none start)) (stands clean))))))

    pub kept_all : (list kept kept' published : List Ask) (old new : J) (lost : Bool) (batch batch' : List Record)
        → Sound batch (roll list kept published old lost) → lost ≡ false → journals.misreads old ≤ journals.misreads new → journals.is_ready new
        → (journals.misreads new ≡ 0 → journals.list new ≡ journals.list old ++ batch) → batch' ≡ [] → kept' ≡ list → Sound batch' (roll list kept' published new lost)
    kept_all list kept kept' published old new lost batch batch' s is fewer ready appended none same =
        let t = subst (λ (b : Bool). Sound batch (roll list kept published old b)) is s in
        subst (λ (b : Bool). Sound batch' (roll list kept' published new b)) (sym is)
        (subst (λ (b : List Record). Sound b (roll list kept' published new false)) (sym none)
        (subst (λ (k : List Ask). Sound [] (roll list k published new false)) (sym same)
        (whole list published new (prefix_trans published kept list t.published_kept t.begins) ready
        (λ clean. subst (λ (l : List Record). Replays Applies first l (state_after start list)) (sym (appended clean))
        (made list kept published old new batch t fewer clean)))))
