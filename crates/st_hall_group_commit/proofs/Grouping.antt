-- A draft and a publisher, before and after changes are added, kept and published.
use Rattle.std.proofs.Common.{arith, ◌≡◌, ◌⊎◌, ◌≤◌, ℕ, Bool, true, false, List, [], ◌∷◌, ◌++◌, Option, length, refl, sym, ap, subst, ◌∙◌}
use Rattle.std.specs.Prelude.{option_to_list}
use mathlib.Core.List.{IsPrefix}
use Rattle.std.specs.declared.alloc.Global.{Global}
use Rattle.st_dir.specs.Directory.{Directory}
use Rattle.st_journal.specs.declared.record.Record.{Record}
use Rattle.st_journal.specs.declared.journal.Journal.{Ghosts}
use Rattle.st_journal.specs.Replays.{Replays}
use Rattle.st_journal_store.specs.Applying.{Applies, Notes}
use Rattle.st_core.specs.declared.judged.Judged.{Judged}
use Rattle.st_core.specs.Step.{judge}
use Rattle.st_hall_press.specs.Steps.{Ask, HallState as State, judged_in, state_after}
use Rattle.st_hall_press.proofs.Following.{after_none}
use Rattle.st_hall_press.proofs.Fronts.{prefix_length, prefix_self, prefix_trans}
use Rattle.st_hall_group_commit.specs.Rolls.{KeptRoll, LeadPast, LeadToOne}
use Rattle.st_hall_group_commit.specs.inner.Sound.{IsSound}
use Rattle.st_hall_group_commit.proofs.Batches.{kept_all, left_by_all, lost_all, notes_more, opened, roll}

-- the record of a change that was judged after a list
pub noted_after : (start : State) (list : List Ask) (a : Ask) (judged : Judged Global) (written : Option Record) → judged ≡ judged_in (state_after start list) a
    → ((d : Directory Global) → judged ≡ judge d a → Notes d a written) → Notes (state_after start list).directory a written
unfolding judged_in
noted_after start list a judged written is noted = noted (state_after start list).directory is

-- the records that are not taken yet, after one change more
pub drafted : (start : State) (taken list list' : List Ask) (batch : List Record) (a : Ask) (d : Directory Global) (note : Option Record)
    → IsPrefix taken list × Replays Applies (state_after start taken) batch (state_after start list)
    → list' ≡ list ++ a ∷ [] → d ≡ (state_after start list).directory → Notes d a note
    → IsPrefix taken list' × Replays Applies (state_after start taken) (batch ++ option_to_list note) (state_after start list')
drafted start taken list list' batch a d note (begins, made) is from noted = (
  prefix_trans taken list list' begins (a ∷ [], sym is),
  subst (λ (l : List Ask). Replays Applies (state_after start taken) (batch ++ option_to_list note) (state_after start l)) (sym is)
      (notes_more start (state_after start taken) list batch a d note from noted made),
)

-- where all is taken, no records lead on
pub taken_all : (start : State) (taken list : List Ask) (batch : List Record) → taken ≡ list → batch ≡ []
    → IsPrefix taken list × Replays Applies (state_after start taken) batch (state_after start list)
taken_all start taken list batch is none = (
  subst (λ (l : List Ask). IsPrefix taken l) is (prefix_self taken),
  subst (λ (b : List Record). Replays Applies (state_after start taken) b (state_after start list)) (sym none) (ap (state_after start) (sym is)),
)

-- a batch leads from where it begins to where it ends
pub batched : (start : State) (from to taken list : List Ask) (records batch : List Record) → from ≡ taken → to ≡ list → records ≡ batch
    → IsPrefix taken list × Replays Applies (state_after start taken) batch (state_after start list)
    → IsPrefix from to × Replays Applies (state_after start from) records (state_after start to)
batched start from to taken list records batch is_from is_to same p =
    subst (λ (b : List Record). IsPrefix from to × Replays Applies (state_after start from) b (state_after start to)) (sym same)
    (subst (λ (l : List Ask). IsPrefix from l × Replays Applies (state_after start from) batch (state_after start l)) (sym is_to)
    (subst (λ (l : List Ask). IsPrefix l list × Replays Applies (state_after start l) batch (state_after start list)) (sym is_from) p))

module _ {J : Type 0} (journals : Ghosts J)
    (first start : State) where
  abbrev pub Sound : List Record → KeptRoll J → Type 0
  Sound batch k = IsSound journals first start batch k

  -- a publisher's invariant
  abbrev pub Keeps : (pushed tried kept published : List Ask) → J → Bool → (mark : ℕ) → Type 0
  Keeps pushed tried kept published journal lost mark =
      IsPrefix pushed kept × (mark ≡ length kept) × Sound [] (roll tried kept published journal lost)

  -- where an append failed, the batch is of no use
  emptied : (tried kept published : List Ask) (journal : J) (batch : List Record) → Sound batch (roll tried kept published journal true)
      → Sound [] (roll tried kept published journal true)
  emptied tried kept published journal batch s = record {
    published_kept = s.published_kept;
    begins = s.begins;
    ready = λ e. absurd (let f : true ≡ false = e in cc);
    stands = λ e clean. absurd (let f : true ≡ false = e in cc);
    waits = λ e. absurd (let f : true ≡ false = e in cc);
    leaves = s.leaves;
  }

  -- published more, of what is kept
  pub published_more : (pushed tried kept published published' : List Ask) (journal : J) (lost : Bool) (mark : ℕ)
      → Keeps pushed tried kept published journal lost mark
      → (pushed' : List Ask) → IsPrefix pushed' kept → IsPrefix published' pushed' → Keeps pushed' tried kept published' journal lost mark
  published_more pushed tried kept published published' journal lost mark (p, so_long, s) pushed' on published_kept = (
    on,
    so_long,
    record {
      published_kept = prefix_trans published' pushed' kept published_kept on;
      begins = s.begins;
      ready = s.ready;
      stands = s.stands;
      waits = s.waits;
      leaves = s.leaves;
    },
  )

  module _ (leaves_list : (journal : J) (left : List Record) → journals.misreads journal ≡ 0 → journals.is_ready journal → journals.may_leave journal left → left ≡ journals.list journal) where
    -- a batch that goes on what is kept
    given : (tried kept published to : List Ask) (journal : J) (records : List Record) → Sound [] (roll tried kept published journal false)
        → IsPrefix kept to → Replays Applies (state_after start kept) records (state_after start to)
        → Sound records (roll to kept published journal false)
    given tried kept published to journal records s on leads = record {
      published_kept = s.published_kept;
      begins = on;
      ready = s.ready;
      stands = s.stands;
      waits = λ _. leads;
      leaves = λ clean left leaves. record {
        front = kept;
        past = prefix_self kept;
        begins = on;
        made = subst (λ (l : List Record). Replays Applies first l (state_after start kept)) (sym (leaves_list journal left clean (s.ready refl) leaves)) (s.stands refl clean);
      };
    }

    module _ (pushed tried kept published from to : List Ask) (old new : J) (lost : Bool) (mark : ℕ) (records : List Record)
        (k : Keeps pushed tried kept published old lost mark) (is : lost ≡ false) (at_end : from ≡ kept) (goes_on : IsPrefix from to)
        (leads : Replays Applies (state_after start from) records (state_after start to)) (fewer : journals.misreads old ≤ journals.misreads new) where
      on : IsPrefix kept to
      on = subst (λ (l : List Ask). IsPrefix l to) at_end goes_on

      batch : Sound records (roll to kept published old false)
      batch =
          given tried kept published to old records (subst (λ (b : Bool). Sound [] (roll tried kept published old b)) is k.2) on
          (subst (λ (l : List Ask). Replays Applies (state_after start l) records (state_after start to)) at_end leads)

      pub kept_batch : (tried' kept' : List Ask) (mark' : ℕ) → tried' ≡ to → kept' ≡ to → mark' ≡ length to → journals.is_ready new
          → (journals.misreads new ≡ 0 → journals.list new ≡ journals.list old ++ records) → Keeps pushed tried' kept' published new lost mark'
      kept_batch tried' kept' mark' is_tried is_kept is_mark ready appended =
          let s = kept_all journals first start leaves_list to kept to published old new false records [] batch refl fewer ready appended refl refl in
          subst (λ (l : List Ask). Keeps pushed l kept' published new lost mark') (sym is_tried)
          (subst (λ (l : List Ask). Keeps pushed to l published new lost mark') (sym is_kept) (
            prefix_trans pushed kept to k.0 on,
            is_mark,
            subst (λ (b : Bool). Sound [] (roll to to published new b)) (sym is) s,
          ))

      pub no_shorter : mark ≤ length to
      no_shorter = omega (arith, k.1, prefix_length kept to on)

      pub lost_batch : (journals.misreads new ≡ 0 → (left : List Record) → journals.may_leave new left → (left ≡ journals.list old) ⊎ (left ≡ journals.list old ++ records))
          → Keeps pushed to kept published new true mark
      lost_batch crash = (
        k.0,
        k.1,
        emptied to kept published new records (lost_all journals first start to kept published old new false records batch refl fewer crash),
      )

      pub left_one : (journals.misreads new ≡ 0 → (left : List Record) → journals.may_leave new left → (left ≡ journals.list old) ⊎ (left ≡ journals.list old ++ records))
          → journals.misreads new ≡ 0 → (left : List Record) → journals.may_leave new left → LeadToOne first start kept to left
      left_one crash = left_by_all journals first start to kept published old new false records batch refl fewer crash

    pub publisher_opened : (pushed tried kept published : List Ask) (journal : J) (mark : ℕ) → pushed ≡ [] → published ≡ [] → tried ≡ pushed
        → kept ≡ pushed → mark ≡ 0 → journals.is_ready journal → (journals.misreads journal ≡ 0 → Replays Applies first (journals.list journal) start)
        → Keeps pushed tried kept published journal false mark
    publisher_opened pushed tried kept published journal mark none hidden is_tried is_kept unmarked ready stands =
        let s = opened journals first start leaves_list tried kept published journal [] (is_tried ∙ none) (is_kept ∙ sym is_tried) hidden refl ready stands in (
          subst (λ (l : List Ask). IsPrefix pushed l) (sym is_kept) (prefix_self pushed),
          unmarked ∙ sym (ap length (is_kept ∙ none)),
          s,
        )
