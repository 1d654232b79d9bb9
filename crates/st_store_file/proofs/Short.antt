-- A list beside its short one.
use Rattle.std.proofs.Common.{◌≡◌, ◌⊎◌, ℕ, suc, ◌+◌, ◌≤◌, List, [], ◌∷◌, length, Bool, true, false, Global, inl, inr, refl, sym, ap, subst, ◌∙◌, arith, length-append}
use Rattle.std.proofs.lemmas.List.{length-map}
use Rattle.st_dir.specs.Directory.{Directory}
use Rattle.st_core.specs.State.{State}
use Rattle.st_journal.specs.declared.record.Record.{Record}
use Rattle.st_journal.specs.Replays.{Replays}
use Rattle.st_journal_compact.specs.declared.judged_record.JudgedRecord.{JudgedRecord}
use Rattle.st_journal_compact.specs.Judging.{AreShortOf}
use Rattle.st_journal_compact.specs.Shortening.{Noted, IsShortList, is_left_out, records_of, shortened}
use Rattle.st_journal_compact.specs.Watching.{Watched, Watches}
use Rattle.st_journal_store.specs.Applying.{Applies}
use Rattle.st_journal_compact.proofs.Seeing.{is_short_list}
use Rattle.st_journal_compact.proofs.Shorter.{one_state}
use Rattle.st_store_file.specs.declared.counts.ListLengths.{ListLengths}
use Rattle.st_store_file.specs.Shortened.{AreCounted, IsShortBy, IsShortened}

-- ---- lengths

module _ {A : Type 0} where
  shorter : (cs : List (Noted A)) → length (shortened cs) ≤ length cs
  shorter [] = omega arith
  shorter (c ∷ rest) = at (is_left_out c rest) refl (shorter rest)
    where
      at : (z : Bool) → is_left_out c rest ≡ z → length (shortened rest) ≤ length rest → length (shortened (c ∷ rest)) ≤ suc (length rest)
      at true e below = rw e (omega (arith, below))
      at false e below = rw e (omega (arith, below))

  -- where as many are kept, all are
  all_kept : (cs : List (Noted A)) → length (shortened cs) ≡ length cs → shortened cs ≡ cs
  all_kept [] e = refl
  all_kept (c ∷ rest) e = at (is_left_out c rest) refl e (shorter rest) (all_kept rest)
    where
      at : (z : Bool) → is_left_out c rest ≡ z → length (shortened (c ∷ rest)) ≡ suc (length rest) → length (shortened rest) ≤ length rest
          → (length (shortened rest) ≡ length rest → shortened rest ≡ rest) → shortened (c ∷ rest) ≡ c ∷ rest
      at true f same below later = absurd (too_short (rw f at same) below)
        where
          too_short : length (shortened rest) ≡ suc (length rest) → length (shortened rest) ≤ length rest → ⊥
          too_short p q = omega (arith, p, q)
      at false f same below later = rw f (ap (λ l. c ∷ l) (later (less (rw f at same))))
        where
          less : suc (length (shortened rest)) ≡ suc (length rest) → length (shortened rest) ≡ length rest
          less p = omega (arith, p)

  as_long : (cs : List (Noted A)) → length (records_of cs) ≡ length cs
  as_long cs = length-map cs (λ (c : Noted A). c.note)

  -- a short list that is as long is the list
  whole : (d : Directory A) (old short : List Record) → IsShortList d old short → length short ≡ length old → short ≡ old
  whole d old short is same =
      let long : length (shortened is.changes) ≡ length is.changes =
      sym (as_long (shortened is.changes)) ∙ ap length (sym is.short_are) ∙ same ∙ ap length is.old_are ∙ as_long is.changes in
      is.short_are ∙ ap records_of (all_kept is.changes long) ∙ sym is.old_are

-- as many changes are kept beside the state as records were applied
seen_all : (before after : Watched) (records : List Record) → Replays Watches before records after
    → length after.changes ≡ length before.changes + length records
seen_all before after [] is = ap (λ (w : Watched). length w.changes) is ∙ omega arith
seen_all before after (r ∷ records) (mid, w, later) =
    let more = seen_all mid after records later in
    let one : length mid.changes ≡ length before.changes + 1 =
    ap length w.put ∙ length-append before.changes (record { note = r; accepted = w.accepted } ∷ []) in
    omega (arith, more, one)

pub seen : (first after : Watched) (records : List Record) → first.changes ≡ [] → Replays Watches first records after
    → length after.changes ≡ length records
seen first after records none made =
    let all = seen_all first after records made in
    let no : length first.changes ≡ 0 = ap length none in
    omega (arith, all, no)

-- what was put in place of the list, or left there because it was as long, is its short list
pub counted : (d : Directory Global) (old kept now : List Record) (before : ℕ) → IsShortList d old kept → before ≡ length old
    → (now ≡ kept) ⊎ ((now ≡ old) × (length kept ≡ before)) → AreCounted d old now (record { before = before; after = length kept })
counted d old kept now before is long (inl put) = record {
  is_short = subst (IsShortList d old) (sym put) is;
  before = long;
  after = ap length (sym put);
}
counted d old kept now before is long (inr (stays, same)) =
    let all : kept ≡ old = whole d old kept is (same ∙ long) in
    record {
      is_short = subst (IsShortList d old) (all ∙ sym stays) is;
      before = long;
      after = ap length (all ∙ sym stays);
    }

pub none_before : (old new : ℕ) → old ≤ new → new ≡ 0 → old ≡ 0
none_before old new more none = omega (arith, more, none)

-- the same of what the code has
pub counted_by : (first after : Watched) (old kept now items : List Record) (changes : List JudgedRecord) (before later : ℕ)
    → changes ≡ after.changes → kept ≡ items → AreShortOf changes items → before ≡ length changes → later ≡ length items
    → (now ≡ kept) ⊎ ((now ≡ old) × (length kept ≡ before)) → first.changes ≡ [] → Replays Watches first old after
    → AreCounted first.state.directory old now (record { before = before; after = later })
counted_by first after old kept now items changes before later same is short long short_long put none made =
    let both : AreShortOf after.changes kept =
    subst (λ l. AreShortOf l kept) same (subst (λ k. AreShortOf changes k) (sym is) short) in
    let all : before ≡ length old = long ∙ ap length same ∙ seen first after old none made in
    let later_is : length kept ≡ later = ap length is ∙ sym short_long in
    subst (λ n. AreCounted first.state.directory old now (record { before = before; after = n })) later_is
    (counted first.state.directory old kept now before (is_short_list first after old kept none made both) all put)

-- what is left is the old list or its short one
pub left_short : (after : Watched) (old kept items left : List Record) (changes : List JudgedRecord) → changes ≡ after.changes → kept ≡ items
    → AreShortOf changes items → (left ≡ old) ⊎ (left ≡ kept) → (left ≡ old) ⊎ IsShortBy after old left
left_short after old kept items left changes same is short (inl stays) = inl stays
left_short after old kept items left changes same is short (inr put) = inr (λ first watched.
    let both : AreShortOf after.changes kept =
    subst (λ l. AreShortOf l kept) same (subst (λ k. AreShortOf changes k) (sym is) short) in
    subst (IsShortList first.state.directory old) (sym put) (is_short_list first after old kept watched.0 watched.1 both))

-- the state alone
made_again : (before after : Watched) (records : List Record) → Replays Watches before records after
    → Replays Applies before.state records after.state
made_again before after [] is = ap (λ (w : Watched). w.state) is
made_again before after (r ∷ records) (mid, w, later) = (mid.state, w.made, made_again mid after records later)

pub shortened_by : (holds : List ℕ → List Record → Type 0) (opening : List ℕ) (first : State Global) (new after : Watched)
    (old list : List Record) (counts : ListLengths) → new ≡ record { state = first; changes = [] } → first.rows ≡ [] → first.audit ≡ []
    → holds opening old → Replays Watches new old after
    → ((w : Watched) → w.changes ≡ [] → Replays Watches w old after → AreCounted w.state.directory old list counts)
    → IsShortened holds opening first list counts
shortened_by holds opening first new after old list counts is no_rows no_audit held made short =
    let watched : Watched = record { state = first; changes = [] } in
    let again : Replays Watches watched old after = subst (λ (w : Watched). Replays Watches w old after) is made in
    let all : AreCounted first.directory old list counts = short watched refl again in
    let list_is = all.is_short in
    let was : Replays Applies first old after.state = made_again watched after old again in
    let noted : Replays Applies first (records_of list_is.changes) after.state =
    subst (λ (l : List Record). Replays Applies first l after.state) list_is.old_are was in
    let short_made : Replays Applies first (records_of (shortened list_is.changes)) after.state =
    one_state first after.state list_is.changes no_rows no_audit list_is.noted noted in
    record {
      old = old;
      held = held;
      counted = all;
      after = after.state;
      was = was;
      is = subst (λ (l : List Record). Replays Applies first l after.state) (sym list_is.short_are) short_made;
    }

-- the same, where the opening is said otherwise
pub shortened_of : (holds : List ℕ → List Record → Type 0) (opening other : List ℕ) (first : State Global) (list : List Record) (counts : ListLengths)
    → opening ≡ other → IsShortened holds opening first list counts → IsShortened holds other first list counts
shortened_of holds opening other first list counts same is = subst (λ o. IsShortened holds o first list counts) same is
