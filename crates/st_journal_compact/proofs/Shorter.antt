-- The short list leads to the same state.
use Rattle.std.proofs.Common.{◌≡◌, ℕ, suc, ◌-◌, ◌≤◌, List, [], ◌∷◌, ◌++◌, length, Bool, true, false, not, ◌&&◌, ◌||◌, if◌then◌else◌, is_none, nat_le}
use Rattle.std.proofs.Common.{Option, Some, None, Ok, refl, sym, ap, subst, ◌∙◌, arith, le_refl, leb→le, le→leb, eqb→eq, nat_eq, T}
use Rattle.circular_buffer.specs.Buffer.{keep_last}
use Rattle.st_text.specs.Texts.{Text, in_order}
use Rattle.st_policy.specs.declared.entry.Entry.{Entry}
use Rattle.st_policy.specs.declared.refusal.Refusal.{Refusal}
use Rattle.st_policy.specs.declared.request.Request.{Request}
use Rattle.st_policy.specs.Entries.{entry_of}
use Rattle.st_policy.specs.Requests.{is_change}
use Rattle.st_policy.specs.Policy.{refusal_of}
use Rattle.st_dir.specs.Directory.{Directory, is_user}
use Rattle.st_table.specs.Rows.{Held, full_name}
use Rattle.st_core.specs.declared.asked.Call.{Call}
use Rattle.st_core.specs.Changes.{directory_after}
use Rattle.st_core.specs.State.{State}
use Rattle.st_core.specs.declared.judged.Judged.TheVariants.{Heard}
use Rattle.st_core.specs.Step.{judge_call, result_of, settle}
use Rattle.st_journal.specs.Replays.{Replays}
use Rattle.st_journal_record.specs.Records.{ReadsAs}
use Rattle.st_journal_record.proofs.ReadBack.{one}
use Rattle.st_journal_store.specs.Applying.{Applies}
use Rattle.st_journal_compact.specs.Shortening.{Noted, AreNoted, is_decided, is_left_out, is_undone, records_of, shortened}
use Rattle.st_journal_compact.proofs.LastOnes.{last_of_last, last_none, last_same}
use Rattle.st_journal_compact.proofs.RowChanges.{Kind, IsPut, IsDelete, IsDrop, IsOther, kind_of, rows_with, live, live_again, filter_all, ordered_with, alike_with, bare_with, bare_without, clash}

-- a list of at most so many
full_with : (xs : List Entry) → keep_last 1024 (keep_last 1024 xs) ≡ keep_last 1024 xs
full_with xs = last_of_last 1024 1024 xs (le_refl 1024)

told : (b : Bool) → T b → b ≡ true
told true h = refl
told false h = absurd h

holds : (b : Bool) → b ≡ true → T b
holds true e = tt
holds false e = absurd (clash (sym e))

both_true : (a b : Bool) → a && b ≡ true → (a ≡ true) × (b ≡ true)
both_true true b e = (refl, e)
both_true false b e = absurd (clash (sym e))

module _ {A : Type 0} where
  -- ---- one change

  abbrev directory_with : Bool → Text → Request A → Directory A → Directory A
  directory_with b user request d = if b then directory_after user request d else d

  -- what the change makes of a state
  abbrev made : State A → Noted A → State A
  made s c = (settle s (judge_call s.directory (Some c.note.user) (Call.Good c.request))).state

  record Made (s : State A) (c : Noted A) (t : State A) : Type 0 where
    directory : t.directory ≡ directory_with c.accepted c.note.user c.request s.directory
    rows : t.rows ≡ rows_with c.accepted c.request s.rows
    audit : t.audit ≡ keep_last 1024 (s.audit ++ entry_of c.note.user c.request (result_of (refusal_of s.directory c.note.user c.request)) ∷ [])

  -- what a heard change makes of a state
  abbrev heard : State A → Noted A → Option Refusal → State A
  heard s c r = (settle s (Heard c.note.user c.request r)).state

  made_at : (s : State A) (c : Noted A) (r : Option Refusal) → is_change c.request ≡ true → c.accepted ≡ is_none r
      → ((heard s c r).directory ≡ directory_with c.accepted c.note.user c.request s.directory)
      × ((heard s c r).rows ≡ rows_with c.accepted c.request s.rows)
      × ((heard s c r).audit ≡ keep_last 1024 (s.audit ++ entry_of c.note.user c.request (result_of r) ∷ []))
  made_at s c None change judged = (
    sym (ap (λ b. directory_with b c.note.user c.request s.directory) judged),
    sym (ap (λ b. rows_with b c.request s.rows) judged),
    ap (λ b. if b then keep_last 1024 (s.audit ++ entry_of c.note.user c.request 0 ∷ []) else s.audit) change,
  )
  made_at s c (Some refusal) change judged = (
    sym (ap (λ b. directory_with b c.note.user c.request s.directory) judged),
    sym (ap (λ b. rows_with b c.request s.rows) judged),
    ap (λ b. if b then keep_last 1024 (s.audit ++ entry_of c.note.user c.request (result_of (Some refusal)) ∷ []) else s.audit) change,
  )

  made_by : (s : State A) (c : Noted A) → is_change c.request ≡ true → c.accepted ≡ is_none (refusal_of s.directory c.note.user c.request)
      → Made s c (made s c)
  made_by s c change judged =
      let all = made_at s c (refusal_of s.directory c.note.user c.request) change judged in
      record { directory = all.0; rows = all.1; audit = all.2 }

  is_made : (s : State A) (c : Noted A) (t : State A) → ReadsAs c.note (Ok c.request) → Applies s c.note t → (t ≡ made s c) × (is_change c.request ≡ true)
  is_made s c t reads a =
      let same : Ok a.request ≡ Ok c.request = one c.note (Ok a.request) (Ok c.request) a.reads reads in
      let request : a.request ≡ c.request = cc in (
        a.after_is ∙ ap (λ q. (settle s (judge_call s.directory (Some c.note.user) (Call.Good q))).state) request,
        subst (λ (q : Request A). is_change q ≡ true) request a.change,
      )

  -- the directory after it
  pub directory_next : (s : State A) (c : Noted A) (t : State A) → ReadsAs c.note (Ok c.request)
      → c.accepted ≡ is_none (refusal_of s.directory c.note.user c.request) → Applies s c.note t
      → t.directory ≡ (if c.accepted then directory_after c.note.user c.request s.directory else s.directory)
  directory_next s c t reads judged a =
      let is = is_made s c t reads a in
      ap (λ (u : State A). u.directory) is.0 ∙ (made_by s c is.1 judged).directory

  -- it applies to each state of the same directory
  applies_too : (s : State A) (c : Noted A) (t short : State A) → ReadsAs c.note (Ok c.request) → Applies s c.note t → short.directory ≡ s.directory
      → Applies short c.note (made short c)
  applies_too s c t short reads a same = record {
    request = c.request;
    reads = reads;
    change = (is_made s c t reads a).1;
    named = a.named;
    user = ap (λ d. is_user d c.note.user) same ∙ a.user;
    after_is = refl;
  }

  -- ---- the short list beside the whole one

  -- the rows of which none of these changes decides
  abbrev living : List (Noted A) → List (Held A) → List (Held A)
  living rest = live (is_decided rest)

  -- The state that the short list leads to is as the other, but for what `rest` makes the same.
  record Beside (rest : List (Noted A)) (s short : State A) : Type 0 where
    directory : short.directory ≡ s.directory
    ordered : in_order full_name s.rows ≡ s.rows
    full : keep_last 1024 s.audit ≡ s.audit
    short_full : keep_last 1024 short.audit ≡ short.audit
    audit : keep_last (1024 - length rest) short.audit ≡ keep_last (1024 - length rest) s.audit
    rows : living rest short.rows ≡ living rest s.rows
    bare : 1024 ≤ length rest → short.rows ≡ living rest s.rows

  -- nothing comes any more
  at_end : (s short : State A) → Beside [] s short → s ≡ short
  at_end s short b =
      let audit : s.audit ≡ short.audit = sym b.full ∙ sym b.audit ∙ b.short_full in
      let rows : s.rows ≡ short.rows = sym (filter_all s.rows) ∙ sym b.rows ∙ filter_all short.rows in
      λ i. record { directory = sym b.directory i; rows = rows i; audit = audit i }

  -- what the audit listing says of the change
  abbrev entry : Directory A → Noted A → Entry
  entry d c = entry_of c.note.user c.request (result_of (refusal_of d c.note.user c.request))

  module _ (s t short : State A) (c : Noted A) (rest : List (Noted A)) (reads : ReadsAs c.note (Ok c.request))
      (judged : c.accepted ≡ is_none (refusal_of s.directory c.note.user c.request)) (a : Applies s c.note t) (b : Beside (c ∷ rest) s short) where
    change : is_change c.request ≡ true
    change = (is_made s c t reads a).1

    all : Made s c t
    all = subst (Made s c) (sym (is_made s c t reads a).0) (made_by s c change judged)

    short_judged : c.accepted ≡ is_none (refusal_of short.directory c.note.user c.request)
    short_judged = judged ∙ ap (λ d. is_none (refusal_of d c.note.user c.request)) (sym b.directory)

    short_all : Made short c (made short c)
    short_all = made_by short c change short_judged

    ordered : in_order full_name t.rows ≡ t.rows
    ordered = ap (in_order full_name) all.rows ∙ ordered_with c.accepted c.request (kind_of c.request) s.rows b.ordered ∙ sym all.rows

    full : keep_last 1024 t.audit ≡ t.audit
    full = ap (keep_last 1024) all.audit ∙ full_with (s.audit ++ entry s.directory c ∷ []) ∙ sym all.audit

    -- the change is kept
    last_kept : (m : ℕ) → m ≡ 1024 - length rest → keep_last m (made short c).audit ≡ keep_last m t.audit
    last_kept m is =
        ap (keep_last m) (short_all.audit ∙ ap (λ d. keep_last 1024 (short.audit ++ entry d c ∷ [])) b.directory)
        ∙ last_of_last m 1024 (short.audit ++ entry s.directory c ∷ []) (omega (arith, is))
        ∙ at (nat_eq m 0) refl
        ∙ sym (last_of_last m 1024 (s.audit ++ entry s.directory c ∷ []) (omega (arith, is)))
        ∙ ap (keep_last m) (sym all.audit)
      where
        at : (z : Bool) → nat_eq m 0 ≡ z → keep_last m (short.audit ++ entry s.directory c ∷ []) ≡ keep_last m (s.audit ++ entry s.directory c ∷ [])
        at true e =
            let none : m ≡ 0 = eqb→eq m 0 (holds (nat_eq m 0) e) in
            subst (λ k. keep_last k (short.audit ++ entry s.directory c ∷ []) ≡ keep_last k (s.audit ++ entry s.directory c ∷ [])) (sym none)
            (last_none (short.audit ++ entry s.directory c ∷ []) ∙ sym (last_none (s.audit ++ entry s.directory c ∷ [])))
        at false e =
            let some : m ≡ 0 → ⊥ = (λ z. absurd (clash (ap (λ k. nat_eq k 0) (sym z) ∙ e))) in
            last_same m (1024 - suc (length rest)) short.audit s.audit (entry s.directory c) some (omega (arith, is)) b.audit

    kept : is_left_out c rest ≡ false → Beside rest t (made short c)
    kept e = record {
      directory = short_all.directory ∙ ap (directory_with c.accepted c.note.user c.request) b.directory ∙ sym all.directory;
      ordered = ordered;
      full = full;
      short_full =
          ap (keep_last 1024) short_all.audit ∙ full_with (short.audit ++ entry short.directory c ∷ []) ∙ sym short_all.audit;
      audit = last_kept (1024 - length rest) refl;
      rows =
          ap (living rest) short_all.rows
          ∙ alike_with c.accepted c.request (kind_of c.request) (is_decided rest) short.rows s.rows b.rows
          ∙ ap (living rest) (sym all.rows);
      bare = λ far.
          short_all.rows
          ∙ ap (rows_with c.accepted c.request) (b.bare (omega (arith, far)))
          ∙ bare_with c.accepted c.request (kind_of c.request) rest s.rows
          (ap (λ z. z && (not c.accepted || is_undone c.request (is_decided rest)))
          (sym (told (nat_le 1024 (length rest)) (le→leb 1024 (length rest) far))) ∙ e)
          ∙ ap (living rest) (sym all.rows);
    }

    -- the change is left out
    same_directory : (z : Bool) (request : Request A) → Kind request → (not z || is_undone request (is_decided rest)) ≡ true → (d : Directory A)
        → directory_with z c.note.user request d ≡ d
    same_directory false request k e d = refl
    same_directory true _ (IsPut table row) e d = refl
    same_directory true _ (IsDelete table id label) e d = refl
    same_directory true _ (IsDrop table) e d = absurd (clash (sym e))
    same_directory true _ (IsOther request leaves stays unlike) e d = absurd (clash (sym e ∙ unlike (is_decided rest)))

    left_out : 1024 ≤ length rest → (not c.accepted || is_undone c.request (is_decided rest)) ≡ true → Beside rest t short
    left_out far e =
        let bare : short.rows ≡ living rest t.rows =
        b.bare (omega (arith, far)) ∙ bare_without c.accepted c.request (kind_of c.request) rest s.rows b.ordered e ∙ ap (living rest) (sym all.rows) in
        let none : 1024 - length rest ≡ 0 = omega (arith, far) in
        record {
          directory = b.directory ∙ sym (same_directory c.accepted c.request (kind_of c.request) e s.directory) ∙ sym all.directory;
          ordered = ordered;
          full = full;
          short_full = b.short_full;
          audit = subst (λ k. keep_last k short.audit ≡ keep_last k t.audit) (sym none) (last_none short.audit ∙ sym (last_none t.audit));
          rows = ap (living rest) bare ∙ live_again (is_decided rest) t.rows;
          bare = λ f. bare;
        }

    next_noted : AreNoted (directory_with c.accepted c.note.user c.request s.directory) rest → AreNoted t.directory rest
    next_noted noted = subst (λ d. AreNoted d rest) (sym all.directory) noted

  beside : (s short after : State A) (changes : List (Noted A)) → Beside changes s short → AreNoted s.directory changes
      → Replays Applies s (records_of changes) after → Replays Applies short (records_of (shortened changes)) after
  beside s short after [] b noted made_all = made_all ∙ at_end s short b
  beside s short after (c ∷ rest) b (reads, judged, noted) (mid, a, later) =
      at (is_left_out c rest) refl
      (λ next side. beside mid next after rest side (next_noted s mid short c rest reads judged a b noted) later)
    where
      at : (z : Bool) → is_left_out c rest ≡ z
          → ((next : State A) → Beside rest mid next → Replays Applies next (records_of (shortened rest)) after)
          → Replays Applies short (records_of (shortened (c ∷ rest))) after
      at true e ih =
          let both = both_true (nat_le 1024 (length rest)) (not c.accepted || is_undone c.request (is_decided rest)) e in
          rw e (ih short (left_out s mid short c rest reads judged a b (leb→le 1024 (length rest) (holds (nat_le 1024 (length rest)) both.0)) both.1))
      at false e ih =
          rw e (
            made short c,
            applies_too s c mid short reads a b.directory,
            ih (made short c) (kept s mid short c rest reads judged a b e),
          )

  -- the first state
  begins : (first : State A) (changes : List (Noted A)) → first.rows ≡ [] → first.audit ≡ [] → Beside changes first first
  begins first changes no_rows no_audit = record {
    directory = refl;
    ordered = subst (λ rows. in_order full_name rows ≡ rows) (sym no_rows) refl;
    full = subst (λ audit. keep_last 1024 audit ≡ audit) (sym no_audit) refl;
    short_full = subst (λ audit. keep_last 1024 audit ≡ audit) (sym no_audit) refl;
    audit = refl;
    rows = refl;
    bare = λ far. subst (λ rows. rows ≡ living changes rows) (sym no_rows) refl;
  }

  pub one_state : (first after : State A) (changes : List (Noted A)) → first.rows ≡ [] → first.audit ≡ [] → AreNoted first.directory changes
      → Replays Applies first (records_of changes) after → Replays Applies first (records_of (shortened changes)) after
  one_state first after changes no_rows no_audit = beside first first after changes (begins first changes no_rows no_audit)
