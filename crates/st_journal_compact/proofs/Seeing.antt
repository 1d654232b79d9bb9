-- A state that was made again beside the changes.
use Rattle.std.proofs.Common.{◌≡◌, List, [], ◌∷◌, ◌++◌, map, Bool, is_none, is_ok, if◌then◌else◌, Option, Some, None, Result, Ok, Global, refl, sym, ap, ap₂, subst, ◌∙◌, append_assoc, append-nil}
use Rattle.std.specs.List.{AllByRecursion}
use Rattle.st_dir.specs.Directory.{Directory}
use Rattle.st_text.specs.Texts.{Text}
use Rattle.st_policy.specs.declared.refusal.Refusal.{Refusal}
use Rattle.st_policy.specs.declared.request.Request.{Request}
use Rattle.st_policy.specs.Policy.{decision, refusal_of}
use Rattle.st_core.specs.Changes.{directory_after}
use Rattle.st_core.specs.State.{State}
use Rattle.st_journal.specs.declared.record.Record.{Record}
use Rattle.st_journal.specs.Replays.{Replays}
use Rattle.st_journal_record.specs.Records.{ReadsAs}
use Rattle.st_journal_record.proofs.ReadBack.{one}
use Rattle.st_journal_store.specs.Applying.{Applies}
use Rattle.st_journal_compact.specs.declared.judged_record.JudgedRecord.{JudgedRecord}
use Rattle.st_journal_compact.specs.Shortening.{Noted, AreNoted, IsShortList, records_of, shortened}
use Rattle.st_journal_compact.specs.Judging.{AreShortOf, judged}
use Rattle.st_journal_compact.specs.Watching.{Watched, Watches}
use Rattle.st_journal_compact.proofs.Shorter.{directory_next, one_state}

-- what the policy says is whether a request is refused
pub accepted_is : {A : Type 0} (d e : Directory A) (u v : Text) (request : Request A) (told : Result (Unit {0}) Refusal) (accepted : Bool)
    → told ≡ decision (refusal_of d u request) → accepted ≡ is_ok told → d ≡ e → u ≡ v → accepted ≡ is_none (refusal_of e v request)
accepted_is d e u v request told accepted decided is directory user =
    is ∙ ap is_ok (decided ∙ ap₂ (λ x y. decision (refusal_of x y request)) directory user) ∙ at (refusal_of e v request)
  where
    at : (r : Option Refusal) → is_ok (decision r) ≡ is_none r
    at None = refl
    at (Some refusal) = refl

-- a record that was applied and put behind the others
pub watches : (before : Watched) (r : Record) (old after : State Global) (changes room now : List JudgedRecord) (request : Request Global)
    (accepted : Bool) (note : Record) → before ≡ record { state = old; changes = changes } → Applies old r after → ReadsAs r (Ok request)
    → accepted ≡ is_none (refusal_of old.directory r.user request) → room ≡ changes → now ≡ room ++ record { note = note; accepted = accepted } ∷ []
    → note ≡ r → Watches before r (record { state = after; changes = now })
watches before r old after changes room now request accepted note is made reads judged whole put same =
    subst (λ b. Watches b r (record { state = after; changes = now })) (sym is) (record {
      made = made;
      request = request;
      reads = reads;
      accepted = accepted;
      judged = judged;
      put =
          put ∙ ap (λ l. l ++ record { note = note; accepted = accepted } ∷ []) whole
          ∙ ap (λ n. changes ++ record { note = n; accepted = accepted } ∷ []) same;
    })

-- the changes that were made
pub record Seen (before after : Watched) (records : List Record) : Type 0 where
  pub made : Replays Applies before.state records after.state
  pub changes : List (Noted Global)
  pub records_are : records ≡ records_of changes
  pub put : after.changes ≡ before.changes ++ map judged changes
  pub noted : AreNoted before.state.directory changes

pub seen : (before after : Watched) (records : List Record) → Replays Watches before records after → Seen before after records
seen before after [] is = record {
  made = ap (λ (w : Watched). w.state) is;
  changes = [];
  records_are = refl;
  put = ap (λ (w : Watched). w.changes) is ∙ sym (append-nil before.changes);
  noted = tt;
}
seen before after (r ∷ records) (mid, w, later) =
    let more = seen mid after records later in
    let c : Noted Global = record { note = r; request = w.request; accepted = w.accepted } in
    record {
      made = (mid.state, w.made, more.made);
      changes = c ∷ more.changes;
      records_are = ap (λ l. r ∷ l) more.records_are;
      put = more.put ∙ ap (λ l. l ++ map judged more.changes) w.put ∙ append_assoc before.changes (record { note = r; accepted = w.accepted } ∷ []) (map judged more.changes);
      noted = (w.reads, w.judged, subst (λ d. AreNoted d more.changes) (directory_next before.state c mid.state w.reads w.judged w.made) more.noted);
    }

-- changes of the same records, judged alike, are the same
same_changes : (d : Directory Global) (a b : List (Noted Global)) → AreNoted d a → AllByRecursion (λ c. ReadsAs c.note (Ok c.request)) b
    → map judged a ≡ map judged b → a ≡ b
same_changes d [] [] n r e = refl
same_changes d [] (y ∷ b) n r e = absurd (nil_cons e)
  where
    nil_cons : [] ≡ judged y ∷ map judged b → ⊥
    nil_cons p = cc
same_changes d (x ∷ a) [] n r e = absurd (cons_nil e)
  where
    cons_nil : judged x ∷ map judged a ≡ [] → ⊥
    cons_nil p = cc
same_changes d (x ∷ a) (y ∷ b) n r e =
    let tails : a ≡ b = same_changes (if x.accepted then directory_after x.note.user x.request d else d) a b n.2 r.1 (tail (map judged a) (map judged b) e) in
    λ i. same_head (head (map judged a) (map judged b) e) i ∷ tails i
  where
    head : (p q : List JudgedRecord) → judged x ∷ p ≡ judged y ∷ q → judged x ≡ judged y
    head p q h = cc

    tail : (p q : List JudgedRecord) → judged x ∷ p ≡ judged y ∷ q → p ≡ q
    tail p q h = cc

    same_head : judged x ≡ judged y → x ≡ y
    same_head h =
        let note : x.note ≡ y.note = ap (λ (j : JudgedRecord). j.note) h in
        let accepted : x.accepted ≡ y.accepted = ap (λ (j : JudgedRecord). j.accepted) h in
        let reads : ReadsAs x.note (Ok y.request) = subst (λ (k : Record). ReadsAs k (Ok y.request)) (sym note) r.0 in
        let both : Ok x.request ≡ Ok y.request = one x.note (Ok x.request) (Ok y.request) n.0 reads in
        let request : x.request ≡ y.request = cc in
        λ i. record { note = note i; request = request i; accepted = accepted i }

-- the records that `shorten` made are those of the short list of the changes that were made
short_of : (first after : Watched) (records kept : List Record) → (made : Replays Watches first records after) → first.changes ≡ []
    → AreShortOf after.changes kept → kept ≡ records_of (shortened (seen first after records made).changes)
short_of first after records kept made none short =
    let all = seen first after records made in
    let alike : map judged all.changes ≡ map judged short.changes =
    sym (all.put ∙ ap (λ l. l ++ map judged all.changes) none) ∙ short.judged_are in
    let same : all.changes ≡ short.changes = same_changes first.state.directory all.changes short.changes all.noted short.read alike in
    short.kept_are ∙ ap (λ l. records_of (shortened l)) (sym same)

pub is_short_list : (first after : Watched) (records kept : List Record) → first.changes ≡ []
    → Replays Watches first records after → AreShortOf after.changes kept → IsShortList first.state.directory records kept
is_short_list first after records kept none made short =
    let all = seen first after records made in
    record {
      changes = all.changes;
      noted = all.noted;
      old_are = all.records_are;
      short_are = short_of first after records kept made none short;
    }

pub stands_for_the_same : (first after : Watched) (records kept : List Record) → first.state.rows ≡ [] → first.state.audit ≡ [] → first.changes ≡ []
    → Replays Watches first records after → AreShortOf after.changes kept
    → Replays Applies first.state records after.state × Replays Applies first.state kept after.state
stands_for_the_same first after records kept no_rows no_audit none made short =
    let all = seen first after records made in
    let whole : Replays Applies first.state (records_of all.changes) after.state =
    subst (λ l. Replays Applies first.state l after.state) all.records_are all.made in (
      all.made,
      subst (λ l. Replays Applies first.state l after.state) (sym (short_of first after records kept made none short))
          (one_state first.state after.state all.changes no_rows no_audit all.noted whole),
    )

-- changes of the same records, judged by the same directory, are the same
alike_noted : {A : Type 0} (d : Directory A) (a b : List (Noted A)) → AreNoted d a → AreNoted d b → records_of a ≡ records_of b → a ≡ b
alike_noted d [] [] n m e = refl
alike_noted d [] (y ∷ b) n m e = absurd (nil_cons (records_of b) e)
  where
    nil_cons : (l : List Record) → [] ≡ y.note ∷ l → ⊥
    nil_cons l p = cc
alike_noted d (x ∷ a) [] n m e = absurd (cons_nil (records_of a) e)
  where
    cons_nil : (l : List Record) → x.note ∷ l ≡ [] → ⊥
    cons_nil l p = cc
alike_noted {A} d (x ∷ a) (y ∷ b) n m e =
    let note : x.note ≡ y.note = head (records_of a) (records_of b) e in
    let reads : ReadsAs x.note (Ok y.request) = subst (λ (k : Record). ReadsAs k (Ok y.request)) (sym note) m.0 in
    let both : Ok x.request ≡ Ok y.request = one x.note (Ok x.request) (Ok y.request) n.0 reads in
    let request : x.request ≡ y.request = cc in
    let accepted : x.accepted ≡ y.accepted =
    n.1 ∙ ap₂ (λ (r : Record) (q : Request A). is_none (refusal_of d r.user q)) note request ∙ sym m.1 in
    let same : x ≡ y = (λ i. record { note = note i; request = request i; accepted = accepted i }) in
    let later : AreNoted (if x.accepted then directory_after x.note.user x.request d else d) b =
    subst (λ (z : Noted A). AreNoted (if z.accepted then directory_after z.note.user z.request d else d) b) (sym same) m.2 in
    let tails : a ≡ b =
    alike_noted (if x.accepted then directory_after x.note.user x.request d else d) a b n.2 later (tail (records_of a) (records_of b) e) in
    λ i. same i ∷ tails i
  where
    head : (p q : List Record) → x.note ∷ p ≡ y.note ∷ q → x.note ≡ y.note
    head p q h = cc

    tail : (p q : List Record) → x.note ∷ p ≡ y.note ∷ q → p ≡ q
    tail p q h = cc

pub one_short_list : {A : Type 0} (d : Directory A) (old short other : List Record) → IsShortList d old short → IsShortList d old other → short ≡ other
one_short_list d old short other a b =
    let same : a.changes ≡ b.changes = alike_noted d a.changes b.changes a.noted b.noted (sym a.old_are ∙ b.old_are) in
    a.short_are ∙ ap (λ l. records_of (shortened l)) same ∙ sym b.short_are
