-- What is known once one change more was looked at.
use Rattle.std.proofs.Common.{◌≡◌, ◌+◌, List, [], ◌∷◌, ◌++◌, length, reverse, map, Bool, true, false, not, ◌&&◌, ◌||◌, if◌then◌else◌, nat_le, Result}
use Rattle.std.proofs.Common.{Ok, Err, OnOk, Global, refl, sym, ap, ◌∙◌, arith, append_assoc}
use Rattle.std.proofs.lemmas.List.{reverse-append}
use Rattle.st_policy.specs.declared.request.Request.{Request}
use Rattle.st_table.specs.Rows.{Held}
use Rattle.st_journal.specs.declared.record.Record.{Record}
use Rattle.st_journal_record.specs.Records.{ReadsAs}
use Rattle.st_journal_compact.specs.declared.judged_record.JudgedRecord.{JudgedRecord}
use Rattle.st_journal_compact.specs.declared.sieve.Sieve.{Sieve}
use Rattle.st_journal_compact.specs.Shortening.{Noted, decides, is_decided, is_left_out, is_undone, records_of, shortened}
use Rattle.st_journal_compact.specs.Judging.{AreShortOf, judged}
use Rattle.st_journal_compact.specs.inner.Stages.{knows, Past, Stands, Took}

kept_with : (c : Noted Global) (rest : List (Noted Global)) (kept now : List Record) (left : Bool) → left ≡ is_left_out c rest
    → reverse kept ≡ records_of (shortened rest) → now ≡ (if left then kept else kept ++ c.note ∷ []) → reverse now ≡ records_of (shortened (c ∷ rest))
kept_with c rest kept now true is had more = let yes = sym is in rw yes (ap reverse more ∙ had)
kept_with c rest kept now false is had more =
    let no_more = sym is in
    rw no_more (ap reverse more ∙ reverse-append kept (c.note ∷ []) ∙ ap (λ l. c.note ∷ l) had)

pub all_ok : {X E P Q R S : Type 0} (r : Result X E) → OnOk r P → OnOk r Q → OnOk r R → (P → Q → R → S) → OnOk r S
all_ok (Ok x) p q r so = so p q r
all_ok (Err e) p q r so = p

pub took : (old mid new : Sieve) (it : JudgedRecord) (request : Request Global) (left : Bool) → ReadsAs it.note (Ok request)
    → left ≡ (nat_le 1024 old.behind && (not it.accepted || is_undone request (knows old.decided)))
    → ((held : Held Global) → knows mid.decided held ≡ ((it.accepted && decides request held) || knows old.decided held))
    → mid.kept ≡ old.kept → mid.behind ≡ old.behind
    → new.kept.items ≡ (if left then mid.kept.items else mid.kept.items ++ it.note ∷ [])
    → new.behind ≡ mid.behind + 1 → new.decided ≡ mid.decided → Took old new it
took old mid new it request left reads leaves decided kept behind more counted same = record {
  request = request;
  reads = reads;
  stands = λ rest st.
      let c : Noted Global = record { note = it.note; request = request; accepted = it.accepted } in
      let each : knows old.decided ≡ is_decided rest = λ i held. st.knows_each held i in
      let is : left ≡ is_left_out c rest =
      leaves
      ∙ ap (λ n. nat_le 1024 n && (not it.accepted || is_undone request (knows old.decided))) st.behind
      ∙ ap (λ p. nat_le 1024 (length rest) && (not it.accepted || is_undone request p)) each in
      record {
        kept = kept_with c rest old.kept.items new.kept.items left is st.kept (more ∙ ap (λ v. if left then v.items else v.items ++ it.note ∷ []) kept);
        behind = omega (arith, counted, behind, st.behind);
        knows_each = λ held.
            ap (λ d. knows d held) same ∙ decided held ∙ ap (λ b. (it.accepted && decides request held) || b) (st.knows_each held);
      };
}

pub past_none : (all : List JudgedRecord) (s : Sieve) → Stands s [] → Past all all s
past_none all s st = record { rest = []; all_are = nil all; read = tt; stands = st }
  where
    nil : (l : List JudgedRecord) → l ≡ l ++ []
    nil [] = refl
    nil (x ∷ l) = ap (λ m. x ∷ m) (nil l)

pub past_more : (all old_left left : List JudgedRecord) (it : JudgedRecord) (old new : Sieve) → Past all old_left old → old_left ≡ left ++ it ∷ []
    → Took old new it → Past all left new
past_more all old_left left it old new p is t = record {
  rest = record { note = it.note; request = t.request; accepted = it.accepted } ∷ p.rest;
  all_are = p.all_are ∙ ap (λ l. l ++ map judged p.rest) is ∙ append_assoc left (it ∷ []) (map judged p.rest);
  read = (t.reads, p.read);
  stands = t.stands p.rest p.stands;
}

pub past_all : (all : List JudgedRecord) (s : Sieve) (left : List JudgedRecord) (kept : List Record) → left ≡ [] → kept ≡ reverse s.kept.items → Past all left s
    → AreShortOf all kept
past_all all s left kept is made p = record {
  changes = p.rest;
  judged_are = p.all_are ∙ ap (λ l. l ++ map judged p.rest) is;
  read = p.read;
  kept_are = made ∙ p.stands.kept;
}
