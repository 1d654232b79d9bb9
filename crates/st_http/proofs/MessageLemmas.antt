-- From what the window holds to the first item of the text.
use Rattle.std.proofs.Common.{◌≡◌, ℕ, ◌<◌, ◌≤◌, Bool, true, false, List, length, drop, refl, subst}
use Rattle.std.proofs.lemmas.Bool.{lt-ltb, le-ltb}
use Rattle.std.specs.Prelude.{nat_lt, ◌↔◌, IsTrue}
use Rattle.httparse.specs.Grammar.{RequestHead, print_request, ReadsRequest}
use Rattle.st_http.specs.declared.fields.Reason.TheVariants as reasons
use Rattle.st_http.specs.declared.message.Take.{Take}
use Rattle.st_http.specs.declared.message.Take.TheVariants as takes
use Rattle.st_http.specs.Head.{window, IsBare, DecidesBare, whole, begun, hopeless, HasReading}
use Rattle.st_http.specs.Fields.{body_length_of}
use Rattle.st_http.specs.First.{fault, more, with_body, fields_of}
use Rattle.st_http.specs.inner.Takes.{Represents, Takes}

-- the window's flag is the text's
decides_text : (text p : List ℕ) (bare : Bool) → p ≡ window text → IsTrue bare ↔ IsBare p → DecidesBare text bare
unfolding DecidesBare
decides_text text p bare e is_bare = subst (λ (t : List ℕ). IsTrue bare ↔ IsBare t) e is_bare

module _ (text p : List ℕ) (bare : Bool) (e : p ≡ window text) (is_bare : IsTrue bare ↔ IsBare p) where
  pub takes_whole : (rest : List ℕ) (h : RequestHead) (taken : Take) → ReadsRequest p h rest → length h.fields ≤ 64
      → Represents (with_body h (drop (length (print_request h)) text) bare (body_length_of h.minor (fields_of h))) taken → Takes text taken
  takes_whole rest h taken reads few represents =
      let room : nat_lt 64 (length h.fields) ≡ false = le-ltb _ _ few in
      (_, (whole h, bare, (rest, subst (λ (t : List ℕ). ReadsRequest t h rest) e reads), decides_text text p bare e is_bare, rw room refl), represents)

  pub takes_begun : HasReading p begun → length text < 8192 → Takes text (takes.More false)
  takes_begun reads short =
      let test : nat_lt (length text) 8192 ≡ true = lt-ltb _ _ short in
      (more false, (begun, bare, subst (λ (t : List ℕ). HasReading t begun) e reads, decides_text text p bare e is_bare, rw test refl), refl)

  pub faults_begun : HasReading p begun → 8192 ≤ length text → Takes text (takes.Fault (record { reason = reasons.Headers; bare = bare }))
  faults_begun reads long =
      let test : nat_lt (length text) 8192 ≡ false = le-ltb _ _ long in
      (fault reasons.Headers bare, (begun, bare, subst (λ (t : List ℕ). HasReading t begun) e reads, decides_text text p bare e is_bare, rw test refl), (refl, refl))

  pub faults_crowded : (h : RequestHead) (rest : List ℕ) → ReadsRequest p h rest → 64 < length h.fields
      → Takes text (takes.Fault (record { reason = reasons.Headers; bare = bare }))
  faults_crowded h rest reads many =
      let test : nat_lt 64 (length h.fields) ≡ true = lt-ltb _ _ many in
      (fault reasons.Headers bare, (whole h, bare, (rest, subst (λ (t : List ℕ). ReadsRequest t h rest) e reads), decides_text text p bare e is_bare, rw test refl), (refl, refl))

  pub faults_hopeless : HasReading p hopeless → Takes text (takes.Fault (record { reason = reasons.Head; bare = bare }))
  faults_hopeless reads =
      (fault reasons.Head bare, (hopeless, bare, subst (λ (t : List ℕ). HasReading t hopeless) e reads, decides_text text p bare e is_bare, refl), (refl, refl))
