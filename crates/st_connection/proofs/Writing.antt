-- One answer, as far as the writer took it.
use Rattle.std.proofs.Common.{◌≡◌, ℕ, ◌+◌, ◌-◌, ◌≤◌, Bool, true, Option, List, ◌++◌, length, take, drop, subst, arith}
use Rattle.std.specs.Io.KnownBytes.{Appends}
use Rattle.std.proofs.KnownBytes.{Appends-trans}
use Rattle.std.proofs.lemmas.List.{take-append-drop, drop-take}
use Rattle.std.proofs.lemmas.Grind.{common_steps}
use Rattle.st_connection.specs.inner.Stages.{Sent}

pub sent_part : (ho hn : Option (List ℕ)) (wo wn : ℕ) (bytes : List ℕ) (done : ℕ) (b : Bool) → done ≤ length bytes → Appends ho hn (take done bytes)
    → wn ≡ wo + done → (b ≡ true → length bytes ≤ done) → Sent ho hn wo wn bytes b
sent_part ho hn wo wn bytes done b le wrote counted all = record {
  sent = take done bytes;
  missing = drop done bytes;
  prefix = grind (arith, common_steps);
  whole_out = λ e. let all_done : length bytes ≤ done = all e in grind (arith, common_steps);
  wrote = wrote;
  counted = let n : length (take done bytes) ≡ done = grind (arith, common_steps) in omega (arith, n, counted);
}

take_then : (bytes : List ℕ) (done taken : ℕ) → take done bytes ++ take taken (drop done bytes) ≡ take (done + taken) bytes
take_then bytes done taken =
    let a : take done (take (done + taken) bytes) ≡ take done bytes = grind (arith, common_steps) in
    let b = take-append-drop done (take (done + taken) bytes) in let d = drop-take done taken bytes in cc

-- the rest of the bytes as the code slices it
rest_of : (bytes : List ℕ) (done : ℕ) → take (length bytes - done) (drop done bytes) ≡ drop done bytes
rest_of bytes done = grind (arith, common_steps)

pub piece_within : (bytes : List ℕ) (done taken : ℕ) → done ≤ length bytes → taken ≤ length (take (length bytes - done) (drop done bytes)) → done + taken ≤ length bytes
piece_within bytes done taken le h = let k : taken ≤ length (drop done bytes) = subst (λ (s : List ℕ). taken ≤ length s) (rest_of bytes done) h in grind (arith, common_steps)

pub appends_piece : (a b c : Option (List ℕ)) (bytes : List ℕ) (done taken : ℕ) → Appends a b (take done bytes)
    → Appends b c (take taken (take (length bytes - done) (drop done bytes))) → Appends a c (take (done + taken) bytes)
appends_piece a b c bytes done taken h k =
    let piece = subst (λ (s : List ℕ). Appends b c (take taken s)) (rest_of bytes done) k in
    subst (λ (s : List ℕ). Appends a c s) (take_then bytes done taken) (Appends-trans a b c _ _ h piece)
