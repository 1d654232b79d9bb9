-- What the workers of a hall have seen, counted and synced, by their desks.
use Rattle.std.proofs.Common.{◌≡◌, ℕ, ◌+◌, ◌<◌, List, [], ◌∷◌, map, length, refl, sym, ap, subst, ◌∙◌, arith}
use Rattle.std.proofs.lemmas.List.{get_or-map, length-map}
use Rattle.std.specs.List.{All, fold, sum_by}
use mathlib.Core.List.{IsPrefix}
use Rattle.st_hall_press.proofs.Fronts.{prefix_whole}
use Rattle.st_hall.specs.Steps.{Ask}
use Rattle.st_hall.specs.Views.{Seat, receipts}
use Rattle.st_hall.specs.Decisions.{Standing}
use Rattle.st_server_workers.specs.declared.working.Worked.{Worked}
use Rattle.st_server_peer.specs.Meeting.{Call, Serving}
use Rattle.st_server_workers.specs.Working.{WorkedEach}
use Rattle.st_server.specs.Attending.{HaveOneList, WorkedAsOne, desk_of, synced_of}

fold_of_map : {X Y : Type 0} (f : Y → ℕ) (g : X → Y) (a : ℕ) (xs : List X)
    → fold (λ (n : ℕ) (y : Y). n + f y) a (map g xs) ≡ fold (λ (n : ℕ) (x : X). n + f (g x)) a xs
fold_of_map f g a [] = refl
fold_of_map f g a (x ∷ xs) = fold_of_map f g (a + f (g x)) xs

sum_of_map : {X Y : Type 0} (f : Y → ℕ) (g : X → Y) (xs : List X) → sum_by f (map g xs) ≡ sum_by (λ x. f (g x)) xs
sum_of_map f g xs = fold_of_map f g 0 xs

all_before_map : {X Y : Type 0} (P : Y → Type 0) (g : X → Y) (xs : List X) → All P (map g xs) → All (λ x. P (g x)) xs
all_before_map P g xs all k d below =
    subst P (get_or-map g xs k d (g d) below) (all k (g d) (subst (λ n. k < n) (sym (length-map xs g)) below))

-- the longest of the list and what was seen at the desks is the list, where they are of one length
pub joined : {T : Type 0} (standing : T → Standing) (workers : List (Worked T)) (desks : List Seat) (fronts : List (List Ask))
    (list longest : List Ask) → desks ≡ map (desk_of standing) workers → length list ≡ receipts desks → fronts ≡ map (λ desk. desk.seen) desks
    → IsPrefix list longest → length longest ≡ length list → All (λ (front : List Ask). IsPrefix front longest) fronts
    → HaveOneList standing workers list
joined standing workers desks fronts list longest are counted seen begins same all =
    let is : list ≡ longest = prefix_whole list longest begins (omega (arith, same)) in
    let these : All (λ (front : List Ask). IsPrefix front list) fronts = subst (λ (l : List Ask). All (λ (front : List Ask). IsPrefix front l) fronts) (sym is) all in
    let there = subst (λ (f : List (List Ask)). All (λ (front : List Ask). IsPrefix front list) f) seen these in
    let at_desks = all_before_map (λ (front : List Ask). IsPrefix front list) (λ (desk : Seat). desk.seen) desks there in
    record {
      seen = all_before_map (λ (desk : Seat). IsPrefix desk.seen list) (desk_of standing) workers
          (subst (λ (d : List Seat). All (λ (desk : Seat). IsPrefix desk.seen list) d) are at_desks);
      counted = counted ∙ (ap receipts are ∙ sum_of_map (λ (desk : Seat). desk.made) (desk_of standing) workers);
    }

-- what all that was synced begins, what each worker had synced begins
pub each_synced : {T : Type 0} (standing : T → Standing) (workers : List (Worked T)) (synced : List (List Ask)) (kept : List Ask)
    → synced ≡ map (synced_of standing) workers → All (λ (front : List Ask). IsPrefix front kept) synced
    → All (λ worker. IsPrefix (synced_of standing worker) kept) workers
each_synced standing workers synced kept are all =
    all_before_map (λ (front : List Ask). IsPrefix front kept) (synced_of standing) workers
    (subst (λ (fronts : List (List Ask)). All (λ (front : List Ask). IsPrefix front kept) fronts) are all)

-- so the workers worked by one list
pub as_one : {T P : Type 0} (holds : (kept list : List Ask) → Type 0) (serves : Serving T) (call : P → Call) (standing : T → Standing) (attendants : List T)
    (workers : List (Worked T)) (synced : List (List Ask)) (list kept : List Ask) → WorkedEach serves call attendants workers
    → HaveOneList standing workers list → synced ≡ map (synced_of standing) workers → All (λ (front : List Ask). IsPrefix front kept) synced
    → holds kept list → WorkedAsOne holds serves call standing attendants workers
as_one holds serves call standing attendants workers synced list kept each one are all is =
    record { each = each; list = list; one = one; kept = kept; has = each_synced standing workers synced kept are all; is = is }
