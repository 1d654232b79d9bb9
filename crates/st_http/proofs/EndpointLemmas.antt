-- The endpoint of a path, by the rows that are kept of it.
use Rattle.std.proofs.Common.{◌≡◌, ℕ, Bool, true, false, List, [], ◌∷◌, map, find, cond, Option, Some, None, option_map, refl, sym, ap, ◌∙◌}
use Rattle.std.specs.Str.{bytes_eq}
use Rattle.st_http.specs.declared.routes.Endpoint.{Endpoint}
use Rattle.st_http.specs.Paths.{endpoint_of}

by_test : {X Y : Type 0} (f : X → Y) (t : Bool) (x : X) (o : Option Y) (q : Option X) → o ≡ option_map f q → cond t (Some (f x)) o ≡ option_map f (cond t (Some x) q)
by_test f true x o q same = refl
by_test f false x o q same = same

find_mapped : {X Y : Type 0} (f : X → Y) (p : Y → Bool) (xs : List X) → find p (map f xs) ≡ option_map f (find (λ x. p (f x)) xs)
find_mapped f p [] = refl
find_mapped f p (x ∷ xs) = by_test f (p (f x)) x (find p (map f xs)) (find (λ y. p (f y)) xs) (find_mapped f p xs)

-- what was found of the rows that are kept is the endpoint
pub endpoint_told : {X R : Type 0} (show : R → X) (f : X → List ℕ × Endpoint) (xs : List X) (method : List ℕ) (rows : List (List ℕ × Endpoint)) (o : Option R)
    → option_map show o ≡ find (λ x. bytes_eq (f x).0 method) xs → map f xs ≡ rows → option_map (λ r. (f (show r)).1) o ≡ endpoint_of method rows
endpoint_told show f xs method rows None found same =
    sym (ap (endpoint_of method) (sym same) ∙ ap (option_map (λ l. l.1)) (find_mapped f (λ l. bytes_eq l.0 method) xs) ∙ ap (λ k. option_map (λ l. l.1) (option_map f k)) (sym found))
endpoint_told show f xs method rows (Some r) found same =
    sym (ap (endpoint_of method) (sym same) ∙ ap (option_map (λ l. l.1)) (find_mapped f (λ l. bytes_eq l.0 method) xs) ∙ ap (λ k. option_map (λ l. l.1) (option_map f k)) (sym found))
