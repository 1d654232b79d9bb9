-- Children cut in two.
use Rattle.std.proofs.Common.{◌≡◌, ℕ, ◌+◌, ◌<◌, List, [], ◌∷◌, ◌++◌, length, get_or, map, drop, length-append, refl, sym, ap, subst, arith, drop-cons, Vec, vec_len}
use Rattle.std.proofs.lemmas.List.{length-map}
use Rattle.std.proofs.lemmas.List.Elements.{All-append, All-cons, All-head, All-tail}
use Rattle.std.specs.List.{All}
use Rattle.st_index.proofs.Climbing.{all_left, all_right}
use Rattle.st_tally.specs.inner.Pages.{PageValue, NodeValue, IsFilled, IsWide}
use Rattle.st_ubtree.specs.inner.Kids.{AreWide, IsKid, Starts, StartsAt, HeadAt, pages_of, widths_of}
use Rattle.st_ubtree.specs.inner.Splits.{chains_of, chains_over, splits_with}
use Rattle.st_ubtree.specs.declared.node.blank.Blank.{Blank}
use Rattle.st_ubtree.specs.inner.Growing.{AreBlank, IsBlank}

pub blank_last : {A : Type 0} → (bs : List (Blank A)) (b : Blank A) → AreBlank (bs ++ b ∷ []) → AreBlank bs × IsBlank b
blank_last bs b h = (all_left IsBlank bs (b ∷ []) h, All-head IsBlank b [] (all_right IsBlank bs (b ∷ []) h))

pub blank_more : {A : Type 0} (bs new : List (Blank A)) (b : Blank A) → AreBlank bs → IsBlank b → new ≡ bs ++ b ∷ [] → AreBlank new
blank_more bs new b h blank is =
    subst (All IsBlank) (sym is) (All-append IsBlank bs (b ∷ []) h (All-cons IsBlank b [] blank (λ k d l. absurd (omega (arith, l)))))

pub length_more : {X : Type 0} (xs new : List X) (x : X) (n : ℕ) → length xs ≡ n → new ≡ xs ++ x ∷ [] → length new ≡ n + 1
length_more xs new x n len is = omega (arith, ap length is, length-append xs (x ∷ []), len)

pub held_at : {A B : Type 0} (v : Vec B A) (i : ℕ) → i < length v.items → i < vec_len v
held_at v i l = subst (λ n. i < n) (sym v.ok.0) l

module _ {A : Type 0} where
  pub head_there : (kids : List (NodeValue A)) (i : ℕ) (kid : NodeValue A) → i < length kids → kid ≡ get_or kids i kid → HeadAt kid.first (drop i kids)
  head_there kids i kid l read = subst (HeadAt kid.first) (sym (drop-cons kids i kid l)) (ap (λ (v : NodeValue A). v.first) (sym read))

  starts_more : (first : ℕ) (ps qs : List (PageValue A)) → StartsAt first ps → StartsAt first (ps ++ qs)
  starts_more first [] qs h = absurd h
  starts_more first (p ∷ ps) qs h = h

  pub chains_length : (width below : ℕ) (kids : List (NodeValue A)) → All (IsKid below) kids → length (chains_over width kids) ≡ length (pages_of kids)
  chains_length width below [] each = refl
  chains_length width below (v ∷ vs) each =
      let b = length-map v.chains (splits_with width v.height) in
      let c = (All-head (IsKid below) v vs each).starts.1 in
      let d = chains_length width below vs (All-tail (IsKid below) v vs each) in
      omega (arith, length-append (map (splits_with width v.height) v.chains) (chains_over width vs), b, c, d, length-append v.pages (pages_of vs))

  kids_begin : (below first : ℕ) (kids : List (NodeValue A)) → All (IsKid below) kids → HeadAt first kids → StartsAt first (pages_of kids)
  kids_begin below first [] each h = absurd h
  kids_begin below first (v ∷ vs) each h = subst (λ n. StartsAt n (v.pages ++ pages_of vs)) h (starts_more v.first v.pages (pages_of vs) (All-head (IsKid below) v vs each).starts.0)

  pub kids_start : (below first : ℕ) (kids : List (NodeValue A)) → All (IsKid below) kids → HeadAt first kids → Starts first (pages_of kids) (chains_of kids)
  kids_start below first kids each h = (kids_begin below first kids each h, chains_length (length kids) below kids each)

  pages_filled : (below : ℕ) (kids : List (NodeValue A)) → All (IsKid below) kids → All IsFilled (pages_of kids)
  pages_filled below [] each = λ k d l. absurd (omega (arith, l))
  pages_filled below (v ∷ vs) each = All-append IsFilled v.pages (pages_of vs) (All-head (IsKid below) v vs each).filled.keys (pages_filled below vs (All-tail (IsKid below) v vs each))

  nodes_wide : (below : ℕ) (kids : List (NodeValue A)) → All (IsKid below) kids → All IsWide (widths_of kids)
  nodes_wide below [] each = λ k d l. absurd (omega (arith, l))
  nodes_wide below (v ∷ vs) each =
      let kid = All-head (IsKid below) v vs each in
      All-append IsWide (v.width ∷ v.widths) (widths_of vs)
      (All-cons IsWide v.width v.widths (record { not_less = kid.not_less; not_more = kid.not_more }) kid.filled.nodes)
      (nodes_wide below vs (All-tail (IsKid below) v vs each))

  pub kids_wide : (below : ℕ) (kids : List (NodeValue A)) → All (IsKid below) kids → AreWide (pages_of kids) (widths_of kids)
  kids_wide below kids each = record { keys = pages_filled below kids each; nodes = nodes_wide below kids each }

  pub last_kid : (below : ℕ) (kids front : List (NodeValue A)) (v : NodeValue A) → All (IsKid below) kids → kids ≡ front ++ v ∷ [] → IsKid below v
  last_kid below kids front v each is = All-head (IsKid below) v [] (all_right (IsKid below) front (v ∷ []) (subst (All (IsKid below)) is each))
