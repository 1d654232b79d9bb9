-- How many keys the pages of a node hold, and counts in fields.
use Rattle.std.proofs.Common.{◌≡◌, ℕ, ◌+◌, ◌≤◌, List, [], Bool, IsTrue, cond, nat_eq, get_or, length, refl, sym, ap, subst, ◌∙◌, arith}
use Rattle.std.proofs.lemmas.List.Elements.{All-cons, All-weaker}
use Rattle.std.specs.List.{All}
use Rattle.st_key.specs.declared.point.Point.{Point}
use Rattle.st_box.specs.declared.query.Query.{Query}
use Rattle.st_box.specs.Query.{is_inside}
use Rattle.st_text.specs.Texts.{Text}
use Rattle.st_index.specs.declared.row.Row.{Row}
use Rattle.st_index.specs.inner.Counting.{count_of}
use Rattle.st_index.specs.inner.Fields.{Counts}
use Rattle.st_index.proofs.Tallying.{counts_in_one, counts_none}
use Rattle.st_tally.proofs.Fielding.{all_in_one}
use Rattle.st_ubtree.specs.declared.node.Kids.{Kids}
use Rattle.st_ubtree.specs.declared.node.Kids.TheVariants.{Page, Inner}
use Rattle.st_ubtree.specs.inner.Nodes.{IsNode, pages_under, width_of, widths_under}
use Rattle.st_tally.specs.inner.Pages.{PageValue, IsFilled, IsWide}
use Rattle.st_ubtree.specs.inner.Kids.{pages_of}
use Rattle.st_tally.specs.inner.Pages.{AreFilled}
use Rattle.st_ubtree.proofs.Halving.{kids_wide}
use Rattle.st_ubtree.proofs.Splitting.{page}

pub node_filled : {A : Type 0} (first height : ℕ) (kids : Kids A) → IsNode first height kids → AreFilled (pages_under first kids)
node_filled {A} first height (Page entries) h = record {
  not_more = All-cons (λ (p : PageValue A). length p.entries ≤ 32) (page first entries.items) [] h.not_more (λ k d l. absurd (omega (arith, l)));
  not_less = λ two. absurd (omega (arith, two));
}
node_filled {A} first height (Inner kids aside) h =
    let filled = (kids_wide h.below kids.items h.each).keys in
    record {
      not_more = All-weaker IsFilled (λ (p : PageValue A). length p.entries ≤ 32) (λ p f. f.not_more) (pages_of kids.items) filled;
      not_less = λ two. filled;
    }

pub node_fits : {A : Type 0} (first height : ℕ) (kids : Kids A) → IsNode first height kids → width_of kids ≤ 32
node_fits first height (Page entries) h = h.not_more
node_fits first height (Inner kids aside) h = h.not_more

-- a node at the bottom is a page
pub lowest_page : {A : Type 0} (first height : ℕ) (kids : Kids A) → IsNode first height kids → height ≡ 0 → ((entries : _) → kids ≡ Page entries → ⊥) → ⊥
lowest_page first height (Page entries) h low none = none entries refl
lowest_page first height (Inner kids aside) h low none = omega (arith, h.higher, low)

pub node_wide : {A : Type 0} (first height : ℕ) (kids : Kids A) → IsNode first height kids → All IsWide (widths_under kids)
node_wide first height (Page entries) h = λ k d l. absurd (omega (arith, l))
node_wide first height (Inner kids aside) h = (kids_wide h.below kids.items h.each).nodes

-- in fields, by a query of another name, of rows that are seen otherwise
module _ {A : Type 0} (q other : Query) (judges : Text → Bool) (field_of : Point → ℕ) (rows under : List (Row A)) (old : List ℕ) (same : other ≡ q) (seen : rows ≡ under) where
  -- where none are counted
  pub fields_none : count_of other judges under ≡ 0 → Counts q judges field_of rows old old
  fields_none none =
      counts_none q judges field_of rows old (subst (λ k. count_of k judges rows ≡ 0) same (ap (count_of other judges) seen ∙ none))

  -- where all are in one field
  pub fields_one : (one n : ℕ) (new : List ℕ) → All (λ (row : Row A). IsTrue (is_inside q row.point) → field_of row.point ≡ one) under
      → n ≡ count_of other judges rows → ((at : ℕ) → get_or new at 0 ≡ get_or old at 0 + cond (nat_eq one at) n 0) → Counts q judges field_of rows old new
  fields_one one n new all is added =
      let P = λ (row : Row A). IsTrue (is_inside q row.point) → field_of row.point ≡ one in
      counts_in_one q judges field_of rows one old new (all_in_one q field_of rows judges one (subst (All P) (sym seen) all))
      (subst (λ k. (at : ℕ) → get_or new at 0 ≡ get_or old at 0 + cond (nat_eq one at) k 0) (is ∙ ap (λ k. count_of k judges rows) same) added)
