use Rattle.std.proofs.Common.{[], ◌≡◌, ◌-◌, ℕ, length, subst, sym, ap, ◌∙◌, arith, rules, vec_len}
use Rattle.std.proofs.lemmas.List.Elements.{All-append, All-nil}
use Rattle.st_key.specs.Key.{rank}
use Rattle.st_index.specs.inner.Entries.{EntryValue}
use Rattle.st_index.proofs.Climbing.{all_left}
use Rattle.st_ubtree.specs.inner.Growing.{AreAround, DoRise}
use Rattle.st_ubtree.specs.inner.Splits.{split_nodes, splits_with}
use Rattle.st_ubtree.proofs.Halving.{held_at}
use Rattle.st_ubtree.proofs.Needing.{kid_around, kid_none, kid_rows, kid_splits_by, page_around}
use Rattle.st_ubtree.proofs.Over.{IsKidFor, IsOver, IsPage, is_over, is_page, kid_for, kid_lower, kid_is, page_pages, page_splits}
use Rattle.st_ubtree.proofs.node.Node.+needs.Given.{Over}
use Rattle.st_ubtree.proofs.node.Node.+needs.Goals.{In-Page, After-deref-in-Inner, After-index-kid}
use Rattle.st_ubtree.proofs.node.Node.+needs.Goals as goal

one_page : (g : Over) (t : ℕ) (c : In-Page g t) → IsPage c.self.inside c.in-Page.entries c.args.self.now
one_page g t c = is_page c.self.inside c.in-Page.is c.self.invariant c.self.view_is

over : (g : Over) (t : ℕ) (c : After-deref-in-Inner g t) → IsOver c.self.inside c.in-Inner.kids c.deref-in-Inner.result.now c.args.self.now
over g t c = is_over c.self.inside c.in-Inner.is c.deref-in-Inner.ensures c.self.invariant c.self.view_is

chosen : (g : Over) (t : ℕ) (c : After-index-kid g t)
    → IsKidFor (rank c.args.key) c.self.inside c.in-Inner.kids c.deref-in-Inner.result.now c.args.self.now c.child_for-at.result c.index-kid.result.now
chosen g t c = kid_for (is_over c.self.inside c.in-Inner.is c.deref-in-Inner.ensures c.self.invariant c.self.view_is) c.child_for-at.ensures c.index-kid.ensures

pub needs-needs-requires : goal.needs-needs-requires
needs-needs-requires g t c κs within =
    let k = chosen g t (goal.at.needs-needs-requires g t c).After-index-kid in
    (search (rules, kid_lower k), (within, kid_around k c.requires))

pub count_node-requires : goal.count_node-requires
count_node-requires g t c = omega (arith, (over g t (goal.at.count_node-requires g t c).After-deref-in-Inner).good.higher)

pub returns-in-Page-clause-splits : goal.returns-in-Page-clause-splits
returns-in-Page-clause-splits g t c =
    page_splits (one_page g t (goal.at.returns-in-Page-clause-splits g t c).In-Page) (rank c.args.key) ∙ rw c.deref.ensures.value at c.page_needs.ensures.splits

pub returns-in-Page-clause-no_rows : goal.returns-in-Page-clause-no_rows
returns-in-Page-clause-no_rows g t c = λ none.
    let P : EntryValue g.row.A.Denot → Type 0 = λ e. e.at ≡ rank c.args.key → ⊥ in
    let pages = page_pages (one_page g t (goal.at.returns-in-Page-clause-no_rows g t c).In-Page) in
    c.page_needs.ensures.no_rows (rw c.deref.ensures.value (all_left P c.in-Page.entries.items [] (rw pages at none)))

pub returns-in-Inner-clause-rows : goal.returns-in-Inner-clause-rows
returns-in-Inner-clause-rows g t c =
    kid_rows (chosen g t (goal.at.returns-in-Inner-clause-rows g t c).After-index-kid) c.requires c.needs-needs.result.rows c.needs-needs.ensures.rows

pub returns-in-Inner-clause-no_rows : goal.returns-in-Inner-clause-no_rows
returns-in-Inner-clause-no_rows g t c = λ none.
    c.needs-needs.ensures.no_rows (kid_none (chosen g t (goal.at.returns-in-Inner-clause-no_rows g t c).After-index-kid) c.requires none)

pub returns-in-Inner-clause-splits : goal.returns-in-Inner-clause-splits
returns-in-Inner-clause-splits g t c =
    let k = chosen g t (goal.at.returns-in-Inner-clause-splits g t c).After-index-kid in
    let kid = c.index-kid.result.now in
    let len : length c.in-Inner.kids.items ≡ vec_len c.in-Inner.kids = sym c.in-Inner.kids.ok.0 in
    let inner = split_nodes c.needs-needs.result.inners in
    let below : kid.height ≡ c.self.inside.height - 1 = omega (arith, (kid_is k).same_height, k.over.good.higher) in
    kid_splits_by k c.requires ∙ ap (λ s. splits_with (length c.in-Inner.kids.items) kid.height s) c.needs-needs.ensures.splits
    ∙ ap (λ w. splits_with w kid.height inner) (len ∙ sym c.len.ensures) ∙ ap (λ h. splits_with c.len.result h inner) below ∙ sym c.count_node.ensures

pub returns-in-Page-clause-rows : goal.returns-in-Page-clause-rows
returns-in-Page-clause-rows g t c =
    let P : EntryValue g.row.A.Denot → Type 0 = λ e. e.at ≡ rank c.args.key → length e.rows ≡ c.page_needs.result.rows in
    let pages = page_pages (one_page g t (goal.at.returns-in-Page-clause-rows g t c).In-Page) in
    rw pages (All-append P c.in-Page.entries.items [] (rw c.deref.ensures.value at c.page_needs.ensures.rows) (All-nil P))

pub index-kid-requires : goal.index-kid-requires
index-kid-requires g t c =
    let o = over g t (goal.at.index-kid-requires g t c).After-deref-in-Inner in
    held_at c.in-Inner.kids c.child_for-at.result (c.child_for-at.ensures c.in-Inner.kids.items o.good.not_less o.firsts).within

pub page_needs-requires : goal.page_needs-requires
page_needs-requires g t c =
    let pages = page_pages (one_page g t (goal.at.page_needs-requires g t c).In-Page) in
    subst (λ es. DoRise es) (sym c.deref.ensures.value)
    (page_around (rank c.args.key) (rank c.self.inside.first) c.in-Page.entries.items (subst (AreAround (rank c.args.key)) pages c.requires))
