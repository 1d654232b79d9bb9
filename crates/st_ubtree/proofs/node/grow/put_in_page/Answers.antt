use Rattle.std.proofs.Common.{◌≡◌, ◌<◌, length, drop, take, subst, sym, ap, ◌∙◌, vec_len, arith, Some}
use Rattle.std.proofs.lemmas.List.{length-drop}
use Rattle.st_key.specs.Key.{rank}
use Rattle.st_tally.specs.inner.Pages.{page_node}
use Rattle.st_ubtree.specs.inner.Growing.{IsBlankPage, PageGrows}
use Rattle.st_ubtree.proofs.Splitting.{held_full, page_cut, page_grows}
use Rattle.st_ubtree.proofs.Needing.{page_filled, page_overfull}
use Rattle.st_ubtree.proofs.node.grow.put_in_page.Given.{Over}
use Rattle.st_ubtree.proofs.node.grow.put_in_page.Goals.{Else-len-le32}
use Rattle.st_ubtree.proofs.node.grow.put_in_page.Goals as goal

more : (g : Over) (c : Else-len-le32 g) → 32 < vec_len c.put.new.entries
more g c = subst (λ n. 32 < n) c.len.ensures c.if-len-le32.false

full : (g : Over) (c : Else-len-le32 g) → length c.put.new.entries.items ≡ 33
full g c = held_full c.args.entries.now c.put.new.entries c.requires.not_more c.put.ensures.at_most_one (more g c)

-- there is a page to split to
blank : (g : Over) (c : Else-len-le32 g) → IsBlankPage c.args.page
blank g c =
    let o = c.requires.rising in
    c.requires.page (page_filled (rank c.args.key) c.args.entries.now c.put.new.entries c.requires.not_more c.put.ensures.at_most_one (more g c)
    ((rw (← c.requires.key) at c.put.ensures.new_key) o.0 o.1 o.2 o.3))

pub returns-then-len-le32-clause-grows : goal.returns-then-len-le32-clause-grows
returns-then-len-le32-clause-grows g c =
    let new = c.put.new.entries.ok.0 in (
      omega (arith, c.args.entries.now.ok.0, new, c.put.ensures.longer),
      omega (arith, new, c.len.ensures, c.if-len-le32.true),
      page_grows (rank c.args.key) c.args.row c.args.entries.now.items c.put.new.entries.items c.put.ensures.added (rw (← c.requires.key) at c.put.ensures.rising),
    )

pub page-requires-clause-not_more : goal.page-requires-clause-not_more
page-requires-clause-not_more g c =
    let upper = ap length c.split_at-upper.ensures.moved ∙ length-drop 16 c.put.new.entries.items in
    omega (arith, c.args.entries.now.ok.0, c.put.new.entries.ok.0, c.put.ensures.at_most_one, upper, c.requires.not_more)

pub put-requires-clause-rows_room : goal.put-requires-clause-rows_room
put-requires-clause-rows_room g c = rw c.requires.key at c.requires.rows.enough

pub returns-clause-grows : goal.returns-clause-grows
returns-clause-grows g c =
    let old = c.args.entries.now.items in
    let new = c.put.new.entries.items in
    let e = c.index-least.result.now in
    let at : rank c.key-first.result ≡ e.at = c.key-first.ensures in
    let is : c.page.result ≡ page_node e.at 0 (drop 16 new) = c.page.ensures ∙ ap (λ n. page_node n 0 c.split_at-upper.result.items) at ∙ ap (page_node e.at 0) c.split_at-upper.ensures.moved in
    let cut = page_cut (rank c.args.key) c.args.row old new c.put.ensures.added (rw (← c.requires.key) at c.put.ensures.rising) e
    (full g (goal.at.returns-clause-grows g c).Else-len-le32) c.index-least.ensures in
    subst (λ es. PageGrows (rank c.args.key) c.args.row old es (Some c.page.result)) (sym c.split_at-upper.ensures.kept)
    (subst (λ v. PageGrows (rank c.args.key) c.args.row old (take 16 new) (Some v)) (sym is) cut)

pub unreachable-requires : goal.unreachable-requires
unreachable-requires g c = subst (λ p. IsBlankPage p) c.in_default.is (blank g (goal.at.unreachable-requires g c).Else-len-le32)

pub split_at-upper-requires-clause-empty : goal.split_at-upper-requires-clause-empty
split_at-upper-requires-clause-empty g c =
    (subst (λ p. IsBlankPage p) c.in-Some.is (blank g (goal.at.split_at-upper-requires-clause-empty g c).Else-len-le32)).0

pub split_at-upper-requires-clause-room : goal.split_at-upper-requires-clause-room
split_at-upper-requires-clause-room g c =
    let after = (goal.at.split_at-upper-requires-clause-room g c).Else-len-le32 in
    omega (arith, c.put.new.entries.ok.0, full g after, (subst (λ p. IsBlankPage p) c.in-Some.is (blank g after)).1)

pub page-requires-clause-room : goal.page-requires-clause-room
page-requires-clause-room g c =
    let room = (subst (λ p. IsBlankPage p) c.in-Some.is (blank g (goal.at.page-requires-clause-room g c).Else-len-le32)).1 in
    omega (arith, room, c.split_at-upper.ensures.to_capacity)

pub returns-clause-split : goal.returns-clause-split
returns-clause-split g c =
    let o = c.requires.rising in
    page_overfull (rank c.args.key) c.args.entries.now c.put.new.entries c.requires.not_more c.put.ensures.at_most_one
    (more g (goal.at.returns-clause-split g c).Else-len-le32) ((rw (← c.requires.key) at c.put.ensures.new_key) o.0 o.1 o.2 o.3)
