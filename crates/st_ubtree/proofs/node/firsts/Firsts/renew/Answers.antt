use Rattle.std.proofs.Common.{◌≡◌, ◌<◌, ◌∷◌, ◌++◌, [], length, map, take, sym, ap, ◌∙◌, arith}
use Rattle.std.proofs.lemmas.List.{length-map, length-take-le, map-append, map_more, take_all}
use Rattle.st_tally.specs.inner.Pages.{NodeValue}
use Rattle.st_ubtree.specs.declared.node.firsts.First.{First}
use Rattle.st_ubtree.proofs.Firsts.{number}
use Rattle.st_ubtree.proofs.node.firsts.Firsts.renew.Goals as goal

pub loop-kid-init : goal.loop-kid-init
loop-kid-init g c = ap (map number) c.clear.ensures

pub push-requires : goal.push-requires
push-requires g c =
    let keys = c.loop-kid.self.keys.items in
    let i = c.loop-kid.kid-index in
    let kids = c.args.kids.now in
    let below : i < length kids = omega arith in
    let as_many : length keys ≡ length (take i kids) = sym (length-map keys number) ∙ ap length c.loop-kid.invariant ∙ length-map (take i kids) (λ (v : NodeValue g.row.A.Denot). v.first) in
    let taken : length (take i kids) ≡ i = length-take-le i kids (omega (arith, below)) in
    omega (arith, as_many, taken, c.requires, below)

pub loop-kid-preserved : goal.loop-kid-preserved
loop-kid-preserved g c =
    let i = c.loop-kid.kid-index in
    let kids = c.args.kids.now in
    let below : i < length kids = omega arith in
    let first = λ (v : NodeValue g.row.A.Denot). v.first in
    let key : First = record { key = c.kid.inside.first } in
    let here : number key ≡ c.kid-item.result.first = ap first c.kid.view_is in
    ap (map number) c.push.ensures.items
    ∙ map-append number c.loop-kid.self.keys.items (key ∷ [])
    ∙ ap (λ ns. ns ++ number key ∷ []) c.loop-kid.invariant
    ∙ ap (λ n. map first (take i kids) ++ n ∷ []) (here ∙ ap first c.kid-item.is)
    ∙ sym (map_more first kids i c.kid-item.result below)

pub returns : goal.returns
returns g c = c.loop-kid.invariant ∙ ap (map (λ (v : NodeValue g.row.A.Denot). v.first)) (take_all c.loop-kid.kid-index c.args.kids.now c.loop-kid-test.false)
