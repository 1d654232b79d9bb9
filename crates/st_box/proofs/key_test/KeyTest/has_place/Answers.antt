use Rattle.std.proofs.Common.{◌≡◌, ◌/◌, true, false, sym, ◌∙◌, arith}
use Rattle.st_key.specs.Morton.{x_of, y_of}
use Rattle.st_key.proofs.MortonLemmas.{gather-lt}
use Rattle.st_box.proofs.KeyTests.{between}
use Rattle.st_box.proofs.key_test.KeyTest.has_place.Goals as goal

pub returns-then-is_between : goal.returns-then-is_between
returns-then-is_between c =
    let test = c.args.self.now in
    let q = test.query in
    let a = c.args.address in
    let x = between test.x_first test.x_last c.spread_in.result q.x0 q.x1 (x_of a) test.x_first_is test.x_last_is c.spread_in.ensures
    (omega (arith, q.x_ordered, q.x_in_range)) q.x_in_range (gather-lt 21 a) in
    let y = between test.y_first test.y_last c.spread_in-then-is_between.result q.y0 q.y1 (y_of a) test.y_first_is test.y_last_is
    c.spread_in-then-is_between.ensures (omega (arith, q.y_ordered, q.y_in_range)) q.y_in_range (gather-lt 21 (a / 2)) in
    let in_x = x.0 (c.is_between.ensures.0 c.if-is_between.true) in (
      λ held.
          let in_y = y.0 (c.is_between-then-is_between.ensures.0 held) in
          record { x_from = in_x.0; x_to = in_x.1; y_from = in_y.0; y_to = in_y.1 },
      λ there. c.is_between-then-is_between.ensures.1 (y.1 (there.y_from, there.y_to)),
    )

pub returns-else-is_between : goal.returns-else-is_between
returns-else-is_between c =
    let test = c.args.self.now in
    let q = test.query in
    let a = c.args.address in
    let x = between test.x_first test.x_last c.spread_in.result q.x0 q.x1 (x_of a) test.x_first_is test.x_last_is c.spread_in.ensures
    (omega (arith, q.x_ordered, q.x_in_range)) q.x_in_range (gather-lt 21 a) in (
      λ held. absurd (let clash : false ≡ true = sym c.if-is_between.false ∙ held in cc),
      λ there. c.is_between.ensures.1 (x.1 (there.x_from, there.x_to)),
    )
