use Rattle.std.proofs.Common.{◌≡◌, true, false, sym, ◌∙◌, subst}
use Rattle.st_box.specs.inner.KeyTest.{IsPlaceIn, IsTimeIn}
use Rattle.st_box.proofs.KeyTests.{keyed}
use Rattle.st_box.proofs.key_test.KeyTest.has_key.Goals as goal

pub returns-then-has_place : goal.returns-then-has_place
returns-then-has_place c =
    let q = c.args.self.now.query in
    let w = c.args.self.now.period in
    let k = c.args.key in
    let same = keyed q w k in
    let place : IsPlaceIn q k.address = subst (IsPlaceIn q) c.address.ensures.value (c.has_place.ensures.0 c.if-has_place.true) in (
      λ held.
          same.0 (place, subst (λ b. IsTimeIn q w b k.address) c.bin.ensures.value (subst (λ a. IsTimeIn q w c.bin.result a) c.address-then-has_place.ensures.value (c.has_time.ensures.0 held))),
      λ there.
          c.has_time.ensures.1 (subst (λ b. IsTimeIn q w b c.address-then-has_place.result) (sym c.bin.ensures.value)
          (subst (λ a. IsTimeIn q w k.bin a) (sym c.address-then-has_place.ensures.value) (same.1 there).1)),
    )

pub returns-else-has_place : goal.returns-else-has_place
returns-else-has_place c =
    let q = c.args.self.now.query in
    let same = keyed q c.args.self.now.period c.args.key in (
      λ held. absurd (let clash : false ≡ true = sym c.if-has_place.false ∙ held in cc),
      λ there. c.has_place.ensures.1 (subst (IsPlaceIn q) (sym c.address.ensures.value) (same.1 there).0),
    )
