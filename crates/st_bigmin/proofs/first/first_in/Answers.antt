use Rattle.std.proofs.Common.{◌≡◌, ◌∙◌, ap}
use Rattle.st_box.specs.inner.Corners.{address_at}
use Rattle.st_box.specs.ZBox.{first_of}
use Rattle.st_box.proofs.Boxes.{first_inside, first_least}
use Rattle.st_box.proofs.KeyTests.{cut, cut_keys}
use Rattle.st_bigmin.proofs.FirstKeys as keys
use Rattle.st_bigmin.proofs.first.first_in.Goals as goal

pub at-requires-clause-address : goal.at-requires-clause-address
at-requires-clause-address c =
    let q = c.args.test.now.query in
    let w = c.args.test.now.period in
    let b = cut q w c.args.bin c.requires.from_first c.requires.to_last in
    let e : c.address.result ≡ address_at (first_of b) = c.address.ensures ∙ ap address_at c.corners_in-first.ensures.first in
    (first_inside b _ e).is_address

pub returns : goal.returns
returns c =
    let q = c.args.test.now.query in
    let w = c.args.test.now.period in
    let b = cut q w c.args.bin c.requires.from_first c.requires.to_last in
    let box = cut_keys q w c.args.bin c.requires.from_first c.requires.to_last in
    let e : c.at.result.address ≡ address_at (first_of b) = c.at.ensures.address ∙ c.address.ensures ∙ ap address_at c.corners_in-first.ensures.first in
    keys.first_in q w c.args.bin b c.at.result box c.at.ensures.bin (first_inside b _ e) (first_least b _ e)
