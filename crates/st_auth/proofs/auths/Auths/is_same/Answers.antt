use Rattle.std.proofs.Common.{◌≡◌, sym, ◌∙◌, arith}
use Rattle.st_text.specs.Texts.{same}
use Rattle.st_text.proofs.Same.{same-eq}
use Rattle.st_auth.proofs.Search.{one_more_same, not_false}
use Rattle.st_auth.proofs.auths.Auths.is_same.Goals as goal

pub loop-place-preserved : goal.loop-place-preserved
loop-place-preserved g c =
    let equal : c.as_str.result.now ≡ c.as_str-in-loop-place.result.now =
    same-eq c.as_str.result.now c.as_str-in-loop-place.result.now
    (not_false (same c.as_str.result.now c.as_str-in-loop-place.result.now) (sym c.ne.ensures ∙ c.if-ne.false)) in
    one_more_same c.self.inside.names.items c.other.inside.names.items c.loop-place.place c.index.result.now c.index-in-loop-place.result.now
    (omega (arith, c.loop-place-test.true, c.len-place-end.ensures, c.self.inside.names.ok.0))
    (omega (
      arith,
      c.loop-place-test.true,
      c.len-place-end.ensures,
      c.if-len.false,
      c.len.ensures,
      c.len-2.ensures,
      c.self.inside.names.ok.0,
      c.other.inside.names.ok.0,
    ))
    c.index.ensures c.index-in-loop-place.ensures (sym c.as_str.ensures ∙ equal ∙ c.as_str-in-loop-place.ensures) c.loop-place.invariant
