use Rattle.std.proofs.Common.{◌≡◌, sym, ap, ◌∙◌, Some, slice_get, length, ◌-◌, arith}
use Rattle.std.specs.Option.{option_copied}
use Rattle.std.proofs.lemmas.Option.{get_or_from_slice_get}
use Rattle.st_text.specs.Texts.{comes_before}
use Rattle.st_sorted.proofs.Sorted.{place_at_end}
use Rattle.st_sorted.proofs.list.goes_last.Goals as goal

pub returns-in-Some : goal.returns-in-Some
returns-in-Some g c = λ e.
    let key = g.W.Wanted.item_key in
    let wanted = g.W.Wanted.key c.args.wanted.now in
    let items = c.args.items.now in
    let greatest = c.in-Some.last.now in
    place_at_end key wanted items c.requires (λ k d last.
    let here : k ≡ length items - 1 = omega (last, arith) in
    let there : slice_get items k ≡ Some greatest = ap (slice_get items) here ∙ sym c.last.ensures.value ∙ ap option_copied c.in-Some.is in
    ap (λ x. comes_before (key x) wanted) (get_or_from_slice_get items k greatest d there) ∙ sym c.is_after.ensures ∙ e)
