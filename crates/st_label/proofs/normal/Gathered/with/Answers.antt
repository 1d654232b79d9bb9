use Rattle.std.proofs.Common.{◌≡◌, ◌≢◌, Some, None, true, false, string_bytes, get_or, map, arith, refl, sym, ap, ◌∙◌}
use Rattle.std.proofs.lemmas.Slice.Eq.{bytes_eq-Decides}
use Rattle.st_label.specs.Normal.{operand_text}
use Rattle.st_label.specs.inner.Views.{tree_view}
use Rattle.st_label.proofs.Gather.{PlaceOf, place_is, place_inside, printed_place, more_at_end, more_at_place, more_at_same}
use Rattle.st_label.proofs.normal.Gathered.with.Goals as goal

pub returns-in_ok-push-in-None-2 : goal.returns-in_ok-push-in-None-2
returns-in_ok-push-in-None-2 g c =
    let text : string_bytes c.in_ok-text.text ≡ operand_text (tree_view c.args.tree) = c.in_ok-text.ensures in
    let place : PlaceOf c.args.self.texts.items (operand_text (tree_view c.args.tree)) None =
    place_is c.args.self.texts.items _ _ _ _ c.in-None.is c.place_of.ensures (c.as_str.ensures.value ∙ text) in
    ap (map tree_view) c.in_ok-push-in-None-2.ensures.items ∙ more_at_end c.args.self.texts.items c.args.self.trees.items c.args.tree c.args.self.printed place

pub returns-then-eq : goal.returns-then-eq
returns-then-eq g c =
    let text : string_bytes c.in_ok-text.text ≡ operand_text (tree_view c.args.tree) = c.in_ok-text.ensures in
    let place : PlaceOf c.args.self.texts.items (operand_text (tree_view c.args.tree)) (Some c.in-Some.place) =
    place_is c.args.self.texts.items _ _ _ _ c.in-Some.is c.place_of.ensures (c.as_str.ensures.value ∙ text) in
    let same : string_bytes (get_or c.args.self.texts.items c.in-Some.place c.index.result.now) ≡ operand_text (tree_view c.args.tree) =
    ap string_bytes (sym c.index.ensures) ∙ sym c.as_str-in-Some.ensures.value
    ∙ (bytes_eq-Decides c.as_str-in-Some.result.now c.as_str-in-Some-2.result.now).0 (sym c.eq.ensures ∙ c.if-eq.true)
    ∙ c.as_str-in-Some-2.ensures.value ∙ text in
    more_at_same c.args.self.texts.items c.args.self.trees.items c.args.tree c.in-Some.place c.index.result.now c.args.self.printed place same

pub insert-requires-in-Some : goal.insert-requires-in-Some
insert-requires-in-Some g c =
    let inside = place_inside c.args.self.texts.items c.args.self.trees.items c.as_str.result.now c.in-Some.place c.args.self.printed
    (place_is c.args.self.texts.items _ _ _ _ c.in-Some.is c.place_of.ensures refl) in
    omega (arith, c.args.self.trees.ok.0)

pub invariant_of-result-in-Some : goal.invariant_of-result-in-Some
invariant_of-result-in-Some g c =
    let text : string_bytes c.in_ok-text.text ≡ operand_text (tree_view c.args.tree) = c.in_ok-text.ensures in
    record {
      printed = rw (c.in_ok-insert-in-Some.ensures.items, c.in_ok-insert-in-Some-2.ensures.items)
          (printed_place c.args.self.texts.items c.args.self.trees.items c.in_ok-text.text c.args.tree c.in-Some.place c.args.self.printed text);
    }

pub returns-in_ok-insert-in-Some-2 : goal.returns-in_ok-insert-in-Some-2
returns-in_ok-insert-in-Some-2 g c =
    let text : string_bytes c.in_ok-text.text ≡ operand_text (tree_view c.args.tree) = c.in_ok-text.ensures in
    let place : PlaceOf c.args.self.texts.items (operand_text (tree_view c.args.tree)) (Some c.in-Some.place) =
    place_is c.args.self.texts.items _ _ _ _ c.in-Some.is c.place_of.ensures (c.as_str.ensures.value ∙ text) in
    let other : string_bytes (get_or c.args.self.texts.items c.in-Some.place c.index.result.now) ≢ operand_text (tree_view c.args.tree) =
    (λ e.
    let bytes : c.as_str-in-Some.result.now ≡ c.as_str-in-Some-2.result.now = c.as_str-in-Some.ensures.value ∙ ap string_bytes c.index.ensures ∙ e ∙ sym text ∙ sym c.as_str-in-Some-2.ensures.value in
    let both : true ≡ false = sym ((bytes_eq-Decides c.as_str-in-Some.result.now c.as_str-in-Some-2.result.now).1 bytes) ∙ sym c.eq.ensures ∙ c.if-eq.false in
    cc) in
    ap (map tree_view) c.in_ok-insert-in-Some-2.ensures.items
    ∙ more_at_place c.args.self.texts.items c.args.self.trees.items c.args.tree c.in-Some.place c.index.result.now c.args.self.printed place other
