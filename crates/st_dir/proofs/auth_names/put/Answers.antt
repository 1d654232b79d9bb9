use Rattle.std.proofs.Common.{◌≡◌, true, false, ◌∷◌, ap, sym, ◌∙◌, if◌then◌else◌}
use Rattle.st_text.specs.Texts.{is_among, in_order}
use Rattle.st_sorted.specs.Sorted.{name_key}
use Rattle.st_sorted.specs.inner.Places.{IsPlace}
use Rattle.st_sorted.proofs.Sorted.{put_in}
use Rattle.st_dir.proofs.auth_names.put.Goals as goal

pub returns-then-has : goal.returns-then-has
returns-then-has g c =
    let items = c.args.names.now.items in
    let there : is_among items c.args.name ≡ true = sym (rw c.as_str.ensures at (rw c.deref.ensures.value at c.has.ensures)) ∙ c.if-has.true in
    record { ok = sym (ap (λ b. if b then items else in_order name_key (c.args.name ∷ items)) there) }

pub returns : goal.returns
returns g c =
    let items = c.args.names.now.items in
    let free : is_among items c.args.name ≡ false = sym (rw c.as_str.ensures at (rw c.deref.ensures.value at c.has.ensures)) ∙ c.if-has.false in
    let placed : IsPlace name_key (name_key c.args.name) items c.place_of-place.result = rw c.as_str.ensures at (rw c.deref-2.ensures.value at c.place_of-place.ensures.place) in
    record {
      ok =
          c.in-Ok.ensures.items
          ∙ put_in name_key c.args.name items c.place_of-place.result c.requires placed
          ∙ sym (ap (λ b. if b then items else in_order name_key (c.args.name ∷ items)) free);
    }
