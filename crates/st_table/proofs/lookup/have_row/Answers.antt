use Rattle.std.proofs.Common.{◌≡◌, ap, subst, ◌∙◌}
use Rattle.st_key.specs.Key.{rank}
use Rattle.st_index.specs.inner.Index.{IsAbsent}
use Rattle.st_index.specs.declared.row.Row.{Row}
use Rattle.st_index.specs.inner.Entries.{Name, name_of, EntryValue, rank_of, rows_of}
use Rattle.st_index.proofs.Names.{nat_equal}
use Rattle.st_index.proofs.Taking.{absent_around, around, missing_absent}
use Rattle.st_table.proofs.Finding.{all_in}
use Rattle.st_table.proofs.lookup.have_row.Goals as goal

pub returns-in_default-clause-absent : goal.returns-in_default-clause-absent
returns-in_default-clause-absent g c = λ _ period lo hi h.
    missing_absent period _ _ c.args.held.now c.in_default.field-0 lo hi h c.in_default.ensures.place

pub returns-clause-held : goal.returns-clause-held
returns-clause-held g c = λ is period lo hi h absent.
    let name : Name = record { id = c.args.id.now; label = c.args.label.now } in
    let e = c.index-held-at.result in
    let at : e.at ≡ rank c.args.key = ap (λ (f : EntryValue g.row.A.Denot). f.at) c.index-held-at.is ∙ nat_equal _ _ (c.in-Ok.ensures.place e) in
    let a = around period c.args.held.now c.in-Ok.at e e c.in-Ok.ensures.bound c.index-held-at.is lo hi h in
    let gone = all_in (λ (r : Row g.row.A.Denot). rank_of period r ≡ rank c.args.key → name_of r ≡ name → ⊥) c.args.held.now c.in-Ok.at e c.in-Ok.ensures.bound c.index-held-at.is absent in
    c.has.ensures.held is (λ j d l. gone j d l (a.entry.placed j d l ∙ at))

pub returns-clause-absent : goal.returns-clause-absent
returns-clause-absent g c = λ is period lo hi h.
    let name : Name = record { id = c.args.id.now; label = c.args.label.now } in
    let e = c.index-held-at.result in
    let at : e.at ≡ rank c.args.key = ap (λ (f : EntryValue g.row.A.Denot). f.at) c.index-held-at.is ∙ nat_equal _ _ (c.in-Ok.ensures.place e) in
    let a = around period c.args.held.now c.in-Ok.at e e c.in-Ok.ensures.bound c.index-held-at.is lo hi h in
    subst (λ n. IsAbsent period n name (rows_of c.args.held.now)) at
    (absent_around period c.args.held.now c.in-Ok.at e e c.in-Ok.ensures.bound c.index-held-at.is lo hi _ h (c.has.ensures.absent is a.entry.named))
