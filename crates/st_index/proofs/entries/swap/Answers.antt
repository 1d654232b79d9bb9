use Rattle.std.proofs.Common.{◌≡◌, refl, set, subst, sym, ap, ◌∙◌}
use Rattle.std.proofs.lemmas.List.{set-get_or}
use Rattle.st_index.specs.inner.Entries.{name_of, rank_of, EntryValue, EntriesRise, rows_of}
use Rattle.st_index.specs.inner.Index.{IsAbsent}
use Rattle.st_index.proofs.Names.{nat_equal}
use Rattle.st_index.proofs.Taking.{missing_absent, absent_around, swapped_inside, swapped_placed, swapped_entry, changed_rising, around}
use Rattle.st_index.proofs.entries.swap.Goals as goal

pub returns-in-Ok-swap-clause-ok : goal.returns-in-Ok-swap-clause-ok
returns-in-Ok-swap-clause-ok g c =
    let bound = rw c.deref.ensures.value at c.in-Ok.ensures.bound in
    let e = c.index_mut-entry.result.now in
    (swapped_inside c.args.entries.now.items c.in-Ok.i e c.swap.new.self bound c.index_mut-entry.ensures.value c.in-Ok-swap.out c.args.row c.in-Ok-swap.ensures.ok.0, c.in-Ok-swap.ensures.ok.1)

pub returns-in-Ok-swap-clause-placed : goal.returns-in-Ok-swap-clause-placed
returns-in-Ok-swap-clause-placed g c = λ p lo hi h.
    let bound = rw c.deref.ensures.value at c.in-Ok.ensures.bound in
    let e = c.index_mut-entry.result.now in
    let same = rw c.deref.ensures.value at (c.in-Ok.ensures.place e) in
    let at : e.at ≡ rank_of c.args.period c.args.row = ap (λ (f : EntryValue g.row.A.Denot). f.at) c.index_mut-entry.ensures.value ∙ nat_equal _ _ same ∙ c.key-key.ensures.value in
    let a = around p c.args.entries.now.items c.in-Ok.i e e bound c.index_mut-entry.ensures.value lo hi h in
    swapped_placed p e c.swap.new.self.rows c.in-Ok-swap.out c.args.row c.in-Ok-swap.ensures.ok.0 a.entry ∙ at

pub returns-in-Ok-swap-clause-rising : goal.returns-in-Ok-swap-clause-rising
returns-in-Ok-swap-clause-rising g c = λ p lo hi key h.
    let bound = rw c.deref.ensures.value at c.in-Ok.ensures.bound in
    let e = c.index_mut-entry.result.now in
    let same = rw c.deref.ensures.value at (c.in-Ok.ensures.place e) in
    let at : e.at ≡ rank_of c.args.period c.args.row = ap (λ (f : EntryValue g.row.A.Denot). f.at) c.index_mut-entry.ensures.value ∙ nat_equal _ _ same ∙ c.key-key.ensures.value in
    changed_rising p c.args.entries.now.items c.in-Ok.i e c.swap.new.self bound c.index_mut-entry.ensures.value lo hi c.in-Ok-swap.ensures.at
    (swapped_entry p e c.swap.new.self c.in-Ok-swap.out c.args.row c.in-Ok-swap.ensures.ok.0 c.in-Ok-swap.ensures.at (sym (at ∙ key)) c.in-Ok-swap.ensures.named) h

pub returns-in-Err-swap-clause-absent : goal.returns-in-Err-swap-clause-absent
returns-in-Err-swap-clause-absent g c = λ p lo hi h.
    let bound = rw c.deref.ensures.value at c.in-Ok.ensures.bound in
    let e = c.index_mut-entry.result.now in
    let same = rw c.deref.ensures.value at (c.in-Ok.ensures.place e) in
    let at : e.at ≡ rank_of c.args.period c.args.row = ap (λ (f : EntryValue g.row.A.Denot). f.at) c.index_mut-entry.ensures.value ∙ nat_equal _ _ same ∙ c.key-key.ensures.value in
    let a = around p c.args.entries.now.items c.in-Ok.i e e bound c.index_mut-entry.ensures.value lo hi h in
    subst (λ n. IsAbsent p n (name_of c.args.row) (rows_of c.args.entries.now.items)) at
    (absent_around p c.args.entries.now.items c.in-Ok.i e e bound c.index_mut-entry.ensures.value lo hi _ h (c.in-Err-swap.ensures.absent a.entry.named))

pub returns-in-Err-clause-absent : goal.returns-in-Err-clause-absent
returns-in-Err-clause-absent g c = λ p lo hi h.
    missing_absent p _ _ c.args.entries.now.items c.in-Err.field-0 lo hi h (rw (c.deref.ensures.value, c.key-key.ensures.value) at c.in-Err.ensures.place)

pub returns-in-Err-swap-clause-rising : goal.returns-in-Err-swap-clause-rising
returns-in-Err-swap-clause-rising g c = λ p lo hi key h.
    let es = c.args.entries.now.items in
    let same : set es c.in-Ok.i c.swap.new.self ≡ es =
    ap (λ e. set es c.in-Ok.i e) (c.in-Err-swap.ensures.err ∙ c.index_mut-entry.ensures.value) ∙ set-get_or es c.in-Ok.i c.index_mut-entry.result.now in
    subst (λ es. EntriesRise p lo hi es) (sym same) h

pub returns-in-Err-clause-rising : goal.returns-in-Err-clause-rising
returns-in-Err-clause-rising g c = λ p lo hi key h. h

pub returns-in-Err-swap-clause-err : goal.returns-in-Err-swap-clause-err
returns-in-Err-swap-clause-err g c =
    let es = c.args.entries.now.items in
    ap (λ e. set es c.in-Ok.i e) (c.in-Err-swap.ensures.err ∙ c.index_mut-entry.ensures.value) ∙ set-get_or es c.in-Ok.i c.index_mut-entry.result.now

pub returns-in-Ok-swap-clause-change : goal.returns-in-Ok-swap-clause-change
returns-in-Ok-swap-clause-change g c = (rw c.deref.ensures.value at c.in-Ok.ensures.bound, c.swap.new.self, refl)

pub swap-requires : goal.swap-requires
swap-requires g c =
    let same = rw c.deref.ensures.value at (c.in-Ok.ensures.place c.index_mut-entry.result.now) in
    ap (λ (f : EntryValue g.row.A.Denot). f.at) c.index_mut-entry.ensures.value ∙ nat_equal _ _ same ∙ c.key-key.ensures.value
