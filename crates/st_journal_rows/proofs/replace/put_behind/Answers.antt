use Rattle.std.proofs.Common.{◌≡◌, inl, inr, Ok, ap, sym, subst, ◌∙◌, arith}
use Rattle.sqlite_trees.specs.View.{IsClean}
use Rattle.st_journal.proofs.Rising.{rises_after, rises_before}
use Rattle.st_journal_rows.specs.Table.{records_in}
use Rattle.st_journal_rows.specs.inner.Putting.{HasTable}
use Rattle.st_journal_rows.proofs.ViewLemmas.{still_sound}
use Rattle.st_journal_rows.proofs.CommitLemmas.{on_ok, on_both, on_err_both, ready_table, rolled_back}
use Rattle.st_journal_rows.proofs.RewriteLemmas.{replaced, put_ready, put_list, put_left, put_table}
use Rattle.st_journal_rows.proofs.replace.put_behind.Goals as goal

pub returns : goal.returns
returns g c =
    let s = g.S.Store in
    let count = c.args.count in
    let kept = c.args.kept in
    let more = c.args.records.now in
    let old = s.view c.args.store.now in
    let mid = s.view c.replace_all-written.new.store in
    let new = s.view c.finish.new.store in
    let quiet = c.replace_all-written.ensures.quiet in
    let mid_clean : IsClean new → IsClean mid = λ clean. omega (arith, clean, c.finish.ensures.clean) in
    let was : IsClean new → IsClean old = λ clean. omega (arith, clean, c.finish.ensures.clean, quiet.clean) in
    let ready = λ (clean : IsClean new). c.requires.ready (was clean) in
    let some = λ (clean : IsClean new). c.requires.some (was clean) in
    let has = λ (clean : IsClean new) (is : c.replace_all-written.result ≡ Ok tt). replaced old mid count kept more (ready clean)
    ((rw is at c.replace_all-written.ensures.replaced) (mid_clean clean)) in
    record {
      clean = omega (arith, c.finish.ensures.clean, quiet.clean);
      counts = omega (arith, c.finish.ensures.counts, quiet.counts);
      numbered = λ clean. c.finish.ensures.numbered clean ∙ (c.replace_all-written.ensures.kept (mid_clean clean)).numbered;
      ready = on_both c.finish.result (λ done commits clean. put_ready old mid new count kept more (ready clean) c.requires.fewer (some clean)
          (has clean done) (g.met.S.Store.broken_if_shut c.finish.new.store) (commits clean)) c.finish.ensures.done c.finish.ensures.ok;
      put = on_both c.finish.result (λ done commits clean. put_list old mid new count kept more (ready clean) c.requires.fewer (some clean)
          (has clean done) (commits clean)) c.finish.ensures.done c.finish.ensures.ok;
      goes_on = λ clean known. on_err_both c.finish.result (λ rolled open'. rolled_back old mid new count (ready clean)
          (c.replace_all-written.ensures.kept (mid_clean clean)) rolled clean open') c.finish.ensures.err (c.finish.ensures.not_kept clean known);
      not_kept = λ clean known. on_err_both c.finish.result (λ rolled open'.
          let last = rolled.kept clean in
          ap records_in (last.committed open' ∙ (c.replace_all-written.ensures.kept (mid_clean clean)).committed (last.was_open open')))
          c.finish.ensures.err (c.finish.ensures.not_kept clean known);
      refused = λ clean is. c.finish.ensures.refused clean is old _ quiet.counts (record {
        sound = (ready clean).rows.sound;
        went = on_ok c.replace_all-written.result (λ done. still_sound old mid (done (mid_clean clean)).frame ∙ (ready clean).rows.sound)
            c.replace_all-written.ensures.replaced;
        failed = c.replace_all-written.ensures.cause (mid_clean clean);
      });
      unknown = λ clean is. elim (quiet.closes (mid_clean clean) (ready clean).is_open) [
        | inl still ↦ rises_after _ _ _ quiet.counts (c.finish.ensures.unknown clean is still)
        | inr fault ↦ rises_before _ _ _ fault c.finish.ensures.counts
      ];
      table = λ clean db leaves. elim (c.finish.ensures.crash db leaves) [
        | inl it ↦ put_table old mid new count kept more (ready clean) c.requires.fewer (some clean) (has clean it.0) db it.2
        | inr same ↦ subst HasTable (sym (g.met.S.Store.settled c.args.store.now db (ready clean).is_open (quiet.outcomes db same)))
            (ready_table old count (ready clean))
      ];
      left = λ clean db leaves. elim (c.finish.ensures.crash db leaves) [
        | inl it ↦ inr (put_left old mid new count kept more (ready clean) c.requires.fewer (some clean) (has clean it.0) db it.2)
        | inr same ↦ inl (ap records_in (g.met.S.Store.settled c.args.store.now db (ready clean).is_open (quiet.outcomes db same)))
      ];
    }
