use Rattle.std.specs.Borrow.{Bor}
use Rattle.std.proofs.Common.{◌≡◌, Some, ap, map, option_map, string_bytes, ◌∙◌}
use Rattle.st_text.specs.Texts.{Text}
use Rattle.st_store_file.proofs.Short.{shortened_of}
use Rattle.st_store_file.proofs.asked.shorten_asked.Goals as goal

pub returns-clause-ok : goal.returns-clause-ok
returns-clause-ok g c = λ app words says.
    let asked = c.args.asked.now in
    let stored : option_map (λ (path : Bor Text). path.now) asked.store ≡ Some c.in-Some.path.now =
    ap (option_map (λ (path : Bor Text). path.now)) c.in-Some.is in
    record {
      first = c.in_ok-store.store;
      opening = string_bytes c.in_ok-store.opening;
      asks = record {
        digits = asked.digits.now;
        names = map (λ name. name.now) asked.names.now;
        says = says.root;
        asked = says.compacts_is ∙ c.if-not-asked.false;
        path = c.in-Some.path.now;
        named = says.store_is ∙ stored;
        opens = c.in_ok-store.ensures.ok;
      };
      counts = c.in_ok-journal.counts;
      shortened = λ clean. shortened_of _ _ _ _ _ _ c.as_str.ensures.value (c.in_ok-journal.ensures.short clean);
      leaves = c.in_ok-journal.ensures.leaves;
    }
