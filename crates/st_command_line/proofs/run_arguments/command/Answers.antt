use Rattle.std.proofs.Common.{ap, ap₂, refl, subst, true, [], ◌∷◌, ◌≡◌, ◌∙◌, arith, codes, is_some}
use Rattle.std.specs.List.{All}
use Rattle.std.proofs.lemmas.List.Elements.{All-cons, All-nil}
use Rattle.clap.specs.Built.{AddsArg, AddsInTurn, FitsChain}
use Rattle.clap.specs.Words.{first_value, found_of, new_app}
use Rattle.clap.proofs.CallerLemmas.{required_in_chain}
use Rattle.st_command_line.specs.Common.{with_version}
use Rattle.st_command_line.proofs.Refusing.{are_distinct, chained, distinct, ids_of, with_rules}
use Rattle.st_command_line.proofs.run_arguments.command.Goals as goal

pub returns : goal.returns
returns c =
    let all = c.root.result ∷ c.store.result ∷ c.compact.result ∷ c.names.result ∷ [] in
    let fit : All FitsChain all = (All-cons FitsChain c.root.result (c.store.result ∷ c.compact.result ∷ c.names.result ∷ []) c.root.ensures.fits
    (All-cons FitsChain c.store.result (c.compact.result ∷ c.names.result ∷ []) c.store.ensures.fits
    (All-cons FitsChain c.compact.result (c.names.result ∷ []) c.compact.ensures.fits
    (All-cons FitsChain c.names.result ([]) c.names.ensures.fits
    (All-nil FitsChain))))) in
    let chain : AddsInTurn AddsArg c.named.result all c.in_ok-command.command = (
      c.in_ok-arg.field-0,
      c.in_ok-arg.ensures,
      (
        c.in_ok-arg-2.field-0,
        c.in_ok-arg-2.ensures,
        (c.in_ok-arg-3.field-0, c.in_ok-arg-3.ensures, (c.in_ok-command.command, c.in_ok-command.ensures, refl)),
      ),
    ) in
    let start = with_version (new_app (codes "st_run")) in
    let apart : are_distinct (ids_of all) ≡ true = ap are_distinct (ap₂ ◌∷◌ c.root.ensures.id
    (ap₂ ◌∷◌ c.store.ensures.id
    (ap₂ ◌∷◌ c.compact.ensures.id
    (ap (λ x. x ∷ []) c.names.ensures.id)))) in
    record {
      is = chained c.named.result c.in_ok-command.command all start c.named.ensures.app fit chain ∙ ap (with_rules start) (ap₂ ◌∷◌ c.root.ensures.rule
          (ap₂ ◌∷◌ c.store.ensures.rule
          (ap₂ ◌∷◌ c.compact.ensures.rule
          (ap (λ x. x ∷ []) c.names.ensures.rule))));
      free = refl;
      root = λ matches parsed.
          subst (λ id. is_some (first_value (found_of matches) id) ≡ true) c.root.ensures.id
          (required_in_chain c.named.result c.in_ok-command.command all 0 c.root.result matches chain
          c.named.ensures.empty.0 c.named.ensures.empty.1 c.named.ensures.local c.named.ensures.negates
          fit (distinct all apart) (omega arith) c.root.ensures.takes parsed);
    }
