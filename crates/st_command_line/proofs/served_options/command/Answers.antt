use Rattle.std.proofs.Common.{ap, ap₂, refl, subst, true, [], ◌∷◌, ◌≡◌, ◌∙◌, arith, codes, is_some}
use Rattle.std.specs.List.{All}
use Rattle.std.proofs.lemmas.List.Elements.{All-cons, All-nil}
use Rattle.clap.specs.Built.{AddsArg, AddsInTurn, FitsChain}
use Rattle.clap.specs.Words.{first_value, found_of, new_app}
use Rattle.clap.proofs.CallerLemmas.{required_in_chain}
use Rattle.st_command_line.specs.Common.{with_version}
use Rattle.st_command_line.proofs.Refusing.{are_distinct, chained, distinct, ids_of, with_rules}
use Rattle.st_command_line.proofs.served_options.command.Goals as goal

pub returns : goal.returns
returns c =
    let all = c.root.result ∷ c.port.result ∷ c.socket.result ∷ c.store.result ∷ c.compact.result ∷ c.copy.result ∷ c.copy_every.result
    ∷ c.connections.result ∷ c.workers.result ∷ c.timeout.result ∷ c.idle.result ∷ c.listen.result ∷ c.names.result ∷ [] in
    let fit : All FitsChain all =
    (All-cons FitsChain c.root.result
    (c.port.result ∷ c.socket.result ∷ c.store.result ∷ c.compact.result ∷ c.copy.result ∷ c.copy_every.result ∷ c.connections.result
    ∷ c.workers.result ∷ c.timeout.result ∷ c.idle.result ∷ c.listen.result ∷ c.names.result ∷ []) c.root.ensures.fits
    (All-cons FitsChain c.port.result
    (c.socket.result ∷ c.store.result ∷ c.compact.result ∷ c.copy.result ∷ c.copy_every.result ∷ c.connections.result ∷ c.workers.result
    ∷ c.timeout.result ∷ c.idle.result ∷ c.listen.result ∷ c.names.result ∷ []) c.port.ensures.fits
    (All-cons FitsChain c.socket.result
    (c.store.result ∷ c.compact.result ∷ c.copy.result ∷ c.copy_every.result ∷ c.connections.result ∷ c.workers.result ∷ c.timeout.result
    ∷ c.idle.result ∷ c.listen.result ∷ c.names.result ∷ []) c.socket.ensures.fits
    (All-cons FitsChain c.store.result
    (c.compact.result ∷ c.copy.result ∷ c.copy_every.result ∷ c.connections.result ∷ c.workers.result ∷ c.timeout.result ∷ c.idle.result
    ∷ c.listen.result ∷ c.names.result ∷ []) c.store.ensures.fits
    (All-cons FitsChain c.compact.result
    (c.copy.result ∷ c.copy_every.result ∷ c.connections.result ∷ c.workers.result ∷ c.timeout.result ∷ c.idle.result ∷ c.listen.result
    ∷ c.names.result ∷ []) c.compact.ensures.fits
    (All-cons FitsChain c.copy.result (c.copy_every.result ∷ c.connections.result ∷ c.workers.result ∷ c.timeout.result ∷ c.idle.result ∷ c.listen.result ∷ c.names.result ∷ []) c.copy.ensures.fits
    (All-cons FitsChain c.copy_every.result (c.connections.result ∷ c.workers.result ∷ c.timeout.result ∷ c.idle.result ∷ c.listen.result ∷ c.names.result ∷ []) c.copy_every.ensures.fits
    (All-cons FitsChain c.connections.result (c.workers.result ∷ c.timeout.result ∷ c.idle.result ∷ c.listen.result ∷ c.names.result ∷ []) c.connections.ensures.fits
    (All-cons FitsChain c.workers.result (c.timeout.result ∷ c.idle.result ∷ c.listen.result ∷ c.names.result ∷ []) c.workers.ensures.fits
    (All-cons FitsChain c.timeout.result (c.idle.result ∷ c.listen.result ∷ c.names.result ∷ []) c.timeout.ensures.fits
    (All-cons FitsChain c.idle.result (c.listen.result ∷ c.names.result ∷ []) c.idle.ensures.fits
    (All-cons FitsChain c.listen.result (c.names.result ∷ []) c.listen.ensures.fits
    (All-cons FitsChain c.names.result ([]) c.names.ensures.fits
    (All-nil FitsChain)))))))))))))) in
    let chain : AddsInTurn AddsArg c.named.result all c.in_ok-command.command = (
      c.in_ok-arg.field-0,
      c.in_ok-arg.ensures,
      (
        c.in_ok-arg-2.field-0,
        c.in_ok-arg-2.ensures,
        (
          c.in_ok-arg-3.field-0,
          c.in_ok-arg-3.ensures,
          (
            c.in_ok-arg-4.field-0,
            c.in_ok-arg-4.ensures,
            (
              c.in_ok-arg-5.field-0,
              c.in_ok-arg-5.ensures,
              (
                c.in_ok-arg-6.field-0,
                c.in_ok-arg-6.ensures,
                (
                  c.in_ok-arg-7.field-0,
                  c.in_ok-arg-7.ensures,
                  (
                    c.in_ok-arg-8.field-0,
                    c.in_ok-arg-8.ensures,
                    (
                      c.in_ok-arg-9.field-0,
                      c.in_ok-arg-9.ensures,
                      (
                        c.in_ok-arg-10.field-0,
                        c.in_ok-arg-10.ensures,
                        (
                          c.in_ok-arg-11.field-0,
                          c.in_ok-arg-11.ensures,
                          (c.in_ok-arg-12.field-0, c.in_ok-arg-12.ensures, (c.in_ok-command.command, c.in_ok-command.ensures, refl)),
                        ),
                      ),
                    ),
                  ),
                ),
              ),
            ),
          ),
        ),
      ),
    ) in
    let start = with_version (new_app (codes "st_served")) in
    let apart : are_distinct (ids_of all) ≡ true = ap are_distinct (ap₂ ◌∷◌ c.root.ensures.id
    (ap₂ ◌∷◌ c.port.ensures.id
    (ap₂ ◌∷◌ c.socket.ensures.id
    (ap₂ ◌∷◌ c.store.ensures.id
    (ap₂ ◌∷◌ c.compact.ensures.id
    (ap₂ ◌∷◌ c.copy.ensures.id
    (ap₂ ◌∷◌ c.copy_every.ensures.id
    (ap₂ ◌∷◌ c.connections.ensures.id
    (ap₂ ◌∷◌ c.workers.ensures.id
    (ap₂ ◌∷◌ c.timeout.ensures.id
    (ap₂ ◌∷◌ c.idle.ensures.id
    (ap₂ ◌∷◌ c.listen.ensures.id
    (ap (λ x. x ∷ []) c.names.ensures.id))))))))))))) in
    record {
      is = chained c.named.result c.in_ok-command.command all start c.named.ensures.app fit chain ∙ ap (with_rules start) (ap₂ ◌∷◌ c.root.ensures.rule
          (ap₂ ◌∷◌ c.port.ensures.rule
          (ap₂ ◌∷◌ c.socket.ensures.rule
          (ap₂ ◌∷◌ c.store.ensures.rule
          (ap₂ ◌∷◌ c.compact.ensures.rule
          (ap₂ ◌∷◌ c.copy.ensures.rule
          (ap₂ ◌∷◌ c.copy_every.ensures.rule
          (ap₂ ◌∷◌ c.connections.ensures.rule
          (ap₂ ◌∷◌ c.workers.ensures.rule
          (ap₂ ◌∷◌ c.timeout.ensures.rule
          (ap₂ ◌∷◌ c.idle.ensures.rule
          (ap₂ ◌∷◌ c.listen.ensures.rule
          (ap (λ x. x ∷ []) c.names.ensures.rule)))))))))))));
      free = refl;
      root = λ matches parsed.
          subst (λ id. is_some (first_value (found_of matches) id) ≡ true) c.root.ensures.id
          (required_in_chain c.named.result c.in_ok-command.command all 0 c.root.result matches chain
          c.named.ensures.empty.0 c.named.ensures.empty.1 c.named.ensures.local c.named.ensures.negates
          fit (distinct all apart) (omega arith) c.root.ensures.takes parsed);
    }
