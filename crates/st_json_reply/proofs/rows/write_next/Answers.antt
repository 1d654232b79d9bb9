use Rattle.std.proofs.Common.{◌≡◌, [], ◌∷◌, OnOk, codes, ap, sym, subst, ◌∙◌}
use Rattle.std.specs.Option.{option_copied, option_map_or}
use Rattle.json.specs.Token.{key, null as null_token}
use Rattle.serde_json.specs.Data.{null}
use Rattle.st_json_reply.specs.inner.Adds.{Adds, tokens_of}
use Rattle.st_json_reply.specs.Replies.{next_data, place_data}
use Rattle.st_json_reply.proofs.Added.{added, last_token, then_adds}
use Rattle.st_json_reply.proofs.rows.write_next.Goals as goal

pub returns-then-more : goal.returns-then-more
returns-then-more g c =
    let told : next_data c.args.rows.now c.args.more ≡ option_map_or place_data (option_copied c.last.result) null =
    ap (next_data c.args.rows.now) c.if-more.true ∙ ap (λ row. option_map_or place_data row null) (sym c.last.ensures.value) in
    subst (λ d. OnOk c.write_place_or_null.result (Adds c.args.out.now c.write_place_or_null.new.out (key (codes "next") ∷ tokens_of d))) (sym told)
    (then_adds _ _ _ _ (key (codes "next") ∷ []) _ (added _ _ (key (codes "next") ∷ []) c.in_ok-key.ensures.room.0 c.in_ok-key.ensures.ok) c.write_place_or_null.ensures)

pub returns-else-more : goal.returns-else-more
returns-else-more g c =
    let told : next_data c.args.rows.now c.args.more ≡ null = ap (next_data c.args.rows.now) c.if-more.false in
    last_token c.null.result c.args.out.now _ c.null.new.self (key (codes "next") ∷ []) _ null_token
    (added _ _ (key (codes "next") ∷ []) c.in_ok-key.ensures.room.0 c.in_ok-key.ensures.ok) c.null.ensures
    (ap (λ d. key (codes "next") ∷ tokens_of d) (sym told))
