-- A new number, at 0.
use Rattle.std.proofs.Common.{ℕ, [], ◌∷◌, refl}
use mir.Val.{Val}
use base.Fraction.{full_share}
use base.Growing.{latest, numbers}
use base.Logic.{SProp, emp, via}
use base.Fml.{ftrue}
use types.Growing.{latest_new}
use types.Owned.{basic}
use types.Kit.{‵, raw, ◌⊛◌, some, later, ◌$◌, ◌∵◌, !, qed, by, keep, fjoin, pick, use0, await}
use types.Run.{no_more, and_then, returns, enter}
use types.ByLocal.{alloc_all, pass_all, free_all, look_at, get, sets}
use types.Part.{agg}
use contract.Monad.{fact_i}
use contract.Running.{tables}
use denote.RattleType.{owns}
use denote.Signature.{types_at}
use denote.Steps.{nothing}
use denote.Triple.Walked.{Stays, walk_of}
use Rattle.std.proofs.raw_atomic.Walks.{proved}
use Rattle.st_watermark.proofs.Tokens.{token, Token, token_made, ends}
use Rattle.st_watermark.specs.contracts.watermark.Watermark.new.{ended, clauses}
use Rattle.st_watermark.specs.contracts.watermark.Watermark.new.Key.{name as #self}
use Rattle.st_watermark.proofs.watermark.Watermark.new.Statement.{statement}
use Rattle.st_watermark.proofs.watermark.Watermark.new.Code as code

pub new_spec : {M : Type 1} → statement M
new_spec 𝓤 𝓛 𝓜 𝓡 wired =
    let H = 𝓛.H in let 𝓣 = tables 𝓤 H 𝓜 𝓡 𝓡.env in let fn = code.function in let c = clauses 𝓛 𝓜.mem 𝓡.returns in
    let hs : Stays ended.signature.params ended.kept = tt in
    proved 𝓛 ended hs c 𝓜 𝓡 tt #self fn (code.unfolded 𝓤 H 𝓜 𝓡 wired)
    (λ κs. tt) (λ κs. tt) (λ κs qs bounds a gh are.
    let y : (walk_of 𝓛 ended hs c).Ghost = ((κs, qs, bounds, a, tt), gh) in let Post : Val → SProp 𝓤 = (walk_of 𝓛 ended hs c).post y in
    qed 𝓛 ((‵ ftrue ⊛ ‵ (owns (types_at ended.signature.params κs) a y.0.4)) ∷ raw ((c κs a).requires gh) ∷ []) ∵ keep ! [] $
    enter ! 𝓣.C 𝓣.Λ fn [] Post $ alloc_all ! (λ l. pass_all ! refl tt $
    use0 𝓛 (later (some (λ (γ : ℕ). ‵ (latest numbers full_share γ 0)))) (via 𝓤 _ (latest_new numbers 𝓛 0) (basic 𝓛 _)) $ await ! tt $ pick ! (λ γ.
    use0 𝓛 (‵ (Token.own_val (record {}, tt) (token ∷ []))) (token_made 𝓛) $ fjoin ! $
    sets ! (agg ! (no_more !)) refl (tt, tt) $ sets ! (agg ! (and_then ! (get ! refl) (no_more !))) refl (tt, (tt, tt)) $ nothing ! $ nothing ! $
    returns ! (look_at ! 0 refl) $ free_all ! refl $
    by ! (ends 𝓛 ended hs c y token (record { marker = record {}; name = γ; at = 0 }) tt tt (fact_i 𝓤 _ (emp 𝓤) refl)))))
