-- What the number has come to is no more than where it stands.
use Rattle.std.proofs.Common.{◌≡◌, ℕ, ◌≤◌, List, [], ◌∷◌, refl}
use mir.Syntax.{named}
use mir.Val.{Val, vunit, vptr}
use base.Fraction.{full_share}
use base.Growing.{at_least, latest, numbers}
use base.Logic.{SProp, emp}
use base.Fml.{ftrue, flft, fhide}
use types.Growing.{latest_bounds}
use types.Kit.{‵, ◌⊛◌, given, ◌$◌, ◌∵◌, !, qed, by, move, keep, drop, split, join, fsplit, fsplit3, fjoin, fjoin3, learn, use1, use2, rewrite, feq_i}
use types.Run.{unit_lit, of_opd, returns, enter}
use types.ByLocal.{alloc_all, pass_all, free_all, look_at, sets}
use contract.Monad.{fact_i}
use contract.Running.{tables}
use denote.Exit.{yes}
use denote.RattleType.{RattleType, owns}
use denote.Signature.{types_at, plain}
use denote.Builtin.{RefOf, unit}
use denote.Ref.{mut_vals, mut_Tells, shr_vals, shr_Tells}
use denote.Memory.{hidden_shr}
use denote.Opens.{unhide}
use denote.Steps.{nothing, opens, closes}
use denote.Struct.Lending.{lent_out}
use denote.Triple.Walked.{Stays, stay_dropped, stay_ref, walk_of, Goes-dropped, Goes-ref}
use Rattle.core.specs.contracts.marker.PhantomData as marker
use Rattle.std.proofs.raw_atomic.Walks.{proved}
use Rattle.st_watermark.specs.contracts.watermark.Watermark as Watermark
use Rattle.st_watermark.specs.contracts.watermark.Reached as Reached
use Rattle.st_watermark.proofs.Tokens.{Token, ends}
use Rattle.st_watermark.specs.contracts.watermark.Watermark.bounds.{ended, clauses}
use Rattle.st_watermark.specs.contracts.watermark.Watermark.bounds.Key.{name as #self}
use Rattle.st_watermark.proofs.watermark.Watermark.bounds.Statement.{statement}
use Rattle.st_watermark.proofs.watermark.Watermark.bounds.Code as code

pub bounds_spec : {M : Type 1} → statement M
bounds_spec 𝓤 𝓛 𝓜 𝓡 wired =
    let H = 𝓛.H in let 𝓣 = tables 𝓤 H 𝓜 𝓡 𝓡.env in let fn = code.function in let c = clauses 𝓛 𝓜.mem 𝓡.returns in let W : RattleType = Watermark.the_row in
    let hs : Stays ended.signature.params ended.kept = (stay_ref (0 ∷ []) tt (plain (λ _. W)), (stay_dropped (RefOf (1 ∷ []) tt (plain (λ _. Reached.the_row)) (λ _. tt)) yes, tt)) in
    proved 𝓛 ended hs c 𝓜 𝓡 (
      Goes-ref 𝓛 2 0 tt (plain (λ _. W)),
      (Goes-dropped 𝓛 2 (RefOf (1 ∷ []) tt (plain (λ _. Reached.the_row)) (λ _. tt)) yes (λ κs x f. refl), tt),
    ) #self fn
    (code.unfolded 𝓤 H 𝓜 𝓡 wired)
    (λ κs. (mut_vals, (shr_vals, tt))) (λ κs. (mut_Tells (named 0) κs.0 W, (shr_Tells (named 1) κs.1.0 Reached.the_row, tt))) (λ κs qs bounds a gh are.
    let b : ℕ = a.0.ref_ptr.0 in let o : ℕ = a.0.ref_ptr.1 in let p : ℕ = a.1.0.ref_ptr.0 in let q : ℕ = a.1.0.ref_ptr.1 in let h : W.Denot = a.0.now in let r : Reached.the_row.Denot = a.1.0.now in
    let y : (walk_of 𝓛 ended hs c).Ghost = ((κs, qs, bounds, a, (vptr b o ∷ [], (vptr p q ∷ [], tt))), gh) in let Post : Val → SProp 𝓤 = (walk_of 𝓛 ended hs c).post y in
    qed 𝓛 (((‵ (flft κs.0 qs.0) ⊛ ‵ (flft κs.1.0 qs.1.0) ⊛ ‵ ftrue) ⊛ ‵ (owns (types_at ended.signature.params κs) a y.0.4)) ∷ given (r.name ≡ h.name)
    (‵ ftrue) ∷ []) ∵ move ! (1 ∷ []) $ learn !
    (λ asked. drop ! $ split ! $ split ! $ move ! (1 ∷ []) $ split ! $ move ! (3 ∷ []) $ fsplit ! $ fsplit3 ! $ move ! (3 ∷ []) $ fsplit ! $
    fsplit ! $ keep ! (1 ∷ 4 ∷ 5 ∷ 8 ∷ 6 ∷ []) $
    enter ! 𝓣.C 𝓣.Λ fn (vptr b o ∷ vptr p q ∷ []) Post $ alloc_all ! (λ l. pass_all ! refl ((tt, tt), ((tt, tt), tt)) $
    use1 𝓛 (‵ (hidden_shr Token κs.1.0 (record {}, tt) p q) ⊛ ‵ (fhide (at_least numbers r.name r.at)))
    (lent_out 𝓛 Reached.struct (Reached.the_codes (marker.the_row unit).coded) Reached.the_heap Reached.the_lent κs.1.0 r p q) $ split ! $ drop !
    $ unhide ! $
    rewrite ! 0 (λ (n : ℕ). ‵ (at_least numbers n r.at)) asked refl $ move ! (1 ∷ 2 ∷ 3 ∷ []) $ opens ! tt W b o (λ ts. move ! (1 ∷ []) $ fsplit ! $ move ! (1 ∷ 6 ∷ []) $
    use2 𝓛 (given (r.at ≤ h.at) (‵ (latest numbers full_share h.name h.at) ⊛ ‵ (at_least numbers h.name r.at)))
    (latest_bounds numbers 𝓛 full_share h.name h.at r.at) $ learn !
    (λ so. split ! $ move ! (2 ∷ 0 ∷ []) $ fjoin ! $ move ! (2 ∷ 0 ∷ 3 ∷ 4 ∷ 5 ∷ []) $
    closes ! tt W h ts b o $ sets ! (of_opd ! (unit_lit !)) refl (tt, tt) $ feq_i ! (List Val) (vptr b o ∷ []) (vptr b o ∷ []) refl $ fjoin3 ! $
    nothing ! $ nothing ! $ fjoin ! $ move ! (1 ∷ 0 ∷ []) $ fjoin ! $
    nothing ! $ move ! (4 ∷ 0 ∷ []) $ join ! $ move ! (2 ∷ 0 ∷ []) $ join ! $ feq_i ! (List Val) (vunit ∷ []) (vunit ∷ []) refl $
    returns ! (look_at ! 0 refl) $ free_all ! refl $ keep ! (1 ∷ 2 ∷ 0 ∷ []) $ by ! (ends 𝓛 ended hs c y vunit tt (h, (tt, tt)) (tt, (tt, tt)) (fact_i 𝓤 _ (emp 𝓤) (refl, so))))))))
