use Rattle.std.proofs.Common.{rules, map, arith}
use Rattle.std.proofs.lemmas.List.{length-map}
use Rattle.serde_json.specs.View.{view, items_view}
use Rattle.st_json.specs.inner.Parts.{numbers_of}
use Rattle.st_json.proofs.Listed.{same_length, one_more, no_more, none_at, some_at, not_three}
use Rattle.st_json.proofs.value.three.Goals as goal

pub returns-in_default-clause-none : goal.returns-in_default-clause-none
returns-in_default-clause-none c = λ p e. let l = same_length (map view c.args.items.now) _ e in let l2 = simp length-map at l in omega (arith, l2, c.in_default.len_below)

pub returns-in_default-2-clause-none : goal.returns-in_default-2-clause-none
returns-in_default-2-clause-none c = λ p e. let l = same_length (map view c.args.items.now) _ e in let l2 = simp length-map at l in omega (arith, l2, c.in_default.len_at_least)

pub returns-clause-none : goal.returns-clause-none
returns-clause-none c = let v = c.args.items.now in none_at (numbers_of (items_view v)) _ _ _ _
    (one_more v _ 0 c.in_ok-as_u64.field-0 _ (omega arith) c.x-item.is (search rules)
    (one_more v _ 1 c.in_ok-as_u64-2.field-0 _ (omega arith) c.y-item.is (search rules)
    (one_more v _ 2 c.in_ok-as_u64-3.field-0 _ (omega arith) c.t-item.is (search rules) (no_more v 3 (omega arith)))))
    c.point_at.ensures

pub returns-in_err-as_u64-clause-none : goal.returns-in_err-as_u64-clause-none
returns-in_err-as_u64-clause-none c = not_three c.args.items.now _ 0 _ (omega arith) c.x-item.is (search rules)

pub returns-in_err-as_u64-2-clause-none : goal.returns-in_err-as_u64-2-clause-none
returns-in_err-as_u64-2-clause-none c = not_three c.args.items.now _ 1 _ (omega arith) c.y-item.is (search rules)

pub returns-in_err-as_u64-3-clause-none : goal.returns-in_err-as_u64-3-clause-none
returns-in_err-as_u64-3-clause-none c = not_three c.args.items.now _ 2 _ (omega arith) c.t-item.is (search rules)

pub returns-clause-some : goal.returns-clause-some
returns-clause-some c = let v = c.args.items.now in some_at (numbers_of (items_view v)) _ _ _ _
    (one_more v _ 0 c.in_ok-as_u64.field-0 _ (omega arith) c.x-item.is (search rules)
    (one_more v _ 1 c.in_ok-as_u64-2.field-0 _ (omega arith) c.y-item.is (search rules)
    (one_more v _ 2 c.in_ok-as_u64-3.field-0 _ (omega arith) c.t-item.is (search rules) (no_more v 3 (omega arith)))))
    c.point_at.ensures
