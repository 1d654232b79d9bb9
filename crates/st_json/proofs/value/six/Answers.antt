use Rattle.std.proofs.Common.{rules, map, arith}
use Rattle.std.proofs.lemmas.List.{length-map}
use Rattle.serde_json.specs.View.{view}
use Rattle.st_json.specs.Fields.{six_numbers}
use Rattle.st_json.proofs.Listed.{same_length, one_more, no_more, not_six}
use Rattle.st_json.proofs.value.six.Goals as goal

pub returns-in_default-clause-none : goal.returns-in_default-clause-none
returns-in_default-clause-none c = λ b e. let l = same_length (map view c.args.items.now) (six_numbers b) e in let l2 = simp length-map at l in omega (arith, l2, c.in_default.len_below)

pub returns-in_default-2-clause-none : goal.returns-in_default-2-clause-none
returns-in_default-2-clause-none c = λ b e. let l = same_length (map view c.args.items.now) (six_numbers b) e in let l2 = simp length-map at l in omega (arith, l2, c.in_default.len_at_least)

pub returns-clause-some : goal.returns-clause-some
returns-clause-some c =
    let v = c.args.items.now in
    one_more v _ 0 _ _ (omega arith) c.x0-item.is (search rules) (one_more v _ 1 _ _ (omega arith) c.x1-item.is (search rules) (one_more v _ 2 _ _ (omega arith) c.y0-item.is (search rules)
    (one_more v _ 3 _ _ (omega arith) c.y1-item.is (search rules)
    (one_more v _ 4 _ _ (omega arith) c.t0-item.is (search rules)
    (one_more v _ 5 _ _ (omega arith) c.t1-item.is (search rules) (no_more v 6 (omega arith)))))))

pub returns-in_err-as_u64-clause-none : goal.returns-in_err-as_u64-clause-none
returns-in_err-as_u64-clause-none c = not_six c.args.items.now _ 0 _ (omega arith) c.x0-item.is (search rules)

pub returns-in_err-as_u64-2-clause-none : goal.returns-in_err-as_u64-2-clause-none
returns-in_err-as_u64-2-clause-none c = not_six c.args.items.now _ 1 _ (omega arith) c.x1-item.is (search rules)

pub returns-in_err-as_u64-3-clause-none : goal.returns-in_err-as_u64-3-clause-none
returns-in_err-as_u64-3-clause-none c = not_six c.args.items.now _ 2 _ (omega arith) c.y0-item.is (search rules)

pub returns-in_err-as_u64-4-clause-none : goal.returns-in_err-as_u64-4-clause-none
returns-in_err-as_u64-4-clause-none c = not_six c.args.items.now _ 3 _ (omega arith) c.y1-item.is (search rules)

pub returns-in_err-as_u64-5-clause-none : goal.returns-in_err-as_u64-5-clause-none
returns-in_err-as_u64-5-clause-none c = not_six c.args.items.now _ 4 _ (omega arith) c.t0-item.is (search rules)

pub returns-in_err-as_u64-6-clause-none : goal.returns-in_err-as_u64-6-clause-none
returns-in_err-as_u64-6-clause-none c = not_six c.args.items.now _ 5 _ (omega arith) c.t1-item.is (search rules)
