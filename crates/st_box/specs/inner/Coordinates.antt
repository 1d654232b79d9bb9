-- Queries for worked examples, which no contract cites: `query_of 1 2 1 2 0 0 refl refl refl refl refl refl`.
use Rattle.std.specs.Prelude.{ℕ, ◌^◌, IsTrue, nat_le, nat_lt}
use Rattle.std.proofs.lemmas.Bool.{ltb-true, leb-true}
use Rattle.st_box.specs.declared.query.Query.{Query}

abbrev pub query_of : (x0 x1 y0 y1 t0 t1 : ℕ) → IsTrue (nat_le x0 x1) → IsTrue (nat_le y0 y1) → IsTrue (nat_le t0 t1) →
    IsTrue (nat_lt x1 (2 ^ 21)) → IsTrue (nat_lt y1 (2 ^ 21)) → IsTrue (nat_lt t1 19818086400) → Query
query_of x0 x1 y0 y1 t0 t1 fx fy ft rx ry rt = record {
  x0 = x0;
  x1 = x1;
  y0 = y0;
  y1 = y1;
  t0 = t0;
  t1 = t1;
  x_ordered = leb-true x0 x1 fx;
  y_ordered = leb-true y0 y1 fy;
  t_ordered = leb-true t0 t1 ft;
  x_in_range = ltb-true x1 (2 ^ 21) rx;
  y_in_range = ltb-true y1 (2 ^ 21) ry;
  t_in_range = ltb-true t1 19818086400 rt;
}
