-- Points for worked examples, which no contract cites: `point_at 1 2 3 refl refl refl`.
use Rattle.std.specs.Prelude.{ℕ, ◌^◌, IsTrue, nat_lt}
use Rattle.std.proofs.lemmas.Bool.{ltb-true}
use Rattle.st_key.specs.declared.point.Point.{Point}

abbrev pub point_at : (x y t : ℕ) → IsTrue (nat_lt x (2 ^ 21)) → IsTrue (nat_lt y (2 ^ 21)) → IsTrue (nat_lt t 19818086400) →
    Point
point_at x y t fx fy ft = record {
  x = x;
  y = y;
  t = t;
  x_in_range = ltb-true x (2 ^ 21) fx;
  y_in_range = ltb-true y (2 ^ 21) fy;
  t_in_range = ltb-true t 19818086400 ft;
}
