-- What a station knows of itself after a connection.
use Rattle.std.proofs.Common.{◌≤◌, arith}
use mathlib.Core.List.{IsPrefix}
use Rattle.st_hall.specs.Views.{Seat}
use Rattle.st_hall_press.proofs.Fronts.{prefix_self}

pub same_seat : (s : Seat) → IsPrefix s.seen s.seen × (s.made ≤ s.made)
same_seat s = (prefix_self s.seen, omega arith)
