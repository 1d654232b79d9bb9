use Rattle.std.proofs.Common.{◌≡◌}
use Rattle.st_box.specs.declared.zbox.ZBox.{ZBox}
use Rattle.st_box.specs.ZBox.{first_of, last_of}
use Rattle.st_bigmin.proofs.Jumps.{NoneNear}
use Rattle.st_bigmin.proofs.jump.next_between.Given as goal

abbrev pub invariant-loop-level : goal.invariant-loop-level
invariant-loop-level l = (b : ZBox) → first_of b ≡ l.first → last_of b ≡ l.last → NoneNear b l.z l.level
