-- What a thread that waits looks at: the changes that are known to be kept and to be published, whether a thread leads, and whether an
-- append failed.
use Rattle.std.specs.Prelude.{Bool, List}
use Rattle.st_hall.specs.Steps.{Ask}

pub record Written : Type 0 where
  pub kept : List Ask
  pub published : List Ask
  pub is_led : Bool
  pub is_lost : Bool
