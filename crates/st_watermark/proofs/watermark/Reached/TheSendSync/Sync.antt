use denote.Param.Send.{IsSync, sendable}
use denote.Struct.Struct.{Struct}
use denote.Struct.Owning.{shape}
use Rattle.st_watermark.specs.contracts.watermark.Reached.{the_row, the_type}
use base.Growing.{at_least}

pub sync : IsSync the_row
unfolding at_least
sync = let fields : IsSync (Struct (shape the_type)) = search sendable depth 20 in
    record { shared = λ d b o ν. (fields.shared (tt, tt) b o ν, tt) }
