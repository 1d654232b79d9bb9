-- A `&` to a token holds what it knows, which can be had twice. Assumes `Logic`.
use base.Logic.{snd∗}
use base.Before.{before}
use base.Growing.{at_least, numbers}
use types.Logic.{sem}
use types.Growing.{at_least_dup}
use denote.Builtin.{unit}
use denote.Param.Shared.{copy_shared}
use denote.Struct.Laws.{field_copy}
use denote.Struct.Lending.{of_Lends}
use Rattle.core.specs.contracts.marker.PhantomData as marker
use Rattle.st_watermark.specs.contracts.watermark.Reached as C
use Rattle.st_watermark.proofs.Tokens.{lends_twice}
use Rattle.st_watermark.proofs.watermark.Reached.TheLaw.Statement.{statement}

pub shares : statement
shares = of_Lends C.struct (C.the_codes (marker.the_row unit).coded) C.the_heap C.the_lent
    (λ d p. record { contraction = λ M 𝓤 𝓛 κ. at_least_dup numbers 𝓛 d.name d.at; mono = λ M 𝓤 𝓛 κ' κ. snd∗ 𝓤 (sem 𝓛 (before κ' κ)) (sem 𝓛 (at_least numbers d.name d.at)) })
    (copy_shared (marker.the_field unit) (field_copy (marker.the_type unit) tt), tt)
    (λ M 𝓤 𝓛 d p. lends_twice 𝓛 (at_least numbers d.name d.at) (at_least_dup numbers 𝓛 d.name d.at) C.the_row.lives)
