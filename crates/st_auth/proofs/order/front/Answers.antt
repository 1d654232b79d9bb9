use Rattle.std.proofs.Common.{◌∙◌, sym}
use Rattle.st_auth.proofs.Fronts.{front_of_bytes}
use Rattle.st_auth.proofs.order.front.Goals as goal

pub returns-clause-number : goal.returns-clause-number
returns-clause-number c =
    c.from_be_bytes.ensures
    ∙ rw (
      c.byte_or_zero.ensures,
      c.byte_or_zero-2.ensures,
      c.byte_or_zero-3.ensures,
      c.byte_or_zero-4.ensures,
      c.byte_or_zero-5.ensures,
      c.byte_or_zero-6.ensures,
      c.byte_or_zero-7.ensures,
      c.byte_or_zero-8.ensures,
      c.as_bytes-bytes.ensures.value,
    )
    (sym (front_of_bytes c.args.text.now))
