use Rattle.std.proofs.Common.{rules, ◌≡◌, Some, None, Ok, Err, subst}
use Rattle.st_json.specs.Bodies.{Decoded}
use Rattle.st_journal_record.specs.inner.Finding.{endpoint_named}
use Rattle.st_json.specs.declared.fault.DecodeFault.TheVariants.{Refused}
use Rattle.st_journal_record.proofs.ReadBack.{called, names_none, refuses}
use Rattle.st_journal_record.proofs.read.request_in.Goals as goal

pub returns-in_default-clause-invalid : goal.returns-in_default-clause-invalid
returns-in_default-clause-invalid g c _ request reads =
    let kept = c.args.kept.now in
    let none : endpoint_named kept.request ≡ None = search rules in
    names_none kept request none reads

pub returns-in-Ok-clause-ok : goal.returns-in-Ok-clause-ok
returns-in-Ok-clause-ok g c =
    let kept = c.args.kept.now in
    let e = c.in-Some.endpoint in
    let named : endpoint_named kept.request ≡ Some e = search rules in
    let name : c.as_str-name.result.now ≡ kept.name = search rules in
    let body : c.as_bytes-body.result.now ≡ kept.body = search rules in (
      e,
      called kept.request e named,
      subst (λ n. Decoded e n kept.body (Ok c.in-Ok.request)) name
          (subst (λ b. Decoded e c.as_str-name.result.now b (Ok c.in-Ok.request)) body c.in-Ok.ensures),
    )

pub returns-in-Err-Refused-clause-invalid : goal.returns-in-Err-Refused-clause-invalid
returns-in-Err-Refused-clause-invalid g c _ request reads =
    let kept = c.args.kept.now in
    let e = c.in-Some.endpoint in
    let refusal = c.in-Err-Refused.field-0-0 in
    let named : endpoint_named kept.request ≡ Some e = search rules in
    let name : c.as_str-name.result.now ≡ kept.name = search rules in
    let body : c.as_bytes-body.result.now ≡ kept.body = search rules in
    let same : c.decode.result ≡ Err (Refused refusal) = search rules in
    refuses kept e c.as_str-name.result.now c.as_bytes-body.result.now refusal c.decode.result request named name body same c.decode.ensures reads
