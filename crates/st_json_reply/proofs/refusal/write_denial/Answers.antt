use Rattle.std.proofs.Common.{sym}
use Rattle.st_json_reply.proofs.refusal.write_denial.Goals as goal

pub returns-in-NamespacePermission : goal.returns-in-NamespacePermission
returns-in-NamespacePermission g c =
    rw (c.in-NamespacePermission.is, sym c.as_str-in-NamespacePermission.ensures.value, sym c.name-in-NamespacePermission.ensures)
    c.write_three-in-NamespacePermission.ensures

pub returns-in-Constraint : goal.returns-in-Constraint
returns-in-Constraint g c = rw (c.in-Constraint.is, sym c.as_str-in-Constraint.ensures.value) c.write_two-in-Constraint.ensures
