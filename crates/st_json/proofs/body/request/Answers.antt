use Rattle.st_json.proofs.body.request.Goals as goal

pub returns-in-User : goal.returns-in-User
returns-in-User g c = rw c.in-User.is c.user.ensures

pub returns-in-Grants : goal.returns-in-Grants
returns-in-Grants g c = rw c.in-Grants.is c.grants.ensures

pub returns-in-NamespaceGrants : goal.returns-in-NamespaceGrants
returns-in-NamespaceGrants g c = rw c.in-NamespaceGrants.is c.namespace_grants.ensures

pub returns-in-Label : goal.returns-in-Label
returns-in-Label g c = rw c.in-Label.is c.label.ensures

pub returns-in-Get : goal.returns-in-Get
returns-in-Get g c = rw c.in-Get.is c.get.ensures

pub returns-in-Scan : goal.returns-in-Scan
returns-in-Scan g c = rw c.in-Scan.is c.scan.ensures

pub returns-in-Count : goal.returns-in-Count
returns-in-Count g c = rw c.in-Count.is c.count.ensures

pub returns-in-Grid : goal.returns-in-Grid
returns-in-Grid g c = rw c.in-Grid.is c.grid.ensures

pub returns-in-Plan : goal.returns-in-Plan
returns-in-Plan g c = rw c.in-Plan.is c.plan.ensures

pub returns-in-Put : goal.returns-in-Put
returns-in-Put g c = rw c.in-Put.is c.put.ensures

pub returns-in-Delete : goal.returns-in-Delete
returns-in-Delete g c = rw c.in-Delete.is c.delete.ensures

pub returns-in-CreateTable : goal.returns-in-CreateTable
returns-in-CreateTable g c = rw c.in-CreateTable.is c.create_table.ensures

pub returns-in-DropTable : goal.returns-in-DropTable
returns-in-DropTable g c = rw c.in-DropTable.is c.drop_table.ensures

pub returns-in-Constraint : goal.returns-in-Constraint
returns-in-Constraint g c = rw c.in-Constraint.is c.constraint.ensures

pub returns-in-Period : goal.returns-in-Period
returns-in-Period g c = rw c.in-Period.is c.period.ensures

pub returns-in-CreateUser : goal.returns-in-CreateUser
returns-in-CreateUser g c = rw c.in-CreateUser.is c.create_user.ensures

pub returns-in-DropUser : goal.returns-in-DropUser
returns-in-DropUser g c = rw c.in-DropUser.is c.drop_user.ensures

pub returns-in-Token : goal.returns-in-Token
returns-in-Token g c = rw c.in-Token.is c.token.ensures

pub returns-in-Auths : goal.returns-in-Auths
returns-in-Auths g c = rw c.in-Auths.is c.auths.ensures

pub returns-in-GrantSystem : goal.returns-in-GrantSystem
returns-in-GrantSystem g c = rw c.in-GrantSystem.is c.grant_system.ensures

pub returns-in-RevokeSystem : goal.returns-in-RevokeSystem
returns-in-RevokeSystem g c = rw c.in-RevokeSystem.is c.revoke_system.ensures

pub returns-in-GrantTable : goal.returns-in-GrantTable
returns-in-GrantTable g c = rw c.in-GrantTable.is c.grant_table.ensures

pub returns-in-RevokeTable : goal.returns-in-RevokeTable
returns-in-RevokeTable g c = rw c.in-RevokeTable.is c.revoke_table.ensures

pub returns-in-GrantNamespace : goal.returns-in-GrantNamespace
returns-in-GrantNamespace g c = rw c.in-GrantNamespace.is c.grant_namespace.ensures

pub returns-in-RevokeNamespace : goal.returns-in-RevokeNamespace
returns-in-RevokeNamespace g c = rw c.in-RevokeNamespace.is c.revoke_namespace.ensures
