use Rattle.std.proofs.Common.{◌≡◌, None, ap, subst}
use Rattle.st_policy.specs.Policy.{refusal_of}
use Rattle.st_policy.specs.Requests.{table_of, user_of}
use Rattle.st_core.proofs.Allowed.{allowed_table, allowed_user, allowed_new_table, allowed_new_user}
use Rattle.st_core.proofs.store.changing.change_directory.Goals as goal

pub made-requires : goal.made-requires
made-requires g c = c.create_table.ensures.fault c.requires.known
    (allowed_new_table c.args.directory.now c.args.asker.now _ c.in-CreateTable.period
    (subst (λ r. refusal_of c.args.directory.now c.args.asker.now r ≡ None) c.in-CreateTable.is c.requires.allowed))

pub done-requires : goal.done-requires
done-requires g c = c.drop_table.ensures.there (allowed_table c.args.directory.now c.args.asker.now c.args.request.now c.requires.allowed _ (ap table_of c.in-DropTable.is))

pub done-requires-in-Constraint : goal.done-requires-in-Constraint
done-requires-in-Constraint g c = c.set_constraint.ensures.there (allowed_table c.args.directory.now c.args.asker.now c.args.request.now c.requires.allowed _ (ap table_of c.in-Constraint.is))

pub done-requires-in-Period : goal.done-requires-in-Period
done-requires-in-Period g c = c.set_period.ensures.there (allowed_table c.args.directory.now c.args.asker.now c.args.request.now c.requires.allowed _ (ap table_of c.in-Period.is))

pub made-requires-in-CreateUser : goal.made-requires-in-CreateUser
made-requires-in-CreateUser g c =
    c.create_user.ensures.fault
    (allowed_new_user c.args.directory.now c.args.asker.now _ c.in-CreateUser.digest c.in-CreateUser.auths
    (subst (λ r. refusal_of c.args.directory.now c.args.asker.now r ≡ None) c.in-CreateUser.is c.requires.allowed))

pub done-requires-in-DropUser : goal.done-requires-in-DropUser
done-requires-in-DropUser g c = c.drop_user.ensures.there (allowed_user c.args.directory.now c.args.asker.now c.args.request.now c.requires.allowed _ (ap user_of c.in-DropUser.is))

pub done-requires-in-Token : goal.done-requires-in-Token
done-requires-in-Token g c = c.set_token.ensures.there (allowed_user c.args.directory.now c.args.asker.now c.args.request.now c.requires.allowed _ (ap user_of c.in-Token.is))

pub done-requires-in-Auths : goal.done-requires-in-Auths
done-requires-in-Auths g c = c.set_auths.ensures.there (allowed_user c.args.directory.now c.args.asker.now c.args.request.now c.requires.allowed _ (ap user_of c.in-Auths.is))

pub done-requires-in-GrantSystem : goal.done-requires-in-GrantSystem
done-requires-in-GrantSystem g c = c.grant_system.ensures.there (allowed_user c.args.directory.now c.args.asker.now c.args.request.now c.requires.allowed _ (ap user_of c.in-GrantSystem.is))

pub done-requires-in-RevokeSystem : goal.done-requires-in-RevokeSystem
done-requires-in-RevokeSystem g c = c.revoke_system.ensures.there (allowed_user c.args.directory.now c.args.asker.now c.args.request.now c.requires.allowed _ (ap user_of c.in-RevokeSystem.is))

pub made-requires-in-GrantTable : goal.made-requires-in-GrantTable
made-requires-in-GrantTable g c =
    c.grant_table.ensures.fault
    (allowed_table c.args.directory.now c.args.asker.now c.args.request.now c.requires.allowed _ (ap table_of c.in-GrantTable.is))
    (allowed_user c.args.directory.now c.args.asker.now c.args.request.now c.requires.allowed _ (ap user_of c.in-GrantTable.is))

pub done-requires-in-RevokeTable : goal.done-requires-in-RevokeTable
done-requires-in-RevokeTable g c =
    c.revoke_table.ensures.there
    (allowed_table c.args.directory.now c.args.asker.now c.args.request.now c.requires.allowed _ (ap table_of c.in-RevokeTable.is))
    (allowed_user c.args.directory.now c.args.asker.now c.args.request.now c.requires.allowed _ (ap user_of c.in-RevokeTable.is))

pub made-requires-in-GrantNamespace : goal.made-requires-in-GrantNamespace
made-requires-in-GrantNamespace g c = c.grant_namespace.ensures.fault (allowed_user c.args.directory.now c.args.asker.now c.args.request.now c.requires.allowed _ (ap user_of c.in-GrantNamespace.is))

pub done-requires-in-RevokeNamespace : goal.done-requires-in-RevokeNamespace
done-requires-in-RevokeNamespace g c =
    c.revoke_namespace.ensures.there
    (allowed_user c.args.directory.now c.args.asker.now c.args.request.now c.requires.allowed _ (ap user_of c.in-RevokeNamespace.is))
