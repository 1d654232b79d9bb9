use Rattle.std.proofs.Common.{rules, ◌≡◌, true, IfOk, sym, ap, subst}
use Rattle.st_policy.specs.declared.reply.Reply.{Reply}
use Rattle.st_policy.specs.Requests.{table_of}
use Rattle.st_dir.specs.Directory.{is_table}
use Rattle.st_core.specs.State.{State}
use Rattle.st_core.specs.Reads.{shown}
use Rattle.st_core.proofs.Allowed.{allowed_table}
use Rattle.st_core.proofs.store.Store.read.Goals as goal

pub returns-in-Scan : goal.returns-in-Scan
returns-in-Scan g c =
    let is = ap (shown c.args.self.now c.args.asker.now) (sym c.in-Scan.is) in
    subst (λ (told : Reply g.row.A.Denot). IfOk c.page.result (λ reply. reply ≡ told)) is c.page.ensures

pub returns-in-Count : goal.returns-in-Count
returns-in-Count g c = search rules

pub grants-requires : goal.grants-requires
grants-requires g c =
    let there = allowed_table c.args.self.now.directory c.args.asker.now c.args.request.now c.requires.allowed _ (ap table_of c.in-Grants.is) in
    subst (λ (s : State g.row.A.Denot). is_table s.directory c.in-Grants.table ≡ true) (sym c.self.view_is) there

pub get-requires : goal.get-requires
get-requires g c = allowed_table c.args.self.now.directory c.args.asker.now c.args.request.now c.requires.allowed _ (ap table_of c.in-Get.is)

pub page-requires : goal.page-requires
page-requires g c = allowed_table c.args.self.now.directory c.args.asker.now c.args.request.now c.requires.allowed _ (ap table_of c.in-Scan.is)

pub count-requires : goal.count-requires
count-requires g c = allowed_table c.args.self.now.directory c.args.asker.now c.args.request.now c.requires.allowed _ (ap table_of c.in-Count.is)

pub grid-requires : goal.grid-requires
grid-requires g c = allowed_table c.args.self.now.directory c.args.asker.now c.args.request.now c.requires.allowed _ (ap table_of c.in-Grid.is)

pub plan-requires : goal.plan-requires
plan-requires g c = allowed_table c.args.self.now.directory c.args.asker.now c.args.request.now c.requires.allowed _ (ap table_of c.in-Plan.is)
