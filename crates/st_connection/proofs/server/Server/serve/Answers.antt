use Rattle.std.proofs.Common.{◌≡◌, sym, subst}
use Rattle.st_connection.specs.Connection.{ServedWithin}
use Rattle.st_connection.specs.Streams.{streams}
use Rattle.st_connection.proofs.server.Server.serve.Goals as goal

pub returns-clause-served : goal.returns-clause-served
returns-clause-served g c =
    let served = c.serve_connection in
    subst (λ (x : g.row.X.Denot). ServedWithin g.X.Replies.answers 0 (g.X.Replies.now x) (g.X.Replies.now served.new.answerer)
    (g.X.Replies.kept served.new.answerer)
    (streams g.R.Source g.W.Sink c.args.reader.now
    served.new.reader c.args.writer.now served.new.writer) served.result)
    c.self.view_is served.ensures.served

pub serve_connection-requires-clause-answerer_synced : goal.serve_connection-requires-clause-answerer_synced
serve_connection-requires-clause-answerer_synced g c = subst (λ (x : g.row.X.Denot). g.X.Replies.kept x ≡ g.X.Replies.now x) (sym c.self.view_is) c.requires.synced
