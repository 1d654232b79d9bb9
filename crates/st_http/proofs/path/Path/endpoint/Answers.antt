use Rattle.std.proofs.Common.{option_map, ◌∙◌, sym, ap}
use Rattle.st_http.specs.Paths.{endpoints_of}
use Rattle.st_http.proofs.EndpointLemmas.{endpoint_told}
use Rattle.st_http.proofs.path.Path.endpoint.Goals as goal

pub returns-in-Some : goal.returns-in-Some
returns-in-Some c =
    let told = endpoint_told (λ row. row.now) (λ row. (row.0.now, row.1)) c.endpoints.result.now c.args.method.now (endpoints_of c.args.self) c.row_of.result c.row_of.ensures c.endpoints.ensures in
    sym (ap (option_map (λ row. row.now.1)) c.in-Some.is) ∙ told

pub returns-in-None : goal.returns-in-None
returns-in-None c =
    let told = endpoint_told (λ row. row.now) (λ row. (row.0.now, row.1)) c.endpoints.result.now c.args.method.now (endpoints_of c.args.self) c.row_of.result c.row_of.ensures c.endpoints.ensures in
    sym (ap (option_map (λ row. row.now.1)) c.in-None.is) ∙ told
