-- A stage of the code, which no reader has to believe: how an endpoint is found by its name.
use Rattle.std.specs.Prelude.{ℕ, List, [], ◌∷◌, find, Option}
use Rattle.std.specs.Str.{bytes_eq}
use Rattle.st_http.specs.declared.routes.Endpoint.{Endpoint}
use Rattle.st_http.specs.declared.routes.Endpoint.TheVariants as endpoints
use Rattle.st_journal_record.specs.Names.{request_of}

-- all endpoints, each once
unfoldable pub all_endpoints : List Endpoint
all_endpoints =
    endpoints.Whoami ∷ endpoints.Tables ∷ endpoints.Users ∷ endpoints.User ∷ endpoints.Grants
    ∷ endpoints.NamespaceGrants ∷ endpoints.Label ∷ endpoints.Audit ∷ endpoints.Get ∷ endpoints.Scan
    ∷ endpoints.Count ∷ endpoints.Grid ∷ endpoints.Plan ∷ endpoints.Put ∷ endpoints.Delete
    ∷ endpoints.CreateTable ∷ endpoints.DropTable ∷ endpoints.Constraint ∷ endpoints.Period ∷ endpoints.CreateUser
    ∷ endpoints.DropUser ∷ endpoints.Token ∷ endpoints.Auths ∷ endpoints.GrantSystem ∷ endpoints.RevokeSystem
    ∷ endpoints.GrantTable ∷ endpoints.RevokeTable ∷ endpoints.GrantNamespace ∷ endpoints.RevokeNamespace ∷ []

-- the endpoint that is called so
abbrev pub endpoint_named : List ℕ → Option Endpoint
endpoint_named request = find (λ e. bytes_eq (request_of e) request) all_endpoints
