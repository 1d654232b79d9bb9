-- What a record calls an endpoint.
use Rattle.std.specs.Prelude.{ℕ, List, codes}
use Rattle.st_http.specs.declared.routes.Endpoint.{Endpoint}
use Rattle.st_http.specs.declared.routes.Endpoint.TheVariants as endpoints

-- as the audit listing calls the requests
abbrev pub request_of : Endpoint → List ℕ
request_of endpoints.Whoami = codes "whoami"
request_of endpoints.Tables = codes "tables"
request_of endpoints.Users = codes "users"
request_of endpoints.User = codes "user"
request_of endpoints.Grants = codes "grants"
request_of endpoints.NamespaceGrants = codes "namespace-grants"
request_of endpoints.Label = codes "label"
request_of endpoints.Audit = codes "audit"
request_of endpoints.Get = codes "get"
request_of endpoints.Scan = codes "scan"
request_of endpoints.Count = codes "count"
request_of endpoints.Grid = codes "grid"
request_of endpoints.Plan = codes "plan"
request_of endpoints.Put = codes "put"
request_of endpoints.Delete = codes "delete"
request_of endpoints.CreateTable = codes "create-table"
request_of endpoints.DropTable = codes "drop-table"
request_of endpoints.Constraint = codes "constraint"
request_of endpoints.Period = codes "period"
request_of endpoints.CreateUser = codes "create-user"
request_of endpoints.DropUser = codes "drop-user"
request_of endpoints.Token = codes "token"
request_of endpoints.Auths = codes "auths"
request_of endpoints.GrantSystem = codes "grant-system"
request_of endpoints.RevokeSystem = codes "revoke-system"
request_of endpoints.GrantTable = codes "grant-table"
request_of endpoints.RevokeTable = codes "revoke-table"
request_of endpoints.GrantNamespace = codes "grant-namespace"
request_of endpoints.RevokeNamespace = codes "revoke-namespace"
