-- The paths, and the endpoints of each.
use Rattle.std.specs.Prelude.{ℕ, List, [], ◌∷◌, find, codes, option_map, Option}
use Rattle.std.specs.List.{join_by}
use Rattle.std.specs.Str.{bytes_eq}
use Rattle.st_http.specs.declared.path.Path.{Path}
use Rattle.st_http.specs.declared.path.Path.TheVariants as paths
use Rattle.st_http.specs.declared.routes.Endpoint.{Endpoint}
use Rattle.st_http.specs.declared.routes.Endpoint.TheVariants as endpoints

-- How a path is written, with a placeholder for the name in it; and its endpoints, each with its method (RFC 9110, "Methods"), in
-- the order DELETE, GET, POST.
abbrev pub served_at : Path → List ℕ × List (List ℕ × Endpoint)
served_at paths.Whoami = (codes "/whoami", (codes "GET", endpoints.Whoami) ∷ [])
served_at paths.Tables = (codes "/tables", (codes "GET", endpoints.Tables) ∷ (codes "POST", endpoints.CreateTable) ∷ [])
served_at paths.Users = (codes "/users", (codes "GET", endpoints.Users) ∷ (codes "POST", endpoints.CreateUser) ∷ [])
served_at paths.User = (codes "/users/{user}", (codes "DELETE", endpoints.DropUser) ∷ (codes "GET", endpoints.User) ∷ [])
served_at paths.Grants = (codes "/tables/{table}/grants", (codes "GET", endpoints.Grants) ∷ [])
served_at paths.NamespaceGrants = (codes "/namespaces/{namespace}/grants", (codes "GET", endpoints.NamespaceGrants) ∷ [])
served_at paths.Label = (codes "/label", (codes "POST", endpoints.Label) ∷ [])
served_at paths.Audit = (codes "/audit", (codes "GET", endpoints.Audit) ∷ [])
served_at paths.Get = (codes "/tables/{table}/get", (codes "POST", endpoints.Get) ∷ [])
served_at paths.Scan = (codes "/tables/{table}/scan", (codes "POST", endpoints.Scan) ∷ [])
served_at paths.Count = (codes "/tables/{table}/count", (codes "POST", endpoints.Count) ∷ [])
served_at paths.Grid = (codes "/tables/{table}/grid", (codes "POST", endpoints.Grid) ∷ [])
served_at paths.Plan = (codes "/tables/{table}/plan", (codes "POST", endpoints.Plan) ∷ [])
served_at paths.Put = (codes "/tables/{table}/put", (codes "POST", endpoints.Put) ∷ [])
served_at paths.Delete = (codes "/tables/{table}/delete", (codes "POST", endpoints.Delete) ∷ [])
served_at paths.Table = (codes "/tables/{table}", (codes "DELETE", endpoints.DropTable) ∷ [])
served_at paths.Constraint = (codes "/tables/{table}/constraint", (codes "POST", endpoints.Constraint) ∷ [])
served_at paths.Period = (codes "/tables/{table}/period", (codes "POST", endpoints.Period) ∷ [])
served_at paths.Token = (codes "/users/{user}/token", (codes "POST", endpoints.Token) ∷ [])
served_at paths.Auths = (codes "/users/{user}/auths", (codes "POST", endpoints.Auths) ∷ [])
served_at paths.GrantSystem = (codes "/users/{user}/grant", (codes "POST", endpoints.GrantSystem) ∷ [])
served_at paths.RevokeSystem = (codes "/users/{user}/revoke", (codes "POST", endpoints.RevokeSystem) ∷ [])
served_at paths.GrantTable = (codes "/tables/{table}/grant", (codes "POST", endpoints.GrantTable) ∷ [])
served_at paths.RevokeTable = (codes "/tables/{table}/revoke", (codes "POST", endpoints.RevokeTable) ∷ [])
served_at paths.GrantNamespace = (codes "/namespaces/{namespace}/grant", (codes "POST", endpoints.GrantNamespace) ∷ [])
served_at paths.RevokeNamespace = (codes "/namespaces/{namespace}/revoke", (codes "POST", endpoints.RevokeNamespace) ∷ [])

abbrev pub pattern_of : Path → List ℕ
pattern_of path = (served_at path).0

abbrev pub endpoints_of : Path → List (List ℕ × Endpoint)
endpoints_of path = (served_at path).1

-- all paths, each once
unfoldable pub all_paths : List Path
all_paths =
    paths.Whoami ∷ paths.Tables ∷ paths.Users ∷ paths.User ∷ paths.Grants ∷ paths.NamespaceGrants ∷ paths.Label ∷ paths.Audit
    ∷ paths.Get ∷ paths.Scan ∷ paths.Count ∷ paths.Grid ∷ paths.Plan ∷ paths.Put ∷ paths.Delete
    ∷ paths.Table ∷ paths.Constraint ∷ paths.Period ∷ paths.Token ∷ paths.Auths
    ∷ paths.GrantSystem ∷ paths.RevokeSystem ∷ paths.GrantTable ∷ paths.RevokeTable ∷ paths.GrantNamespace ∷ paths.RevokeNamespace ∷ []

-- the methods of these endpoints, joined by a comma and a space (RFC 9110, "Allow")
abbrev pub allow_of : List (List ℕ × Endpoint) → List ℕ
allow_of endpoints = join_by (λ endpoint. endpoint.0) (codes ", ") endpoints

-- which of the endpoints has this method
abbrev pub endpoint_of : List ℕ → List (List ℕ × Endpoint) → Option Endpoint
endpoint_of method rows = option_map (λ endpoint. endpoint.1) (find (λ endpoint. bytes_eq endpoint.0 method) rows)
