-- Routing: the endpoint that a method and a target name.
use Rattle.std.specs.Prelude.{◌≡◌, ℕ, Bool, ◌==◌, if◌then◌else◌, List, [], ◌++◌, take, fold, codes, option_map, Option, Result, Ok, Err}
use Rattle.std.specs.List.{before_first, after_first}
use Rattle.std.specs.Option.{option_map_or}
use Rattle.std.specs.Str.{str_eq_ignore_ascii_case}
use Rattle.matchit.specs.Rows.{RowsOf}
use Rattle.matchit.specs.Seek.{first}
use Rattle.matchit.specs.Route.{Scan, parse_route}
use Rattle.matchit.specs.Router.{RouteOf, route_from}
use Rattle.matchit.specs.Order.{placed}
use Rattle.matchit.specs.declared.error.InsertError.{InsertError}
use Rattle.st_http.specs.declared.path.Path.{Path}
use Rattle.st_http.specs.declared.routes.Endpoint.{Endpoint}
use Rattle.st_http.specs.declared.routes.Route.{Route}
use Rattle.st_http.specs.declared.routes.Route.TheVariants as answers
use Rattle.st_http.specs.Paths.{pattern_of, all_paths, endpoints_of, allow_of, endpoint_of}

-- `/`
abbrev pub is_slash : ℕ → Bool
is_slash b = b == 47

-- the text from its first slash on, or a slash where it has none
abbrev pub from_slash : List ℕ → List ℕ
from_slash text = codes "/" ++ after_first is_slash text

-- the text begins with `http://`, in any case
abbrev pub is_absolute : List ℕ → Bool
is_absolute text = str_eq_ignore_ascii_case (take 7 text) (codes "http://")

-- the path of a target: what stands before its query (63 is `?`), and in the absolute form after its authority
-- (RFC 9112, "Request Target"; RFC 3986, "Syntax Components")
unfoldable pub path_of : List ℕ → List ℕ
path_of target =
    let front = before_first (λ b. b == 63) target in
    if is_absolute front then from_slash (after_first is_slash (after_first is_slash front)) else front

-- the name in a path: what stands between its second slash and its third, and nothing where there is no second one
abbrev pub name_in : List ℕ → List ℕ
name_in path = before_first is_slash (after_first is_slash (after_first is_slash path))

abbrev pub Rows : Type 0
Rows = RowsOf (RouteOf Path)

-- the rows and one more path, if its text is a route
abbrev pub with_read : Result Scan InsertError → Path → Rows → Rows
with_read (Ok scan) path rows = placed (scan.pattern, route_from scan path) rows
with_read (Err e) path rows = rows

abbrev pub with_path : Rows → Path → Rows
with_path rows path = with_read (parse_route (pattern_of path)) path rows

-- what a router holds after these paths were inserted in order
unfoldable pub routes : Rows
routes = fold with_path [] all_paths

-- the known path that a path matches
abbrev pub path_at : List ℕ → Option Path
path_at path = option_map (λ route. route.value) (first routes path)

-- what a method and a target name
pub data Routed : Type 0 where
  -- an endpoint, and the name in the path
  found : Endpoint → List ℕ → Routed
  no_route : Routed
  -- the path has other methods, those of this text
  bad_method : List ℕ → Routed

-- what a method names at a path in which this name stands
abbrev pub at_path : List ℕ → List ℕ → Path → Routed
at_path method name path =
    option_map_or (λ endpoint. found endpoint name) (endpoint_of method (endpoints_of path)) (bad_method (allow_of (endpoints_of path)))

unfoldable pub routed : List ℕ → List ℕ → Routed
routed method target = option_map_or (at_path method (name_in (path_of target))) (path_at (path_of target)) no_route

-- the code's answer is this
abbrev pub RepresentsRoute : Route → Routed → Type 0
RepresentsRoute (answers.Found endpoint name) r = r ≡ found endpoint name.now
RepresentsRoute answers.NoRoute r = r ≡ no_route
RepresentsRoute (answers.BadMethod allow) r = r ≡ bad_method allow.now
