-- That a message as the code has it is that of its head and its body, which no reader has to believe.
use Rattle.std.proofs.Common.{◌≡◌, ℕ, Bool, List, sym, ◌∙◌, subst}
use Rattle.httparse.specs.Grammar.{RequestHead}
use Rattle.st_http.specs.declared.routes.Endpoint.{Endpoint}
use Rattle.st_http.specs.declared.routes.Route.{Route}
use Rattle.st_http.specs.declared.routes.Route.TheVariants as routes
use Rattle.st_http.specs.declared.message.Message.{Message}
use Rattle.st_http.specs.Routes.{Routed, found, no_route, bad_method, RepresentsRoute, routed}
use Rattle.st_http.specs.Message.{RepresentsMessage}
use Rattle.st_core.specs.declared.asked.Asked.{Asked}
use Rattle.st_connection.specs.Connection.{Replied}
use Rattle.st_service.specs.Answers.{AsksBy, AsksIn, ForItems, IsFound, Parsed, parsed, parsed_in, route_in}

-- a route tells one thing, where it tells an endpoint
pub one_route : (route : Route) (endpoint : Endpoint) (name : List ℕ) (r : Routed) → RepresentsRoute route (found endpoint name)
    → RepresentsRoute route r → r ≡ found endpoint name
one_route (routes.Found l n) endpoint name r a b = b ∙ sym a
one_route routes.NoRoute endpoint name r a b = absurd (let e : found endpoint name ≡ no_route = a in cc)
one_route (routes.BadMethod allow) endpoint name r a b = absurd (let e : found endpoint name ≡ bad_method allow.now = a in cc)

pub route_is : (route : Route) (r : Routed) → RepresentsRoute route r → r ≡ route_in route
route_is (routes.Found l n) r is = is
route_is routes.NoRoute r is = is
route_is (routes.BadMethod allow) r is = is

-- what a message asks whose route is an endpoint
pub asks_in : {A : Type 0} (m : Message) (asked : Asked A) → IsFound m → AsksBy m asked → AsksIn (parsed_in m) asked
asks_in m asked (endpoint, name, at) asks = record {
  endpoint = endpoint;
  name = name;
  route = sym (route_is m.route (found endpoint name) at);
  asks = asks endpoint name at;
}

pub same_parsed : (h : RequestHead) (body : List ℕ) (bare : Bool) (m : Message) → RepresentsMessage h body bare m
    → parsed_in m ≡ parsed h body bare
same_parsed h body bare m represents = λ i. record {
  route = sym (route_is m.route (routed h.method h.target) represents.route) i;
  token = represents.token i;
  body = represents.body_is i;
  close = represents.close i;
  bare = represents.bare_is i;
}

-- a message's answer is one of the items that it may be
pub is_replied : {S : Type 0} (step : S → Parsed → List ℕ → S → Type 0) (s t : S) (m : Message) (bytes : List ℕ)
    → step s (parsed_in m) bytes t
    → Replied (ForItems step) s m bytes t
is_replied step s t m bytes replied h body bare represents =
    subst (λ (p : Parsed). step s p bytes t) (same_parsed h body bare m represents) replied
