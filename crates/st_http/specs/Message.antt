-- A message as the code has it.
use Rattle.std.specs.Prelude.{◌≡◌, ℕ, Bool, List, length, option_map}
use Rattle.httparse.specs.Grammar.{RequestHead}
use Rattle.st_http.specs.declared.message.Message.{Message}
use Rattle.st_http.specs.Routes.{RepresentsRoute, routed}
use Rattle.st_http.specs.Token.{token_of}
use Rattle.st_http.specs.Fields.{closes_after}
use Rattle.st_http.specs.First.{fields_of, waits_with}

-- the message of this head and this body
pub record RepresentsMessage (h : RequestHead) (body : List ℕ) (bare : Bool) (m : Message) : Type 0 where
  pub route : RepresentsRoute m.route (routed h.method h.target)
  pub token : option_map (λ found. (found.user.now, found.secret)) m.token ≡ token_of (fields_of h)
  pub body_is : m.body.now ≡ body
  pub close : m.close ≡ closes_after h.minor (fields_of h)
  pub bare_is : m.bare ≡ bare
  pub expects_is : m.expects ≡ waits_with h (length body)
