-- A message in the words of the grammar. `law::message_is` states that a text begins with one where its first item is a message.
use Rattle.std.specs.Prelude.{◌≡◌, ℕ, ◌≤◌, Bool, List, ◌++◌, length, Ok}
use Rattle.httparse.specs.Grammar.{RequestHead, ReadsRequest, print_request}
use Rattle.st_http.specs.Fields.{body_length_of}
use Rattle.st_http.specs.First.{fields_of}
use Rattle.st_http.specs.Head.{DecidesBare}

-- the text begins with this head and this body
pub record IsMessage (text : List ℕ) (h : RequestHead) (body : List ℕ) (bare : Bool) : Type 0 where
  pub rest : List ℕ
  pub reads : ReadsRequest text h (body ++ rest)
  pub in_window : length (print_request h) ≤ 8192
  pub few : length h.fields ≤ 64
  pub length_is : body_length_of h.minor (fields_of h) ≡ Ok (length body)
  pub decides : DecidesBare text bare
