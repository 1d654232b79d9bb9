-- The record of what a user asked, and what it is read as.
use Rattle.std.specs.Prelude.{◌≡◌, ℕ, List, [], if◌then◌else◌}
use Rattle.st_http.specs.declared.routes.Endpoint.{Endpoint}
use Rattle.st_json.specs.Bodies.{Answer, Decoded, has_body}
use Rattle.st_journal.specs.declared.record.Record.{Record}
use Rattle.st_journal_record.specs.Names.{request_of}

-- the bytes of the body as they came, where the endpoint reads them
abbrev pub kept_body : Endpoint → List ℕ → List ℕ
kept_body endpoint body = if has_body endpoint then body else []

-- what a user asked by this endpoint, with this name in the path and this body
pub record IsRecordOf (r : Record) (user : List ℕ) (endpoint : Endpoint) (name body : List ℕ) : Type 0 where
  pub user_is : r.user ≡ user
  pub request_is : r.request ≡ request_of endpoint
  pub name_is : r.name ≡ name
  pub body_is : r.body ≡ kept_body endpoint body

-- the request that the record makes, or its refusal
abbrev pub ReadsAs : {A : Type 0} → Record → Answer A → Type 0
ReadsAs r answer = (endpoint : Endpoint) × (r.request ≡ request_of endpoint) × Decoded endpoint r.name r.body answer
