-- A stage of the code, which no reader has to believe.
use Rattle.std.specs.Prelude.{◌≡◌, ℕ, List, Result}
use Rattle.st_http.specs.declared.routes.Endpoint.{Endpoint}
use Rattle.st_policy.specs.declared.refusal.Refusal.{Refusal}
use Rattle.st_policy.specs.declared.request.Request.{Request}
use Rattle.st_core.specs.declared.asked.Call.{Call}
use Rattle.st_json.specs.Bodies.{Decoded}
use Rattle.st_service.specs.Answers.{call_from}

-- the call that an endpoint, the name in its path and a body make
abbrev pub Calls : {A : Type 0} → Endpoint → List ℕ → List ℕ → Call A → Type 0
Calls {A} endpoint name body call =
    (decoded : Result (Request A) Refusal) × Decoded endpoint name body decoded × (call ≡ call_from decoded)
