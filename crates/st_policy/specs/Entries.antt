-- What the audit listing says of a change.
use Rattle.std.specs.Prelude.{ℕ}
use Rattle.st_text.specs.Texts.{Text}
use Rattle.st_policy.specs.declared.entry.Entry.{Entry}
use Rattle.st_policy.specs.declared.request.Request.{Request}
use Rattle.st_policy.specs.Requests.{request_name, target_of}

-- the entry of a request, by who asked and the number of its refusal, or 0
abbrev pub entry_of : {A : Type 0} → Text → Request A → ℕ → Entry
entry_of asker request result = record { request = request_name request; result = result; target = target_of request; user = asker }
