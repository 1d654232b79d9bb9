use Rattle.std.proofs.Common.{◌≡◌, ◌++◌, drop, map, string_bytes}
use Rattle.st_command.specs.Opening.{names_text}
use Rattle.st_command.proofs.opening.push_names.Given as goal

abbrev pub invariant-loop-name : goal.invariant-loop-name
invariant-loop-name l =
    string_bytes l.text ++ names_text (map (λ name. name.now) (drop l.name-index l.names))
    ≡ string_bytes l.fn.text ++ names_text (map (λ name. name.now) l.names)
