use Rattle.std.proofs.Common.{◌∙◌, sym}
use Rattle.st_http.proofs.TokenLemmas.{name_is_text}
use Rattle.st_http.proofs.token.parse_credentials.Goals as goal

pub unreachable-requires : goal.unreachable-requires
unreachable-requires c =
    c.in-Err.ensures.cases.0 (name_is_text c.split_dot.result.0.now (sym c.is_name.ensures ∙ c.if-not-is_name.false))
