use Rattle.std.proofs.Common.{◌≡◌, rules, find, not, Some, None, sym, subst, true}
use Rattle.st_auth.specs.Names.{first_bad}
use Rattle.st_text.specs.Texts.{is_among}
use Rattle.std.specs.List.{list_all}
use Rattle.st_auth.proofs.Merge.{none_missing}
use Rattle.st_auth.proofs.Sized.{found_is_short}
use Rattle.st_auth.proofs.auths.Auths.missing_from.Goals as goal

pub returns-in-Some-clause-sized : goal.returns-in-Some-clause-sized
returns-in-Some-clause-sized g c =
    let found : find (λ name. not (is_among c.args.self.now name)) c.args.names.now ≡ Some c.as_str.result.now = search rules in
    found_is_short (λ name. not (is_among c.args.self.now name)) c.args.names.now (subst (λ names. first_bad names ≡ None) c.names.view_is c.names.invariant.1) c.as_str.result.now found

pub returns-then-has_all-clause-name : goal.returns-then-has_all-clause-name
returns-then-has_all-clause-name g c =
    let all : list_all (is_among c.args.self.now) c.args.names.now ≡ true = search rules in
    sym (none_missing (is_among c.args.self.now) c.args.names.now all)
