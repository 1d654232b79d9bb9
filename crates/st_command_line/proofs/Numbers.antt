-- The numbers of a command line, and what a server's words are refused for.
use Rattle.std.specs.Prelude.{Option, Some, None, Result, Ok, false, true, is_ok}
use Rattle.std.specs.Net.Grammar.{IsIpv4Text}
use Rattle.std.proofs.lemmas.Bool.{false≢true}
use Rattle.std.specs.Str.Parse.{IsNumeral, digits_value, without_leading_plus}
use Rattle.std.proofs.Common.{ap, ◌≡◌, ◌∙◌, ◌<◌, ◌^◌, List, refl, sym, subst}
use Rattle.std.specs.declared.net.ipv4_addr.Ipv4Addr.{Ipv4Addr}
use Rattle.clap.specs.Words.{found_of, one_of, one_text}
use Rattle.clap.specs.declared.parser.matches.ArgMatches.{ArgMatches}
use Rattle.clap.proofs.WalkLemmas.{one_text-rows}
use Rattle.st_text.specs.Texts.{Text, is_among}
use Rattle.st_command_line.specs.declared.fault.Fault.{Fault}
use Rattle.st_command_line.specs.declared.fault.Fault.TheVariants.{BadAddress, BadNumber, WantsCopy, WantsBindAddress, WantsPort}
use Rattle.st_command_line.specs.Common as common
use Rattle.st_command_line.specs.inner.Commands.{IsParsed}
use Rattle.st_command_line.specs.ServedArguments.{Gives, HasBad, RefusesServedWords, Writes, value_of, served_command}

-- what a command line is refused for by the root's option and the names, a server's is too
pub widens : (words : List Text) (fault : Fault) → common.RefusesWords served_command words fault → RefusesServedWords words fault
widens words BadNumber h = absurd h
widens words BadAddress h = absurd h
widens words WantsCopy h = absurd h
widens words WantsBindAddress h = absurd h
widens words WantsPort h = absurd h
widens words _ h = h

-- the text of a number is the one that the matches have
text_is : (words : List Text) (id : Text) (matches : ArgMatches) → IsParsed served_command words matches → one_text (found_of matches) id ≡ value_of id words
text_is words id matches parsed = one_text-rows (found_of matches) id ∙ ap (one_of id) parsed.rows_are

-- what is read of the matches is what the words give
pub value_read : {B : Type 0} (writes : Text → B → Type 0) (words : List Text) (id : Text) (matches : ArgMatches) → IsParsed served_command words matches
    → (value : Option B) → Gives writes (one_text (found_of matches) id) value → Gives writes (value_of id words) value
value_read writes words id matches parsed value gives = subst (λ text. Gives writes text value) (text_is words id matches parsed) gives

-- the text is there, and writes no value
abbrev pub GivesNone : {B : Type 0} → (Text → B → Type 0) → Option Text → Type 0
GivesNone {B} writes given = (text : Text) × (given ≡ Some text) × ((value : B) → writes text value → ⊥)

-- a text that is read as no value writes none
pub bad_value : {B : Type 0} (options : List Text) (writes : Text → B → Type 0) (words : List Text) (id : Text) (matches : ArgMatches)
    → is_among options id ≡ true → IsParsed served_command words matches
    → GivesNone writes (one_text (found_of matches) id) → HasBad options writes words
bad_value options writes words id matches among parsed unread =
    let bad = subst (GivesNone writes) (text_is words id matches parsed) unread in
    (id, bad.0, among, parsed.whole, bad.1, bad.2)

-- the text is there, and is read as no number below 2^16
abbrev pub IsUnread : Option Text → Type 0
IsUnread None = ⊥
IsUnread (Some text) = IsNumeral 10 (without_leading_plus text) × (digits_value 10 (without_leading_plus text) < 2 ^ 16) → ⊥

pub no_number : (text : Option Text) → IsUnread text → GivesNone Writes text
no_number None unread = absurd unread
no_number (Some text) unread = (text, refl, λ number wrote. unread (wrote.numeral, wrote.fits))

-- a text that no address is read from
pub no_address : {E : Type 0} (text : Option Text) (read : Result (Option Ipv4Addr) E) → is_ok read ≡ false → (text ≡ None → read ≡ Ok None)
    → ((t : Text) → text ≡ Some t → (address : Ipv4Addr) → IsIpv4Text t address → ⊥) → GivesNone IsIpv4Text text
no_address None read failed none value = absurd (false≢true (sym failed ∙ ap is_ok (none refl)))
no_address (Some text) read failed none value = (text, refl, value text refl)
