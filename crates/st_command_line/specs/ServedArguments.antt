-- The command line `st_served --root DIGEST (--port P [--listen ADDRESS] | --socket PATH) [--store FILE] [--compact] [--copy FILE]
-- [--copy-every SECONDS] [--connections N] [--workers N] [--timeout SECONDS] [--idle SECONDS] [NAME]...`: what its words say, and why
-- words are refused.
use Rattle.std.specs.Prelude.{◌≡◌, ◌<◌, ◌^◌, ℕ, List, [], ◌∷◌, ◌++◌, Option, Some, None, IsSome}
use Rattle.std.specs.Prelude.{codes, decimal, if◌then◌else◌, is_some, map, max, pos, true, unwrap_or}
use Rattle.std.specs.Str.Parse.{IsNumeral, digits_value, without_leading_plus}
use Rattle.std.specs.Net.Addr.{ipv4_octets}
use Rattle.std.specs.Net.Grammar.{IsIpv4Text}
use Rattle.std.specs.Net.Socket.{v4_ip}
use Rattle.std.specs.declared.net.ipv4_addr.Ipv4Addr.{Ipv4Addr}
use Rattle.std.specs.declared.net.socket_addr.SocketAddrV4.{SocketAddrV4}
use Rattle.std.specs.List.{fold}
use Rattle.clap.specs.Words.{App, Rule, fault_of, matches_of, new_app, one_of, with_rule}
use Rattle.st_text.specs.Texts.{Text, is_among}
use Rattle.st_command_line.specs.declared.fault.Fault.{Fault}
use Rattle.st_command_line.specs.declared.fault.Fault.TheVariants.{BadAddress, BadNumber, WantsCopy, WantsBindAddress, WantsPort}
use Rattle.st_command_line.specs.declared.served_arguments.BindAddress.{BindAddress}
use Rattle.st_command_line.specs.declared.served_arguments.BindAddress.TheVariants.{Port, Socket}
use Rattle.st_command_line.specs.declared.served_arguments.ServedArguments.{ServedArguments}
use Rattle.st_command_line.specs.Common as common
use Rattle.st_command_line.specs.Common.{SaysRoot, NamesItsStore, file_of, has_flag, path_in}
use Rattle.st_command_line.specs.Common.{compact_flag, name_operand, number_rule, option_rule, root_option, with_version}

-- whose the server is, and where it listens
abbrev pub place_rules : List Rule
place_rules = root_option ∷ number_rule (codes "port") (pos 1) (pos 65535) ∷ option_rule (codes "socket") ∷ []

-- its store, and the copy of it
abbrev pub store_rules : List Rule
store_rules =
    option_rule (codes "store") ∷ compact_flag ∷ option_rule (codes "copy") ∷ number_rule (codes "copy-every") (pos 1) (pos 3600) ∷ []

-- how many clients it meets, and by how many workers
abbrev pub count_rules : List Rule
count_rules = number_rule (codes "connections") (pos 0) (pos 1000) ∷ number_rule (codes "workers") (pos 1) (pos 256) ∷ []

-- how many seconds it waits for a client
abbrev pub time_rules : List Rule
time_rules = number_rule (codes "timeout") (pos 1) (pos 3600) ∷ number_rule (codes "idle") (pos 1) (pos 3600) ∷ []

abbrev pub served_command : App
served_command = fold with_rule (with_version (new_app (codes "st_served")))
    (place_rules ++ store_rules ++ count_rules ++ time_rules ++ option_rule (codes "listen") ∷ name_operand ∷ [])

-- the text writes a number below 2^16 in decimal digits
pub record Writes (text : Text) (number : ℕ) : Type 0 where
  pub numeral : IsNumeral 10 (without_leading_plus text)
  pub fits : digits_value 10 (without_leading_plus text) < 2 ^ 16
  pub is : number ≡ digits_value 10 (without_leading_plus text)

-- the value that an optional text writes, and none without a text
abbrev pub Gives : {B : Type 0} → (Text → B → Type 0) → Option Text → Option B → Type 0
Gives writes None None = Unit {0}
Gives writes (Some text) (Some value) = writes text value
Gives writes _ _ = ⊥

-- the text of an option
abbrev pub value_of : Text → List Text → Option Text
value_of id words = one_of id (matches_of served_command words)

-- the address that one of two optional texts names, a port or a socket
abbrev pub GivesBindAddress : (port socket : Option Text) → BindAddress → Type 0
GivesBindAddress (Some text) None (Port number) = Writes text number
GivesBindAddress None (Some path) (Socket name) = path ≡ name.now
GivesBindAddress _ _ _ = ⊥

-- what is printed of an address: the number of its port, or the path of its socket
abbrev pub address_text : BindAddress → Text
address_text (Port number) = decimal number
address_text (Socket path) = path.now

-- words that give the first of two options give the second
abbrev pub WantsWith : (id other : Text) → List Text → Type 0
WantsWith id other words = IsSome (file_of id served_command words) → IsSome (file_of other served_command words)

-- the words are such a command line, and say this
pub record SaysServed (words : List Text) (said : ServedArguments) : Type 0 where
  pub root : SaysRoot served_command words said.digest.now (map (λ name. name.now) said.names.items)
  pub bind_address_is : GivesBindAddress (value_of (codes "port") words) (file_of (codes "socket") served_command words) said.bind_address
  pub store_is : file_of (codes "store") served_command words ≡ path_in said.store
  pub compacts_is : has_flag (codes "compact") served_command words ≡ said.compacts
  pub stored : NamesItsStore served_command words
  pub copy_is : file_of (codes "copy") served_command words ≡ path_in said.copy
  pub copy_every_is : Gives Writes (value_of (codes "copy-every") words) said.copy_every
  pub copied : WantsWith (codes "copy-every") (codes "copy") words
  pub connections_are : Gives Writes (value_of (codes "connections") words) said.connections
  pub workers_are : Gives Writes (value_of (codes "workers") words) said.workers
  pub timeout_is : Gives Writes (value_of (codes "timeout") words) said.timeout
  pub idle_is : Gives Writes (value_of (codes "idle") words) said.idle
  pub address_is : Gives IsIpv4Text (value_of (codes "listen") words) said.listen
  pub listening : WantsWith (codes "listen") (codes "port") words

-- the options that take a number, and the one that takes an address
abbrev pub number_options : List Text
number_options = codes "port" ∷ codes "copy-every" ∷ codes "connections" ∷ codes "workers" ∷ codes "timeout" ∷ codes "idle" ∷ []

abbrev pub address_options : List Text
address_options = codes "listen" ∷ []

-- the text of one of these options is there, and writes no value
abbrev pub HasBad : {B : Type 0} → (options : List Text) → (Text → B → Type 0) → List Text → Type 0
HasBad {B} options writes words = (id text : Text) × (is_among options id ≡ true)
    × (fault_of served_command words ≡ []) × (value_of id words ≡ Some text) × ((value : B) → writes text value → ⊥)

-- the words do not say where to listen: neither a port nor a socket is named, or both are
abbrev pub HasNoBindAddress : List Text → Type 0
HasNoBindAddress words =
    (fault_of served_command words ≡ [])
    × (is_some (value_of (codes "port") words) ≡ is_some (file_of (codes "socket") served_command words))

-- the words give the first of two options, and not the second, which it wants
abbrev pub HasWithout : (id other : Text) → List Text → Type 0
HasWithout id other words =
    (fault_of served_command words ≡ []) × IsSome (file_of id served_command words) × (file_of other served_command words ≡ None)

-- why the words are refused
abbrev pub RefusesServedWords : List Text → Fault → Type 0
RefusesServedWords words BadNumber = HasBad number_options Writes words
RefusesServedWords words BadAddress = HasBad address_options IsIpv4Text words
RefusesServedWords words WantsBindAddress = HasNoBindAddress words
RefusesServedWords words WantsPort = HasWithout (codes "listen") (codes "port") words
RefusesServedWords words WantsCopy = HasWithout (codes "copy-every") (codes "copy") words
RefusesServedWords words fault = common.RefusesWords served_command words fault

-- where the server listens: at 127.0.0.1 where the words say nothing else
abbrev pub ListensAt : Option Ipv4Addr → SocketAddrV4 → Type 0
ListensAt (Some address) listening = v4_ip listening ≡ address
ListensAt None listening = ipv4_octets (v4_ip listening) ≡ 127 ∷ 0 ∷ 0 ∷ 1 ∷ []

-- how many workers serve, at least one: as many as the words say, or else 2 for a number of connections, and 64 without one
abbrev pub workers_of : ServedArguments → ℕ
workers_of said = max (unwrap_or said.workers (if is_some said.connections then 2 else 64)) 1
