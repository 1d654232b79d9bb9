-- The state that a digest and names open, and how it is said in a journal.
use Rattle.std.specs.Prelude.{◌≡◌, ◌++◌, ℕ, None, Ok, List, T, codes, decimal, length, nat_le, ⊤}
use Rattle.std.specs.List.{flat_map}
use Rattle.std.specs.declared.alloc.Global.{Global}
use Rattle.hex.specs.Hex.{decode_sized, encode_lower}
use Rattle.st_text.specs.Texts.{Text}
use Rattle.st_auth.specs.Names.{first_bad}
use Rattle.st_core.specs.State.{State, first_state}
use Rattle.st_command_line.specs.declared.fault.Fault.{Fault}
use Rattle.st_command_line.specs.declared.fault.Fault.TheVariants.{StoreIo, NoMemory}
use Rattle.st_command_line.specs.Status.{exit_status_of}

-- the state that a server begins with: root has these authorizations, each of them valid, and the digest that the
-- 64 hexadecimal digits write
pub record OpensState (digits : Text) (names : List Text) (state : State Global) : Type 0 where
  pub digest : List ℕ
  pub written : decode_sized digits 32 ≡ Ok digest
  pub good : first_bad names ≡ None
  pub is : state ≡ first_state digest names

-- a name behind its length in bytes
abbrev pub sized_name : Text → Text
sized_name name = codes " " ++ (decimal (length name) ++ (codes ":" ++ name))

unfoldable pub names_text : List Text → Text
names_text names = flat_map sized_name names

-- what a journal says that its store was opened with: root's digest in 64 lower-case hexadecimal digits, and root's authorizations
-- in the order given
abbrev pub opening_text : List ℕ → List Text → Text
opening_text digest names = encode_lower digest ++ names_text names

-- the state that a server begins with, and how a journal says it
pub record OpensWith (digits : Text) (names : List Text) (state : State Global) (opening : Text) : Type 0 where
  pub opens : OpensState digits names state
  pub opening_is : opening ≡ opening_text opens.digest names

-- why the journal of a store is not opened: a read or a write failed, memory ran out, or a cause whose status, 8 or more, says just that
abbrev pub IsOfStore : Fault → Type 0
IsOfStore StoreIo = ⊤
IsOfStore NoMemory = ⊤
IsOfStore fault = T (nat_le 8 (exit_status_of fault))

-- a run ends by a fault of such a cause, which the status says, and did nothing
pub record Fails (causes : Fault → Type 0) (nothing : Type 0) (status : ℕ) : Type 0 where
  pub fault : Fault
  pub why : causes fault
  pub status_is : status ≡ exit_status_of fault
  pub idle : nothing
