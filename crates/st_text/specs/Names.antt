-- Which texts are names of users, namespaces and tables.
use Rattle.std.specs.Prelude.{ℕ, ◌&&◌, ◌||◌, ◌==◌, nat_le, nat_lt, length, Bool, Option, Some, None, if◌then◌else◌}
use Rattle.std.specs.List.{list_all, position_or_len, before_first, after_first}
use Rattle.std.specs.Char.{is_ascii_alphanumeric}
use Rattle.st_text.specs.Texts.{Text}

-- A-Z a-z 0-9 _
abbrev pub is_name_byte : ℕ → Bool
is_name_byte b = is_ascii_alphanumeric b || b == 95

-- a name: 1 to 32 of them
abbrev pub is_name : Text → Bool
is_name text = nat_lt 0 (length text) && nat_le (length text) 32 && list_all is_name_byte text

-- `.`
abbrev pub is_dot : ℕ → Bool
is_dot b = b == 46

abbrev pub has_dot : Text → Bool
has_dot text = nat_lt (position_or_len is_dot text) (length text)

-- a name, or a namespace, one dot and a name
abbrev pub is_table_name : Text → Bool
is_table_name text = if has_dot text then is_name (before_first is_dot text) && is_name (after_first is_dot text) else is_name text

-- the namespace of a table, where its name has one
abbrev pub namespace_of : Text → Option Text
namespace_of table = if has_dot table then Some (before_first is_dot table) else None
