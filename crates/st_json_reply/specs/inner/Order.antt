-- Objects whose keys are in byte order, each once. `law::keys_in_order` states that the objects of all replies are.
use Rattle.std.specs.Prelude.{ℕ, List, ◌&&◌, Bool, true, false}
use Rattle.std.specs.Ordering.{nat_cmp, match_ordering}
use Rattle.std.specs.Cmp.Lexicographic.{slice_cmp}
use Rattle.serde_json.specs.Data.{Data, array, object, Items, no_items, item, Members, no_members, member}

-- the key comes before the first of the members
abbrev pub is_before : List ℕ → Members → Bool
is_before k no_members = true
is_before k (member l d ms) = match_ordering (slice_cmp nat_cmp k l) true false false

abbrev mutual
  pub keys_rise : Data → Bool
  keys_rise (array ds) = items_keys_rise ds
  keys_rise (object ms) = members_keys_rise ms
  keys_rise _ = true

  pub items_keys_rise : Items → Bool
  items_keys_rise no_items = true
  items_keys_rise (item d ds) = keys_rise d && items_keys_rise ds

  pub members_keys_rise : Members → Bool
  members_keys_rise no_members = true
  members_keys_rise (member k d ms) = is_before k ms && (keys_rise d && members_keys_rise ms)
