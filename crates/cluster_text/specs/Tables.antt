-- What stands in a table of a TOML document.
use Rattle.std.specs.Prelude.{ℕ, ℤ, Bool, List, [], ◌∷◌, Option, is_some, option_and_then, option_map}
use Rattle.std.specs.List.{list_all, flat_map}
use Rattle.std.specs.Option.{option_map_or, option_to_list}
use Rattle.toml.specs.Data.{Data, Items, no_items, item, Members, no_members, member, get_member, as_str, as_integer, as_array, as_table}

-- the keys of a table
abbrev pub keys_of : Members → List (List ℕ)
keys_of no_members = []
keys_of (member key value more) = key ∷ keys_of more

-- the values of a list
abbrev pub values_of : Items → List Data
values_of no_items = []
values_of (item value more) = value ∷ values_of more

abbrev pub has : (key : List ℕ) → Members → Bool
has key t = is_some (get_member key t)

-- the value of a key, where it is of the type
abbrev pub text_at : (key : List ℕ) → Members → Option (List ℕ)
text_at key t = option_and_then as_str (get_member key t)

abbrev pub integer_at : (key : List ℕ) → Members → Option ℤ
integer_at key t = option_and_then as_integer (get_member key t)

abbrev pub list_at : (key : List ℕ) → Members → Option (List Data)
list_at key t = option_and_then (λ value. option_map values_of (as_array value)) (get_member key t)

abbrev pub are_tables : List Data → Bool
are_tables values = list_all (λ value. is_some (as_table value)) values

abbrev pub tables_in : List Data → List Members
tables_in values = flat_map (λ value. option_to_list (as_table value)) values

-- the tables of the list of a key
abbrev pub tables_at : (key : List ℕ) → Members → List Members
tables_at key t = option_map_or tables_in (list_at key t) []
