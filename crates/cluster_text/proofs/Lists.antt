-- Tests over lists, and the keys and values of what a TOML document was read to.
use Rattle.std.proofs.Common.{◌≡◌, ℕ, Bool, not, ◌||◌, ◌∙◌, Option, None, Some, is_some, option_map, List, [], ◌∷◌, map, String, Global, string_bytes, refl, ap}
use Rattle.std.specs.List.{list_any}
use Rattle.std.specs.Map.{keys_of as map_keys}
use Rattle.toml.specs.declared.value.Value.{Value}
use Rattle.toml.specs.Data.{Data, Members, as_array, get_member}
use Rattle.toml.specs.View.{items_view, members_view, view}
use Rattle.cluster_text.specs.Tables.{are_tables, keys_of, tables_at, tables_in, values_of}
use Rattle.cluster_text.specs.Shape.{holds_no_list}
use Rattle.cluster_text.specs.Fields.{◌>>=◌}
use Rattle.cluster_text.specs.Document.{all_in}

pub any_map : {X Y : Type 0} (p : Y → Bool) (f : X → Y) (xs : List X) → list_any (λ x. p (f x)) xs ≡ list_any p (map f xs)
any_map p f [] = refl
any_map p f (x ∷ xs) = ap (λ b. p (f x) || b) (any_map p f xs)

pub values_seen : (vs : List Value) → map view vs ≡ values_of (items_view vs)
values_seen [] = refl
values_seen (v ∷ vs) = ap (λ ds. view v ∷ ds) (values_seen vs)

-- a test of the keys of a map
pub any_key : (p : List ℕ → Bool) (es : List (String Global × Value)) →
    list_any (λ key. p (string_bytes key)) (map_keys es) ≡ list_any p (keys_of (members_view es))
any_key p [] = refl
any_key p (e ∷ es) = ap (λ b. p (string_bytes e.0) || b) (any_key p es)

pub is_some_map : {X Y : Type 0} (f : X → Y) (o : Option X) → is_some (option_map f o) ≡ is_some o
is_some_map f None = refl
is_some_map f (Some x) = refl

-- a list whose values aren't all tables
pub no_list : (key : List ℕ) (t : Members) (value : Data) (values slice : List Value) (r : Bool) → Some value ≡ get_member key t →
    Some (items_view values) ≡ as_array value
    → slice ≡ values → r ≡ are_tables (map view slice) → not r ≡ holds_no_list key t
no_list key t value values slice r found list same tests =
    rw (← found) (rw (← list) (ap not (tests ∙ ap (λ vs. are_tables (map view vs)) same ∙ ap are_tables (values_seen values))))

-- the tables of a list
pub same_tables : (key : List ℕ) (t : Members) (value : Data) (values slice : List Value) → Some value ≡ get_member key t →
    Some (items_view values) ≡ as_array value
    → slice ≡ values → tables_in (map view slice) ≡ tables_at key t
same_tables key t value values slice found list same =
    rw (← found) (rw (← list) (ap (λ vs. tables_in (map view vs)) same ∙ ap tables_in (values_seen values)))

-- ---- what all of a list give

module _ {A B : Type 0} (f : A → Option B) where
  pub all-map : {C : Type 0} (g : C → A) (xs : List C) → all_in (λ x. f (g x)) xs ≡ all_in f (map g xs)
  all-map g [] = refl
  all-map g (x ∷ xs) = ap (λ o. f (g x) >>= (λ y. o >>= (λ ys. Some (y ∷ ys)))) (all-map g xs)
