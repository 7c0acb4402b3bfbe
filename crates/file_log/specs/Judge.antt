-- The judge of a file's log.
use Rattle.std.specs.Prelude.{◌≡◌, ℕ, ◌+◌, ◌-◌, ◌<◌, max, min, nat_lt, ◌==◌, if◌then◌else◌, Bool, true, false, List, [], ◌∷◌, ◌++◌, length, map, slice_get, slice_index, Contains, Option, Some, None}
use Rattle.std.specs.List.{filter}
use Rattle.file_log.specs.declared.entry.Entry.{Entry}
use Rattle.file_log.specs.declared.entry.Entry.TheVariants.{Write, Read}

-- What a file may hold: for each position a list of values, and a list of sizes.
pub record Candidates : Type 0 where
  pub values : ℕ → List ℕ
  pub sizes : List ℕ

-- a new file: only zeros, and no byte
abbrev pub new_file : Candidates
new_file = record { values = λ p. 0 ∷ []; sizes = 0 ∷ [] }

-- the byte at position p of a piece that begins at an offset, where the piece has one
abbrev pub byte_for : ℕ → List ℕ → ℕ → Option ℕ
byte_for offset bytes p = if nat_lt p offset then None else slice_get bytes (p - offset)

-- a byte that stands for sure is the only value
abbrev pub settled : Option ℕ → List ℕ → List ℕ
settled (Some v) values = v ∷ []
settled None values = values

-- a byte that may stand there is one value more
abbrev pub joined : Option ℕ → List ℕ → List ℕ
joined (Some v) values = values ++ v ∷ []
joined None values = values

-- a byte is settled, or joins
abbrev pub taken_byte : Bool → Option ℕ → List ℕ → List ℕ
taken_byte true byte values = settled byte values
taken_byte false byte values = joined byte values

-- how many bytes a read of a range gives at a size
abbrev pub given : ℕ → ℕ → ℕ → ℕ
given offset len size = min (offset + len) size - offset

-- what may stand at position p after an entry
abbrev pub values_after : Entry → ℕ → List ℕ → List ℕ
values_after (Write offset bytes acknowledged) p values = taken_byte acknowledged (byte_for offset bytes p) values
values_after (Read offset len (Some answer)) p values = settled (byte_for offset answer p) values
values_after (Read offset len None) p values = values

-- what sizes the file may have after an entry
abbrev pub sizes_after : Entry → List ℕ → List ℕ
sizes_after (Write offset bytes true) sizes = map (max (offset + length bytes)) sizes
sizes_after (Write offset bytes false) sizes = sizes ++ map (max (offset + length bytes)) sizes
sizes_after (Read offset len (Some answer)) sizes = filter (λ size. given offset len size == length answer) sizes
sizes_after (Read offset len None) sizes = sizes

abbrev pub after_entry : Candidates → Entry → Candidates
after_entry c e = record { values = λ p. values_after e p (c.values p); sizes = sizes_after e c.sizes }

-- An answered read needs a size at which its range gives so many bytes, and each byte among the values of its position.
pub record Finds (c : Candidates) (offset len : ℕ) (answer : List ℕ) : Type 0 where
  pub size : (size : ℕ) × Contains c.sizes size × (given offset len size ≡ length answer)
  pub bytes : (i : ℕ) → i < length answer → Contains (c.values (offset + i)) (slice_index answer i)

abbrev pub Fits : Candidates → Entry → Type 0
Fits c (Write offset bytes acknowledged) = Unit {0}
Fits c (Read offset len (Some answer)) = Finds c offset len answer
Fits c (Read offset len None) = Unit {0}

-- the judge accepts a log where each entry fits what the entries before it leave
abbrev pub AcceptsFrom : Candidates → List Entry → Type 0
AcceptsFrom c [] = Unit {0}
AcceptsFrom c (e ∷ es) = Fits c e × AcceptsFrom (after_entry c e) es

abbrev pub Accepts : List Entry → Type 0
Accepts log = AcceptsFrom new_file log

-- what the file may hold after a log
abbrev pub candidates_from : Candidates → List Entry → Candidates
candidates_from c [] = c
candidates_from c (e ∷ es) = candidates_from (after_entry c e) es

abbrev pub candidates : List Entry → Candidates
candidates log = candidates_from new_file log

-- the file's bytes are these, and no others may stand there
pub record IsSettled (c : Candidates) (bytes : List ℕ) : Type 0 where
  pub values : (p : ℕ) → c.values p ≡ slice_index bytes p ∷ []
  pub sizes : c.sizes ≡ length bytes ∷ []

-- the bytes of a range, cut at the file's end
pub record IsRange (bytes : List ℕ) (offset len : ℕ) (answer : List ℕ) : Type 0 where
  pub size : length answer ≡ given offset len (length bytes)
  pub same : (i : ℕ) → i < length answer → slice_index answer i ≡ slice_index bytes (offset + i)
