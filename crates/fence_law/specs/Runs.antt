-- Short runs of two small files.
use Rattle.std.specs.Prelude.{◌≡◌, ℕ, zero, suc, ◌+◌, ◌<◌, ◌≤◌, Bool, true, false, ◌==◌, ◌&&◌, List, [], ◌∷◌, Option, Some, None}
use Rattle.fence_law.specs.State.{State, Layout, Event, Grant, Write}
use Rattle.fence_law.specs.Columns.{Stands, Short}
use Rattle.fence_law.specs.Machine.{Lawful, after, after_all, new_file_state}
use Rattle.fence_law.specs.State.Event.{Asks, Grants, Takes, AsksOther, ServesOther, TakesOther, Fences, SetsTag, Fenced, Refenced, StartsWrite, Sends, Performs, Learns, Acknowledges, StartsRead, Shows, Answers, Fails, AsksCommit, Commits, TakesCommit, Repairs, Repaired, Tells, Loses, Leaves, PerformsLost}
use Rattle.fence_law.specs.Law.{IsCode}
use Rattle.fence_law.specs.Words.{updated}

-- flags, and functions, of the small files of the runs
abbrev pub always : ℕ → Bool
always x = true

abbrev pub never : ℕ → Bool
never x = false

-- at the first column alone
abbrev pub at_first : ℕ → Bool
at_first zero = true
at_first (suc x) = false

-- a byte at place 0
abbrev pub byte : ℕ → ℕ → Option ℕ
byte v zero = Some v
byte v (suc p) = None

-- that byte, then zeros
abbrev pub file : ℕ → ℕ → ℕ
file v zero = v
file v (suc p) = 0

-- what is seen where nothing stands, and one part for each component
abbrev pub nothing : ℕ → ℕ
nothing p = 0

abbrev pub one_part : ℕ → ℕ → ℕ
one_part k z = 0

-- the first n components
abbrev pub among : ℕ → ℕ → Bool
among zero k = false
among (suc n) zero = true
among (suc n) (suc k) = among n k

-- the first cell of each of the first components
abbrev pub first_cells : ℕ → ℕ → ℕ → Bool
first_cells n k zero = among n k
first_cells n k (suc z) = false

-- a byte on component 0, and its double as parity on component 1
abbrev pub doubles : ℕ → ℕ → (ℕ → ℕ) → ℕ
doubles zero z d = d z
doubles (suc k) z d = d z + d z

-- that file: a byte a column, with parity
abbrev pub doubled : Layout
doubled = record {
  components = 2;
  first_tag = 1;
  position = λ k. k;
  col = λ p. p;
  coded = always;
  is_cell = λ k z. among 2 k;
  cell_col = λ k z. z;
  copy = λ k z p. (k == 0) && (z == p);
  word = doubles;
}

-- three copies and no parity
abbrev pub tripled : Layout
tripled = record {
  components = 3;
  first_tag = 1;
  position = λ k. 0;
  col = λ p. p;
  coded = never;
  is_cell = λ k z. among 3 k;
  cell_col = λ k z. z;
  copy = λ k z p. among 3 k && (z == p);
  word = λ k z d. d z;
}

-- a grant on the whole file
abbrev pub lease : ℕ → ℕ → Bool → Bool → Grant
lease number tag rw extending = record {
  number = number;
  tag = tag;
  rw = rw;
  covers = always;
  extending = extending;
  left = never;
}

-- one for reading, whose layout leaves component 2 out
abbrev pub short_lease : ℕ → ℕ → Grant
short_lease number tag = record {
  number = number;
  tag = tag;
  rw = false;
  covers = always;
  extending = false;
  left = updated never 2 true;
}

-- a WRITE of one part
abbrev pub message : ℕ → ℕ → ℕ → ℕ → ℕ → ℕ → Write
message c grant tag nonce k j = record {
  holder = c;
  grant = grant;
  tag = tag;
  nonce = nonce;
  at = k;
  entry = j;
  part = 0;
}

-- client 0 writes 41 at place 0, with its commit
abbrev pub written_41 : List Event
written_41 =
    Asks 0 true ∷ Grants 0 1 true always true ∷ Takes 0 (Some (lease 1 1 true true)) 0 ∷
    StartsRead 0 (lease 1 1 true true) 0 0 always
    ∷ StartsWrite 0 (lease 1 1 true true) 0 (byte 41) at_first (first_cells 2) nothing 1 one_part ∷
    Sends 0 0 (lease 1 1 true true) 1 0 1 ∷ Sends 0 1 (lease 1 1 true true) 1 0 2 ∷
    Performs (message 0 1 1 1 0 1) ∷ Performs (message 0 1 1 2 1 1) ∷ Learns 0 0 1 1 0 ∷ Learns 0 1 1 2 0 ∷
    AsksOther 0 ∷ AsksCommit 0 1 ∷ ServesOther 0 ∷ Commits 0 1 (lease 1 1 true true) ∷ TakesOther 0 ∷ TakesCommit 0 1
    ∷ Acknowledges 0 1 ∷ Tells 1 ∷ []

-- it begins to write 42, and stops before the parity; fence, repair, and client 1 reads
abbrev pub stopped : List Event
stopped =
    StartsRead 0 (lease 1 1 true true) 0 0 always
    ∷ StartsWrite 0 (lease 1 1 true true) 2 (byte 42) at_first (first_cells 2) nothing 1 one_part ∷
    Sends 0 0 (lease 1 1 true true) 3 0 3 ∷ Performs (message 0 1 1 3 0 3) ∷
    Fences ∷ SetsTag 0 ∷ SetsTag 1 ∷ Fenced ∷ Repairs 1 at_first (file 42) ∷ Repaired always (file 42) ∷
    Asks 1 false ∷ Grants 1 2 false always false ∷ Takes 1 (Some (lease 2 2 false false)) 1 ∷
    StartsRead 1 (lease 2 2 false false) 0 1 always ∷ Shows 5 0 ∷ Answers 1 5 (file 42) ∷ []

-- the same, but the server stops in the repair, after it sent a WRITE; it fences again, and the WRITE is performed
-- before the fence comes to that object
abbrev pub cut_off : List Event
cut_off =
    StartsRead 0 (lease 1 1 true true) 0 0 always
    ∷ StartsWrite 0 (lease 1 1 true true) 2 (byte 42) at_first (first_cells 2) nothing 1 one_part ∷
    Sends 0 0 (lease 1 1 true true) 3 0 3 ∷ Performs (message 0 1 1 3 0 3) ∷
    Fences ∷ SetsTag 0 ∷ SetsTag 1 ∷ Fenced ∷ Fences ∷ SetsTag 0 ∷ Repairs 1 at_first (file 42) ∷ SetsTag 1 ∷ Refenced
    ∷ Repaired always (file 42) ∷
    Asks 1 false ∷ Grants 1 2 false always false ∷ Takes 1 (Some (lease 2 3 false false)) 1 ∷
    StartsRead 1 (lease 2 3 false false) 0 1 always ∷ Shows 5 0 ∷ Answers 1 5 (file 42) ∷ []

-- it writes 42; fence, repair, client 1 writes 43; then the replies of 42 come, and client 1 reads
abbrev pub late : List Event
late =
    StartsRead 0 (lease 1 1 true true) 0 0 always
    ∷ StartsWrite 0 (lease 1 1 true true) 2 (byte 42) at_first (first_cells 2) nothing 1 one_part ∷
    Sends 0 0 (lease 1 1 true true) 3 0 3 ∷ Sends 0 1 (lease 1 1 true true) 3 0 4 ∷ Performs (message 0 1 1 3 0 3)
    ∷ Performs (message 0 1 1 4 1 3) ∷
    Fences ∷ SetsTag 0 ∷ SetsTag 1 ∷ Fenced ∷ Repaired always (file 42) ∷
    Asks 1 true ∷ Grants 1 2 true always true ∷ Takes 1 (Some (lease 2 2 true true)) 1 ∷
    StartsRead 1 (lease 2 2 true true) 0 0 always
    ∷ StartsWrite 1 (lease 2 2 true true) 4 (byte 43) at_first (first_cells 2) nothing 1 one_part ∷
    Sends 1 0 (lease 2 2 true true) 5 0 1 ∷ Sends 1 1 (lease 2 2 true true) 5 0 2 ∷ Performs (message 1 2 2 1 0 5)
    ∷ Performs (message 1 2 2 2 1 5) ∷
    Learns 1 0 5 1 0 ∷ Learns 1 1 5 2 0 ∷ Acknowledges 1 5 ∷ Tells 5 ∷ Learns 0 0 3 3 0 ∷ Learns 0 1 3 4 0
    ∷ Acknowledges 0 3 ∷ Tells 3 ∷
    StartsRead 1 (lease 2 2 true true) 0 1 always ∷ Shows 6 0 ∷ Answers 1 6 (file 43) ∷ []

-- of three copies two get 7 and the third's WRITE is late: the report makes component 2 missing; then the WRITE comes,
-- and client 1 reads
abbrev pub reported : List Event
reported =
    Asks 0 true ∷ Grants 0 1 true always true ∷ Takes 0 (Some (lease 1 1 true true)) 0 ∷
    StartsRead 0 (lease 1 1 true true) 0 0 always
    ∷ StartsWrite 0 (lease 1 1 true true) 0 (byte 7) at_first (first_cells 3) nothing 1 one_part ∷
    Sends 0 0 (lease 1 1 true true) 1 0 1 ∷ Sends 0 1 (lease 1 1 true true) 1 0 2
    ∷ Sends 0 2 (lease 1 1 true true) 1 0 3 ∷
    Performs (message 0 1 1 1 0 1) ∷ Performs (message 0 1 1 2 1 1) ∷ Learns 0 0 1 1 0 ∷ Learns 0 1 1 2 0 ∷
    AsksOther 0 ∷ AsksCommit 0 1 ∷ ServesOther 0 ∷ Commits 0 1 (lease 1 1 true true) ∷ TakesOther 0 ∷ TakesCommit 0 1 ∷
    AsksOther 0 ∷ ServesOther 0 ∷ Loses 0 2 ∷ Acknowledges 0 1 ∷ Leaves 0 (lease 1 1 true true) ∷ TakesOther 0 ∷ Tells 1
    ∷
    Asks 1 false ∷ Grants 1 2 false always false ∷ Takes 1 (Some (short_lease 2 1)) 1
    ∷ PerformsLost (message 0 1 1 3 2 1) ∷
    StartsRead 1 (short_lease 2 1) 0 1 always ∷ Shows 2 0 ∷ Answers 1 2 (file 7) ∷ []

-- of three copies the first gets a byte, its client stops, the repair copies it to the second, and the first fails
abbrev pub copied_on : List Event
copied_on =
    Asks 0 true ∷ Grants 0 1 true always true ∷ Takes 0 (Some (lease 1 1 true true)) 0 ∷
    StartsRead 0 (lease 1 1 true true) 0 0 always
    ∷ StartsWrite 0 (lease 1 1 true true) 0 (byte 1) at_first (first_cells 3) nothing 1 one_part ∷
    Sends 0 0 (lease 1 1 true true) 1 0 1 ∷ Performs (message 0 1 1 1 0 1) ∷
    Fences ∷ SetsTag 0 ∷ SetsTag 1 ∷ SetsTag 2 ∷ Fenced ∷ Repairs 1 at_first (file 1) ∷ Fails 0 ∷ []

-- the same as disturbed, torn and calm, but of parts on components that aren't lost now
abbrev pub DisturbedNow : State → ℕ → Type 0
DisturbedNow b x =
    (j k z v : ℕ) × (b.repaired_at x ≤ j) × (j < b.count) × ((b.start j).is_write ≡ true) × (b.acknowledged j ≡ false) ×
    ((b.start j).content k z ≡ Some v) × (b.layout.cell_col k z ≡ x) × (b.layout.is_cell k z ≡ true) ×
    (b.applied j k z ≡ true) × (b.lost k ≡ false)

-- and its grant is over
abbrev pub TornNow : State → ℕ → Type 0
TornNow b x =
    (j k z v : ℕ) × (b.repaired_at x ≤ j) × (j < b.count) × ((b.start j).is_write ≡ true) × (b.acknowledged j ≡ false) ×
    ((b.start j).content k z ≡ Some v) × (b.layout.cell_col k z ≡ x) × (b.layout.is_cell k z ≡ true) ×
    (b.applied j k z ≡ true) × (b.lost k ≡ false) × ((b.start j).tag < b.tag)

-- each moment is calm in that sense
abbrev pub CalmsNow : State → List Event → Type 0
CalmsNow b [] = (x : ℕ) → b.layout.coded x ≡ true → TornNow b x → Short b x → ⊥
CalmsNow b (e ∷ es) = ((x : ℕ) → b.layout.coded x ≡ true → TornNow b x → Short b x → ⊥) × CalmsNow (after b e) es

-- In that reading a column can be undisturbed and not whole, in a calm run: so "on a component that isn't lost" is
-- meant of the moment of the WRITE.
abbrev pub IsMeantThen : Type 0
IsMeantThen = ((m : Layout) (events : List Event) (x : ℕ) → IsCode m → Lawful (new_file_state m) events →
    CalmsNow (new_file_state m) events →
    (DisturbedNow (after_all (new_file_state m) events) x → ⊥) → (d : ℕ → ℕ) ×
    Stands (after_all (new_file_state m) events) x d) → ⊥
