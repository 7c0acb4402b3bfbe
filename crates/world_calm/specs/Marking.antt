-- The stripes in which WRITEs of unfinished writes were performed.
use Rattle.std.specs.Prelude.{ℕ, Bool, false, ◌==◌, ◌&&◌, ◌||◌, not, nat_lt, List, [], ◌∷◌, ◌++◌, map, filter, position, length, slice_get, slice_set, Option, Some, None, if◌then◌else◌}
use Rattle.std.specs.List.{list_any}
use Rattle.server_rules.specs.Numbers.{among}
use Rattle.world_history.specs.ServerNames.{Kept, Grant, Mended}
use Rattle.world_history.specs.Stripes.{is_worked}
use Rattle.world_calm.specs.Files.{FilesState, is_short_at}
pub use Rattle.world_calm.specs.declared.marks.Marked.{Marked}
pub use Rattle.world_calm.specs.declared.marks.NewMark.{NewMark}

-- ---- a WRITE is performed

-- the stripes of that write in that file
abbrev pub is_of : (write file : ℕ) → Marked → Bool
is_of w f m = (m.write == w) && (m.file == f)

-- a stripe more, unless it was marked last
abbrev pub last_is_from : (last : Bool) → (stripe : ℕ) → List ℕ → Bool
last_is_from last s [] = last
last_is_from last s (x ∷ xs) = last_is_from (x == s) s xs

abbrev pub last_is : (stripe : ℕ) → List ℕ → Bool
last_is s ss = last_is_from false s ss

abbrev pub and_stripe : (stripe : ℕ) → Marked → Marked
and_stripe s m = if last_is s m.stripes then m else record m { stripes = m.stripes ++ s ∷ [] }

-- the first mark of a write in a file
abbrev pub first_mark : NewMark → Marked
first_mark k = record {
  write = k.write;
  client = k.client;
  grant = k.grant;
  file = k.file;
  left = false;
  stripes = k.stripe ∷ [];
}

abbrev pub marked_with : List Marked → NewMark → (place : ℕ) → Option Marked → List Marked
marked_with ms k i None = ms
marked_with ms k i (Some m) = slice_set ms i (and_stripe k.stripe m)

abbrev pub marked_at : List Marked → NewMark → Option ℕ → List Marked
marked_at ms k None = ms ++ first_mark k ∷ []
marked_at ms k (Some i) = marked_with ms k i (slice_get ms i)

abbrev pub marked : List Marked → NewMark → List Marked
marked ms k = marked_at ms k (position (is_of k.write k.file) ms)

-- ---- marks go

-- a write is finished
abbrev pub unmarked : List Marked → (write : ℕ) → List Marked
unmarked ms w = filter (λ (m : Marked). not (m.write == w)) ms

-- a repair has repaired the stripe: it counted it, and didn't leave it short
abbrev pub is_repaired : Mended → (stripe : ℕ) → Bool
is_repaired r s = is_worked s r.worked && not (among s r.short)

abbrev pub stripes_left : Mended → List ℕ → List ℕ
stripes_left r ss = filter (λ s. not (is_repaired r s)) ss

-- the marks that it leaves of a write
abbrev pub mended_by : Mended → Marked → Marked
mended_by r m = if m.file == r.file then record m { stripes = stripes_left r m.stripes } else m

abbrev pub has_stripes : Marked → Bool
has_stripes m = nat_lt 0 (length m.stripes)

abbrev pub all_mended : List Marked → Mended → List Marked
all_mended ms r = filter has_stripes (map (mended_by r) ms)

-- ---- writes are left

-- a grant is live
abbrev pub is_live_in : (grant : ℕ) → Option Kept → Bool
is_live_in g None = false
is_live_in g (Some k) = list_any (λ (x : Grant). x.number == g) k.grants

-- the grant of a client's write has ended, or the client was stopped
abbrev pub is_left_by : (stopped : List ℕ) → (ℕ → Option Kept) → (client grant file : ℕ) → Bool
is_left_by stopped kept client grant file = among client stopped || not (is_live_in grant (kept file))

abbrev pub is_left : (stopped : List ℕ) → (ℕ → Option Kept) → Marked → Bool
is_left stopped kept m = is_left_by stopped kept m.client m.grant m.file

-- it is left now, and wasn't before
abbrev pub leaves : (stopped : List ℕ) → (ℕ → Option Kept) → Marked → Bool
leaves stopped kept m = not m.left && is_left stopped kept m

-- which are left now
abbrev pub left_as : (stopped : List ℕ) → (ℕ → Option Kept) → Marked → Marked
left_as stopped kept m = record m { left = is_left stopped kept m }

abbrev pub left : (stopped : List ℕ) → (ℕ → Option Kept) → List Marked → List Marked
left stopped kept ms = map (left_as stopped kept) ms

-- ---- a stripe of a write that was left is short

abbrev pub any_short : FilesState → (file : ℕ) → List ℕ → Bool
any_short fs f ss = list_any (λ s. is_short_at fs f s) ss

abbrev pub is_harmed : FilesState → Marked → Bool
is_harmed fs m = m.left && any_short fs m.file m.stripes

abbrev pub any_harmed : FilesState → List Marked → Bool
any_harmed fs ms = list_any (is_harmed fs) ms

-- or of one that is left now
abbrev pub is_newly_harmed : (stopped : List ℕ) → (ℕ → Option Kept) → FilesState → Marked → Bool
is_newly_harmed stopped kept fs m = leaves stopped kept m && any_short fs m.file m.stripes

abbrev pub any_newly_harmed : (stopped : List ℕ) → (ℕ → Option Kept) → FilesState → List Marked → Bool
any_newly_harmed stopped kept fs ms = list_any (is_newly_harmed stopped kept fs) ms
