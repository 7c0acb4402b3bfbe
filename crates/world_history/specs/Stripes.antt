-- Stripes of a file at a moment: lost components, short stripes, disturbed and torn ones.
use Rattle.std.specs.Prelude.{ℕ, Bool, false, ◌+◌, ◌*◌, ◌/◌, ◌%◌, ◌==◌, ◌&&◌, ◌||◌, not, nat_lt, nat_le, List, [], ◌∷◌, ◌++◌, map, filter, slice_get, Option, Some, None, if◌then◌else◌}
use Rattle.std.specs.List.{list_any}
use Rattle.data_map.specs.declared.check.RawMap.{RawMap}
use Rattle.data_map.specs.Striping.{groups, group_of, parities}
use Rattle.file_log.specs.declared.entry.Entry.{Entry}
use Rattle.file_log.specs.declared.entry.Entry.TheVariants as entry
use Rattle.world_history.specs.ServerNames.{Server, File, Component, Grant, Stripes, Mended}
use Rattle.server_rules.specs.Numbers.{among}
use Rattle.server_rules.specs.Maps.{group_with}
use Rattle.server_rules.specs.Standing.{is_short}
use Rattle.server_rules.specs.Files.{file_at}
use Rattle.world_history.specs.ReadLog.{Logged, Log}

-- a WRITE of log entry number `entry` was performed in a stripe of a file since the stripe's last repair
pub record Mark : Type 0 where
  pub file : ℕ
  pub stripe : ℕ
  pub entry : ℕ

-- what stands at a moment: the server, which drives failed and which clients were stopped, the log, and the marks
pub record Moment : Type 0 where
  pub server : Server
  pub failed : List ℕ
  pub stopped : List ℕ
  pub log : Log
  pub marks : List Mark

-- ---- lost and short

-- a component is lost where it is missing, or its drive has failed
abbrev pub is_lost : Moment → Component → Bool
is_lost m at = at.missing || among at.drive m.failed

-- the components, each missing that is lost
abbrev pub standing : Moment → List Component → List Component
standing m cs = map (λ (at : Component). record at { missing = is_lost m at }) cs

-- a stripe is short where all replicas of one of its positions are lost
unfoldable pub is_short_stripe : Moment → File → (stripe : ℕ) → Bool
is_short_stripe m f s = is_short f.kept.map (standing m f.kept.components) (group_of f.kept.map s)

-- ---- disturbed and torn

-- the write was acknowledged
abbrev pub is_acknowledged : Entry → Bool
is_acknowledged (entry.Write offset bytes acknowledged) = acknowledged
is_acknowledged (entry.Read offset count answer) = false

-- it was neither acknowledged nor taken as a loss
abbrev pub is_unfinished : Logged → Bool
is_unfinished e = not (is_acknowledged e.entry) && not e.taken

-- its grant is live
abbrev pub is_live : File → Logged → Bool
is_live f e = list_any (λ (g : Grant). g.number == e.grant) f.kept.grants

-- its grant has ended, or its client was stopped
abbrev pub is_left : Moment → File → Logged → Bool
is_left m f e = not (is_live f e) || among e.client m.stopped

-- a mark of such an entry
abbrev pub of_entry : (Logged → Bool) → Option Logged → Bool
of_entry test None = false
of_entry test (Some e) = test e

abbrev pub marks_as : Moment → (Logged → Bool) → Mark → Bool
marks_as m test k = of_entry test (slice_get m.log.entries k.entry)

-- in a stripe of a file
abbrev pub is_in : (file stripe : ℕ) → Mark → Bool
is_in f s k = (k.file == f) && (k.stripe == s)

-- a stripe is disturbed where a WRITE of an unfinished write was performed in it since its last repair
unfoldable pub is_disturbed : Moment → (file stripe : ℕ) → Bool
is_disturbed m f s = list_any (λ (k : Mark). is_in f s k && marks_as m is_unfinished k) m.marks

-- it is torn where moreover that write's grant has ended or its client was stopped
abbrev pub is_torn_by : Moment → File → Mark → Bool
is_torn_by m f k = marks_as m (λ e. is_unfinished e && is_left m f e) k

unfoldable pub is_torn : Moment → File → (stripe : ℕ) → Bool
is_torn m f s = list_any (λ (k : Mark). is_in f.kept.number s k && is_torn_by m f k) m.marks

-- ---- calm

-- the stripe of a mark has parity, and is torn and short
abbrev pub is_harmed_in : Moment → Mark → Option File → Bool
is_harmed_in m k None = false
is_harmed_in m k (Some f) = nat_lt 0 (parities f.kept.map) && (is_torn_by m f k && is_short_stripe m f k.stripe)

-- no stripe with parity is torn and short
unfoldable pub is_calm : Moment → Bool
is_calm m = not (list_any (λ (k : Mark). is_harmed_in m k (file_at m.server.files k.file)) m.marks)

-- ---- marks come

-- the stripe of a component whose group and row these are
abbrev pub stripe_at : RawMap → (group row : ℕ) → ℕ
stripe_at m group row = if m.width == 0 then row else ((row / m.depth) * groups m + group) * m.depth + row % m.depth

-- the stripe of an offset in component k
abbrev pub stripe_of : RawMap → (component offset : ℕ) → ℕ
stripe_of m k offset = stripe_at m (group_with m k) (offset / m.unit)

-- the present component on a drive in that object, among those from number k on
unfoldable pub component_at : (drive object : ℕ) → List Component → (k : ℕ) → Option ℕ
component_at d object [] k = None
component_at d object (at ∷ cs) k =
    if not at.missing && ((at.drive == d) && (at.object == object)) then Some k else component_at d object cs (k + 1)

-- the stripe of a WRITE at an offset of the object, where a component of the file stands there
abbrev pub marked_in : File → (offset entry : ℕ) → Option ℕ → List Mark
marked_in f offset e None = []
marked_in f offset e (Some k) = record { file = f.kept.number; stripe = stripe_of f.kept.map k offset; entry = e } ∷ []

-- the marks of a WRITE at an offset of an object that a drive performed, for an entry of the log
unfoldable pub marks_of : List File → (drive object offset entry : ℕ) → List Mark
marks_of [] d object offset e = []
marks_of (f ∷ fs) d object offset e =
    marked_in f offset e (component_at d object f.kept.components 0) ++ marks_of fs d object offset e

-- ---- marks go

-- a stripe is one of these
abbrev pub is_worked : (stripe : ℕ) → List Stripes → Bool
is_worked s rs = list_any (λ (r : Stripes). nat_le r.first s && nat_lt s r.end) rs

-- a repair has repaired the stripe: it counted it, and didn't leave it short, or the file has no parity
abbrev pub is_repaired : RawMap → Mended → (stripe : ℕ) → Bool
is_repaired m r s = is_worked s r.worked && ((parities m == 0) || not (among s r.short))

-- the marks that a repair leaves
abbrev pub marks_left : List Mark → RawMap → Mended → List Mark
marks_left ks m r = filter (λ (k : Mark). not ((k.file == r.file) && is_repaired m r k.stripe)) ks
