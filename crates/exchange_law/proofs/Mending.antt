-- Repairs, fences and what comes behind them leave a file that fits.
use Rattle.std.proofs.Common.{◌≡◌, ◌||◌, ◌==◌, ℕ, ◌+◌, ◌≤◌, ◌<◌, Bool, true, false, List, [], ◌∷◌, Option, Some, None, length, map, find, refl, sym, subst, arith, if◌then◌else◌}
use Rattle.std.proofs.lemmas.List.{append-nil}
use Rattle.osd_capability.specs.Layout.{is_format}
use Rattle.world_history.specs.ServerNames.{Kept, Awaited, Piece, Heard, Target, Job, JobKind, Making, Revoking, Rebuilding, Auditing, Work, Creates, Fences, Fetches, Stores, Targets, Gathers, Fills, Lengths, Checks, Repairing, NoSpace, Reply}
use Rattle.server_rules.specs.declared.limits.TheConstants.{GREATEST_TAG, MAX_FILE_COMPONENTS}
use Rattle.server_rules.specs.Standing.{any_on, lose_on, lose_from}
use Rattle.server_rules.specs.Commands.{again_in_2}
use Rattle.server_rules.specs.Going.{Going, keeping, with_components, noting}
use Rattle.server_rules.specs.Repair.{after_repair, mended, is_left, repair_reads, repairs, storing, stored, repair_begins}
use Rattle.server_rules.specs.Jobs.{is_made, making, ending, fenced, fences, fence_begins, fetched, written, goes_on, waits_or_on, is_target, refills, remakes, loses, others_than, declared_in, targets, declares}
use Rattle.server_rules.specs.Replies.{Hearing, Older, Full, Done, Nothing, others, renewed, renews, fills_up, heard_with, hears}
use Rattle.server_rules.proofs.Components.{length_lost, length_lost_on}
use Rattle.history_law.proofs.Placing.{greater_format}
use Rattle.exchange_law.specs.Files.{GrantFits}
use Rattle.exchange_law.proofs.Parts.{each_more, each_filtered, PartsFit, fit_lost_on, fit_lost, IsNear, AllNear, either_near, each_near, stores_near, TargetFits, WorkFits, JobFits}
use Rattle.exchange_law.proofs.Running.{with_parts, Sound, From, here, over_runs, rests_or_runs, noted, audits_run, audit_runs, audited_runs, rebuilds_run, fills_run, gathered_runs, filled_runs, gone_runs, full_runs}

-- ---- repair

after_runs : (kind : JobKind) (g : Going) → Sound g → From g (after_repair kind g)
after_runs Making g s = over_runs g s
after_runs Revoking g s = over_runs g s
after_runs Rebuilding g s = rebuilds_run g g.file.kept.components 0 s (omega (arith, s.kept.few))
after_runs Auditing g s = audit_runs g s

mended_sound : (g : Going) (short : List ℕ) → Sound g → Sound (mended g short)
mended_sound g short s = record {
  kept = record {
    number = s.kept.number;
    map = s.kept.map;
    few = s.kept.few;
    format = s.kept.format;
    tag = s.kept.tag;
    size = s.kept.size;
    components = s.kept.components;
    grants = s.kept.grants;
    ended = tt;
    high = s.kept.high;
  };
  drives = s.drives;
}

repair_near : (f : Kept) (p : Piece) (nonce n : ℕ) → PartsFit n f.components
    → length f.components ≤ MAX_FILE_COMPONENTS → AllNear (repair_reads f p nonce)
unfolding repair_reads
repair_near f p nonce n fit l =
    either_near (is_left f p) _ _ tt (each_near n f _ _ f.components 0 nonce (omega (arith, l)) fit)

repairs_run : (kind : JobKind) (g : Going) (ps : List Piece) (short : List ℕ) → Sound g
    → From g (repairs kind g ps short)
unfolding repairs
repairs_run kind g [] short s = after_runs kind (mended g short) (mended_sound g short s)
repairs_run kind g (p ∷ ps) short s =
    rests_or_runs _ g _ _ _ s (repair_near g.file.kept p g.effects.nonce g.effects.object s.kept.components s.kept.few) tt
    (repairs_run kind g ps _ s)

storing_runs : (kind : JobKind) (g : Going) (p : Piece) (ps : List Piece) (short : List ℕ) (heard : List Heard)
    → Sound g → From g (storing kind g p ps short heard)
unfolding storing
storing_runs kind g p ps short heard s =
    rests_or_runs _ g _ _ _ s (stores_near g.effects.object g.file.kept p _ heard g.file.kept.components 0 g.effects.nonce
    (omega (arith, s.kept.few)) s.kept.components) tt (repairs_run kind g ps short s)

stored_runs : (kind : JobKind) (g : Going) (p : Piece) (ps : List Piece) (short : List ℕ) (broken : Bool) → Sound g
    → From g (stored kind g p ps short broken)
stored_runs kind g p ps short true s = repairs_run kind g (p ∷ ps) short s
stored_runs kind g p ps short false s = repairs_run kind g ps short s

fetched_runs : (kind : JobKind) (g : Going) (ps : List Piece) (short : List ℕ) (heard : List Heard) → Sound g
    → From g (fetched kind g ps short heard)
fetched_runs kind g [] short heard s = repairs_run kind g [] short s
fetched_runs kind g (p ∷ ps) short heard s = storing_runs kind g p ps short heard s

written_runs : (kind : JobKind) (g : Going) (ps : List Piece) (short : List ℕ) (broken : Bool) → Sound g
    → From g (written kind g ps short broken)
written_runs kind g [] short broken s = repairs_run kind g [] short s
written_runs kind g (p ∷ ps) short broken s = stored_runs kind g p ps short broken s

-- ---- a fence

fenced_runs : (kind : JobKind) (g : Going) → Sound g → g.file.kept.tag < GREATEST_TAG → From g (fenced kind g)
unfolding fenced repair_begins
fenced_runs kind g s l =
    repairs_run kind _ _ [] (noted (keeping g (record g.file.kept { tag = g.file.kept.tag + 1; phase = Repairing })) _
    (record {
      kept = record {
        number = s.kept.number;
        map = s.kept.map;
        few = s.kept.few;
        format = s.kept.format;
        tag = omega (arith, l);
        size = s.kept.size;
        components = s.kept.components;
        grants = s.kept.grants;
        ended = s.kept.ended;
        high = s.kept.high;
      };
      drives = s.drives;
    }))

fences_run : (kind : JobKind) (g : Going) → Sound g → g.file.kept.tag < GREATEST_TAG → From g (fences kind g)
fences_run kind g s l =
    rests_or_runs _ g _ _ _ s (each_near g.effects.object g.file.kept _ _ g.file.kept.components 0 g.effects.nonce
    (omega (arith, s.kept.few)) s.kept.components) l (fenced_runs kind g s l)

pub fence_runs : (kind : JobKind) (format : ℕ) (g : Going) → is_format format ≡ true → Sound g
    → g.file.kept.tag < GREATEST_TAG → From g (fence_begins kind format g)
unfolding fence_begins
fence_runs kind format g known s l =
    fences_run kind (keeping g (ending g.file.kept format)) (record {
      kept = record {
        number = s.kept.number;
        map = s.kept.map;
        few = s.kept.few;
        format = greater_format g.file.kept.format format s.kept.format known;
        tag = s.kept.tag;
        size = s.kept.size;
        components = s.kept.components;
        grants = tt;
        ended =
            each_more (GrantFits g.file.kept.number g.file.kept.map) g.file.kept.ended g.file.kept.grants s.kept.ended
            s.kept.grants;
        high = s.kept.high;
      };
      drives = s.drives;
    }) l

-- ---- nothing is awaited any more

made_runs : (g : Going) → Sound g → From g (is_made g)
made_runs g s = over_runs (noting (keeping g (record g.file.kept { ready = true })) _) (record {
  kept = record {
    number = s.kept.number;
    map = s.kept.map;
    few = s.kept.few;
    format = s.kept.format;
    tag = s.kept.tag;
    size = s.kept.size;
    components = s.kept.components;
    grants = s.kept.grants;
    ended = s.kept.ended;
    high = s.kept.high;
  };
  drives = s.drives;
})

pub making_runs : (g : Going) → Sound g → From g (making g)
unfolding making
making_runs g s =
    rests_or_runs _ g _ _ _ s (each_near g.effects.object g.file.kept _ _ g.file.kept.components 0 g.effects.nonce
    (omega (arith, s.kept.few)) s.kept.components) tt (made_runs g s)

on_runs : (kind : JobKind) (work : Work) (heard : List Heard) (g : Going) → Sound g
    → WorkFits g.effects.object g.file.kept.tag work → From g (goes_on kind work heard g)
unfolding goes_on
on_runs kind Creates heard g s w = made_runs g s
on_runs kind Fences heard g s w = fenced_runs kind g s w
on_runs kind (Fetches todo short) heard g s w = fetched_runs kind g todo short heard s
on_runs kind (Stores todo short broken) heard g s w = written_runs kind g todo short broken s
on_runs kind (Targets t) heard g s w = fills_run g t _ s w
on_runs kind (Gathers t todo) heard g s w = gathered_runs g t todo heard s w
on_runs kind (Fills t todo) heard g s w = filled_runs g t todo s w
on_runs kind Lengths heard g s w = audits_run g _ _ s
on_runs kind (Checks todo t) heard g s w = audited_runs g todo t heard s

pub waits_run : (g : Going) (j : Job) (work : Work) (rest : List Awaited) (heard : List Heard) → Sound g
    → WorkFits g.effects.object g.file.kept.tag work → AllNear rest → From g (waits_or_on g j work rest heard)
waits_run g j work [] heard s w n = on_runs j.kind work heard g s w
waits_run g j work (c ∷ cs) heard s w n = record {
  number_is = refl;
  map_is = refl;
  more = [];
  sent_is = sym (append-nil g.effects.sent);
  rises = omega arith;
  objects = omega arith;
  given = omega arith;
  near = tt;
  drives = refl;
  kept = s.kept;
  job = (w, n);
}

-- ---- a component becomes missing

refills_run : (g : Going) (t : Target) (ps : List Piece) (gone : Bool) → Sound g → TargetFits g.effects.object t
    → From g (refills g t ps gone)
refills_run g t ps true s f = gone_runs g t s
refills_run g t ps false s f = fills_run g t ps s f

remakes_run : (g : Going) (t : Target) (gone : Bool) → Sound g → JobFits g.effects.object g.file.kept.tag g.file.job
    → From g (remakes g t gone)
remakes_run g t true s j = gone_runs g t s
remakes_run g t false s j = here g s j

pub loses_run : (g : Going) (j : Job) (work : Work) (rest : List Awaited) (gone : Bool) → Sound g
    → JobFits g.effects.object g.file.kept.tag g.file.job → WorkFits g.effects.object g.file.kept.tag work → AllNear rest
    → From g (loses g j work rest gone)
unfolding loses
loses_run g j (Fetches todo short) rest gone s k w n = repairs_run j.kind g todo short s
loses_run g j (Stores todo short broken) rest gone s k w n = waits_run g j (Stores todo short true) rest _ s tt n
loses_run g j (Targets t) rest gone s k w n = remakes_run g t gone s k
loses_run g j (Gathers t todo) rest gone s k w n = refills_run g t todo gone s w
loses_run g j (Fills t todo) rest gone s k w n = refills_run g t todo gone s w
loses_run g j (Checks todo t) rest gone s k w n = audits_run g todo t s
loses_run g j Creates rest gone s k w n = waits_run g j Creates rest _ s w n
loses_run g j Fences rest gone s k w n = waits_run g j Fences rest _ s w n
loses_run g j Lengths rest gone s k w n = waits_run g j Lengths rest _ s w n

-- ---- a drive is declared

declared_runs : (g : Going) (drive : ℕ) (o : Option Job) → Sound g
    → JobFits g.effects.object g.file.kept.tag g.file.job → JobFits g.effects.object g.file.kept.tag o
    → From g (declared_in g drive o)
declared_runs g drive None s k l = here g s k
declared_runs g drive (Some j) s k l =
    loses_run g j j.work (others_than drive j.awaited) (is_target j.work drive) s k l.0
    (each_filtered IsNear _ j.awaited l.1)

either_runs : (g : Going) (b : Bool) (x y : Going) → From g x → From g y → From g (if b then x else y)
either_runs g true x y p q = p
either_runs g false x y p q = q

pub declares_run : (g : Going) (drive : ℕ) → Sound g → JobFits g.effects.object g.file.kept.tag g.file.job
    → From g (declares g drive)
unfolding declares
declares_run g drive s k =
    either_runs g (any_on drive g.file.kept.components || targets g.file.job drive) _ _
    (declared_runs (with_components g (lose_on drive g.file.kept.components)) drive g.file.job (record {
      kept = with_parts g.effects.object g.file.kept _ s.kept (length_lost_on drive g.file.kept.components)
          (fit_lost_on g.effects.object drive g.file.kept.components s.kept.components);
      drives = s.drives;
    }) k k) (here g s k)

-- ---- a reply

renewed_near : (a b : Awaited) (ws : List Awaited) → IsNear b → AllNear ws → AllNear (map (renewed a b) ws)
renewed_near a b [] n k = tt
renewed_near a b (c ∷ ws) n k = (either (c.command.nonce == a.command.nonce), renewed_near a b ws n k.1)
  where
    either : (t : Bool) → IsNear (if t then b else c)
    either true = n
    either false = k.0

again_near : (g : Going) (a : Awaited) → IsNear a → IsNear (again_in_2 a g.effects.nonce)
again_near g a n = record { drive = n.drive; component = n.component }

renews_run : (g : Going) (j : Job) (a : Awaited) → Sound g → IsNear a
    → WorkFits g.effects.object g.file.kept.tag j.work → AllNear j.awaited → From g (renews g j a)
renews_run g j a s n w k = record {
  number_is = refl;
  map_is = refl;
  more = again_in_2 a g.effects.nonce ∷ [];
  sent_is = refl;
  rises = refl;
  objects = omega arith;
  given = omega arith;
  near = (again_near g a n, tt);
  drives = refl;
  kept = record {
    number = s.kept.number;
    map = s.kept.map;
    few = s.kept.few;
    format = refl;
    tag = s.kept.tag;
    size = s.kept.size;
    components = s.kept.components;
    grants = s.kept.grants;
    ended = s.kept.ended;
    high = s.kept.high;
  };
  job = (w, renewed_near a (again_in_2 a g.effects.nonce) j.awaited (again_near g a n) k);
}

lost_sound : (g : Going) (ks : List ℕ) → Sound g
    → Sound (with_components g (lose_from ks g.file.kept.components 0))
lost_sound g ks s = record {
  kept = with_parts g.effects.object g.file.kept _ s.kept (length_lost ks g.file.kept.components 0)
      (fit_lost g.effects.object ks g.file.kept.components 0 s.kept.components);
  drives = s.drives;
}

full_or_lost : (g : Going) (j : Job) (a : Awaited) (work : Work) → Sound g
    → JobFits g.effects.object g.file.kept.tag g.file.job → WorkFits g.effects.object g.file.kept.tag work
    → AllNear j.awaited → From g (loses (noting (with_components g (lose_from (a.component ∷ []) g.file.kept.components
    0)) (NoSpace a.component)) j work (others j.awaited a.command.nonce) false)
full_or_lost g j a work s k w n =
    loses_run (noting (with_components g (lose_from (a.component ∷ []) g.file.kept.components 0)) (NoSpace a.component))
    j work (others j.awaited a.command.nonce) false (noted _ _ (lost_sound g (a.component ∷ []) s)) k w
    (each_filtered IsNear _ j.awaited n)

fills_up_run : (g : Going) (j : Job) (a : Awaited) (work : Work) → Sound g
    → JobFits g.effects.object g.file.kept.tag g.file.job → WorkFits g.effects.object g.file.kept.tag work
    → AllNear j.awaited → From g (fills_up g j a work)
fills_up_run g j a (Targets t) s k w n = full_runs g t s
fills_up_run g j a (Gathers t todo) s k w n = full_runs g t s
fills_up_run g j a (Fills t todo) s k w n = full_runs g t s
fills_up_run g j a Creates s k w n = full_or_lost g j a Creates s k w n
fills_up_run g j a Fences s k w n = full_or_lost g j a Fences s k w n
fills_up_run g j a (Fetches todo short) s k w n = full_or_lost g j a (Fetches todo short) s k w n
fills_up_run g j a (Stores todo short broken) s k w n = full_or_lost g j a (Stores todo short broken) s k w n
fills_up_run g j a Lengths s k w n = full_or_lost g j a Lengths s k w n
fills_up_run g j a (Checks todo t) s k w n = full_or_lost g j a (Checks todo t) s k w n

pub hears_run : (g : Going) (j : Job) (a : Awaited) (r : Reply) (x : Hearing) → Sound g
    → JobFits g.effects.object g.file.kept.tag g.file.job → JobFits g.effects.object g.file.kept.tag (Some j)
    → IsNear a → From g (hears g j a r x)
hears_run g j a r Older s k l n = renews_run g j a s n l.0 l.1
hears_run g j a r Full s k l n = fills_up_run g j a j.work s k l.0 l.1
hears_run g j a r Done s k l n =
    waits_run g j j.work (others j.awaited a.command.nonce) (heard_with j a r) s l.0
    (each_filtered IsNear _ j.awaited l.1)
hears_run g j a r Nothing s k l n = here g s k

-- ---- commands that are found

abbrev FoundNear : Option Awaited → Type 0
FoundNear None = Unit {0}
FoundNear (Some a) = IsNear a

find_near : (p : Awaited → Bool) (ws : List Awaited) → AllNear ws → FoundNear (find p ws)
find_near p [] k = tt
find_near p (a ∷ ws) k = either (p a) (find_near p ws k.1)
  where
    either : (b : Bool) → FoundNear (find p ws) → FoundNear (if b then Some a else find p ws)
    either true l = k.0
    either false l = l

pub found_near : (p : Awaited → Bool) (ws : List Awaited) (a : Awaited) → AllNear ws → find p ws ≡ Some a → IsNear a
found_near p ws a k e = subst FoundNear e (find_near p ws k)
