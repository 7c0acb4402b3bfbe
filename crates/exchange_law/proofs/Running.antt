-- What a job's run leaves of a file fits, and its numbers rise no further than it sends commands.
use Rattle.std.proofs.Common.{◌≡◌, ℕ, ◌+◌, ◌-◌, ◌≤◌, ◌<◌, ◌++◌, Bool, true, false, List, [], ◌∷◌, Option, Some, None, length, drop, nat_lt, replicate, slice_set, inl, inr, refl, sym, arith, if◌then◌else◌}
use Rattle.std.proofs.lemmas.Bool.{cases_Bool}
use Rattle.std.proofs.lemmas.List.{append-nil, length-drop}
use Rattle.data_map.specs.declared.check.RawMap.{RawMap}
use Rattle.world_history.specs.ServerNames.{Kept, Component, Drive, Awaited, Piece, Heard, Target, Tally, JobKind, Rebuilding, Work, Fills, NoteKind}
use Rattle.server_rules.specs.declared.limits.TheConstants.{MAX_FILE_COMPONENTS}
use Rattle.server_rules.specs.Standing.{is_beyond}
use Rattle.server_rules.specs.Zoning.{takers}
use Rattle.server_rules.specs.Columns.{end_of}
use Rattle.server_rules.specs.Going.{Going, over, with_components, noting, noting_if, rests, rests_or}
use Rattle.server_rules.specs.Audit.{audits, audit_begins}
use Rattle.server_rules.specs.Rebuild.{or_first, picked, target_on, target_for, makes, makes_or, rebuilds, goes_past, stands_at, sources, sources_by, fills, filling, target_gone, target_full, group_for}
use Rattle.server_rules.specs.Jobs.{gathered, filled_in, audited_on}
use Rattle.history_law.specs.Placed.{AreNamed}
use Rattle.history_law.proofs.Rebuilding.{first_named, takers_named}
use Rattle.exchange_law.specs.Files.{KeptFits}
use Rattle.exchange_law.proofs.Parts.{PartsFit, wider_parts, fit_set, length_set, AllNear, either_near, each_near, TargetFits, WorkFits, JobFits}

-- ---- what is kept

pub wider_kept : (m n : ℕ) (f : Kept) → m ≤ n → KeptFits m f → KeptFits n f
wider_kept m n f l k = record {
  number = k.number;
  map = k.map;
  few = k.few;
  format = k.format;
  tag = k.tag;
  size = k.size;
  components = wider_parts m n f.components l k.components;
  grants = k.grants;
  ended = k.ended;
  high = k.high;
}

-- with other components
pub with_parts : (n : ℕ) (f : Kept) (cs : List Component) → KeptFits n f → length cs ≡ length f.components → PartsFit n cs
    → KeptFits n (record f { components = cs })
with_parts n f cs k same fit = record {
  number = k.number;
  map = k.map;
  few = omega (arith, same, k.few);
  format = k.format;
  tag = k.tag;
  size = k.size;
  components = fit;
  grants = k.grants;
  ended = k.ended;
  high = k.high;
}

-- ---- a run

-- what is kept fits, and lines can name the drives
pub record Sound (g : Going) : Type 0 where
  pub kept : KeptFits g.effects.object g.file.kept
  pub drives : AreNamed g.drives

-- behind a run from these numbers and commands
pub record Runs (number : ℕ) (m : RawMap) (nonce object : ℕ) (sent : List Awaited) (ds : List Drive)
    (h : Going) : Type 0 where
  pub number_is : h.file.kept.number ≡ number
  pub map_is : h.file.kept.map ≡ m
  pub more : List Awaited
  pub sent_is : h.effects.sent ≡ sent ++ more
  pub rises : h.effects.nonce ≡ nonce + length more
  pub objects : object ≤ h.effects.object
  pub given : h.effects.object ≤ object + length more
  pub near : AllNear more
  pub drives : h.drives ≡ ds
  pub kept : KeptFits h.effects.object h.file.kept
  pub job : JobFits h.effects.object h.file.kept.tag h.file.job

abbrev pub From : Going → Going → Type 0
From g h =
    Runs g.file.kept.number g.file.kept.map g.effects.nonce g.effects.object g.effects.sent g.drives h

-- nothing is sent
pub here : (g : Going) → Sound g → JobFits g.effects.object g.file.kept.tag g.file.job → From g g
here g s j = record {
  number_is = refl;
  map_is = refl;
  more = [];
  sent_is = sym (append-nil g.effects.sent);
  rises = omega arith;
  objects = omega arith;
  given = omega arith;
  near = tt;
  drives = refl;
  kept = s.kept;
  job = j;
}

pub over_runs : (g : Going) → Sound g → From g (over g)
over_runs g s = here (over g) (record { kept = s.kept; drives = s.drives }) tt

rests_run : (g : Going) (kind : JobKind) (work : Work) (c : Awaited) (cs : List Awaited) → Sound g
    → AllNear (c ∷ cs) → WorkFits g.effects.object g.file.kept.tag work → From g (rests g kind work c cs)
rests_run g kind work c cs s n w = record {
  number_is = refl;
  map_is = refl;
  more = c ∷ cs;
  sent_is = refl;
  rises = refl;
  objects = omega arith;
  given = omega arith;
  near = n;
  drives = refl;
  kept = s.kept;
  job = (w, n);
}

pub rests_or_runs : (cs : List Awaited) (g : Going) (kind : JobKind) (work : Work) (later : Going) → Sound g → AllNear cs
    → WorkFits g.effects.object g.file.kept.tag work → From g later → From g (rests_or cs g kind work later)
rests_or_runs [] g kind work later s n w r = r
rests_or_runs (c ∷ cs) g kind work later s n w r = rests_run g kind work c cs s n w

pub noted : (g : Going) (kind : NoteKind) → Sound g → Sound (noting g kind)
noted g kind s = record { kept = s.kept; drives = s.drives }

-- ---- audit

pub audits_run : (g : Going) (ps : List Piece) (t : Tally) → Sound g → From g (audits g ps t)
unfolding audits
audits_run g [] t s = over_runs (noting g _) (noted g _ s)
audits_run g (p ∷ ps) t s =
    rests_or_runs _ g _ _ _ s (each_near g.effects.object g.file.kept _ _ g.file.kept.components 0 g.effects.nonce
    (omega (arith, s.kept.few)) s.kept.components) tt (audits_run g ps _ s)

pub audit_runs : (g : Going) → Sound g → From g (audit_begins g)
unfolding audit_begins
audit_runs g s =
    rests_or_runs _ g _ _ _ s (each_near g.effects.object g.file.kept _ _ g.file.kept.components 0 g.effects.nonce
    (omega (arith, s.kept.few)) s.kept.components) tt (audits_run g _ _ s)

pub audited_runs : (g : Going) (ps : List Piece) (t : Tally) (heard : List Heard) → Sound g
    → From g (audited_on g ps t heard)
audited_runs g [] t heard s = audits_run g [] t s
audited_runs g (p ∷ ps) t heard s = audits_run g ps _ s

-- ---- rebuild

-- a component is made anew on one of these drives
makes_run : (g : Going) (k : ℕ) (d : Drive) (ds : List Drive) → Sound g → k < MAX_FILE_COMPONENTS → AreNamed (d ∷ ds)
    → From g (makes g (record { component = k; drive = or_first g.chosen d ds; object = g.effects.object }))
makes_run g k d ds s l named = record {
  number_is = refl;
  map_is = refl;
  more = _ ∷ [];
  sent_is = refl;
  rises = refl;
  objects = omega arith;
  given = omega arith;
  near = (record { drive = first_named g.chosen d ds named; component = l }, tt);
  drives = refl;
  kept = wider_kept g.effects.object (g.effects.object + 1) g.file.kept (omega arith) s.kept;
  job = (
    record { drive = first_named g.chosen d ds named; object = omega arith; component = l },
    (record { drive = first_named g.chosen d ds named; component = l }, tt),
  );
}

made_or : (g : Going) (b : Bool) (k : ℕ) (free : List Drive) (later : Going) → Sound g
    → k < MAX_FILE_COMPONENTS → AreNamed free → From g later
    → From g (makes_or g (if b then target_on g k (picked g.chosen free) else None) later)
made_or g false k free later s l named r = r
made_or g true k [] later s l named r = r
made_or g true k (d ∷ ds) later s l named r = makes_run g k d ds s l named

pub rebuilds_run : (g : Going) (cs : List Component) (k : ℕ) → Sound g → length cs ≤ MAX_FILE_COMPONENTS - k
    → From g (rebuilds g cs k)
unfolding rebuilds target_for
rebuilds_run g [] k s l = over_runs g s
rebuilds_run g (at ∷ cs) k s l =
    made_or g at.missing k (takers g.drives g.file.kept k) _ s (omega (arith, l))
    (takers_named g.drives g.file.kept k s.drives)
    (rebuilds_run (noting_if at.missing g _) cs (k + 1) (record { kept = s.kept; drives = s.drives })
    (omega (arith, l)))

-- the components behind one
past_runs : (g : Going) (t : Target) → Sound g → From g (goes_past g t)
past_runs g t s =
    rebuilds_run g (drop (t.component + 1) g.file.kept.components) (t.component + 1) s
    (omega (arith, length-drop (t.component + 1) g.file.kept.components, s.kept.few))

none_or_near : (f : Kept) (t : Target) (p : Piece) (nonce n : ℕ) (o : Option ℕ) → PartsFit n f.components
    → length f.components ≤ MAX_FILE_COMPONENTS → AllNear (sources_by f t p nonce o)
none_or_near f t p nonce n (Some j) fit l = each_near n f _ _ f.components 0 nonce (omega (arith, l)) fit
none_or_near f t p nonce n None fit l =
    either_near (is_beyond f.map f.components (group_for f t)) _ _ tt
    (each_near n f _ _ f.components 0 nonce (omega (arith, l)) fit)

-- its target stands there
placed : (g : Going) (t : Target) → Sound g → TargetFits g.effects.object t
    → Sound (with_components g (slice_set g.file.kept.components t.component (stands_at t)))
placed g t s f = record {
  kept = with_parts g.effects.object g.file.kept _ s.kept (length_set g.file.kept.components t.component (stands_at t))
      (fit_set g.effects.object g.file.kept.components t.component (stands_at t) s.kept.components
      (record { drive = f.drive; object = f.object }));
  drives = s.drives;
}

pub fills_run : (g : Going) (t : Target) (ps : List Piece) → Sound g → TargetFits g.effects.object t → From g (fills g t ps)
unfolding fills sources
fills_run g t [] s f =
    past_runs (noting (with_components g (slice_set g.file.kept.components t.component (stands_at t))) _) t
    (noted _ _ (placed g t s f))
fills_run g t (p ∷ ps) s f =
    rests_or_runs _ g _ _ _ s (none_or_near g.file.kept t p g.effects.nonce g.effects.object _ s.kept.components
    s.kept.few) f (past_runs (noting g _) t (noted g _ s))

filling_runs : (g : Going) (t : Target) (p : Piece) (ps : List Piece) (bytes : List ℕ) → Sound g
    → TargetFits g.effects.object t → From g (filling g t p ps bytes)
unfolding filling
filling_runs g t p ps bytes s f = elim (cases_Bool (nat_lt 0 (end_of bytes (replicate p.count 0)))) [
  | inl e ↦ rw e (rests_run g Rebuilding (Fills t (p ∷ ps)) _ [] s
      (record { drive = f.drive; component = f.component }, tt) f)
  | inr e ↦ rw e (fills_run g t ps s f)
]

pub gathered_runs : (g : Going) (t : Target) (ps : List Piece) (heard : List Heard) → Sound g → TargetFits g.effects.object t
    → From g (gathered g t ps heard)
gathered_runs g t [] heard s f = fills_run g t [] s f
gathered_runs g t (p ∷ ps) heard s f = filling_runs g t p ps _ s f

pub filled_runs : (g : Going) (t : Target) (ps : List Piece) → Sound g → TargetFits g.effects.object t
    → From g (filled_in g t ps)
filled_runs g t [] s f = fills_run g t [] s f
filled_runs g t (p ∷ ps) s f = fills_run g t ps s f

pub gone_runs : (g : Going) (t : Target) → Sound g → From g (target_gone g t)
gone_runs g t s = past_runs (noting g _) t (noted g _ s)

pub full_runs : (g : Going) (t : Target) → Sound g → From g (target_full g t)
full_runs g t s = past_runs (noting g _) t (noted g _ s)
