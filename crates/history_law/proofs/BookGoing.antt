-- Jobs, fences and declarations go with the placer's drives as the CREATEs that they send.
use Rattle.std.proofs.Common.{◌≡◌, ℕ, ◌+◌, ◌∷◌, [], List, Bool, true, false, ◌||◌, Option, Some, None, refl, if◌then◌else◌}
use Rattle.osd_capability.specs.Layout.{is_format}
use Rattle.world_history.specs.ServerNames.{Piece, Target, Heard, Awaited, Tally, Job, JobKind, Work, Creates, Fences, Fetches, Stores, Targets, Gathers, Fills, Lengths, Checks, Repairing, Fenced}
use Rattle.server_rules.specs.Standing.{lose_on, any_on}
use Rattle.server_rules.specs.Commands.{Raising, All, to_all}
use Rattle.server_rules.specs.Going.{Going, keeping, with_components, noting, waits_on}
use Rattle.server_rules.specs.Audit.{checked}
use Rattle.server_rules.specs.Rebuild.{made}
use Rattle.server_rules.specs.Jobs.{is_made, ending, fenced, fences, fence_begins, fetched, written, gathered, filled_in, audited_on, goes_on, waits_or_on, is_target, refills, remakes, loses, others_than, declared_in, targets, declares}
use Rattle.history_law.proofs.Placing.{choosing, Fit, Placed, placed_here, placed_or, none_each, greater_format}
use Rattle.history_law.proofs.Rebuilding.{audits_placed, fills_placed, filling_placed, gone_placed, repairs_placed, storing_placed, stored_placed, repair_placed}

-- ---- a fence

pub fenced_placed : (kind : JobKind) (g : Going) → Fit g
    → Placed g.drives g.effects.sent (fenced kind g) (λ x. fenced kind (choosing g x))
unfolding fenced
fenced_placed kind g h =
    repair_placed kind (noting (keeping g (record g.file.kept { tag = g.file.kept.tag + 1; phase = Repairing }))
    (Fenced (g.file.kept.tag + 1))) h

fences_placed : (kind : JobKind) (g : Going) → Fit g
    → Placed g.drives g.effects.sent (fences kind g) (λ x. fences kind (choosing g x))
fences_placed kind g h =
    placed_or (to_all g.file.kept All Raising g.effects.nonce) g kind Fences _ (λ x. fenced kind (choosing g x)) h
    (none_each g.drives g.file.kept _ _ g.file.kept.components 0 g.effects.nonce (λ f k drive object nonce. refl))
    (fenced_placed kind g h)

pub fence_placed : (kind : JobKind) (format : ℕ) (g : Going) → is_format format ≡ true → Fit g
    → Placed g.drives g.effects.sent (fence_begins kind format g) (λ x. fence_begins kind format (choosing g x))
unfolding fence_begins
fence_placed kind format g known h =
    fences_placed kind (keeping g (ending g.file.kept format))
    (record { format = greater_format g.file.kept.format format h.format known; drives = h.drives })

-- ---- nothing is awaited any more

fetched_placed : (kind : JobKind) (g : Going) (todo : List Piece) (short : List ℕ) (heard : List Heard) → Fit g
    → Placed g.drives g.effects.sent (fetched kind g todo short heard) (λ x. fetched kind (choosing g x) todo short heard)
fetched_placed kind g [] short heard h = repairs_placed kind g [] short h
fetched_placed kind g (p ∷ ps) short heard h = storing_placed kind g p ps short heard h

written_placed : (kind : JobKind) (g : Going) (todo : List Piece) (short : List ℕ) (broken : Bool) → Fit g
    → Placed g.drives g.effects.sent (written kind g todo short broken)
    (λ x. written kind (choosing g x) todo short broken)
written_placed kind g [] short broken h = repairs_placed kind g [] short h
written_placed kind g (p ∷ ps) short broken h = stored_placed kind g p ps short broken h

gathered_placed : (g : Going) (t : Target) (todo : List Piece) (heard : List Heard) → Fit g
    → Placed g.drives g.effects.sent (gathered g t todo heard) (λ x. gathered (choosing g x) t todo heard)
gathered_placed g t [] heard h = fills_placed g t [] h
gathered_placed g t (p ∷ ps) heard h = filling_placed g t p ps (made g.file.kept t p heard) h

filled_placed : (g : Going) (t : Target) (todo : List Piece) → Fit g
    → Placed g.drives g.effects.sent (filled_in g t todo) (λ x. filled_in (choosing g x) t todo)
filled_placed g t [] h = fills_placed g t [] h
filled_placed g t (p ∷ ps) h = fills_placed g t ps h

audited_placed : (g : Going) (todo : List Piece) (t : Tally) (heard : List Heard) → Fit g
    → Placed g.drives g.effects.sent (audited_on g todo t heard) (λ x. audited_on (choosing g x) todo t heard)
audited_placed g [] t heard h = audits_placed g [] t h
audited_placed g (p ∷ ps) t heard h = audits_placed g ps (checked g.file.kept p heard t) h

on_placed : (kind : JobKind) (work : Work) (heard : List Heard) (g : Going) → Fit g
    → Placed g.drives g.effects.sent (goes_on kind work heard g) (λ x. goes_on kind work heard (choosing g x))
unfolding goes_on
on_placed kind Creates heard g h = placed_here (is_made g) h
on_placed kind Fences heard g h = fenced_placed kind g h
on_placed kind (Fetches todo short) heard g h = fetched_placed kind g todo short heard h
on_placed kind (Stores todo short broken) heard g h = written_placed kind g todo short broken h
on_placed kind (Targets t) heard g h = fills_placed g t _ h
on_placed kind (Gathers t todo) heard g h = gathered_placed g t todo heard h
on_placed kind (Fills t todo) heard g h = filled_placed g t todo h
on_placed kind Lengths heard g h = audits_placed g _ _ h
on_placed kind (Checks todo t) heard g h = audited_placed g todo t heard h

pub waits_placed : (g : Going) (j : Job) (work : Work) (left : List Awaited) (heard : List Heard) → Fit g
    → Placed g.drives g.effects.sent (waits_or_on g j work left heard) (λ x. waits_or_on (choosing g x) j work left heard)
waits_placed g j work [] heard h = on_placed j.kind work heard g h
waits_placed g j work (c ∷ cs) heard h = placed_here (waits_on g j work c cs heard) h

-- ---- a component becomes missing

refills_placed : (g : Going) (t : Target) (todo : List Piece) (gone : Bool) → Fit g
    → Placed g.drives g.effects.sent (refills g t todo gone) (λ x. refills (choosing g x) t todo gone)
refills_placed g t todo true h = gone_placed g t h
refills_placed g t todo false h = fills_placed g t todo h

remakes_placed : (g : Going) (t : Target) (gone : Bool) → Fit g
    → Placed g.drives g.effects.sent (remakes g t gone) (λ x. remakes (choosing g x) t gone)
remakes_placed g t true h = gone_placed g t h
remakes_placed g t false h = placed_here g h

pub loses_placed : (g : Going) (j : Job) (work : Work) (rest : List Awaited) (gone : Bool) → Fit g
    → Placed g.drives g.effects.sent (loses g j work rest gone) (λ x. loses (choosing g x) j work rest gone)
unfolding loses
loses_placed g j (Fetches todo short) rest gone h = repairs_placed j.kind g todo short h
loses_placed g j (Stores todo short broken) rest gone h = waits_placed g j (Stores todo short true) rest j.heard h
loses_placed g j (Targets t) rest gone h = remakes_placed g t gone h
loses_placed g j (Gathers t todo) rest gone h = refills_placed g t todo gone h
loses_placed g j (Fills t todo) rest gone h = refills_placed g t todo gone h
loses_placed g j (Checks todo t) rest gone h = audits_placed g todo t h
loses_placed g j work rest gone h = waits_placed g j work rest j.heard h

declared_placed : (g : Going) (drive : ℕ) (j : Option Job) → Fit g
    → Placed g.drives g.effects.sent (declared_in g drive j) (λ x. declared_in (choosing g x) drive j)
declared_placed g drive None h = placed_here g h
declared_placed g drive (Some j) h = loses_placed g j j.work (others_than drive j.awaited) (is_target j.work drive) h

-- what stands on a drive is lost
abbrev losing : Going → (drive : ℕ) → Going
losing g drive = declared_in (with_components g (lose_on drive g.file.kept.components)) drive g.file.job

losing_if : (b : Bool) (g : Going) (drive : ℕ) → Fit g
    → Placed g.drives g.effects.sent (if b then losing g drive else g)
    (λ x. if b then losing (choosing g x) drive else choosing g x)
losing_if true g drive h = declared_placed (with_components g (lose_on drive g.file.kept.components)) drive g.file.job h
losing_if false g drive h = placed_here g h

pub declares_placed : (g : Going) (drive : ℕ) → Fit g
    → Placed g.drives g.effects.sent (declares g drive) (λ x. declares (choosing g x) drive)
unfolding declares
declares_placed g drive h = losing_if (any_on drive g.file.kept.components || targets g.file.job drive) g drive h
