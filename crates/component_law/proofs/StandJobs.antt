-- What each function of the job machine leaves of a file whose components have their objects, or get them.
use Rattle.std.proofs.Common.{◌≡◌, ◌||◌, ℕ, ◌+◌, nat_lt, Bool, true, false, List, [], ◌∷◌, replicate, slice_set, Option, Some, None, refl, sym, ap, subst, ◌∙◌, inl, inr, if◌then◌else◌}
use Rattle.std.proofs.lemmas.Bool.{cases_Bool}
use Rattle.osd_commands.specs.declared.actions.Action.{Action}
use Rattle.osd_commands.specs.declared.actions.Action.TheVariants.{Create, SetTag}
use Rattle.server_rules.specs.Audit.{audits, audit_begins}
use Rattle.server_rules.specs.Columns.{end_of}
use Rattle.server_rules.specs.Commands.{Ask, Creating, Raising, Which, All, sent_to, to_all}
use Rattle.server_rules.specs.Going.{Going, noting, noting_if, keeping, with_components, rests, rests_or}
use Rattle.server_rules.specs.Jobs.{is_made, making, ending, fenced, fence_begins, fetched, written, gathered, filled_in, audited_on, goes_on, waits_or_on, refills, remakes, loses, others_than, is_target, declared_in, targets, declares}
use Rattle.server_rules.specs.Laws.{In}
use Rattle.server_rules.specs.Rebuild.{target_for, makes_or, rebuilds, stands_at, sources, to_fill, fills, filling, target_gone, target_full}
use Rattle.server_rules.specs.Repair.{after_repair, mended, repairs, storing, stored, repair_begins}
use Rattle.server_rules.specs.Replies.{Hearing, Older, Full, Done, Nothing, is_write, is_done, hearing, others, fills_up, heard_with, hears}
use Rattle.server_rules.specs.Standing.{any_on, lose_on, lose_from}
use Rattle.history_law.specs.Names.{Kept, Component, Awaited, Heard, Piece, Target, Job, JobKind, Making, Revoking, Rebuilding, Auditing, Work, Creates, Fences, Fetches, Stores, Targets, Gathers, Fills, Lengths, Checks, Tally, Rebuilt, NoDrive, NoSpace, Reply}
use Rattle.history_law.specs.Fencing.{Reached, Raises, IsAsked}
use Rattle.history_law.proofs.Asking.{in_lost_from}
use Rattle.history_law.proofs.Hearing.{full_is_write, done_is_done, IsAlone}
use Rattle.component_law.specs.Standing.{IsCreate, IsUnmade}
use Rattle.component_law.proofs.StandAwaited.{AllAre, IsOther, one_is, sought_asked, sought_none, each_are, others_each, asked_each, stores_others, repair_others, sources_others, in_set}
use Rattle.component_law.proofs.StandHeld.{reach, IsTagged, IsOwn, IsNew, Holds, Ends, FileEnds, Lasts, holds_others, holds_renewed, holds_lost, ends_lost, lasts, lasts_declared, ends_declared}
use Rattle.component_law.proofs.BirthSent.{is_creating}

module _ (R : Reached) where
  -- the file is ready, and each component that isn't missing has reached its tag
  abbrev Own : Going → Type 0
  Own g = IsOwn R g.file.kept.tag g.file.kept.components g.file.kept.ready

  -- or it isn't made yet
  abbrev New : Going → Type 0
  New g = IsNew g.file.kept.ready (IsUnmade g.file.kept)

  abbrev End : Going → Type 0
  End g = FileEnds R g.file

  abbrev Has : Going → Work → List Awaited → Type 0
  Has g work ws = Holds R g.file.kept.tag g.file.kept.components g.file.kept.ready (IsUnmade g.file.kept) work ws

  abbrev Left : Going → Work → List Awaited → Type 0
  Left g work ws = Lasts R g.file.kept.tag g.file.kept.components g.file.kept.ready (IsUnmade g.file.kept) work ws

  abbrev Aim : Going → Target → Type 0
  Aim g t = R t.drive t.object g.file.kept.tag ≡ true

  -- ---- the job rests, or goes on

  ends_rests_or : (cs : List Awaited) (g : Going) (kind : JobKind) (work : Work) (later : Going) → Has g work cs
      → End later → End (rests_or cs g kind work later)
  ends_rests_or [] g kind work later h l = l
  ends_rests_or (c ∷ cs) g kind work later h l = h

  all_others : (g : Going) (which : Which) (ask : Ask) → is_creating ask ≡ false
      → AllAre IsOther (to_all g.file.kept which ask g.effects.nonce)
  all_others g which ask other = others_each g.file.kept which ask g.file.kept.components 0 g.effects.nonce other

  -- ---- audit

  ends_audits : (g : Going) (ps : List Piece) (t : Tally) → Own g → End (audits g ps t)
  unfolding audits
  ends_audits g [] t h = h
  ends_audits g (p ∷ ps) t h = ends_rests_or _ g _ _ _ (h, all_others g _ _ refl) (ends_audits g ps _ h)

  ends_audit : (g : Going) → Own g → End (audit_begins g)
  unfolding audit_begins
  ends_audit g h = ends_rests_or _ g _ _ _ (h, all_others g _ _ refl) (ends_audits g _ _ h)

  -- ---- rebuild

  ends_makes_or : (g : Going) (o : Option Target) (later : Going) → Own g → End later → End (makes_or g o later)
  ends_makes_or g None later h l = l
  ends_makes_or g (Some t) later h l =
      let x : Awaited = sent_to g.file.kept Creating t.component t.drive t.object g.effects.nonce in
      let create : IsCreate g.file.kept.tag x = record { action = refl; tagged = refl; holder = refl } in
      (h, one_is (IsTagged g.file.kept.tag) x (λ e. create), inl (x, inl refl, create, refl, refl))

  ends_rebuilds : (g : Going) (cs : List Component) (k : ℕ) → Own g → End (rebuilds g cs k)
  unfolding rebuilds
  ends_rebuilds g [] k h = h
  ends_rebuilds g (at ∷ cs) k h =
      ends_makes_or g (target_for g at k) _ h (ends_rebuilds (noting_if at.missing g (NoDrive k)) cs (k + 1) h)

  -- the component stands on its new drive
  owns_rebuilt : (g : Going) (t : Target) → Own g → Aim g t
      → Own (with_components g (slice_set g.file.kept.components t.component (stands_at t)))
  owns_rebuilt g t h a = (
    h.0,
    λ at i there. elim (in_set g.file.kept.components t.component (stands_at t) at i) [
      | inl e ↦ ap (λ (x : Component). R x.drive x.object g.file.kept.tag) e ∙ a
      | inr j ↦ h.1 at j there
    ],
  )

  from : (g : Going) (t : Target) (p : Piece) → AllAre IsOther (sources g.file.kept t p g.effects.nonce)
  unfolding sources
  from g t p = sources_others g.file.kept t p g.effects.nonce _

  ends_fills : (g : Going) (t : Target) (ps : List Piece) → Own g → Aim g t → End (fills g t ps)
  unfolding fills
  ends_fills g t [] h a =
      ends_rebuilds
      (noting (with_components g (slice_set g.file.kept.components t.component (stands_at t)))
      (Rebuilt t.component t.drive)) _ _ (owns_rebuilt g t h a)
  ends_fills g t (p ∷ ps) h a =
      ends_rests_or _ g _ _ _ (h, from g t p, a) (ends_rebuilds (noting g _) _ _ h)

  -- the WRITE to the target
  filled : (g : Going) (t : Target) (p : Piece) (ps : List Piece) (bytes : List ℕ) → Own g → Aim g t
      → End (rests g Rebuilding (Fills t (p ∷ ps)) (to_fill g.file.kept t p bytes g.effects.nonce) [])
  filled g t p ps bytes h a = (h, one_is IsOther _ (λ e. cc e), a)

  ends_filling : (g : Going) (t : Target) (p : Piece) (ps : List Piece) (bytes : List ℕ) → Own g → Aim g t
      → End (filling g t p ps bytes)
  unfolding filling
  ends_filling g t p ps bytes h a = elim (cases_Bool (nat_lt 0 (end_of bytes (replicate p.count 0)))) [
    | inl e ↦ rw e (filled g t p ps bytes h a)
    | inr e ↦ rw e (ends_fills g t ps h a)
  ]

  ends_gone : (g : Going) (t : Target) → Own g → End (target_gone g t)
  ends_gone g t h = ends_rebuilds (noting g (NoDrive t.component)) _ _ h

  ends_full : (g : Going) (t : Target) → Own g → End (target_full g t)
  ends_full g t h = ends_rebuilds (noting g (NoSpace t.component)) _ _ h

  -- ---- repair

  ends_after : (kind : JobKind) (g : Going) → Own g → End (after_repair kind g)
  ends_after Making g h = h
  ends_after Revoking g h = h
  ends_after Rebuilding g h = ends_rebuilds g g.file.kept.components 0 h
  ends_after Auditing g h = ends_audit g h

  ends_repairs : (kind : JobKind) (g : Going) (ps : List Piece) (short : List ℕ) → Own g
      → End (repairs kind g ps short)
  unfolding repairs
  ends_repairs kind g [] short h = ends_after kind (mended g short) h
  ends_repairs kind g (p ∷ ps) short h =
      ends_rests_or _ g _ _ _ (h, repair_others g.file.kept p g.effects.nonce) (ends_repairs kind g ps _ h)

  ends_storing : (kind : JobKind) (g : Going) (p : Piece) (ps : List Piece) (short : List ℕ) (heard : List Heard)
      → Own g → End (storing kind g p ps short heard)
  unfolding storing
  ends_storing kind g p ps short heard h =
      ends_rests_or _ g _ _ _ (h, stores_others g.file.kept p _ heard g.file.kept.components 0 _)
      (ends_repairs kind g ps short h)

  ends_stored : (kind : JobKind) (g : Going) (p : Piece) (ps : List Piece) (short : List ℕ) (broken : Bool) → Own g
      → End (stored kind g p ps short broken)
  ends_stored kind g p ps short true h = ends_repairs kind g (p ∷ ps) short h
  ends_stored kind g p ps short false h = ends_repairs kind g ps short h

  -- ---- a new file

  -- each component that isn't missing is asked by these
  abbrev AllAsked : Going → List Awaited → Type 0
  AllAsked g ws = (at : Component) → In at g.file.kept.components → at.missing ≡ false → IsAsked ws at

  ends_made_or : (ws : List Awaited) (g : Going) → AllAre (IsCreate g.file.kept.tag) ws → AllAsked g ws
      → New g → End (rests_or ws g Making Creates (is_made g))
  ends_made_or [] g creates asked new = (refl, λ at i there. absurd (asked at i there).1)
  ends_made_or (c ∷ cs) g creates asked new = (
    new,
    λ at i there.
        sought_asked (IsCreate g.file.kept.tag) (reach R g.file.kept.tag) (c ∷ cs) at creates (asked at i there),
    λ a i e. creates a i,
  )

  pub ends_making : (g : Going) → New g → End (making g)
  unfolding making
  ends_making g new =
      ends_made_or (to_all g.file.kept All Creating g.effects.nonce) g
      (each_are (IsCreate g.file.kept.tag) g.file.kept All Creating g.file.kept.components 0 g.effects.nonce
      (λ j drive object n. record { action = refl; tagged = refl; holder = refl }))
      (asked_each g.file.kept Creating g.file.kept.components 0 g.effects.nonce) new

  -- ---- a fence

  -- each component that isn't missing has reached the next tag
  abbrev Next : Going → Type 0
  Next g = IsOwn R (g.file.kept.tag + 1) g.file.kept.components g.file.kept.ready

  ends_fenced : (kind : JobKind) (g : Going) → Next g → End (fenced kind g)
  unfolding fenced repair_begins
  ends_fenced kind g all = ends_repairs kind _ _ [] all

  ends_fences_or : (ws : List Awaited) (kind : JobKind) (g : Going) → Own g → AllAre (Raises g.file.kept.tag) ws
      → AllAsked g ws → End (rests_or ws g kind Fences (fenced kind g))
  ends_fences_or [] kind g h raises asked = ends_fenced kind g (h.0, λ at i there. absurd (asked at i there).1)
  ends_fences_or (c ∷ cs) kind g h raises asked = (
    h,
    raises,
    λ at i there. sought_asked (Raises g.file.kept.tag) (reach R (g.file.kept.tag + 1)) (c ∷ cs) at raises
        (asked at i there),
  )

  pub ends_fence : (kind : JobKind) (format : ℕ) (g : Going) → Own g → End (fence_begins kind format g)
  unfolding fence_begins
  ends_fence kind format g h =
      let k : Kept = ending g.file.kept format in
      ends_fences_or (to_all k All Raising g.effects.nonce) kind (keeping g k) h
      (each_are (Raises k.tag) k All Raising k.components 0 g.effects.nonce
      (λ j drive object n. record { action = refl; tagged = refl; holder = refl }))
      (asked_each k Raising k.components 0 g.effects.nonce)

  -- ---- nothing is awaited any more

  ends_fetched : (kind : JobKind) (g : Going) (ps : List Piece) (short : List ℕ) (heard : List Heard) → Own g
      → End (fetched kind g ps short heard)
  ends_fetched kind g [] short heard h = ends_repairs kind g [] short h
  ends_fetched kind g (p ∷ ps) short heard h = ends_storing kind g p ps short heard h

  ends_written : (kind : JobKind) (g : Going) (ps : List Piece) (short : List ℕ) (broken : Bool) → Own g
      → End (written kind g ps short broken)
  ends_written kind g [] short broken h = ends_repairs kind g [] short h
  ends_written kind g (p ∷ ps) short broken h = ends_stored kind g p ps short broken h

  ends_gathered : (g : Going) (t : Target) (ps : List Piece) (heard : List Heard) → Own g → Aim g t
      → End (gathered g t ps heard)
  ends_gathered g t [] heard h a = ends_fills g t [] h a
  ends_gathered g t (p ∷ ps) heard h a = ends_filling g t p ps _ h a

  ends_filled : (g : Going) (t : Target) (ps : List Piece) → Own g → Aim g t → End (filled_in g t ps)
  ends_filled g t [] h a = ends_fills g t [] h a
  ends_filled g t (p ∷ ps) h a = ends_fills g t ps h a

  ends_checked : (g : Going) (ps : List Piece) (t : Tally) (heard : List Heard) → Own g
      → End (audited_on g ps t heard)
  ends_checked g [] t heard h = ends_audits g [] t h
  ends_checked g (p ∷ ps) t heard h = ends_audits g ps _ h

  ends_on : (kind : JobKind) (work : Work) (heard : List Heard) (g : Going) → Has g work []
      → End (goes_on kind work heard g)
  unfolding goes_on
  ends_on kind Creates heard g h = (
    refl,
    λ at i there. sought_none (IsCreate g.file.kept.tag) (reach R g.file.kept.tag) at.drive at.object (h.1 at i there),
  )
  ends_on kind Fences heard g h =
      ends_fenced kind g (
        h.0.0,
        λ at i there.
            sought_none (Raises g.file.kept.tag) (reach R (g.file.kept.tag + 1)) at.drive at.object (h.2 at i there),
      )
  ends_on kind (Fetches ps short) heard g h = ends_fetched kind g ps short heard h.0
  ends_on kind (Stores ps short broken) heard g h = ends_written kind g ps short broken h.0
  ends_on kind (Targets t) heard g h =
      ends_fills g t _ h.0 (sought_none (IsCreate g.file.kept.tag) (reach R g.file.kept.tag) t.drive t.object h.2)
  ends_on kind (Gathers t ps) heard g h = ends_gathered g t ps heard h.0 h.2
  ends_on kind (Fills t ps) heard g h = ends_filled g t ps h.0 h.2
  ends_on kind Lengths heard g h = ends_audits g _ _ h.0
  ends_on kind (Checks ps t) heard g h = ends_checked g ps t heard h.0

  ends_waits : (g : Going) (j : Job) (work : Work) (rest : List Awaited) (heard : List Heard) → Has g work rest
      → End (waits_or_on g j work rest heard)
  ends_waits g j work [] heard h = ends_on j.kind work heard g h
  ends_waits g j work (c ∷ cs) heard h = h

  -- ---- a component is lost meanwhile

  ends_refills : (g : Going) (t : Target) (ps : List Piece) (gone : Bool) → Own g → Aim g t
      → End (refills g t ps gone)
  ends_refills g t ps true h a = ends_gone g t h
  ends_refills g t ps false h a = ends_fills g t ps h a

  ends_remakes : (g : Going) (t : Target) (gone : Bool) → End g → Own g → End (remakes g t gone)
  ends_remakes g t true e h = ends_gone g t h
  ends_remakes g t false e h = e

  ends_loses : (g : Going) (j : Job) (work : Work) (rest : List Awaited) (gone : Bool) → End g → Left g work rest
      → End (loses g j work rest gone)
  unfolding loses
  ends_loses g j (Fetches ps short) rest gone e h = ends_repairs j.kind g ps short h.0
  ends_loses g j (Stores ps short broken) rest gone e h = ends_waits g j (Stores ps short true) rest j.heard h
  ends_loses g j (Targets t) rest gone e h = ends_remakes g t gone e h
  ends_loses g j (Gathers t ps) rest gone e h = ends_refills g t ps gone h.0 h.2
  ends_loses g j (Fills t ps) rest gone e h = ends_refills g t ps gone h.0 h.2
  ends_loses g j (Checks ps t) rest gone e h = ends_audits g ps t h.0
  ends_loses g j work rest gone e h = ends_waits g j work rest j.heard h

  -- ---- a reply

  -- the component has no space
  ends_without_space : (g : Going) (j : Job) (a : Awaited) (work : Work) → End g
      → Has g work (others j.awaited a.command.nonce)
      → End (loses (noting (with_components g (lose_from (a.component ∷ []) g.file.kept.components 0))
      (NoSpace a.component)) j work (others j.awaited a.command.nonce) false)
  ends_without_space g j a work e h =
      let k : Kept = g.file.kept in
      let cs : List Component = lose_from (a.component ∷ []) k.components 0 in
      let part = in_lost_from (a.component ∷ []) k.components 0 in
      ends_loses (noting (with_components g cs) (NoSpace a.component)) j work (others j.awaited a.command.nonce) false
      (ends_lost R k.tag k.components k.ready (IsUnmade k) cs g.file.job part e)
      (lasts R k.tag cs k.ready (IsUnmade k) work (others j.awaited a.command.nonce)
      (holds_lost R k.tag k.components k.ready (IsUnmade k) cs work (others j.awaited a.command.nonce) part h))

  ends_fills_up : (g : Going) (j : Job) (a : Awaited) (work : Work) → End g
      → Has g work (others j.awaited a.command.nonce) → End (fills_up g j a work)
  ends_fills_up g j a (Targets t) e h = ends_full g t h.0
  ends_fills_up g j a (Gathers t ps) e h = ends_full g t h.0
  ends_fills_up g j a (Fills t ps) e h = ends_full g t h.0
  ends_fills_up g j a Creates e h = ends_without_space g j a Creates e h
  ends_fills_up g j a Fences e h = ends_without_space g j a Fences e h
  ends_fills_up g j a (Fetches ps short) e h = ends_without_space g j a (Fetches ps short) e h
  ends_fills_up g j a (Stores ps short broken) e h = ends_without_space g j a (Stores ps short broken) e h
  ends_fills_up g j a Lengths e h = ends_without_space g j a Lengths e h
  ends_fills_up g j a (Checks ps t) e h = ends_without_space g j a (Checks ps t) e h

  has_job : (g : Going) (j : Job) → g.file.job ≡ Some j → End g → Has g j.work j.awaited
  has_job g j is e =
      subst (λ (o : Option Job). Ends R g.file.kept.tag g.file.kept.components g.file.kept.ready (IsUnmade g.file.kept) o) is e

  none_writes : (a : Action) → is_write a ≡ true → a ≡ SetTag → ⊥
  none_writes a w e = cc (sym w ∙ ap is_write e)

  no_create : (a : Action) → is_write a ≡ true → a ≡ Create → ⊥
  no_create a w e = cc (sym w ∙ ap is_write e)

  -- where it counts as the answer to a SET TAG or a CREATE, that was performed
  pub ends_hears : (g : Going) (j : Job) (a : Awaited) (r : Reply) (x : Hearing) → hearing g.file.kept a r ≡ x
      → g.file.job ≡ Some j → In a j.awaited → IsAlone j.awaited a
      → (Raises g.file.kept.tag a → is_done g.file.kept a r ≡ true
      → R a.drive a.command.object (g.file.kept.tag + 1) ≡ true)
      → (IsCreate g.file.kept.tag a → is_done g.file.kept a r ≡ true
      → R a.drive a.command.object g.file.kept.tag ≡ true) → End g → End (hears g j a r x)
  ends_hears g j a r Older is job i alone raised made e =
      let k : Kept = g.file.kept in
      holds_renewed R k.tag k.components k.ready (IsUnmade k) j.work j.awaited a g.effects.nonce i alone
      (has_job g j job e)
  ends_hears g j a r Full is job i alone raised made e =
      let write = full_is_write g.file.kept a r is in
      ends_fills_up g j a j.work e
      (holds_others R g.file.kept.tag g.file.kept.components g.file.kept.ready (IsUnmade g.file.kept) j.work j.awaited a alone
      (λ x. absurd (none_writes a.command.action write x.action))
      (λ x. absurd (no_create a.command.action write x.action)) (has_job g j job e))
  ends_hears g j a r Done is job i alone raised made e =
      let done = done_is_done g.file.kept a r is in
      ends_waits g j j.work (others j.awaited a.command.nonce) (heard_with j a r)
      (holds_others R g.file.kept.tag g.file.kept.components g.file.kept.ready (IsUnmade g.file.kept) j.work j.awaited a alone
      (λ x. raised x done) (λ x. made x done) (has_job g j job e))
  ends_hears g j a r Nothing is job i alone raised made e = e

  -- ---- a declaration

  ends_declared_in : (g : Going) (drive : ℕ) (o : Option Job) → g.file.job ≡ o → End g
      → End (declared_in (with_components g (lose_on drive g.file.kept.components)) drive o)
  ends_declared_in g drive None job e =
      ends_declared R g.file.kept.tag g.file.kept.components g.file.kept.ready (IsUnmade g.file.kept) drive g.file.job e
  ends_declared_in g drive (Some j) job e =
      ends_loses (with_components g (lose_on drive g.file.kept.components)) j j.work (others_than drive j.awaited)
      (is_target j.work drive)
      (ends_declared R g.file.kept.tag g.file.kept.components g.file.kept.ready (IsUnmade g.file.kept) drive g.file.job e)
      (lasts_declared R g.file.kept.tag g.file.kept.components g.file.kept.ready (IsUnmade g.file.kept) drive j.work j.awaited
      (has_job g j job e))

  either_going : (b : Bool) (x y : Going) → End x → End y → End (if b then x else y)
  either_going true x y p q = p
  either_going false x y p q = q

  pub ends_declares : (g : Going) (drive : ℕ) → End g → End (declares g drive)
  unfolding declares
  ends_declares g drive e =
      either_going (any_on drive g.file.kept.components || targets g.file.job drive) _ _
      (ends_declared_in g drive g.file.job refl e) e
