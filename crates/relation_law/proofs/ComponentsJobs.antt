-- What lasts through each part of a job lasts through the job's functions, one by one: of a file's components and notes.
-- Towards `ComponentsGoOn` (`specs/Steps.antt`).
use Rattle.std.proofs.Common.{◌≡◌, ◌==◌, ◌||◌, ℕ, ◌+◌, Bool, true, false, nat_lt, List, [], ◌∷◌, length, Option, Some, None, refl, if◌then◌else◌}
use Rattle.std.specs.Prelude.{replicate}
use Rattle.server_rules.specs.declared.limits.TheConstants.{GREATEST_TAG}
use Rattle.server_rules.specs.Audit.{audits, audit_begins}
use Rattle.server_rules.specs.Columns.{end_of}
use Rattle.server_rules.specs.Going.{Going, over, keeping, noting, noting_if, with_components, rests_or}
use Rattle.server_rules.specs.Grants.{merged, count_stripes}
use Rattle.server_rules.specs.Jobs.{making, fenced, fences, fence_begins, fetched, written, gathered, filled_in, audited_on, goes_on, waits_or_on, refills, remakes, loses, declared_in, targets, declares}
use Rattle.server_rules.specs.Openings.{opens_made, opens_fenced, opens, is_unsettled}
use Rattle.server_rules.specs.Rebuild.{makes_or, rebuilds, fills, filling, target_gone, target_full, target_for}
use Rattle.server_rules.specs.Repair.{after_repair, mended, repairs, storing, stored, repair_begins}
use Rattle.server_rules.specs.Replies.{fills_up, hears, Hearing, Older, Full, Done, Nothing, others}
use Rattle.server_rules.specs.Standing.{lose_from, lose_on, any_on}
use Rattle.component_law.specs.Components.{is_lacking}
use Rattle.component_law.specs.Objects.{target_in}
use Rattle.world_history.specs.ServerNames.{Kept, Note, NoteKind, Ready, Fenced, Repaired, NoDrive, NoSpace, Spent, Job, JobKind, Making, Revoking, Rebuilding, Auditing, Work, Creates, Fences, Fetches, Stores, Targets, Gathers, Fills, Lengths, Checks, Awaited, Heard, Piece, Target, Tally, Component, Reply}
use Rattle.relation_law.specs.ComponentsWalk.{is_silent, IsWalked}

module _ (Q : Kept → List Note → Type 0) (w : IsWalked Q) where
  -- in a step
  abbrev pub Own : Going → Type 0
  Own g = Q g.file.kept g.effects.notes

  notes : (g : Going) (kind : NoteKind) → is_silent kind ≡ true → Own g → Own (noting g kind)
  notes g kind p h = w.silent g.file.kept g.effects.notes kind p h

  notes_if : (b : Bool) (g : Going) (kind : NoteKind) → is_silent kind ≡ true → Own g → Own (noting_if b g kind)
  notes_if true g kind p h = notes g kind p h
  notes_if false g kind p h = h

  keeps : (g : Going) (k : Kept) → k.number ≡ g.file.kept.number → k.components ≡ g.file.kept.components → Own g →
      Own (keeping g k)
  keeps g k number components h = w.same g.file.kept k g.effects.notes number components h

  either_going : (b : Bool) (x y : Going) → Own x → Own y → Own (if b then x else y)
  either_going true x y p q = p
  either_going false x y p q = q

  -- ---- the job rests, or goes on

  own_rests_or : (cs : List Awaited) (g : Going) (kind : JobKind) (work : Work) (later : Going) → Own g → Own later →
      Own (rests_or cs g kind work later)
  own_rests_or [] g kind work later h l = l
  own_rests_or (c ∷ cs) g kind work later h l = h

  -- ---- audit

  own_audits : (g : Going) (ps : List Piece) (t : Tally) → Own g → Own (audits g ps t)
  unfolding audits
  own_audits g [] t h = notes g _ refl h
  own_audits g (p ∷ ps) t h = own_rests_or _ g _ _ _ h (own_audits g ps _ h)

  own_audit : (g : Going) → Own g → Own (audit_begins g)
  unfolding audit_begins
  own_audit g h = own_rests_or _ g _ _ _ h (own_audits g _ _ h)

  -- ---- rebuild

  own_makes_or : (g : Going) (o : Option Target) (later : Going) → Own g → Own later → Own (makes_or g o later)
  own_makes_or g None later h l = l
  own_makes_or g (Some t) later h l = h

  own_rebuilds : (g : Going) (cs : List Component) (k : ℕ) → Own g → Own (rebuilds g cs k)
  unfolding rebuilds
  own_rebuilds g [] k h = h
  own_rebuilds g (at ∷ cs) k h =
      own_makes_or g (target_for g at k) _ h
      (own_rebuilds (noting_if at.missing g (NoDrive k)) cs (k + 1) (notes_if at.missing g (NoDrive k) refl h))

  own_fills : (g : Going) (t : Target) (ps : List Piece) → Own g → Own (fills g t ps)
  unfolding fills
  own_fills g t [] h = own_rebuilds _ _ _ (w.rebuilt g.file.kept g.effects.notes t h)
  own_fills g t (p ∷ ps) h = own_rests_or _ g _ _ _ h (own_rebuilds (noting g _) _ _ (notes g _ refl h))

  own_filling : (g : Going) (t : Target) (p : Piece) (ps : List Piece) (bytes : List ℕ) → Own g →
      Own (filling g t p ps bytes)
  unfolding filling
  own_filling g t p ps bytes h =
      either_going (nat_lt 0 (end_of bytes (replicate p.count 0))) _ _ h (own_fills g t ps h)

  own_gone : (g : Going) (t : Target) → Own g → Own (target_gone g t)
  own_gone g t h = own_rebuilds (noting g (NoDrive t.component)) _ _ (notes g (NoDrive t.component) refl h)

  own_full : (g : Going) (t : Target) → is_lacking g.file.kept.components t.component ≡ true → Own g → Own (target_full g t)
  own_full g t lacks h =
      own_rebuilds (noting g (NoSpace t.component)) _ _ (w.full g.file.kept g.effects.notes t.component lacks h)

  -- ---- repair

  own_after : (kind : JobKind) (g : Going) → Own g → Own (after_repair kind g)
  own_after Making g h = h
  own_after Revoking g h = h
  own_after Rebuilding g h = own_rebuilds g g.file.kept.components 0 h
  own_after Auditing g h = own_audit g h

  own_repairs : (kind : JobKind) (g : Going) (ps : List Piece) (short : List ℕ) → Own g → Own (repairs kind g ps short)
  unfolding repairs
  own_repairs kind g [] short h =
      own_after kind (mended g short) (w.silent (mended g short).file.kept g.effects.notes
      (Repaired (count_stripes (merged g.file.kept.ended)) (length short)) refl
      (w.same g.file.kept (mended g short).file.kept g.effects.notes refl refl h))
  own_repairs kind g (p ∷ ps) short h = own_rests_or _ g _ _ _ h (own_repairs kind g ps _ h)

  own_storing : (kind : JobKind) (g : Going) (p : Piece) (ps : List Piece) (short : List ℕ) (heard : List Heard) → Own g →
      Own (storing kind g p ps short heard)
  unfolding storing
  own_storing kind g p ps short heard h = own_rests_or _ g _ _ _ h (own_repairs kind g ps short h)

  own_stored : (kind : JobKind) (g : Going) (p : Piece) (ps : List Piece) (short : List ℕ) (broken : Bool) → Own g →
      Own (stored kind g p ps short broken)
  own_stored kind g p ps short true h = own_repairs kind g (p ∷ ps) short h
  own_stored kind g p ps short false h = own_repairs kind g ps short h

  -- ---- the fence and the job

  made : (g : Going) → Own g → Own (over (noting (keeping g (record g.file.kept { ready = true })) Ready))
  made g h =
      notes (keeping g (record g.file.kept { ready = true })) Ready refl
      (keeps g (record g.file.kept { ready = true }) refl refl h)

  pub own_making : (g : Going) → Own g → Own (making g)
  unfolding making
  own_making g h = own_rests_or _ g _ _ _ h (made g h)

  own_fenced : (kind : JobKind) (g : Going) → Own g → Own (fenced kind g)
  unfolding fenced repair_begins
  own_fenced kind g h =
      own_repairs kind _ _ []
      (w.silent _ g.effects.notes (Fenced (g.file.kept.tag + 1)) refl
      (w.same g.file.kept _ g.effects.notes refl refl h))

  own_fences : (kind : JobKind) (g : Going) → Own g → Own (fences kind g)
  own_fences kind g h = own_rests_or _ g _ _ _ h (own_fenced kind g h)

  pub own_fence : (kind : JobKind) (format : ℕ) (g : Going) → Own g → Own (fence_begins kind format g)
  unfolding fence_begins
  own_fence kind format g h = own_fences kind _ (w.same g.file.kept _ g.effects.notes refl refl h)

  own_fetched : (kind : JobKind) (g : Going) (ps : List Piece) (short : List ℕ) (heard : List Heard) → Own g →
      Own (fetched kind g ps short heard)
  own_fetched kind g [] short heard h = own_repairs kind g [] short h
  own_fetched kind g (p ∷ ps) short heard h = own_storing kind g p ps short heard h

  own_written : (kind : JobKind) (g : Going) (ps : List Piece) (short : List ℕ) (broken : Bool) → Own g →
      Own (written kind g ps short broken)
  own_written kind g [] short broken h = own_repairs kind g [] short h
  own_written kind g (p ∷ ps) short broken h = own_stored kind g p ps short broken h

  own_gathered : (g : Going) (t : Target) (ps : List Piece) (heard : List Heard) → Own g → Own (gathered g t ps heard)
  own_gathered g t [] heard h = own_fills g t [] h
  own_gathered g t (p ∷ ps) heard h = own_filling g t p ps _ h

  own_filled : (g : Going) (t : Target) (ps : List Piece) → Own g → Own (filled_in g t ps)
  own_filled g t [] h = own_fills g t [] h
  own_filled g t (p ∷ ps) h = own_fills g t ps h

  own_checked : (g : Going) (ps : List Piece) (t : Tally) (heard : List Heard) → Own g → Own (audited_on g ps t heard)
  own_checked g [] t heard h = own_audits g [] t h
  own_checked g (p ∷ ps) t heard h = own_audits g ps _ h

  own_on : (kind : JobKind) (work : Work) (heard : List Heard) (g : Going) → Own g → Own (goes_on kind work heard g)
  unfolding goes_on
  own_on kind Creates heard g h = made g h
  own_on kind Fences heard g h = own_fenced kind g h
  own_on kind (Fetches ps short) heard g h = own_fetched kind g ps short heard h
  own_on kind (Stores ps short broken) heard g h = own_written kind g ps short broken h
  own_on kind (Targets t) heard g h = own_fills g t _ h
  own_on kind (Gathers t ps) heard g h = own_gathered g t ps heard h
  own_on kind (Fills t ps) heard g h = own_filled g t ps h
  own_on kind Lengths heard g h = own_audits g _ _ h
  own_on kind (Checks ps t) heard g h = own_checked g ps t heard h

  own_waits : (g : Going) (j : Job) (work : Work) (rest : List Awaited) (heard : List Heard) → Own g →
      Own (waits_or_on g j work rest heard)
  own_waits g j work [] heard h = own_on j.kind work heard g h
  own_waits g j work (c ∷ cs) heard h = h

  -- ---- a component is lost meanwhile

  own_refills : (g : Going) (t : Target) (ps : List Piece) (gone : Bool) → Own g → Own (refills g t ps gone)
  own_refills g t ps true h = own_gone g t h
  own_refills g t ps false h = own_fills g t ps h

  own_remakes : (g : Going) (t : Target) (gone : Bool) → Own g → Own (remakes g t gone)
  own_remakes g t true h = own_gone g t h
  own_remakes g t false h = h

  own_loses : (g : Going) (j : Job) (work : Work) (rest : List Awaited) (gone : Bool) → Own g →
      Own (loses g j work rest gone)
  unfolding loses
  own_loses g j (Fetches ps short) rest gone h = own_repairs j.kind g ps short h
  own_loses g j (Stores ps short broken) rest gone h = own_waits g j (Stores ps short true) rest j.heard h
  own_loses g j (Targets t) rest gone h = own_remakes g t gone h
  own_loses g j (Gathers t ps) rest gone h = own_refills g t ps gone h
  own_loses g j (Fills t ps) rest gone h = own_refills g t ps gone h
  own_loses g j (Checks ps t) rest gone h = own_audits g ps t h
  own_loses g j Creates rest gone h = own_waits g j Creates rest j.heard h
  own_loses g j Fences rest gone h = own_waits g j Fences rest j.heard h
  own_loses g j Lengths rest gone h = own_waits g j Lengths rest j.heard h

  -- ---- a reply

  -- what a rebuild makes anew is missing
  abbrev pub Aims : Going → Work → Type 0
  Aims g work = (t : Target) → target_in work ≡ Some t → is_lacking g.file.kept.components t.component ≡ true

  own_lost : (g : Going) (j : Job) (a : Awaited) (work : Work) → Own g →
      Own (loses (noting (with_components g (lose_from (a.component ∷ []) g.file.kept.components 0))
      (NoSpace a.component)) j work (others j.awaited a.command.nonce) false)
  own_lost g j a work h = own_loses _ j work _ false (w.lost g.file.kept g.effects.notes a.component h)

  own_fills_up : (g : Going) (j : Job) (a : Awaited) (work : Work) → Aims g work → Own g → Own (fills_up g j a work)
  own_fills_up g j a (Targets t) aim h = own_full g t (aim t refl) h
  own_fills_up g j a (Gathers t ps) aim h = own_full g t (aim t refl) h
  own_fills_up g j a (Fills t ps) aim h = own_full g t (aim t refl) h
  own_fills_up g j a Creates aim h = own_lost g j a Creates h
  own_fills_up g j a Fences aim h = own_lost g j a Fences h
  own_fills_up g j a (Fetches ps short) aim h = own_lost g j a (Fetches ps short) h
  own_fills_up g j a (Stores ps short broken) aim h = own_lost g j a (Stores ps short broken) h
  own_fills_up g j a Lengths aim h = own_lost g j a Lengths h
  own_fills_up g j a (Checks ps t) aim h = own_lost g j a (Checks ps t) h

  pub own_hears : (g : Going) (j : Job) (a : Awaited) (r : Reply) (x : Hearing) → Aims g j.work → Own g →
      Own (hears g j a r x)
  own_hears g j a r Older aim h = w.same g.file.kept _ g.effects.notes refl refl h
  own_hears g j a r Full aim h = own_fills_up g j a j.work aim h
  own_hears g j a r Done aim h = own_waits g j j.work _ _ h
  own_hears g j a r Nothing aim h = h

  -- ---- a declaration, of which the components are missing already, or none stands there

  own_declared : (g : Going) (drive : ℕ) (o : Option Job) → Own g → Own (declared_in g drive o)
  own_declared g drive None h = h
  own_declared g drive (Some j) h = own_loses g j j.work _ _ h

  pub own_declares : (g : Going) (drive : ℕ) → Own (with_components g (lose_on drive g.file.kept.components)) →
      (any_on drive g.file.kept.components ≡ false → Own g) → Own (declares g drive)
  unfolding declares
  own_declares g drive lost none =
      by_test (any_on drive g.file.kept.components) (targets g.file.job drive) refl
    where
      by_test : (b c : Bool) → any_on drive g.file.kept.components ≡ b →
          Own (if b || c then declared_in (with_components g (lose_on drive g.file.kept.components)) drive g.file.job
          else g)
      by_test true c e = own_declared (with_components g (lose_on drive g.file.kept.components)) drive g.file.job lost
      by_test false true e = own_declared (with_components g (lose_on drive g.file.kept.components)) drive g.file.job lost
      by_test false false e = none e

  -- ---- an opening

  own_opened : (g : Going) (ready : Bool) → Own g → Own (opens_made g ready)
  own_opened g true h = h
  own_opened g false h = own_making g h

  own_opens_fenced : (format : ℕ) (g : Going) → Own g → Own (opens_fenced format g)
  unfolding opens_fenced
  own_opens_fenced format g h =
      either_going (g.file.kept.tag == GREATEST_TAG) _ _ (notes g Spent refl h) (own_fence Revoking format g h)

  pub own_opens : (format : ℕ) (g : Going) → Own g → Own (opens format g)
  unfolding opens
  own_opens format g h =
      either_going (is_unsettled g.file.kept) _ _ (own_opens_fenced format g h) (own_opened g g.file.kept.ready h)
