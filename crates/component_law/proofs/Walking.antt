-- What is so of a file's components and of a rebuild's target lasts through the job's functions, one by one, and through a
-- client's request.
use Rattle.std.proofs.Common.{◌≡◌, ◌==◌, ◌||◌, ℕ, ◌+◌, Bool, true, false, nat_lt, List, [], ◌∷◌, slice_set, replicate, Option, Some, None, refl, sym, ap, subst, inl, inr, if◌then◌else◌}
use Rattle.std.proofs.lemmas.Bool.{cases_Bool}
use Rattle.server_rules.specs.declared.limits.TheConstants.{GREATEST_TAG}
use Rattle.server_rules.specs.Audit.{audits, audit_begins}
use Rattle.server_rules.specs.Columns.{end_of}
use Rattle.server_rules.specs.Going.{Going, over, keeping, noting, noting_if, with_components, rests_or}
use Rattle.server_rules.specs.Jobs.{making, ending, fenced, fences, fence_begins, fetched, written, gathered, filled_in, audited_on, goes_on, waits_or_on, refills, remakes, loses, declared_in, targets, declares}
use Rattle.server_rules.specs.Openings.{opens_made, opens_fenced, opens, is_unsettled}
use Rattle.server_rules.specs.Rebuild.{picked, target_on, makes_or, rebuilds, fills, filling, target_gone, target_full, target_for, stands_at}
use Rattle.server_rules.specs.Repair.{after_repair, mended, repairs, storing, stored, repair_begins}
use Rattle.server_rules.specs.Replies.{fills_up, hears, Hearing, Older, Full, Done, Nothing, others}
use Rattle.server_rules.specs.Standing.{lose_from, lose_on, any_on}
use Rattle.server_rules.specs.declared.files.Kept.{Kept}
use Rattle.server_rules.specs.declared.server.Drive.{Drive}
use Rattle.server_rules.specs.declared.notes.NoteKind.TheVariants.{NoDrive, NoSpace, Ready}
use Rattle.server_rules.specs.declared.jobs.Job.{Job}
use Rattle.server_rules.specs.declared.jobs.JobKind.{JobKind}
use Rattle.server_rules.specs.declared.jobs.JobKind.TheVariants.{Making, Revoking, Rebuilding, Auditing}
use Rattle.server_rules.specs.declared.jobs.Work.{Work}
use Rattle.server_rules.specs.declared.jobs.Work.TheVariants.{Creates, Fences, Fetches, Stores, Targets, Gathers, Fills, Lengths, Checks}
use Rattle.server_rules.specs.declared.jobs.Awaited.{Awaited}
use Rattle.server_rules.specs.declared.jobs.Heard.{Heard}
use Rattle.server_rules.specs.declared.jobs.Piece.{Piece}
use Rattle.server_rules.specs.declared.jobs.Target.{Target}
use Rattle.server_rules.specs.declared.jobs.Tally.{Tally}
use Rattle.server_rules.specs.declared.files.Component.{Component}
use Rattle.osd_commands.specs.declared.replies.Reply.{Reply}
use Rattle.server_rules.specs.declared.requests.RequestArgs.{RequestArgs}
use Rattle.server_rules.specs.Requests.{serves}
use Rattle.server_rules.specs.Zoning.{takers}
use Rattle.component_law.specs.Objects.{target_of, target_in}
use Rattle.component_law.proofs.RequestWalk.{IsServed, ends_served}

-- ---- what is made anew

target_by : (g : Going) (n : ℕ) (t : Target) (o : Option ℕ) → target_on g n o ≡ Some t →
    (t.component ≡ n) × (t.object ≡ g.effects.object)
target_by g n t None e = absurd (cc e)
target_by g n t (Some d) e =
    let same : record { component = n; drive = d; object = g.effects.object } ≡ t = cc e in
    (ap (λ (x : Target). x.component) (sym same), ap (λ (x : Target). x.object) (sym same))

-- where a component is made anew, and with which number
pub target_is : (g : Going) (at : Component) (n : ℕ) (t : Target) → target_for g at n ≡ Some t →
    (t.component ≡ n) × (t.object ≡ g.effects.object)
unfolding target_for
target_is g at n t e = elim (cases_Bool at.missing) [
  | inl m ↦ target_by g n t (picked g.chosen (takers g.drives g.file.kept n)) (rw m at e)
  | inr p ↦ absurd (cc (rw p at e))
]

-- ---- what lasts

-- Q of the drives, of the next object number, of what is kept of a file and of the target of its rebuild lasts through each part
-- of a job.
pub record IsWalked (Q : List Drive → (next : ℕ) → Kept → Option Target → Type 0) : Type 0 where
  -- what leaves number, map and components
  pub same : (ds : List Drive) (m : ℕ) (k l : Kept) (o : Option Target) → l.number ≡ k.number → l.zoned ≡ k.zoned →
      l.map ≡ k.map → l.components ≡ k.components → Q ds m k o → Q ds m l o
  -- no component is made anew any more
  pub ends : (ds : List Drive) (m : ℕ) (k : Kept) (o : Option Target) → Q ds m k o → Q ds m k None
  -- one is to be
  pub aims : (g : Going) (at : Component) (n : ℕ) (t : Target) → target_for g at n ≡ Some t →
      Q g.drives g.effects.object g.file.kept None → Q g.drives (t.object + 1) g.file.kept (Some t)
  -- and is
  pub placed : (ds : List Drive) (m : ℕ) (k : Kept) (t : Target) → Q ds m k (Some t) →
      Q ds m (record k { components = slice_set k.components t.component (stands_at t) }) None
  -- components become missing
  pub lost : (ds : List Drive) (m : ℕ) (k : Kept) (o : Option Target) (ns : List ℕ) → Q ds m k o →
      Q ds m (record k { components = lose_from ns k.components 0 }) o
  pub declared : (ds : List Drive) (m : ℕ) (k : Kept) (o : Option Target) (d : ℕ) → Q ds m k o →
      Q ds m (record k { components = lose_on d k.components }) o

module _ (Q : List Drive → (next : ℕ) → Kept → Option Target → Type 0) (w : IsWalked Q) where
  -- while no component is made anew
  abbrev pub Own : Going → Type 0
  Own g = Q g.drives g.effects.object g.file.kept None

  -- with a target
  abbrev pub Aims : Going → Option Target → Type 0
  Aims g o = Q g.drives g.effects.object g.file.kept o

  -- with that of its job
  abbrev pub Ends : Going → Type 0
  Ends g = Q g.drives g.effects.object g.file.kept (target_of g.file.job)

  either_going : (b : Bool) (x y : Going) → Ends x → Ends y → Ends (if b then x else y)
  either_going true x y p q = p
  either_going false x y p q = q

  -- ---- the job rests, or goes on

  ends_rests_or : (cs : List Awaited) (g : Going) (kind : JobKind) (work : Work) (later : Going) →
      Aims g (target_in work) → Ends later → Ends (rests_or cs g kind work later)
  ends_rests_or [] g kind work later h l = l
  ends_rests_or (c ∷ cs) g kind work later h l = h

  -- ---- audit

  ends_audits : (g : Going) (ps : List Piece) (t : Tally) → Own g → Ends (audits g ps t)
  unfolding audits
  ends_audits g [] t h = h
  ends_audits g (p ∷ ps) t h = ends_rests_or _ g _ _ _ h (ends_audits g ps _ h)

  ends_audit : (g : Going) → Own g → Ends (audit_begins g)
  unfolding audit_begins
  ends_audit g h = ends_rests_or _ g _ _ _ h (ends_audits g _ _ h)

  -- ---- rebuild

  ends_makes_or : (g : Going) (at : Component) (n : ℕ) (o : Option Target) (later : Going) → target_for g at n ≡ o → Own g →
      Ends later → Ends (makes_or g o later)
  ends_makes_or g at n None later is h l = l
  ends_makes_or g at n (Some t) later is h l = w.aims g at n t is h

  ends_rebuilds : (g : Going) (cs : List Component) (k : ℕ) → Own g → Ends (rebuilds g cs k)
  unfolding rebuilds
  ends_rebuilds g [] k h = h
  ends_rebuilds g (at ∷ cs) k h =
      ends_makes_or g at k (target_for g at k) _ refl h (ends_rebuilds (noting_if at.missing g (NoDrive k)) cs (k + 1) h)

  ends_fills : (g : Going) (t : Target) (ps : List Piece) → Aims g (Some t) → Ends (fills g t ps)
  unfolding fills
  ends_fills g t [] h = ends_rebuilds _ _ _ (w.placed g.drives g.effects.object g.file.kept t h)
  ends_fills g t (p ∷ ps) h =
      ends_rests_or _ g _ _ _ h (ends_rebuilds (noting g _) _ _ (w.ends g.drives g.effects.object g.file.kept (Some t) h))

  ends_filling : (g : Going) (t : Target) (p : Piece) (ps : List Piece) (bytes : List ℕ) → Aims g (Some t) →
      Ends (filling g t p ps bytes)
  unfolding filling
  ends_filling g t p ps bytes h =
      either_going (nat_lt 0 (end_of bytes (replicate p.count 0))) _ _ h (ends_fills g t ps h)

  ends_gone : (g : Going) (t : Target) → Own g → Ends (target_gone g t)
  ends_gone g t h = ends_rebuilds (noting g (NoDrive t.component)) _ _ h

  ends_full : (g : Going) (t : Target) → Own g → Ends (target_full g t)
  ends_full g t h = ends_rebuilds (noting g (NoSpace t.component)) _ _ h

  -- ---- repair

  ends_after : (kind : JobKind) (g : Going) → Own g → Ends (after_repair kind g)
  ends_after Making g h = h
  ends_after Revoking g h = h
  ends_after Rebuilding g h = ends_rebuilds g g.file.kept.components 0 h
  ends_after Auditing g h = ends_audit g h

  ends_repairs : (kind : JobKind) (g : Going) (ps : List Piece) (short : List ℕ) → Own g → Ends (repairs kind g ps short)
  unfolding repairs
  ends_repairs kind g [] short h =
      ends_after kind (mended g short)
      (w.same g.drives g.effects.object g.file.kept (mended g short).file.kept None refl refl refl refl h)
  ends_repairs kind g (p ∷ ps) short h = ends_rests_or _ g _ _ _ h (ends_repairs kind g ps _ h)

  ends_storing : (kind : JobKind) (g : Going) (p : Piece) (ps : List Piece) (short : List ℕ) (heard : List Heard) → Own g →
      Ends (storing kind g p ps short heard)
  unfolding storing
  ends_storing kind g p ps short heard h = ends_rests_or _ g _ _ _ h (ends_repairs kind g ps short h)

  ends_stored : (kind : JobKind) (g : Going) (p : Piece) (ps : List Piece) (short : List ℕ) (broken : Bool) → Own g →
      Ends (stored kind g p ps short broken)
  ends_stored kind g p ps short true h = ends_repairs kind g (p ∷ ps) short h
  ends_stored kind g p ps short false h = ends_repairs kind g ps short h

  -- ---- the fence and the job

  ends_made : (g : Going) → Own g → Ends (over (noting (keeping g (record g.file.kept { ready = true })) Ready))
  ends_made g h = w.same g.drives g.effects.object g.file.kept _ None refl refl refl refl h

  pub ends_making : (g : Going) → Own g → Ends (making g)
  unfolding making
  ends_making g h = ends_rests_or _ g _ _ _ h (ends_made g h)

  ends_fenced : (kind : JobKind) (g : Going) → Own g → Ends (fenced kind g)
  unfolding fenced repair_begins
  ends_fenced kind g h = ends_repairs kind _ _ [] (w.same g.drives g.effects.object g.file.kept _ None refl refl refl refl h)

  ends_fences : (kind : JobKind) (g : Going) → Own g → Ends (fences kind g)
  ends_fences kind g h = ends_rests_or _ g _ _ _ h (ends_fenced kind g h)

  pub ends_fence : (kind : JobKind) (format : ℕ) (g : Going) → Own g → Ends (fence_begins kind format g)
  unfolding fence_begins
  ends_fence kind format g h =
      ends_fences kind (keeping g (ending g.file.kept format))
      (w.same g.drives g.effects.object g.file.kept _ None refl refl refl refl h)

  ends_fetched : (kind : JobKind) (g : Going) (ps : List Piece) (short : List ℕ) (heard : List Heard) → Own g →
      Ends (fetched kind g ps short heard)
  ends_fetched kind g [] short heard h = ends_repairs kind g [] short h
  ends_fetched kind g (p ∷ ps) short heard h = ends_storing kind g p ps short heard h

  ends_written : (kind : JobKind) (g : Going) (ps : List Piece) (short : List ℕ) (broken : Bool) → Own g →
      Ends (written kind g ps short broken)
  ends_written kind g [] short broken h = ends_repairs kind g [] short h
  ends_written kind g (p ∷ ps) short broken h = ends_stored kind g p ps short broken h

  ends_gathered : (g : Going) (t : Target) (ps : List Piece) (heard : List Heard) → Aims g (Some t) →
      Ends (gathered g t ps heard)
  ends_gathered g t [] heard h = ends_fills g t [] h
  ends_gathered g t (p ∷ ps) heard h = ends_filling g t p ps _ h

  ends_filled : (g : Going) (t : Target) (ps : List Piece) → Aims g (Some t) → Ends (filled_in g t ps)
  ends_filled g t [] h = ends_fills g t [] h
  ends_filled g t (p ∷ ps) h = ends_fills g t ps h

  ends_checked : (g : Going) (ps : List Piece) (t : Tally) (heard : List Heard) → Own g → Ends (audited_on g ps t heard)
  ends_checked g [] t heard h = ends_audits g [] t h
  ends_checked g (p ∷ ps) t heard h = ends_audits g ps _ h

  ends_on : (kind : JobKind) (work : Work) (heard : List Heard) (g : Going) → Aims g (target_in work) →
      Ends (goes_on kind work heard g)
  unfolding goes_on
  ends_on kind Creates heard g h = ends_made g h
  ends_on kind Fences heard g h = ends_fenced kind g h
  ends_on kind (Fetches ps short) heard g h = ends_fetched kind g ps short heard h
  ends_on kind (Stores ps short broken) heard g h = ends_written kind g ps short broken h
  ends_on kind (Targets t) heard g h = ends_fills g t _ h
  ends_on kind (Gathers t ps) heard g h = ends_gathered g t ps heard h
  ends_on kind (Fills t ps) heard g h = ends_filled g t ps h
  ends_on kind Lengths heard g h = ends_audits g _ _ h
  ends_on kind (Checks ps t) heard g h = ends_checked g ps t heard h

  ends_waits : (g : Going) (j : Job) (work : Work) (rest : List Awaited) (heard : List Heard) → Aims g (target_in work) →
      Ends (waits_or_on g j work rest heard)
  ends_waits g j work [] heard h = ends_on j.kind work heard g h
  ends_waits g j work (c ∷ cs) heard h = h

  -- ---- a component is lost meanwhile

  ends_refills : (g : Going) (t : Target) (ps : List Piece) (gone : Bool) → Aims g (Some t) → Ends (refills g t ps gone)
  ends_refills g t ps true h = ends_gone g t (w.ends g.drives g.effects.object g.file.kept (Some t) h)
  ends_refills g t ps false h = ends_fills g t ps h

  ends_remakes : (g : Going) (t : Target) (gone : Bool) → Aims g (Some t) → Ends g → Ends (remakes g t gone)
  ends_remakes g t true h e = ends_gone g t (w.ends g.drives g.effects.object g.file.kept (Some t) h)
  ends_remakes g t false h e = e

  ends_loses : (g : Going) (j : Job) (work : Work) (rest : List Awaited) (gone : Bool) → Aims g (target_in work) → Ends g →
      Ends (loses g j work rest gone)
  unfolding loses
  ends_loses g j (Fetches ps short) rest gone h e = ends_repairs j.kind g ps short h
  ends_loses g j (Stores ps short broken) rest gone h e = ends_waits g j (Stores ps short true) rest j.heard h
  ends_loses g j (Targets t) rest gone h e = ends_remakes g t gone h e
  ends_loses g j (Gathers t ps) rest gone h e = ends_refills g t ps gone h
  ends_loses g j (Fills t ps) rest gone h e = ends_refills g t ps gone h
  ends_loses g j (Checks ps t) rest gone h e = ends_audits g ps t h
  ends_loses g j Creates rest gone h e = ends_waits g j Creates rest j.heard h
  ends_loses g j Fences rest gone h e = ends_waits g j Fences rest j.heard h
  ends_loses g j Lengths rest gone h e = ends_waits g j Lengths rest j.heard h

  -- ---- a reply

  ends_lost : (g : Going) (j : Job) (a : Awaited) (work : Work) → Aims g (target_in work) → Ends g →
      Ends (loses (noting (with_components g (lose_from (a.component ∷ []) g.file.kept.components 0))
      (NoSpace a.component)) j work (others j.awaited a.command.nonce) false)
  ends_lost g j a work h e =
      ends_loses _ j work _ false (w.lost g.drives g.effects.object g.file.kept _ (a.component ∷ []) h)
      (w.lost g.drives g.effects.object g.file.kept _ (a.component ∷ []) e)

  ends_fills_up : (g : Going) (j : Job) (a : Awaited) (work : Work) → Aims g (target_in work) → Ends g →
      Ends (fills_up g j a work)
  ends_fills_up g j a (Targets t) h e = ends_full g t (w.ends g.drives g.effects.object g.file.kept (Some t) h)
  ends_fills_up g j a (Gathers t ps) h e = ends_full g t (w.ends g.drives g.effects.object g.file.kept (Some t) h)
  ends_fills_up g j a (Fills t ps) h e = ends_full g t (w.ends g.drives g.effects.object g.file.kept (Some t) h)
  ends_fills_up g j a Creates h e = ends_lost g j a Creates h e
  ends_fills_up g j a Fences h e = ends_lost g j a Fences h e
  ends_fills_up g j a (Fetches ps short) h e = ends_lost g j a (Fetches ps short) h e
  ends_fills_up g j a (Stores ps short broken) h e = ends_lost g j a (Stores ps short broken) h e
  ends_fills_up g j a Lengths h e = ends_lost g j a Lengths h e
  ends_fills_up g j a (Checks ps t) h e = ends_lost g j a (Checks ps t) h e

  -- of the job that runs
  pub ends_hears : (g : Going) (j : Job) (a : Awaited) (r : Reply) (x : Hearing) → g.file.job ≡ Some j → Ends g →
      Ends (hears g j a r x)
  ends_hears g j a r Older runs h =
      w.same g.drives g.effects.object g.file.kept _ (target_in j.work) refl refl refl refl
      (subst (λ (o : Option Job). Aims g (target_of o)) runs h)
  ends_hears g j a r Full runs h =
      ends_fills_up g j a j.work (subst (λ (o : Option Job). Aims g (target_of o)) runs h) h
  ends_hears g j a r Done runs h =
      ends_waits g j j.work _ _ (subst (λ (o : Option Job). Aims g (target_of o)) runs h)
  ends_hears g j a r Nothing runs h = h

  -- ---- a declaration

  ends_declared : (g : Going) (drive : ℕ) (o : Option Job) → g.file.job ≡ o → Ends g → Ends (declared_in g drive o)
  ends_declared g drive None runs h = h
  ends_declared g drive (Some j) runs h =
      ends_loses g j j.work _ _ (subst (λ (o : Option Job). Aims g (target_of o)) runs h) h

  pub ends_declares : (g : Going) (drive : ℕ) → Ends g → Ends (declares g drive)
  unfolding declares
  ends_declares g drive h =
      either_going (any_on drive g.file.kept.components || targets g.file.job drive) _ _
      (ends_declared (with_components g (lose_on drive g.file.kept.components)) drive g.file.job refl
      (w.declared g.drives g.effects.object g.file.kept (target_of g.file.job) drive h)) h

  -- ---- an opening

  ends_opened : (g : Going) (ready : Bool) → Own g → Ends (opens_made g ready)
  ends_opened g true h = h
  ends_opened g false h = ends_making g h

  ends_opens_fenced : (format : ℕ) (g : Going) → Ends g → Ends (opens_fenced format g)
  unfolding opens_fenced
  ends_opens_fenced format g h =
      either_going (g.file.kept.tag == GREATEST_TAG) _ _ h
      (ends_fence Revoking format g (w.ends g.drives g.effects.object g.file.kept (target_of g.file.job) h))

  pub ends_opens : (format : ℕ) (g : Going) → Ends g → Ends (opens format g)
  unfolding opens
  ends_opens format g h =
      either_going (is_unsettled g.file.kept) _ _ (ends_opens_fenced format g h)
      (ends_opened g g.file.kept.ready (w.ends g.drives g.effects.object g.file.kept (target_of g.file.job) h))

  -- ---- a request

  served : IsServed Ends Ends
  served = record {
    stays = λ g h. h;
    fence = λ format g h.
        ends_fence Revoking format g (w.ends g.drives g.effects.object g.file.kept (target_of g.file.job) h);
    lost = λ g ks h. w.lost g.drives g.effects.object g.file.kept (target_of g.file.job) ks h;
    noted = λ g b n p h. h;
    granted = λ g gs high h.
        w.same g.drives g.effects.object g.file.kept _ (target_of g.file.job) refl refl refl refl h;
    sized = λ g size h.
        w.same g.drives g.effects.object g.file.kept _ (target_of g.file.job) refl refl refl refl h;
  }

  pub ends_serves : (go : Going) (next format now client : ℕ) (r : RequestArgs) → Ends go →
      Ends (serves go next format now client r).going
  ends_serves go next format now client r h = ends_served Ends Ends served go next format now client r h
