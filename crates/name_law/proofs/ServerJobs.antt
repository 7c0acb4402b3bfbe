-- What a job leaves of a file, sends and notes, function by function: lines can name it all.
use Rattle.std.proofs.Common.{◌≡◌, ◌==◌, ◌||◌, ◌&&◌, ℕ, ◌+◌, ◌<◌, nat_lt, Bool, true, false, List, [], ◌∷◌, ◌++◌, replicate, slice_set, Option, Some, None, refl, sym, subst, arith, inl, inr, if◌then◌else◌}
use Rattle.std.proofs.lemmas.Bool.{cases_Bool}
use Rattle.std.proofs.lemmas.Bool.Decides.{nat_tests}
use Rattle.scenario_text.specs.declared.names.TheConstants.{DRIVES, FILES}
use Rattle.server_rules.specs.declared.limits.TheConstants.{GREATEST_TAG}
use Rattle.server_rules.specs.Columns.{end_of}
use Rattle.server_rules.specs.Laws.{In}
use Rattle.server_rules.specs.Commands.{All, Raising, Creating}
use Rattle.server_rules.specs.Going.{Going, noting, noting_if, keeping, with_components, sending, rests_or}
use Rattle.server_rules.specs.Standing.{any_on, lose_on, lose_from}
use Rattle.server_rules.specs.Zoning.{takers}
use Rattle.server_rules.specs.Audit.{audits, audit_begins}
use Rattle.server_rules.specs.Rebuild.{picked, or_first, target_on, target_for, makes_or, rebuilds, stands_at, fills, filling, target_gone, target_full}
use Rattle.server_rules.specs.Repair.{after_repair, mended, repairs, storing, stored, repair_begins}
use Rattle.server_rules.specs.Replies.{fills_up, hears, Hearing, Older, Full, Done, Nothing, others}
use Rattle.server_rules.specs.Jobs.{making, ending, fenced, fence_begins, fetched, written, gathered, filled_in, audited_on, goes_on, waits_or_on, refills, remakes, loses, declared_in, targets, declares}
use Rattle.server_rules.specs.Messages.{awaited_by}
use Rattle.server_rules.specs.Openings.{opens_made, opens_spent, opens_fenced, is_unsettled, opens}
use Rattle.server_rules.proofs.Members.{in_either}
use Rattle.world_history.specs.Names.{is_tellable_note}
use Rattle.world_history.specs.ServerNames.{Component, Awaited, Heard, Piece, Target, Drive, Job, JobKind, Making, Revoking, Rebuilding, Auditing, Work, Creates, Fences, Fetches, Stores, Targets, Gathers, Fills, Lengths, Checks, Tally, Note, NoteKind, Rebuilt, NoDrive, NoSpace, Reply, Repairing}
use Rattle.history_law.specs.Placed.{AreNamed as AreNamedDrives}
use Rattle.history_law.proofs.Rebuilding.{first_named, takers_named}
use Rattle.component_law.specs.Objects.{target_in, target_of}
use Rattle.name_law.specs.ServerNamed.{AreOnNamed, AreOfNamed, AreForNamed, IsNamedTarget}
use Rattle.name_law.proofs.ServerAwaited.{both_for, none_for, one_for, filtered_for, renewed_for, each_for, stores_for, repair_for, sources_for, set_on, lost_on, lost_from}

-- ---- what holds in the middle of a step

-- a line can tell each of these notes
abbrev pub AreTold : List Note → Type 0
AreTold ns = (n : Note) → In n ns → (nat_lt n.file FILES && is_tellable_note n.kind) ≡ true

-- whatever the file's job is
abbrev pub Owns : Going → Type 0
Owns g = record {
  number : g.file.kept.number < FILES;
  drives : AreNamedDrives g.drives;
  components : AreOnNamed g.file.kept.components;
  grants : AreOfNamed g.file.kept.grants;
  sent : AreForNamed g.effects.sent;
  notes : AreTold g.effects.notes;
}

-- and its job
abbrev pub IsJob : Option Job → Type 0
IsJob o = AreForNamed (awaited_by o) × IsNamedTarget (target_of o)

abbrev pub Ends : Going → Type 0
Ends g = Owns g × IsJob g.file.job

-- a note more
note_told : (file : ℕ) (k : NoteKind) → file < FILES → is_tellable_note k ≡ true
    → (nat_lt file FILES && is_tellable_note k) ≡ true
note_told file k less e = rw e (grind (arith, nat_tests, less))

told_more : (ns : List Note) (file : ℕ) (k : NoteKind) → AreTold ns → file < FILES → is_tellable_note k ≡ true
    → AreTold (ns ++ (record { file = file; kind = k } ∷ []))
told_more ns file k told less e n i = elim (in_either n ns (record { file = file; kind = k } ∷ []) i) [
  | inl j ↦ told n j
  | inr j ↦ last j
]
  where
    last : In n (record { file = file; kind = k } ∷ []) → (nat_lt n.file FILES && is_tellable_note n.kind) ≡ true
    last (inl same) =
        subst (λ (x : Note). (nat_lt x.file FILES && is_tellable_note x.kind) ≡ true) (sym same)
        (note_told file k less e)
    last (inr none) = absurd none

pub owns_noting : (g : Going) (k : NoteKind) → is_tellable_note k ≡ true → Owns g → Owns (noting g k)
owns_noting g k e h = record {
  number = h.number;
  drives = h.drives;
  components = h.components;
  grants = h.grants;
  sent = h.sent;
  notes = told_more g.effects.notes g.file.kept.number k h.notes h.number e;
}

pub owns_noting_if : (b : Bool) (g : Going) (k : NoteKind) → is_tellable_note k ≡ true → Owns g
    → Owns (noting_if b g k)
owns_noting_if true g k e h = owns_noting g k e h
owns_noting_if false g k e h = h

pub owns_with : (g : Going) (cs : List Component) → AreOnNamed cs → Owns g → Owns (with_components g cs)
owns_with g cs on h = record {
  number = h.number;
  drives = h.drives;
  components = on;
  grants = h.grants;
  sent = h.sent;
  notes = h.notes;
}

owns_sending : (g : Going) (cs : List Awaited) → AreForNamed cs → Owns g → Owns (sending g cs)
owns_sending g cs for h = record {
  number = h.number;
  drives = h.drives;
  components = h.components;
  grants = h.grants;
  sent = both_for g.effects.sent cs h.sent for;
  notes = h.notes;
}

-- ---- the job rests, or goes on

ends_rests_or : (cs : List Awaited) (g : Going) (kind : JobKind) (work : Work) (later : Going) → Owns g
    → AreForNamed cs → IsNamedTarget (target_in work) → Ends later → Ends (rests_or cs g kind work later)
ends_rests_or [] g kind work later h for a l = l
ends_rests_or (c ∷ cs) g kind work later h for a l = (owns_sending g (c ∷ cs) for h, (for, a))

-- ---- audit

ends_audits : (g : Going) (ps : List Piece) (t : Tally) → Owns g → Ends (audits g ps t)
unfolding audits
ends_audits g [] t h = (owns_noting g _ refl h, (none_for, tt))
ends_audits g (p ∷ ps) t h =
    ends_rests_or _ g _ _ _ h (each_for g.file.kept _ _ g.file.kept.components 0 g.effects.nonce h.components) tt
    (ends_audits g ps _ h)

ends_audit : (g : Going) → Owns g → Ends (audit_begins g)
unfolding audit_begins
ends_audit g h =
    ends_rests_or _ g _ _ _ h (each_for g.file.kept _ _ g.file.kept.components 0 g.effects.nonce h.components) tt
    (ends_audits g _ _ h)

-- ---- rebuild

picked_named : (chosen : List ℕ) (ds : List Drive) (n : ℕ) → AreNamedDrives ds → picked chosen ds ≡ Some n
    → n < DRIVES
picked_named chosen [] n a e = absurd (cc e)
picked_named chosen (d ∷ ds) n a e =
    let is : or_first chosen d ds ≡ n = cc e in subst (λ (k : ℕ). k < DRIVES) is (first_named chosen d ds a)

target_named : (g : Going) (k : ℕ) (o : Option ℕ) → ((n : ℕ) → o ≡ Some n → n < DRIVES)
    → IsNamedTarget (target_on g k o)
target_named g k None a = tt
target_named g k (Some n) a = a n refl

either_target : (b : Bool) (o : Option Target) → IsNamedTarget o → IsNamedTarget (if b then o else None)
either_target true o h = h
either_target false o h = tt

aims_at : (g : Going) (at : Component) (k : ℕ) → Owns g → IsNamedTarget (target_for g at k)
unfolding target_for
aims_at g at k h =
    either_target at.missing _
    (target_named g k (picked g.chosen (takers g.drives g.file.kept k)) (λ n e.
    picked_named g.chosen (takers g.drives g.file.kept k) n (takers_named g.drives g.file.kept k h.drives) e))

ends_makes_or : (g : Going) (o : Option Target) (later : Going) → IsNamedTarget o → Owns g → Ends later
    → Ends (makes_or g o later)
ends_makes_or g None later a h l = l
ends_makes_or g (Some t) later a h l = (
  record {
    number = h.number;
    drives = h.drives;
    components = h.components;
    grants = h.grants;
    sent = both_for g.effects.sent _ h.sent (one_for _ a);
    notes = h.notes;
  },
  (one_for _ a, a),
)

ends_rebuilds : (g : Going) (cs : List Component) (k : ℕ) → Owns g → Ends (rebuilds g cs k)
unfolding rebuilds
ends_rebuilds g [] k h = (h, (none_for, tt))
ends_rebuilds g (at ∷ cs) k h =
    ends_makes_or g (target_for g at k) _ (aims_at g at k h) h
    (ends_rebuilds (noting_if at.missing g (NoDrive k)) cs (k + 1) (owns_noting_if at.missing g (NoDrive k) refl h))

told_drive : (component d : ℕ) → d < DRIVES → is_tellable_note (Rebuilt component d) ≡ true
told_drive component d less = grind (arith, nat_tests, less)

-- the component stands on its new drive
owns_rebuilt : (g : Going) (t : Target) → t.drive < DRIVES → Owns g
    → Owns (noting (with_components g (slice_set g.file.kept.components t.component (stands_at t)))
    (Rebuilt t.component t.drive))
owns_rebuilt g t a h =
    owns_noting (with_components g (slice_set g.file.kept.components t.component (stands_at t)))
    (Rebuilt t.component t.drive) (told_drive t.component t.drive a)
    (owns_with g (slice_set g.file.kept.components t.component (stands_at t))
    (set_on g.file.kept.components t.component (stands_at t) a h.components) h)

ends_fills : (g : Going) (t : Target) (ps : List Piece) → t.drive < DRIVES → Owns g → Ends (fills g t ps)
unfolding fills
ends_fills g t [] a h = ends_rebuilds _ _ _ (owns_rebuilt g t a h)
ends_fills g t (p ∷ ps) a h =
    ends_rests_or _ g _ _ _ h (sources_for g.file.kept t p g.effects.nonce h.components) a
    (ends_rebuilds (noting g _) _ _ (owns_noting g _ refl h))

ends_filling : (g : Going) (t : Target) (p : Piece) (ps : List Piece) (bytes : List ℕ) → t.drive < DRIVES → Owns g
    → Ends (filling g t p ps bytes)
unfolding filling
ends_filling g t p ps bytes a h = elim (cases_Bool (nat_lt 0 (end_of bytes (replicate p.count 0)))) [
  | inl e ↦ rw e (owns_sending g (_ ∷ []) (one_for _ a) h, (one_for _ a, a))
  | inr e ↦ rw e (ends_fills g t ps a h)
]

ends_gone : (g : Going) (t : Target) → Owns g → Ends (target_gone g t)
ends_gone g t h = ends_rebuilds (noting g (NoDrive t.component)) _ _ (owns_noting g (NoDrive t.component) refl h)

ends_full : (g : Going) (t : Target) → Owns g → Ends (target_full g t)
ends_full g t h = ends_rebuilds (noting g (NoSpace t.component)) _ _ (owns_noting g (NoSpace t.component) refl h)

-- ---- repair

ends_after : (kind : JobKind) (g : Going) → Owns g → Ends (after_repair kind g)
ends_after Making g h = (h, (none_for, tt))
ends_after Revoking g h = (h, (none_for, tt))
ends_after Rebuilding g h = ends_rebuilds g g.file.kept.components 0 h
ends_after Auditing g h = ends_audit g h

owns_mended : (g : Going) (short : List ℕ) → Owns g → Owns (mended g short)
owns_mended g short h = record {
  number = h.number;
  drives = h.drives;
  components = h.components;
  grants = h.grants;
  sent = h.sent;
  notes = told_more g.effects.notes g.file.kept.number _ h.notes h.number refl;
}

ends_repairs : (kind : JobKind) (g : Going) (ps : List Piece) (short : List ℕ) → Owns g → Ends (repairs kind g ps short)
unfolding repairs
ends_repairs kind g [] short h = ends_after kind (mended g short) (owns_mended g short h)
ends_repairs kind g (p ∷ ps) short h =
    ends_rests_or _ g _ _ _ h (repair_for g.file.kept p g.effects.nonce h.components) tt (ends_repairs kind g ps _ h)

ends_storing : (kind : JobKind) (g : Going) (p : Piece) (ps : List Piece) (short : List ℕ) (heard : List Heard)
    → Owns g → Ends (storing kind g p ps short heard)
unfolding storing
ends_storing kind g p ps short heard h =
    ends_rests_or _ g _ _ _ h
    (stores_for g.file.kept p _ heard g.file.kept.components 0 g.effects.nonce h.components) tt
    (ends_repairs kind g ps short h)

ends_stored : (kind : JobKind) (g : Going) (p : Piece) (ps : List Piece) (short : List ℕ) (broken : Bool) → Owns g
    → Ends (stored kind g p ps short broken)
ends_stored kind g p ps short true h = ends_repairs kind g (p ∷ ps) short h
ends_stored kind g p ps short false h = ends_repairs kind g ps short h

-- ---- the fence and the job

pub ends_making : (g : Going) → Owns g → Ends (making g)
unfolding making
ends_making g h =
    ends_rests_or _ g _ _ _ h (each_for g.file.kept All Creating g.file.kept.components 0 g.effects.nonce h.components)
    tt (owns_noting g _ refl h, (none_for, tt))

ends_fenced : (kind : JobKind) (g : Going) → Owns g → Ends (fenced kind g)
unfolding fenced repair_begins
ends_fenced kind g h =
    ends_repairs kind _ _ []
    (owns_noting (keeping g (record g.file.kept { tag = g.file.kept.tag + 1; phase = Repairing })) _ refl h)

owns_ending : (format : ℕ) (g : Going) → Owns g → Owns (keeping g (ending g.file.kept format))
owns_ending format g h = record {
  number = h.number;
  drives = h.drives;
  components = h.components;
  grants = λ x i. absurd i;
  sent = h.sent;
  notes = h.notes;
}

pub ends_fence : (kind : JobKind) (format : ℕ) (g : Going) → Owns g → Ends (fence_begins kind format g)
unfolding fence_begins
ends_fence kind format g h =
    let k : Going = keeping g (ending g.file.kept format) in
    let own = owns_ending format g h in
    ends_rests_or _ k _ _ _ own
    (each_for k.file.kept All Raising k.file.kept.components 0 k.effects.nonce h.components) tt
    (ends_fenced kind k own)

ends_fetched : (kind : JobKind) (g : Going) (ps : List Piece) (short : List ℕ) (heard : List Heard) → Owns g
    → Ends (fetched kind g ps short heard)
ends_fetched kind g [] short heard h = ends_repairs kind g [] short h
ends_fetched kind g (p ∷ ps) short heard h = ends_storing kind g p ps short heard h

ends_written : (kind : JobKind) (g : Going) (ps : List Piece) (short : List ℕ) (broken : Bool) → Owns g
    → Ends (written kind g ps short broken)
ends_written kind g [] short broken h = ends_repairs kind g [] short h
ends_written kind g (p ∷ ps) short broken h = ends_stored kind g p ps short broken h

ends_gathered : (g : Going) (t : Target) (ps : List Piece) (heard : List Heard) → t.drive < DRIVES → Owns g
    → Ends (gathered g t ps heard)
ends_gathered g t [] heard a h = ends_fills g t [] a h
ends_gathered g t (p ∷ ps) heard a h = ends_filling g t p ps _ a h

ends_filled : (g : Going) (t : Target) (ps : List Piece) → t.drive < DRIVES → Owns g → Ends (filled_in g t ps)
ends_filled g t [] a h = ends_fills g t [] a h
ends_filled g t (p ∷ ps) a h = ends_fills g t ps a h

ends_checked : (g : Going) (ps : List Piece) (t : Tally) (heard : List Heard) → Owns g → Ends (audited_on g ps t heard)
ends_checked g [] t heard h = ends_audits g [] t h
ends_checked g (p ∷ ps) t heard h = ends_audits g ps _ h

ends_on : (kind : JobKind) (work : Work) (heard : List Heard) (g : Going) → Owns g → IsNamedTarget (target_in work)
    → Ends (goes_on kind work heard g)
unfolding goes_on
ends_on kind Creates heard g h a = (owns_noting g _ refl h, (none_for, tt))
ends_on kind Fences heard g h a = ends_fenced kind g h
ends_on kind (Fetches ps short) heard g h a = ends_fetched kind g ps short heard h
ends_on kind (Stores ps short broken) heard g h a = ends_written kind g ps short broken h
ends_on kind (Targets t) heard g h a = ends_fills g t _ a h
ends_on kind (Gathers t ps) heard g h a = ends_gathered g t ps heard a h
ends_on kind (Fills t ps) heard g h a = ends_filled g t ps a h
ends_on kind Lengths heard g h a = ends_audits g _ _ h
ends_on kind (Checks ps t) heard g h a = ends_checked g ps t heard h

ends_waits : (g : Going) (j : Job) (work : Work) (rest : List Awaited) (heard : List Heard) → Owns g
    → AreForNamed rest → IsNamedTarget (target_in work) → Ends (waits_or_on g j work rest heard)
ends_waits g j work [] heard h for a = ends_on j.kind work heard g h a
ends_waits g j work (c ∷ cs) heard h for a = (h, (for, a))

-- ---- a component is lost meanwhile

ends_refills : (g : Going) (t : Target) (ps : List Piece) (gone : Bool) → t.drive < DRIVES → Owns g
    → Ends (refills g t ps gone)
ends_refills g t ps true a h = ends_gone g t h
ends_refills g t ps false a h = ends_fills g t ps a h

ends_remakes : (g : Going) (t : Target) (gone : Bool) → Ends g → Ends (remakes g t gone)
ends_remakes g t true h = ends_gone g t h.0
ends_remakes g t false h = h

ends_loses : (g : Going) (j : Job) (work : Work) (rest : List Awaited) (gone : Bool) → Ends g → AreForNamed rest
    → IsNamedTarget (target_in work) → Ends (loses g j work rest gone)
unfolding loses
ends_loses g j (Fetches ps short) rest gone h for a = ends_repairs j.kind g ps short h.0
ends_loses g j (Stores ps short broken) rest gone h for a =
    ends_waits g j (Stores ps short true) rest j.heard h.0 for tt
ends_loses g j (Targets t) rest gone h for a = ends_remakes g t gone h
ends_loses g j (Gathers t ps) rest gone h for a = ends_refills g t ps gone a h.0
ends_loses g j (Fills t ps) rest gone h for a = ends_refills g t ps gone a h.0
ends_loses g j (Checks ps t) rest gone h for a = ends_audits g ps t h.0
ends_loses g j work rest gone h for a = ends_waits g j work rest j.heard h.0 for a

-- ---- a reply

-- what the job waits for, and what it makes anew
job_of : (g : Going) (j : Job) → g.file.job ≡ Some j → Ends g → AreForNamed j.awaited × IsNamedTarget (target_in j.work)
job_of g j is h = subst IsJob is h.1

ends_lost : (g : Going) (j : Job) (a : Awaited) (work : Work) → Ends g → AreForNamed (others j.awaited a.command.nonce)
    → IsNamedTarget (target_in work)
    → Ends (loses (noting (with_components g (lose_from (a.component ∷ []) g.file.kept.components 0))
    (NoSpace a.component)) j work (others j.awaited a.command.nonce) false)
ends_lost g j a work h for t =
    let cs : List Component = lose_from (a.component ∷ []) g.file.kept.components 0 in
    ends_loses (noting (with_components g cs) (NoSpace a.component)) j work _ false (
      owns_noting (with_components g cs) (NoSpace a.component) refl
          (owns_with g cs (lost_from (a.component ∷ []) g.file.kept.components 0 h.0.components) h.0),
      h.1,
    ) for t

ends_fills_up : (g : Going) (j : Job) (a : Awaited) (work : Work) → Ends g
    → AreForNamed (others j.awaited a.command.nonce) → IsNamedTarget (target_in work) → Ends (fills_up g j a work)
ends_fills_up g j a (Targets t) h for x = ends_full g t h.0
ends_fills_up g j a (Gathers t ps) h for x = ends_full g t h.0
ends_fills_up g j a (Fills t ps) h for x = ends_full g t h.0
ends_fills_up g j a Creates h for x = ends_lost g j a Creates h for x
ends_fills_up g j a Fences h for x = ends_lost g j a Fences h for x
ends_fills_up g j a (Fetches ps short) h for x = ends_lost g j a (Fetches ps short) h for x
ends_fills_up g j a (Stores ps short broken) h for x = ends_lost g j a (Stores ps short broken) h for x
ends_fills_up g j a Lengths h for x = ends_lost g j a Lengths h for x
ends_fills_up g j a (Checks ps t) h for x = ends_lost g j a (Checks ps t) h for x

pub ends_hears : (g : Going) (j : Job) (a : Awaited) (r : Reply) (x : Hearing) → g.file.job ≡ Some j → In a j.awaited
    → Ends g → Ends (hears g j a r x)
ends_hears g j a r Older is i h =
    let job = job_of g j is h in
    let own : a.drive < DRIVES = job.0 a i in (
      owns_sending g (_ ∷ []) (one_for _ own) h.0,
      (renewed_for j.awaited a g.effects.nonce own job.0, job.1),
    )
ends_hears g j a r Full is i h =
    let job = job_of g j is h in ends_fills_up g j a j.work h (filtered_for _ j.awaited job.0) job.1
ends_hears g j a r Done is i h =
    let job = job_of g j is h in ends_waits g j j.work _ _ h.0 (filtered_for _ j.awaited job.0) job.1
ends_hears g j a r Nothing is i h = h

-- ---- a declaration, and an opening

ends_declared : (g : Going) (drive : ℕ) (o : Option Job) → g.file.job ≡ o → Ends g
    → Ends (declared_in (with_components g (lose_on drive g.file.kept.components)) drive o)
ends_declared g drive None is h =
    (owns_with g (lose_on drive g.file.kept.components) (lost_on drive g.file.kept.components h.0.components) h.0, h.1)
ends_declared g drive (Some j) is h =
    let job = job_of g j is h in
    ends_loses (with_components g (lose_on drive g.file.kept.components)) j j.work _ _ (
      owns_with g (lose_on drive g.file.kept.components) (lost_on drive g.file.kept.components h.0.components) h.0,
      h.1,
    ) (filtered_for _ j.awaited job.0) job.1

either_going : (b : Bool) (x y : Going) → Ends x → Ends y → Ends (if b then x else y)
either_going true x y p q = p
either_going false x y p q = q

pub ends_declares : (g : Going) (drive : ℕ) → Ends g → Ends (declares g drive)
unfolding declares
ends_declares g drive h =
    either_going (any_on drive g.file.kept.components || targets g.file.job drive) _ _
    (ends_declared g drive g.file.job refl h) h

ends_opened : (g : Going) (ready : Bool) → Owns g → Ends (opens_made g ready)
ends_opened g true h = (h, (none_for, tt))
ends_opened g false h = ends_making g h

ends_unsettled : (format : ℕ) (g : Going) → Ends g → Ends (opens_fenced format g)
unfolding opens_fenced
ends_unsettled format g h =
    either_going (g.file.kept.tag == GREATEST_TAG) (opens_spent g) _ (owns_noting g _ refl h.0, h.1)
    (ends_fence Revoking format g h.0)

pub ends_opens : (format : ℕ) (g : Going) → Ends g → Ends (opens format g)
unfolding opens
ends_opens format g h =
    either_going (is_unsettled g.file.kept) _ _ (ends_unsettled format g h) (ends_opened g g.file.kept.ready h.0)
