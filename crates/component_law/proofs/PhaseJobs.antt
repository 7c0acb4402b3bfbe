-- What a job sends for its file, function by function: commands to objects of the file, that aren't past it.
use Rattle.std.proofs.Common.{◌≡◌, ◌==◌, ◌||◌, ℕ, ◌+◌, ◌≤◌, ◌++◌, nat_lt, Bool, true, false, List, [], ◌∷◌, filter, replicate, slice_set, Option, Some, None, refl, sym, subst, ◌∙◌, arith, inl, inr, if◌then◌else◌}
use Rattle.std.proofs.lemmas.Bool.{cases_Bool}
use Rattle.server_rules.specs.declared.limits.TheConstants.{GREATEST_TAG}
use Rattle.server_rules.specs.Columns.{end_of}
use Rattle.server_rules.specs.Laws.{In}
use Rattle.server_rules.specs.Going.{Going, over, noting, noting_if, keeping, with_components, rests, rests_or}
use Rattle.server_rules.specs.Standing.{any_on, lose_on, lose_from}
use Rattle.server_rules.specs.Audit.{audits, audit_begins}
use Rattle.server_rules.specs.Rebuild.{target_for, makes_or, rebuilds, stands_at, sources, to_fill, fills, filling, target_gone, target_full}
use Rattle.server_rules.specs.Repair.{after_repair, mended, repairs, storing, stored, repair_begins}
use Rattle.server_rules.specs.Replies.{renewed, renews, fills_up, hears, Hearing, Older, Full, Done, Nothing, others}
use Rattle.server_rules.specs.Jobs.{making, fencing, ending, fenced, fence_begins, fetched, written, gathered, filled_in, audited_on, goes_on, waits_or_on, refills, remakes, loses, declared_in, targets, declares}
use Rattle.server_rules.specs.Openings.{opens_made, opens_spent, opens_fenced, is_unsettled, opens}
use Rattle.server_rules.specs.Commands.{Ask, Creating, Which, sent_to, to_all, again_in_2}
use Rattle.server_rules.specs.Messages.{awaited_by}
use Rattle.server_rules.proofs.Members.{in_either, in_mapped, in_filtered}
use Rattle.history_law.specs.Names.{Kept, Phase, Still, Fencing, Repairing, FencingAgain, Command, Fenced, Component, Awaited, Heard, Piece, Target, Job, JobKind, Making, Revoking, Rebuilding, Auditing, Work, Creates, Fences, Fetches, Stores, Targets, Gathers, Fills, Lengths, Checks, Tally, Rebuilt, NoDrive, NoSpace, Reply}
use Rattle.component_law.specs.Objects.{objects_of, target_in, target_of, NoneIs, AllDiffer}
use Rattle.component_law.proofs.Walking.{target_is}
use Rattle.component_law.proofs.SentNumbers.{none_above, in_set, set_differ, objects_set, objects_from, objects_on}
use Rattle.component_law.specs.Tagged.{is_fence, fence_open, IsBehind}
use Rattle.component_law.proofs.Sent.{IsMine, AllMine, is_raising, one_mine, mine_for, each_mine, stores_mine, repair_mine, sources_mine}
use Rattle.component_law.proofs.Ends.{Sends, Owns, IsAim, IsClosed, AreClosed, Ends}
use Rattle.component_law.proofs.Sent.{IsUsed}

module _ (P : ℕ → Type 0) (number n : ℕ) (fresh : (o : ℕ) → n ≤ o → P o) (k0 : Kept) (before : List Awaited) where
  abbrev Own : Going → Type 0
  Own g = Owns P number n k0 before g

  abbrev End : Going → Type 0
  End g = Ends P number n k0 before g

  abbrev Aim : Going → Option Target → Type 0
  Aim g o = IsAim P g.effects.object g.file.kept.components o

  abbrev Mine : Going → List Awaited → Type 0
  Mine g ws = AllMine P g.effects.object g.file.kept ws

  -- no job runs any more
  ended : (g : Going) → Own g → End (over g)
  ended g h = (h, tt, λ a i. absurd i, tt)

  -- some are sent
  sends_more : (m : ℕ) (k : Kept) (sent ws : List Awaited) → Sends P k0 before m k sent → AllMine P m k ws
      → Sends P k0 before m k (sent ++ ws)
  sends_more m k sent ws h mine = (
    h.0,
    λ a i. elim (in_either a sent ws i) [ inl j ↦ h.1 a j | inr j ↦ inr (mine a j) ],
  )

  -- the file goes on
  sends_on : (m : ℕ) (k l : Kept) (sent : List Awaited) → ((c : Command) → IsBehind k c → IsBehind l c)
      → Sends P k0 before m k sent → Sends P k0 before m l sent
  sends_on m k l sent on h = (
    λ c b. on c (h.0 c b),
    λ a i. elim (h.1 a i) [ inl old ↦ inl old | inr x ↦ inr (x.0, on a.command x.1) ],
  )

  -- further numbers are used
  sends_later : (m l : ℕ) (k : Kept) (sent : List Awaited) → m ≤ l → Sends P k0 before m k sent
      → Sends P k0 before l k sent
  sends_later m l k sent le h = (
    h.0,
    λ a i. elim (h.1 a i) [ inl old ↦ inl old | inr x ↦ inr ((x.0.0, omega (arith, x.0.1, le)), x.1) ],
  )

  -- ---- the job rests, or goes on

  ends_rests_or : (cs : List Awaited) (g : Going) (kind : JobKind) (work : Work) (later : Going) → Own g
      → Aim g (target_in work) → Mine g cs → IsClosed g.file.kept work → End later
      → End (rests_or cs g kind work later)
  ends_rests_or [] g kind work later h a mine closed l = l
  ends_rests_or (c ∷ cs) g kind work later h a mine closed l = (
    (h.0, h.1, h.2, h.3, sends_more g.effects.object g.file.kept g.effects.sent (c ∷ cs) h.4 mine),
    a,
    mine,
    closed,
  )

  -- of the file's components
  all_mine : (g : Going) (which : Which) (ask : Ask) → Own g → (is_raising ask ≡ true → fence_open g.file.kept ≡ true)
      → Mine g (to_all g.file.kept which ask g.effects.nonce)
  all_mine g which ask h r =
      each_mine P g.effects.object g.file.kept which ask g.file.kept.components 0 g.effects.nonce h.2 r

  -- ---- audit

  ends_audits : (g : Going) (ps : List Piece) (t : Tally) → Own g → End (audits g ps t)
  unfolding audits
  ends_audits g [] t h = ended g h
  ends_audits g (p ∷ ps) t h =
      ends_rests_or _ g _ _ _ h tt (all_mine g _ _ h (λ e. absurd (cc e))) (λ e. absurd (cc e)) (ends_audits g ps _ h)

  ends_audit : (g : Going) → Own g → End (audit_begins g)
  unfolding audit_begins
  ends_audit g h =
      ends_rests_or _ g _ _ _ h tt (all_mine g _ _ h (λ e. absurd (cc e))) (λ e. absurd (cc e)) (ends_audits g _ _ h)

  -- ---- rebuild

  ends_makes_or : (g : Going) (at : Component) (k : ℕ) (o : Option Target) (later : Going) → target_for g at k ≡ o
      → Own g → End later → End (makes_or g o later)
  ends_makes_or g at k None later is h l = l
  ends_makes_or g at k (Some t) later is h l =
      let e = (target_is g at k t is).1 in
      let used : IsUsed P (t.object + 1) t.object = (fresh t.object (omega (arith, e, h.1)), omega arith) in
      let mine : AllMine P (t.object + 1) g.file.kept
      (sent_to g.file.kept Creating t.component t.drive t.object g.effects.nonce ∷ []) =
      one_mine P (t.object + 1) g.file.kept _
      (mine_for P (t.object + 1) g.file.kept Creating t.component t.drive t.object g.effects.nonce used
      (λ x. absurd (cc x))) in (
        (
          h.0,
          omega (arith, e, h.1),
          λ o i. let u = h.2 o i in (u.0, omega (arith, e, u.1)),
          h.3,
          sends_more (t.object + 1) g.file.kept g.effects.sent _
              (sends_later g.effects.object (t.object + 1) g.file.kept g.effects.sent (omega (arith, e)) h.4) mine,
        ),
        (
          used,
          none_above t.object (objects_of g.file.kept.components) (λ x i. omega (arith, e, (h.2 x i).1)),
        ),
        mine,
        λ x. absurd (cc x),
      )

  ends_rebuilds : (g : Going) (cs : List Component) (k : ℕ) → Own g → End (rebuilds g cs k)
  unfolding rebuilds
  ends_rebuilds g [] k h = ended g h
  ends_rebuilds g (at ∷ cs) k h =
      ends_makes_or g at k (target_for g at k) _ refl h
      (ends_rebuilds (noting_if at.missing g (NoDrive k)) cs (k + 1) h)

  -- the component stands on its new drive
  owns_rebuilt : (g : Going) (t : Target) → Own g → Aim g (Some t)
      → Own (with_components g (slice_set g.file.kept.components t.component (stands_at t)))
  owns_rebuilt g t h a =
      let same = objects_set g.file.kept.components t.component (stands_at t) in (
        h.0,
        h.1,
        λ o i. elim (in_set (objects_of g.file.kept.components) t.component t.object o (subst (In o) same i)) [
          | inl e ↦ subst (IsUsed P g.effects.object) (sym e) a.0
          | inr j ↦ h.2 o j
        ],
        subst AllDiffer (sym same) (set_differ (objects_of g.file.kept.components) t.component t.object h.3 a.1),
        h.4,
      )

  from : (g : Going) (t : Target) (p : Piece) → Own g → Mine g (sources g.file.kept t p g.effects.nonce)
  unfolding sources
  from g t p h = sources_mine P g.effects.object g.file.kept t p g.effects.nonce _ h.2

  ends_fills : (g : Going) (t : Target) (ps : List Piece) → Own g → Aim g (Some t) → End (fills g t ps)
  unfolding fills
  ends_fills g t [] h a =
      ends_rebuilds
      (noting (with_components g (slice_set g.file.kept.components t.component (stands_at t)))
      (Rebuilt t.component t.drive)) _ _ (owns_rebuilt g t h a)
  ends_fills g t (p ∷ ps) h a =
      ends_rests_or _ g _ _ _ h a (from g t p h) (λ e. absurd (cc e)) (ends_rebuilds (noting g _) _ _ h)

  -- the WRITE to the target
  filled : (g : Going) (t : Target) (p : Piece) (ps : List Piece) (bytes : List ℕ) → Own g → Aim g (Some t)
      → End (rests g Rebuilding (Fills t (p ∷ ps)) (to_fill g.file.kept t p bytes g.effects.nonce) [])
  filled g t p ps bytes h a =
      let mine : Mine g (to_fill g.file.kept t p bytes g.effects.nonce ∷ []) =
      one_mine P g.effects.object g.file.kept _ (a.0, (omega arith, λ x. absurd (cc x))) in (
        (h.0, h.1, h.2, h.3, sends_more g.effects.object g.file.kept g.effects.sent _ h.4 mine),
        a,
        mine,
        λ x. absurd (cc x),
      )

  ends_filling : (g : Going) (t : Target) (p : Piece) (ps : List Piece) (bytes : List ℕ) → Own g → Aim g (Some t)
      → End (filling g t p ps bytes)
  unfolding filling
  ends_filling g t p ps bytes h a = elim (cases_Bool (nat_lt 0 (end_of bytes (replicate p.count 0)))) [
    | inl e ↦ rw e (filled g t p ps bytes h a)
    | inr e ↦ rw e (ends_fills g t ps h a)
  ]

  ends_gone : (g : Going) (t : Target) → Own g → End (target_gone g t)
  ends_gone g t h = ends_rebuilds (noting g (NoDrive t.component)) _ _ h

  ends_full : (g : Going) (t : Target) → Own g → End (target_full g t)
  ends_full g t h = ends_rebuilds (noting g (NoSpace t.component)) _ _ h

  -- ---- repair

  ends_after : (kind : JobKind) (g : Going) → Own g → End (after_repair kind g)
  ends_after Making g h = ended g h
  ends_after Revoking g h = ended g h
  ends_after Rebuilding g h = ends_rebuilds g g.file.kept.components 0 h
  ends_after Auditing g h = ends_audit g h

  -- the fence that isn't open is over
  owns_mended : (g : Going) (short : List ℕ) → fence_open g.file.kept ≡ false → Own g → Own (mended g short)
  owns_mended g short closed h = (
    h.0,
    h.1,
    h.2,
    h.3,
    sends_on g.effects.object g.file.kept (mended g short).file.kept g.effects.sent
        (λ c b. (b.0, λ e. elim (b.1 e) [ inl less ↦ inl less | inr wide ↦ absurd (cc (sym wide ∙ closed)) ])) h.4,
  )

  ends_repairs : (kind : JobKind) (g : Going) (ps : List Piece) (short : List ℕ) → fence_open g.file.kept ≡ false
      → Own g → End (repairs kind g ps short)
  unfolding repairs
  ends_repairs kind g [] short closed h = ends_after kind (mended g short) (owns_mended g short closed h)
  ends_repairs kind g (p ∷ ps) short closed h =
      ends_rests_or _ g _ _ _ h tt (repair_mine P g.effects.object g.file.kept p g.effects.nonce h.2) (λ e. closed)
      (ends_repairs kind g ps _ closed h)

  ends_storing : (kind : JobKind) (g : Going) (p : Piece) (ps : List Piece) (short : List ℕ) (heard : List Heard)
      → fence_open g.file.kept ≡ false → Own g → End (storing kind g p ps short heard)
  unfolding storing
  ends_storing kind g p ps short heard closed h =
      ends_rests_or _ g _ _ _ h tt (stores_mine P g.effects.object g.file.kept p _ heard g.file.kept.components 0 _ h.2)
      (λ e. closed) (ends_repairs kind g ps short closed h)

  ends_stored : (kind : JobKind) (g : Going) (p : Piece) (ps : List Piece) (short : List ℕ) (broken : Bool)
      → fence_open g.file.kept ≡ false → Own g → End (stored kind g p ps short broken)
  ends_stored kind g p ps short true closed h = ends_repairs kind g (p ∷ ps) short closed h
  ends_stored kind g p ps short false closed h = ends_repairs kind g ps short closed h

  -- ---- the fence and the job

  pub ends_making : (g : Going) → Own g → End (making g)
  unfolding making
  ends_making g h =
      ends_rests_or _ g _ _ _ h tt (all_mine g _ _ h (λ e. absurd (cc e))) (λ e. absurd (cc e))
      (ended (keeping g (record g.file.kept { ready = true })) h)

  -- the file has its next tag
  owns_raised : (g : Going) → Own g
      → Own (noting (keeping g (record g.file.kept { tag = g.file.kept.tag + 1; phase = Repairing }))
      (Fenced (g.file.kept.tag + 1)))
  owns_raised g h = (
    h.0,
    h.1,
    h.2,
    h.3,
    sends_on g.effects.object g.file.kept (record g.file.kept { tag = g.file.kept.tag + 1; phase = Repairing })
        g.effects.sent (λ c b. (omega (arith, b.0), λ e. inl (omega (arith, b.0)))) h.4,
  )

  ends_fenced : (kind : JobKind) (g : Going) → Own g → End (fenced kind g)
  unfolding fenced repair_begins
  ends_fenced kind g h = ends_repairs kind _ _ [] refl (owns_raised g h)

  opened : (p : Phase) → is_fence (fencing p) ≡ true
  opened Still = refl
  opened Fencing = refl
  opened Repairing = refl
  opened FencingAgain = refl

  -- its fence is open
  owns_ending : (format : ℕ) (g : Going) → Own g → Own (keeping g (ending g.file.kept format))
  owns_ending format g h = (
    h.0,
    h.1,
    h.2,
    h.3,
    sends_on g.effects.object g.file.kept (ending g.file.kept format) g.effects.sent
        (λ c b. (b.0, λ e. inr (opened g.file.kept.phase))) h.4,
  )

  pub ends_fence : (kind : JobKind) (format : ℕ) (g : Going) → Own g → End (fence_begins kind format g)
  unfolding fence_begins
  ends_fence kind format g h =
      let k : Going = keeping g (ending g.file.kept format) in
      let own : Own k = owns_ending format g h in
      ends_rests_or _ k _ _ _ own tt (all_mine k _ _ own (λ e. opened g.file.kept.phase)) (λ e. absurd (cc e))
      (ends_fenced kind k own)

  ends_fetched : (kind : JobKind) (g : Going) (ps : List Piece) (short : List ℕ) (heard : List Heard)
      → fence_open g.file.kept ≡ false → Own g → End (fetched kind g ps short heard)
  ends_fetched kind g [] short heard closed h = ends_repairs kind g [] short closed h
  ends_fetched kind g (p ∷ ps) short heard closed h = ends_storing kind g p ps short heard closed h

  ends_written : (kind : JobKind) (g : Going) (ps : List Piece) (short : List ℕ) (broken : Bool)
      → fence_open g.file.kept ≡ false → Own g → End (written kind g ps short broken)
  ends_written kind g [] short broken closed h = ends_repairs kind g [] short closed h
  ends_written kind g (p ∷ ps) short broken closed h = ends_stored kind g p ps short broken closed h

  ends_gathered : (g : Going) (t : Target) (ps : List Piece) (heard : List Heard) → Own g → Aim g (Some t)
      → End (gathered g t ps heard)
  ends_gathered g t [] heard h a = ends_fills g t [] h a
  ends_gathered g t (p ∷ ps) heard h a = ends_filling g t p ps _ h a

  ends_filled : (g : Going) (t : Target) (ps : List Piece) → Own g → Aim g (Some t) → End (filled_in g t ps)
  ends_filled g t [] h a = ends_fills g t [] h a
  ends_filled g t (p ∷ ps) h a = ends_fills g t ps h a

  ends_checked : (g : Going) (ps : List Piece) (t : Tally) (heard : List Heard) → Own g → End (audited_on g ps t heard)
  ends_checked g [] t heard h = ends_audits g [] t h
  ends_checked g (p ∷ ps) t heard h = ends_audits g ps _ h

  ends_on : (kind : JobKind) (work : Work) (heard : List Heard) (g : Going) → Own g → Aim g (target_in work)
      → IsClosed g.file.kept work → End (goes_on kind work heard g)
  unfolding goes_on
  ends_on kind Creates heard g h a c = ended (keeping g (record g.file.kept { ready = true })) h
  ends_on kind Fences heard g h a c = ends_fenced kind g h
  ends_on kind (Fetches ps short) heard g h a c = ends_fetched kind g ps short heard (c refl) h
  ends_on kind (Stores ps short broken) heard g h a c = ends_written kind g ps short broken (c refl) h
  ends_on kind (Targets t) heard g h a c = ends_fills g t _ h a
  ends_on kind (Gathers t ps) heard g h a c = ends_gathered g t ps heard h a
  ends_on kind (Fills t ps) heard g h a c = ends_filled g t ps h a
  ends_on kind Lengths heard g h a c = ends_audits g _ _ h
  ends_on kind (Checks ps t) heard g h a c = ends_checked g ps t heard h

  ends_waits : (g : Going) (j : Job) (work : Work) (rest : List Awaited) (heard : List Heard) → Own g
      → Aim g (target_in work) → Mine g rest → IsClosed g.file.kept work → End (waits_or_on g j work rest heard)
  ends_waits g j work [] heard h a mine closed = ends_on j.kind work heard g h a closed
  ends_waits g j work (c ∷ cs) heard h a mine closed = (h, a, mine, closed)

  -- ---- a component is lost meanwhile

  ends_refills : (g : Going) (t : Target) (ps : List Piece) (gone : Bool) → Own g → Aim g (Some t)
      → End (refills g t ps gone)
  ends_refills g t ps true h a = ends_gone g t h
  ends_refills g t ps false h a = ends_fills g t ps h a

  ends_remakes : (g : Going) (t : Target) (gone : Bool) → End g → End (remakes g t gone)
  ends_remakes g t true h = ends_gone g t h.0
  ends_remakes g t false h = h

  ends_loses : (g : Going) (j : Job) (work : Work) (rest : List Awaited) (gone : Bool) → End g
      → Aim g (target_in work) → Mine g rest → IsClosed g.file.kept work → End (loses g j work rest gone)
  unfolding loses
  ends_loses g j (Fetches ps short) rest gone h a m c = ends_repairs j.kind g ps short (c refl) h.0
  ends_loses g j (Stores ps short broken) rest gone h a m c =
      ends_waits g j (Stores ps short true) rest j.heard h.0 tt m (λ e. c refl)
  ends_loses g j (Targets t) rest gone h a m c = ends_remakes g t gone h
  ends_loses g j (Gathers t ps) rest gone h a m c = ends_refills g t ps gone h.0 a
  ends_loses g j (Fills t ps) rest gone h a m c = ends_refills g t ps gone h.0 a
  ends_loses g j (Checks ps t) rest gone h a m c = ends_audits g ps t h.0
  ends_loses g j work rest gone h a m c = ends_waits g j work rest j.heard h.0 a m c

  -- ---- components that are lost

  aim_same : (m : ℕ) (cs ds : List Component) (o : Option Target) → objects_of ds ≡ objects_of cs → IsAim P m cs o
      → IsAim P m ds o
  aim_same m cs ds None e a = tt
  aim_same m cs ds (Some t) e a = (a.0, subst (NoneIs t.object) (sym e) a.1)

  pub owns_same : (g : Going) (ds : List Component) → objects_of ds ≡ objects_of g.file.kept.components → Own g
      → Own (with_components g ds)
  owns_same g ds e h = (h.0, h.1, λ o i. h.2 o (subst (In o) e i), subst AllDiffer (sym e) h.3, h.4)

  pub ends_same : (g : Going) (ds : List Component) → objects_of ds ≡ objects_of g.file.kept.components → End g
      → End (with_components g ds)
  ends_same g ds e h =
      (owns_same g ds e h.0, aim_same g.effects.object g.file.kept.components ds (target_of g.file.job) e h.1, h.2, h.3)

  -- ---- a reply

  aim_of : (g : Going) (j : Job) → g.file.job ≡ Some j → End g → Aim g (target_in j.work)
  aim_of g j is h = subst (λ (o : Option Job). Aim g (target_of o)) is h.1

  mine_of : (g : Going) (j : Job) → g.file.job ≡ Some j → End g → Mine g j.awaited
  mine_of g j is h = subst (λ (o : Option Job). Mine g (awaited_by o)) is h.2

  closed_of : (g : Going) (j : Job) → g.file.job ≡ Some j → End g → IsClosed g.file.kept j.work
  closed_of g j is h = subst (λ (o : Option Job). AreClosed g.file.kept o) is h.3

  left_mine : (g : Going) (p : Awaited → Bool) (ws : List Awaited) → Mine g ws → Mine g (filter p ws)
  left_mine g p ws mine a i = mine a (in_filtered p a ws i).0

  ends_lost : (g : Going) (j : Job) (a : Awaited) (work : Work) → End g → target_in work ≡ None → Mine g j.awaited
      → IsClosed g.file.kept work
      → End (loses (noting (with_components g (lose_from (a.component ∷ []) g.file.kept.components 0))
      (NoSpace a.component)) j work (others j.awaited a.command.nonce) false)
  ends_lost g j a work h none mine closed =
      let cs : List Component = lose_from (a.component ∷ []) g.file.kept.components 0 in
      let e = ends_same g cs (objects_from (a.component ∷ []) g.file.kept.components 0) h in
      ends_loses (noting (with_components g cs) (NoSpace a.component)) j work _ false e
      (subst (IsAim P g.effects.object cs) (sym none) tt) (left_mine g _ j.awaited mine) closed

  ends_fills_up : (g : Going) (j : Job) (a : Awaited) (work : Work) → End g → Aim g (target_in work)
      → Mine g j.awaited → IsClosed g.file.kept work → End (fills_up g j a work)
  ends_fills_up g j a (Targets t) h x m c = ends_full g t h.0
  ends_fills_up g j a (Gathers t ps) h x m c = ends_full g t h.0
  ends_fills_up g j a (Fills t ps) h x m c = ends_full g t h.0
  ends_fills_up g j a Creates h x m c = ends_lost g j a Creates h refl m c
  ends_fills_up g j a Fences h x m c = ends_lost g j a Fences h refl m c
  ends_fills_up g j a (Fetches ps short) h x m c = ends_lost g j a (Fetches ps short) h refl m c
  ends_fills_up g j a (Stores ps short broken) h x m c = ends_lost g j a (Stores ps short broken) h refl m c
  ends_fills_up g j a Lengths h x m c = ends_lost g j a Lengths h refl m c
  ends_fills_up g j a (Checks ps t) h x m c = ends_lost g j a (Checks ps t) h refl m c

  renewed_mine : (m : ℕ) (k : Kept) (a b c : Awaited) → IsMine P m k b → IsMine P m k c → IsMine P m k (renewed a b c)
  renewed_mine m k a b c x y = either (c.command.nonce == a.command.nonce)
    where
      either : (t : Bool) → IsMine P m k (if t then b else c)
      either true = x
      either false = y

  -- the command goes again, in format 2
  ends_renews : (g : Going) (j : Job) (a : Awaited) → g.file.job ≡ Some j → In a j.awaited → End g → End (renews g j a)
  ends_renews g j a is i h =
      let b : Awaited = again_in_2 a g.effects.nonce in
      let x : IsMine P g.effects.object g.file.kept b = mine_of g j is h a i in (
        (
          h.0.0,
          h.0.1,
          h.0.2,
          h.0.3,
          sends_more g.effects.object g.file.kept g.effects.sent (b ∷ []) h.0.4 (one_mine P g.effects.object g.file.kept b x),
        ),
        aim_of g j is h,
        λ c l.
            let r = in_mapped (renewed a b) c j.awaited l in
            subst (IsMine P g.effects.object g.file.kept) (sym r.2)
            (renewed_mine g.effects.object g.file.kept a b r.0 x (mine_of g j is h r.0 r.1)),
        closed_of g j is h,
      )

  pub ends_hears : (g : Going) (j : Job) (a : Awaited) (r : Reply) (x : Hearing) → g.file.job ≡ Some j
      → In a j.awaited → End g → End (hears g j a r x)
  ends_hears g j a r Older is i h = ends_renews g j a is i h
  ends_hears g j a r Full is i h =
      ends_fills_up g j a j.work h (aim_of g j is h) (mine_of g j is h) (closed_of g j is h)
  ends_hears g j a r Done is i h =
      ends_waits g j j.work _ _ h.0 (aim_of g j is h) (left_mine g _ j.awaited (mine_of g j is h)) (closed_of g j is h)
  ends_hears g j a r Nothing is i h = h

  -- ---- a declaration, and an opening

  ends_declared : (g : Going) (drive : ℕ) (o : Option Job) → g.file.job ≡ o → End g
      → End (declared_in (with_components g (lose_on drive g.file.kept.components)) drive o)
  ends_declared g drive None is h =
      ends_same g (lose_on drive g.file.kept.components) (objects_on drive g.file.kept.components) h
  ends_declared g drive (Some j) is h =
      let e = ends_same g (lose_on drive g.file.kept.components) (objects_on drive g.file.kept.components) h in
      ends_loses (with_components g (lose_on drive g.file.kept.components)) j j.work _ _ e
      (aim_of (with_components g (lose_on drive g.file.kept.components)) j is e)
      (left_mine g _ j.awaited (mine_of g j is h)) (closed_of g j is h)

  either_going : (b : Bool) (x y : Going) → End x → End y → End (if b then x else y)
  either_going true x y p q = p
  either_going false x y p q = q

  pub ends_declares : (g : Going) (drive : ℕ) → End g → End (declares g drive)
  unfolding declares
  ends_declares g drive h =
      either_going (any_on drive g.file.kept.components || targets g.file.job drive) _ _
      (ends_declared g drive g.file.job refl h) h

  ends_opened : (g : Going) (ready : Bool) → Own g → End (opens_made g ready)
  ends_opened g true h = ended g h
  ends_opened g false h = ends_making g h

  ends_unsettled : (format : ℕ) (g : Going) → End g → End (opens_fenced format g)
  unfolding opens_fenced
  ends_unsettled format g h =
      either_going (g.file.kept.tag == GREATEST_TAG) (opens_spent g) _ h (ends_fence Revoking format g h.0)

  pub ends_opens : (format : ℕ) (g : Going) → End g → End (opens format g)
  unfolding opens
  ends_opens format g h =
      either_going (is_unsettled g.file.kept) _ _ (ends_unsettled format g h) (ends_opened g g.file.kept.ready h.0)
