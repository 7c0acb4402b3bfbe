-- What a job sends for its file, function by function: no tag is earlier than its object, and each CREATE is at the
-- file's present tag.
use Rattle.std.proofs.Common.{◌≡◌, ◌==◌, ◌||◌, ℕ, ◌+◌, ◌≤◌, ◌++◌, nat_lt, Bool, true, false, List, [], ◌∷◌, filter, replicate, slice_set, Option, Some, None, refl, sym, subst, arith, inl, inr, if◌then◌else◌}
use Rattle.std.proofs.lemmas.Bool.{cases_Bool}
use Rattle.server_rules.specs.declared.limits.TheConstants.{GREATEST_TAG}
use Rattle.server_rules.specs.Columns.{end_of}
use Rattle.server_rules.specs.Laws.{In}
use Rattle.server_rules.specs.Going.{Going, over, noting, noting_if, keeping, with_components, rests, rests_or, waits_on}
use Rattle.server_rules.specs.Standing.{any_on, lose_on, lose_from}
use Rattle.server_rules.specs.Audit.{audits, audit_begins}
use Rattle.server_rules.specs.Rebuild.{target_for, makes, makes_or, rebuilds, stands_at, sources, to_fill, fills, filling, target_gone, target_full}
use Rattle.server_rules.specs.Repair.{after_repair, mended, repairs, storing, stored, repair_begins}
use Rattle.server_rules.specs.Replies.{renewed, renews, fills_up, hears, Hearing, Older, Full, Done, Nothing, others}
use Rattle.server_rules.specs.Jobs.{making, ending, fenced, fence_begins, fetched, written, gathered, filled_in, audited_on, goes_on, waits_or_on, refills, remakes, loses, declared_in, targets, declares}
use Rattle.server_rules.specs.Commands.{Ask, Creating, Which, sent_to, to_all, again_in_2}
use Rattle.server_rules.specs.Messages.{awaited_by}
use Rattle.server_rules.specs.Openings.{is_unsettled, opens_made, opens_spent, opens_fenced, opens}
use Rattle.server_rules.proofs.Members.{in_either, in_mapped, in_filtered}
use Rattle.history_law.specs.Names.{Repairing, Fenced, Component, Awaited, Heard, Piece, Target, Job, JobKind, Making, Revoking, Rebuilding, Auditing, Work, Creates, Fences, Fetches, Stores, Targets, Gathers, Fills, Lengths, Checks, Tally, Rebuilt, NoDrive, NoSpace, Reply}
use Rattle.component_law.specs.Objects.{objects_of, target_in, target_of}
use Rattle.component_law.proofs.Walking.{target_is}
use Rattle.component_law.proofs.SentNumbers.{in_set, objects_set, objects_from, objects_on}
use Rattle.component_law.proofs.BirthSent.{IsBorn, IsAsked, AllAsked, AllNew, is_creating, one_asked, asked_for, each_asked, stores_asked, repair_asked, sources_asked}
use Rattle.component_law.proofs.BirthEnds.{IsAim, born_later, AllSent, Owns, Holds, Ends, holds_on}
use Rattle.component_law.proofs.ObjectSteps.{with_owner, owner_below, owner_from}

module _ (birth : ℕ → ℕ) (n : ℕ) (before : List Awaited) where
  abbrev Own : Going → Type 0
  Own g = Owns birth n before g

  abbrev Hold : Going → Type 0
  Hold g = Holds birth n before g

  abbrev End : Going → Type 0
  End g = Ends birth n before g

  abbrev Aim : Going → Option Target → Type 0
  Aim g o = IsAim birth g.effects.object g.file.kept.first_tag g.file.kept.tag o

  abbrev Asked : Going → List Awaited → Type 0
  Asked g ws = AllAsked birth g.effects.object g.file.kept.tag ws

  same : (g : Going) → Hold g → End g
  same g h = holds_on birth n before g h

  -- no job runs any more
  ended : (g : Going) → Own g → End (over g)
  ended g h = same (over g) (h, tt, λ a i. absurd i)

  -- some are sent
  sent_more : (later : ℕ → ℕ) (m t : ℕ) (sent ws : List Awaited) → AllSent later m before sent → AllAsked later m t ws
      → AllSent later m before (sent ++ ws)
  sent_more later m t sent ws h asked a i = elim (in_either a sent ws i) [
    | inl j ↦ h a j
    | inr j ↦ inr (asked a j).0
  ]

  -- ---- the job rests, or goes on

  ends_rests : (g : Going) (kind : JobKind) (work : Work) (c : Awaited) (cs : List Awaited) → Own g
      → Aim g (target_in work) → Asked g (c ∷ cs) → End (rests g kind work c cs)
  ends_rests g kind work c cs h a asked =
      same (rests g kind work c cs) (
        (h.0, h.1, sent_more birth g.effects.object g.file.kept.tag g.effects.sent (c ∷ cs) h.2 asked, h.3, h.4),
        a,
        asked,
      )

  ends_rests_or : (cs : List Awaited) (g : Going) (kind : JobKind) (work : Work) (later : Going) → Own g
      → Aim g (target_in work) → Asked g cs → End later → End (rests_or cs g kind work later)
  ends_rests_or [] g kind work later h a asked l = l
  ends_rests_or (c ∷ cs) g kind work later h a asked l = ends_rests g kind work c cs h a asked

  -- of the file's components
  all_asked : (g : Going) (which : Which) (ask : Ask) → Own g
      → (is_creating ask ≡ true → AllNew birth g.file.kept.tag g.file.kept.components)
      → Asked g (to_all g.file.kept which ask g.effects.nonce)
  all_asked g which ask h r =
      each_asked birth g.effects.object g.file.kept which ask g.file.kept.components 0 g.effects.nonce h.1 r

  -- ---- audit

  ends_audits : (g : Going) (ps : List Piece) (t : Tally) → Own g → End (audits g ps t)
  unfolding audits
  ends_audits g [] t h = ended g h
  ends_audits g (p ∷ ps) t h =
      ends_rests_or _ g _ _ _ h tt (all_asked g _ _ h (λ e. absurd (cc e))) (ends_audits g ps _ h)

  ends_audit : (g : Going) → Own g → End (audit_begins g)
  unfolding audit_begins
  ends_audit g h = ends_rests_or _ g _ _ _ h tt (all_asked g _ _ h (λ e. absurd (cc e))) (ends_audits g _ _ h)

  -- ---- rebuild

  -- its number is given at the file's present tag, which no longer rises in the step
  ends_makes : (g : Going) (t : Target) → t.object ≡ n → Own g → End (makes g t)
  ends_makes g t e h =
      let tag : ℕ = g.file.kept.tag in
      let later = with_owner birth n tag in
      let new : later t.object ≡ tag = owner_from birth n tag t.object (omega (arith, e)) in
      let born : IsBorn later (t.object + 1) t.object tag = (omega arith, omega (arith, new)) in
      let asked : AllAsked later (t.object + 1) tag
      (sent_to g.file.kept Creating t.component t.drive t.object g.effects.nonce ∷ []) =
      one_asked later (t.object + 1) tag _
      (asked_for later (t.object + 1) g.file.kept Creating t.component t.drive t.object g.effects.nonce born
      (λ x. omega (arith, new))) in (
        later,
        λ o less. owner_below birth n tag o less,
        omega (arith, e),
        (
          λ o i. on o tag (h.1 o i),
          (born, omega (arith, new, h.4)),
          asked,
          λ o i. since o i,
          h.4,
        ),
        sent_more later (t.object + 1) tag g.effects.sent _
            (λ a i. elim (h.2 a i) [
              | inl old ↦ inl old
              | inr x ↦ inr (on a.command.object a.command.capability.tag x)
            ]) asked,
      )
    where
      since : AllNew (with_owner birth n g.file.kept.tag) g.file.kept.first_tag g.file.kept.components
      since o i =
          let new : g.file.kept.first_tag ≤ birth o = h.3 o i in
          omega (arith, new, owner_below birth n g.file.kept.tag o (omega (arith, (h.1 o i).0, h.0)))

      on : (o tag : ℕ) → IsBorn birth g.effects.object o tag
          → IsBorn (with_owner birth n g.file.kept.tag) (t.object + 1) o tag
      on o tag x =
          born_later birth (with_owner birth n g.file.kept.tag) g.effects.object (t.object + 1) o tag
          (λ q less. owner_below birth n g.file.kept.tag q (omega (arith, less, h.0))) (omega (arith, e, h.0)) x

  ends_makes_or : (g : Going) (at : Component) (k : ℕ) (o : Option Target) (later : Going) → target_for g at k ≡ o
      → Own g → End later → End (makes_or g o later)
  ends_makes_or g at k None later is h l = l
  ends_makes_or g at k (Some t) later is h l = ends_makes g t (omega (arith, (target_is g at k t is).1, h.0)) h

  ends_rebuilds : (g : Going) (cs : List Component) (k : ℕ) → Own g → End (rebuilds g cs k)
  unfolding rebuilds
  ends_rebuilds g [] k h = ended g h
  ends_rebuilds g (at ∷ cs) k h =
      ends_makes_or g at k (target_for g at k) _ refl h
      (ends_rebuilds (noting_if at.missing g (NoDrive k)) cs (k + 1) h)

  -- the component stands on its new drive
  owns_rebuilt : (g : Going) (t : Target) → Own g → Aim g (Some t)
      → Own (with_components g (slice_set g.file.kept.components t.component (stands_at t)))
  owns_rebuilt g t h a =
      let is = objects_set g.file.kept.components t.component (stands_at t) in (
        h.0,
        λ o i. elim (in_set (objects_of g.file.kept.components) t.component t.object o (subst (In o) is i)) [
          | inl e ↦ subst (λ (x : ℕ). IsBorn birth g.effects.object x g.file.kept.tag) (sym e) a.0
          | inr j ↦ h.1 o j
        ],
        h.2,
        λ o i. elim (in_set (objects_of g.file.kept.components) t.component t.object o (subst (In o) is i)) [
          | inl e ↦ subst (λ (x : ℕ). g.file.kept.first_tag ≤ birth x) (sym e) a.1
          | inr j ↦ h.3 o j
        ],
        h.4,
      )

  from : (g : Going) (t : Target) (p : Piece) → Own g → Asked g (sources g.file.kept t p g.effects.nonce)
  unfolding sources
  from g t p h = sources_asked birth g.effects.object g.file.kept t p g.effects.nonce _ h.1

  ends_fills : (g : Going) (t : Target) (ps : List Piece) → Own g → Aim g (Some t) → End (fills g t ps)
  unfolding fills
  ends_fills g t [] h a =
      ends_rebuilds
      (noting (with_components g (slice_set g.file.kept.components t.component (stands_at t)))
      (Rebuilt t.component t.drive)) _ _ (owns_rebuilt g t h a)
  ends_fills g t (p ∷ ps) h a = ends_rests_or _ g _ _ _ h a (from g t p h) (ends_rebuilds (noting g _) _ _ h)

  -- the WRITE to the target
  filled : (g : Going) (t : Target) (p : Piece) (ps : List Piece) (bytes : List ℕ) → Own g → Aim g (Some t)
      → End (rests g Rebuilding (Fills t (p ∷ ps)) (to_fill g.file.kept t p bytes g.effects.nonce) [])
  filled g t p ps bytes h a =
      ends_rests g Rebuilding (Fills t (p ∷ ps)) (to_fill g.file.kept t p bytes g.effects.nonce) [] h a
      (one_asked birth g.effects.object g.file.kept.tag _ (a.0, λ x. absurd (cc x)))

  ends_filling : (g : Going) (t : Target) (p : Piece) (ps : List Piece) (bytes : List ℕ) → Own g → Aim g (Some t)
      → End (filling g t p ps bytes)
  unfolding filling
  ends_filling g t p ps bytes h a = elim (cases_Bool (nat_lt 0 (end_of bytes (replicate p.count 0)))) [
    | inl e ↦ rw e (filled g t p ps bytes h a)
    | inr e ↦ rw e (ends_fills g t ps h a)
  ]

  ends_gone : (g : Going) (t : Target) → Own g → End (target_gone g t)
  ends_gone g t h = ends_rebuilds (noting g (NoDrive t.component)) _ _ h

  ends_full : (g : Going) (t : Target) → Own g → End (target_full g t)
  ends_full g t h = ends_rebuilds (noting g (NoSpace t.component)) _ _ h

  -- ---- repair

  ends_after : (kind : JobKind) (g : Going) → Own g → End (after_repair kind g)
  ends_after Making g h = ended g h
  ends_after Revoking g h = ended g h
  ends_after Rebuilding g h = ends_rebuilds g g.file.kept.components 0 h
  ends_after Auditing g h = ends_audit g h

  ends_repairs : (kind : JobKind) (g : Going) (ps : List Piece) (short : List ℕ) → Own g → End (repairs kind g ps short)
  unfolding repairs
  ends_repairs kind g [] short h = ends_after kind (mended g short) h
  ends_repairs kind g (p ∷ ps) short h =
      ends_rests_or _ g _ _ _ h tt (repair_asked birth g.effects.object g.file.kept p g.effects.nonce h.1)
      (ends_repairs kind g ps _ h)

  ends_storing : (kind : JobKind) (g : Going) (p : Piece) (ps : List Piece) (short : List ℕ) (heard : List Heard)
      → Own g → End (storing kind g p ps short heard)
  unfolding storing
  ends_storing kind g p ps short heard h =
      ends_rests_or _ g _ _ _ h tt
      (stores_asked birth g.effects.object g.file.kept p _ heard g.file.kept.components 0 _ h.1)
      (ends_repairs kind g ps short h)

  ends_stored : (kind : JobKind) (g : Going) (p : Piece) (ps : List Piece) (short : List ℕ) (broken : Bool) → Own g
      → End (stored kind g p ps short broken)
  ends_stored kind g p ps short true h = ends_repairs kind g (p ∷ ps) short h
  ends_stored kind g p ps short false h = ends_repairs kind g ps short h

  -- ---- the fence and the job

  pub ends_making : (g : Going) → Own g → AllNew birth g.file.kept.tag g.file.kept.components → End (making g)
  unfolding making
  ends_making g h new =
      ends_rests_or _ g _ _ _ h tt (all_asked g _ _ h (λ e. new))
      (ended (keeping g (record g.file.kept { ready = true })) h)

  -- the file has its next tag
  owns_raised : (g : Going) → Own g
      → Own (noting (keeping g (record g.file.kept { tag = g.file.kept.tag + 1; phase = Repairing }))
      (Fenced (g.file.kept.tag + 1)))
  owns_raised g h = (h.0, λ o i. let r = h.1 o i in (r.0, omega (arith, r.1)), h.2, h.3, omega (arith, h.4))

  ends_fenced : (kind : JobKind) (g : Going) → Own g → End (fenced kind g)
  unfolding fenced repair_begins
  ends_fenced kind g h = ends_repairs kind _ _ [] (owns_raised g h)

  pub ends_fence : (kind : JobKind) (format : ℕ) (g : Going) → Own g → End (fence_begins kind format g)
  unfolding fence_begins
  ends_fence kind format g h =
      let k : Going = keeping g (ending g.file.kept format) in
      ends_rests_or _ k _ _ _ h tt (all_asked k _ _ h (λ e. absurd (cc e))) (ends_fenced kind k h)

  ends_fetched : (kind : JobKind) (g : Going) (ps : List Piece) (short : List ℕ) (heard : List Heard) → Own g
      → End (fetched kind g ps short heard)
  ends_fetched kind g [] short heard h = ends_repairs kind g [] short h
  ends_fetched kind g (p ∷ ps) short heard h = ends_storing kind g p ps short heard h

  ends_written : (kind : JobKind) (g : Going) (ps : List Piece) (short : List ℕ) (broken : Bool) → Own g
      → End (written kind g ps short broken)
  ends_written kind g [] short broken h = ends_repairs kind g [] short h
  ends_written kind g (p ∷ ps) short broken h = ends_stored kind g p ps short broken h

  ends_gathered : (g : Going) (t : Target) (ps : List Piece) (heard : List Heard) → Own g → Aim g (Some t)
      → End (gathered g t ps heard)
  ends_gathered g t [] heard h a = ends_fills g t [] h a
  ends_gathered g t (p ∷ ps) heard h a = ends_filling g t p ps _ h a

  ends_filled : (g : Going) (t : Target) (ps : List Piece) → Own g → Aim g (Some t) → End (filled_in g t ps)
  ends_filled g t [] h a = ends_fills g t [] h a
  ends_filled g t (p ∷ ps) h a = ends_fills g t ps h a

  ends_checked : (g : Going) (ps : List Piece) (t : Tally) (heard : List Heard) → Own g → End (audited_on g ps t heard)
  ends_checked g [] t heard h = ends_audits g [] t h
  ends_checked g (p ∷ ps) t heard h = ends_audits g ps _ h

  ends_on : (kind : JobKind) (work : Work) (heard : List Heard) (g : Going) → Own g → Aim g (target_in work)
      → End (goes_on kind work heard g)
  unfolding goes_on
  ends_on kind Creates heard g h a = ended (keeping g (record g.file.kept { ready = true })) h
  ends_on kind Fences heard g h a = ends_fenced kind g h
  ends_on kind (Fetches ps short) heard g h a = ends_fetched kind g ps short heard h
  ends_on kind (Stores ps short broken) heard g h a = ends_written kind g ps short broken h
  ends_on kind (Targets t) heard g h a = ends_fills g t _ h a
  ends_on kind (Gathers t ps) heard g h a = ends_gathered g t ps heard h a
  ends_on kind (Fills t ps) heard g h a = ends_filled g t ps h a
  ends_on kind Lengths heard g h a = ends_audits g _ _ h
  ends_on kind (Checks ps t) heard g h a = ends_checked g ps t heard h

  ends_waits : (g : Going) (j : Job) (work : Work) (rest : List Awaited) (heard : List Heard) → Own g
      → Aim g (target_in work) → Asked g rest → End (waits_or_on g j work rest heard)
  ends_waits g j work [] heard h a asked = ends_on j.kind work heard g h a
  ends_waits g j work (c ∷ cs) heard h a asked = same (waits_on g j work c cs heard) (h, a, asked)

  -- ---- a component is lost meanwhile

  ends_refills : (g : Going) (t : Target) (ps : List Piece) (gone : Bool) → Own g → Aim g (Some t)
      → End (refills g t ps gone)
  ends_refills g t ps true h a = ends_gone g t h
  ends_refills g t ps false h a = ends_fills g t ps h a

  ends_remakes : (g : Going) (t : Target) (gone : Bool) → Hold g → End (remakes g t gone)
  ends_remakes g t true h = ends_gone g t h.0
  ends_remakes g t false h = same g h

  ends_loses : (g : Going) (j : Job) (work : Work) (rest : List Awaited) (gone : Bool) → Hold g
      → Aim g (target_in work) → Asked g rest → End (loses g j work rest gone)
  unfolding loses
  ends_loses g j (Fetches ps short) rest gone h a w = ends_repairs j.kind g ps short h.0
  ends_loses g j (Stores ps short broken) rest gone h a w =
      ends_waits g j (Stores ps short true) rest j.heard h.0 tt w
  ends_loses g j (Targets t) rest gone h a w = ends_remakes g t gone h
  ends_loses g j (Gathers t ps) rest gone h a w = ends_refills g t ps gone h.0 a
  ends_loses g j (Fills t ps) rest gone h a w = ends_refills g t ps gone h.0 a
  ends_loses g j (Checks ps t) rest gone h a w = ends_audits g ps t h.0
  ends_loses g j work rest gone h a w = ends_waits g j work rest j.heard h.0 a w

  -- ---- components that are lost

  pub holds_same : (g : Going) (ds : List Component) → objects_of ds ≡ objects_of g.file.kept.components → Hold g
      → Hold (with_components g ds)
  holds_same g ds e h = (
    (h.0.0, λ o i. h.0.1 o (subst (In o) e i), h.0.2, λ o i. h.0.3 o (subst (In o) e i), h.0.4),
    h.1,
    h.2,
  )

  -- ---- a reply

  aim_of : (g : Going) (j : Job) → g.file.job ≡ Some j → Hold g → Aim g (target_in j.work)
  aim_of g j is h = subst (λ (o : Option Job). Aim g (target_of o)) is h.1

  asked_of : (g : Going) (j : Job) → g.file.job ≡ Some j → Hold g → Asked g j.awaited
  asked_of g j is h = subst (λ (o : Option Job). Asked g (awaited_by o)) is h.2

  left_asked : (g : Going) (p : Awaited → Bool) (ws : List Awaited) → Asked g ws → Asked g (filter p ws)
  left_asked g p ws asked a i = asked a (in_filtered p a ws i).0

  ends_lost : (g : Going) (j : Job) (a : Awaited) (work : Work) → Hold g → target_in work ≡ None → Asked g j.awaited
      → End (loses (noting (with_components g (lose_from (a.component ∷ []) g.file.kept.components 0))
      (NoSpace a.component)) j work (others j.awaited a.command.nonce) false)
  ends_lost g j a work h none asked =
      let cs : List Component = lose_from (a.component ∷ []) g.file.kept.components 0 in
      let e = holds_same g cs (objects_from (a.component ∷ []) g.file.kept.components 0) h in
      ends_loses (noting (with_components g cs) (NoSpace a.component)) j work _ false e
      (subst (IsAim birth g.effects.object g.file.kept.first_tag g.file.kept.tag) (sym none) tt) (left_asked g _ j.awaited asked)

  ends_fills_up : (g : Going) (j : Job) (a : Awaited) (work : Work) → Hold g → Aim g (target_in work)
      → Asked g j.awaited → End (fills_up g j a work)
  ends_fills_up g j a (Targets t) h x w = ends_full g t h.0
  ends_fills_up g j a (Gathers t ps) h x w = ends_full g t h.0
  ends_fills_up g j a (Fills t ps) h x w = ends_full g t h.0
  ends_fills_up g j a Creates h x w = ends_lost g j a Creates h refl w
  ends_fills_up g j a Fences h x w = ends_lost g j a Fences h refl w
  ends_fills_up g j a (Fetches ps short) h x w = ends_lost g j a (Fetches ps short) h refl w
  ends_fills_up g j a (Stores ps short broken) h x w = ends_lost g j a (Stores ps short broken) h refl w
  ends_fills_up g j a Lengths h x w = ends_lost g j a Lengths h refl w
  ends_fills_up g j a (Checks ps t) h x w = ends_lost g j a (Checks ps t) h refl w

  renewed_asked : (m t : ℕ) (a b c : Awaited) → IsAsked birth m t b → IsAsked birth m t c
      → IsAsked birth m t (renewed a b c)
  renewed_asked m t a b c x y = either (c.command.nonce == a.command.nonce)
    where
      either : (is : Bool) → IsAsked birth m t (if is then b else c)
      either true = x
      either false = y

  -- the command goes again, in format 2
  ends_renews : (g : Going) (j : Job) (a : Awaited) → g.file.job ≡ Some j → In a j.awaited → Hold g → End (renews g j a)
  ends_renews g j a is i h =
      let b : Awaited = again_in_2 a g.effects.nonce in
      let x : IsAsked birth g.effects.object g.file.kept.tag b = asked_of g j is h a i in
      same (renews g j a) (
        (
          h.0.0,
          h.0.1,
          sent_more birth g.effects.object g.file.kept.tag g.effects.sent (b ∷ []) h.0.2
              (one_asked birth g.effects.object g.file.kept.tag b x),
          h.0.3,
          h.0.4,
        ),
        aim_of g j is h,
        λ c l.
            let r = in_mapped (renewed a b) c j.awaited l in
            subst (IsAsked birth g.effects.object g.file.kept.tag) (sym r.2)
            (renewed_asked g.effects.object g.file.kept.tag a b r.0 x (asked_of g j is h r.0 r.1)),
      )

  pub ends_hears : (g : Going) (j : Job) (a : Awaited) (r : Reply) (x : Hearing) → g.file.job ≡ Some j
      → In a j.awaited → Hold g → End (hears g j a r x)
  ends_hears g j a r Older is i h = ends_renews g j a is i h
  ends_hears g j a r Full is i h = ends_fills_up g j a j.work h (aim_of g j is h) (asked_of g j is h)
  ends_hears g j a r Done is i h =
      ends_waits g j j.work _ _ h.0 (aim_of g j is h) (left_asked g _ j.awaited (asked_of g j is h))
  ends_hears g j a r Nothing is i h = same g h

  -- ---- a declaration

  ends_declared : (g : Going) (drive : ℕ) (o : Option Job) → g.file.job ≡ o → Hold g
      → End (declared_in (with_components g (lose_on drive g.file.kept.components)) drive o)
  ends_declared g drive None is h =
      same (with_components g (lose_on drive g.file.kept.components))
      (holds_same g (lose_on drive g.file.kept.components) (objects_on drive g.file.kept.components) h)
  ends_declared g drive (Some j) is h =
      ends_loses (with_components g (lose_on drive g.file.kept.components)) j j.work _ _
      (holds_same g (lose_on drive g.file.kept.components) (objects_on drive g.file.kept.components) h)
      (aim_of g j is h) (left_asked g _ j.awaited (asked_of g j is h))

  either_going : (b : Bool) (x y : Going) → End x → End y → End (if b then x else y)
  either_going true x y p q = p
  either_going false x y p q = q

  pub ends_declares : (g : Going) (drive : ℕ) → Hold g → End (declares g drive)
  unfolding declares
  ends_declares g drive h =
      either_going (any_on drive g.file.kept.components || targets g.file.job drive) _ _
      (ends_declared g drive g.file.job refl h) (same g h)

  -- ---- an opening

  ends_opened : (g : Going) (ready : Bool) → g.file.kept.ready ≡ ready
      → (g.file.kept.ready ≡ false → g.file.kept.tag ≡ g.file.kept.first_tag) → Hold g → End (opens_made g ready)
  ends_opened g true is first h = ended g h.0
  ends_opened g false is first h =
      ends_making g h.0
      (λ o i. let new : g.file.kept.first_tag ≤ birth o = h.0.3 o i in omega (arith, new, first is))

  ends_unsettled : (format : ℕ) (g : Going) → Hold g → End (opens_fenced format g)
  unfolding opens_fenced
  ends_unsettled format g h =
      either_going (g.file.kept.tag == GREATEST_TAG) _ _ (same (opens_spent g) h) (ends_fence Revoking format g h.0)

  pub ends_opens : (format : ℕ) (g : Going)
      → (g.file.kept.ready ≡ false → g.file.kept.tag ≡ g.file.kept.first_tag) → Hold g → End (opens format g)
  unfolding opens
  ends_opens format g first h =
      either_going (is_unsettled g.file.kept) _ _ (ends_unsettled format g h)
      (ends_opened g g.file.kept.ready refl first h)
