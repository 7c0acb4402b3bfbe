-- A move of the server: the components are behind it as the machine has them.
-- Towards `ComponentsGoOn` (`specs/Steps.antt`).
use Rattle.std.proofs.Common.{◌≡◌, ◌==◌, ◌||◌, ◌++◌, ℕ, ◌+◌, ◌<◌, ◌≤◌, Bool, true, false, zero, suc, List, [], ◌∷◌, length, slice_get, Option, Some, None, refl, sym, ap, subst, ◌∙◌, inl, inr, arith, if◌then◌else◌}
use Rattle.std.proofs.lemmas.Bool.{cases_Bool, eqb-true}
use Rattle.std.proofs.lemmas.Option.{slice_get_within}
use Rattle.osd_lists.proofs.Slices.{some_at}
use Rattle.osd_lists.proofs.Tests.{first_false}
use Rattle.osd_objects.specs.declared.lanes.LaneEntry.{LaneEntry}
use Rattle.osd_objects.specs.declared.object.StoredObject.{StoredObject}
use Rattle.osd_objects.specs.Store.{lane_or_none}
use Rattle.scenario_text.specs.declared.names.TheConstants.{CLIENTS}
use Rattle.server_rules.specs.History.{Input}
use Rattle.server_rules.specs.Standing.{lose_on}
use Rattle.world_history.specs.ServerNames.{File, Component, Note, NoteKind, Ready, Fenced, Repaired, Rebuilt, NoDrive, Lost, NoSpace, Audit, Busy, Spent, Reported, Outgoing}
use Rattle.world_history.specs.State.{World, at_number}
use Rattle.fence_law.specs.Words.{In as InRun}
use Rattle.fence_law.specs.State.{State}
use Rattle.fence_law.specs.State.{Event as event}
use Rattle.fence_law.specs.Machine.{after, after_all}
use Rattle.fence_law.proofs.Tags.{Tags}
use Rattle.fence_law.proofs.Words.{updated_other, updated_at}
use Rattle.file_simulation.specs.Components.{StandsAs, AreComponents, has_failed, is_lost_in, object_of}
use Rattle.file_simulation.specs.EventLists.{where_so}
use Rattle.file_simulation.specs.Events.{joined}
use Rattle.file_simulation.specs.ServerEvents as table
use Rattle.relation_law.specs.ComponentsBehind.{AreUnready, RebuiltStand}
use Rattle.relation_law.specs.ComponentsWalk.{noted_after}
use Rattle.relation_law.specs.Frames.{AreAll, ClientsStay, RepliesStay}
use Rattle.relation_law.proofs.FramesClient.{where_all}
use Rattle.relation_law.proofs.ComponentsFirst.{IssuesNone, unissued}
use Rattle.relation_law.proofs.ComponentsKept.{stands_kept}
use Rattle.relation_law.proofs.ComponentsNotes.{Leaves, Told, WasKept, AreTold}
use Rattle.relation_law.proofs.DriveStays.{IsAlike}
use Rattle.relation_law.proofs.KeptNotes.{after_both}

-- ---- where a step begins

-- behind a first line that leaves all components
pub start_told : (s t : State) (w : World) (f : File) (i : Input) → ((j : ℕ) → Leaves s t j) → AreComponents s w f →
    AreTold s t w f i f.kept []
unfolding noted_after
start_told s t w f i leaves is = record {
  number = refl;
  each = λ j at e. record {
    missing = (leaves j).missing ∙ (is j at e).missing;
    lost = (leaves j).lost ∙ (is j at e).lost;
    kept = inl (record {
      before = at;
      there = e;
      drive = refl;
      object = refl;
      tag = (leaves j).tag;
      cells = (leaves j).cells;
      lost = λ q. sym (leaves j).lost ∙ q;
    });
  };
}

-- ---- a declaration

-- what it leaves of the machine, at the components from number n on
record IsDeclared (s t : State) (d : ℕ) (cs : List Component) (n : ℕ) : Type 0 where
  lost : (i : ℕ) → t.lost i ≡ s.lost i
  tags : (i : ℕ) → t.object_tag i ≡ s.object_tag i
  cells : (i z : ℕ) → t.cell i z ≡ s.cell i z
  others : (i : ℕ) → i < n → t.missing i ≡ s.missing i
  here : (i j : ℕ) (at : Component) → j ≡ n + i → slice_get cs i ≡ Some at → (at.drive == d) ≡ true → t.missing j ≡ true
  apart : (i j : ℕ) (at : Component) → j ≡ n + i → slice_get cs i ≡ Some at → (at.drive == d) ≡ false →
      t.missing j ≡ s.missing j

same_component : (a b : Component) → Some a ≡ Some b → a ≡ b
same_component a b e = cc e

more_hit : (d : ℕ) (at : Component) (cs : List Component) (n : ℕ) (s u : State) → (at.drive == d) ≡ true →
    IsDeclared (after s (event.Declares n)) u d cs (n + 1) → IsDeclared s u d (at ∷ cs) n
more_hit d at cs n s u hit k = record {
  lost = k.lost;
  tags = k.tags;
  cells = k.cells;
  others = λ i low.
      k.others i (omega (arith, low)) ∙ updated_other s.missing n true i (λ e. absurd (omega (arith, low, e)));
  here = here;
  apart = apart;
}
  where
    here : (i j : ℕ) (y : Component) → j ≡ n + i → slice_get (at ∷ cs) i ≡ Some y → (y.drive == d) ≡ true → u.missing j ≡ true
    here zero j y e there is =
        let own : j ≡ n = omega (arith, e) in
        k.others j (omega (arith, own)) ∙ updated_at s.missing n true j own
    here (suc i) j y e there is = k.here i j y (omega (arith, e)) there is

    apart : (i j : ℕ) (y : Component) → j ≡ n + i → slice_get (at ∷ cs) i ≡ Some y → (y.drive == d) ≡ false →
        u.missing j ≡ s.missing j
    apart zero j y e there is =
        let same = same_component at y there in
        absurd (cc (sym hit ∙ ap (λ (z : Component). z.drive == d) same ∙ is))
    apart (suc i) j y e there is =
        k.apart i j y (omega (arith, e)) there is ∙ updated_other s.missing n true j (λ q. absurd (omega (arith, e, q)))

more_miss : (d : ℕ) (at : Component) (cs : List Component) (n : ℕ) (s u : State) → (at.drive == d) ≡ false →
    IsDeclared s u d cs (n + 1) → IsDeclared s u d (at ∷ cs) n
more_miss d at cs n s u miss k = record {
  lost = k.lost;
  tags = k.tags;
  cells = k.cells;
  others = λ i low. k.others i (omega (arith, low));
  here = here;
  apart = apart;
}
  where
    here : (i j : ℕ) (y : Component) → j ≡ n + i → slice_get (at ∷ cs) i ≡ Some y → (y.drive == d) ≡ true → u.missing j ≡ true
    here zero j y e there is =
        let same = same_component at y there in
        absurd (cc (sym miss ∙ ap (λ (z : Component). z.drive == d) same ∙ is))
    here (suc i) j y e there is = k.here i j y (omega (arith, e)) there is

    apart : (i j : ℕ) (y : Component) → j ≡ n + i → slice_get (at ∷ cs) i ≡ Some y → (y.drive == d) ≡ false →
        u.missing j ≡ s.missing j
    apart zero j y e there is = let own : j ≡ n = omega (arith, e) in k.others j (omega (arith, own))
    apart (suc i) j y e there is = k.apart i j y (omega (arith, e)) there is

declared : (d : ℕ) (cs : List Component) (n : ℕ) (s : State) → IsDeclared s (after_all s (table.declared_from d cs n)) d cs n
unfolding table.declared_from
declared d [] n s = record {
  lost = λ i. refl;
  tags = λ i. refl;
  cells = λ i z. refl;
  others = λ i low. refl;
  here = λ i j at is e. absurd (cc e);
  apart = λ i j at is e. absurd (cc e);
}
declared d (at ∷ cs) n s =
    either (at.drive == d) refl (declared d cs (n + 1) (after s (event.Declares n))) (declared d cs (n + 1) s)
  where
    either : (b : Bool) → (at.drive == d) ≡ b →
        IsDeclared (after s (event.Declares n)) (after_all (after s (event.Declares n)) (table.declared_from d cs (n + 1))) d cs
        (n + 1) →
        IsDeclared s (after_all s (table.declared_from d cs (n + 1))) d cs (n + 1) →
        IsDeclared s (after_all s (where_so b (event.Declares n ∷ []) ++ table.declared_from d cs (n + 1))) d (at ∷ cs) n
    either true hit first rest = more_hit d at cs n s _ hit first
    either false miss first rest = more_miss d at cs n s _ miss rest

record OnAt (d : ℕ) (cs : List Component) (j : ℕ) (to : Component) : Type 0 where
  before : Component
  there : slice_get cs j ≡ Some before
  hit : (before.drive == d) ≡ true → to ≡ record before { missing = true }
  spared : (before.drive == d) ≡ false → to ≡ before

on_at : (d : ℕ) (cs : List Component) (j : ℕ) (to : Component) → slice_get (lose_on d cs) j ≡ Some to → OnAt d cs j to
unfolding lose_on
on_at d [] j to e = absurd (cc e)
on_at d (at ∷ cs) zero to e = record {
  before = at;
  there = refl;
  hit = λ is. let it : Some (record at { missing = true }) ≡ Some to = rw is at e in sym (cc it);
  spared = λ is. let it : Some at ≡ Some to = rw is at e in sym (cc it);
}
on_at d (at ∷ cs) (suc j) to e =
    let r = on_at d cs j to e in record { before = r.before; there = r.there; hit = r.hit; spared = r.spared }

-- behind a declaration of a drive that has failed its components are missing
pub declared_told : (s : State) (w : World) (f : File) (i : Input) (d : ℕ) → has_failed (at_number w.drives d) ≡ true →
    AreComponents s w f →
    AreTold s (after_all s (table.declared_from d f.kept.components 0)) w f i
    (record f.kept { components = lose_on d f.kept.components }) []
unfolding noted_after
declared_told s w f i d failed is = record {
  number = refl;
  each = λ j to e.
      let r = on_at d f.kept.components j to e in
      let c = is j r.before r.there in
      let k = declared d f.kept.components 0 s in
      let place : j ≡ 0 + j = omega arith in
      elim (cases_Bool (r.before.drive == d)) [
        | inl hit ↦
            let gone : to ≡ record r.before { missing = true } = r.hit hit in
            let drive : r.before.drive ≡ d = eqb-true_at r.before.drive d hit in
            let was : s.lost j ≡ true =
            c.lost ∙ ap (λ (b : Bool). r.before.missing || b) (ap (λ n. has_failed (at_number w.drives n)) drive ∙ failed)
            ∙ or_true r.before.missing in
            record {
              missing = k.here j j r.before place r.there hit ∙ sym (ap (λ (y : Component). y.missing) gone);
              lost = k.lost j ∙ was ∙ sym (ap (λ (y : Component). is_lost_in w y) gone);
              kept = inl (record {
                before = r.before;
                there = r.there;
                drive = ap (λ (y : Component). y.drive) gone;
                object = ap (λ (y : Component). y.object) gone;
                tag = k.tags j;
                cells = k.cells j;
                lost = λ q. sym (k.lost j) ∙ q;
              });
            }
        | inr miss ↦
            let same : to ≡ r.before = r.spared miss in
            record {
              missing = k.apart j j r.before place r.there miss ∙ c.missing ∙ sym (ap (λ (y : Component). y.missing) same);
              lost = k.lost j ∙ c.lost ∙ sym (ap (λ (y : Component). is_lost_in w y) same);
              kept = inl (record {
                before = r.before;
                there = r.there;
                drive = ap (λ (y : Component). y.drive) same;
                object = ap (λ (y : Component). y.object) same;
                tag = k.tags j;
                cells = k.cells j;
                lost = λ q. sym (k.lost j) ∙ q;
              });
            }
      ];
}
  where
    or_true : (b : Bool) → (b || true) ≡ true
    or_true true = refl
    or_true false = refl

    eqb-true_at : (a b : ℕ) → (a == b) ≡ true → a ≡ b
    eqb-true_at a b e = eqb-true a b e

-- ---- where it ends

-- the machine behind notes and messages
pub notes_state : (t : State) (w : World) (f g : File) (i : Input) (os : List Outgoing) (ns : List Note) →
    after_all t (joined (table.notes_all t w f g i os ns))
    ≡ after_all (noted_after t w f i ns) (joined (table.sends_all (noted_after t w f i ns) w.server g i os))
unfolding table.notes_all noted_after
notes_state t w f g i os [] = refl
notes_state t w f g i os (n ∷ ns) =
    after_both t (table.noted t w f i n) (joined (table.notes_all (after_all t (table.noted t w f i n)) w f g i os ns))
    ∙ notes_state (after_all t (table.noted t w f i n)) w f g i os ns

-- notes issue no grant
here_issues : (t : State) (w : World) (f : File) (i : Input) (kind : NoteKind) →
    AreAll IssuesNone (table.noted_here t w f i kind)
here_issues t w f i Ready = tt
here_issues t w f i (Fenced tag) = fence t.repairing
  where
    fence : (b : Bool) → AreAll IssuesNone ((if b then event.Refenced else event.Fenced) ∷ [])
    fence true = (tt, tt)
    fence false = (tt, tt)
here_issues t w f i (Repaired stripes short) = (tt, tt)
here_issues t w f i (Rebuilt k d) = (tt, where_all IssuesNone (has_failed (at_number w.drives d)) _ (tt, tt))
here_issues t w f i (NoDrive k) = tt
here_issues t w f i (Lost a b) = tt
here_issues t w f i (NoSpace k) = lacks (t.missing k) (t.lost k)
  where
    lacks : (m l : Bool) → AreAll IssuesNone (table.lacks_space m l k)
    lacks true l = tt
    lacks false true = (tt, tt)
    lacks false false = (tt, tt)
here_issues t w f i (Audit a b c d) = tt
here_issues t w f i (Busy k) = tt
here_issues t w f i Spent = tt
here_issues t w f i (Reported k) = loses (table.asker i)
  where
    loses : (o : Option ℕ) → AreAll IssuesNone (table.reported k o)
    loses None = tt
    loses (Some c) = (tt, tt)

pub notes_unissued : (t : State) (w : World) (f : File) (i : Input) (ns : List Note) → t.granted_since ≡ false →
    (noted_after t w f i ns).granted_since ≡ false
unfolding noted_after
notes_unissued t w f i [] h = h
notes_unissued t w f i (n ∷ ns) h =
    notes_unissued (after_all t (table.noted t w f i n)) w f i ns
    (unissued t (table.noted t w f i n)
    (where_all IssuesNone (n.file == f.kept.number) (table.noted_here t w f i n.kind) (here_issues t w f i n.kind)) h)

-- ---- all components

-- what is known of the file and the worlds before and behind
pub record IsGone (s t : State) (w v : World) (f g : File) (ns : List Note) : Type 0 where
  pub components : AreComponents s w f
  pub alike : IsAlike w v
  pub tags : Tags s
  pub tag : s.tag ≡ f.kept.tag
  pub rises : f.kept.tag ≤ g.kept.tag
  pub first_tag : g.kept.first_tag ≡ f.kept.first_tag
  pub count : length g.kept.components ≡ length f.kept.components
  pub unready : AreUnready v g
  pub rebuilt : RebuiltStand t v f g ns
  pub clients : ClientsStay s t
  pub replies : RepliesStay s t
  pub unused : g.kept.grants ≡ [] → s.granted_since ≡ false → t.granted_since ≡ false

module _ (s t : State) (w v : World) (f g : File) (ns : List Note) (r : IsGone s t w v f g ns) where
  whole : (drive object : ℕ) (missing : Bool) → Component
  whole drive object missing = record { drive = drive; object = object; missing = missing }

  same_place : (a b : Component) → a.drive ≡ b.drive → a.object ≡ b.object → a.missing ≡ b.missing → a ≡ b
  unfolding whole
  same_place a b drive object missing =
      ap (λ (n : ℕ). whole n a.object a.missing) drive ∙ ap (λ (n : ℕ). whole b.drive n a.missing) object
      ∙ ap (λ (m : Bool). whole b.drive b.object m) missing

  -- the tag of an object isn't past the next one
  next_tag : (k : ℕ) → s.object_tag k ≡ g.kept.tag + 1 → s.object_tag k ≡ f.kept.tag + 1
  next_tag k e = elim (r.tags.high k) [
    | inl low ↦ absurd (omega (arith, low, e, r.tag, r.rises))
    | inr wide ↦ omega (arith, wide.0, e, r.tag, r.rises)
  ]

  -- a component that stays where it was is as it was
  same_at : (k : ℕ) (at before : Component) → slice_get f.kept.components k ≡ Some before → at.missing ≡ false →
      at.drive ≡ before.drive → at.object ≡ before.object → s.lost k ≡ false → before ≡ at
  same_at k at before there present drive object lost =
      sym (same_place at before drive object
      (present ∙ sym (first_false before.missing _ (sym (r.components k before there).lost ∙ lost))))

  stays : (k : ℕ) (at : Component) → slice_get g.kept.components k ≡ Some at → t.lost k ≡ is_lost_in w at →
      t.lost k ≡ false → WasKept s t f k at → StandsAs t v g k at
  stays k at there lost stands kept =
      let was : s.lost k ≡ false = kept.lost stands in
      let present : at.missing ≡ false = first_false at.missing _ (sym lost ∙ stands) in
      let same : kept.before ≡ at = same_at k at kept.before kept.there present kept.drive kept.object was in
      let old : StandsAs s w f k at =
      subst (λ (y : Component). StandsAs s w f k y) same ((r.components k kept.before kept.there).stands was) in
      stands_kept s t w v f g k at (record {
        tag = kept.tag;
        cells = kept.cells;
        lanes = λ c. ap (λ (q : ℕ → ℕ → ℕ). q k c) r.replies.last_nonce;
        object = r.alike.objects at.drive at.object;
        sends = λ c e x below sent write object_is. inl (r.alike.sent c e x below sent);
        replies = λ i n y. subst (InRun (i, n)) (sym r.replies.tag_replies) y;
        unmade = λ none un.
            let u = r.unready k at there
            (ap (λ (b : Bool). at.missing || b) (r.alike.failed at.drive) ∙ sym lost ∙ stands)
            (r.alike.objects at.drive at.object ∙ none) in
            record {
              tag = kept.tag ∙ un.tag ∙ sym r.first_tag;
              cells = λ z. kept.cells z ∙ un.cells z;
              unready = u.unready;
              unused = r.unused u.ungranted un.unused;
              ungranted = u.ungranted;
              due = u.due;
            };
        next = next_tag k;
      }) old

  pub server_components : ((k : ℕ) (at : Component) → slice_get g.kept.components k ≡ Some at → Told s t w f ns k at) →
      AreComponents t v g
  server_components told k at there =
      let h = told k at there in
      let before = some_at f.kept.components k
      (subst (λ (n : ℕ). k < n) r.count (slice_get_within g.kept.components k at there)) in
      record {
        missing = h.missing;
        lost = h.lost ∙ ap (λ (b : Bool). at.missing || b) (sym (r.alike.failed at.drive));
        stands = λ e. elim h.kept [
          | inl kept ↦ stays k at there h.lost e kept
          | inr again ↦ (r.rebuilt k at there again e).stands
        ];
        nonces = λ c below.
            let old = (r.components k before.0 before.1).nonces c below in
            omega (arith, ap (λ (q : ℕ → ℕ → ℕ). q k c) r.replies.last_nonce, ap (λ (q : ℕ → ℕ). q c) r.clients.nonce, old);
      }

  -- clients' lanes are those that were there
  pub server_lanes : ((k : ℕ) (at : Component) → slice_get g.kept.components k ≡ Some at → Told s t w f ns k at) →
      (k : ℕ) (at : Component) → slice_get g.kept.components k ≡ Some at → t.lost k ≡ false → (c : ℕ) (l : LaneEntry) →
      c < CLIENTS → lane_or_none (object_of v at) c ≡ Some l →
      (slice_get f.kept.components k ≡ Some at) × (s.lost k ≡ false) × (lane_or_none (object_of w at) c ≡ Some l)
  server_lanes told k at there lost c l below is =
      let h = told k at there in
      elim h.kept [
        | inl kept ↦
            let was : s.lost k ≡ false = kept.lost lost in
            let present : at.missing ≡ false = first_false at.missing _ (sym h.lost ∙ lost) in
            let same : kept.before ≡ at = same_at k at kept.before kept.there present kept.drive kept.object was in (
              kept.there ∙ ap (λ (y : Component). Some y) same,
              was,
              ap (λ (o : Option StoredObject). lane_or_none o c) (sym (r.alike.objects at.drive at.object)) ∙ is,
            )
        | inr again ↦ absurd ((r.rebuilt k at there again lost).lanes c l below is)
      ]
