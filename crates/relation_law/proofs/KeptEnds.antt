-- What the machine has of what is kept of a file, between two steps and in the middle of one.
-- Towards `KeptGoesOn` (`specs/Steps.antt`).
use Rattle.std.proofs.Common.{◌≡◌, ◌⊎◌, ◌==◌, ◌||◌, ℕ, ◌<◌, ◌≤◌, Bool, true, false, not, List, [], ◌∷◌, Option, Some, None, refl, sym, ap, subst, ◌∙◌, arith, inl, inr}
use Rattle.std.proofs.lemmas.Bool.{cases_Bool, eqb-true, ne_eqb}
use Rattle.data_map.specs.declared.check.RawMap.{RawMap}
use Rattle.plan_law.specs.FileLayout.{stripe_of_column}
use Rattle.component_law.specs.Tagged.{is_fence, fence_open}
use Rattle.server_rules.specs.Going.{Going}
use Rattle.server_rules.specs.Grants.{grant_of}
use Rattle.server_rules.specs.Jobs.{ending, fencing, fence_begins}
use Rattle.server_rules.specs.Laws.{In}
use Rattle.server_rules.proofs.Members.{in_front, in_behind}
use Rattle.world_history.specs.ServerNames.{File, Kept, Grant, Phase, Still, Fencing, Repairing, FencingAgain, Note, JobKind}
use Rattle.fence_law.specs.State as machine
use Rattle.fence_law.specs.State.{State}
use Rattle.fence_law.specs.State.Event.{Fences}
use Rattle.fence_law.specs.Machine.{Lawful, after, after_all}
use Rattle.fence_law.proofs.Safe.{Safe}
use Rattle.file_simulation.specs.EventLists.{where_so}
use Rattle.file_simulation.specs.Phases.{OutstandingIs, IsStill, IsEnded, IsFencing, IsRepairing, PhaseIs, AreBelowHigh}
use Rattle.file_simulation.specs.ServerEvents.{begins_fence}
use Rattle.relation_law.specs.KeptSteps.{core, IsSoFar, IsKeptAt}
use Rattle.component_law.specs.KeptWalk.{IsWalked}
use Rattle.relation_law.proofs.KeptHigh.{high_after}
use Rattle.component_law.proofs.KeptJobs.{ends_fence}

-- ---- in and out of a step

ended_in : (f g : File) (c : ℕ) (x : machine.Grant) → f.kept.ended ≡ g.kept.ended → f.kept.map ≡ g.kept.map
    → f.kept.tag ≡ g.kept.tag → IsEnded f c x → IsEnded g c x
ended_in f g c x ended map tag e = record {
  grant = e.grant;
  ended = subst (In e.grant) ended e.ended;
  client = e.client;
  same = rw map at e.same;
  tag = e.tag ∙ tag;
}

phase_in : (s : State) (f : File) (p : Phase) → PhaseIs s f p → PhaseIs s (core f.kept) p
phase_in s f Still h = record {
  fencing = h.fencing;
  repairing = h.repairing;
  outstanding = h.outstanding;
  ended = h.ended;
  unused = λ u. absurd (u refl);
}
phase_in s f Fencing h = record {
  fencing = h.fencing;
  repairing = h.repairing;
  live = h.live;
  outstanding = λ c x o. ended_in f (core f.kept) c x refl refl refl (h.outstanding c x o);
}
phase_in s f Repairing h = record {
  fences = h.fences;
  repairing = h.repairing;
  live = h.live;
  outstanding = h.outstanding;
  unused = h.unused;
  older = h.older;
}
phase_in s f FencingAgain h = record {
  fences = h.fences;
  repairing = h.repairing;
  live = h.live;
  outstanding = h.outstanding;
  unused = h.unused;
  older = h.older;
}

phase_out : (s : State) (f : File) (p : Phase) → (p ≡ Still → (f.job ≡ None → ⊥) → s.granted_since ≡ false)
    → PhaseIs s (core f.kept) p → PhaseIs s f p
phase_out s f Still u h = record {
  fencing = h.fencing;
  repairing = h.repairing;
  outstanding = h.outstanding;
  ended = h.ended;
  unused = u refl;
}
phase_out s f Fencing u h = record {
  fencing = h.fencing;
  repairing = h.repairing;
  live = h.live;
  outstanding = λ c x o. ended_in (core f.kept) f c x refl refl refl (h.outstanding c x o);
}
phase_out s f Repairing u h = record {
  fences = h.fences;
  repairing = h.repairing;
  live = h.live;
  outstanding = h.outstanding;
  unused = h.unused;
  older = h.older;
}
phase_out s f FencingAgain u h = record {
  fences = h.fences;
  repairing = h.repairing;
  live = h.live;
  outstanding = h.outstanding;
  unused = h.unused;
  older = h.older;
}

-- the same grants and writes of a file with the same map, `high`, and ended grants at least
pub low_of : (s : State) (f g : File) → f.kept.map ≡ g.kept.map → f.kept.high ≤ g.kept.high
    → (s.repairing ≡ true → (x : Grant) → In x f.kept.ended → In x g.kept.ended) → AreBelowHigh s f → AreBelowHigh s g
low_of s f g map high ended h = record {
  grants = λ x i w q v.
      let l = h.grants x i w q v in
      subst (λ (m : RawMap). stripe_of_column m q < g.kept.high) map (omega (arith, l, high));
  writes = λ j x w t.
      let l = h.writes j x w t in
      subst (λ (m : RawMap). stripe_of_column m x < g.kept.high) map (omega (arith, l, high));
  worked = λ m j x o t.
      let e = h.worked m j x o t in
      record { grant = e.grant; ended = ended m e.grant e.ended; rw = e.rw; has = rw map at e.has };
}

pub so_far_from : (next : ℕ) (busy : Bool) (s : State) (f : File) → (busy ≡ true → f.job ≡ None → ⊥)
    → IsKeptAt next s f → IsSoFar next busy s f.kept
so_far_from next busy s f u h = record {
  tag = h.tag;
  size = h.size;
  phase = phase_in s f f.kept.phase h.phase;
  next_is = h.next_is;
  unused = λ b p. let st : IsStill s f = subst (PhaseIs s f) p h.phase in st.unused (u b);
  unready = h.unready;
  low = low_of s f (core f.kept) refl (omega arith) (λ m x i. i) h.low;
}

pub kept_from : (next : ℕ) (busy : Bool) (s : State) (f : File) → (busy ≡ false → f.job ≡ None)
    → IsSoFar next busy s f.kept → IsKeptAt next s f
kept_from next busy s f u h = record {
  tag = h.tag;
  size = h.size;
  phase = phase_out s f f.kept.phase
      (λ p j. elim (cases_Bool busy) [ inl b ↦ h.unused b p | inr b ↦ absurd (j (u b)) ]) h.phase;
  next_is = h.next_is;
  unready = h.unready;
  low = low_of s (core f.kept) f refl (omega arith) (λ m x i. i) h.low;
}

-- ---- where a fence begins

pub found_grant : (gs : List Grant) (c : ℕ) (g : Grant) → grant_of gs c ≡ Some g → In g gs × (g.client ≡ c)
found_grant [] c g e = absurd (cc e)
found_grant (x ∷ gs) c g e = elim (cases_Bool (x.client == c)) [
  | inl t ↦ let same : x ≡ g = cc (rw t at e) in (inl (sym same), rw same at (eqb-true x.client c t))
  | inr z ↦ let r = found_grant gs c g (rw z at e) in (inr r.0, r.1)
]

-- the grants that were live are ended, as the machine has them
still_ended : (k : Kept) (format c : ℕ) (o : Option Grant) (y : Option machine.Grant) (x : machine.Grant)
    → grant_of k.grants c ≡ o → y ≡ Some x → OutstandingIs k.map k.tag o y → IsEnded (core (ending k format)) c x
still_ended k format c None None x is e h = absurd (cc e)
still_ended k format c (Some g) None x is e h = absurd h
still_ended k format c None (Some y) x is e h = absurd h
still_ended k format c (Some g) (Some y) x is e h =
    let same : y ≡ x = cc e in
    let f = found_grant k.grants c g is in
    record {
      grant = g;
      ended = in_behind g k.ended k.grants f.0;
      client = f.1;
      same = rw same at h.0;
      tag = sym (ap (λ (z : machine.Grant). z.tag) same) ∙ h.1;
    }

-- the machine behind the events with which a fence begins has what is kept then
pub begins_so_far : (next : ℕ) (s : State) (k : Kept) (format : ℕ) (p : Phase) → k.phase ≡ p
    → Lawful s (where_so (not (is_fence p)) (Fences ∷ [])) → Safe s → (busy : Bool) → IsSoFar next busy s k
    → IsSoFar next true (after_all s (where_so (not (is_fence p)) (Fences ∷ []))) (ending k format)
begins_so_far next s k format Still is l safe busy h =
    let ph : IsStill s (core k) = subst (PhaseIs s (core k)) is h.phase in
    let low : AreBelowHigh (after s Fences) (core k) = high_after (core k) s Fences l.0 tt safe h.low in
    record {
      tag = h.tag;
      size = h.size;
      phase = subst (PhaseIs (after s Fences) (core (ending k format))) (sym (ap fencing is)) (record {
        fencing = refl;
        repairing = ph.repairing;
        live = refl;
        outstanding = λ c x o. still_ended k format c (grant_of k.grants c) (s.outstanding c) x refl o (ph.outstanding c);
      });
      next_is = h.next_is;
      unused = λ b q. absurd (cc (sym (ap fencing is) ∙ q));
      unready = h.unready;
      low = low_of (after s Fences) (core k) (core (ending k format)) refl (omega arith)
          (λ m x i. in_front x k.ended k.grants i) low;
    }
begins_so_far next s k format Fencing is l safe busy h =
    let ph : IsFencing s (core k) = subst (PhaseIs s (core k)) is h.phase in
    record {
      tag = h.tag;
      size = h.size;
      phase = subst (PhaseIs (s) (core (ending k format))) (sym (ap fencing is)) (record {
        fencing = ph.fencing;
        repairing = ph.repairing;
        live = refl;
        outstanding = λ c x o.
            let e = ph.outstanding c x o in
            record {
              grant = e.grant;
              ended = in_front e.grant k.ended k.grants e.ended;
              client = e.client;
              same = e.same;
              tag = e.tag;
            };
      });
      next_is = h.next_is;
      unused = λ b q. absurd (cc (sym (ap fencing is) ∙ q));
      unready = h.unready;
      low = low_of s (core k) (core (ending k format)) refl (omega arith) (λ m x i. in_front x k.ended k.grants i) h.low;
    }
begins_so_far next s k format Repairing is l safe busy h =
    let ph : IsRepairing false s (core k) = subst (PhaseIs s (core k)) is h.phase in
    let low : AreBelowHigh (after s Fences) (core k) = high_after (core k) s Fences l.0 tt safe h.low in
    record {
      tag = h.tag;
      size = h.size;
      phase = subst (PhaseIs (after s Fences) (core (ending k format))) (sym (ap fencing is)) (record {
        fences = refl;
        repairing = ph.repairing;
        live = refl;
        outstanding = ph.outstanding;
        unused = ph.unused;
        older = ph.older;
      });
      next_is = h.next_is;
      unused = λ b q. absurd (cc (sym (ap fencing is) ∙ q));
      unready = h.unready;
      low = low_of (after s Fences) (core k) (core (ending k format)) refl (omega arith)
          (λ m x i. in_front x k.ended k.grants i) low;
    }
begins_so_far next s k format FencingAgain is l safe busy h =
    let ph : IsRepairing true s (core k) = subst (PhaseIs s (core k)) is h.phase in
    record {
      tag = h.tag;
      size = h.size;
      phase = subst (PhaseIs (s) (core (ending k format))) (sym (ap fencing is)) (record {
        fences = ph.fences;
        repairing = ph.repairing;
        live = refl;
        outstanding = ph.outstanding;
        unused = ph.unused;
        older = ph.older;
      });
      next_is = h.next_is;
      unused = λ b q. absurd (cc (sym (ap fencing is) ∙ q));
      unready = h.unready;
      low = low_of s (core k) (core (ending k format)) refl (omega arith) (λ m x i. in_front x k.ended k.grants i) h.low;
    }

-- ---- behind a fence that began the file shows it

-- the fence is open, or the tag is a later one
abbrev Shows : (tag : ℕ) → Kept → List Note → Type 0
Shows tag k ns = ((is_fence k.phase ≡ true) × (k.tag ≡ tag)) ⊎ (tag < k.tag)

shows_walked : (tag : ℕ) → IsWalked (Shows tag)
shows_walked tag = record {
  alike = λ k l ns a h. elim h [
    | inl x ↦ inl (ap is_fence a.phase ∙ x.0, a.tag ∙ x.1)
    | inr x ↦ inr (grind (arith, a.tag, x))
  ];
  plain = λ k ns kind p h. h;
  fenced = λ k ns p h. elim h [
    | inl x ↦ let e = x.1 in inr (omega (arith, e))
    | inr x ↦ inr (omega (arith, x))
  ];
  mended = λ k ns stripes short p h. elim h [
    | inl x ↦ absurd (cc (sym (ap is_fence p) ∙ x.0))
    | inr x ↦ inr x
  ];
}

pub fence_shows : (kind : JobKind) (format : ℕ) (go : Going) → fence_open go.file.kept ≡ false
    → begins_fence go.file (fence_begins kind format go).file ≡ true
fence_shows kind format go shut =
    let e = ends_fence (Shows go.file.kept.tag) (shows_walked go.file.kept.tag) kind format go
    (inl (opens go.file.kept.phase, refl)) in
    elim e.0 [
      | inl x ↦ rw (shut, x.0) refl
      | inr x ↦
          rw (shut, ne_eqb (fence_begins kind format go).file.kept.tag go.file.kept.tag (λ y. omega (arith, x, y)))
          (either (fence_open (fence_begins kind format go).file.kept))
    ]
  where
    opens : (p : Phase) → is_fence (fencing p) ≡ true
    opens Still = refl
    opens Fencing = refl
    opens Repairing = refl
    opens FencingAgain = refl

    either : (b : Bool) → (b || true) ≡ true
    either true = refl
    either false = refl
