-- Most events leave what the machine has of what the server keeps.
-- Towards `KeptGoesOn` (`specs/Steps.antt`).
use Rattle.std.proofs.Common.{◌≡◌, ℕ, Bool, true, List, [], ◌∷◌, Option, refl, sym, ap, subst, ◌∙◌, arith}
use Rattle.std.proofs.lemmas.Bool.{true≢false}
use Rattle.world_history.specs.ServerNames.{File, Kept, Phase, Still, Fencing, Repairing, FencingAgain}
use Rattle.fence_law.specs.State.{State, Event, Grant}
use Rattle.fence_law.specs.State.Event.{Grants, Frees, Fences, Fenced, Refenced, Leaves, Commits, Repaired}
use Rattle.fence_law.specs.Machine.{Lawful, after, after_all}
use Rattle.fence_law.proofs.Safe.{Safe}
use Rattle.file_simulation.specs.Phases.{OutstandingIs, PhaseIs, AreBelowHigh}
use Rattle.server_rules.specs.Grants.{grant_of}
use Rattle.relation_law.specs.KeptHigh.{HighNeeds}
use Rattle.relation_law.specs.KeptSteps.{is_light, AllLight, core, IsSoFar}
use Rattle.component_law.specs.KeptWalk.{AreAlike}
use Rattle.relation_law.proofs.KeptHigh.{AllNeed, high_after_all}

-- ---- an event

-- the machine's tag, size, phase and grants are the same in both
abbrev pub KeptSame : State → State → Type 0
KeptSame s t = record {
  tag : t.tag ≡ s.tag;
  size : t.size ≡ s.size;
  fencing : t.fencing ≡ s.fencing;
  repairing : t.repairing ≡ s.repairing;
  ended_tag : t.ended_tag ≡ s.ended_tag;
  outstanding : t.outstanding ≡ s.outstanding;
  granted_since : t.granted_since ≡ s.granted_since;
  next : t.next ≡ s.next;
}

pub light_same : (s : State) (e : Event) → is_light e ≡ true → KeptSame s (after s e)
light_same s (Grants c number rw range extending) l = absurd (true≢false (sym l))
light_same s (Frees c) l = absurd (true≢false (sym l))
light_same s Fences l = absurd (true≢false (sym l))
light_same s Fenced l = absurd (true≢false (sym l))
light_same s Refenced l = absurd (true≢false (sym l))
light_same s (Leaves c g) l = absurd (true≢false (sym l))
light_same s (Commits c j g) l = absurd (true≢false (sym l))
light_same s (Repaired done e) l = absurd (true≢false (sym l))
light_same s e l = record {
  tag = refl;
  size = refl;
  fencing = refl;
  repairing = refl;
  ended_tag = refl;
  outstanding = refl;
  granted_since = refl;
  next = refl;
}

light_needs : (f : File) (s : State) (e : Event) → is_light e ≡ true → HighNeeds s f e
light_needs f s (Grants c number rw range extending) l = absurd (true≢false (sym l))
light_needs f s Fenced l = absurd (true≢false (sym l))
light_needs f s e l = tt

pub all_same : (s : State) (es : List Event) → AllLight es → KeptSame s (after_all s es)
all_same s [] l = record {
  tag = refl;
  size = refl;
  fencing = refl;
  repairing = refl;
  ended_tag = refl;
  outstanding = refl;
  granted_since = refl;
  next = refl;
}
all_same s (e ∷ es) l =
    let a = light_same s e l.0 in
    let b = all_same (after s e) es l.1 in
    record {
      tag = b.tag ∙ a.tag;
      size = b.size ∙ a.size;
      fencing = b.fencing ∙ a.fencing;
      repairing = b.repairing ∙ a.repairing;
      ended_tag = b.ended_tag ∙ a.ended_tag;
      outstanding = b.outstanding ∙ a.outstanding;
      granted_since = b.granted_since ∙ a.granted_since;
      next = b.next ∙ a.next;
    }

all_need : (f : File) (s : State) (es : List Event) → AllLight es → AllNeed f s es
all_need f s [] l = tt
all_need f s (e ∷ es) l = (light_needs f s e l.0, all_need f (after s e) es l.1)

-- ---- the phase

pub phase_same : (s t : State) (f : File) (p : Phase) → KeptSame s t → PhaseIs s f p → PhaseIs t f p
phase_same s t f Still e h = record {
  fencing = e.fencing ∙ h.fencing;
  repairing = e.repairing ∙ h.repairing;
  outstanding = λ c.
      subst (λ (o : ℕ
      → Option Grant). OutstandingIs f.kept.map f.kept.tag (grant_of f.kept.grants c) (o c)) (sym e.outstanding)
      (h.outstanding c);
  ended = h.ended;
  unused = λ u. e.granted_since ∙ h.unused u;
}
phase_same s t f Fencing e h = record {
  fencing = e.fencing ∙ h.fencing;
  repairing = e.repairing ∙ h.repairing;
  live = h.live;
  outstanding = λ c x i. h.outstanding c x (sym (ap (λ (o : ℕ → Option Grant). o c) e.outstanding) ∙ i);
}
phase_same s t f Repairing e h = record {
  fences = e.fencing ∙ h.fences;
  repairing = e.repairing ∙ h.repairing;
  live = h.live;
  outstanding = λ c. ap (λ (o : ℕ → Option Grant). o c) e.outstanding ∙ h.outstanding c;
  unused = e.granted_since ∙ h.unused;
  older = grind (arith, h.older, e.tag, e.ended_tag);
}
phase_same s t f FencingAgain e h = record {
  fences = e.fencing ∙ h.fences;
  repairing = e.repairing ∙ h.repairing;
  live = h.live;
  outstanding = λ c. ap (λ (o : ℕ → Option Grant). o c) e.outstanding ∙ h.outstanding c;
  unused = e.granted_since ∙ h.unused;
  older = grind (arith, h.older, e.tag, e.ended_tag);
}

-- ---- in the middle of a step

pub so_far_light : (next : ℕ) (busy : Bool) (s : State) (es : List Event) (k : Kept) → AllLight es → Lawful s es → Safe s
    → IsSoFar next busy s k → IsSoFar next busy (after_all s es) k
so_far_light next busy s es k l a safe h =
    let e = all_same s es l in
    record {
      tag = e.tag ∙ h.tag;
      size = e.size ∙ h.size;
      phase = phase_same s (after_all s es) (core k) k.phase e h.phase;
      next_is = grind (arith, e.next, h.next_is);
      unused = λ b p. e.granted_since ∙ h.unused b p;
      unready = λ r. e.granted_since ∙ h.unready r;
      low = high_after_all (core k) s es a (all_need (core k) s es l) safe h.low;
    }

same_core : (k l : Kept) → AreAlike k l → core k ≡ core l
same_core k l h =
    cc (sym h.number, sym h.map, sym h.first_tag, sym h.tag, sym h.size, sym h.high, sym h.phase, sym h.grants, sym h.ended)

pub so_far_alike : (next : ℕ) (busy : Bool) (s : State) (k l : Kept) → AreAlike k l → IsSoFar next busy s k
    → IsSoFar next busy s l
so_far_alike next busy s k l a h = record {
  tag = h.tag ∙ sym a.tag;
  size = h.size ∙ sym a.size;
  phase = subst (λ (f : File). PhaseIs s f f.kept.phase) (same_core k l a) h.phase;
  next_is = h.next_is;
  unused = λ b p. h.unused b (sym a.phase ∙ p);
  unready = λ r. h.unready (a.ready r);
  low = subst (λ (f : File). AreBelowHigh s f) (same_core k l a) h.low;
}
