-- Grants that are given back, and commits: the machine behind them has what is kept.
-- Towards `KeptGoesOn` (`specs/Steps.antt`).
use Rattle.std.proofs.Common.{◌≡◌, ℕ, ◌+◌, max, List, Option, Some, None, refl, sym, ap, subst, ◌∙◌, arith, inl, inr}
use Rattle.server_rules.specs.Grants.{grant_of, without}
use Rattle.world_history.specs.ServerNames.{File, Grant, Phase, Still, Fencing, Repairing, FencingAgain}
use Rattle.component_law.proofs.Without.{no_grant, other_grant}
use Rattle.fence_law.specs.State as machine
use Rattle.fence_law.specs.State.{State}
use Rattle.fence_law.specs.State.Event.{Frees, Leaves, Commits}
use Rattle.fence_law.specs.Words.{updated}
use Rattle.fence_law.specs.Machine.{Allowed, after}
use Rattle.fence_law.proofs.Words.{updated_read}
use Rattle.fence_law.proofs.Safe.{Safe}
use Rattle.file_simulation.specs.Phases.{OutstandingIs, IsStill, PhaseIs, AreBelowHigh}
use Rattle.relation_law.specs.KeptSteps.{IsKeptAt}
use Rattle.relation_law.proofs.KeptHigh.{high_after}
use Rattle.relation_law.proofs.KeptEnds.{low_of}

-- ---- a client's grant goes

-- the machine is the same, but for what that client has outstanding
pub record IsDropped (s t : State) (c : ℕ) : Type 0 where
  pub tag : t.tag ≡ s.tag
  pub size : t.size ≡ s.size
  pub fencing : t.fencing ≡ s.fencing
  pub repairing : t.repairing ≡ s.repairing
  pub ended_tag : t.ended_tag ≡ s.ended_tag
  pub outstanding : (d : ℕ) → t.outstanding d ≡ updated s.outstanding c None d
  pub granted_since : t.granted_since ≡ s.granted_since
  pub next : t.next ≡ s.next

pub frees_dropped : (s : State) (c : ℕ) → IsDropped s (after s (Frees c)) c
frees_dropped s c = record {
  tag = refl;
  size = refl;
  fencing = refl;
  repairing = refl;
  ended_tag = refl;
  outstanding = λ d. refl;
  granted_since = refl;
  next = refl;
}

pub leaves_dropped : (s : State) (c : ℕ) (x : machine.Grant) → IsDropped s (after s (Leaves c x)) c
leaves_dropped s c x = record {
  tag = refl;
  size = refl;
  fencing = refl;
  repairing = refl;
  ended_tag = refl;
  outstanding = λ d. refl;
  granted_since = refl;
  next = refl;
}

-- a client that has none
none_dropped : (s t : State) (f : File) (c : ℕ) (p : Phase) → IsDropped s t c → grant_of f.kept.grants c ≡ None
    → PhaseIs s f p → PhaseIs t f p
none_dropped s t f c Still e none h = record {
  fencing = e.fencing ∙ h.fencing;
  repairing = e.repairing ∙ h.repairing;
  outstanding = λ d. elim (updated_read s.outstanding c None d).1 [
    | inl w ↦ rw (e.outstanding d, w.1, w.0, none) tt
    | inr w ↦ rw (e.outstanding d, w.1) (h.outstanding d)
  ];
  ended = h.ended;
  unused = λ u. e.granted_since ∙ h.unused u;
}
none_dropped s t f c Fencing e none h = record {
  fencing = e.fencing ∙ h.fencing;
  repairing = e.repairing ∙ h.repairing;
  live = h.live;
  outstanding = λ d x i. elim (updated_read s.outstanding c None d).1 [
    | inl w ↦ absurd (cc (sym (e.outstanding d ∙ w.1) ∙ i))
    | inr w ↦ h.outstanding d x (sym (e.outstanding d ∙ w.1) ∙ i)
  ];
}
none_dropped s t f c Repairing e none h = record {
  fences = e.fencing ∙ h.fences;
  repairing = e.repairing ∙ h.repairing;
  live = h.live;
  outstanding = λ d. elim (updated_read s.outstanding c None d).1 [
    | inl w ↦ e.outstanding d ∙ w.1
    | inr w ↦ e.outstanding d ∙ w.1 ∙ h.outstanding d
  ];
  unused = e.granted_since ∙ h.unused;
  older = grind (arith, h.older, e.tag, e.ended_tag);
}
none_dropped s t f c FencingAgain e none h = record {
  fences = e.fencing ∙ h.fences;
  repairing = e.repairing ∙ h.repairing;
  live = h.live;
  outstanding = λ d. elim (updated_read s.outstanding c None d).1 [
    | inl w ↦ e.outstanding d ∙ w.1
    | inr w ↦ e.outstanding d ∙ w.1 ∙ h.outstanding d
  ];
  unused = e.granted_since ∙ h.unused;
  older = grind (arith, h.older, e.tag, e.ended_tag);
}

-- it has none on the file
pub none_kept : (next : ℕ) (s t : State) (f : File) (c : ℕ) → IsDropped s t c → grant_of f.kept.grants c ≡ None
    → AreBelowHigh t f → IsKeptAt next s f → IsKeptAt next t f
none_kept next s t f c e none low h = record {
  tag = e.tag ∙ h.tag;
  size = e.size ∙ h.size;
  phase = none_dropped s t f c f.kept.phase e none h.phase;
  next_is = grind (arith, e.next, h.next_is);
  unready = λ r. e.granted_since ∙ h.unready r;
  low = low;
}

-- the file without it
abbrev pub left_by : File → (c : ℕ) → File
left_by f c = record f { kept = record f.kept { grants = without f.kept.grants c } }

-- its grant on a still file goes
pub left_kept : (next : ℕ) (s t : State) (f : File) (c : ℕ) → IsDropped s t c → f.kept.phase ≡ Still → AreBelowHigh t f
    → IsKeptAt next s f → IsKeptAt next t (left_by f c)
left_kept next s t f c e p low h =
    let st : IsStill s f = subst (PhaseIs s f) p h.phase in
    record {
      tag = e.tag ∙ h.tag;
      size = e.size ∙ h.size;
      phase = subst (PhaseIs t (left_by f c)) (sym p) (record {
        fencing = e.fencing ∙ st.fencing;
        repairing = e.repairing ∙ st.repairing;
        outstanding = λ d. elim (updated_read s.outstanding c None d).1 [
          | inl w ↦ rw (e.outstanding d, w.1, w.0, no_grant f.kept.grants c) tt
          | inr w ↦ rw (e.outstanding d, w.1, other_grant f.kept.grants d c w.0) (st.outstanding d)
        ];
        ended = st.ended;
        unused = λ u. e.granted_since ∙ st.unused u;
      });
      next_is = grind (arith, e.next, h.next_is);
      unready = λ r. e.granted_since ∙ h.unready r;
      low = low_of t f (left_by f c) refl (omega arith) (λ m x i. i) low;
    }

-- ---- a file with a grant is still

pub granted_still : (s : State) (f : File) (c : ℕ) (g : Grant) → grant_of f.kept.grants c ≡ Some g → (p : Phase)
    → PhaseIs s f p → p ≡ Still
granted_still s f c g is Still h = refl
granted_still s f c g is Fencing h = absurd (cc (sym (ap (λ (gs : List Grant). grant_of gs c) h.live) ∙ is))
granted_still s f c g is Repairing h = absurd (cc (sym (ap (λ (gs : List Grant). grant_of gs c) h.live) ∙ is))
granted_still s f c g is FencingAgain h = absurd (cc (sym (ap (λ (gs : List Grant). grant_of gs c) h.live) ∙ is))

-- ---- a commit

-- the file with another size
abbrev pub sized : File → (size : ℕ) → File
sized f n = record f { kept = record f.kept { size = n } }

size_phase : (s : State) (f : File) (n : ℕ) (p : Phase) (t : State) → t.fencing ≡ s.fencing → t.repairing ≡ s.repairing
    → t.outstanding ≡ s.outstanding → t.granted_since ≡ s.granted_since → t.tag ≡ s.tag → t.ended_tag ≡ s.ended_tag
    → PhaseIs s f p → PhaseIs t (sized f n) p
size_phase s f n Still t fe re ou gr ta en h = record {
  fencing = fe ∙ h.fencing;
  repairing = re ∙ h.repairing;
  outstanding = λ c.
      subst (λ (o : ℕ → Option machine.Grant). OutstandingIs f.kept.map f.kept.tag (grant_of f.kept.grants c) (o c)) (sym ou)
      (h.outstanding c);
  ended = h.ended;
  unused = λ u. gr ∙ h.unused u;
}
size_phase s f n Fencing t fe re ou gr ta en h = record {
  fencing = fe ∙ h.fencing;
  repairing = re ∙ h.repairing;
  live = h.live;
  outstanding = λ c x i.
      let e = h.outstanding c x (sym (ap (λ (o : ℕ → Option machine.Grant). o c) ou) ∙ i) in
      record { grant = e.grant; ended = e.ended; client = e.client; same = e.same; tag = e.tag };
}
size_phase s f n Repairing t fe re ou gr ta en h = record {
  fences = fe ∙ h.fences;
  repairing = re ∙ h.repairing;
  live = h.live;
  outstanding = λ c. ap (λ (o : ℕ → Option machine.Grant). o c) ou ∙ h.outstanding c;
  unused = gr ∙ h.unused;
  older = grind (arith, h.older, ta, en);
}
size_phase s f n FencingAgain t fe re ou gr ta en h = record {
  fences = fe ∙ h.fences;
  repairing = re ∙ h.repairing;
  live = h.live;
  outstanding = λ c. ap (λ (o : ℕ → Option machine.Grant). o c) ou ∙ h.outstanding c;
  unused = gr ∙ h.unused;
  older = grind (arith, h.older, ta, en);
}

pub commits_kept : (next : ℕ) (s : State) (f : File) (c j last : ℕ) (x : machine.Grant) → Allowed s (Commits c j x) → Safe s
    → last + 1 ≡ (s.start j).end_ → IsKeptAt next s f
    → IsKeptAt next (after s (Commits c j x)) (sized f (max f.kept.size (last + 1)))
commits_kept next s f c j last x a safe e h =
    let low : AreBelowHigh (after s (Commits c j x)) f = high_after f s (Commits c j x) a tt safe h.low in
    record {
      tag = h.tag;
      size = rw (h.size, sym e) refl;
      phase = size_phase s f (max f.kept.size (last + 1)) f.kept.phase (after s (Commits c j x)) refl refl refl refl refl refl
          h.phase;
      next_is = h.next_is;
      unready = h.unready;
      low = low_of (after s (Commits c j x)) f (sized f (max f.kept.size (last + 1))) refl (omega arith) (λ m y i. i) low;
    }
