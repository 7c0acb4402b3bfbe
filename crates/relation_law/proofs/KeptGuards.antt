-- The guards of the server's events, by what the machine has of what is kept.
-- Towards `EventsAreLawful` (`specs/Steps.antt`).
use Rattle.std.proofs.Common.{◌≡◌, ◌⊎◌, ◌&&◌, ℕ, ◌<◌, Bool, true, false, not, length, List, [], ◌∷◌, Option, Some, None, refl, sym, ap, subst, ◌∙◌, arith, inl, inr, if◌then◌else◌}
use Rattle.std.proofs.lemmas.Bool.{true≢false, cases_Bool, ne_eqb}
use Rattle.component_law.specs.Tagged.{is_fence, fence_open}
use Rattle.server_rules.specs.Grants.{grant_of}
use Rattle.server_rules.specs.Laws.{In}
use Rattle.world_history.specs.ServerNames.{File, Kept, Grant, Phase, Still, Fencing, Repairing, FencingAgain}
use Rattle.fence_law.specs.State as machine
use Rattle.fence_law.specs.State.{State}
use Rattle.fence_law.specs.State.Commit.{CommitAsked}
use Rattle.fence_law.specs.State.Event.{Fences, Fenced, Refenced, Drops, Loses, Commits, Repaired}
use Rattle.fence_law.specs.Columns.{HaveNextTag, Stands}
use Rattle.fence_law.specs.Law.{IsWholeAt, byte_before}
use Rattle.fence_law.specs.Machine.{Allowed, Lawful}
use Rattle.plan_law.specs.Standing.{column_stands, standing_byte}
use Rattle.plan_law.proofs.Repairing.{repairs_stand}
use Rattle.file_simulation.specs.Grants.{covers_column}
use Rattle.file_simulation.specs.Jobs.{AreDone}
use Rattle.file_simulation.specs.Phases.{OutstandingIs, IsStill, IsRepairing, PhaseIs, IsEndedAt}
use Rattle.file_simulation.specs.ServerEvents.{begins_fence}
use Rattle.relation_law.specs.KeptGuards.{StandingColumnsAreNotShort, HasLayout}
use Rattle.relation_law.specs.KeptSteps.{core, IsSoFar, IsKeptAt}
use Rattle.relation_law.proofs.KeptEnds.{found_grant}
use Rattle.relation_law.proofs.KeptGrants.{none_by}
use Rattle.relation_law.proofs.KeptCommitted.{some_by}
use Rattle.relation_law.proofs.KeptReturns.{granted_still}

-- ---- Fences

pub fences_allowed : (next : ℕ) (s : State) (f g : File) → begins_fence f g ≡ true → IsKeptAt next s f → Allowed s Fences
fences_allowed next s f g b h = record { over = by f.kept.phase refl h.phase }
  where
    seen : (w : Bool) (rest : Bool) → w ≡ true → (not w && rest) ≡ true → ⊥
    seen true rest e x = true≢false (sym x)
    seen false rest e x = true≢false (sym e)

    by : (p : Phase) → f.kept.phase ≡ p → PhaseIs s f p → s.fencing ≡ false
    by Still is ph = ph.fencing
    by Repairing is ph = ph.fences
    by Fencing is ph = absurd (seen (fence_open f.kept) _ (ap is_fence is) b)
    by FencingAgain is ph = absurd (seen (fence_open f.kept) _ (ap is_fence is) b)

-- ---- Fenced, Refenced

pub fenced_allowed : (next : ℕ) (busy : Bool) (s : State) (k : Kept) → is_fence k.phase ≡ true → HaveNextTag s
    → IsSoFar next busy s k → Lawful s ((if s.repairing then Refenced else Fenced) ∷ [])
fenced_allowed next busy s k wide all h = by k.phase refl h.phase
  where
    by : (p : Phase) → k.phase ≡ p → PhaseIs s (core k) p → Lawful s ((if s.repairing then Refenced else Fenced) ∷ [])
    by Still is ph = absurd (true≢false (sym wide ∙ ap is_fence is))
    by Repairing is ph = absurd (true≢false (sym wide ∙ ap is_fence is))
    by Fencing is ph =
        subst (λ (b : Bool). Lawful s ((if b then Refenced else Fenced) ∷ [])) (sym ph.repairing)
        (record { runs = ph.fencing; first = ph.repairing; all = all }, tt)
    by FencingAgain is ph =
        subst (λ (b : Bool). Lawful s ((if b then Refenced else Fenced) ∷ [])) (sym ph.repairing)
        (record { runs = ph.fences; again = ph.repairing; all = all }, tt)

-- ---- Drops

-- no fence runs while a WRITE of a job is answered
pub drops_allowed : (next : ℕ) (s : State) (f : File) (k : ℕ) → (f.job ≡ None → ⊥) → fence_open f.kept ≡ false
    → k < s.layout.components → s.lost k ≡ false → IsKeptAt next s f → Allowed s (Drops k)
drops_allowed next s f k busy shut there stands h =
    let r = by f.kept.phase refl h.phase in
    record { there = there; stands = stands; over = r.0; unused = r.1 }
  where
    by : (p : Phase) → f.kept.phase ≡ p → PhaseIs s f p → (s.fencing ≡ false) × (s.granted_since ≡ false)
    by Still is ph = (ph.fencing, ph.unused busy)
    by Repairing is ph = (ph.fences, ph.unused)
    by Fencing is ph = absurd (true≢false (ap is_fence (sym is) ∙ shut))
    by FencingAgain is ph = absurd (true≢false (ap is_fence (sym is) ∙ shut))

-- ---- Loses

sole : (gs : List Grant) (c d : ℕ) (g : Grant) → length gs ≡ 1 → grant_of gs c ≡ Some g → (d ≡ c → ⊥) → grant_of gs d ≡ None
sole [] c d g one is ne = absurd (cc is)
sole (x ∷ []) c d g one is ne =
    let r = found_grant (x ∷ []) c g is in
    elim r.0 [
      | inl e ↦
          let of_c : x.client ≡ c = ap (λ (y : Grant). y.client) (sym e) ∙ r.1 in
          rw (ne_eqb x.client d (λ y. ne (sym y ∙ of_c))) refl
      | inr j ↦ absurd j
    ]
sole (x ∷ y ∷ gs) c d g one is ne = absurd (omega (arith, one))

pub loses_allowed : (next : ℕ) (s : State) (f : File) (c k : ℕ) (g : Grant) → grant_of f.kept.grants c ≡ Some g
    → length f.kept.grants ≡ 1 → IsKeptAt next s f → Allowed s (Loses c k)
loses_allowed next s f c k g has one h =
    let still : f.kept.phase ≡ Still = granted_still s f c g has f.kept.phase h.phase in
    let st : IsStill s f = subst (PhaseIs s f) still h.phase in
    record {
      over = st.fencing;
      repaired = st.repairing;
      has = some_by f.kept (grant_of f.kept.grants c) (s.outstanding c) g has (st.outstanding c);
      only = λ d ne.
          none_by f.kept (grant_of f.kept.grants d) (s.outstanding d) (sole f.kept.grants c d g one has ne) (st.outstanding d);
    }

-- ---- Commits

extends : (k : Kept) (o : Option Grant) (y : Option machine.Grant) (g : Grant) (x : machine.Grant) → o ≡ Some g → y ≡ Some x
    → OutstandingIs k.map k.tag o y → x.extending ≡ g.extending
extends k None y g x is e h = absurd (cc is)
extends k (Some z) None g x is e h = absurd h
extends k (Some z) (Some y) g x is e h =
    let a : z ≡ g = cc is in let b : y ≡ x = cc e in
    sym (ap (λ (v : machine.Grant). v.extending) b) ∙ h.0.extending ∙ ap (λ (v : Grant). v.extending) a

pub commits_allowed : (next : ℕ) (s : State) (f : File) (c j : ℕ) (g : Grant) (x : machine.Grant)
    → s.commit c ≡ CommitAsked j → grant_of f.kept.grants c ≡ Some g → g.extending ≡ true → s.outstanding c ≡ Some x
    → IsKeptAt next s f → Allowed s (Commits c j x)
commits_allowed next s f c j g x asks has ext out h =
    let still : f.kept.phase ≡ Still = granted_still s f c g has f.kept.phase h.phase in
    let st : IsStill s f = subst (PhaseIs s f) still h.phase in
    record {
      asks = asks;
      live = out;
      extending = extends f.kept (grant_of f.kept.grants c) (s.outstanding c) g x has out (st.outstanding c) ∙ ext;
      over = st.fencing;
    }

-- ---- Repaired

-- whether a grant for writing that the fence has ended has the column
ended_or_not : (k : Kept) (gs : List Grant) (x : ℕ) → ((g : Grant) → In g gs → In g k.ended)
    → IsEndedAt (core k) x
    ⊎ ((g : Grant) → In g gs → g.rw ≡ true → covers_column k.map g.first g.end x ≡ true → ⊥)
ended_or_not k [] x i = inr (λ g j. absurd j)
ended_or_not k (g ∷ gs) x i = elim (ended_or_not k gs x (λ y j. i y (inr j))) [
  | inl e ↦ inl e
  | inr none ↦ elim (cases_Bool g.rw) [
    | inl w ↦ elim (cases_Bool (covers_column k.map g.first g.end x)) [
      | inl v ↦ inl (record { grant = g; ended = i g (inl refl); rw = w; has = v })
      | inr z ↦ inr (λ y j r v. elim j [
        | inl e ↦ true≢false (sym v ∙ ap (λ (a : Grant). covers_column k.map a.first a.end x) e ∙ z)
        | inr m ↦ none y m r v
      ])
    ]
    | inr z ↦ inr (λ y j r v. elim j [
      | inl e ↦ true≢false (sym r ∙ ap (λ (a : Grant). a.rw) e ∙ z)
      | inr m ↦ none y m r v
    ])
  ]
]

-- A repair that is over, in the words of the jobs' part: what it is behind stands, where it isn't short.
pub repaired_allowed : StandingColumnsAreNotShort → (next : ℕ) (busy : Bool) (s : State) (k : Kept) → k.phase ≡ Repairing
    → HasLayout s k → IsWholeAt s → AreDone s (core k) [] → IsSoFar next busy s k
    → Allowed s (Repaired (column_stands k.map s.lost) (standing_byte k.map s.lost s.cell))
repaired_allowed not_short next busy s k is lay whole jobs h =
    let ph : IsRepairing false s (core k) = subst (PhaseIs s (core k)) is h.phase in
    let r = repairs_stand k.map lay.tag s lay.checked lay.layout in
    record {
      runs = ph.repairing;
      left = r.left;
      right = λ x d. right ph x d;
      copies = λ q d. let y = r.copies q d in (y.0, y.1, y.2, y.3);
    }
  where
    right : IsRepairing false s (core k) → (x : ℕ) → column_stands k.map s.lost x ≡ true
        → Stands s x (standing_byte k.map s.lost s.cell)
    right ph x d =
        let r = repairs_stand k.map lay.tag s lay.checked lay.layout in
        elim (ended_or_not k k.ended x (λ g j. j)) [
          | inl e ↦
              let z = jobs x e (λ p j. absurd j) (not_short k.map lay.tag s lay.checked lay.layout x d) in
              r.right x z.0 d z.1
          | inr none ↦
              r.right x (byte_before s s.count) d
              (λ c z cell col lost.
              whole.settled x
              (λ j u t. let e = h.low.worked ph.repairing j x u t in none e.grant e.ended e.rw e.has)
              c z cell col (whole.stands c lost))
        ]
