-- A file in a step of the server on no request: where it hears a reply, is fenced, or opened, each note's event can happen, and
-- so it can where another file goes on.
use Rattle.std.proofs.Common.{◌≡◌, ◌==◌, ℕ, Bool, true, false, not, List, [], ◌∷◌, length, refl, sym, ap, ◌∙◌, inl, inr}
use Rattle.std.proofs.lemmas.Bool.{true≢false, cases_Bool}
use Rattle.server_rules.specs.declared.limits.TheConstants.{GREATEST_TAG}
use Rattle.server_rules.specs.Commands.{Creating, All, to_all}
use Rattle.server_rules.specs.Going.{Going, rests_or}
use Rattle.server_rules.specs.History.{Input}
use Rattle.server_rules.specs.Jobs.{ending, fence_begins, is_made, making}
use Rattle.server_rules.specs.Openings.{is_unsettled, opens_made, opens_fenced, opens}
use Rattle.component_law.specs.KeptWalk as kept
use Rattle.component_law.specs.Tagged.{fence_open}
use Rattle.component_law.proofs.KeptOpening.{has_to_fence}
use Rattle.world_history.specs.ServerNames.{File, Kept, Note, Effects, Drive, JobKind, Making, Revoking, Creates, Ready, Spent, Awaited}
use Rattle.world_history.specs.State.{World}
use Rattle.fence_law.specs.State.{State, Event, Layout}
use Rattle.fence_law.specs.State.Event.{Fences}
use Rattle.fence_law.specs.Machine.{Lawful, after_all}
use Rattle.fence_law.proofs.Safe.{Safe, safe_all}
use Rattle.file_simulation.specs.Components.{AreComponents}
use Rattle.file_simulation.specs.EventLists.{where_so}
use Rattle.file_simulation.specs.ServerEvents.{fences}
use Rattle.relation_law.specs.KeptSteps.{notes_events, IsSoFar, IsKeptAt}
use Rattle.relation_law.proofs.ComponentsFirst.{Spares, spared}
use Rattle.relation_law.proofs.ComponentsNotes.{AreTold}
use Rattle.relation_law.proofs.ComponentsServer.{start_told}
use Rattle.relation_law.proofs.FramesClient.{where_all}
use Rattle.relation_law.proofs.KeptEnds.{so_far_from, begins_so_far, fence_shows}
use Rattle.relation_law.proofs.Quiet.{layout_all}
use Rattle.headline_law.specs.ServerLines.{NotesMay}
use Rattle.headline_law.proofs.ServerFences.{fence_may}
use Rattle.headline_law.proofs.ServerNotes.{own_may, other_may, silent_may}
use Rattle.headline_law.proofs.ServerWalk.{IsLaid}

-- ---- another file

-- its notes have no event
abbrev pub OtherMay : State → World → File → Input → Kept → List Note → Type 0
OtherMay t w f i k ns = (k.number ≡ f.kept.number → ⊥) × NotesMay t w f i ns

pub other_walked : (t : State) (w : World) (f : File) (i : Input) → kept.IsWalked (OtherMay t w f i)
other_walked t w f i = record {
  alike = λ k l ns a q. (λ e. q.0 (sym a.number ∙ e), q.1);
  plain = λ k ns kind p q. (q.0, other_may t w f i k ns kind q.0 q.1);
  fenced = λ k ns p q. (q.0, other_may t w f i k ns _ q.0 q.1);
  mended = λ k ns stripes short p q. (q.0, other_may t w f i k ns _ q.0 q.1);
}

-- ---- the file itself

-- what is known of the machine and the file before a step
pub record StandsSo (next : ℕ) (s : State) (w : World) (f : File) : Type 0 where
  pub safe : Safe s
  pub laid : IsLaid s f
  pub many : length f.kept.components ≡ s.layout.components
  pub kept : IsKeptAt next s f
  pub parts : AreComponents s w f

-- the events with which a fence of the file begins
abbrev pub fence_events : File → List Event
fence_events f = where_so (not (fence_open f.kept)) (Fences ∷ [])

-- which are seen behind it
pub fence_seen : (f : File) (kind : JobKind) (format : ℕ) (m : Effects) (ds : List Drive) (chosen : List ℕ)
    → fences f (fence_begins kind format (record { file = f; effects = m; drives = ds; chosen = chosen })).file
    ≡ fence_events f
fence_seen f kind format m ds chosen =
    let go : Going = record { file = f; effects = m; drives = ds; chosen = chosen } in
    ap (λ (b : Bool). where_so b (Fences ∷ [])) (elim (cases_Bool (fence_open f.kept)) [
      | inl o ↦ rw o refl
      | inr o ↦ fence_shows kind format go o ∙ sym (ap not o)
    ])

module _ (next : ℕ) (s : State) (w : World) (f : File) (k : StandsSo next s w f) where
  -- behind a first line
  pub laid_on : (es : List Event) → IsLaid (after_all s es) f
  laid_on es = record { checked = k.laid.checked; layout = layout_all s es ∙ k.laid.layout; many = k.laid.many }

  pub many_on : (es : List Event) → length f.kept.components ≡ (after_all s es).layout.components
  many_on es = k.many ∙ sym (ap (λ (y : Layout). y.components) (layout_all s es))

  -- that of a fence
  module _ (i : Input) (law : Lawful s (fence_events f)) where
    abbrev t : State
    t = after_all s (fence_events f)

    so_far : (format : ℕ) → IsSoFar next true t (ending f.kept format)
    so_far format =
        begins_so_far next s f.kept format f.kept.phase refl law k.safe false
        (so_far_from next false s f (λ b. absurd (true≢false (sym b))) k.kept)

    told : AreTold s t w f i f.kept []
    told =
        start_told s t w f i
        (λ n. spared s (fence_events f) n (where_all Spares (not (fence_open f.kept)) (Fences ∷ []) (tt, tt))) k.parts

    pub own_fence : (kind : JobKind) (format : ℕ) (m : Effects) (ds : List Drive) (chosen : List ℕ)
        → notes_events t w f i m.notes ≡ []
        → NotesMay t w f i
        (fence_begins kind format (record { file = f; effects = m; drives = ds; chosen = chosen })).effects.notes
    own_fence kind format m ds chosen none =
        fence_may next s t w f i (safe_all s (fence_events f) law k.safe) (laid_on (fence_events f))
        (many_on (fence_events f)) kind format m ds chosen none (so_far format) told

-- ---- it is opened

module _ (t : State) (w : World) (f : File) (i : Input) (format : ℕ) (m : Effects) (ds : List Drive)
    (none : notes_events t w f i m.notes ≡ []) where
  abbrev opening : Going
  opening = record { file = f; effects = m; drives = ds; chosen = [] }

  abbrev pub Fenced : Type 0
  Fenced = has_to_fence f.kept ≡ true → NotesMay t w f i (fence_begins Revoking format opening).effects.notes

  makes_or_made : (cs : List Awaited) → NotesMay t w f i (rests_or cs opening Making Creates (is_made opening)).effects.notes
  makes_or_made [] = own_may t w f i f.kept m.notes Ready refl (silent_may t w f i m.notes none) (λ l r. tt)
  makes_or_made (c ∷ cs) = silent_may t w f i m.notes none

  made_may : (ready : Bool) → NotesMay t w f i (opens_made opening ready).effects.notes
  unfolding making
  made_may true = silent_may t w f i m.notes none
  made_may false = makes_or_made (to_all f.kept All Creating m.nonce)

  pub opens_may : Fenced → NotesMay t w f i (opens format opening).effects.notes
  unfolding opens opens_fenced
  opens_may fenced = elim (cases_Bool (is_unsettled f.kept)) [
    | inl u ↦ elim (cases_Bool (f.kept.tag == GREATEST_TAG)) [
      | inl e ↦ rw (u, e) (own_may t w f i f.kept m.notes Spent refl (silent_may t w f i m.notes none) (λ l r. tt))
      | inr e ↦ rw (u, e) (fenced (rw (u, e) refl))
    ]
    | inr u ↦ rw u (made_may f.kept.ready)
  ]
