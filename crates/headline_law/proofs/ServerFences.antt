-- A fence of a file that a step begins: the events of the notes of the step can happen.
use Rattle.std.proofs.Common.{◌≡◌, ◌<◌, ℕ, zero, suc, ◌+◌, true, List, [], ◌∷◌, length, Some, refl, sym, ap, ◌∙◌, inl, inr, arith}
use Rattle.std.specs.Prelude.{slice_get}
use Rattle.std.proofs.lemmas.Bool.{cases_Bool}
use Rattle.osd_lists.proofs.Slices.{some_at}
use Rattle.server_rules.specs.Commands.{Raising, Ask, All, is_meant, to_each, to_all}
use Rattle.server_rules.specs.Going.{Going, rests_or}
use Rattle.server_rules.specs.History.{Input}
use Rattle.server_rules.specs.Jobs.{ending, fencing, fenced, fence_begins, goes_on}
use Rattle.component_law.specs.Tagged.{is_fence}
use Rattle.world_history.specs.ServerNames.{File, Kept, Component, Note, Effects, Drive, JobKind, Fences, Awaited, Phase, Still, Fencing, Repairing, FencingAgain}
use Rattle.world_history.specs.State.{World}
use Rattle.fence_law.specs.State.{State, Event, Layout}
use Rattle.fence_law.specs.Machine.{Lawful, after_all}
use Rattle.fence_law.proofs.Safe.{Safe}
use Rattle.relation_law.specs.KeptSteps.{notes_events, IsSoFar}
use Rattle.relation_law.proofs.ComponentsNotes.{AreTold, told_walked, told_left, leaves_as}
use Rattle.relation_law.proofs.KeptNotes.{lawful_supplies}
use Rattle.relation_law.proofs.KeptRounds.{begun}
use Rattle.relation_law.proofs.Quiet.{layout_all}
use Rattle.relation_law.proofs.Walk.{AtFence, walk_on}
use Rattle.relation_law.specs.ComponentsWalk.{noted_after}
use Rattle.headline_law.specs.ServerLines.{NotesMay}
use Rattle.headline_law.proofs.ServerNotes.{after_is, silent_may}
use Rattle.headline_law.proofs.ServerWalk.{IsLaid, Midway, May, cases, lost_at}

-- ---- nobody is asked

none_meant : (f : Kept) (ask : Ask) (cs : List Component) (k nonce j : ℕ) (at : Component)
    → to_each f All ask cs k nonce ≡ [] → slice_get cs j ≡ Some at → at.missing ≡ true
unfolding to_each is_meant
none_meant f ask [] k nonce j at none there = absurd (cc there)
none_meant f ask (x ∷ cs) k nonce zero at none there = elim (cases_Bool x.missing) [
  | inl m ↦ let same : x ≡ at = cc there in ap (λ (y : Component). y.missing) (sym same) ∙ m
  | inr p ↦ absurd (cc (rw p at none))
]
none_meant f ask (x ∷ cs) k nonce (suc j) at none there = elim (cases_Bool x.missing) [
  | inl m ↦ none_meant f ask cs (k + 1) nonce j at (rw m at none) there
  | inr p ↦ absurd (cc (rw p at none))
]

-- ---- the notes so far have no event

pub silent_told : (s t : State) (w : World) (f : File) (i : Input) (k : Kept) (ns : List Note) → notes_events t w f i ns ≡ []
    → AreTold s t w f i k [] → AreTold s t w f i k ns
unfolding noted_after
silent_told s t w f i k ns none h = record {
  number = h.number;
  each = λ j at there.
      told_left s t (noted_after t w f i ns) w f [] ns j at
      (leaves_as t (noted_after t w f i ns) j
      (after_is t w f i ns ∙ ap (λ (es : List Event). after_all t es) none)) (h.each j at there);
}

-- ---- the fence

-- it is open then
opens : (p : Phase) → is_fence (fencing p) ≡ true
opens Still = refl
opens Fencing = refl
opens Repairing = refl
opens FencingAgain = refl

module _ (next : ℕ) (s t : State) (w : World) (f : File) (i : Input) (safe : Safe t) (laid : IsLaid t f)
    (many : length f.kept.components ≡ t.layout.components) (kind : JobKind) (format : ℕ) (m : Effects) (ds : List Drive)
    (chosen : List ℕ) (none : notes_events t w f i m.notes ≡ []) (so_far : IsSoFar next true t (ending f.kept format))
    (told : AreTold s t w f i f.kept []) where
  -- the file, as its fence begins
  abbrev ended : Going
  ended = record {
    file = record f { kept = ending f.kept format };
    effects = m;
    drives = ds;
    chosen = chosen;
  }

  -- where nobody is asked, all components are missing
  at_fence : to_all (ending f.kept format) All Raising m.nonce ≡ [] → Midway next s t w f i safe laid AtFence ended
  at_fence nobody =
      let told_ : AreTold s t w f i (ending f.kept format) m.notes =
      (told_walked s t w f i).same f.kept (ending f.kept format) m.notes refl refl
      (silent_told s t w f i f.kept m.notes none told) in
      record {
        behind = begun next t w f i (λ ns. Lawful t (notes_events t w f i ns)) (λ busy. lawful_supplies next busy t w f i)
            true (ending f.kept format) m.notes refl refl none so_far;
        told = told_;
        high = refl;
        many = refl;
        fits = opens f.kept.phase;
        may = silent_may t w f i m.notes none;
        knows = λ l n low.
            let below : n < length f.kept.components =
            let same = ap (λ (y : Layout). y.components) (layout_all t (notes_events t w f i m.notes)) in
            omega (arith, low, many, same) in
            let x = some_at f.kept.components n below in
            inl (lost_at next s t w f i safe laid ended told_ n x.0 x.1
            (none_meant (ending f.kept format) Raising f.kept.components 0 m.nonce n x.0 nobody x.1)).0;
      }

  asks_or_ends : (cs : List Awaited) → to_all (ending f.kept format) All Raising m.nonce ≡ cs
      → NotesMay t w f i (rests_or cs ended kind Fences (fenced kind ended)).effects.notes
  unfolding goes_on
  asks_or_ends [] is =
      walk_on (λ place g. Midway next s t w f i safe laid place g) (λ g. May next s t w f i safe laid g)
      (cases next s t w f i safe laid) kind Fences [] ended (at_fence is)
  asks_or_ends (c ∷ cs) is = silent_may t w f i m.notes none

  pub fence_may : NotesMay t w f i
      (fence_begins kind format (record { file = f; effects = m; drives = ds; chosen = chosen })).effects.notes
  unfolding fence_begins
  fence_may = asks_or_ends (to_all (ending f.kept format) All Raising m.nonce) refl
