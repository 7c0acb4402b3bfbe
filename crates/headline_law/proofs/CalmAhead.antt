-- A run of the machine goes on with events that keep it calm; so it does with a rebuild that is still to be told.
-- Towards `CutsAreRuns` and `CutsShowCalm` (`specs/Parts.antt`).
use Rattle.std.proofs.Common.{◌≡◌, ◌==◌, ◌++◌, ℕ, Bool, true, false, List, [], ◌∷◌, take, refl, sym, ap, subst, ◌∙◌, inl, inr}
use Rattle.std.proofs.lemmas.Bool.{cases_Bool}
use Rattle.world_history.specs.ServerNames.{File, Note, NoteKind, Rebuilt}
use Rattle.world_history.specs.State.{World, at_number}
use Rattle.history_law.specs.Doing.{did_in}
use Rattle.history_law.specs.Read.{BookIsRead}
use Rattle.fence_law.specs.Columns.{IsCalm}
use Rattle.fence_law.specs.Law.{IsCode, Calms, reached}
use Rattle.fence_law.specs.Machine.{Allowed, Lawful, after, after_all, new_file_state}
use Rattle.fence_law.specs.State.{State, Event, Layout}
use Rattle.fence_law.specs.State.Event.{Rebuilds, Fails}
use Rattle.fence_law.proofs.Accepted.{Sure}
use Rattle.fence_law.proofs.SmallFiles.{same_map}
use Rattle.file_simulation.specs.Components.{has_failed}
use Rattle.file_simulation.specs.Cuts.{rebuilt_by, rebuilt_ahead, notes_behind}
use Rattle.file_simulation.specs.EventLists.{where_so}
use Rattle.file_simulation.specs.Events.{joined, events_of}
use Rattle.file_simulation.specs.ServerEvents.{rebuilt}
use Rattle.file_simulation.specs.Showing.{IsRun}
use Rattle.relation_law.specs.Frames.{AreAll}
use Rattle.relation_law.specs.Steps.{Follows, owed, behind}
use Rattle.relation_law.proofs.CalmRuns.{calms_more, calm_now}
use Rattle.relation_law.proofs.ComponentsMachine.{right_run}
use Rattle.relation_law.proofs.RequestsLawful.{lawful_more}
use Rattle.relation_law.proofs.KeptNotes.{after_both}
use Rattle.headline_law.specs.Parts.{CutsAreRuns, CutsShowCalm}
use Rattle.headline_law.proofs.CalmCodes.{code_of}
use Rattle.headline_law.proofs.CalmEvents.{IsPeaceful, calm_peaceful, calm_refailed}

-- ---- one event more

pub run_on : (s : State) (e : Event) → IsRun s → Allowed s e → IsCalm (after s e) → IsRun (after s e)
run_on s e run allowed calm =
    let layout : (after s e).layout ≡ s.layout = same_map s e in
    let lawful_there : Lawful (reached s.layout run.events) (e ∷ []) =
    subst (λ (z : State). Lawful z (e ∷ [])) run.state (allowed, tt) in
    let calms_there : Calms (reached s.layout run.events) (e ∷ []) =
    subst (λ (z : State). Calms z (e ∷ [])) run.state (calm_now s run, calm) in
    let there : after_all (new_file_state s.layout) (run.events ++ e ∷ []) ≡ after s e =
    after_both (new_file_state s.layout) run.events (e ∷ []) ∙ ap (λ (z : State). after z e) (sym run.state) in
    record {
      events = run.events ++ e ∷ [];
      lawful = subst (λ (l : Layout). Lawful (new_file_state l) (run.events ++ e ∷ [])) (sym layout)
          (lawful_more (new_file_state s.layout) run.events (e ∷ []) run.lawful lawful_there);
      calm = subst (λ (l : Layout). Calms (new_file_state l) (run.events ++ e ∷ [])) (sym layout)
          (calms_more (new_file_state s.layout) run.events (e ∷ []) run.calm calms_there);
      state = sym there ∙ ap (λ (l : Layout). reached l (run.events ++ e ∷ [])) (sym layout);
    }

pub sure_run : (s : State) → IsCode s.layout → IsRun s → Sure s
sure_run s code run = (right_run s code run).sure

pub code_on : (s : State) (e : Event) → IsCode s.layout → IsCode (after s e).layout
code_on s e code = subst IsCode (sym (same_map s e)) code

pub code_all : (s : State) (es : List Event) → IsCode s.layout → IsCode (after_all s es).layout
code_all s [] code = code
code_all s (e ∷ es) code = code_all (after s e) es (code_on s e code)

pub layout_all : (s : State) (es : List Event) → (after_all s es).layout ≡ s.layout
layout_all s [] = refl
layout_all s (e ∷ es) = layout_all (after s e) es ∙ same_map s e

-- ---- events that end no calm

pub run_peaceful : (s : State) (es : List Event) → IsCode s.layout → IsRun s → AreAll IsPeaceful es → Lawful s es →
    IsRun (after_all s es)
run_peaceful s [] code run all l = run
run_peaceful s (e ∷ es) code run all l =
    run_peaceful (after s e) es (code_on s e code)
    (run_on s e run l.0 (calm_peaceful s e all.0 l.0 (sure_run s code run) (calm_now s run))) all.1 l.1

-- ---- a component is made anew

-- and fails at once, if its drive has failed
run_rebuilt_so : (s : State) (failed : Bool) (k : ℕ) (cells : ℕ → ℕ) → IsCode s.layout → IsRun s →
    Lawful s (Rebuilds k cells ∷ where_so failed (Fails k ∷ [])) →
    IsRun (after_all s (Rebuilds k cells ∷ where_so failed (Fails k ∷ [])))
run_rebuilt_so s false k cells code run l =
    run_on s (Rebuilds k cells) run l.0 (calm_peaceful s (Rebuilds k cells) tt l.0 (sure_run s code run) (calm_now s run))
run_rebuilt_so s true k cells code run l =
    run_on (after s (Rebuilds k cells)) (Fails k)
    (run_on s (Rebuilds k cells) run l.0 (calm_peaceful s (Rebuilds k cells) tt l.0 (sure_run s code run) (calm_now s run)))
    tt (calm_refailed s k cells l.0 (calm_now s run))

pub run_rebuilt : (s : State) (w : World) (f : File) (k d : ℕ) → IsCode s.layout → IsRun s → Lawful s (rebuilt s w f k d) →
    IsRun (after_all s (rebuilt s w f k d))
run_rebuilt s w f k d code run l = run_rebuilt_so s (has_failed (at_number w.drives d)) k _ code run l

-- ---- a rebuild that is still to be told

run_by : (s : State) (w : World) (f : File) (kind : NoteKind) → IsCode s.layout → IsRun s →
    Lawful s (rebuilt_by s w f kind) → IsRun (after_all s (rebuilt_by s w f kind))
run_by s w f (Rebuilt k d) code run l = run_rebuilt s w f k d code run l
run_by s w f kind code run l = run

run_ahead : (s : State) (w : World) (f : File) (ns : List Note) → IsCode s.layout → IsRun s →
    Lawful s (rebuilt_ahead s w f ns) → IsRun (after_all s (rebuilt_ahead s w f ns))
unfolding rebuilt_ahead
run_ahead s w f [] code run l = run
run_ahead s w f (n ∷ ns) code run l = elim (cases_Bool (n.file == f.kept.number)) [
  | inl t ↦ rw t (run_by s w f n.kind code run (rw t at l))
  | inr z ↦ rw z (run_ahead s w f ns code run (rw z at l))
]

pub cuts_are_runs : BookIsRead → CutsAreRuns
cuts_are_runs book w h m count f g s pairs k =
    let follows : Follows w h m count f g s = k.shown.follows in
    run_ahead (behind follows.related m count) w f (notes_behind count m.action (did_in w m))
    (code_all s (joined (take count (events_of s w (owed follows.related) f m))) (code_of book w h m count f g s follows))
    k.run k.ahead_lawful

pub cuts_show_calm : BookIsRead → CutsShowCalm
cuts_show_calm book w h m count f g s pairs k last is calm = calm_now _ (cuts_are_runs book w h m count f g s pairs k)
