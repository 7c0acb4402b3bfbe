-- Behind a step of the server no grant that the machine ever answered is live in another file.
-- Towards `CutsShowEntries` (`specs/Parts.antt`).
use Rattle.std.proofs.Common.{◌≡◌, ◌⊎◌, ◌<◌, ◌≤◌, ℕ, List, [], ◌∷◌, take, Some, sym, ap, ◌∙◌, inl, inr, arith}
use Rattle.std.specs.Prelude.{◌==◌}
use Rattle.server_rules.specs.Files.{Step, file_at}
use Rattle.server_rules.specs.History.{Input, step}
use Rattle.server_rules.proofs.FileLaws.{number_at}
use Rattle.history_law.proofs.Files.{in_at}
use Rattle.world_history.specs.Sending.{Move, move}
use Rattle.world_history.specs.ServerNames as server_rules
use Rattle.world_history.specs.ServerNames.{Server, File, Note, NoteKind}
use Rattle.world_history.specs.State.{World, at_number}
use Rattle.history_law.specs.Doing.{input_in, did_in}
use Rattle.exchange_law.proofs.HeldWorlds.{reached}
use Rattle.fence_law.specs.State.{State}
use Rattle.fence_law.specs.Words.{In as InRun}
use Rattle.file_simulation.specs.Components.{has_failed}
use Rattle.file_simulation.specs.Cuts.{rebuilt_ahead, rebuilt_by, notes_behind}
use Rattle.file_simulation.specs.Events.{joined, events_of}
use Rattle.file_simulation.specs.DriveEvents.{drive_events}
use Rattle.file_simulation.specs.ServerEvents.{server_events}
use Rattle.relation_law.specs.Frames.{AreAll, LinesAre}
use Rattle.relation_law.specs.Steps.{behind, owed}
use Rattle.relation_law.proofs.FramesClient.{either_all, where_all, led_all}
use Rattle.relation_law.proofs.FramesFiles.{move_stays}
use Rattle.relation_law.proofs.FramesParties.{Never, drive_quiet, server_alone, server_steps}
use Rattle.relation_law.proofs.FramesStay.{all_joined, lines_as, lines_more, lines_taken}
use Rattle.relation_law.proofs.KeptServer.{at_place}
use Rattle.headline_law.specs.Parts.{cut_at}
use Rattle.headline_law.proofs.EntriesServerTied.{ServersKeepApart}
use Rattle.headline_law.proofs.GrantTags.{run_numbered, Told}
use Rattle.headline_law.proofs.LossApartEvents.{AnswersLive, GivesLive, live_all, step_gives_live}
use Rattle.headline_law.proofs.LossApartSteps.{AreNumbered, FilesApart, OldOrNew, WasLive, are_numbered, new_at_one, step_keeps_apart}

-- ---- what the machine answers

-- a rebuild that is still to be told gives nothing
ahead_live : (g : File) (s : State) (w : World) (f : File) (ns : List Note) → AreAll (GivesLive g) (rebuilt_ahead s w f ns)
unfolding rebuilt_ahead
ahead_live g s w f [] = tt
ahead_live g s w f (n ∷ ns) =
    either_all (GivesLive g) (n.file == f.kept.number) _ _ (by n.kind) (ahead_live g s w f ns)
  where
    by : (kind : NoteKind) → AreAll (GivesLive g) (rebuilt_by s w f kind)
    by (server_rules.Rebuilt k d) = (tt, where_all (GivesLive g) (has_failed (at_number w.drives d)) _ (tt, tt))
    by kind = tt

-- the lines of a move of the server give what is live in the file behind it
pub move_gives : (s : State) (w : World) (e : ℕ → ℕ) (f g : File) (m : Move) (i : Input) → input_in w m.action ≡ Some i →
    file_at (step w.server m.chosen i).state.files f.kept.number ≡ Some g → LinesAre (GivesLive g) (events_of s w e f m)
move_gives s w e f g m i is there =
    let mine : LinesAre (GivesLive g) (server_events s w f.kept.number (input_in w m.action) (did_in w m)) =
    rw is (step_gives_live g s w f.kept.number i (step w.server m.chosen i) there) in
    rw (server_alone w m.action i is) (led_all (GivesLive g) m.action _
    (lines_more (GivesLive g) (server_events s w f.kept.number (input_in w m.action) (did_in w m)) _ mine
    (lines_as Never (GivesLive g) (λ x never. absurd never) (drive_events s w e f m.action)
    (drive_quiet s w e f m.action i is))))

pub servers_keep_apart : ServersKeepApart
servers_keep_apart w h m count f g s pairs k tied i is full a x told gives y j there other live same =
    elim (answered a x told gives) [
      | inl old ↦ by_old old (n.1 y.kept.number y j at_y live)
      | inr new ↦
          other (sym (apart_behind f.kept.number y.kept.number g y new.0 j here at_y new.1 live (new.2 ∙ sym same)))
    ]
  where
    numbered : AreNumbered w.server
    numbered = are_numbered w (reached w h k.shown.follows.moment)

    t : Step
    t = step w.server m.chosen i

    goes : (move w m).world.server ≡ t.state
    goes = server_steps w m i is

    here : file_at t.state.files f.kept.number ≡ Some g
    here = ap (λ (v : Server). file_at v.files f.kept.number) (sym goes) ∙ k.shown.follows.goes

    apart_behind : FilesApart t.state
    apart_behind = step_keeps_apart w.server m.chosen i numbered.distinct numbered.order numbered.apart

    n : (file : ℕ) × OldOrNew w.server file t
    n = new_at_one w.server m.chosen i numbered.distinct

    at_y : file_at t.state.files y.kept.number ≡ Some y
    at_y =
        ap (λ (v : Server). file_at v.files y.kept.number) (sym goes)
        ∙ at_place (move w m).world.server.files y (move_stays w m numbered.distinct).0 there

    u : State
    u = behind k.shown.follows.related m count

    answered : AnswersLive g s (cut_at k.shown.follows)
    answered b z i_ is_ =
        elim (live_all g u (rebuilt_ahead u w f (notes_behind count m.action (did_in w m)))
        (ahead_live g u w f (notes_behind count m.action (did_in w m))) b z i_ is_) [
          | inl old ↦
              live_all g s (joined (take count (events_of s w (owed k.shown.follows.related) f m)))
              (all_joined (GivesLive g) _
              (lines_taken (GivesLive g) count _ (move_gives s w (owed k.shown.follows.related) f g m i is here))) b z old is_
          | inr new ↦ inr new
        ]

    by_old : InRun a s.answers → WasLive w.server y.kept.number j ⊎ ((w.server.next_grant ≤ j.number) × (y.kept.number ≡ n.0)) →
        ⊥
    by_old old (inl was) =
        tied.apart a x old gives was.0 j (in_at w.server.files y.kept.number was.0 was.1)
        (λ e. other (sym (number_at w.server.files y.kept.number was.0 was.1) ∙ e)) was.2 same
    by_old old (inr new) =
        let low : x.number < s.next = ((run_numbered s k.shown.follows.run).known x (Told a old gives)).low in
        let next : s.next ≤ w.server.next_grant = k.shown.follows.related.kept.next in
        absurd (omega (arith, low, next, new.0, same))
