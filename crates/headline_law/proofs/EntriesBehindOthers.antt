-- Behind a move of a drive, or of nobody, pending calls are tied to the entries.
-- Towards `CutsKeepEntries` (`specs/EntriesTied.antt`).
use Rattle.std.proofs.Common.{◌≡◌, ◌==◌, ℕ, List, [], ◌∷◌, take, ap, ◌∙◌, sym, inl, inr}
use Rattle.scenario_text.specs.declared.line.Line.{Line}
use Rattle.world_history.specs.ClientNames.{Client}
use Rattle.world_history.specs.Sending.{Move, move}
use Rattle.world_history.specs.ServerNames as server_rules
use Rattle.world_history.specs.ServerNames.{File, Note, NoteKind}
use Rattle.world_history.specs.State.{World, at_number}
use Rattle.history_law.specs.Doing.{did_in}
use Rattle.exchange_law.specs.Requests.{OneRequest}
use Rattle.exchange_law.proofs.CountMoments.{reached}
use Rattle.fence_law.specs.Machine.{after_all}
use Rattle.fence_law.specs.State.{State, Event}
use Rattle.fence_law.specs.State.Event.{SetsTag, Performs, Shows, Fails, Repairs, Rebuilds}
use Rattle.file_simulation.specs.Components.{has_failed}
use Rattle.file_simulation.specs.Cuts.{rebuilt_ahead, rebuilt_by, notes_behind}
use Rattle.file_simulation.specs.Events.{joined, events_of}
use Rattle.file_simulation.specs.Relation.{client_of}
use Rattle.file_simulation.specs.ServerEvents.{rebuilt}
use Rattle.file_simulation.specs.Showing.{Pairs}
use Rattle.file_simulation.specs.Tied.{AreTied}
use Rattle.headline_law.specs.Parts.{lines_to}
use Rattle.relation_law.specs.Frames.{AreAll, IsOfDrive}
use Rattle.relation_law.specs.Steps.{behind, owed}
use Rattle.relation_law.proofs.FramesClient.{either_all, where_all}
use Rattle.relation_law.proofs.FramesParties.{by_drive_lines, clients_rest, server_rests}
use Rattle.relation_law.proofs.FramesStay.{all_joined, all_as, lines_taken}
use Rattle.headline_law.proofs.EntriesBehind.{IsAside, rests_all, tied_rests, tied_there}
use Rattle.headline_law.proofs.EntriesBehindAsked.{asked_or_sent, outstanding_is_asked}
use Rattle.headline_law.proofs.EntriesBehindLines.{ResendsLeaveCalls, entries_rest}
use Rattle.headline_law.proofs.EntriesOthers.{OthersKeepTied}
use Rattle.headline_law.proofs.EntriesPairs.{IsSilent, silent_stay}
use Rattle.headline_law.proofs.EntriesShown.{ReadingLaws}

-- ---- events

aside_silent : (e : Event) → IsAside e → IsSilent e
aside_silent (SetsTag k) o = tt
aside_silent (Performs m) o = tt
aside_silent (Shows j k) o = tt
aside_silent (Fails k) o = tt
aside_silent (Repairs k cells e) o = tt
aside_silent (Rebuilds k cells) o = tt
aside_silent e o = absurd o

drive_aside : (e : Event) → IsOfDrive e → IsAside e
drive_aside (SetsTag k) o = tt
drive_aside (Performs m) o = tt
drive_aside (Shows j k) o = tt
drive_aside (Fails k) o = tt
drive_aside (Repairs k cells e) o = tt
drive_aside e o = absurd o

rebuilt_aside : (s : State) (w : World) (f : File) (k d : ℕ) → AreAll IsAside (rebuilt s w f k d)
rebuilt_aside s w f k d = (tt, where_all IsAside (has_failed (at_number w.drives d)) _ (tt, tt))

rebuilt_by_aside : (s : State) (w : World) (f : File) (n : NoteKind) → AreAll IsAside (rebuilt_by s w f n)
rebuilt_by_aside s w f (server_rules.Rebuilt k d) = rebuilt_aside s w f k d
rebuilt_by_aside s w f n = tt

ahead_aside : (s : State) (w : World) (f : File) (ns : List Note) → AreAll IsAside (rebuilt_ahead s w f ns)
unfolding rebuilt_ahead
ahead_aside s w f [] = tt
ahead_aside s w f (n ∷ ns) =
    either_all IsAside (n.file == f.kept.number) _ _ (rebuilt_by_aside s w f n.kind) (ahead_aside s w f ns)

-- events of drives, and rebuilds, leave what is tied
pub aside_tied : (w : World) (h : List Line) (s : State) (es : List Event) (file : ℕ) (pairs : Pairs) → AreAll IsAside es →
    AreTied w h s file pairs → AreTied w h (after_all s es) file pairs
aside_tied w h s es file pairs all k =
    tied_rests w h s (after_all s es) file pairs (silent_stay s es (all_as IsAside IsSilent aside_silent es all))
    (rests_all s es all) k

-- so does a rebuild that is still to be told at a cut
pub cut_tied : (w v : World) (h g : List Line) (m : Move) (count : ℕ) (f : File) (t : State) (pairs : Pairs) →
    AreTied v g t f.kept.number pairs →
    AreTied v g (after_all t (rebuilt_ahead t w f (notes_behind count m.action (did_in w m)))) f.kept.number pairs
cut_tied w v h g m count f t pairs k =
    aside_tied v g t (rebuilt_ahead t w f (notes_behind count m.action (did_in w m))) f.kept.number pairs
    (ahead_aside t w f (notes_behind count m.action (did_in w m))) k

-- ---- a move

-- Behind a whole move of a drive, or of nobody, the pairs are tied.
pub others_keep_tied : ReadingLaws → OneRequest → ResendsLeaveCalls → OthersKeepTied
others_keep_tied laws one again w h m count f g s pairs k tied goes input full =
    cut_tied w (move w m).world h (lines_to w h m count) m count f (behind k.shown.follows.related m count) pairs
    (aside_tied (move w m).world (lines_to w h m count) s (joined (take count (events_of s w (owed k.shown.follows.related) f m)))
    f.kept.number pairs all
    (tied_there w (move w m).world h (lines_to w h m count) s f.kept.number pairs (record {
      server = server_rests w m input;
      clients = clients;
      entries = entries_rest laws again w h m count f g s pairs k tied goes input full;
      asked = λ c q i. elim (asked_or_sent one w m c q i) [
        | inl old ↦ old
        | inr new ↦
            outstanding_is_asked one w (reached w h k.shown.follows.moment) c q
            (ap (λ (x : Client). x.outstanding) (sym (clients c)) ∙ new.outstanding)
      ];
    }) tied))
  where
    clients : (c : ℕ) → client_of (move w m).world c ≡ client_of w c
    clients = clients_rest w h k.shown.follows.moment m k.shown.follows.is_due goes

    all : AreAll IsAside (joined (take count (events_of s w (owed k.shown.follows.related) f m)))
    all =
        all_as IsOfDrive IsAside drive_aside (joined (take count (events_of s w (owed k.shown.follows.related) f m)))
        (all_joined IsOfDrive (take count (events_of s w (owed k.shown.follows.related) f m))
        (lines_taken IsOfDrive count (events_of s w (owed k.shown.follows.related) f m)
        (by_drive_lines s w (owed k.shown.follows.related) f m goes input)))
