-- The entries of pending calls behind a move of a drive, or of nobody.
-- Towards `CutsKeepEntries` (`specs/EntriesTied.antt`).
use Rattle.std.proofs.Common.{◌≡◌, ◌==◌, ◌⊎◌, ℕ, true, List, [], ◌∷◌, length, take, Some, None, refl, ap, ◌∙◌, inl, inr, arith}
use Rattle.std.specs.List.{fold}
use Rattle.std.proofs.lemmas.List.{take_all}
use Rattle.scenario_text.specs.declared.event.Event.TheVariants as scenario
use Rattle.scenario_text.specs.declared.event.Sender.{Sender}
use Rattle.scenario_text.specs.declared.line.Line.{Line}
use Rattle.client_rules.specs.Calls.{file_of}
use Rattle.world_history.specs.ClientNames.{Call}
use Rattle.world_history.specs.Moves.{Opens}
use Rattle.world_history.specs.ReadLog.{Log, log_after, log_in, entry_in}
use Rattle.world_history.specs.Sending.{Move}
use Rattle.world_history.specs.ServerNames.{File}
use Rattle.world_history.specs.State.{World, at_number}
use Rattle.history_law.specs.Moments.{lines_in}
use Rattle.history_law.specs.Doing.{input_in}
use Rattle.fence_law.specs.State.{State}
use Rattle.file_simulation.specs.ClientEvents.{going_in}
use Rattle.file_simulation.specs.Relation.{client_of}
use Rattle.file_simulation.specs.Showing.{Pairs}
use Rattle.file_simulation.specs.Tied.{AreTied}
use Rattle.headline_law.specs.Parts.{CutShown, lines_to}
use Rattle.headline_law.proofs.EntriesQuiet.{AllLeave, all_leave, sends_again}
use Rattle.headline_law.proofs.EntriesShown.{ReadingLaws}

pub leaves_calls : (ys : List Line) → AllLeave ys → (q : Log) (c : ℕ) →
    entry_in (at_number (fold log_after q ys).pending c) ≡ entry_in (at_number q.pending c)
leaves_calls [] all q c = refl
leaves_calls (y ∷ ys) all q c = leaves_calls ys all.1 (log_after q y) c ∙ all.0.calls q c

-- Where messages are sent again, pending calls on the file have the entries that they had.
abbrev pub ResendsLeaveCalls : Type 0
ResendsLeaveCalls =
    (w : World) (h : List Line) (m : Move) (count : ℕ) (f g : File) (s : State) (pairs : Pairs) →
    CutShown w h m count f g s pairs → AreTied w h s f.kept.number pairs → (from : Sender) →
    m.action ≡ Opens (scenario.Resend from) → count ≡ length (lines_in w m) → (c : ℕ) (call : Call) →
    (client_of w c).call ≡ Some call → (file_of call.op == f.kept.number) ≡ true →
    entry_in (at_number (log_in (lines_to w h m count)).pending c) ≡ entry_in (at_number (log_in h).pending c)

-- So it is of each move of that kind.
pub entries_rest : ReadingLaws → ResendsLeaveCalls →
    (w : World) (h : List Line) (m : Move) (count : ℕ) (f g : File) (s : State) (pairs : Pairs) →
    CutShown w h m count f g s pairs → AreTied w h s f.kept.number pairs → going_in w m.action ≡ None →
    input_in w m.action ≡ None → count ≡ length (lines_in w m) → (c : ℕ) (call : Call) →
    (client_of w c).call ≡ Some call → (file_of call.op == f.kept.number) ≡ true →
    entry_in (at_number (log_in (lines_to w h m count)).pending c) ≡ entry_in (at_number (log_in h).pending c)
entries_rest laws again w h m count f g s pairs k tied goes input full c call is here = by (sends_again m.action)
  where
    all : take count (lines_in w m) ≡ lines_in w m
    all = take_all count (lines_in w m) (omega (arith, full))

    now : log_in (lines_to w h m count) ≡ fold log_after (log_in h) (lines_in w m)
    now = (laws.lines h (take count (lines_in w m))).log ∙ ap (fold log_after (log_in h)) all

    by : ((from : Sender) × (m.action ≡ Opens (scenario.Resend from)))
        ⊎ ((from : Sender) → m.action ≡ Opens (scenario.Resend from) → ⊥) →
        entry_in (at_number (log_in (lines_to w h m count)).pending c) ≡ entry_in (at_number (log_in h).pending c)
    by (inl z) = again w h m count f g s pairs k tied z.0 z.1 full c call is here
    by (inr none) =
        ap (λ (l : Log). entry_in (at_number l.pending c)) now
        ∙ leaves_calls (lines_in w m) (all_leave w m goes input none) (log_in h) c
