-- The laws of what is read, at each moment.
use Rattle.std.proofs.Common.{◌≡◌, ◌++◌, ◌∷◌, [], List, Some, None, refl, sym, ap, subst, ◌∙◌}
use Rattle.std.proofs.lemmas.List.{append-nil}
use Rattle.server_rules.specs.Files.{file_at}
use Rattle.scenario_text.specs.declared.event.Event.{Event}
use Rattle.scenario_text.specs.declared.line.Line.{Line}
use Rattle.world_history.specs.State.{World}
use Rattle.world_history.specs.Moves.{Action, Opens}
use Rattle.world_history.specs.Sending.{Move, move}
use Rattle.world_history.specs.Plans.{Plan, Rule, due, due_by, rule_after, rule_of, plan_of}
use Rattle.world_history.specs.Runs.{world_after, AreDue, plan_after}
use Rattle.world_history.specs.History.{StandsFor}
use Rattle.world_history.specs.Refusals.{refusal}
use Rattle.world_history.specs.Reading.{steps_of}
use Rattle.world_history.specs.Book.{ServerSeen, server_seen}
use Rattle.world_history.specs.Laws.{ServerGoesOn, AllLinesGoOn}
use Rattle.world_history.proofs.Always.{opening}
use Rattle.history_law.proofs.Moments.{no_event}
use Rattle.history_law.proofs.Histories.{stands, kept_part}
use Rattle.history_law.specs.BookMoments.{IsMoment, lines_so_far, lines_in}
use Rattle.history_law.specs.Doing.{did_in}
use Rattle.history_law.specs.Placed.{IsReadable}
use Rattle.history_law.specs.Read.{AreWritten, BookIsRead, FilesAreRead, ReadsAs, StepIsRead}
use Rattle.history_law.proofs.Staying.{written_front}
use Rattle.history_law.proofs.Following.{IsServerRead, IsFollowed, followed, is_new, rule_read, opens_read}

-- what an event still has to do behind its first move
pub later_rule : (r : Rule) (ms : List Move)
    → (q : Rule) × (plan_after (record { opening = None; rule = r }) ms ≡ record { opening = None; rule = q })
later_rule r [] = (r, refl)
later_rule r (m ∷ ms) = later_rule (rule_after r m.action) ms

module _ (on : ServerGoesOn) (all : AllLinesGoOn) where
  at_moves : (v : World) (h : List Line) (e : Event) (ms : List Move) → StandsFor v h → refusal v e ≡ None
      → AreDue (plan_of v e) v ms → IsFollowed (world_after v ms) (h ++ lines_so_far v e ms)
  at_moves v h e [] s allowed d =
      subst (IsFollowed v) (sym (append-nil h)) (stands IsFollowed (followed on all) v h s)
  at_moves v h e (m ∷ ms) s allowed d =
      kept_part IsFollowed (followed on all) v h e m ms d allowed (stands IsFollowed (followed on all) v h s)

  at_moment : (w : World) (h : List Line) → IsMoment w h → IsFollowed w h
  at_moment w h k =
      subst (λ (v : World). IsFollowed v h) (sym k.world_is)
      (subst (IsFollowed (world_after k.before k.moves)) (sym k.lines_are)
      (at_moves k.before k.history k.event k.moves k.stands k.allowed k.are_due))

  -- what the server sends can be told and read, at each moment
  pub server_is_readable : (w : World) (h : List Line) → IsMoment w h → AreWritten h → IsReadable w.server
  server_is_readable w h k written = ((at_moment w h k).server written).readable

  pub book_is_read : BookIsRead
  book_is_read w h k written = ((at_moment w h k).server written).seen

  pub files_are_read : FilesAreRead
  files_are_read w h s written file =
      ap (λ (x : ServerSeen). file_at x.server.files file)
      ((stands IsFollowed (followed on all) w h s).server written).seen

  -- ---- a move

  abbrev IsReadThere : World → List Line → Move → Type 0
  IsReadThere w h m = ReadsAs (server_seen h) (did_in w m) (steps_of (lines_in w m))

  first_read : (w : World) (h : List Line) (e : Event) (m : Move) → IsFollowed w h → AreWritten h → refusal w e ≡ None
      → Some (Opens e) ≡ Some m.action → IsReadThere w h m
  first_read w h e m p written allowed is =
      let s = p.server written in
      let same : Opens e ≡ m.action = cc in
      subst (λ (a : Action). IsReadThere w h (record { action = a; chosen = m.chosen })) same
      (subst (λ (x : ServerSeen). ReadsAs x (did_in w (opening e m.chosen))
      (steps_of (lines_in w (opening e m.chosen))))
      (sym s.seen) (opens_read on w m.chosen e s.readable (is_new on all w h e p.read s allowed)).reads)

  later_read : (w : World) (h : List Line) (r : Rule) (m : Move) → IsServerRead w h → due_by w r ≡ Some m.action
      → IsReadThere w h m
  later_read w h r m s d =
      subst (λ (ls : List Line). ReadsAs (server_seen h) (did_in w m) (steps_of ls))
      (sym (no_event w r m.action (move w m).lines d))
      (subst (λ (x : ServerSeen). ReadsAs x (did_in w m) (steps_of (move w m).lines)) (sym s.seen)
      (rule_read on w r m.chosen m.action d s.readable).reads)

  -- by the moves that were made
  read_behind : (v w : World) (h : List Line) (e : Event) (ms : List Move) (m : Move) → IsFollowed w h → AreWritten h
      → w ≡ world_after v ms → refusal v e ≡ None → due (plan_after (plan_of v e) ms) w ≡ Some m.action
      → IsReadThere w h m
  read_behind v w h e [] m p written is allowed d =
      first_read w h e m p written (ap (λ (x : World). refusal x e) is ∙ allowed) d
  read_behind v w h e (x ∷ ms) m p written is allowed d =
      let r = later_rule (rule_after (rule_of v e) x.action) ms in
      later_read w h r.0 m (p.server written) (sym (ap (λ (q : Plan). due q w) r.1) ∙ d)

  pub step_is_read : StepIsRead
  step_is_read w h k m d written =
      read_behind k.before w h k.event k.moves m (at_moment w h k)
      (written_front h (lines_in w m) written) k.world_is k.allowed d
