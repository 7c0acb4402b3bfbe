-- The end of a step of the call's client that dealt with drives: the call works on, commits, reports, or is over.
use Rattle.std.proofs.Common.{◌≡◌, ◌+◌, ℕ, List, [], ◌∷◌, ◌++◌, refl, ap, subst, ◌∙◌, inl, arith}
use Rattle.server_rules.specs.Laws.{In}
use Rattle.scenario_text.specs.declared.line.Line.{Line}
use Rattle.world_history.specs.ClientNames.{Held, Awaited, Moved}
use Rattle.world_history.specs.declared.messages.Message.{Message}
use Rattle.world_history.specs.State.{World}
use Rattle.world_history.specs.Sending.{Move, move}
use Rattle.world_history.specs.Moves.{acts}
use Rattle.history_law.specs.BookMoments.{lines_in}
use Rattle.exchange_law.specs.Doing.{posted}
use Rattle.ready_law.specs.Stepping as stepping
use Rattle.ready_law.specs.Stepping.{StepsWell}
use Rattle.ready_law.proofs.Calls.{ReadyCall, op_at, kept_at, lost_at, queue_at, IsIn}
use Rattle.ready_law.proofs.Stages.{HasSent, AreOf, work_at, asking_at, GoesOn}
use Rattle.ready_law.proofs.AskingForms.{AskingLaws}
use Rattle.ready_law.proofs.WorkingForms.{UnderGrant, CanWork, TakesTurn, TurnsOn}
use Rattle.ready_law.proofs.WorkingMessages.{of_none}
use Rattle.ready_law.proofs.WorkingTurns.{turn_works}
use Rattle.ready_law.proofs.WorkingEnds.{turn_ends, are_silent, turn_commits}
use Rattle.ready_law.proofs.WorkingReports.{turn_reports}

-- ---- nothing is awaited any more

none_left : (xs : List Awaited) → ((x : Awaited) → In x xs → ⊥) → xs ≡ []
none_left [] n = refl
none_left (x ∷ xs) n = absurd (n x (inl refl))

-- then nothing is on its way
rest_empty : (c : ℕ) (rest : List Message) (waiting awaited : List Awaited) → AreOf c waiting rest
    → ((x : Awaited) → In x waiting → In x awaited) → awaited ≡ [] → rest ≡ []
rest_empty c rest waiting awaited q among_them none =
    of_none c rest
    (subst (λ (xs : List Awaited). AreOf c xs rest)
    (none_left waiting (λ x j. subst (In x) none (among_them x j))) q)

-- ---- any turn

module _ (laws : AskingLaws) (s : ReadyCall) (w : World) (m : Move) (held : Held) (mv : Moved) (rest : List Message)
    (t : TakesTurn s w m held rest) (h : List Line) (i : IsIn s (move w m).world h)
    (u : UnderGrant s (move w m).world held (kept_at s).size) (c : CanWork s (move w m).world held u.grant) (begun : Held)
    (commands awaited waiting : List Awaited) (o : TurnsOn s w held begun mv commands awaited waiting rest) where
  all_sent : HasSent s w (asking_at s + work_at s)
  all_sent = omega (arith, o.sent, o.few)

  -- where nothing is awaited any more the queue is empty
  emptied : awaited ≡ [] → queue_at s (move w m).world ≡ posted (acts w m.chosen m.action).posts
  emptied none =
      t.queue
      ∙ ap (λ (ms : List Message). ms ++ posted (acts w m.chosen m.action).posts)
      (rest_empty s.client rest waiting awaited o.queue o.among_them none)

  abbrev at_end : awaited ≡ [] → TakesTurn s w m held []
  at_end none = record {
    base = t.base;
    number = t.number;
    free = t.free;
    due = t.due;
    file_is = t.file_is;
    new = t.new;
    before = t.before;
    alive = t.alive;
    result = t.result;
    step = t.step;
    queue = emptied none;
    count = t.count;
  }

  pub turn_goes_on : StepsWell t.base held (op_at s) (lost_at s) awaited mv t.result → GoesOn s (move w m).world (lines_in w m)
  turn_goes_on (stepping.WorksOn p goes g is) =
      turn_works s w m held rest t mv h i u c begun commands awaited waiting o p goes g is
  turn_goes_on (stepping.IsDone e none well low is) =
      turn_ends s w m held e (at_end none) is
      (record {
        grants = u.grants;
        grant = u.grant;
        granted = u.granted;
        others = u.others;
        aside = u.aside;
        server = u.server;
        drives = c.drives;
        size = c.size;
        low = low;
      })
      well all_sent
  turn_goes_on (stepping.Commits timed past it is) =
      turn_commits s w m held timed (at_end it.done) is u c.drives it.writes past it.well all_sent
  turn_goes_on (stepping.Reports x timed turns low it is) =
      turn_reports laws s w m held (kept_at s).size x timed (at_end it.done) is h i u it.writes
      (are_silent s (move w m).world held (kept_at s).size u it.writes (x ∷ timed) it.well) (omega (arith, all_sent))
