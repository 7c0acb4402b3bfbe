-- In each whole history each request that is new to the server has its answer.
use Rattle.std.proofs.Common.{◌≡◌, ◌==◌, ◌&&◌, ℕ, ◌+◌, Bool, true, false, nat_lt, nat_le, List, [], ◌∷◌, ◌++◌, length, map, filter, Some, refl, sym, ap, subst, ◌∙◌, arith, append_assoc, if◌then◌else◌}
use Rattle.std.proofs.lemmas.Bool.{false≢true}
use Rattle.std.proofs.lemmas.Bool.Decides.{nat_tests}
use Rattle.osd_lists.proofs.Slices.{head_same, tail_same}
use Rattle.osd_lists.specs.declared.node.Node.TheVariants as node
use Rattle.server_rules.specs.Files.{Step}
use Rattle.server_rules.specs.History.{Input, Hears, step}
use Rattle.server_rules.specs.Laws.{ConflictsAreExact, FilesArePut, AreSafe, is_taken_of}
use Rattle.server_rules.specs.Messages.{Asks, counters_have_room, on_message}
use Rattle.server_rules.specs.Requests.{on_request}
use Rattle.server_rules.specs.declared.limits.TheConstants.{MAX_CLIENT}
use Rattle.scenario_text.specs.declared.names.TheConstants.{CLIENTS}
use Rattle.scenario_text.specs.declared.line.Line.{Line}
use Rattle.scenario_text.specs.declared.line.Line.TheVariants as line
use Rattle.world_history.specs.ServerNames.{Server, Answer, ClientRequest, Outgoing, Answers}
use Rattle.world_history.specs.State.{World}
use Rattle.world_history.specs.Handed.{Post, is_addressed, server_post}
use Rattle.world_history.specs.Moves.{Act, Action, Opens, Delivers, TimesOut, Pends, acts}
use Rattle.world_history.specs.Sending.{Move, move, sent_line, sent_lines}
use Rattle.world_history.specs.Plans.{due}
use Rattle.world_history.specs.Reading.{is_head}
use Rattle.world_history.specs.Book.{placed_in, server_after}
use Rattle.world_history.specs.History.{OneEventMore}
use Rattle.world_history.specs.Laws.{ServerGoesOn}
use Rattle.history_law.specs.BookMoments.{IsMoment, with_event, plan_at, lines_in}
use Rattle.history_law.specs.Doing.{ServerMoves}
use Rattle.history_law.specs.Grants.{GrantsAreSafe}
use Rattle.history_law.specs.Read.{BookIsRead, StepIsRead}
use Rattle.history_law.proofs.Ending.{next_moment}
use Rattle.cause_law.specs.Answers.{IsCaused, IsNew, answer_line, EndsInAnswer, AnswersIt, EachRequestIsAnswered}
use Rattle.cause_law.proofs.Causing.{Answered, request_answered}
use Rattle.cause_law.proofs.CauseInputs.{IsMoved, IsShown, at_inputs}

-- ---- the last line

-- what is behind another line ends with the last one
last_behind : (l z : Line) → (l ≡ z → ⊥) → (front after ys : List Line) → front ++ l ∷ after ≡ ys ++ z ∷ []
    → (middle : List Line) × (after ≡ middle ++ z ∷ [])
last_behind l z other [] after [] is = absurd (other (head_same l z after [] is))
last_behind l z other [] after (y ∷ ys) is = (ys, tail_same l y after (ys ++ z ∷ []) is)
last_behind l z other (x ∷ []) after [] is = absurd (cc (tail_same x z (l ∷ after) [] is))
last_behind l z other (x ∷ v ∷ front) after [] is = absurd (cc (tail_same x z (v ∷ front ++ l ∷ after) [] is))
last_behind l z other (x ∷ front) after (y ∷ ys) is =
    last_behind l z other front after ys (tail_same x y (front ++ l ∷ after) (ys ++ z ∷ []) is)

last_sent : (n : ℕ) (ps : List Post) (p : Post)
    → (xs : List Line) × (k : ℕ) × (sent_lines n (ps ++ p ∷ []) ≡ xs ++ sent_line k p.message ∷ [])
unfolding sent_lines
last_sent n [] p = ([], n, refl)
last_sent n (x ∷ ps) p =
    let r = last_sent (n + 1) ps p in
    (sent_line n x.message ∷ r.0, r.1, ap (λ (ls : List Line). sent_line n x.message ∷ ls) r.2)

last_event : (a : Action) (told : List Line) (xs : List Line) (z : Line)
    → (ys : List Line) × (with_event a (told ++ (xs ++ z ∷ [])) ≡ ys ++ z ∷ [])
last_event (Opens e) told xs z =
    (line.Event e ∷ (told ++ xs), ap (λ (ls : List Line). line.Event e ∷ ls) (sym (append_assoc told xs (z ∷ []))))
last_event (Delivers number) told xs z = (told ++ xs, sym (append_assoc told xs (z ∷ [])))
last_event (TimesOut c k) told xs z = (told ++ xs, sym (append_assoc told xs (z ∷ [])))
last_event (Pends c) told xs z = (told ++ xs, sym (append_assoc told xs (z ∷ [])))

-- what is posted last
kept_last : (os : List Outgoing) (o : Outgoing) → is_addressed (server_post o) ≡ true
    → filter is_addressed (map server_post (os ++ (o ∷ []))) ≡ filter is_addressed (map server_post os) ++ server_post o ∷ []
kept_last [] o e = rw e refl
kept_last (x ∷ os) o e = either (is_addressed (server_post x)) (kept_last os o e)
  where
    rest : List Post
    rest = filter is_addressed (map server_post (os ++ (o ∷ [])))

    front : List Post
    front = filter is_addressed (map server_post os)

    either : (b : Bool) → rest ≡ front ++ server_post o ∷ []
        → (if b then server_post x ∷ rest else rest) ≡ (if b then server_post x ∷ front else front) ++ server_post o ∷ []
    either true f = ap (λ (ps : List Post). server_post x ∷ ps) f
    either false f = f

-- ---- the step

taken_parts : (a b c d : Bool) → (a && (b && (c && d))) ≡ true → (b ≡ true) × (c ≡ true) × (d ≡ true)
taken_parts true true true true e = (refl, refl, refl)
taken_parts a b c d e = absurd (cc e)

-- a request that is taken has its step
request_step : (s : Server) (now : ℕ) (chosen : List ℕ) (q : ClientRequest) → is_taken_of s q.client q.client q ≡ true
    → step s chosen (Hears now (node.Client q.client) (Asks q)) ≡ on_request s now chosen q
unfolding on_message
request_step s now chosen q e =
    let r = taken_parts (q.client == q.client) (counters_have_room s) (q.client == q.client) (nat_le q.client MAX_CLIENT) e in
    rw (r.0, r.1, r.2) refl

named : (s : Server) (q : ClientRequest) → is_taken_of s q.client q.client q ≡ true → nat_lt q.client CLIENTS ≡ true
named s q e =
    let r = taken_parts (q.client == q.client) (counters_have_room s) (q.client == q.client) (nat_le q.client MAX_CLIENT) e in
    grind (arith, nat_tests, r.2)

none_head : (x : Line) (n : ℕ) (a : Answer) → is_head x ≡ true → x ≡ answer_line n a → ⊥
none_head x n a head same = false≢true (sym (ap is_head same) ∙ head)

-- the server of a moment is safe
pub safe_at : GrantsAreSafe → (w : World) (h : List Line) → IsMoment w h → AreSafe w.server.files
safe_at safe w h k =
    safe w (record { before = k.before; history = k.history; stands = k.stands; moves = k.moves; world_is = k.world_is })

module _ (exact : ConflictsAreExact) (put : FilesArePut) (safe : GrantsAreSafe) (moves : ServerMoves) where
  module _ (w : World) (h : List Line) (k : IsMoment w h) (m : Move) (d : due (plan_at k) w ≡ Some m.action)
      (front : List Line) (l : Line) (after : List Line) (is : lines_in w m ≡ front ++ l ∷ after) (i : Input)
      (moved : IsMoved w h m front l after i) (now : ℕ) (q : ClientRequest) (new : IsNew w.server i now q) where
    -- the step that is read at the line
    abbrev did : Step
    did = on_request w.server now (placed_in after) q

    its_step : step w.server (placed_in after) i ≡ did
    its_step =
        ap (λ (x : Input). step w.server (placed_in after) x) new.comes
        ∙ request_step w.server now (placed_in after) q new.taken

    behind : AreSafe did.state.files
    behind =
        subst (λ (s : Server). AreSafe s.files) (moved.state ∙ ap (λ (t : Step). t.state) its_step)
        (safe_at safe (move w m).world (h ++ lines_in w m) (next_moment w h k m d))

    answered : Answered w.server now q did
    answered = request_answered exact put w.server now (placed_in after) q new.new (safe_at safe w h k) behind

    abbrev post : Post
    post = server_post (Answers answered.answer)

    addressed : is_addressed post ≡ true
    addressed = ap (λ (c : ℕ). nat_lt c CLIENTS) answered.client_is ∙ named w.server q new.taken

    posted : (acts w m.chosen m.action).posts ≡ filter is_addressed (map server_post answered.front) ++ post ∷ []
    posted =
        (moves w m).posts did (moved.did ∙ ap (λ (t : Step). Some t) its_step)
        ∙ ap (λ (os : List Outgoing). filter is_addressed (map server_post os)) answered.sends_are
        ∙ kept_last answered.front (Answers answered.answer) addressed

    -- the answer's line ends the move's lines
    ended : (ys : List Line) × (n : ℕ) × (lines_in w m ≡ ys ++ answer_line n answered.answer ∷ [])
    ended =
        let a : Act = acts w m.chosen m.action in
        let r = last_sent (length a.world.network.messages) (filter is_addressed (map server_post answered.front)) post in
        let e = last_event m.action a.told r.0 (sent_line r.1 post.message) in (
          e.0,
          r.1,
          ap (λ (ps : List Post). with_event m.action (a.told ++ sent_lines (length a.world.network.messages) ps)) posted
              ∙ ap (λ (ls : List Line). with_event m.action (a.told ++ ls)) r.2 ∙ e.1,
        )

    line_answered : EndsInAnswer (h ++ front) l now q after
    line_answered =
        let r = last_behind l (answer_line ended.1 answered.answer) (none_head l ended.1 answered.answer moved.head) front after
        ended.0 (sym is ∙ ended.2) in
        record {
          front = r.0;
          number = ended.1;
          answer = answered.answer;
          lines_are = r.1;
          caused =
              subst (λ (s : Server). IsCaused s (server_after ((h ++ front) ++ l ∷ after)) now q answered.answer)
              (sym moved.server)
              (subst (λ (s : Server). IsCaused w.server s now q answered.answer)
              (sym (moved.behind ∙ ap (λ (t : Step). t.state) its_step)) answered.caused);
        }

  shown : IsShown AnswersIt
  shown = record {
    shows = λ w h k m d written front l after is i moved now q new.
        line_answered w h k m d front l after is i moved now q
        (subst (λ (s : Server). IsNew s i now q) moved.server new);
  }

  pub each_request_is_answered : BookIsRead → StepIsRead → OneEventMore → ServerGoesOn → EachRequestIsAnswered
  each_request_is_answered read step_read more on w h s written =
      at_inputs read step_read moves more on AnswersIt shown w h s written
