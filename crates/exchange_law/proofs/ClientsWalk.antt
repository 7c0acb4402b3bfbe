-- What holds of each client holds at each moment, where each move keeps it: a step of a client, a step of the server, and
-- what is a step of neither.
use Rattle.std.proofs.Common.{◌≡◌, ◌++◌, ℕ, List, Some, inl, inr, sym, ap, subst, ◌∙◌}
use Rattle.std.proofs.lemmas.Bool.{cases_eq}
use Rattle.scenario_text.specs.declared.line.Line.{Line}
use Rattle.client_rules.specs.History.{Input, step as client_step}
use Rattle.server_rules.specs.History.{step}
use Rattle.world_history.specs.ClientNames.{Client}
use Rattle.world_history.specs.ServerNames.{Server}
use Rattle.world_history.specs.History.{OneEventMore}
use Rattle.world_history.specs.Moves.{Action, acts}
use Rattle.world_history.specs.Plans.{due}
use Rattle.world_history.specs.Sending.{Move, move}
use Rattle.world_history.specs.State.{World, ClientAt, at_number, empty_world}
use Rattle.history_law.specs.BookMoments.{IsMoment, lines_in, plan_at}
use Rattle.history_law.proofs.Goes.{moves_are_steps}
use Rattle.exchange_law.specs.Doing.{IsHeardByClient, ServerGoes, ClientGoes, Goes, Others, AServer, AClient, Stops, Comes}
use Rattle.exchange_law.specs.InStep.{state_of, client_of}
use Rattle.exchange_law.proofs.Each.{put_same, put_other, stopped_same, come_same}
use Rattle.exchange_law.proofs.SlotMoments.{comes_new, always}

-- ---- a move

-- it is a step of the server, of a client, or of neither, and the other clients stay as they were
pub data StepOf (w : World) (m : Move) : Type 0 where
  OfNeither : (move w m).world.server ≡ w.server → ((c : ℕ) → client_of (move w m).world c ≡ client_of w c) → StepOf w m
  OfServer : ServerGoes w m.chosen (acts w m.chosen m.action) → ((c : ℕ) → client_of (move w m).world c ≡ client_of w c)
      → StepOf w m
  OfClient : (g : ClientGoes w (acts w m.chosen m.action))
      → client_of (move w m).world g.client ≡ (client_step g.before.state g.input).client
      → ((c : ℕ) → (c ≡ g.client → ⊥) → client_of (move w m).world c ≡ client_of w c) → StepOf w m

pub step_of : (w : World) (h : List Line) (k : IsMoment w h) (m : Move) → due (plan_at k) w ≡ Some m.action → StepOf w m
step_of w h k m d = by_goes (moves_are_steps w m.chosen m.action).goes
  where
    by_goes : Goes w m.chosen m.action (acts w m.chosen m.action) → StepOf w m
    by_goes (Others g) = OfNeither g.server (λ c. ap (λ (xs : _). state_of c (at_number xs c)) g.clients)
    by_goes (AServer g) = OfServer g (λ c. ap (λ (xs : _). state_of c (at_number xs c)) g.clients)
    by_goes (AClient g) =
        OfClient g
        (ap (λ (xs : _). state_of g.client (at_number xs g.client)) g.clients
        ∙ ap (state_of g.client) (put_same w.clients g.client g.before g.after g.found) ∙ g.state)
        (λ c other. ap (λ (xs : _). state_of c (at_number xs c)) g.clients
        ∙ ap (state_of c) (put_other w.clients g.client c g.after other))
    by_goes (Stops g) =
        OfNeither g.server (λ c. ap (λ (xs : _). state_of c (at_number xs c)) g.clients
        ∙ stopped_same w.clients g.client c g.before g.after g.found g.state)
    by_goes (Comes g) =
        let none = comes_new w h k g.client (d ∙ ap (λ (x : Action). Some x) g.action_is) in
        OfNeither g.server (λ c. ap (λ (xs : _). state_of c (at_number xs c)) g.clients
        ∙ come_same w.clients g.client c g.after none g.state)

-- ---- at each moment

module _ (R : World → (c : ℕ) → Client → Type 0) where
  -- it holds of each client
  abbrev pub OfEach : World → Type 0
  OfEach w = (c : ℕ) → R w c (client_of w c)

  -- each move keeps it, as far as T holds of what was written
  module _ (T : List Line → Type 0) where
    pub record MovesKeep : Type 0 where
      pub front : (h ls : List Line) → T (h ++ ls) → T h
      pub starts : OfEach empty_world
      pub rests : (w : World) (h : List Line) (k : IsMoment w h) (m : Move) → due (plan_at k) w ≡ Some m.action
          → T (h ++ lines_in w m) → (move w m).world.server ≡ w.server → (c : ℕ) (x : Client) → R w c x
          → R (move w m).world c x
      pub client : (w : World) (h : List Line) → IsMoment w h → T h → OfEach w → (c : ℕ) (a : ClientAt)
          → at_number w.clients c ≡ Some a → (i : Input) → IsHeardByClient w c i → R w c (client_step a.state i).client
      pub server : (w : World) (h : List Line) (k : IsMoment w h) (m : Move) → due (plan_at k) w ≡ Some m.action → T h
          → T (h ++ lines_in w m) → OfEach w → ServerGoes w m.chosen (acts w m.chosen m.action) → (c : ℕ)
          → R (move w m).world c (client_of w c)

    module _ (keep : MovesKeep) where
      move_keeps : (w : World) (h : List Line) (k : IsMoment w h) (m : Move) → due (plan_at k) w ≡ Some m.action → T h
          → T (h ++ lines_in w m) → OfEach w → StepOf w m → OfEach (move w m).world
      move_keeps w h k m d t u s (OfNeither server stays) c =
          subst (R (move w m).world c) (sym (stays c)) (keep.rests w h k m d u server c (client_of w c) (s c))
      move_keeps w h k m d t u s (OfServer g stays) c =
          subst (R (move w m).world c) (sym (stays c)) (keep.server w h k m d t u s g c)
      move_keeps w h k m d t u s (OfClient g after stays) c = elim (cases_eq c g.client) [
        | inl it ↦
            subst (λ (n : ℕ). R (move w m).world n (client_of (move w m).world n)) (sym it)
            (subst (R (move w m).world g.client) (sym after)
            (keep.rests w h k m d u g.server g.client _
            (keep.client w h k t s g.client g.before g.found g.input g.heard)))
        | inr other ↦
            subst (R (move w m).world c) (sym (stays c other))
            (keep.rests w h k m d u g.server c (client_of w c) (s c))
      ]

      abbrev Stand : World → List Line → Type 0
      Stand w h = T h → OfEach w

      -- so it is at each moment
      pub always_of_each : OneEventMore → (w : World) (h : List Line) → IsMoment w h → T h → OfEach w
      always_of_each more =
          always Stand (record {
            starts = λ t. keep.starts;
            moves = λ w h k m d s t.
                let before = keep.front h (lines_in w m) t in
                move_keeps w h k m d before t (s before) (step_of w h k m d);
          }) more

-- ---- what holds of the server and a client

module _ (R : Server → (c : ℕ) → Client → Type 0) (T : List Line → Type 0) where
  abbrev pub InWorld : World → (c : ℕ) → Client → Type 0
  InWorld w c x = R w.server c x

  -- each step keeps it
  pub record StepsKeep : Type 0 where
    pub front : (h ls : List Line) → T (h ++ ls) → T h
    pub starts : OfEach InWorld empty_world
    pub client : (w : World) (h : List Line) → IsMoment w h → T h → OfEach InWorld w → (c : ℕ) (a : ClientAt)
        → at_number w.clients c ≡ Some a → (i : Input) → IsHeardByClient w c i → R w.server c (client_step a.state i).client
    pub server : (w : World) (h : List Line) (k : IsMoment w h) (m : Move) → due (plan_at k) w ≡ Some m.action → T h
        → T (h ++ lines_in w m) → OfEach InWorld w → (g : ServerGoes w m.chosen (acts w m.chosen m.action)) → (c : ℕ)
        → R (step w.server m.chosen g.input).state c (client_of w c)

  -- so it is at each moment
  pub holds_always : StepsKeep → OneEventMore → (w : World) (h : List Line) → IsMoment w h → T h → OfEach InWorld w
  holds_always keep =
      always_of_each InWorld T (record {
        front = keep.front;
        starts = keep.starts;
        rests = λ w h k m d t same c x r. subst (λ (s : Server). R s c x) (sym same) r;
        client = keep.client;
        server = λ w h k m d t u s g c.
            subst (λ (y : Server). R y c (client_of w c)) (sym g.server) (keep.server w h k m d t u s g c);
      })
