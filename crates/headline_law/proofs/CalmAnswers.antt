-- The answers that the server sends in a move that is followed fit their bytes.
use Rattle.std.proofs.Common.{◌≡◌, ◌≤◌, ◌++◌, ◌+◌, ◌^◌, ℕ, List, [], ◌∷◌, Some, slice_get, sym, subst, inl, inr}
use Rattle.layout_ops.specs.declared.messages.Answer.{Answer}
use Rattle.scenario_text.specs.declared.line.Line.{Line}
use Rattle.scenario_text.specs.declared.line.Line.TheVariants as line
use Rattle.server_rules.specs.History.{step}
use Rattle.server_rules.specs.Laws.{In}
use Rattle.world_history.specs.Moves.{Action, Opens, Delivers, TimesOut, Pends}
use Rattle.world_history.specs.Sending.{move}
use Rattle.world_history.specs.ServerNames.{Server, Outgoing, Answers, Recalls, ToDrive, AnswersOrder}
use Rattle.world_history.specs.State.{World}
use Rattle.history_law.specs.BookMoments.{lines_in}
use Rattle.history_law.specs.Doing.{input_in}
use Rattle.history_law.specs.Moments.{with_event}
use Rattle.exchange_law.specs.Text.{AreOfText}
use Rattle.exchange_law.proofs.Answering.{GoodBelow, SentGood}
use Rattle.exchange_law.proofs.CountGrowing.{text_behind, text_front}
use Rattle.exchange_law.proofs.CountMoments.{at_moment}
use Rattle.exchange_law.proofs.CountSending.{ReadAny, read_input}
use Rattle.exchange_law.proofs.CountTelling.{step_good}
use Rattle.exchange_law.proofs.CountWorlds.{GivenAny, given_event, given_brought}
use Rattle.cause_law.proofs.Files.{AreGood, all_good}
use Rattle.relation_law.proofs.FramesParties.{server_steps}
use Rattle.headline_law.specs.Ending.{FollowedAnswersFit}

-- ---- what comes to the server

pub given_by : (w : World) (h : List Line) (a : Action) (ls : List Line) → AreOfText (h ++ with_event a ls) →
    GivenAny (input_in w a)
given_by w h (Opens e) ls text = given_event w e (text_behind h (line.Event e ∷ ls) text).0
given_by w h (Delivers n) ls text = given_brought w (slice_get w.network.messages n)
given_by w h (TimesOut c k) ls text = tt
given_by w h (Pends c) ls text = tt

-- ---- what it sends

good_in : (first last k : ℕ) (os : List Outgoing) → SentGood first last k os → (a : Answer) → In (Answers a) os → GoodBelow last a
good_in first last k [] g a i = absurd i
good_in first last k (Answers b ∷ os) g a (inl same) =
    let one : a ≡ b = cc same in
    subst (GoodBelow last) (sym one) g.0
good_in first last k (Answers b ∷ os) g a (inr i) = good_in first last (k + 1) os g.2 a i
good_in first last k (Recalls r ∷ os) g a (inl same) = absurd (cc same)
good_in first last k (Recalls r ∷ os) g a (inr i) = good_in first last (k + 1) os g.1 a i
good_in first last k (ToDrive d c ∷ os) g a (inl same) = absurd (cc same)
good_in first last k (ToDrive d c ∷ os) g a (inr i) = good_in first last (k + 1) os g a i
good_in first last k (AnswersOrder b ∷ os) g a (inl same) = absurd (cc same)
good_in first last k (AnswersOrder b ∷ os) g a (inr i) = good_in first last (k + 1) os g a i

pub followed_answers_fit : FollowedAnswersFit
followed_answers_fit w h m count f g s k i is a sent =
    let good = at_moment AreGood all_good w h k.moment in
    let text : AreOfText h = text_front h (lines_in w m) k.text in
    let given : GivenAny (Some i) = subst GivenAny is (given_by w h m.action (move w m).lines k.text) in
    let read : ReadAny (Some i) = subst ReadAny is (read_input w m.action) in
    let all = step_good w.server m.chosen i (good.there text).server given read (good.slots text) in
    (good_in w.server.next_object (step w.server m.chosen i).state.next_object 0 (step w.server m.chosen i).sends all.sends a sent
    (subst (λ (t : Server). t.next_object ≤ 2 ^ 63) (server_steps w m i is) k.room.objects)).0
