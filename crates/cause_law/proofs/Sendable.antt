-- What the server sends in a move of a history of a scenario's text with few messages fits its places.
use Rattle.std.proofs.Common.{◌≡◌, ◌≤◌, ◌^◌, ℕ, ◌+◌, Bool, true, false, List, [], ◌∷◌, ◌++◌, Some, sym, subst, ap, inl, inr}
use Rattle.osd_lists.specs.declared.node.Node.{Node}
use Rattle.layout_ops.specs.declared.envelope.Envelope.TheVariants as envelope
use Rattle.layout_ops.specs.Spelling.{EnvelopeFits}
use Rattle.server_rules.specs.History.{Input, Hears, Makes, Adds, Formats, step}
use Rattle.server_rules.specs.Laws.{In}
use Rattle.scenario_text.specs.Spelling.{Fits}
use Rattle.scenario_text.specs.declared.event.Event.TheVariants as event
use Rattle.scenario_text.specs.declared.event.Machine.TheVariants as machine
use Rattle.scenario_text.specs.declared.event.Sender.TheVariants as sender
use Rattle.scenario_text.specs.declared.line.Line.{Line}
use Rattle.world_history.specs.ServerNames.{Server, RawMap, Answer, Recall, Outgoing, ToDrive, Recalls, Answers, AnswersOrder}
use Rattle.world_history.specs.State.{World}
use Rattle.world_history.specs.Moves.{Action, Opens, Delivers, TimesOut, Pends, raw_of}
use Rattle.world_history.specs.Plans.{due}
use Rattle.world_history.specs.Sending.{Move, move}
use Rattle.history_law.specs.Moments.{IsMoment, with_event, plan_at, lines_in}
use Rattle.history_law.specs.Moves.{IsForServer, given_in}
use Rattle.history_law.proofs.Ending.{next_moment}
use Rattle.history_law.proofs.Moves.{none_added}
use Rattle.exchange_law.specs.Text.{AreOfText}
use Rattle.exchange_law.proofs.Answering.{SentGood}
use Rattle.exchange_law.proofs.CountGrowing.{text_front, text_behind}
use Rattle.exchange_law.proofs.CountStepping.{IsGiven}
use Rattle.exchange_law.proofs.CountTelling.{ReadsWell, step_good}
use Rattle.exchange_law.proofs.CountSending.{ReadAny, read_input, heard_is}
use Rattle.exchange_law.proofs.CountWorlds.{one_or_two}
use Rattle.exchange_law.proofs.CountMoments.{at_moment}
use Rattle.component_law.specs.Live.{AreShort}
use Rattle.cause_law.proofs.Files.{AreGood, all_good, few_objects}

-- ---- what comes

-- if the action opens an event, a text may have it
abbrev Fitting : Action → Type 0
Fitting (Opens e) = Fits e
Fitting action = Unit {0}

opened : (a : Action) (ls : List Line) → AreOfText (with_event a ls) → Fitting a
opened (Opens e) ls t = t.0
opened (Delivers number) ls t = tt
opened (TimesOut c component) ls t = tt
opened (Pends c) ls t = tt

makes : (a : Action) (n : ℕ) (r : RawMap) (tag : ℕ) (zoned : Bool) → Fitting a → given_in a ≡ Some (Makes n r tag zoned)
    → IsGiven (Makes n r tag zoned)
makes (Opens (event.File f m t)) n r tag zoned k e =
    let same : Makes f (raw_of m) t false ≡ Makes n r tag zoned = cc e in
    subst IsGiven same (k.1.0, k.1.1.1.1.1.1.1.1.0.1, k.1.1.1.1.1.1.1.0)
makes (Opens (event.ZonedFile f m t)) n r tag zoned k e =
    let same : Makes f (raw_of m) t true ≡ Makes n r tag zoned = cc e in
    subst IsGiven same (k.1.0, k.1.1.1.1.1.1.1.1.0.1, k.1.1.1.1.1.1.1.0)
makes (Opens (event.Resend sender.Server)) n r tag zoned k e = absurd (cc e)
makes (Opens (event.Crash machine.Server)) n r tag zoned k e = absurd (cc e)
makes (Opens (event.Reopen machine.Server)) n r tag zoned k e = absurd (cc e)
makes a n r tag zoned k e = absurd (cc e)

formats : (a : Action) (n : ℕ) → Fitting a → given_in a ≡ Some (Formats n) → IsGiven (Formats n)
formats (Opens (event.Format f)) n k e =
    let same : Formats f ≡ Formats n = cc e in subst IsGiven same (one_or_two f k.1.1.0.0 k.1.1.0.1)
formats (Opens (event.Resend sender.Server)) n k e = absurd (cc e)
formats (Opens (event.Crash machine.Server)) n k e = absurd (cc e)
formats (Opens (event.Reopen machine.Server)) n k e = absurd (cc e)
formats a n k e = absurd (cc e)

given : (w : World) (a : Action) (i : Input) → Fitting a → IsForServer w a i → IsGiven i
given w a (Makes n r tag zoned) f is = makes a n r tag zoned f is
given w a (Formats n) f is = formats a n f is
given w a (Adds d) f is = absurd (none_added w a d is)
given w a i f is = tt

read : (w : World) (chosen : List ℕ) (a : Action) (i : Input) → IsForServer w a i → ReadsWell i
read w chosen a (Hears now from m) (d, time, sender, is, number, up) =
    subst (λ (n : ℕ). ReadsWell (Hears n from m)) (sym time)
    (subst (λ (n : Node). ReadsWell (Hears w.clock n m)) (sym sender)
    (subst ReadAny (heard_is w chosen a d m is number up) (read_input w a)))
read w chosen a i is = tt

-- ---- what is sent

answer_in : (first last k : ℕ) (os : List Outgoing) (a : Answer) → last ≤ 2 ^ 63 → SentGood first last k os
    → In (Answers a) os → EnvelopeFits (envelope.Answer a)
answer_in first last k [] a few good i = absurd i
answer_in first last k (Answers b ∷ os) a few good (inl e) =
    let same : a ≡ b = cc e in subst (λ (x : Answer). EnvelopeFits (envelope.Answer x)) (sym same) (good.0 few).0
answer_in first last k (Answers b ∷ os) a few good (inr i) = answer_in first last (k + 1) os a few good.2 i
answer_in first last k (Recalls r ∷ os) a few good (inl e) = absurd (cc e)
answer_in first last k (Recalls r ∷ os) a few good (inr i) = answer_in first last (k + 1) os a few good.1 i
answer_in first last k (ToDrive d c ∷ os) a few good (inl e) = absurd (cc e)
answer_in first last k (ToDrive d c ∷ os) a few good (inr i) = answer_in first last (k + 1) os a few good i
answer_in first last k (AnswersOrder b ∷ os) a few good (inl e) = absurd (cc e)
answer_in first last k (AnswersOrder b ∷ os) a few good (inr i) = answer_in first last (k + 1) os a few good i

recall_in : (first last k : ℕ) (os : List Outgoing) (r : Recall) → SentGood first last k os → In (Recalls r) os
    → EnvelopeFits (envelope.Recall r)
recall_in first last k [] r good i = absurd i
recall_in first last k (Answers b ∷ os) r good (inl e) = absurd (cc e)
recall_in first last k (Answers b ∷ os) r good (inr i) = recall_in first last (k + 1) os r good.2 i
recall_in first last k (Recalls x ∷ os) r good (inl e) =
    let same : r ≡ x = cc e in subst (λ (y : Recall). EnvelopeFits (envelope.Recall y)) (sym same) good.0
recall_in first last k (Recalls x ∷ os) r good (inr i) = recall_in first last (k + 1) os r good.1 i
recall_in first last k (ToDrive d c ∷ os) r good (inl e) = absurd (cc e)
recall_in first last k (ToDrive d c ∷ os) r good (inr i) = recall_in first last (k + 1) os r good i
recall_in first last k (AnswersOrder b ∷ os) r good (inl e) = absurd (cc e)
recall_in first last k (AnswersOrder b ∷ os) r good (inr i) = recall_in first last (k + 1) os r good i

-- of the step of a move
module _ (w : World) (h : List Line) (k : IsMoment w h) (m : Move) (d : due (plan_at k) w ≡ Some m.action)
    (short : AreShort (h ++ lines_in w m)) (i : Input) (handed : IsForServer w m.action i)
    (state : (move w m).world.server ≡ (step w.server m.chosen i).state) where
  text : AreOfText h
  text = text_front h (lines_in w m) short.text

  fewer : (step w.server m.chosen i).state.next_object ≤ 2 ^ 63
  fewer =
      subst (λ (s : Server). s.next_object ≤ 2 ^ 63) state
      (few_objects (move w m).world (h ++ lines_in w m) (next_moment w h k m d) short.text short.few)

  good : SentGood w.server.next_object (step w.server m.chosen i).state.next_object 0 (step w.server m.chosen i).sends
  good =
      let its : AreGood w h = at_moment AreGood all_good w h k in
      let fits : Fitting m.action = opened m.action (move w m).lines (text_behind h (lines_in w m) short.text) in
      (step_good w.server m.chosen i (its.there text).server (given w m.action i fits handed)
      (read w m.chosen m.action i handed) (its.slots text)).sends

  pub answer_fits : (a : Answer) → In (Answers a) (step w.server m.chosen i).sends → EnvelopeFits (envelope.Answer a)
  answer_fits a among = answer_in _ _ 0 (step w.server m.chosen i).sends a fewer good among

  pub recall_fits : (r : Recall) → In (Recalls r) (step w.server m.chosen i).sends → EnvelopeFits (envelope.Recall r)
  recall_fits r among = recall_in _ _ 0 (step w.server m.chosen i).sends r good among
