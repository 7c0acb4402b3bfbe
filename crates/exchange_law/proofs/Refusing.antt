-- What a reply says of a refusal holds of each refusal that a line tells.
use Rattle.std.proofs.Common.{◌≡◌, ◌&&◌, ◌+◌, ℕ, Bool, true, false, List, [], ◌∷◌, ◌++◌, Option, Some, None, nat_lt, refl, sym, ap, subst, ◌∙◌, append_assoc, inl, inr}
use Rattle.std.proofs.lemmas.List.{append-nil}
use Rattle.std.proofs.lemmas.Bool.{cases_eq}
use Rattle.scenario_text.specs.declared.names.TheConstants.{DRIVES, CLIENTS}
use Rattle.scenario_text.specs.declared.line.CallKind.{CallKind}
use Rattle.scenario_text.specs.declared.line.Ending.TheVariants.{Refused as Refuses, Held}
use Rattle.scenario_text.specs.declared.line.Outcome.TheVariants.{Failed}
use Rattle.scenario_text.specs.declared.line.Line.{Line}
use Rattle.scenario_text.specs.declared.line.Line.TheVariants as line
use Rattle.client_rules.specs.History.{Input, Calls, Hears, TimesOut, Leaves, Resends}
use Rattle.client_rules.specs.Messages.{Message as ClientMessage}
use Rattle.history_law.specs.State.{Client, CallOp, Outcome, WriteOk, ReadOk, NoFile, HeldBy, Fencing, Degraded, Spent, Status, Refused, Silent, Lost, BadLayout}
use Rattle.osd_lists.specs.declared.node.Node.{Node}
use Rattle.world_history.specs.State.{ClientAt, World, at_number, empty_world}
use Rattle.world_history.specs.Told.{kind_of, verdict_with}
use Rattle.world_history.specs.Names.{where_known, has_tag, known_outcome}
use Rattle.world_history.specs.Handed.{Post, end_line, ended_by, op_in}
use Rattle.world_history.specs.Moves.{Act, Action, Opens, Delivers, TimesOut, Pends, acts}
use Rattle.world_history.specs.Sending.{Move, move, sent_lines}
use Rattle.world_history.specs.History.{OneEventMore, Lawful}
use Rattle.client_rules.specs.History.{step as client_step}
use Rattle.history_law.specs.Safe.{AtEachLine}
use Rattle.history_law.proofs.Each.{EachBehind, each_more, each_front, at_each_line}
use Rattle.history_law.specs.BookMoments.{IsMoment, with_event, lines_in}
use Rattle.exchange_law.proofs.Along.{lawful}
use Rattle.exchange_law.proofs.Turning.{IsNoRefusal, AreNoRefusals, AreSame, Becomes, ComesTo, IsAwake, Turn, ByServer, ByClient, ByDrive, Makes, Stops, Rests, ClientDoes}
use Rattle.exchange_law.proofs.Turns.{acts_turn}
use Rattle.exchange_law.proofs.Told.{OutcomeTold, CallTold, EndTold}
use Rattle.exchange_law.proofs.ToldSteps.{InputSays, step_told, wider_call}

-- ---- of lines

-- the line is no refusal, or such a one
abbrev pub LineSays : ((client drive number detail : ℕ) → Type 0) → Line → Type 0
LineSays Q (line.Ended c (Failed kind (Refuses d v))) = (n e : ℕ) × (v ≡ verdict_with n e) × Q c d n e
LineSays Q l = Unit {0}

abbrev AllSay : ((client drive number detail : ℕ) → Type 0) → List Line → Type 0
AllSay Q [] = Unit {0}
AllSay Q (l ∷ ls) = LineSays Q l × AllSay Q ls

module _ (Q : (client drive number detail : ℕ) → Type 0) where
  no_refusal : (l : Line) → IsNoRefusal l → LineSays Q l
  no_refusal (line.Ended c (Failed kind (Refuses d v))) n = absurd n
  no_refusal l n = tt

  no_refusals : (ls : List Line) → AreNoRefusals ls → AllSay Q ls
  no_refusals [] n = tt
  no_refusals (l ∷ ls) n = (no_refusal l n.0, no_refusals ls n.1)

  say_more : (xs ys : List Line) → AllSay Q xs → AllSay Q ys → AllSay Q (xs ++ ys)
  say_more [] ys s t = t
  say_more (x ∷ xs) ys s t = (s.0, say_more xs ys s.1 t)

  messages_say : (n : ℕ) (ps : List Post) → AllSay Q (sent_lines n ps)
  unfolding sent_lines
  messages_say n [] = tt
  messages_say n (p ∷ ps) = (tt, messages_say (n + 1) ps)

  event_says : (a : Action) (ls : List Line) → AllSay Q ls → AllSay Q (with_event a ls)
  event_says (Opens e) ls s = (tt, s)
  event_says (Delivers n) ls s = s
  event_says (TimesOut c n) ls s = s
  event_says (Pends c) ls s = s

  -- how a call ended
  known_says : (c d n e : ℕ) (kind : CallKind) (known : Bool) → Q c d n e
      → AllSay Q (end_line c (where_known known (Failed kind (Refuses d (verdict_with n e)))))
  known_says c d n e kind true q = ((n, e, refl, q), tt)
  known_says c d n e kind false q = tt

  held_says : (c : ℕ) (kind : CallKind) (k : ℕ) (known : Bool)
      → AllSay Q (end_line c (where_known known (Failed kind (Held k))))
  held_says c kind k true = (tt, tt)
  held_says c kind k false = tt

  quiet_says : (c : ℕ) (kind : CallKind) (o : Outcome) → OutcomeTold (Q c) o
      → AllSay Q (end_line c (known_outcome kind o))
  quiet_says c kind (Refused d n e) q = known_says c d n e kind (nat_lt d DRIVES && has_tag n e) q
  quiet_says c kind (HeldBy k) q = held_says c kind k (nat_lt k CLIENTS)
  quiet_says c kind (WriteOk n) q = (tt, tt)
  quiet_says c kind (ReadOk bytes) q = (tt, tt)
  quiet_says c kind NoFile q = (tt, tt)
  quiet_says c kind (Fencing n) q = (tt, tt)
  quiet_says c kind (Degraded n) q = (tt, tt)
  quiet_says c kind Spent q = (tt, tt)
  quiet_says c kind (Status status detail) q = (tt, tt)
  quiet_says c kind (Silent n) q = (tt, tt)
  quiet_says c kind (Lost ps) q = (tt, tt)
  quiet_says c kind (BadLayout w) q = (tt, tt)

  ended_says : (c : ℕ) (op : Option CallOp) (o : Option Outcome) → EndTold (Q c) o → AllSay Q (ended_by c op o)
  ended_says c None o q = tt
  ended_says c (Some op) None q = tt
  ended_says c (Some op) (Some o) q = quiet_says c (kind_of op) o q

module _ (Q : List Line → (client drive number detail : ℕ) → Type 0)
    (wider : (h more : List Line) (c d n e : ℕ) → Q h c d n e → Q (h ++ more) c d n e) where
  wider_line : (h more : List Line) (l : Line) → LineSays (Q h) l → LineSays (Q (h ++ more)) l
  wider_line h more (line.Ended c (Failed kind (Refuses d v))) s = (s.0, s.1, s.2, wider h more c d s.0 s.1 s.3)
  wider_line h more l s = tt

  -- of each line and the lines before it
  each_says : (h before ls : List Line) (more : List Line) → before ≡ h ++ more → AllSay (Q h) ls
      → EachBehind (λ b l. LineSays (Q b) l) before ls
  each_says h before [] more is s = tt
  each_says h before (l ∷ ls) more is s = (
    subst (λ (b : List Line). LineSays (Q b) l) (sym is) (wider_line h more l s.0),
    each_says h (before ++ l ∷ []) ls (more ++ l ∷ [])
        (ap (λ (b : List Line). b ++ l ∷ []) is ∙ append_assoc h more (l ∷ [])) s.1,
  )

  -- ---- at each moment

  pub record IsTold (w : World) (h : List Line) : Type 0 where
    pub calls : (c : ℕ) (a : ClientAt) → at_number w.clients c ≡ Some a → CallTold (Q h c) a.state.call
    pub lines : EachBehind (λ b l. LineSays (Q b) l) [] h

  -- ---- a move

  -- each reply that is taken at a moment says so
  abbrev pub EachSays : Type 0
  EachSays =
      (w : World) (h : List Line) → IsMoment w h → (c : ℕ) (a : ClientAt) → at_number w.clients c ≡ Some a
      → a.stopped ≡ false → (from : Node) (x : ClientMessage) → ComesTo w c (Hears from x)
      → InputSays (Q h c) a.state (Hears from x)

  module _ (says : EachSays) (w : World) (h : List Line) (m : Move) (k : IsMoment w h) (t : IsTold w h) where
    abbrev act : Act
    act = acts w m.chosen m.action

    abbrev after : List Line
    after = h ++ lines_in w m

    lines_told : AllSay (Q h) act.told → EachBehind (λ b l. LineSays (Q b) l) [] after
    lines_told told =
        each_more (λ b l. LineSays (Q b) l) [] h (lines_in w m) t.lines
        (each_says h h (lines_in w m) [] (sym (append-nil h))
        (event_says (Q h) m.action (move w m).lines
        (say_more (Q h) act.told _ told (messages_say (Q h) _ act.posts))))

    -- a call that stays as it is
    call_stays : (c : ℕ) (a : ClientAt) → at_number w.clients c ≡ Some a → CallTold (Q after c) a.state.call
    call_stays c a found =
        wider_call (Q h c) (Q after c) (λ d n e q. wider h (lines_in w m) c d n e q) a.state.call (t.calls c a found)

    same_told : AreSame w act.world → AreNoRefusals act.told → IsTold (move w m).world after
    same_told same told = record {
      calls = λ c a found. call_stays c a (sym (same c) ∙ found);
      lines = lines_told (no_refusals (Q h) act.told told);
    }

    one_told : (c : ℕ) (now : ClientAt) → Becomes w act.world c now → CallTold (Q after c) now.state.call
        → AllSay (Q h) act.told → IsTold (move w m).world after
    one_told c now becomes call told = record {
      calls =
          λ d a found. elim (cases_eq d c) [
            | inl it ↦
                let here : Some now ≡ Some a =
                sym becomes.there ∙ ap (λ (n : ℕ). at_number act.world.clients n) (sym it) ∙ found in
                let same : now ≡ a = cc here in
                subst (λ (x : ClientAt). CallTold (Q after d) x.state.call) same
                (subst (λ (n : ℕ). CallTold (Q after n) now.state.call) (sym it) call)
            | inr other ↦ call_stays d a (sym (becomes.others d other) ∙ found)
          ];
      lines = lines_told told;
    }

    input_says : (b : ClientDoes w act) (i : Input) → b.input ≡ i → InputSays (Q h b.client) b.caller.state i
    input_says b (Hears from x) is =
        says w h k b.client b.caller b.found (subst (IsAwake b.caller) is b.awake) from x
        (subst (ComesTo w b.client) is b.comes)
    input_says b (Calls op) is = tt
    input_says b (TimesOut n) is = tt
    input_says b Leaves is = tt
    input_says b Resends is = tt

    client_told : ClientDoes w act → IsTold (move w m).world after
    client_told b =
        let s = step_told (Q h b.client) b.caller.state b.input (t.calls b.client b.caller b.found)
        (input_says b b.input refl) in
        let call : CallTold (Q h b.client) b.now.state.call =
        subst (λ (x : Client). CallTold (Q h b.client) x.call) (sym b.state) s.call in
        let told : AllSay (Q h) act.told = subst (AllSay (Q h)) (sym b.told)
        (say_more (Q h) b.front _ (no_refusals (Q h) b.front b.quiet)
        (ended_says (Q h) b.client (op_in b.caller.state b.input)
        (client_step b.caller.state b.input).outcome s.outcome)) in
        one_told b.client b.now b.becomes
        (wider_call (Q h b.client) (Q after b.client) (λ d n e q. wider h (lines_in w m) b.client d n e q)
        b.now.state.call call) told

    turn_told : Turn w m.action act → IsTold (move w m).world after
    turn_told (ByServer b) = same_told b.clients b.told
    turn_told (ByClient b) = client_told b
    turn_told (ByDrive b) = same_told b.clients (subst AreNoRefusals (sym b.told) (tt, tt))
    turn_told (Makes b) =
        one_told b.client b.now b.becomes (subst (λ (x : Client). CallTold (Q after b.client) x.call) (sym b.state) tt)
        (no_refusals (Q h) act.told b.told)
    turn_told (Stops b) =
        one_told b.client b.now b.becomes
        (subst (λ (x : Client). CallTold (Q after b.client) x.call) (sym b.state)
        (call_stays b.client b.caller b.found))
        (no_refusals (Q h) act.told b.told)
    turn_told (Rests b) = same_told b.clients b.told

  none_told : IsTold empty_world []
  none_told = record { calls = λ c a found. absurd (cc found); lines = tt }

  -- so of each line of a lawful history
  pub refusals_say : OneEventMore → EachSays → (h : List Line) → Lawful h → AtEachLine (λ b l. LineSays (Q b) l) h
  refusals_say further says h l =
      let all = lawful further IsTold (record {
        starts = none_told;
        moves = λ w g m k next may t. turn_told says w g m k t (acts_turn w m.chosen m.action).turn;
      }) h l in
      at_each_line (λ b l. LineSays (Q b) l) h (each_front (λ b l. LineSays (Q b) l) [] h all.1 all.2.lines)
