-- A read that was answered, and a write of some bytes that was acknowledged, has its entry in the log.
use Rattle.std.proofs.Common.{◌≡◌, ◌&&◌, ◌+◌, nat_lt, ℕ, Bool, true, false, List, [], ◌∷◌, ◌++◌, length, Option, Some, None, refl, sym, ap, subst, ◌∙◌, inl, inr}
use Rattle.std.specs.Prelude.{option_map}
use Rattle.std.specs.List.{filter_map, cons_option}
use Rattle.std.proofs.lemmas.List.Sums.{fold-append}
use Rattle.scenario_text.specs.declared.line.CallKind.{CallKind}
use Rattle.scenario_text.specs.declared.line.Delivery.{Delivery}
use Rattle.scenario_text.specs.declared.line.Delivery.TheVariants as delivery
use Rattle.scenario_text.specs.declared.line.Outcome.{Outcome as ToldOutcome}
use Rattle.scenario_text.specs.declared.line.Outcome.TheVariants as outcome
use Rattle.scenario_text.specs.declared.line.Line.{Line}
use Rattle.scenario_text.specs.declared.line.Line.TheVariants as line
use Rattle.scenario_text.specs.declared.names.TheConstants.{FILES}
use Rattle.server_rules.specs.History as server
use Rattle.client_rules.specs.Calls.{is_write}
use Rattle.client_rules.specs.History.{Input, step}
use Rattle.client_rules.specs.History as inputs
use Rattle.client_rules.specs.Laws.{read_after}
use Rattle.client_rules.proofs.ReadSteps.{reads_took_replies}
use Rattle.world_history.specs.ServerNames.{Note}
use Rattle.world_history.specs.ClientNames as client_rules
use Rattle.world_history.specs.ClientNames.{Client, Call, CallOp, Outcome}
use Rattle.world_history.specs.Handed.{Post, ended_by, end_line, op_in, pending_op}
use Rattle.world_history.specs.Moves.{Act, Action, Opens, Delivers, TimesOut, Pends, acts, op_of}
use Rattle.world_history.specs.Names.{is_tellable, is_tellable_note, where_known, note_line, known_note_line, known_outcome}
use Rattle.world_history.specs.ReadLog.{Pending, Log, log_after, log_after_event, empty_log, log_in}
use Rattle.world_history.specs.Sending.{Move, move, sent_lines}
use Rattle.world_history.specs.State.{World, ClientAt, at_number}
use Rattle.world_history.specs.Told.{kind_of}
use Rattle.history_law.specs.Moments.{IsMoment, with_event, lines_in}
use Rattle.history_law.specs.Moves.{MoveCases, IsForClient, IsQuiet, AreQuiet, asked_in, front_of}
use Rattle.history_law.proofs.Each.{EachBehind, each_more, each_front, at_each_line}
use Rattle.history_law.proofs.Moves.{each_act, front_cases}
use Rattle.history_law.proofs.Staying.{written_front}
use Rattle.exchange_law.specs.InStep.{state_of}
use Rattle.exchange_law.specs.Pending.{logged_op}
use Rattle.exchange_law.proofs.Along.{lawful}
use Rattle.exchange_law.proofs.CountGrowing.{fewer, text_front}
use Rattle.headline_law.specs.Claim.{IsOfScenario}
use Rattle.history_claims.specs.Logged.{IsCalled, IsLoggedAt, HasItsEntry, EndedAreLogged}
use Rattle.history_claims.proofs.Called.{Asks, called_by, later_calls_none}
use Rattle.history_claims.proofs.OwnEntries.{entries_are_own}
use Rattle.history_claims.proofs.PlainLogged.{LoggedLaws, OfClient, reads_by, all_logged, sound}
use Rattle.history_claims.proofs.PlainPending.{IsIn, event_keeps}
use Rattle.history_claims.proofs.PlainReads.{HasWorked, read_worked}
use Rattle.history_claims.proofs.Wrote.{written_late, answered_read}

-- ---- lines that tell no answer

-- at a line before which the history is a scenario's
abbrev At : List Line → Line → Type 0
At b l = IsOfScenario b → IsLoggedAt b l

abbrev IsNoAnswer : Line → Type 0
IsNoAnswer (line.Ended c (outcome.ReadOk bytes)) = ⊥
IsNoAnswer (line.Ended c (outcome.WriteOk count)) = ⊥
IsNoAnswer l = Unit {0}

no_answer : (b : List Line) (l : Line) → IsNoAnswer l → At b l
no_answer b (line.Ended c (outcome.ReadOk bytes)) n = absurd n
no_answer b (line.Ended c (outcome.WriteOk count)) n = absurd n
no_answer b l n = λ s. tt

quiet_at : (b : List Line) (ls : List Line) → AreQuiet ls → EachBehind At b ls
quiet_at b [] q = tt
quiet_at b (l ∷ ls) q = (no_answer b l (by l q.0), quiet_at (b ++ l ∷ []) ls q.1)
  where
    by : (x : Line) → IsQuiet x → IsNoAnswer x
    by (line.Ended c (outcome.ReadOk bytes)) y = y
    by (line.Ended c (outcome.WriteOk count)) y = y
    by x y = tt

sent_at : (b : List Line) (n : ℕ) (ps : List Post) → EachBehind At b (sent_lines n ps)
unfolding sent_lines
sent_at b n [] = tt
sent_at b n (p ∷ ps) = (λ s. tt, sent_at (b ++ _ ∷ []) (n + 1) ps)

notes_at : (b : List Line) (ns : List Note) → EachBehind At b (filter_map known_note_line ns)
notes_at b [] = tt
notes_at b (n ∷ ns) = by (nat_lt n.file FILES && is_tellable_note n.kind) (λ x. notes_at x ns)
  where
    by : (y : Bool) → ((x : List Line) → EachBehind At x (filter_map known_note_line ns)) →
        EachBehind At b (cons_option (where_known y (note_line n)) (filter_map known_note_line ns))
    by true rest = (λ s. tt, rest (b ++ note_line n ∷ []))
    by false rest = rest b

known_end : (b : List Line) (c : ℕ) (known : Bool) (o : ToldOutcome) → IsNoAnswer (line.Ended c o) →
    EachBehind At b (end_line c (where_known known o))
known_end b c true o n = (no_answer b (line.Ended c o) n, tt)
known_end b c false o n = tt

-- any end, by those that are ok
other_end : (b : List Line) (c : ℕ) (kind : CallKind) (o : Outcome) → ((bytes : List ℕ) → o ≡ client_rules.ReadOk bytes →
    At b (line.Ended c (outcome.ReadOk bytes))) → ((count : ℕ) → o ≡ client_rules.WriteOk count →
    At b (line.Ended c (outcome.WriteOk count))) → EachBehind At b (end_line c (known_outcome kind o))
other_end b c kind (client_rules.ReadOk bytes) its wrote = (its bytes refl, tt)
other_end b c kind (client_rules.WriteOk n) its wrote = (wrote n refl, tt)
other_end b c kind client_rules.NoFile its wrote = (λ s. tt, tt)
other_end b c kind (client_rules.HeldBy k) its wrote = known_end b c (is_tellable (client_rules.HeldBy k)) _ tt
other_end b c kind (client_rules.Fencing n) its wrote = (λ s. tt, tt)
other_end b c kind (client_rules.Degraded n) its wrote = (λ s. tt, tt)
other_end b c kind client_rules.Spent its wrote = (λ s. tt, tt)
other_end b c kind (client_rules.Status status detail) its wrote = (λ s. tt, tt)
other_end b c kind (client_rules.Refused d n e) its wrote = known_end b c (is_tellable (client_rules.Refused d n e)) _ tt
other_end b c kind (client_rules.Silent n) its wrote = (λ s. tt, tt)
other_end b c kind (client_rules.Lost ps) its wrote = (λ s. tt, tt)
other_end b c kind (client_rules.BadLayout y) its wrote = (λ s. tt, tt)

-- ---- a move

scenario_front : (h ls : List Line) → IsOfScenario (h ++ ls) → IsOfScenario h
scenario_front h ls s =
    record { written = written_front h ls s.written; text = text_front h ls s.text; few = fewer h ls s.few }

-- a line that changes no log
same_log : (b : List Line) (x : Line) → log_after (log_in b) x ≡ log_in b → log_in (b ++ x ∷ []) ≡ log_in b
same_log b x same = fold-append log_after empty_log b (x ∷ []) ∙ same

module _ (laws : LoggedLaws) (w : World) (h : List Line) (k : IsMoment w h) (chosen : List ℕ) (action : Action) where
  -- the lines behind the event's own
  abbrev Base : List Line → Type 0
  Base b = ((p : Pending) (c : ℕ) → at_number (log_in h).pending c ≡ Some p → at_number (log_in b).pending c ≡ Some p)
      × (IsOfScenario b → IsOfScenario h)
      × ((c : ℕ) (op : CallOp) → Asks action c op → IsCalled (log_in b) c)

  base_more : (b : List Line) (x : Line) → log_after (log_in b) x ≡ log_in b → Base b → Base (b ++ x ∷ [])
  base_more b x same base = (
    λ p c is. ap (λ (l : Log). at_number l.pending c) (same_log b x same) ∙ base.0 p c is,
    λ s. base.1 (scenario_front b (x ∷ []) s),
    λ c op is. subst (λ (l : Log). IsCalled l c) (sym (same_log b x same)) (base.2 c op is),
  )

  module _ (c : ℕ) (a : ClientAt) (found : at_number w.clients c ≡ Some a) (i : Input) where
    o : OfClient h c a.state
    o = all_logged laws scenario_front w h k c a found

    -- the call that the step is about is pending
    its_call : (b : List Line) → Base b → IsOfScenario b → IsForClient w action c a i → (op : CallOp)
        → op_in a.state i ≡ Some op → IsCalled (log_in b) c
    its_call b base s given op is = by i given is
      where
        old : pending_op a.state ≡ Some op → IsCalled (log_in b) c
        old some = from (at_number (log_in h).pending c) refl
          where
            logged : logged_op (at_number (log_in h).pending c) ≡ Some op
            logged =
                laws.pending w h k (base.1 s) c ∙ ap (λ (z : Client). pending_op z) (ap (state_of c) found) ∙ some

            from : (o : Option Pending) → at_number (log_in h).pending c ≡ o → IsCalled (log_in b) c
            from None none = absurd (cc (sym (ap logged_op none) ∙ logged))
            from (Some p) there = (p, base.0 p c there)

        by : (j : Input) → IsForClient w action c a j → op_in a.state j ≡ Some op → IsCalled (log_in b) c
        by (inputs.Calls x) given is = base.2 c x given
        by j given is = old is

    -- the entry of its call
    its_entry : (b : List Line) → Base b → IsOfScenario b → (call : Call) → a.state.call ≡ Some call → (write : Bool) →
        is_write call.op ≡ write → IsIn (log_in h) c → HasItsEntry (log_in b) c write
    its_entry b base s call pending write its i =
        let op : logged_op (at_number (log_in h).pending c) ≡ Some call.op =
        laws.pending w h k (base.1 s) c ∙ ap (λ (z : Client). option_map (λ (y : Call). y.op) z.call) (ap (state_of c) found)
        ∙ ap (option_map (λ (z : Call). z.op)) pending in
        let there : at_number (log_in b).pending c ≡ Some i.0 = base.0 i.0 c i.1 in
        let one : Some (op_of i.0.call) ≡ Some call.op = sym (ap logged_op i.1) ∙ op in
        let same : op_of i.0.call ≡ call.op = cc one in
        record {
          pending = i.0;
          there = there;
          kind = ap is_write same ∙ its;
          number = i.2.0;
          entry = i.2.1;
          own = entries_are_own b c i.2.0 i.0 there i.2.1;
        }

    -- a read that is answered
    answered : (b : List Line) → Base b → (bytes : List ℕ) → (step a.state i).outcome ≡ Some (client_rules.ReadOk bytes) →
        At b (line.Ended c (outcome.ReadOk bytes))
    answered b base bytes is s =
        let t = reads_took_replies c 1 o.inputs i bytes
        (ap (λ (z : Client). (step z i).outcome) (sym o.ran) ∙ is) in
        let n : HasWorked a.state (reads_by c o.inputs) =
        read_worked a.state (reads_by c o.inputs) i (λ e.
        t.some (ap (λ (z : Client). read_after z (reads_by c o.inputs) i) (sym o.ran) ∙ e)) in
        let r = answered_read a.state i (sound c a.state o) bytes is in
        let one : Some r.call ≡ Some n.call = sym r.pending ∙ n.pending in
        let same : r.call ≡ n.call = cc one in
        let read : is_write n.call.op ≡ false = ap (λ (z : Call). is_write z.op) (sym same) ∙ r.read in
        its_entry b base s n.call n.pending false read (o.logged (base.1 s) n read)

    -- a write that is acknowledged
    acknowledged : (b : List Line) → Base b → IsForClient w action c a i → (op : CallOp) → op_in a.state i ≡ Some op →
        (count : ℕ) → (step a.state i).outcome ≡ Some (client_rules.WriteOk count) →
        At b (line.Ended c (outcome.WriteOk count))
    acknowledged b base given op about count is s = (
      its_call b base s given op about,
      λ some. elim (written_late a.state i (sound c a.state o) count is) [
        | inl none ↦ absurd (some none)
        | inr late ↦
            let w = o.wrote (base.1 s) late in its_entry b base s late.call late.pending true w.1 w.0
      ],
    )

    ended_at : (b : List Line) → Base b → IsForClient w action c a i → (p : Option CallOp) (o : Option Outcome) →
        op_in a.state i ≡ p → (step a.state i).outcome ≡ o → EachBehind At b (ended_by c p o)
    ended_at b base given None o about is = tt
    ended_at b base given (Some p) None about is = tt
    ended_at b base given (Some p) (Some o) about is =
        other_end b c (kind_of p) o (λ bytes e.
        answered b base bytes (is ∙ ap (λ (z : Outcome). Some z) e)) (λ count e.
        acknowledged b base given p about count (is ∙ ap (λ (z : Outcome). Some z) e))

  module _ (b : List Line) (base : Base b) where
    abbrev Told : Act → Type 0
    Told act = EachBehind At b act.told

    -- behind the line in front
    front_at : (d : Delivery) (ls : List Line) → ((x : List Line) → Base x → EachBehind At x ls) →
        EachBehind At b (front_of action d ++ ls)
    front_at d ls rest =
        front_cases (λ (front : List Line). EachBehind At b (front ++ ls)) (rest b base)
        (λ number x. (λ s. tt, rest (b ++ line.Delivered number x ∷ []) (base_more b (line.Delivered number x) refl base)))
        (λ c j. (λ s. tt, rest (b ++ line.TimedOut c j ∷ []) (base_more b (line.TimedOut c j) refl base))) action d

    cases : MoveCases w chosen action Told
    cases = record {
      rests = λ ms said told quiet. quiet_at b told quiet;
      refused = λ c a found op is e why. (λ s. tt, tt);
      clock = λ time. tt;
      serves = λ ms said i is.
          front_at delivery.Taken (filter_map known_note_line (server.step w.server chosen i).notes)
          (λ x bx. notes_at x (server.step w.server chosen i).notes);
      goes = λ ms said c a found i is.
          front_at delivery.Taken (ended_by c (op_in a.state i) (step a.state i).outcome)
          (λ x bx. ended_at c a found i x bx is (op_in a.state i) (step a.state i).outcome refl refl);
      comes = λ c is. tt;
      stops = λ c a found. tt;
      judged = λ ms said d a found hears m number. (λ s. tt, tt);
      injected = λ d bytes is a found. (λ s. tt, tt);
      turns = λ d a z found turns. tt;
      known = λ d key capacity stored is knows. tt;
      adds = λ d key capacity stored is knows. tt;
    }

    told_at : Told (acts w chosen action)
    told_at = each_act w chosen Told action cases

module _ (laws : LoggedLaws) (w : World) (h : List Line) (k : IsMoment w h) (m : Move) where
  abbrev act : Act
  act = acts w m.chosen m.action

  all_at : (b : List Line) → Base laws w h k m.chosen m.action b → EachBehind At b (move w m).lines
  all_at b base =
      each_more At b act.told (sent_lines (length act.world.network.messages) act.posts)
      (told_at laws w h k m.chosen m.action b base)
      (sent_at (b ++ act.told) (length act.world.network.messages) act.posts)

  move_at : EachBehind At h (lines_in w m)
  move_at = by m.action refl
    where
      plain : ((c : ℕ) (op : CallOp) → Asks m.action c op → IsCalled (log_in h) c) → EachBehind At h (move w m).lines
      plain none = all_at h (λ p c is. is, λ s. s, none)

      by : (a : Action) → m.action ≡ a → EachBehind At h (with_event a (move w m).lines)
      by (Opens e) same =
          let behind : log_in (h ++ line.Event e ∷ []) ≡ log_after_event (log_in h) e =
          fold-append log_after empty_log h (line.Event e ∷ []) in (
            λ s. tt,
            all_at (h ++ line.Event e ∷ []) (
              λ p c is. ap (λ (l : Log). at_number l.pending c) behind ∙ event_keeps c (log_in h) e p is,
              λ s. scenario_front h (line.Event e ∷ []) s,
              λ c op is.
                  subst (λ (l : Log). IsCalled l c) (sym behind) (called_by (log_in h) e c op (sym (ap asked_in same) ∙ is)),
            ),
          )
      by (Delivers n) same = plain (λ c op is. absurd (cc (sym (ap asked_in same) ∙ is)))
      by (TimesOut k j) same = plain (λ c op is. later_calls_none m.action k j (ap asked_in same) c op is)
      by (Pends q) same = plain (λ c op is. absurd (cc (sym (ap asked_in same) ∙ is)))

-- Each of them has its entry.
pub ended_are_logged : LoggedLaws → EndedAreLogged
ended_are_logged laws h is_lawful are_written of_text few before l after is =
    let all = lawful laws.more (λ w g. EachBehind At [] g) (record {
      starts = tt;
      moves = λ w g m k next may x. each_more At [] g (lines_in w m) x (move_at laws w g k m);
    }) h is_lawful in
    at_each_line At h (each_front At [] h all.1 all.2) before l after is
    (scenario_front before (l ∷ after)
    (subst IsOfScenario is (record { written = are_written; text = of_text; few = few })))
