-- In each move a call ends as only an answer says exactly if its client takes that answer.
use Rattle.std.proofs.Common.{◌≡◌, ◌==◌, ℕ, ◌+◌, Bool, true, false, List, [], ◌∷◌, ◌++◌, length, nat_lt, ◌&&◌, option_map, slice_get, Option, Some, None, refl, sym, ap, subst, ◌∙◌, inl, inr, if◌then◌else◌}
use Rattle.std.specs.List.{filter_map, cons_option}
use Rattle.std.proofs.lemmas.Bool.{cases_Bool, cases_eq, ne_eqb}
use Rattle.osd_lists.specs.declared.node.Node.{Node}
use Rattle.osd_lists.specs.declared.node.Node.TheVariants as node
use Rattle.osd_objects.proofs.Entries.{lookup_inserted, lookup_beside}
use Rattle.layout_ops.specs.declared.messages.Answer.{Answer}
use Rattle.layout_ops.specs.declared.statuses.TheConstants.{NFS4_OK, NFS4ERR_NOENT, NFS4ERR_BADLAYOUT, NFS4ERR_LAYOUTTRYLATER, NFS4ERR_RECALLCONFLICT, NFS4ERR_LAYOUTUNAVAILABLE}
use Rattle.client_rules.specs.declared.limits.TheConstants.{NO_COMPONENT}
use Rattle.client_rules.specs.Answers.{not_granted, not_committed, on_commit}
use Rattle.client_rules.specs.Going.{quiet, returns, returns_due, requests, begun, starts_call, progress_call, progress_free, progressed}
use Rattle.client_rules.specs.History.{Input, Hears, step}
use Rattle.client_rules.specs.Messages.{Message, Taken, finished, on_need, on_call, by_taken, hears}
use Rattle.client_rules.specs.Results.{status_of}
use Rattle.server_rules.specs.History.{step as server_step}
use Rattle.server_rules.specs.Laws.{In}
use Rattle.server_rules.proofs.Members.{in_front, in_either}
use Rattle.scenario_text.specs.declared.names.TheConstants.{FILES}
use Rattle.scenario_text.specs.declared.event.Event.{Event}
use Rattle.scenario_text.specs.declared.event.Event.TheVariants as event
use Rattle.scenario_text.specs.declared.line.CallKind.{CallKind}
use Rattle.scenario_text.specs.declared.line.Delivery.TheVariants as delivery
use Rattle.scenario_text.specs.declared.line.Ending.{Ending}
use Rattle.scenario_text.specs.declared.line.Ending.TheVariants as ending
use Rattle.scenario_text.specs.declared.line.Outcome.TheVariants as outcome
use Rattle.scenario_text.specs.declared.line.Line.{Line}
use Rattle.scenario_text.specs.declared.line.Line.TheVariants as line
use Rattle.world_history.specs.ServerNames as server_rules
use Rattle.world_history.specs.ClientNames.{Client, CallOp, Call, Due, Need, Waits, Outcome, WriteOk, ReadOk, HeldBy, Fencing, Refused, Silent, Lost, BadLayout, Done, Request}
use Rattle.world_history.specs.declared.messages.Posted.{Posted}
use Rattle.world_history.specs.State.{World, ClientAt, at_number, with_number, and_number}
use Rattle.world_history.specs.Told.{kind_of, verdict_with, told_why, told_outcome, told_refusal}
use Rattle.world_history.specs.Drives.{judges, command_in}
use Rattle.osd_commands.specs.Commands.{reading}
use Rattle.world_history.specs.Names.{where_known, is_tellable, is_tellable_note, note_line, known_note_line}
use Rattle.world_history.specs.Handed.{Post, end_line, ended_by, op_in, for_client, handed}
use Rattle.world_history.specs.Moves.{Act, Action, Opens, Delivers, TimesOut, Pends, told_delivered, marked, delivers, begins, acts}
use Rattle.world_history.specs.Sending.{sent_lines}
use Rattle.history_law.specs.Moments.{IsReached, with_event, lines_in}
use Rattle.history_law.specs.Moves.{IsQuiet, AreQuiet, IsForClient, number_in, front_of}
use Rattle.history_law.specs.Turns.{AnswerComes}
use Rattle.history_law.proofs.Moves.{front_cases, each_act}
use Rattle.history_law.proofs.Reached.{always_by}
use Rattle.exchange_law.proofs.Each.{put_same, put_other}
use Rattle.cause_law.specs.Ends.{Says, SaysNoFile, SaysSpent, SaysDegraded, SaysOther, SaysWrong, IsOfAnswers, TakesAnswer as IsTaking, WasSaid, IsUnder, EachEndIsSaid}
use Rattle.cause_law.proofs.Dealing.{IsOwn, CallOwn, EndOwn}
use Rattle.cause_law.proofs.Turning.{Tells, turn_own}

-- ---- what calls keep until a grant is back

abbrev AllOwn : World → Type 0
AllOwn w = (c : ℕ) (a : ClientAt) → at_number w.clients c ≡ Some a → CallOwn a.state.call

put_own : (xs : List (ℕ × ClientAt)) (c : ℕ) (a b : ClientAt) → at_number xs c ≡ Some a → CallOwn b.state.call
    → ((d : ℕ) (x : ClientAt) → at_number xs d ≡ Some x → CallOwn x.state.call) → (d : ℕ) (x : ClientAt)
    → at_number (with_number xs c b) d ≡ Some x → CallOwn x.state.call
put_own xs c a b found own all d x e = elim (cases_eq d c) [
  | inl it ↦
      let same : b ≡ x = cc (sym (put_same xs c a b found) ∙ ap (λ (n : ℕ). at_number (with_number xs c b) n) (sym it) ∙ e) in
      subst (λ (y : ClientAt). CallOwn y.state.call) same own
  | inr other ↦ all d x (sym (put_other xs c d b other) ∙ e)
]

come_own : (xs : List (ℕ × ClientAt)) (c : ℕ) (b : ClientAt) → CallOwn b.state.call
    → ((d : ℕ) (x : ClientAt) → at_number xs d ≡ Some x → CallOwn x.state.call) → (d : ℕ) (x : ClientAt)
    → at_number (and_number xs c b) d ≡ Some x → CallOwn x.state.call
come_own xs c b own all d x e = elim (cases_eq d c) [
  | inl it ↦
      let same : b ≡ x = cc (sym (lookup_inserted xs c b) ∙ ap (λ (n : ℕ). at_number (and_number xs c b) n) (sym it) ∙ e) in
      subst (λ (y : ClientAt). CallOwn y.state.call) same own
  | inr other ↦ all d x (sym (lookup_beside xs c d b other) ∙ e)
]

all_own : (w : World) → IsReached w → AllOwn w
all_own w r = always_by AllOwn (record {
  starts = λ c a e. absurd (cc e);
  cases = λ v m all. record {
    rests = λ ms same told quiet. all;
    refused = λ c a found op handed e is. all;
    clock = λ time. all;
    serves = λ ms same i is. all;
    goes = λ ms same c a found i is.
        put_own v.clients c a _ found (turn_own a.state i (all c a found)).call all;
    comes = λ c is. come_own v.clients c _ tt all;
    stops = λ c a found. put_own v.clients c a (record a { stopped = true }) found (all c a found) all;
    judged = λ ms same d a found hears is number. all;
    injected = λ d bytes is a found. all;
    turns = λ d a b found t. all;
    known = λ d key capacity stored is knows. all;
    adds = λ d key capacity stored is knows. all;
  };
}) w r

-- ---- lines that tell no such end

abbrev NoEnd : List Line → Type 0
NoEnd ls = (c : ℕ) (k : CallKind) (e : Ending) → In (line.Ended c (outcome.Failed k e)) ls → IsOfAnswers e → ⊥

quiet_end : (c : ℕ) (k : CallKind) (e : Ending) → IsQuiet (line.Ended c (outcome.Failed k e)) → IsOfAnswers e → ⊥
quiet_end c k ending.Pending q x = x
quiet_end c k e q x = q

no_quiet : (ls : List Line) → AreQuiet ls → NoEnd ls
no_quiet [] q c k e i x = i
no_quiet (l ∷ ls) q c k e (inl same) x = quiet_end c k e (subst IsQuiet (sym same) q.0) x
no_quiet (l ∷ ls) q c k e (inr i) x = no_quiet ls q.1 c k e i x

no_sent : (n : ℕ) (ps : List Post) → NoEnd (sent_lines n ps)
unfolding sent_lines
no_sent n [] c k e i x = i
no_sent n (p ∷ ps) c k e (inl same) x = absurd (cc same)
no_sent n (p ∷ ps) c k e (inr i) x = no_sent (n + 1) ps c k e i x

abbrev IsEndless : Line → Type 0
IsEndless (line.Ended c o) = ⊥
IsEndless l = Unit {0}

abbrev AreEndless : List Line → Type 0
AreEndless [] = Unit {0}
AreEndless (l ∷ ls) = IsEndless l × AreEndless ls

no_end : (ls : List Line) → AreEndless ls → NoEnd ls
no_end [] q c k e i x = i
no_end (l ∷ ls) q c k e (inl same) x = subst IsEndless (sym same) q.0
no_end (l ∷ ls) q c k e (inr i) x = no_end ls q.1 c k e i x

note_endless : (b : Bool) (n : server_rules.Note) (ls : List Line) → AreEndless ls
    → AreEndless (cons_option (where_known b (note_line n)) ls)
note_endless true n ls k = (tt, k)
note_endless false n ls k = k

notes_endless : (ns : List server_rules.Note) → AreEndless (filter_map known_note_line ns)
notes_endless [] = tt
notes_endless (n ∷ ns) =
    note_endless (nat_lt n.file FILES && is_tellable_note n.kind) n (filter_map known_note_line ns) (notes_endless ns)

front_endless : (action : Action) → AreEndless (front_of action delivery.Taken)
front_endless action =
    front_cases AreEndless tt (λ number d. (tt, tt)) (λ c component. (tt, tt)) action delivery.Taken

endless_both : (xs ys : List Line) → AreEndless xs → AreEndless ys → AreEndless (xs ++ ys)
endless_both [] ys p q = q
endless_both (x ∷ xs) ys p q = (p.0, endless_both xs ys p.1 q)

-- ---- a call ends

-- no outcome of its own is such an end
own_end : (k kind : CallKind) (e : Ending) (o : Outcome) → IsOwn o → outcome.Failed k e ≡ told_outcome kind o
    → IsOfAnswers e → ⊥
own_end k kind e (WriteOk n) own is x = absurd (cc is)
own_end k kind e (ReadOk bytes) own is x = absurd (cc is)
own_end k kind e (HeldBy c) own is x = let same : e ≡ ending.Held c = cc is in subst IsOfAnswers same x
own_end k kind e (Fencing n) own is x = let same : e ≡ ending.Fencing n = cc is in subst IsOfAnswers same x
own_end k kind e (Refused d n f) own is x = let same : e ≡ ending.Refused d (verdict_with n f) = cc is in subst IsOfAnswers same x
own_end k kind e (Silent n) own is x = let same : e ≡ ending.Silent n = cc is in subst IsOfAnswers same x
own_end k kind e (Lost ps) own is x = let same : e ≡ ending.Lost ps = cc is in subst IsOfAnswers same x
own_end k kind e (BadLayout w) own is x = let same : e ≡ ending.BadLayout (told_why w) = cc is in subst IsOfAnswers same x
own_end k kind e o own is x = own

-- the line of an end
record IsEnd (c : ℕ) (k : CallKind) (e : Ending) (client : ℕ) (op : Option CallOp) (o : Option Outcome) : Type 0 where
  its : CallOp
  op_is : op ≡ Some its
  end : Outcome
  outcome_is : o ≡ Some end
  client_is : c ≡ client
  told : outcome.Failed k e ≡ told_outcome (kind_of its) end

end_of : (c : ℕ) (k : CallKind) (e : Ending) (client : ℕ) (op : Option CallOp) (o : Option Outcome)
    → In (line.Ended c (outcome.Failed k e)) (ended_by client op o) → IsEnd c k e client op o
end_of c k e client None o i = absurd i
end_of c k e client (Some op) None i = absurd i
end_of c k e client (Some op) (Some o) i = by_known (is_tellable o) i
  where
    by_known : (b : Bool) → In (line.Ended c (outcome.Failed k e)) (end_line client (where_known b (told_outcome (kind_of op) o)))
        → IsEnd c k e client (Some op) (Some o)
    by_known true (inl same) =
        record { its = op; op_is = refl; end = o; outcome_is = refl; client_is = cc same; told = cc same }
    by_known true (inr j) = absurd j
    by_known false j = absurd j

module _ (w : World) (all : AllOwn w) (chosen : List ℕ) (action : Action) where
  abbrev Said : Act → Type 0
  Said a = (c : ℕ) (k : CallKind) (e : Ending) → In (line.Ended c (outcome.Failed k e)) a.told → IsOfAnswers e
      → WasSaid w action c k e

  none : (told : List Line) → NoEnd told → (c : ℕ) (k : CallKind) (e : Ending) → In (line.Ended c (outcome.Failed k e)) told
      → IsOfAnswers e → WasSaid w action c k e
  none told ends c k e i x = absurd (ends c k e i x)

  one : (l : Line) → IsEndless l → (c : ℕ) (k : CallKind) (e : Ending) → In (line.Ended c (outcome.Failed k e)) (l ∷ [])
      → IsOfAnswers e → WasSaid w action c k e
  one l endless = none (l ∷ []) (no_end (l ∷ []) (endless, tt))

  pending : (c : Client) (op : CallOp) (n : Need) → c.call ≡ Some (record { op = op; phase = Waits n }) → (i : Input)
      → (from : Node) (m : Message) → i ≡ Hears from m → op_in c i ≡ Some op
  pending c op n call i from m is = ap (op_in c) is ∙ ap (option_map (λ (x : Call). x.op)) call

  told_by : (client : ℕ) (a : ClientAt) → at_number w.clients client ≡ Some a → (i : Input)
      → IsForClient w action client a i → (c : ℕ) (k : CallKind) (e : Ending)
      → In (line.Ended c (outcome.Failed k e)) (ended_by client (op_in a.state i) (step a.state i).outcome) → IsOfAnswers e
      → WasSaid w action c k e
  told_by client a found i handed c k e there x =
      let r = end_of c k e client (op_in a.state i) (step a.state i).outcome there in
      elim (subst (EndOwn (Tells a.state i)) r.outcome_is (turn_own a.state i (all client a found)).outcome) [
        | inl own ↦ absurd (own_end k (kind_of r.its) e r.end own r.told x)
        | inr it ↦
            let same : r.its ≡ it.op =
            cc (sym r.op_is ∙ pending a.state it.op it.need it.call_is i it.answered.from it.answered.message it.answered.is) in
            record {
              op = it.op;
              need = it.need;
              answer = it.answer;
              end = r.end;
              takes = record {
                caller = a;
                there = ap (at_number w.clients) r.client_is ∙ found;
                call_is = it.call_is;
                input = i;
                handed = subst (λ (n : ℕ). IsForClient w action n a i) (sym r.client_is) handed;
                answered = it.answered;
              };
              says = it.says;
              told = r.told ∙ ap (λ (op : CallOp). told_outcome (kind_of op) r.end) same;
            }
      ]

  said : Said (acts w chosen action)
  said = each_act w chosen Said action (record {
    rests = λ ms same told quiet. none told (no_quiet told quiet);
    refused = λ c a found op handed e is. one (line.Refused c (told_refusal e)) tt;
    clock = λ time. none [] (no_end [] tt);
    serves = λ ms same i is.
        none _ (no_end _ (endless_both (front_of action delivery.Taken) _ (front_endless action)
        (notes_endless (server_step w.server chosen i).notes)));
    goes = λ ms same client a found i handed c k e there x.
        elim (in_either (line.Ended c (outcome.Failed k e)) (front_of action delivery.Taken) _ there) [
          | inl f ↦ absurd (no_end (front_of action delivery.Taken) (front_endless action) c k e f x)
          | inr t ↦ told_by client a found i handed c k e t x
        ];
    comes = λ c is. none [] (no_end [] tt);
    stops = λ c a found. none [] (no_end [] tt);
    judged = λ ms same d a found hears m number.
        one (line.Delivered m.number (delivery.Judged (judges a (command_in m.posted.message.body)).verdict)) tt;
    injected = λ d bytes is a found. one (line.Judged d (judges a (reading bytes)).verdict) tt;
    turns = λ d a b found t. none [] (no_end [] tt);
    known = λ d key capacity stored is knows. none [] (no_end [] tt);
    adds = λ d key capacity stored is knows. none [] (no_end [] tt);
  })

  behind_event : (a : Action) (ls : List Line) (x : Line) → ((e : Event) → x ≡ line.Event e → ⊥)
      → In x (with_event a ls) → In x ls
  behind_event (Opens e) ls x other (inl same) = absurd (other e same)
  behind_event (Opens e) ls x other (inr i) = i
  behind_event (Delivers n) ls x other i = i
  behind_event (TimesOut c n) ls x other i = i
  behind_event (Pends c) ls x other i = i

  in_told : (c : ℕ) (k : CallKind) (e : Ending)
      → In (line.Ended c (outcome.Failed k e)) (lines_in w (record { action = action; chosen = chosen })) → IsOfAnswers e
      → WasSaid w action c k e
  in_told c k e i x =
      let a : Act = acts w chosen action in
      elim (in_either (line.Ended c (outcome.Failed k e)) a.told (sent_lines (length a.world.network.messages) a.posts)
      (behind_event action _ (line.Ended c (outcome.Failed k e)) (λ y same. absurd (cc same)) i)) [
        | inl told ↦ said c k e told x
        | inr sent ↦ absurd (no_sent (length a.world.network.messages) a.posts c k e sent x)
      ]

-- ---- the other way

-- a turn whose call is over says so to its end
over_due : (d : Done) (b : Bool) (o : Option Due) → (if b then d else returns d o).outcome ≡ d.outcome
unfolding requests
over_due d true o = refl
over_due d false None = refl
over_due d false (Some u) = refl

over_progressed : (d : Done) → d.client.call ≡ None → (progressed d).outcome ≡ d.outcome
unfolding progressed returns_due
over_progressed d none = by_request d.client.outstanding
  where
    by_call : (o : Option Call) → o ≡ None → (progress_call d o).outcome ≡ d.outcome
    by_call None e = over_due d (d.client.next == 0) _
    by_call (Some call) e = absurd (cc e)

    by_request : (o : Option Request) → (progress_free d o).outcome ≡ d.outcome
    by_request None = by_call d.client.call none
    by_request (Some r) = refl

over_finished : (d : Done) → d.client.call ≡ None → (finished d).outcome ≡ d.outcome
unfolding finished begun
over_finished d none =
    ap (λ (o : Option Call). (progressed (starts_call d o)).outcome) none ∙ over_progressed d none

-- what the answer says is how the call ends
abbrev EndsIt : Done → Outcome → Type 0
EndsIt d o = (d.client.call ≡ None) × (d.outcome ≡ Some o)

says_end : (d : Done) (op : CallOp) (a : Answer) (n : Need) (o : Outcome) → Says a n o → IsUnder d.client op n
    → EndsIt (on_need d op n a) o
unfolding not_granted on_commit not_committed
says_end d op a n o (SaysNoFile tries e) u = rw e (refl, refl)
says_end d op a n o (SaysSpent tries e f) u = rw (e, f) (refl, refl)
says_end d op a n o (SaysDegraded tries e f) u =
    rw (e, ne_eqb a.detail NO_COMPONENT f) (refl, refl)
says_end d op a n o (SaysOther tries x) u =
    rw (
      ne_eqb (status_of a.results) NFS4_OK x.granted,
      ne_eqb (status_of a.results) NFS4ERR_NOENT x.file,
      ne_eqb (status_of a.results) NFS4ERR_LAYOUTTRYLATER x.held,
      ne_eqb (status_of a.results) NFS4ERR_RECALLCONFLICT x.fencing,
      ne_eqb (status_of a.results) NFS4ERR_LAYOUTUNAVAILABLE x.unable,
    ) (refl, refl)
says_end d op a n o (SaysWrong timed wrong) (h, held) =
    rw (held, ne_eqb (status_of a.results) NFS4_OK wrong) (elim (cases_Bool (status_of a.results == NFS4ERR_BADLAYOUT)) [
      | inl t ↦ rw t (refl, refl)
      | inr z ↦ rw z (refl, refl)
    ])

ends_turn : (c : Client) (i : Input) (op : CallOp) (n : Need) (a : Answer) (o : Outcome)
    → c.call ≡ Some (record { op = op; phase = Waits n }) → AnswerComes c i a → Says a n o → IsUnder c op n
    → (step c i).outcome ≡ Some o
unfolding hears
ends_turn c i op n a o call is says under =
    let d : Done = quiet (record c { outstanding = None }) in
    let it : EndsIt (on_need d op n a) o = says_end d op a n o says under in
    ap (λ (j : Input). (step c j).outcome) is.is ∙ ap (λ (t : Option Taken). (by_taken c t).outcome) is.takes_it
    ∙ ap (λ (x : Option Call). (finished (on_call d x a)).outcome) call ∙ over_finished (on_need d op n a) it.0 ∙ it.1

-- such an end can be told
tells_end : (a : Answer) (n : Need) (o : Outcome) → Says a n o → is_tellable o ≡ true
tells_end a n o (SaysNoFile tries e) = refl
tells_end a n o (SaysSpent tries e f) = refl
tells_end a n o (SaysDegraded tries e f) = refl
tells_end a n o (SaysOther tries x) = refl
tells_end a n o (SaysWrong timed x) = refl

end_told : (client : ℕ) (op : CallOp) (o : Outcome) → is_tellable o ≡ true
    → In (line.Ended client (told_outcome (kind_of op) o)) (ended_by client (Some op) (Some o))
end_told client op o e = rw e (inl refl)

-- a delivery to a client tells how its call ends
delivery_told : (v : World) (chosen : List ℕ) (n : ℕ) (p : Posted) (client : ℕ) (a : ClientAt) (m : Message)
    → p.message.to ≡ node.Client client → at_number v.clients client ≡ Some a → a.stopped ≡ false
    → for_client p.message ≡ Some m
    → (told_delivered n (handed v chosen p.message)).told
    ≡ line.Delivered n delivery.Taken
    ∷ ended_by client (op_in a.state (Hears p.message.from m)) (step a.state (Hears p.message.from m)).outcome
delivery_told v chosen n p client a m to there awake reads = rw (to, there, awake, reads) refl

module _ (w : World) (chosen : List ℕ) where
  by_number : (n : ℕ) (p : Posted) (client : ℕ) (a : ClientAt) (m : Message) → slice_get w.network.messages n ≡ Some p
      → p.message.to ≡ node.Client client → at_number w.clients client ≡ Some a → a.stopped ≡ false
      → for_client p.message ≡ Some m
      → (delivers w chosen n).told
      ≡ line.Delivered n delivery.Taken
      ∷ ended_by client (op_in a.state (Hears p.message.from m)) (step a.state (Hears p.message.from m)).outcome
  unfolding delivers
  by_number n p client a m found to there awake reads =
      rw found (delivery_told (marked w n p) chosen n p client a m to there awake reads)

  by_action : (action : Action) (n : ℕ) → number_in action ≡ Some n → (acts w chosen action).told ≡ (delivers w chosen n).told
  unfolding begins
  by_action (Opens (event.Deliver k)) n e = let same : k ≡ n = cc e in ap (λ (j : ℕ). (delivers w chosen j).told) same
  by_action (Delivers k) n e = let same : k ≡ n = cc e in ap (λ (j : ℕ). (delivers w chosen j).told) same
  by_action action n e = absurd (cc e)

  in_event : (action : Action) (x : Line) (ls : List Line) → In x ls → In x (with_event action ls)
  in_event (Opens e) x ls i = inr i
  in_event (Delivers n) x ls i = i
  in_event (TimesOut c n) x ls i = i
  in_event (Pends c) x ls i = i

  ends_so : (action : Action) (client : ℕ) (op : CallOp) (n : Need) (a : Answer) (o : Outcome)
      → (t : IsTaking w action client op n a) → Says a n o → IsUnder t.caller.state op n
      → In (line.Ended client (told_outcome (kind_of op) o)) (lines_in w (record { action = action; chosen = chosen }))
  ends_so action client op n a o t says under =
      let from = t.answered.from in
      let m : Message = t.answered.message in
      let s : Client = t.caller.state in
      let handed_it : IsForClient w action client t.caller (Hears from m) =
      subst (IsForClient w action client t.caller) t.answered.is t.handed in
      let told : (acts w chosen action).told ≡ line.Delivered handed_it.0.number delivery.Taken
      ∷ ended_by client (op_in s (Hears from m)) (step s (Hears from m)).outcome =
      by_action action handed_it.0.number handed_it.3
      ∙ by_number handed_it.0.number handed_it.0.posted client t.caller m handed_it.0.there handed_it.0.receiver t.there
      handed_it.4 handed_it.2
      ∙ ap (λ f. line.Delivered handed_it.0.number delivery.Taken
      ∷ ended_by client (op_in s (Hears f m)) (step s (Hears f m)).outcome) (sym handed_it.1) in
      let out : (step s (Hears from m)).outcome ≡ Some o =
      ap (λ (j : Input). (step s j).outcome) (sym t.answered.is) ∙ ends_turn s t.input op n a o t.call_is t.answered says under in
      let whose : op_in s (Hears from m) ≡ Some op = ap (option_map (λ (x : Call). x.op)) t.call_is in
      let x : Line = line.Ended client (told_outcome (kind_of op) o) in
      in_event action x _
      (in_front x (acts w chosen action).told _
      (subst (In x) (sym told)
      (inr (subst (λ (p : Option CallOp). In x (ended_by client p (step s (Hears from m)).outcome)) (sym whose)
      (subst (λ (p : Option Outcome). In x (ended_by client (Some op) p)) (sym out)
      (end_told client op o (tells_end a n o says)))))))

pub each_end_is_said : EachEndIsSaid
each_end_is_said w h k m d =
    let reached : IsReached w =
    record { before = k.before; history = k.history; stands = k.stands; moves = k.moves; world_is = k.world_is } in
    record {
      said = λ c kind e i x. in_told w (all_own w reached) m.chosen m.action c kind e i x;
      ends = λ client op n a o t says under. ends_so w m.chosen m.action client op n a o t says under;
    }
