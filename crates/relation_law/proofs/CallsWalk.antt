-- What is so in each case of a turn of a client, with the events of its first line, is so of each turn.
-- Towards `CallsGoOn` (`specs/Steps.antt`).
use Rattle.std.proofs.Common.{◌≡◌, ◌==◌, ℕ, Bool, true, false, List, [], ◌∷◌, Option, Some, None, Ok, Err, find, is_some, refl, sym, ap, subst, ◌∙◌, if◌then◌else◌}
use Rattle.std.proofs.lemmas.Bool.{eqb-true}
use Rattle.osd_lists.specs.declared.node.Node.{Node}
use Rattle.osd_lists.specs.declared.node.Node.TheVariants.{Server as FromServer, Drive as FromDrive}
use Rattle.layout_ops.specs.declared.messages.Answer.{Answer}
use Rattle.client_rules.specs.Calls.{file_of, span_of}
use Rattle.client_rules.specs.Commands.{of_component}
use Rattle.client_rules.specs.Going.{quiet}
use Rattle.client_rules.specs.Grants.{held_of}
use Rattle.client_rules.specs.History.{Input, Calls, Hears, TimesOut, Leaves, Resends, unless_refused, step}
use Rattle.client_rules.specs.Io.{awaited_in}
use Rattle.client_rules.specs.Messages.{Step, Message, Answers, Replies, Recalls, TakesAnswer, TakesRecall, Taken, is_awaited, still, finished, obeys, no_match, recalled, takes, by_taken, hears, answer_taken, reply_taken, awaited_of, reply_call, reply_under}
use Rattle.client_rules.specs.Replies.{answers, timed_out}
use Rattle.client_rules.specs.Requests.{grant_in}
use Rattle.client_rules.specs.Steps.{is_bad_range, is_spent, writes_nothing, starts, calls, timeout_under, timeout_call, times_out, leaves}
use Rattle.world_history.specs.ClientNames.{Client, Call, CallOp, Busy, BadRange, SlotSpent, Held, Awaited, Request, Recall, Reply, WriteOk}
use Rattle.history_law.specs.Turns.{with_start}
use Rattle.fence_law.specs.State.{State, Event}
use Rattle.file_simulation.specs.EventLists.{where_so}
use Rattle.file_simulation.specs.ClientEvents as table
use Rattle.relation_law.specs.CallsCases.{EventCases}

module _ (file : ℕ) (s : State) (c : ℕ) (x : Client) (i : Input) (P : List Event → Step → Type 0)
    (k : EventCases file s c x i P) where
  -- ---- a call

  none_is : (o : Option Call) → is_some o ≡ false → o ≡ None
  none_is None e = refl
  none_is (Some call) e = absurd (cc e)

  started : (op : CallOp) → i ≡ Calls op → is_some x.call ≡ false → (b : Bool) → writes_nothing op ≡ b
      → P [] (if b then record (still x) { outcome = Some (WriteOk 0) } else finished (quiet (with_start x op)))
  started op is free true e = k.nothing op is e
  started op is free false e = k.called op is (none_is x.call free)

  called : (op : CallOp) → i ≡ Calls op → (a b t : Bool) → is_some x.call ≡ a
      → P [] (unless_refused x (if a then Err Busy else if b then Err BadRange else if t then Err SlotSpent
      else Ok (starts x op)))
  called op is true b t free = k.rests
  called op is false true t free = k.rests
  called op is false false true free = k.rests
  called op is false false false free = started op is free (writes_nothing op) refl

  -- ---- a message

  -- the events of what is taken
  abbrev EventsOf : Option Taken → List Event
  EventsOf o = table.taken s file c x o

  under_grant : (drive : ℕ) (q : Reply) → i ≡ Hears (FromDrive drive) (Replies q) → (call : Call) → x.call ≡ Some call
      → (a : Awaited) → find (answers drive q) (awaited_in call.phase) ≡ Some a → (h : Option Held)
      → held_of x.held (file_of call.op) ≡ h
      → P (where_so (file_of call.op == file) (table.replied s c a q call.phase)) (finished (reply_under x call a q h))
  under_grant drive q is call call_is a awaits None held =
      k.unheld (record {
        drive = drive;
        reply = q;
        call = call;
        awaited = a;
        call_is = call_is;
        held = held;
        awaits = awaits;
      }) _ _
  under_grant drive q is call call_is a awaits (Some h) held =
      k.replied drive q call h a (record { is = is; call_is = call_is; held = held; awaits = awaits })

  replies : (drive : ℕ) (q : Reply) → i ≡ Hears (FromDrive drive) (Replies q) → (o : Option Call) → x.call ≡ o
      → (a : Option Awaited) → find (answers drive q) (awaited_of o) ≡ a
      → P (EventsOf (reply_taken q a)) (by_taken x (reply_taken q a))
  replies drive q is o call_is None awaits = k.rests
  replies drive q is None call_is (Some a) awaits = absurd (cc awaits)
  replies drive q is (Some call) call_is (Some a) awaits =
      subst (λ (o : Option Call). P (table.replied_in s file c a q o) (finished (reply_call x a q o))) (sym call_is)
      (under_grant drive q is call call_is a awaits (held_of x.held (file_of call.op)) refl)

  answers_it : (a : Answer) → i ≡ Hears FromServer (Answers a) → (r : Request) → x.outstanding ≡ Some r
      → (b : Bool) → is_awaited x a r ≡ b
      → (takes x FromServer (Answers a) ≡ (if b then Some (TakesAnswer a) else None))
      → P (EventsOf (if b then Some (TakesAnswer a) else None)) (by_taken x (if b then Some (TakesAnswer a) else None))
  answers_it a is r out true awaited took =
      k.answered a
      (record {
        from = FromServer;
        message = Answers a;
        is = is;
        heard = is;
        takes_it = took;
        request = r;
        outstanding = out;
        awaited = awaited;
      })
  answers_it a is r out false awaited took = k.rests

  outstanding_is : (a : Answer) → i ≡ Hears FromServer (Answers a) → (o : Option Request) → x.outstanding ≡ o
      → takes x FromServer (Answers a) ≡ answer_taken x a o
      → P (EventsOf (answer_taken x a o)) (by_taken x (answer_taken x a o))
  outstanding_is a is None out took = k.rests
  outstanding_is a is (Some r) out took = answers_it a is r out (is_awaited x a r) refl took

  matched : (q : Recall) → i ≡ Hears FromServer (Recalls q) → (b : Bool) → P [] (finished (if b then obeys x q else no_match x q))
  matched q is true = k.recalled q is
  matched q is false = k.unmatched q is

  recalls : (q : Recall) → i ≡ Hears FromServer (Recalls q) → (h : Option Held) → P [] (finished (recalled x q h))
  recalls q is None = k.unmatched q is
  recalls q is (Some h) = matched q is (h.number == grant_in q.args.stateid)

  named : (q : Recall) → i ≡ Hears FromServer (Recalls q) → (b : Bool)
      → P (EventsOf (if b then Some (TakesRecall q) else None)) (by_taken x (if b then Some (TakesRecall q) else None))
  named q is true = recalls q is (held_of x.held q.file)
  named q is false = k.rests

  heard : (from : Node) (m : Message) → i ≡ Hears from m → P (EventsOf (takes x from m)) (hears x from m)
  unfolding hears takes
  heard (FromDrive d) (Replies q) is = replies d q is x.call refl (find (answers d q) (awaited_of x.call)) refl
  heard FromServer (Answers a) is = outstanding_is a is x.outstanding refl refl
  heard FromServer (Recalls q) is = named q is (q.client == x.number)
  heard from m is = k.rests

  -- ---- a timeout

  -- the grant of the call's file is the one that the table looks at
  timed_there : (b : Bool) (j : ℕ) → i ≡ TimesOut j → (call : Call) → x.call ≡ Some call → (file_of call.op == file) ≡ b
      → (h : Held) → held_of x.held (file_of call.op) ≡ Some h → (a : Awaited) (xs : List Awaited)
      → of_component j (awaited_in call.phase) ≡ a ∷ xs
      → P (where_so b (table.timed_under s c call j (held_of x.held file) (of_component j (awaited_in call.phase))))
      (timeout_under x call j (Some h) (a ∷ xs))
  timed_there true j is call call_is here h held a xs awaits =
      let same : held_of x.held file ≡ Some h =
      sym (ap (λ (n : ℕ). held_of x.held n) (eqb-true (file_of call.op) file here)) ∙ held in
      let p = k.timed j call h a xs (record { is = is; call_is = call_is; held = held; awaits = awaits }) in
      rw (same, awaits)
      (subst
      (λ (b : Bool). P (where_so b (table.turned s c (timed_out h call.op call.phase j a xs).turn))
      (timeout_under x call j (Some h) (a ∷ xs))) here p)
  timed_there false j is call call_is here h held a xs awaits =
      let p = k.timed j call h a xs (record { is = is; call_is = call_is; held = held; awaits = awaits }) in
      subst
      (λ (b : Bool). P (where_so b (table.turned s c (timed_out h call.op call.phase j a xs).turn))
      (timeout_under x call j (Some h) (a ∷ xs))) here p

  none_under : (call : Call) (j : ℕ) (xs : List Awaited) → table.timed_under s c call j None xs ≡ []
  none_under call j [] = refl
  none_under call j (a ∷ xs) = refl

  no_grant : (b : Bool) (call : Call) → (file_of call.op == file) ≡ b → held_of x.held (file_of call.op) ≡ None → (j : ℕ)
      → P (where_so b (table.timed_under s c call j (held_of x.held file) (of_component j (awaited_in call.phase)))) (still x)
  no_grant true call here held j =
      let same : held_of x.held file ≡ None =
      sym (ap (λ (n : ℕ). held_of x.held n) (eqb-true (file_of call.op) file here)) ∙ held in
      rw (same, none_under call j (of_component j (awaited_in call.phase))) k.rests
  no_grant false call here held j = k.rests

  none_awaited : (b : Bool) (call : Call) (j : ℕ) (h : Option Held) → P (where_so b (table.timed_under s c call j h [])) (still x)
  none_awaited true call j None = k.rests
  none_awaited true call j (Some h) = k.rests
  none_awaited false call j h = k.rests

  timed : (j : ℕ) → i ≡ TimesOut j → (call : Call) → x.call ≡ Some call → (h : Option Held)
      → held_of x.held (file_of call.op) ≡ h → (xs : List Awaited) → of_component j (awaited_in call.phase) ≡ xs
      → P
      (where_so (file_of call.op == file)
      (table.timed_under s c call j (held_of x.held file) (of_component j (awaited_in call.phase))))
      (timeout_under x call j h xs)
  timed j is call call_is None held xs awaits = no_grant (file_of call.op == file) call refl held j
  timed j is call call_is (Some h) held [] awaits =
      rw awaits (none_awaited (file_of call.op == file) call j (held_of x.held file))
  timed j is call call_is (Some h) held (a ∷ xs) awaits =
      timed_there (file_of call.op == file) j is call call_is refl h held a xs awaits

  timeout : (j : ℕ) → i ≡ TimesOut j → (o : Option Call) → x.call ≡ o → P (table.timed s file c j x o) (timeout_call x j o)
  timeout j is None call_is = k.rests
  timeout j is (Some call) call_is =
      timed j is call call_is (held_of x.held (file_of call.op)) refl (of_component j (awaited_in call.phase)) refl

  by_input : (j : Input) → i ≡ j → P (table.at_first s file c x j) (step x j)
  unfolding calls times_out leaves
  by_input (Calls op) is = called op is (is_some x.call) (is_bad_range (span_of op)) (is_spent x.next) refl
  by_input (Hears from m) is = heard from m is
  by_input (TimesOut j) is = timeout j is x.call refl
  by_input Leaves is = k.leaves is
  by_input Resends is = k.resends is _ _

  pub each_event_turn : P (table.at_first s file c x i) (step x i)
  each_event_turn = by_input i refl
