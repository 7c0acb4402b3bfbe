-- What a read, or a call that scatters, awaits behind a move was awaited before, or is sent in the move, and the log has the
-- call's entry.
use Rattle.std.proofs.Common.{◌≡◌, ◌⊎◌, ◌+◌, ℕ, Bool, true, false, List, [], ◌∷◌, ◌++◌, fold, length, Option, Some, None, Ok, refl, sym, ap, subst, ◌∙◌, append_assoc, inl, inr, arith}
use Rattle.std.specs.Prelude.{option_map}
use Rattle.std.proofs.lemmas.Bool.{true≢false, cases_Bool}
use Rattle.std.proofs.lemmas.List.Sums.{fold-append}
use Rattle.osd_objects.proofs.Entries.{lookup_inserted}
use Rattle.osd_commands.specs.declared.actions.Action.{Action}
use Rattle.osd_commands.specs.declared.actions.Action.TheVariants as action
use Rattle.osd_commands.specs.declared.commands.Command.{Command}
use Rattle.osd_commands.specs.Commands.{reading, spelling}
use Rattle.osd_drive.specs.Table.{is_write as is_write_action}
use Rattle.file_log.specs.declared.entry.Entry.{Entry}
use Rattle.file_log.specs.declared.entry.Entry.TheVariants as entry
use Rattle.scenario_text.specs.declared.event.Call.{Call as ToldCall}
use Rattle.scenario_text.specs.declared.event.Call.TheVariants as told
use Rattle.scenario_text.specs.declared.line.Line.{Line}
use Rattle.scenario_text.specs.declared.line.Line.TheVariants as line
use Rattle.server_rules.specs.Laws.{In}
use Rattle.server_rules.proofs.Members.{in_either}
use Rattle.client_rules.specs.Calls.{is_write}
use Rattle.client_rules.specs.Messages.{awaited_of}
use Rattle.world_history.specs.ClientNames.{Call, CallOp, Awaited, Phase, Starts, Needs, Waits, Reads, Probes, Gathers, Scatters}
use Rattle.world_history.specs.Handed.{Post}
use Rattle.world_history.specs.Moves.{Act, Action as MoveAction, Opens, Delivers, TimesOut, Pends, acts, op_of}
use Rattle.world_history.specs.ReadLog.{Pending, Log, log_after, empty_log, log_in, sends_as, sends_in, sends_command, sends_write, sends_read, begins_beside}
use Rattle.world_history.specs.Sending.{Move, move, sent_line, sent_lines}
use Rattle.world_history.specs.State.{World, ClientAt, at_number}
use Rattle.world_history.specs.declared.messages.Message.{Message}
use Rattle.history_law.specs.Moments.{IsMoment, with_event, lines_in}
use Rattle.cause_law.proofs.Eventless.{NoEvent, more_plain}
use Rattle.exchange_law.specs.Doing.{posted}
use Rattle.exchange_law.specs.InStep.{state_of, client_of}
use Rattle.exchange_law.specs.Pending.{logged_op, IsPendingAt}
use Rattle.exchange_law.proofs.Awaited.{few_at}
use Rattle.exchange_law.proofs.PendingEntries.{AreRising}
use Rattle.exchange_law.proofs.PendingLines.{sent_keeps}
use Rattle.exchange_law.proofs.RefusalClients.{Known, HasFew, clients_ran}
use Rattle.exchange_law.proofs.RefusalSending.{command_of}
use Rattle.exchange_law.proofs.Turning.{sent_by}
use Rattle.exchange_law.proofs.Turns.{messages_behind}
use Rattle.headline_law.specs.Claim.{IsOfScenario}
use Rattle.headline_law.proofs.ClientAwaits.{was_awaited, one_of}
use Rattle.headline_law.specs.Reads.{ReadsAwaitReads}
use Rattle.relation_law.specs.Working.{IsOne}
use Rattle.file_simulation.specs.Messages.{is_scatter}
use Rattle.history_claims.proofs.PlainPending.{IsIn, lines_go, log_rises}
use Rattle.history_claims.proofs.PlainWrites.{ScattersAwaitWrites}
use Rattle.history_claims.proofs.Wrote.{IsLate, HasScattered}

-- messages begin no event
sent_plain : (n : ℕ) (ps : List Post) → NoEvent (sent_lines n ps)
unfolding sent_lines
sent_plain n [] = refl
sent_plain n (p ∷ ps) = more_plain (sent_line n p.message) (sent_lines (n + 1) ps) refl (sent_plain (n + 1) ps)

-- ---- its command is sent

-- a READ of a read, or a WRITE of a write
abbrev pub kind_of : (write : Bool) → Action
kind_of false = action.Read
kind_of true = action.Write

module _ (c : ℕ) (op : CallOp) (write : Bool) (its : is_write op ≡ write) where
  -- the client has the call pending
  abbrev Works : Log → Type 0
  Works l = logged_op (at_number l.pending c) ≡ Some op

  entry_begins : (l : Log) (p : Pending) (f g : ℕ) (e : Entry) → at_number l.pending c ≡ Some p → (o : Option ℕ) →
      p.entry ≡ o → IsIn (begins_beside l c p f g e o) c
  entry_begins l p f g e is None none =
      (record p { entry = Some (length l.entries) }, lookup_inserted l.pending c _, (length l.entries, refl))
  entry_begins l p f g e is (Some n) some = (p, is, (n, some))

  begun : (b : Bool) (l : Log) (n : ℕ) (x : Command) (p : Pending) (y : ToldCall) → at_number l.pending c ≡ Some p →
      is_write (op_of y) ≡ b → p.call ≡ y → IsIn (sends_command l n c p x (kind_of b)) c
  begun false l n x p (told.Write f offset bytes) is k same = absurd (true≢false k)
  begun true l n x p (told.Read f offset count) is k same = absurd (true≢false (sym k))
  begun false l n x p (told.Read f offset count) is k same =
      subst (λ (y : ToldCall). IsIn (sends_read l c p x y) c) (sym same)
      (entry_begins l p f x.capability.grant (entry.Read offset count None) is p.entry refl)
  begun true l n x p (told.Write f offset bytes) is k same =
      subst (λ (y : ToldCall). IsIn (sends_write l n c p x y) c) (sym same)
      (let i = entry_begins l p f x.capability.grant (entry.Write offset bytes false) is p.entry refl in (i.0, i.1, i.2))

  sent_in_call : (l : Log) (n : ℕ) (x : Command) → x.action ≡ kind_of write → (o : Option Pending) →
      at_number l.pending c ≡ o → Works l → IsIn (sends_in l n c x o) c
  sent_in_call l n x kind None is works = absurd (cc (sym works ∙ ap logged_op is))
  sent_in_call l n x kind (Some p) is works =
      let one : Some (op_of p.call) ≡ Some op = sym (ap logged_op is) ∙ works in
      let same : op_of p.call ≡ op = cc one in
      subst (λ (a : Action). IsIn (sends_command l n c p x a) c) (sym kind)
      (begun write l n x p p.call is (ap is_write same ∙ its) refl)

  one_logs : (l : Log) (n d : ℕ) (x : Command) → x.action ≡ kind_of write → reading (spelling x) ≡ Ok x → Works l →
      IsIn (log_after l (sent_line n (command_of c d x))) c
  one_logs l n d x kind reads_it works =
      subst (λ (r : _). IsIn (sends_as l n c r) c) (sym reads_it) (sent_in_call l n x kind (at_number l.pending c) refl works)

  -- an entry stays while messages are sent
  entry_stays : (l : Log) (n : ℕ) (ps : List Post) → AreRising l.pending → Works l → IsIn l c →
      IsIn (fold log_after l (sent_lines n ps)) c
  entry_stays l n ps rising works i = elim ((lines_go c (sent_lines n ps) l rising (sent_plain n ps)).logged i) [
    | inl there ↦ there
    | inr none ↦ absurd (cc (sym works ∙ sym ((sent_keeps l n ps).1 c) ∙ ap logged_op none))
  ]

  -- The message with the command is among these.
  sent_logs : (ps : List Post) (l : Log) (n d : ℕ) (x : Command) → x.action ≡ kind_of write → reading (spelling x) ≡ Ok x →
      AreRising l.pending → Works l → In (command_of c d x) (posted ps) → IsIn (fold log_after l (sent_lines n ps)) c
  unfolding sent_lines
  sent_logs [] l n d x kind reads_it rising works i = absurd i
  sent_logs (p ∷ ps) l n d x kind reads_it rising works i =
      let next : Log = log_after l (sent_line n p.message) in
      let keeps = sent_keeps l n (p ∷ []) in
      let rises : AreRising next.pending = keeps.0 rising in
      let still : Works next = keeps.1 c ∙ works in
      elim i [
        | inl e ↦
            entry_stays next (n + 1) ps rises still
            (subst (λ (m : Message). IsIn (log_after l (sent_line n m)) c) e (one_logs l n d x kind reads_it works))
        | inr j ↦ sent_logs ps next (n + 1) d x kind reads_it rises still j
      ]

-- ---- a move

pub record SentLaws : Type 0 where
  pub known : Known
  pub pending : (w : World) (h : List Line) → IsMoment w h → IsOfScenario h → (c : ℕ) → IsPendingAt w (log_in h) c
  -- what a read awaits are READs, which drives read as they are; and WRITEs are what a call that scatters awaits
  pub reads : ReadsAwaitReads
  pub writes : ScattersAwaitWrites

module _ (laws : SentLaws) (w : World) (h : List Line) (k : IsMoment w h) (m : Move)
    (next : IsMoment (move w m).world (h ++ lines_in w m)) (t : IsOfScenario (h ++ lines_in w m)) (c : ℕ) (call : Call)
    (is : (client_of (move w m).world c).call ≡ Some call) where
  abbrev v : World
  v = (move w m).world

  abbrev act : Act
  act = acts w m.chosen m.action

  abbrev number : ℕ
  number = length act.world.network.messages

  few : HasFew (move w m).world
  few = few_at (move w m).world (h ++ lines_in w m) next (omega (arith, t.few))

  abbrev middle : Log
  middle = log_in (h ++ with_event m.action act.told)

  log_behind : log_in (h ++ lines_in w m) ≡ fold log_after middle (sent_lines number act.posts)
  log_behind =
      ap log_in (by m.action)
      ∙ fold-append log_after empty_log (h ++ with_event m.action act.told) (sent_lines number act.posts)
    where
      by : (b : MoveAction) → h ++ with_event b (act.told ++ sent_lines number act.posts)
          ≡ (h ++ with_event b act.told) ++ sent_lines number act.posts
      by (Opens e) = sym (append_assoc h (line.Event e ∷ act.told) (sent_lines number act.posts))
      by (Delivers n) = sym (append_assoc h act.told (sent_lines number act.posts))
      by (TimesOut q j) = sym (append_assoc h act.told (sent_lines number act.posts))
      by (Pends q) = sym (append_assoc h act.told (sent_lines number act.posts))

  works_there : logged_op (at_number middle.pending c) ≡ Some call.op
  works_there =
      sym ((sent_keeps middle number act.posts).1 c)
      ∙ ap (λ (l : Log). logged_op (at_number l.pending c)) (sym log_behind)
      ∙ laws.pending (move w m).world (h ++ lines_in w m) next t c ∙ ap (option_map (λ (z : Call). z.op)) is

  module _ (write : Bool) (its : is_write call.op ≡ write) (a : Awaited)
      (kind : a.command.action ≡ kind_of write) (read : reading (spelling a.command) ≡ Ok a.command)
      (i : In a (awaited_of (client_of (move w m).world c).call)) where
    message : Message
    message = command_of c a.drive a.command

    was_sent : (o : Option ClientAt) → at_number (move w m).world.clients c ≡ o → In a (awaited_of (state_of c o).call) →
        In (command_of c a.drive a.command) (sent_by (move w m).world)
    was_sent None gone j = absurd j
    was_sent (Some b) there j =
        ((clients_ran laws.known (move w m).world (h ++ lines_in w m) next few).clients c b there).awaited a j

    -- What is awaited was awaited before, or is in the log.
    is_sent : In a (awaited_of (client_of w c).call) ⊎ IsIn (log_in (h ++ lines_in w m)) c
    is_sent = elim (was_awaited laws.known w h m k next few c a i) [
      | inl before ↦ inl before
      | inr never ↦ inr (elim (in_either (command_of c a.drive a.command) (sent_by w) (posted act.posts)
          (subst (In (command_of c a.drive a.command)) (messages_behind w m) (was_sent (at_number v.clients c) refl i))) [
            | inl old ↦ absurd (never a.command (command_of c a.drive a.command) old refl refl refl)
            | inr new ↦
                subst (λ (l : Log). IsIn l c) (sym log_behind)
                (sent_logs c call.op write its act.posts middle number a.drive a.command kind read
                (log_rises (h ++ with_event m.action act.told)) works_there new)
          ])
    ]

  pub read_is_sent : is_write call.op ≡ false → (a : Awaited) → In a (awaited_of (client_of (move w m).world c).call) →
      In a (awaited_of (client_of w c).call) ⊎ IsIn (log_in (h ++ lines_in w m)) c
  read_is_sent read a i =
      let r = laws.reads v (h ++ lines_in w m) next t c call is read a i in is_sent false read a r.0 r.1 i

  -- what a call that scatters awaits isn't what one awaited that didn't
  was_scatter : (a : Awaited) → a.command.action ≡ action.Write → In a (awaited_of (client_of w c).call) →
      HasScattered (client_of w c)
  was_scatter a kind i = by (client_of w c).call refl i
    where
      late : (was : Call) → (client_of w c).call ≡ Some was → (p : Phase) → was.phase ≡ p → is_scatter p ≡ true →
          HasScattered (client_of w c)
      late was there (Scatters io queue) e s = record { call = was; pending = there; late = subst IsLate (sym e) tt }
      late was there Starts e s = absurd (cc s)
      late was there (Needs n) e s = absurd (cc s)
      late was there (Waits n) e s = absurd (cc s)
      late was there (Reads io) e s = absurd (cc s)
      late was there (Probes io) e s = absurd (cc s)
      late was there (Gathers io) e s = absurd (cc s)

      by : (o : Option Call) → (client_of w c).call ≡ o → In a (awaited_of o) → HasScattered (client_of w c)
      by None none j = absurd j
      by (Some was) there j = elim (cases_Bool (is_scatter was.phase)) [
        | inl s ↦ late was there was.phase refl s
        | inr f ↦
            let one : IsOne (is_scatter was.phase) a = one_of w h k c was there a j in
            absurd (true≢false (sym (ap is_write_action kind) ∙ one.action ∙ f))
      ]

  -- A call that scatters behind the move scattered before, or its entry is in the log; and it writes.
  pub scatter_is_sent : is_scatter call.phase ≡ true → (a : Awaited) →
      In a (awaited_of (client_of (move w m).world c).call) →
      (HasScattered (client_of w c) ⊎ IsIn (log_in (h ++ lines_in w m)) c) × (is_write call.op ≡ true)
  scatter_is_sent scatters a i =
      let r = laws.writes v (h ++ lines_in w m) next t c call is scatters a i in (
        elim (is_sent true r.0 a r.1 r.2 i) [
          | inl before ↦ inl (was_scatter a r.1 before)
          | inr there ↦ inr there
        ],
        r.0,
      )
