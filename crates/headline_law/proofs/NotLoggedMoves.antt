-- A client's command goes out only for a call under a grant that the client holds behind the move; and no message is told of in
-- front of those that are sent.
-- Towards `NoneIsLoggedBehind` (`specs/NotLogged.antt`).
use Rattle.std.proofs.Common.{◌≡◌, ◌&&◌, ◌||◌, not, nat_lt, ℕ, Bool, true, false, List, [], ◌∷◌, ◌++◌, filter, map, Option, Some, None, refl, sym, ap, subst, ◌∙◌, inl, inr, if◌then◌else◌}
use Rattle.std.specs.List.{filter_map, cons_option}
use Rattle.std.specs.Prelude.{option_map}
use Rattle.osd_lists.specs.declared.node.Node.TheVariants as node
use Rattle.osd_commands.specs.declared.commands.Command.{Command}
use Rattle.scenario_text.specs.declared.line.Delivery.{Delivery}
use Rattle.scenario_text.specs.declared.line.Delivery.TheVariants as delivery
use Rattle.scenario_text.specs.declared.line.Outcome.{Outcome as ToldOutcome}
use Rattle.scenario_text.specs.declared.line.Line.{Line}
use Rattle.scenario_text.specs.declared.line.Line.TheVariants as line
use Rattle.scenario_text.specs.declared.names.TheConstants.{FILES}
use Rattle.server_rules.specs.Laws.{In}
use Rattle.server_rules.proofs.Members.{in_mapped, in_filtered}
use Rattle.server_rules.specs.History as server
use Rattle.client_rules.specs.Calls.{file_of}
use Rattle.client_rules.specs.Envelopes.{receiver}
use Rattle.client_rules.specs.Grants.{held_of}
use Rattle.client_rules.specs.History.{Input, step}
use Rattle.client_rules.specs.Messages.{awaited_of}
use Rattle.world_history.specs.ServerNames.{Note}
use Rattle.world_history.specs.ServerNames as server_rules
use Rattle.world_history.specs.ClientNames as client_rules
use Rattle.world_history.specs.ClientNames.{Awaited, Call, CallOp, Client, Held, Outcome, Outgoing}
use Rattle.world_history.specs.Handed.{Post, is_addressed, client_post, client_posts, server_post, is_write_out, pending_op, ended_by, end_line, op_in, wrote_in, data_in}
use Rattle.world_history.specs.Moves.{Act, Action, Opens, Delivers, TimesOut, Pends, acts}
use Rattle.world_history.specs.Names.{is_tellable_note, where_known, note_line, known_note_line, known_outcome}
use Rattle.world_history.specs.Told.{kind_of}
use Rattle.world_history.specs.State.{World, ClientAt, at_number}
use Rattle.history_law.specs.Answered.{IsNoMessage}
use Rattle.history_law.specs.Moments.{with_event}
use Rattle.history_law.specs.Moves.{MoveCases, IsQuiet, AreQuiet, front_of}
use Rattle.history_law.proofs.Moves.{each_act, front_cases}
use Rattle.exchange_law.specs.InStep.{state_of}
use Rattle.exchange_law.proofs.Each.{put_same}
use Rattle.file_simulation.specs.Relation.{client_of}
use Rattle.relation_law.specs.Working.{CallWorks, ClientWorks}
use Rattle.relation_law.proofs.WorksRun.{step_works}
use Rattle.headline_law.proofs.NotLoggedLines.{NoMessages}
use Rattle.headline_law.proofs.SentAwaited.{sends_awaited}
use Rattle.headline_law.proofs.SentTurn.{awaited_works}

-- ---- what is told

quiet_told : (ls : List Line) → AreQuiet ls → NoMessages ls
quiet_told [] q = tt
quiet_told (l ∷ ls) q = (one l q.0, quiet_told ls q.1)
  where
    one : (x : Line) → IsQuiet x → IsNoMessage x
    one (line.Message number from to bytes) y = absurd y
    one x y = tt

notes_told : (ns : List Note) → NoMessages (filter_map known_note_line ns)
notes_told [] = tt
notes_told (n ∷ ns) = by (nat_lt n.file FILES && is_tellable_note n.kind) (notes_told ns)
  where
    by : (b : Bool) → NoMessages (filter_map known_note_line ns) →
        NoMessages (cons_option (where_known b (note_line n)) (filter_map known_note_line ns))
    by true rest = (tt, rest)
    by false rest = rest

end_told : (c : ℕ) (op : Option CallOp) (o : Option Outcome) → NoMessages (ended_by c op o)
end_told c None o = tt
end_told c (Some op) None = tt
end_told c (Some op) (Some o) = at_ (known_outcome (kind_of op) o)
  where
    at_ : (u : Option ToldOutcome) → NoMessages (end_line c u)
    at_ None = tt
    at_ (Some u) = (tt, tt)

front_told : (action : Action) (d : Delivery) (ls : List Line) → NoMessages ls → NoMessages (front_of action d ++ ls)
front_told action d ls none =
    front_cases (λ (front : List Line). NoMessages (front ++ ls)) none (λ number x. (tt, none)) (λ c k. (tt, none)) action d

pub event_told : (action : Action) (ls : List Line) → NoMessages ls → NoMessages (with_event action ls)
event_told (Opens e) ls none = (tt, none)
event_told (Delivers number) ls none = none
event_told (TimesOut c k) ls none = none
event_told (Pends c) ls none = none

-- ---- what a client sends

-- a message of a client's turn
pub posted_out : (c : ℕ) (wrote : Bool) (logged : ℕ) (os : List Outgoing) (p : Post) → In p (client_posts c wrote logged os) →
    (o : Outgoing) × In o os × (k : ℕ) × (p ≡ client_post c k o)
posted_out c wrote logged [] p i = absurd i
posted_out c wrote logged (o ∷ os) p (inl e) = (o, inl refl, if is_write_out o && not wrote then logged else 0, e)
posted_out c wrote logged (o ∷ os) p (inr i) =
    let r = posted_out c (wrote || is_write_out o) logged os p i in
    (r.0, inr r.1, r.2, r.3)

-- to a drive goes a command
pub to_drive_is : (o : Outgoing) (d : ℕ) → receiver o ≡ node.Drive d → (n : ℕ) × (y : Command) × (o ≡ client_rules.ToDrive n y)
to_drive_is (client_rules.AnswersRecall a) d e = absurd (cc e)
to_drive_is (client_rules.Asks r) d e = absurd (cc e)
to_drive_is (client_rules.ToDrive n y) d e = (n, y, refl)

-- A call's client holds a grant on its file behind a move in which the server rests.
pub record IsHeldBehind (w v : World) (c : ℕ) (op : CallOp) : Type 0 where
  pub held : Held
  pub holds : held_of (client_of v c).held (file_of op) ≡ Some held
  pub rests : v.server ≡ w.server

module _ (w : World) (chosen : List ℕ) (action : Action)
    (works : (c : ℕ) (a : ClientAt) → at_number w.clients c ≡ Some a → ClientWorks a.state) where
  -- What an act tells and sends.
  pub record TellsSends (a : Act) : Type 0 where
    pub told : NoMessages a.told
    pub sent : (p : Post) → In p a.posts → (c d : ℕ) → p.message.from ≡ node.Client c → p.message.to ≡ node.Drive d →
        (op : CallOp) → pending_op (client_of a.world c) ≡ Some op → IsHeldBehind w a.world c op

  module _ (c : ℕ) (a : ClientAt) (found : at_number w.clients c ≡ Some a) (i : Input) where
    -- behind its turn
    works_behind : CallWorks (step a.state i).client.held (step a.state i).client.call
    works_behind = step_works a.state (works c a found) i

    -- a command that is sent is awaited, by a call that works
    holds_by : (x : Awaited) (o : Option Call) → In x (awaited_of o) → CallWorks (step a.state i).client.held o → (op : CallOp) →
        option_map (λ (z : Call). z.op) o ≡ Some op →
        (h : Held) × (held_of (step a.state i).client.held (file_of op) ≡ Some h)
    holds_by x None j k op is = absurd j
    holds_by x (Some z) j k op is =
        let same : z.op ≡ op = cc is in
        let r = k.0 (awaited_works z.phase x j) in
        (r.0, ap (λ (q : CallOp). held_of (step a.state i).client.held (file_of q)) (sym same) ∙ r.1)

    holds : (d : ℕ) (y : Command) → In (client_rules.ToDrive d y) (step a.state i).sends → (op : CallOp) →
        pending_op (step a.state i).client ≡ Some op →
        (h : Held) × (held_of (step a.state i).client.held (file_of op) ≡ Some h)
    holds d y j op is =
        let r = sends_awaited a.state i (works c a found) d y j in
        holds_by r.0 (step a.state i).client.call r.1 works_behind op is

    goes_sent : (v : World) → client_of v c ≡ (step a.state i).client → v.server ≡ w.server → (p : Post) →
        In p (filter is_addressed (client_posts c (wrote_in a i) (data_in (op_in a.state i)) (step a.state i).sends)) →
        (k d : ℕ) → p.message.from ≡ node.Client k → p.message.to ≡ node.Drive d → (op : CallOp) →
        pending_op (client_of v k) ≡ Some op → IsHeldBehind w v k op
    goes_sent v is rests p j k d from to op pending =
        let all : List Post = client_posts c (wrote_in a i) (data_in (op_in a.state i)) (step a.state i).sends in
        let r = posted_out c (wrote_in a i) (data_in (op_in a.state i)) (step a.state i).sends p
        (in_filtered is_addressed p all j).0 in
        let named : node.Client c ≡ node.Client k = sym (ap (λ (q : Post). q.message.from) r.3) ∙ from in
        let same : c ≡ k = cc named in
        let goes : receiver r.0 ≡ node.Drive d = sym (ap (λ (q : Post). q.message.to) r.3) ∙ to in
        let z = to_drive_is r.0 d goes in
        let mine : client_of v k ≡ (step a.state i).client = ap (client_of v) (sym same) ∙ is in
        let h = holds z.0 z.1 (subst (λ (o : Outgoing). In o (step a.state i).sends) z.2 r.1) op
        (sym (ap pending_op mine) ∙ pending) in
        record {
          held = h.0;
          holds = ap (λ (x : Client). held_of x.held (file_of op)) mine ∙ h.1;
          rests = rests;
        }

  cases : MoveCases w chosen action TellsSends
  cases = record {
    rests = λ ms said told quiet. record { told = quiet_told told quiet; sent = λ p j. absurd j };
    refused = λ c a found op is e why. record { told = (tt, tt); sent = λ p j. absurd j };
    clock = λ time. record { told = tt; sent = λ p j. absurd j };
    serves = λ ms said i is. record {
      told = front_told action delivery.Taken (filter_map known_note_line (server.step w.server chosen i).notes)
          (notes_told (server.step w.server chosen i).notes);
      sent = λ p j c d from.
          absurd (not_server p (server.step w.server chosen i).sends
          (in_filtered is_addressed p (map server_post (server.step w.server chosen i).sends) j).0 c from);
    };
    goes = λ ms said c a found i is. record {
      told = front_told action delivery.Taken (ended_by c (op_in a.state i) (step a.state i).outcome)
          (end_told c (op_in a.state i) (step a.state i).outcome);
      sent = goes_sent c a found i _ (ap (state_of c) (put_same w.clients c a _ found)) refl;
    };
    comes = λ c is. record { told = tt; sent = λ p j. absurd j };
    stops = λ c a found. record { told = tt; sent = λ p j. absurd j };
    judged = λ ms said d a found hears m number. record {
      told = (tt, tt);
      sent = λ p j c e from. elim j [
        | inl it ↦ absurd (not_drive d c (sym (ap (λ (q : Post). q.message.from) it) ∙ from))
        | inr none ↦ absurd none
      ];
    };
    injected = λ d bytes is a found. record { told = (tt, tt); sent = λ p j. absurd j };
    turns = λ d a b found turns. record { told = tt; sent = λ p j. absurd j };
    known = λ d key capacity stored is knows. record { told = tt; sent = λ p j. absurd j };
    adds = λ d key capacity stored is knows. record { told = tt; sent = λ p j. absurd j };
  }
    where
      not_server : (p : Post) (os : List server_rules.Outgoing) → In p (map server_post os) → (c : ℕ) →
          p.message.from ≡ node.Client c → ⊥
      not_server p os j c from =
          let r = in_mapped server_post p os j in
          let e : node.Server ≡ node.Client c = sym (ap (λ (q : Post). q.message.from) r.2) ∙ from in cc e

      not_drive : (d c : ℕ) → node.Drive d ≡ node.Client c → ⊥
      not_drive d c e = cc e

  -- Each move tells and sends so.
  pub tells_sends : TellsSends (acts w chosen action)
  tells_sends = each_act w chosen TellsSends action cases
