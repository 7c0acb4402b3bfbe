-- What is known at each moment: the history is lawful, its drives and messages are read off its lines, and what clients
-- sent to drives are commands.
use Rattle.std.proofs.Common.{◌≡◌, ℕ, ◌∷◌, ◌++◌, [], List, Some, None, map, slice_get, refl, sym, ap, subst, ◌∙◌, inl, inr}
use Rattle.std.proofs.lemmas.List.{append-nil}
use Rattle.osd_lists.specs.declared.node.Node.TheVariants as node
use Rattle.osd_commands.specs.declared.commands.Command.{Command}
use Rattle.server_rules.specs.Laws.{In}
use Rattle.server_rules.proofs.Members.{in_mapped}
use Rattle.exchange_law.specs.ClientState.{Outgoing, AnswersRecall, Asks, ToDrive}
use Rattle.scenario_text.specs.declared.event.Event.{Event}
use Rattle.scenario_text.specs.declared.line.Party.TheVariants as party
use Rattle.scenario_text.specs.declared.line.Line.{Line}
use Rattle.scenario_text.specs.declared.line.Line.TheVariants as line
use Rattle.world_history.specs.declared.messages.Body.TheVariants.{Command as OfCommand}
use Rattle.world_history.specs.declared.messages.Message.{Message}
use Rattle.world_history.specs.declared.messages.Posted.{Posted}
use Rattle.world_history.specs.declared.messages.Sent.{Sent}
use Rattle.world_history.specs.State.{World}
use Rattle.world_history.specs.Spelled.{spelled}
use Rattle.world_history.specs.Moves.{Act, acts}
use Rattle.world_history.specs.Sending.{Move, sends_all}
use Rattle.world_history.specs.Plans.{plan_of}
use Rattle.world_history.specs.Runs.{world_after, lines_of, AreDue}
use Rattle.world_history.specs.Reading.{sent_in}
use Rattle.world_history.specs.History.{StandsFor, Begins, Lawful, OneEventMore}
use Rattle.world_history.specs.History.Begins.{Nothing, Part}
use Rattle.world_history.specs.Laws.{shown}
use Rattle.world_history.specs.Refusals.{refusal}
use Rattle.world_history.proofs.Parties.{party_drive, party_client}
use Rattle.history_law.proofs.Moments.{IsKept}
use Rattle.history_law.proofs.Histories as histories
use Rattle.history_law.specs.BookMoments.{IsMoment, lines_so_far}
use Rattle.history_law.proofs.LaneLines.{in_get}
use Rattle.history_law.proofs.FencingMoves.{messages_in}
use Rattle.history_law.proofs.IssueLines.{IsKnown, all_known}
use Rattle.exchange_law.specs.Sent.{message_of, HasSent}
use Rattle.exchange_law.proofs.Dealing.{message_by, Acts, Others, Goes, Makes, each_acts}
use Rattle.exchange_law.proofs.LatestLaw.{sent_split, same_client}
use Rattle.exchange_law.proofs.LaneMoments.{moment}

-- ---- a moment's history

pub known_moves : (v : World) (h : List Line) (e : Event) (ms : List Move) → StandsFor v h → refusal v e ≡ None
    → AreDue (plan_of v e) v ms → IsKnown (world_after v ms) (h ++ lines_so_far v e ms)
known_moves v h e [] s allowed d = subst (IsKnown v) (sym (append-nil h)) (histories.stands IsKnown all_known v h s)
known_moves v h e (m ∷ ms) s allowed d =
    histories.kept_part IsKnown all_known v h e m ms d allowed (histories.stands IsKnown all_known v h s)

pub known_at : (w : World) (h : List Line) → IsMoment w h → IsKnown w h
known_at w h k =
    subst (λ (v : World). IsKnown v h) (sym k.world_is)
    (subst (IsKnown (world_after k.before k.moves)) (sym k.lines_are)
    (known_moves k.before k.history k.event k.moves k.stands k.allowed k.are_due))

begun : (v : World) (e : Event) (ms : List Move) → refusal v e ≡ None → AreDue (plan_of v e) v ms
    → Begins v (lines_so_far v e ms)
begun v e [] allowed d = Nothing refl
begun v e (m ∷ ms) allowed d =
    Part e (record {
      allowed = allowed;
      moves = m ∷ ms;
      are_due = d;
      part = ([], sym (append-nil (line.Event e ∷ lines_of v (m ∷ ms))));
    })

pub lawful_at : (w : World) (h : List Line) → IsMoment w h → Lawful h
lawful_at w h k = record {
  world = k.before;
  whole = k.history;
  stands = k.stands;
  last = lines_so_far k.before k.event k.moves;
  begins = begun k.before k.event k.moves k.allowed k.are_due;
  lines_are = k.lines_are;
}

-- ---- what clients send to drives

abbrev pub SendCommands : World → Type 0
SendCommands w =
    (m : Message) (c d : ℕ) → In m (messages_in w) → m.from ≡ node.Client c → m.to ≡ node.Drive d
    → (x : Command) × (m ≡ message_of c d x)

same_drive : (d k : ℕ) → node.Drive d ≡ node.Drive k → d ≡ k
same_drive d k e = cc e

command_of : (c d n : ℕ) (o : Outgoing) (m : Message) → m ≡ message_by n o → m.from ≡ node.Client c
    → m.to ≡ node.Drive d → (x : Command) × (m ≡ message_of c d x)
command_of c d n (ToDrive k x) m is from to = (
  x,
  is ∙ ap (λ (i : ℕ). message_of i k x)
      (same_client n c (ap (λ (y : Message). y.from) (sym is) ∙ from))
      ∙ ap (λ (i : ℕ). message_of c i x)
      (same_drive k d (ap (λ (y : Message). y.to) (sym is) ∙ to)),
)
command_of c d n (Asks r) m is from to = absurd (cc (sym to ∙ ap (λ (y : Message). y.to) is))
command_of c d n (AnswersRecall r) m is from to = absurd (cc (sym to ∙ ap (λ (y : Message). y.to) is))

act_commands : (w : World) (a : Act) → Acts w a.world a.posts → SendCommands w → SendCommands (sends_all a).world
act_commands w a (Others states same none) k m c d i from to = elim (sent_split w a m same i) [
  | inl old ↦ k m c d old from to
  | inr (p, j, e) ↦ absurd (none p c j (ap (λ (y : Message). y.from) (sym e) ∙ from))
]
act_commands w a (Makes n own others same none) k m c d i from to = elim (sent_split w a m same i) [
  | inl old ↦ k m c d old from to
  | inr (p, j, e) ↦ absurd (none p c j (ap (λ (y : Message). y.from) (sym e) ∙ from))
]
act_commands w a (Goes n b x found heard own others same sends) k m c d i from to = elim (sent_split w a m same i) [
  | inl old ↦ k m c d old from to
  | inr (p, j, e) ↦ let r = sends p j in command_of c d n r.0 m (e ∙ r.2) from to
]

all_commands : IsKept (λ w h. SendCommands w)
all_commands = record {
  starts = λ m c d i from to. absurd i;
  moves = λ w h k m due kept. act_commands w (acts w m.chosen m.action) (each_acts w m.chosen m.action) kept;
}

-- ---- a message that is read off the lines

in_message : (p : Posted) (ps : List Posted) → In p ps → In p.message (map (λ (q : Posted). q.message) ps)
in_message p [] j = absurd j
in_message p (q ∷ ps) (inl e) = inl (ap (λ (z : Posted). z.message) e)
in_message p (q ∷ ps) (inr j) = inr (in_message p ps j)

-- of a client to a drive is a command that it sent
pub record IsSent (w : World) (c d : ℕ) (bytes : List ℕ) : Type 0 where
  pub command : Command
  pub sent : HasSent w c d command
  pub bytes_are : bytes ≡ spelled (OfCommand command)

pub was_sent : OneEventMore → (w : World) (h : List Line) → IsMoment w h → (n : ℕ) (m : Sent) (c d : ℕ)
    → sent_in h ≡ map shown w.network.messages → slice_get (sent_in h) n ≡ Some m → m.from ≡ party.Client c
    → m.to ≡ party.Drive d → IsSent w c d m.bytes
was_sent further w h k n m c d read there from to =
    let r = in_mapped shown m w.network.messages
    (in_get (map shown w.network.messages) n m (ap (λ (ss : List Sent). slice_get ss n) (sym read) ∙ there)) in
    let p = r.0.message in
    let by = party_client p.from c (ap (λ (z : Sent). z.from) (sym r.2) ∙ from) in
    let for = party_drive p.to d (ap (λ (z : Sent). z.to) (sym r.2) ∙ to) in
    let i = in_message r.0 w.network.messages r.1 in
    let x = moment further (λ v ls. SendCommands v) all_commands w h k p c d i by for in
    record {
      command = x.0;
      sent = subst (λ (y : Message). In y (messages_in w)) x.1 i;
      bytes_are = ap (λ (z : Sent). z.bytes) r.2 ∙ ap (λ (y : Message). spelled y.body) x.1;
    }
