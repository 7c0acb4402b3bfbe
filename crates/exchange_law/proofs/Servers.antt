-- What the server sends to drives is under its own holder, over all lines.
use Rattle.std.proofs.Common.{◌≡◌, ◌⊎◌, ℕ, ◌<◌, ◌^◌, ◌++◌, ◌∷◌, [], List, map, sym, ap, subst, ◌∙◌, append_assoc, arith, inl, inr}
use Rattle.osd_lists.specs.declared.node.Node.{Node}
use Rattle.osd_lists.specs.declared.node.Node.TheVariants as node
use Rattle.osd_commands.specs.declared.commands.Command.{Command}
use Rattle.osd_commands.specs.Commands.{reading, spelling}
use Rattle.server_rules.specs.declared.limits.TheConstants.{SERVER_HOLDER}
use Rattle.server_rules.specs.Laws.{In}
use Rattle.server_rules.specs.History.{step}
use Rattle.server_rules.proofs.Members.{in_either, in_mapped}
use Rattle.scenario_text.specs.declared.line.Line.{Line}
use Rattle.world_history.specs.declared.messages.Body.{Body}
use Rattle.world_history.specs.declared.messages.Body.TheVariants.{Command as OfCommand}
use Rattle.world_history.specs.declared.messages.Message.{Message}
use Rattle.world_history.specs.declared.messages.Posted.{Posted}
use Rattle.world_history.specs.declared.messages.Sent.{Sent}
use Rattle.world_history.specs.State.{World}
use Rattle.world_history.specs.Spelled.{spelled}
use Rattle.world_history.specs.Handed.{Post}
use Rattle.world_history.specs.Moves.{Act, acts}
use Rattle.world_history.specs.Sending.{Move, move, sends_all}
use Rattle.world_history.specs.Reading.{sent_in}
use Rattle.world_history.specs.History.{Lawful}
use Rattle.world_history.specs.Laws.{shown}
use Rattle.world_history.proofs.Always.{opening, IsKept}
use Rattle.world_history.proofs.Parties.{party_server, party_drive}
use Rattle.history_law.proofs.DriveLines.{sent_read}
use Rattle.history_law.proofs.Histories.{lawful}
use Rattle.history_law.specs.Owned.{AreOwned}
use Rattle.history_law.proofs.JobSteps.{step_owns}
use Rattle.history_law.proofs.Carried.{read_spelled}
use Rattle.history_law.proofs.IssueLines.{IsKnown, all_known}
use Rattle.history_law.proofs.LaneLines.{letter, letters, letters_stay}
use Rattle.history_law.proofs.FencingMoves.{messages_in, Acts, Others, Serves, each_acts}
use Rattle.history_law.proofs.Numbers.{to_drive, sent_anew, none_anew, messages_sent}
use Rattle.history_law.proofs.Holders.{holder_read}
use Rattle.exchange_law.proofs.Sources.{ServersOwn}

-- ---- in each world

-- what jobs await and what was sent to drives is under the server's holder
record Owned (w : World) : Type 0 where
  waits : AreOwned w.server.files
  sent : (d : ℕ) (b : Body) → In (to_drive d b) (messages_in w)
      → (c : Command) × (b ≡ OfCommand c) × (c.capability.holder ≡ SERVER_HOLDER)

split : (w : World) (a : Act) (d : ℕ) (b : Body) → messages_in a.world ≡ messages_in w
    → In (to_drive d b) (messages_in (sends_all a).world)
    → In (to_drive d b) (messages_in w) ⊎ In (to_drive d b) (map (λ (p : Post). p.message) a.posts)
split w a d b same i =
    elim (in_either (to_drive d b) (messages_in a.world) (map (λ (p : Post). p.message) a.posts)
    (subst (In (to_drive d b)) (messages_sent a.world.network.messages a.posts) i)) [
      | inl j ↦ inl (subst (In (to_drive d b)) same j)
      | inr j ↦ inr j
    ]

owned_act : (w : World) (a : Act) → Owned w → Acts w a.world a.told a.posts → Owned (sends_all a).world
owned_act w a o (Others server messages told others) = record {
  waits = subst (λ s. AreOwned s.files) (sym server) o.waits;
  sent = λ d b i. elim (split w a d b messages i) [
    | inl j ↦ o.sent d b j
    | inr j ↦ absurd (none_anew a.posts d b others j)
  ];
}
owned_act w a o (Serves chosen i sent server messages told posts) = record {
  waits = subst (λ s. AreOwned s.files) (sym server) ((step_owns w.server chosen i).waits o.waits);
  sent = λ d b j. elim (split w a d b messages j) [
    | inl k ↦ o.sent d b k
    | inr k ↦
        let r = sent_anew (step w.server chosen i).sends d b
        (subst (λ (ps : List Post). In (to_drive d b) (map (λ (p : Post). p.message) ps)) posts k) in
        (r.0, r.2, (step_owns w.server chosen i).sends o.waits d r.0 r.1)
  ];
}

owned_move : (w : World) (m : Move) → Owned w → Owned (move w m).world
owned_move w m o = owned_act w (acts w m.chosen m.action) o (each_acts w m.chosen m.action)

-- ---- at each moment

record IsOwnedIn (w : World) (h : List Line) : Type 0 where
  known : IsKnown w h
  owned : Owned w

all_owned : IsKept IsOwnedIn
all_owned = record {
  starts = record {
    known = all_known.starts;
    owned = record { waits = λ a i. absurd i.1; sent = λ d b i. absurd i };
  };
  opens = λ w h e chosen k allowed. record {
    known = all_known.opens w h e chosen k.known allowed;
    owned = owned_move w (opening e chosen) k.owned;
  };
  moves = λ w h r m k due. record {
    known = all_known.moves w h r m k.known due;
    owned = owned_move w m k.owned;
  };
}

-- ---- in the words of the lines

message_is : (m : Message) (d : ℕ) → m.from ≡ node.Server → m.to ≡ node.Drive d → m ≡ to_drive d m.body
message_is m d by to =
    ap (λ (n : Node). record { from = n; to = m.to; body = m.body }) by
    ∙ ap (λ (n : Node). record { from = node.Server; to = n; body = m.body }) to

small : SERVER_HOLDER < 2 ^ 32
small = omega arith

pub servers_own : (h : List Line) → Lawful h → (before after : List Line) → h ≡ before ++ after → ServersOwn before
servers_own h l before after is x d y i by to read =
    let more = lawful IsOwnedIn all_owned h l in
    let w : World = more.0 in
    let there : In x (letters (sent_in (h ++ more.1))) =
    subst (λ (ls : List Line). In x (letters (sent_in ls)))
    (sym (append_assoc before after more.1) ∙ ap (λ (ls : List Line). ls ++ more.1) (sym is))
    (letters_stay before (after ++ more.1) x i) in
    let seen : In x (letters (map shown w.network.messages)) =
    subst (λ (ss : List Sent). In x (letters ss))
    (sent_read w more.2.known.read.injected (h ++ more.1) more.2.known.read.drives) there in
    let s = in_mapped letter x (map shown w.network.messages) seen in
    let p = in_mapped shown s.0 w.network.messages s.1 in
    let letter_is : x ≡ letter (shown p.0) = s.2 ∙ ap letter p.2 in
    let from = party_server p.0.message.from (ap (λ (z : Sent). z.from) (sym letter_is) ∙ by) in
    let goes = party_drive p.0.message.to d (ap (λ (z : Sent). z.to) (sym letter_is) ∙ to) in
    let message : In (to_drive d p.0.message.body) (messages_in w) =
    subst (λ (m : Message). In m (messages_in w)) (message_is p.0.message d from goes)
    (in_message p.0 w.network.messages p.1) in
    let c = more.2.owned.sent d p.0.message.body message in
    let spells : x.bytes ≡ spelling c.0 = ap (λ (z : Sent). z.bytes) letter_is ∙ ap spelled c.1 in
    holder_read c.0.capability y.capability (subst (λ (n : ℕ). n < 2 ^ 32) (sym c.2) small)
    (read_spelled c.0 y (ap reading (sym spells) ∙ read)) ∙ c.2
  where
    in_message : (p : Posted) (ps : List Posted) → In p ps → In p.message (map (λ (q : Posted). q.message) ps)
    in_message p [] j = absurd j
    in_message p (q ∷ ps) (inl e) = inl (ap (λ (z : Posted). z.message) e)
    in_message p (q ∷ ps) (inr j) = inr (in_message p ps j)
