-- What a move does at the server: nothing, or a step by what lines can name, in its turn; and what it sends to drives.
use Rattle.std.proofs.Common.{◌≡◌, ℕ, Bool, true, false, not, List, [], ◌∷◌, Option, Some, None, is_some, map, filter, refl, sym, ap, subst, ◌∙◌, inl, inr, if◌then◌else◌}
use Rattle.osd_lists.specs.declared.node.Node.{Node}
use Rattle.osd_lists.specs.declared.node.Node.TheVariants as node
use Rattle.osd_commands.specs.declared.replies.Reply.{Reply}
use Rattle.scenario_text.specs.declared.event.Event.TheVariants as event
use Rattle.scenario_text.specs.declared.event.Machine.TheVariants as machine
use Rattle.scenario_text.specs.declared.event.Sender.TheVariants as sender
use Rattle.scenario_text.specs.declared.line.Line.TheVariants as line
use Rattle.server_rules.specs.History.{Input, Hears, Adds, step}
use Rattle.server_rules.specs.Laws.{In}
use Rattle.client_rules.specs.History as client
use Rattle.history_law.specs.Names.{Command, Outgoing, ToDrive, Recalls, Answers, AnswersOrder}
use Rattle.world_history.specs.ClientNames as client_rules
use Rattle.world_history.specs.declared.messages.Body.TheVariants.{Command as OfCommand, Reply as OfReply}
use Rattle.world_history.specs.declared.messages.Message.{Message}
use Rattle.world_history.specs.declared.err.WorldErr.{WorldErr}
use Rattle.world_history.specs.declared.err.WorldErr.TheVariants.{Running}
use Rattle.world_history.specs.State.{World, at_number}
use Rattle.world_history.specs.Handed.{Post, is_addressed, plain, wrote_in, data_in, op_in, server_post, client_posts}
use Rattle.world_history.specs.Moves.{Act, Action, Opens, known_drive, acts}
use Rattle.world_history.specs.Refusals.{refusal, first_of, if_failed, is_zoned, of_file, unless_down, unless_there, unless_zoned}
use Rattle.history_law.specs.Said.{posted}
use Rattle.history_law.specs.Moves.{given_in, IsForServer, MoveCases, drive_event, down_behind}
use Rattle.history_law.proofs.Moves.{each_act}
use Rattle.component_law.specs.Naming.{IsNamed, IsNamedInput}
use Rattle.world_history.proofs.Causes.{no_cause, is_up}
use Rattle.component_law.specs.Turns.{in_turn}
use Rattle.history_law.proofs.FencingMoves.{IsSent}
use Rattle.component_law.specs.Sent.{commanded}

-- ---- commands to drives

-- each command of the server among what is sent is one of these
abbrev pub Tells : List Post → List Outgoing → Type 0
Tells ps os = (d : ℕ) (c : Command) → In (commanded d c) (posted ps) → In (ToDrive d c) os

tells_none : Tells [] []
tells_none d c i = absurd i

-- a message that can't be addressed isn't sent
one_addressed : (b : Bool) (x : Message) (p : Post) (ps : List Post) → In x (posted (if b then p ∷ ps else ps))
    → In x (p.message ∷ posted ps)
one_addressed true x p ps i = i
one_addressed false x p ps i = inr i

addressed : (x : Message) (ps : List Post) → In x (posted (filter is_addressed ps)) → In x (posted ps)
addressed x [] i = i
addressed x (p ∷ ps) i = elim (one_addressed (is_addressed p) x p (filter is_addressed ps) i) [
  | inl e ↦ inl e
  | inr j ↦ inr (addressed x ps j)
]

from_server : (d : ℕ) (c : Command) (o : Outgoing) → commanded d c ≡ (server_post o).message → ToDrive d c ≡ o
from_server d c (ToDrive k b) e =
    let n : d ≡ k = number (ap (λ (m : Message). m.to) e) in
    let s : c ≡ b = body (ap (λ (m : Message). m.body) e) in
    ap (λ (x : ℕ). ToDrive x c) n ∙ ap (λ (x : Command). ToDrive k x) s
  where
    number : node.Drive d ≡ node.Drive k → d ≡ k
    number q = cc q

    body : OfCommand c ≡ OfCommand b → c ≡ b
    body q = cc q
from_server d c (Recalls r) e = absurd (cc (ap (λ (m : Message). m.body) e))
from_server d c (Answers a) e = absurd (cc (ap (λ (m : Message). m.body) e))
from_server d c (AnswersOrder a) e = absurd (cc (ap (λ (m : Message). m.body) e))

server_all : (os : List Outgoing) → Tells (map server_post os) os
server_all [] d c i = absurd i
server_all (o ∷ os) d c (inl e) = inl (from_server d c o e)
server_all (o ∷ os) d c (inr i) = inr (server_all os d c i)

server_tells : (os : List Outgoing) → Tells (filter is_addressed (map server_post os)) os
server_tells os d c i = server_all os d c (addressed (commanded d c) (map server_post os) i)

client_none : (n : ℕ) (wrote : Bool) (logged : ℕ) (os : List client_rules.Outgoing)
    → Tells (client_posts n wrote logged os) []
client_none n wrote logged [] d c i = absurd i
client_none n wrote logged (o ∷ os) d c (inl e) = absurd (cc (ap (λ (m : Message). m.from) e))
client_none n wrote logged (o ∷ os) d c (inr i) = client_none n _ logged os d c i

client_tells : (n : ℕ) (wrote : Bool) (logged : ℕ) (os : List client_rules.Outgoing)
    → Tells (filter is_addressed (client_posts n wrote logged os)) []
client_tells n wrote logged os d c i =
    client_none n wrote logged os d c (addressed (commanded d c) (client_posts n wrote logged os) i)

reply_tells : (n : ℕ) (to : Node) (r : Reply) → Tells (plain (node.Drive n) to (OfReply r) ∷ []) []
reply_tells n to r d c (inl e) = absurd (cc (ap (λ (m : Message). m.from) e))
reply_tells n to r d c (inr i) = absurd i

-- ---- what is done

-- what comes to the server in a move: lines can name it, it is in its turn, and what is heard was sent
pub record Comes (w : World) (i : Input) : Type 0 where
  pub named : IsNamedInput i
  pub turn : in_turn w.down i ≡ true
  pub sent : IsSent w i

pub data Does (w : World) (chosen : List ℕ) (a : Act) : Type 0 where
  Rests : a.world.server ≡ w.server → a.world.down ≡ w.down → Tells a.posts [] → Does w chosen a
  Serves : (i : Input) → Comes w i → a.world.server ≡ (step w.server chosen i).state
      → a.world.down ≡ down_behind w.down i → Tells a.posts (step w.server chosen i).sends → Does w chosen a

-- lines can name what the event of an action makes
abbrev pub IsNamedAction : Action → Type 0
IsNamedAction (Opens e) = IsNamed (line.Event e)
IsNamedAction action = Unit {0}

-- the event of an action isn't refused
abbrev pub IsAllowed : World → Action → Type 0
IsAllowed w (Opens e) = refusal w e ≡ None
IsAllowed w action = Unit {0}

-- ---- what is in its turn

-- what comes while the server is up
up : (w : World) → unless_down w ≡ None → not w.down ≡ true
up w e = ap not (is_up w e)

up_for : (w : World) (cause : Option WorldErr) → first_of cause (unless_down w) ≡ None → not w.down ≡ true
up_for w cause e = up w (no_cause cause (unless_down w) e).1

pub is_opened : (down : Bool) → (if down then None else Some Running) ≡ None → down ≡ true
is_opened true e = refl
is_opened false e = absurd (cc e)

-- ---- each action

-- what an action gives the server
on : (w : World) (j i : Input) → Some j ≡ Some i → IsNamedInput j → in_turn w.down j ≡ true
    → IsNamedInput i × (in_turn w.down i ≡ true)
on w j i e named turn =
    let same : j ≡ i = cc e in
    subst (λ (k : Input). IsNamedInput k × (in_turn w.down k ≡ true)) same (named, turn)

named_given : (w : World) (action : Action) (i : Input) → given_in action ≡ Some i → IsNamedAction action
    → IsAllowed w action → IsNamedInput i × (in_turn w.down i ≡ true)
unfolding refusal
named_given w (Opens (event.File f m tag)) i e named allowed = on w _ i e named (up w allowed)
named_given w (Opens (event.ZonedFile f m tag)) i e named allowed = on w _ i e named (up w allowed)
named_given w (Opens (event.Format format)) i e named allowed = on w _ i e tt (up w allowed)
named_given w (Opens (event.Zone d zone)) i e named allowed =
    on w _ i e tt (up_for w (unless_zoned (is_zoned w.server d) (at_number w.drives d)) allowed)
named_given w (Opens (event.Resend sender.Server)) i e named allowed = on w _ i e tt (up w allowed)
named_given w (Opens (event.Recall f)) i e named allowed = on w _ i e tt (up_for w (of_file w f) allowed)
named_given w (Opens (event.Revoke f)) i e named allowed = on w _ i e tt (up_for w (of_file w f) allowed)
named_given w (Opens (event.Rebuild f)) i e named allowed = on w _ i e tt (up_for w (of_file w f) allowed)
named_given w (Opens (event.Audit f)) i e named allowed = on w _ i e tt (up_for w (of_file w f) allowed)
named_given w (Opens (event.Declare d)) i e named allowed =
    on w _ i e tt (up_for w (if_failed (at_number w.drives d)) allowed)
named_given w (Opens (event.Crash machine.Server)) i e named allowed = on w _ i e tt (up w allowed)
named_given w (Opens (event.Reopen machine.Server)) i e named allowed = on w _ i e tt (is_opened w.down allowed)
named_given w action i e named allowed = absurd (cc e)

-- a drive that is made
named_drive : (w : World) (d : ℕ) (key : List ℕ) (capacity : ℕ) (stored : Bool)
    → IsNamedAction (Opens (drive_event d key capacity stored)) → IsAllowed w (Opens (drive_event d key capacity stored))
    → Comes w (Adds (known_drive d key capacity))
unfolding refusal
named_drive w d key capacity true named allowed = record {
  named = named;
  turn = up_for w (unless_there (is_some (at_number w.drives d))) allowed;
  sent = tt;
}
named_drive w d key capacity false named allowed = record {
  named = named;
  turn = up_for w (unless_there (is_some (at_number w.drives d))) allowed;
  sent = tt;
}

pub comes : (w : World) (action : Action) (i : Input) → IsForServer w action i → IsNamedAction action
    → IsAllowed w action → Comes w i
comes w action (Hears now from m) (d, now_is, from_is, read, number, awake) named allowed = record {
  named = tt;
  turn = ap not awake;
  sent = (d.number, d.posted, d.there, d.receiver, sym from_is, read);
}
comes w action i is named allowed =
    let x = named_given w action i is named allowed in record { named = x.0; turn = x.1; sent = tt }

cases : (w : World) (chosen : List ℕ) (action : Action) → IsNamedAction action → IsAllowed w action
    → MoveCases w chosen action (Does w chosen)
cases w chosen action named allowed = record {
  rests = λ ms said told quiet. Rests refl refl tells_none;
  refused = λ c a found op is e why. Rests refl refl tells_none;
  clock = λ time. Rests refl refl tells_none;
  serves = λ ms said i is.
      Serves i (comes w action i is named allowed) refl refl (server_tells (step w.server chosen i).sends);
  goes = λ ms said c a found i is.
      Rests refl refl (client_tells c (wrote_in a i) (data_in (op_in a.state i)) (client.step a.state i).sends);
  comes = λ c is. Rests refl refl tells_none;
  stops = λ c a found. Rests refl refl tells_none;
  judged = λ ms said d a found hears m number. Rests refl refl (reply_tells d m.posted.message.from _);
  injected = λ d bytes is a found. Rests refl refl tells_none;
  turns = λ d a b found turns. Rests refl refl tells_none;
  known = λ d key capacity stored is knows. Rests refl refl tells_none;
  adds = λ d key capacity stored is knows.
      Serves (Adds (known_drive d key capacity))
      (named_drive w d key capacity stored (subst IsNamedAction is named) (subst (IsAllowed w) is allowed)) refl refl
      tells_none;
}

pub does : (w : World) (chosen : List ℕ) (action : Action) → IsNamedAction action → IsAllowed w action
    → Does w chosen (acts w chosen action)
does w chosen action named allowed = each_act w chosen (Does w chosen) action (cases w chosen action named allowed)
