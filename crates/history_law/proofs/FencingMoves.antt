-- Each move is the server's, which then sends and notes what its rules say, or another party's, and then sends nothing
-- of the server.
use Rattle.std.specs.List.{cons_option, filter_map}
use Rattle.std.proofs.Common.{◌≡◌, ◌⊎◌, ◌&&◌, ℕ, ◌∷◌, [], List, ◌++◌, Bool, true, false, Option, Some, None, map, filter, nat_lt, slice_get, refl, sym, ap, subst, ◌∙◌, inl, inr}
use Rattle.osd_lists.specs.declared.node.Node.{Node}
use Rattle.osd_lists.specs.declared.node.Node.TheVariants as node
use Rattle.server_rules.specs.Laws.{In}
use Rattle.server_rules.specs.History.{Input, Hears, step}
use Rattle.server_rules.specs.History as server_input
use Rattle.client_rules.specs.History as client_input
use Rattle.scenario_text.specs.declared.line.Delivery.{Delivery}
use Rattle.scenario_text.specs.declared.line.Delivery.TheVariants as delivery
use Rattle.scenario_text.specs.declared.line.Note.TheVariants as note
use Rattle.scenario_text.specs.declared.line.Outcome.{Outcome}
use Rattle.scenario_text.specs.declared.line.Line.{Line}
use Rattle.scenario_text.specs.declared.line.Line.TheVariants as line
use Rattle.scenario_text.specs.declared.names.TheConstants.{FILES}
use Rattle.world_history.specs.ServerNames as server_rules
use Rattle.world_history.specs.ClientNames as client_rules
use Rattle.world_history.specs.declared.messages.Message.{Message}
use Rattle.world_history.specs.declared.messages.Posted.{Posted}
use Rattle.world_history.specs.declared.messages.Body.{Body}
use Rattle.world_history.specs.State.{World}
use Rattle.world_history.specs.Told.{kind_of, told_note}
use Rattle.world_history.specs.Names.{where_known, note_line, is_tellable_note, known_note_line, known_outcome}
use Rattle.world_history.specs.Handed.{Post, is_addressed, server_post, client_posts, end_line, ended_by, for_server, op_in, wrote_in, data_in}
use Rattle.world_history.specs.Moves.{Act, Action, known_drive, acts}
use Rattle.world_history.specs.Sending.{Move, move, sends_all}
use Rattle.server_rules.proofs.Members.{in_filtered}
use Rattle.history_law.specs.Moves.{IsForServer, IsQuiet, AreQuiet, front_of, MoveCases}
use Rattle.history_law.proofs.Moves.{front_cases, each_act}

-- ---- messages and notes

-- the messages of a world, without their marks
abbrev pub messages_in : World → List Message
messages_in w = map (λ (p : Posted). p.message) w.network.messages

-- what is sent of some messages of the server
abbrev pub posts_of : List server_rules.Outgoing → List Post
posts_of os = filter is_addressed (map server_post os)

-- the lines tell of no fence that is over
abbrev pub TellsNone : List Line → Type 0
TellsNone ls = (f tag : ℕ) → In (line.Note f (note.Fenced tag)) ls → ⊥

-- one of these notes is that this fence is over
abbrev pub IsNoted : List server_rules.Note → (file tag : ℕ) → Type 0
IsNoted ns f tag = (n : server_rules.Note) × In n ns × (n.file ≡ f) × (n.kind ≡ server_rules.Fenced tag)

-- the lines tell only of the ends of fences that the notes name
abbrev pub TellsOf : List server_rules.Note → List Line → Type 0
TellsOf ns ls =
    (f tag : ℕ) → In (line.Note f (note.Fenced tag)) ls →
    (n : server_rules.Note) × In n ns × (n.file ≡ f) × (n.kind ≡ server_rules.Fenced tag)

abbrev pub NoneOfServer : List Post → Type 0
NoneOfServer ps = (p : Post) → In p ps → p.message.from ≡ node.Server → ⊥

-- where a message comes to the server, it was sent to it
abbrev pub IsSent : World → Input → Type 0
IsSent w (Hears now from m) =
    (n : ℕ) × (p : Posted) × (slice_get w.network.messages n ≡ Some p) × (p.message.to ≡ node.Server)
    × (p.message.from ≡ from) × (for_server p.message ≡ Some m)
IsSent w i = Unit {0}

-- ---- an act

-- it is a step of the server, or none
pub data Acts (w v : World) (ls : List Line) (ps : List Post) : Type 0 where
  Others : v.server ≡ w.server → messages_in v ≡ messages_in w → TellsNone ls → NoneOfServer ps → Acts w v ls ps
  Serves : (chosen : List ℕ) (i : Input) → IsSent w i → v.server ≡ (step w.server chosen i).state
      → messages_in v ≡ messages_in w → TellsOf (step w.server chosen i).notes ls
      → ps ≡ posts_of (step w.server chosen i).sends → Acts w v ls ps

abbrev pub ActsIn : World → Act → Type 0
ActsIn w a = Acts w a.world a.told a.posts

none_told : TellsNone []
none_told f tag i = i

none_sent : NoneOfServer []
none_sent p i e = i

-- ---- the lines of notes

kind_is : (k : server_rules.NoteKind) (tag : ℕ) → told_note k ≡ note.Fenced tag → k ≡ server_rules.Fenced tag
kind_is server_rules.Ready tag e = absurd (cc e)
kind_is (server_rules.Fenced t) tag e = ap (λ (n : ℕ). server_rules.Fenced n) (same e)
  where
    same : note.Fenced t ≡ note.Fenced tag → t ≡ tag
    same x = cc x
kind_is (server_rules.Repaired a b) tag e = absurd (cc e)
kind_is (server_rules.Rebuilt a b) tag e = absurd (cc e)
kind_is (server_rules.NoDrive a) tag e = absurd (cc e)
kind_is (server_rules.Lost a b) tag e = absurd (cc e)
kind_is (server_rules.NoSpace a) tag e = absurd (cc e)
kind_is (server_rules.Audit a b c d) tag e = absurd (cc e)
kind_is (server_rules.Busy a) tag e = absurd (cc e)
kind_is server_rules.Spent tag e = absurd (cc e)
kind_is (server_rules.Reported a) tag e = absurd (cc e)

in_known : (known : Bool) (n : server_rules.Note) (ls : List Line) (f tag : ℕ)
    → In (line.Note f (note.Fenced tag)) (cons_option (where_known known (note_line n)) ls)
    → ((n.file ≡ f) × (n.kind ≡ server_rules.Fenced tag)) ⊎ In (line.Note f (note.Fenced tag)) ls
in_known false n ls f tag i = inr i
in_known true n ls f tag (inr i) = inr i
in_known true n ls f tag (inl e) = inl (files e, kind_is n.kind tag (kinds e))
  where
    files : line.Note f (note.Fenced tag) ≡ note_line n → n.file ≡ f
    files x = cc x

    kinds : line.Note f (note.Fenced tag) ≡ note_line n → told_note n.kind ≡ note.Fenced tag
    kinds x = cc x

pub notes_told : (ns : List server_rules.Note) → TellsOf ns (filter_map known_note_line ns)
notes_told [] f tag i = absurd i
notes_told (n ∷ ns) f tag i =
    elim (in_known (nat_lt n.file FILES && is_tellable_note n.kind) n (filter_map known_note_line ns) f tag i) [
      | inl (file, kind) ↦ (n, inl refl, file, kind)
      | inr j ↦ let r = notes_told ns f tag j in (r.0, inr r.1, r.2, r.3)
    ]

ended_none : (c : ℕ) (o : Option Outcome) → TellsNone (end_line c o)
ended_none c None f tag i = i
ended_none c (Some o) f tag (inl e) = cc e
ended_none c (Some o) f tag (inr i) = i

told_none : (c : ℕ) (op : Option client_rules.CallOp) (o : Option client_rules.Outcome) → TellsNone (ended_by c op o)
told_none c None o f tag i = i
told_none c (Some op) None f tag i = i
told_none c (Some op) (Some o) f tag i = ended_none c (known_outcome (kind_of op) o) f tag i

-- a line in front that tells of no fence
behind : (X : ℕ → ℕ → Type 0) (ls : List Line) → ((f tag : ℕ) → In (line.Note f (note.Fenced tag)) ls → X f tag)
    → (action : Action) (d : Delivery) (f tag : ℕ) → In (line.Note f (note.Fenced tag)) (front_of action d ++ ls)
    → X f tag
behind X ls told action d =
    front_cases (λ (front : List Line). (f tag : ℕ) → In (line.Note f (note.Fenced tag)) (front ++ ls) → X f tag) told
    (λ number x. one (line.Delivered number x) (λ f tag e. cc e)) (λ c k. one (line.TimedOut c k) (λ f tag e. cc e))
    action d
  where
    one : (l : Line) → ((f tag : ℕ) → line.Note f (note.Fenced tag) ≡ l → ⊥) → (f tag : ℕ)
        → In (line.Note f (note.Fenced tag)) (l ∷ ls) → X f tag
    one l other f tag (inl e) = absurd (other f tag e)
    one l other f tag (inr i) = told f tag i

quiet_none : (ls : List Line) → AreQuiet ls → TellsNone ls
quiet_none [] q f tag i = i
quiet_none (l ∷ ls) q f tag (inl e) = subst IsQuiet (sym e) q.0
quiet_none (l ∷ ls) q f tag (inr i) = quiet_none ls q.1 f tag i

alone : (l : Line) → ((f tag : ℕ) → line.Note f (note.Fenced tag) ≡ l → ⊥) → TellsNone (l ∷ [])
alone l other f tag (inl e) = other f tag e
alone l other f tag (inr i) = i

-- ---- what clients send

clients_send : (c : ℕ) (wrote : Bool) (logged : ℕ) (os : List client_rules.Outgoing)
    → NoneOfServer (client_posts c wrote logged os)
clients_send c wrote logged [] p i e = i
clients_send c wrote logged (o ∷ os) p (inl same) e = cc (sym e ∙ ap (λ (x : Post). x.message.from) same)
clients_send c wrote logged (o ∷ os) p (inr i) e = clients_send c _ logged os p i e

addressed : (ps : List Post) → NoneOfServer ps → NoneOfServer (filter is_addressed ps)
addressed ps none p i e = none p (in_filtered is_addressed p ps i).0 e

drive_sends : (d : ℕ) (to : Node) (body : Body) (logged : ℕ)
    → NoneOfServer (record { message = record { from = node.Drive d; to = to; body = body }; logged = logged } ∷ [])
drive_sends d to body logged p (inl same) e = cc (sym e ∙ ap (λ (x : Post). x.message.from) same)
drive_sends d to body logged p (inr i) e = i

-- ---- each action

sent_to_it : (w : World) (action : Action) (i : Input) → IsForServer w action i → IsSent w i
sent_to_it w action (Hears now from m) (d, now_is, from_is, read, number, awake) =
    (d.number, d.posted, d.there, d.receiver, sym from_is, read)
sent_to_it w action i is = tt

cases : (w : World) (chosen : List ℕ) (action : Action) → MoveCases w chosen action (ActsIn w)
cases w chosen action = record {
  rests = λ ms said told quiet. Others refl said (quiet_none told quiet) none_sent;
  refused = λ c a found op is e why. Others refl refl (alone _ (λ f tag x. cc x)) none_sent;
  clock = λ time. Others refl refl none_told none_sent;
  serves = λ ms said i is.
      Serves chosen i (sent_to_it w action i is) refl said
      (behind (IsNoted (step w.server chosen i).notes) (filter_map known_note_line (step w.server chosen i).notes)
      (notes_told (step w.server chosen i).notes) action delivery.Taken) refl;
  goes = λ ms said c a found i is.
      Others refl said
      (behind (λ f tag. ⊥) (ended_by c (op_in a.state i) (client_input.step a.state i).outcome)
      (told_none c (op_in a.state i) (client_input.step a.state i).outcome) action delivery.Taken)
      (addressed _ (clients_send c (wrote_in a i) (data_in (op_in a.state i)) (client_input.step a.state i).sends));
  comes = λ c is. Others refl refl none_told none_sent;
  stops = λ c a found. Others refl refl none_told none_sent;
  judged = λ ms said d a found hears m number. Others refl said (alone _ (λ f tag e. cc e)) (drive_sends _ _ _ _);
  injected = λ d bytes is a found. Others refl refl (alone _ (λ f tag e. cc e)) none_sent;
  turns = λ d a b found turns. Others refl refl none_told none_sent;
  known = λ d key capacity stored is knows. Others refl refl none_told none_sent;
  adds = λ d key capacity stored is knows.
      Serves chosen (server_input.Adds (known_drive d key capacity)) tt refl refl (λ f tag i. absurd i) refl;
}

pub each_acts : (w : World) (chosen : List ℕ) (action : Action) → ActsIn w (acts w chosen action)
each_acts w chosen action = each_act w chosen (ActsIn w) action (cases w chosen action)

-- the world behind a move is another one by its messages alone
pub data Moved (w v : World) (ls : List Line) (ps : List Post) : Type 0 where
  Idles : v.server ≡ w.server → TellsNone ls → Moved w v ls ps
  Goes : (chosen : List ℕ) (i : Input) → IsSent w i → v.server ≡ (step w.server chosen i).state
      → TellsOf (step w.server chosen i).notes ls → Moved w v ls ps

moved_by : (w : World) (a : Act) → ActsIn w a → Moved w (sends_all a).world a.told a.posts
moved_by w a (Others server messages told sent) = Idles server told
moved_by w a (Serves chosen i sent server messages told posts) = Goes chosen i sent server told

pub moved : (w : World) (m : Move) → Moved w (move w m).world (acts w m.chosen m.action).told (acts w m.chosen
    m.action).posts
moved w m = moved_by w (acts w m.chosen m.action) (each_acts w m.chosen m.action)
