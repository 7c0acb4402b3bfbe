-- What a move sends from the server to clients is what the server's step sends.
use Rattle.std.proofs.Common.{◌≡◌, ◌⊎◌, ℕ, ◌∷◌, [], List, Bool, true, false, Option, Some, None, Result, Ok, Err, ◌++◌, filter, flat_map, map, slice_get, refl, sym, ap, subst, ◌∙◌, inl, inr, if◌then◌else◌}
use Rattle.std.specs.List.{AllByRecursion}
use Rattle.osd_lists.specs.declared.node.Node.{Node}
use Rattle.osd_lists.specs.declared.node.Node.TheVariants as node
use Rattle.layout_ops.specs.declared.err.OpErr.{OpErr}
use Rattle.layout_ops.specs.declared.messages.Request.{Request}
use Rattle.layout_ops.specs.declared.envelope.Envelope.{Envelope}
use Rattle.layout_ops.specs.declared.envelope.Envelope.TheVariants as envelope
use Rattle.layout_ops.specs.Reading.{envelope_of}
use Rattle.osd_commands.specs.declared.commands.CommandErr.{CommandErr}
use Rattle.server_rules.specs.Envelopes.{asked_in, request_with, by_envelope, by_reply, message_in}
use Rattle.server_rules.specs.Files.{to_drives}
use Rattle.server_rules.specs.Making.{refusal, drives_for, unmade, makes_file, unless_refused, create_file}
use Rattle.server_rules.specs.Messages.{Message as ServerMessage, Replies, Orders, resend, awaited_by}
use Rattle.server_rules.specs.History.{Input, Hears, Makes, Obeys, Adds, Zones, Formats, Resends, Crashes, Opens as Opened, unless_made, step as server_step}
use Rattle.client_rules.specs.History.{step as client_step}
use Rattle.scenario_text.specs.declared.event.Event.{Event}
use Rattle.scenario_text.specs.declared.event.Event.TheVariants as event
use Rattle.scenario_text.specs.declared.event.Machine.TheVariants as machine
use Rattle.scenario_text.specs.declared.event.Sender.TheVariants as sender
use Rattle.world_history.specs.ServerNames as server_rules
use Rattle.world_history.specs.ClientNames as client_rules
use Rattle.world_history.specs.declared.messages.Message.{Message}
use Rattle.world_history.specs.declared.messages.Posted.{Posted}
use Rattle.world_history.specs.State.{World}
use Rattle.world_history.specs.Spelled.{spelled}
use Rattle.world_history.specs.Handed.{Post, is_addressed, server_post, client_posts, wrote_in, data_in, op_in, for_server}
use Rattle.world_history.specs.Moves.{Act, Action, Opens, Delivers, TimesOut, Pends, has_algorithm, knows_drive, raw_of, acts}
use Rattle.history_law.specs.Said.{IsDelivered}
use Rattle.history_law.specs.Moves.{MoveCases, IsForServer, given_in, number_in}
use Rattle.history_law.proofs.Moves.{each_act}
use Rattle.history_law.specs.Doing.{heard_of, brought_to, brought, input_in}
use Rattle.exchange_law.proofs.CountTelling.{ReadsWell}
use Rattle.exchange_law.proofs.Fronts.{BeginsWithBytes, NumbersFit, request_read, begins_spelled}
use Rattle.exchange_law.proofs.Parts.{each_filtered}

-- ---- what the server reads

abbrev pub ReadAny : Option Input → Type 0
ReadAny None = Unit {0}
ReadAny (Some i) = ReadsWell i

some_is : (x m : ServerMessage) → Some x ≡ Some m → x ≡ m
some_is x m e = cc e

read_asked : (now : ℕ) (from : Node) (q : Request) (o : Option server_rules.RequestArgs) (m : ServerMessage)
    → NumbersFit q → request_with q o ≡ Some m → ReadsWell (Hears now from m)
read_asked now from q None m f e = absurd (cc e)
read_asked now from q (Some a) m f e =
    subst (λ (x : ServerMessage). ReadsWell (Hears now from x)) (some_is _ m e)
    (record { sequence = f.0; file = f.1 })

read_envelope : (now : ℕ) (from : Node) (bytes : List ℕ) (r : Result Envelope OpErr) (m : ServerMessage)
    → envelope_of bytes ≡ r → BeginsWithBytes 16 bytes → by_envelope r ≡ Some m → ReadsWell (Hears now from m)
read_envelope now from bytes (Err x) m is b e = absurd (cc e)
read_envelope now from bytes (Ok (envelope.Request q)) m is b e =
    read_asked now from q (asked_in q.args) m (request_read bytes q is b) e
read_envelope now from bytes (Ok (envelope.Order o)) m is b e =
    subst (λ (x : ServerMessage). ReadsWell (Hears now from x)) (some_is (Orders o) m e) tt
read_envelope now from bytes (Ok (envelope.Answer a)) m is b e = absurd (cc e)
read_envelope now from bytes (Ok (envelope.Recall r)) m is b e = absurd (cc e)
read_envelope now from bytes (Ok (envelope.RecallAnswer r)) m is b e = absurd (cc e)
read_envelope now from bytes (Ok (envelope.OrderAnswer a)) m is b e = absurd (cc e)

read_reply : (now : ℕ) (from : Node) (r : Result server_rules.Reply CommandErr) (m : ServerMessage)
    → by_reply r ≡ Some m → ReadsWell (Hears now from m)
read_reply now from (Err x) m e = absurd (cc e)
read_reply now from (Ok r) m e =
    subst (λ (x : ServerMessage). ReadsWell (Hears now from x)) (some_is (Replies r) m e) tt

read_message : (now : ℕ) (from : Node) (bytes : List ℕ) (m : ServerMessage) → BeginsWithBytes 16 bytes
    → message_in from bytes ≡ Some m → ReadsWell (Hears now from m)
unfolding message_in
read_message now (node.Drive d) bytes m b e = read_reply now (node.Drive d) _ m e
read_message now (node.Client c) bytes m b e = read_envelope now (node.Client c) bytes (envelope_of bytes) m refl b e
read_message now node.Server bytes m b e = read_envelope now node.Server bytes (envelope_of bytes) m refl b e

read_heard : (now : ℕ) (from : Node) (o : Option ServerMessage)
    → ((m : ServerMessage) → o ≡ Some m → ReadsWell (Hears now from m)) → ReadAny (heard_of now from o)
read_heard now from None r = tt
read_heard now from (Some m) r = r m refl

either_read : (b : Bool) (i j : Option Input) → ReadAny i → ReadAny j → ReadAny (if b then i else j)
either_read true i j p q = p
either_read false i j p q = q

read_to : (w : World) (m : Message) (to : Node) → ReadAny (brought_to w m to)
read_to w m node.Server =
    either_read w.down None (heard_of w.clock m.from (for_server m)) tt
    (read_heard w.clock m.from (for_server m)
    (λ x e. read_message w.clock m.from (spelled m.body) x (begins_spelled m.body) e))
read_to w m (node.Drive d) = tt
read_to w m (node.Client c) = tt

read_brought : (w : World) (o : Option Posted) → ReadAny (brought w o)
read_brought w None = tt
read_brought w (Some p) = read_to w p.message p.message.to

read_event : (w : World) (e : Event) → ReadAny (input_in w (Opens e))
read_event w (event.Drive d key capacity) = either_read (knows_drive w.server d) None (Some _) tt tt
read_event w (event.Disk d key capacity) = either_read (knows_drive w.server d) None (Some _) tt tt
read_event w (event.File f m tag) = either_read (has_algorithm (raw_of m)) (Some _) None tt tt
read_event w (event.ZonedFile f m tag) = either_read (has_algorithm (raw_of m)) (Some _) None tt tt
read_event w (event.Deliver number) = read_brought w (slice_get w.network.messages number)
read_event w (event.Crash (machine.Drive d)) = tt
read_event w (event.Crash machine.Server) = tt
read_event w (event.Reopen (machine.Drive d)) = tt
read_event w (event.Reopen machine.Server) = tt
read_event w e = tt

pub read_input : (w : World) (action : Action) → ReadAny (input_in w action)
read_input w (Opens e) = read_event w e
read_input w (Delivers number) = read_brought w (slice_get w.network.messages number)
read_input w (TimesOut c component) = tt
read_input w (Pends c) = tt

-- ---- what others send

-- it isn't from the server to a client
abbrev pub IsOther : Node → Node → Type 0
IsOther node.Server (node.Client c) = ⊥
IsOther from to = Unit {0}

abbrev pub AreOthers : List Post → Type 0
AreOthers ps = AllByRecursion (λ (p : Post). IsOther p.message.from p.message.to) ps

clients_others : (c : ℕ) (wrote : Bool) (logged : ℕ) (os : List client_rules.Outgoing)
    → AreOthers (client_posts c wrote logged os)
clients_others c wrote logged [] = tt
clients_others c wrote logged (o ∷ os) = (tt, clients_others c _ logged os)

sent_others : (ps : List Post) → AreOthers ps → AreOthers (filter is_addressed ps)
sent_others ps k = each_filtered (λ (p : Post). IsOther p.message.from p.message.to) is_addressed ps k

more_others : (xs ys : List server_rules.Outgoing) → AreOthers (map server_post xs) → AreOthers (map server_post ys)
    → AreOthers (map server_post (xs ++ ys))
more_others [] ys k l = l
more_others (x ∷ xs) ys k l = (k.0, more_others xs ys k.1 l)

drives_others : (ds : List server_rules.Drive) (ws : List server_rules.Awaited)
    → AreOthers (map server_post (to_drives ds ws))
drives_others ds [] = tt
drives_others ds (a ∷ ws) = (tt, drives_others ds ws)

resent_others : (ds : List server_rules.Drive) (fs : List server_rules.File)
    → AreOthers (map server_post (flat_map (λ f. to_drives ds (awaited_by f.job)) fs))
resent_others ds [] = tt
resent_others ds (f ∷ fs) =
    more_others (to_drives ds (awaited_by f.job)) _ (drives_others ds (awaited_by f.job)) (resent_others ds fs)

-- the server does nothing that is sent to clients, or takes the step of what comes to it
abbrev pub Comes : Option Input → List Post → Type 0
Comes o ps = AreOthers ps ⊎ ((i : Input) × (o ≡ Some i))

-- a file that is made sends to drives alone
made_others : (s : server_rules.Server) (chosen : List ℕ) (n : ℕ) (m : server_rules.RawMap) (tag : ℕ) (zoned : Bool)
    → AreOthers (map server_post (server_step s chosen (Makes n m tag zoned)).sends)
unfolding create_file
made_others s chosen n m tag zoned = made (refusal s n m zoned)
  where
    made : (o : Option server_rules.Refusal)
        → AreOthers (map server_post
        (unless_made s (unless_refused o (makes_file s (unmade s n m tag zoned (drives_for zoned s.drives m chosen))))).sends)
    made (Some why) = tt
    made None = drives_others s.drives _

module _ (w : World) (chosen : List ℕ) (action : Action) where
  -- what is given to the server comes to it, but for a file, which may be refused, and what is sent once more
  abbrev IsSeen : Input → Type 0
  IsSeen (Makes n m tag zoned) = ⊥
  IsSeen Resends = ⊥
  IsSeen i = Unit {0}

  given_is : (a : Action) (i : Input) → IsSeen i → given_in a ≡ Some i → input_in w a ≡ Some i
  given_is (Opens (event.File f m tag)) i seen e =
      let same : Makes f (raw_of m) tag false ≡ i = cc e in absurd (subst IsSeen (sym same) seen)
  given_is (Opens (event.ZonedFile f m tag)) i seen e =
      let same : Makes f (raw_of m) tag true ≡ i = cc e in absurd (subst IsSeen (sym same) seen)
  given_is (Opens (event.Resend sender.Server)) i seen e =
      let same : Resends ≡ i = cc e in absurd (subst IsSeen (sym same) seen)
  given_is (Opens (event.Format format)) i seen e = e
  given_is (Opens (event.Zone d zone)) i seen e = e
  given_is (Opens (event.Recall f)) i seen e = e
  given_is (Opens (event.Revoke f)) i seen e = e
  given_is (Opens (event.Rebuild f)) i seen e = e
  given_is (Opens (event.Audit f)) i seen e = e
  given_is (Opens (event.Declare d)) i seen e = e
  given_is (Opens (event.Crash machine.Server)) i seen e = e
  given_is (Opens (event.Reopen machine.Server)) i seen e = e
  given_is a i seen e = absurd (cc e)

  delivered_is : (a : Action) (n : ℕ) → number_in a ≡ Some n → input_in w a ≡ brought w (slice_get w.network.messages n)
  delivered_is (Opens (event.Deliver k)) n e =
      let same : k ≡ n = cc e in ap (λ (j : ℕ). brought w (slice_get w.network.messages j)) same
  delivered_is (Delivers k) n e =
      let same : k ≡ n = cc e in ap (λ (j : ℕ). brought w (slice_get w.network.messages j)) same
  delivered_is a n e = absurd (cc e)

  pub heard_is : (d : IsDelivered w node.Server) (m : ServerMessage) → for_server d.posted.message ≡ Some m
      → number_in action ≡ Some d.number → w.down ≡ false
      → input_in w action ≡ Some (Hears w.clock d.posted.message.from m)
  heard_is d m read number up =
      delivered_is action d.number number ∙ ap (brought w) d.there
      ∙ ap (λ (n : Node). brought_to w d.posted.message n) d.receiver
      ∙ ap (λ (b : Bool). if b then None else heard_of w.clock d.posted.message.from (for_server d.posted.message)) up
      ∙ ap (heard_of w.clock d.posted.message.from) read

  served : (i : Input) → IsForServer w action i
      → Comes (input_in w action) (filter is_addressed (map server_post (server_step w.server chosen i).sends))
  served (Hears now from m) (d, time, sender, read, number, up) =
      inr (Hears w.clock d.posted.message.from m, heard_is d m read number up)
  served (Makes n m tag zoned) is = inl (sent_others _ (made_others w.server chosen n m tag zoned))
  served Resends is = inl (sent_others (map server_post (resend w.server)) (resent_others w.server.drives w.server.files))
  served (Obeys kind n) is = inr (Obeys kind n, given_is action (Obeys kind n) tt is)
  served (Adds d) is = inr (Adds d, given_is action (Adds d) tt is)
  served (Zones d zone) is = inr (Zones d zone, given_is action (Zones d zone) tt is)
  served (Formats n) is = inr (Formats n, given_is action (Formats n) tt is)
  served Crashes is = inr (Crashes, given_is action Crashes tt is)
  served Opened is = inr (Opened, given_is action Opened tt is)

  cases : MoveCases w chosen action (λ (a : Act). Comes (input_in w action) a.posts)
  cases = record {
    rests = λ ms said told quiet. inl tt;
    refused = λ c a found op is e why. inl tt;
    clock = λ time. inl tt;
    serves = λ ms said i is. served i is;
    goes = λ ms said c a found i is.
        inl (sent_others _ (clients_others c (wrote_in a i) (data_in (op_in a.state i)) (client_step a.state i).sends));
    comes = λ c is. inl tt;
    stops = λ c a found. inl tt;
    judged = λ ms said d a found hears m number. inl (tt, tt);
    injected = λ d bytes is a found. inl tt;
    turns = λ d a b found turns. inl tt;
    known = λ d key capacity stored is knows. inl tt;
    adds = λ d key capacity stored is knows. inl tt;
  }

  pub acts_come : Comes (input_in w action) (acts w chosen action).posts
  acts_come = each_act w chosen (λ (a : Act). Comes (input_in w action) a.posts) action cases
