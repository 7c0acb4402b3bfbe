-- Each move keeps that what clients hold and await was given to them, and what it sends to drives is such.
use Rattle.std.specs.List.{cons_option, filter_map}
use Rattle.std.proofs.Common.{nat_lt, ◌&&◌, ◌≡◌, ℕ, ◌∷◌, [], List, Bool, true, false, Option, Some, None, Result, Ok, Err, IsSome, map, filter, slice_get, refl, sym, ap, subst, ◌∙◌, inl, inr, if◌then◌else◌}
use Rattle.std.proofs.lemmas.Bool.{cases_eq}
use Rattle.osd_lists.specs.declared.node.Node.{Node}
use Rattle.osd_lists.specs.declared.node.Node.TheVariants as node
use Rattle.layout_types.specs.declared.cred.ObjectCred.{ObjectCred}
use Rattle.layout_ops.specs.declared.err.OpErr.{OpErr}
use Rattle.layout_ops.specs.declared.envelope.Envelope.{Envelope}
use Rattle.layout_ops.specs.declared.envelope.Envelope.TheVariants as envelope
use Rattle.layout_ops.specs.Reading.{envelope_of}
use Rattle.osd_commands.specs.declared.commands.Command.{Command}
use Rattle.osd_objects.proofs.Entries.{lookup_inserted, lookup_beside, lookup_set, lookup_set_beside}
use Rattle.client_rules.specs.Envelopes.{by_envelope, message_in}
use Rattle.client_rules.specs.Messages.{Message as ClientMessage, Answers, Step as ClientStep}
use Rattle.client_rules.specs.History.{Input, step}
use Rattle.scenario_text.specs.declared.names.TheConstants.{FILES}
use Rattle.scenario_text.specs.declared.line.Outcome.{Outcome}
use Rattle.scenario_text.specs.declared.line.Line.{Line}
use Rattle.scenario_text.specs.declared.line.Line.TheVariants as line
use Rattle.world_history.specs.ServerNames as server_rules
use Rattle.world_history.specs.ClientNames as client_rules
use Rattle.world_history.specs.declared.messages.Body.{Body}
use Rattle.world_history.specs.declared.messages.Body.TheVariants.{Command as OfCommand, Envelope as OfEnvelope}
use Rattle.world_history.specs.declared.messages.Sent.{Sent}
use Rattle.world_history.specs.State.{ClientAt, World, at_number, with_number, and_number}
use Rattle.world_history.specs.Spelled.{party_of}
use Rattle.world_history.specs.Told.{kind_of}
use Rattle.world_history.specs.Names.{where_known, note_line, is_tellable_note, known_note_line, known_outcome}
use Rattle.world_history.specs.Handed.{Post, Handed, is_addressed, server_post, client_posts, client_did, client_goes, end_line, ended_by, op_in, wrote_in, data_in}
use Rattle.world_history.specs.Moves.{Act}
use Rattle.history_law.specs.Listed.{Lists, WasGiven}
use Rattle.history_law.specs.Granted.{OwnIn}
use Rattle.history_law.proofs.Granting.{SlotsOwn, SendsOwn}
use Rattle.history_law.proofs.KnownGoing.{ClientKnown, SendsKnown, StepKnown}
use Rattle.history_law.proofs.KnownSteps.{HeardKnown, InputKnown, step_known}
use Rattle.history_law.proofs.Taking.{IsUnderOne, IsTaken, answer_known}

-- ---- what is known at a moment

-- a command under a credential that was given to this client, or one that allows nothing
abbrev pub MaySend : List Sent → (client : ℕ) → ℕ → Command → Type 0
MaySend ss c = IsUnderOne (WasGiven ss c)

abbrev pub Clients : Type 0
Clients = List (ℕ × ClientAt)

-- each client sends such commands alone
abbrev pub ClientsKnown : List Sent → Clients → Type 0
ClientsKnown ss xs = (c : ℕ) (a : ClientAt) → at_number xs c ≡ Some a → ClientKnown (MaySend ss c) a.state

-- and the server keeps answers alone that give clients what is theirs
pub record WorldKnown (ss : List Sent) (w : World) : Type 0 where
  pub clients : ClientsKnown ss w.clients
  pub slots : SlotsOwn w.server.slots

-- so is a message of a client to a drive, and what the server gives a client is of its own grants
abbrev pub PostKnown : List Sent → (from to : Node) → Body → Type 0
PostKnown ss (node.Client c) (node.Drive d) (OfCommand x) = MaySend ss c d x
PostKnown ss (node.Client c) (node.Drive d) body = ⊥
PostKnown ss node.Server (node.Client c) (OfEnvelope e) = OwnIn c e
PostKnown ss node.Server (node.Client c) body = ⊥
PostKnown ss from to body = Unit {0}

abbrev pub PostsKnown : List Sent → List Post → Type 0
PostsKnown ss [] = Unit {0}
PostsKnown ss (p ∷ ps) = PostKnown ss p.message.from p.message.to p.message.body × PostsKnown ss ps

-- a line that tells of no message
abbrev pub IsSilent : Line → Type 0
IsSilent (line.Message n from to bytes) = ⊥
IsSilent l = Unit {0}

abbrev pub AreSilent : List Line → Type 0
AreSilent [] = Unit {0}
AreSilent (l ∷ ls) = IsSilent l × AreSilent ls

pub record ActKnown (ss : List Sent) (a : Act) : Type 0 where
  pub world : WorldKnown ss a.world
  pub told : AreSilent a.told
  pub posts : PostsKnown ss a.posts

pub record HandKnown (ss : List Sent) (h : Handed) : Type 0 where
  pub world : WorldKnown ss h.world
  pub told : AreSilent h.told
  pub posts : PostsKnown ss h.posts

-- ---- what is told

note_silent : (known : Bool) (n : server_rules.Note) (ls : List Line) → AreSilent ls
    → AreSilent (cons_option (where_known known (note_line n)) ls)
note_silent true n ls s = (tt, s)
note_silent false n ls s = s

pub notes_silent : (ns : List server_rules.Note) → AreSilent (filter_map known_note_line ns)
notes_silent [] = tt
notes_silent (n ∷ ns) =
    note_silent (nat_lt n.file FILES && is_tellable_note n.kind) n (filter_map known_note_line ns) (notes_silent ns)

end_silent : (c : ℕ) (o : Option Outcome) → AreSilent (end_line c o)
end_silent c None = tt
end_silent c (Some o) = (tt, tt)

pub ended_silent : (c : ℕ) (op : Option client_rules.CallOp) (o : Option client_rules.Outcome)
    → AreSilent (ended_by c op o)
ended_silent c None o = tt
ended_silent c (Some op) None = tt
ended_silent c (Some op) (Some o) = end_silent c (known_outcome (kind_of op) o)

-- what is taken as an answer is read as one
pub answer_read : (bytes : List ℕ) (r : Result Envelope OpErr) (a : client_rules.Answer) → envelope_of bytes ≡ r
    → by_envelope r ≡ Some (Answers a) → envelope_of bytes ≡ Ok (envelope.Answer a)
answer_read bytes (Ok (envelope.Answer b)) a read e =
    let same : b ≡ a = cc e in read ∙ ap (λ (x : client_rules.Answer). Ok (envelope.Answer x)) same
answer_read bytes (Ok (envelope.Recall b)) a read e = absurd (cc e)
answer_read bytes (Ok (envelope.Request b)) a read e = absurd (cc e)
answer_read bytes (Ok (envelope.RecallAnswer b)) a read e = absurd (cc e)
answer_read bytes (Ok (envelope.Order b)) a read e = absurd (cc e)
answer_read bytes (Ok (envelope.OrderAnswer b)) a read e = absurd (cc e)
answer_read bytes (Err x) a read e = absurd (cc e)

module _ (ss : List Sent) where
  -- ---- what is sent

  one_known : (b : Bool) (p : Post) (ps : List Post) → PostKnown ss p.message.from p.message.to p.message.body
      → PostsKnown ss ps → PostsKnown ss (if b then p ∷ ps else ps)
  one_known true p ps k l = (k, l)
  one_known false p ps k l = l

  addressed_known : (ps : List Post) → PostsKnown ss ps → PostsKnown ss (filter is_addressed ps)
  addressed_known [] k = tt
  addressed_known (p ∷ ps) k =
      one_known (is_addressed p) p (filter is_addressed ps) k.0 (addressed_known ps k.1)

  server_posts_known : (os : List server_rules.Outgoing) → SendsOwn os → PostsKnown ss (map server_post os)
  server_posts_known [] k = tt
  server_posts_known (server_rules.ToDrive d x ∷ os) k = (tt, server_posts_known os k)
  server_posts_known (server_rules.Recalls r ∷ os) k = (tt, server_posts_known os k)
  server_posts_known (server_rules.Answers a ∷ os) k = (k.0, server_posts_known os k.1)
  server_posts_known (server_rules.AnswersOrder a ∷ os) k = (tt, server_posts_known os k)

  pub from_server : (os : List server_rules.Outgoing) → SendsOwn os
      → PostsKnown ss (filter is_addressed (map server_post os))
  from_server os k = addressed_known (map server_post os) (server_posts_known os k)

  client_posts_known : (c : ℕ) (wrote : Bool) (logged : ℕ) (os : List client_rules.Outgoing)
      → SendsKnown (MaySend ss c) os → PostsKnown ss (client_posts c wrote logged os)
  client_posts_known c wrote logged [] k = tt
  client_posts_known c wrote logged (client_rules.ToDrive d x ∷ os) k = (k.0, client_posts_known c _ logged os k.1)
  client_posts_known c wrote logged (client_rules.Asks r ∷ os) k = (tt, client_posts_known c _ logged os k)
  client_posts_known c wrote logged (client_rules.AnswersRecall a ∷ os) k = (tt, client_posts_known c _ logged os k)

  from_client : (c : ℕ) (wrote : Bool) (logged : ℕ) (os : List client_rules.Outgoing) → SendsKnown (MaySend ss c) os
      → PostsKnown ss (filter is_addressed (client_posts c wrote logged os))
  from_client c wrote logged os k =
      addressed_known (client_posts c wrote logged os) (client_posts_known c wrote logged os k)

  -- ---- one client changes

  pub put_client : (xs : Clients) (c : ℕ) (a b : ClientAt) → ClientsKnown ss xs → at_number xs c ≡ Some a
      → ClientKnown (MaySend ss c) b.state → ClientsKnown ss (with_number xs c b)
  put_client xs c a b k found now d x there = elim (cases_eq d c) [
    | inl it ↦ let here : Some x ≡ Some b =
        sym there ∙ ap (λ (n : ℕ). at_number (with_number xs c b) n) it
        ∙ lookup_set xs c b (subst IsSome (sym found) refl) in
        let same : b ≡ x = cc (sym here) in
        subst (λ (y : ClientAt). ClientKnown (MaySend ss d) y.state) same
        (subst (λ (n : ℕ). ClientKnown (MaySend ss n) b.state) (sym it) now)
    | inr other ↦ k d x (sym (lookup_set_beside xs c d b other) ∙ there)
  ]

  pub add_client : (xs : Clients) (c : ℕ) (b : ClientAt) → ClientsKnown ss xs → ClientKnown (MaySend ss c) b.state
      → ClientsKnown ss (and_number xs c b)
  add_client xs c b k now d x there = elim (cases_eq d c) [
    | inl it ↦ let here : Some x ≡ Some b =
        sym there ∙ ap (λ (n : ℕ). at_number (and_number xs c b) n) it ∙ lookup_inserted xs c b in
        let same : b ≡ x = cc (sym here) in
        subst (λ (y : ClientAt). ClientKnown (MaySend ss d) y.state) same
        (subst (λ (n : ℕ). ClientKnown (MaySend ss n) b.state) (sym it) now)
    | inr other ↦ k d x (sym (lookup_beside xs c d b other) ∙ there)
  ]

  -- ---- what a client hears

  module _ (w : World) (k : WorldKnown ss w) where
    client_did_known : (c : ℕ) (a : ClientAt) (i : Input) (s : ClientStep) → at_number w.clients c ≡ Some a
        → StepKnown (MaySend ss c) s → HandKnown ss (client_did w c a i s)
    client_did_known c a i s found t = record {
      world = record { clients = put_client w.clients c a _ k.clients found t.client; slots = k.slots };
      told = ended_silent c (op_in a.state i) s.outcome;
      posts = from_client c (wrote_in a i) (data_in (op_in a.state i)) s.sends t.sends;
    }

    pub client_went : (c : ℕ) (a : ClientAt) (i : Input) → at_number w.clients c ≡ Some a → InputKnown (MaySend ss c) i
        → HandKnown ss (client_goes w c a i)
    client_went c a i found known =
        client_did_known c a i (step a.state i) found (step_known (MaySend ss c) a.state i (k.clients c a found) known)

  -- an answer that is delivered was given
  lists_all : (bytes : List ℕ) (a : client_rules.Answer) (h : client_rules.Held) (t : IsTaken a h) (n : ℕ)
      (o : ObjectCred) → envelope_of bytes ≡ Ok (envelope.Answer a) → slice_get t.layout.olo_components n ≡ Some o
      → Lists bytes n o
  lists_all bytes a h t n o read found = record {
    answer = a;
    read = read;
    given = t.given;
    gives = t.gives;
    segment = t.segment;
    one = t.one;
    layout = t.layout;
    body = t.body;
    found = found;
  }

  module _ (n : ℕ) (m : Sent) (there : slice_get ss n ≡ Some m) where
    given_by : (c : ℕ) (a : client_rules.Answer) → m.from ≡ party_of node.Server → m.to ≡ party_of (node.Client c)
        → envelope_of m.bytes ≡ Ok (envelope.Answer a) → HeardKnown (MaySend ss c) node.Server (Answers a)
    given_by c a from to read =
        answer_known (WasGiven ss c) a (λ h t k o found. record {
          number = n;
          message = m;
          there = there;
          sender = from;
          receiver = to;
          component = k;
          lists = lists_all m.bytes a h t k o read found;
        })

    pub heard_known : (c : ℕ) (from : Node) (bytes : List ℕ) (x : ClientMessage) → m.from ≡ party_of from
        → m.to ≡ party_of (node.Client c) → m.bytes ≡ bytes → message_in from bytes ≡ Some x
        → HeardKnown (MaySend ss c) from x
    unfolding message_in
    heard_known c node.Server bytes (Answers a) from to is e =
        given_by c a from to
        (ap envelope_of is ∙ answer_read bytes (envelope_of bytes) a refl e)
    heard_known c from bytes x is to same e = tt
