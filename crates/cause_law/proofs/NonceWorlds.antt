-- The nonces of clients' commands fit their places.
use Rattle.std.specs.List.{AllByRecursion}
use Rattle.std.proofs.Common.{◌≡◌, ℕ, ◌+◌, ◌^◌, ◌≤◌, ◌<◌, ◌++◌, ◌∷◌, Bool, true, false, [], List, Some, Ok, IsSome, filter, length, map, slice_get, refl, sym, ap, subst, ◌∙◌, arith, inl, inr, if◌then◌else◌}
use Rattle.std.proofs.lemmas.Bool.{cases_eq}
use Rattle.osd_lists.specs.declared.node.Node.{Node}
use Rattle.osd_lists.specs.declared.node.Node.TheVariants as node
use Rattle.osd_objects.proofs.Entries.{lookup_inserted, lookup_beside, lookup_set, lookup_set_beside}
use Rattle.osd_commands.specs.declared.commands.Command.{Command}
use Rattle.layout_ops.specs.declared.envelope.Envelope.TheVariants as envelope
use Rattle.layout_ops.specs.declared.results.LayoutGetOk.{LayoutGetOk}
use Rattle.layout_ops.specs.declared.results.LayoutGetResult.TheVariants as get
use Rattle.layout_ops.specs.declared.results.Results.{Results}
use Rattle.layout_ops.specs.declared.results.Results.TheVariants as results
use Rattle.layout_ops.specs.Reading.{envelope_of}
use Rattle.layout_ops.proofs.Whole.{all_again}
use Rattle.server_rules.specs.Laws.{In}
use Rattle.server_rules.specs.Layouts.{stateid_of}
use Rattle.server_rules.specs.History.{step as server_step}
use Rattle.server_rules.proofs.Members.{one_in}
use Rattle.client_rules.specs.Envelopes.{message_in}
use Rattle.client_rules.specs.Messages.{Message as ClientMessage, Answers, awaited_of}
use Rattle.client_rules.specs.Requests.{grant_in}
use Rattle.client_rules.specs.Results.{layouts_in}
use Rattle.client_rules.specs.History.{Input, Calls, Hears, TimesOut, Leaves, Resends, step}
use Rattle.history_law.specs.Said.{posted}
use Rattle.exchange_law.proofs.ClientGiven.{taken_given}
use Rattle.history_law.specs.State.{Client, Awaited, Answer}
use Rattle.history_law.proofs.Exact.{same_ok}
use Rattle.history_law.proofs.Growing.{history_grows}
use Rattle.history_law.proofs.KnownSteps.{step_known}
use Rattle.history_law.proofs.IssueLines.{IsKnown, all_known}
use Rattle.scenario_text.specs.declared.line.Line.{Line}
use Rattle.scenario_text.specs.declared.line.Line.TheVariants as line
use Rattle.world_history.specs.ServerNames as server_rules
use Rattle.world_history.specs.ClientNames as client_rules
use Rattle.world_history.specs.declared.messages.Body.{Body}
use Rattle.world_history.specs.declared.messages.Body.TheVariants.{Command as OfCommand}
use Rattle.world_history.specs.declared.messages.Message.{Message}
use Rattle.world_history.specs.declared.messages.Sent.{Sent}
use Rattle.world_history.specs.Spelled.{spelled, party_of}
use Rattle.world_history.specs.State.{World, ClientAt, at_number, with_number, and_number, empty_world}
use Rattle.world_history.specs.Laws.{shown}
use Rattle.world_history.specs.Handed.{Post, is_addressed, server_post, client_posts}
use Rattle.world_history.specs.Moves.{Act, acts}
use Rattle.world_history.specs.Sending.{Move, move}
use Rattle.world_history.specs.Reading.{sent_in}
use Rattle.history_law.proofs.DriveLines.{sent_read, view, shown_get}
use Rattle.history_law.specs.BookMoments.{IsMoment}
use Rattle.exchange_law.specs.Doing.{IsHeardByClient, AreReplies, Nothing, OneReply, ClientGoes, Goes, Others, AServer, AClient, Stops, Comes}
use Rattle.history_law.proofs.Goes.{moves_are_steps}
use Rattle.exchange_law.specs.PlaceAnswers.{ResultsFit, AnswerFits, SpellsFitting, AnswersFit}
use Rattle.exchange_law.proofs.PlaceLines.{fits_before}
use Rattle.exchange_law.proofs.AwaitsSteps.{step_awaits}
use Rattle.exchange_law.proofs.Turning.{sent_by}
use Rattle.exchange_law.proofs.Turns.{messages_behind}
use Rattle.exchange_law.proofs.ClientMoves.{InWorld, none_there, move_goes, longer_by}
use Rattle.exchange_law.proofs.ClientsCounted.{Fits, fits_kept}
use Rattle.exchange_law.proofs.CountNear.{IsNear, input_near, all_sent}
use Rattle.exchange_law.specs.Text.{AreFew}
use Rattle.exchange_law.proofs.CountGrowing.{fewer}
use Rattle.exchange_law.proofs.CountMoments.{at_moment}
use Rattle.exchange_law.specs.Sent.{message_of}
use Rattle.exchange_law.proofs.Taking.{answer_in}
use Rattle.world_history.specs.declared.limits.TheConstants.{MAX_KEPT}
use Rattle.world_history.proofs.Always.{opening, IsKept}
use Rattle.cause_law.specs.Readable.{AnswersAreFit, NoncesFit, NoncesAreEnough}
use Rattle.cause_law.proofs.Files.{few_there}
use Rattle.cause_law.proofs.Objects.{same_bodies}
use Rattle.cause_law.proofs.Nonces.{IsLow, AreLow, AreNamed}
use Rattle.cause_law.proofs.NonceSteps.{HeardNamed, InputNamed, AnswerNamed, step_keeps}

-- ---- the number of a grant that is taken

number_fits : (n : ℕ) → grant_in (stateid_of n) < 2 ^ 32
number_fits n = omega arith

given_named : (client : ℕ) (r : Results) (ok : LayoutGetOk) → layouts_in r ≡ Some ok → ResultsFit client r
    → grant_in ok.stateid < 2 ^ 32
given_named client (results.LayoutGet (get.Granted v)) ok e fits =
    let same : v ≡ ok = cc e in
    subst (λ (y : LayoutGetOk). grant_in y.stateid < 2 ^ 32) (sym fits.own.is ∙ same)
    (number_fits fits.own.grant.number)
given_named client (results.LayoutGet (get.TryLater signal)) ok e fits = absurd (cc e)
given_named client (results.LayoutGet (get.Refused status)) ok e fits = absurd (cc e)
given_named client (results.LayoutCommit v) ok e fits = absurd (cc e)
given_named client (results.LayoutReturn v) ok e fits = absurd (cc e)

taken_named : (client : ℕ) (bytes : List ℕ) (a : Answer) → SpellsFitting client bytes
    → envelope_of bytes ≡ Ok (envelope.Answer a) → AnswerNamed a
taken_named client bytes a s read op h e =
    let again : envelope_of bytes ≡ Ok s.message = ap envelope_of s.bytes_are ∙ all_again s.message s.fits in
    let same : s.message ≡ envelope.Answer a =
    same_ok s.message (envelope.Answer a) (envelope_of bytes) again read in
    let fits : ResultsFit client a.results = subst (AnswerFits client) same s.gives in
    let g = taken_given a op h e in
    let low : grant_in g.ok.stateid < 2 ^ 32 = given_named client a.results g.ok g.given fits in
    subst (λ (n : ℕ). n < 2 ^ 32) (sym g.fresh.number) low

heard_named : (ss : List Sent) (n : ℕ) (m : Sent) → slice_get ss n ≡ Some m → AnswersFit ss → (c : ℕ) (from : Node)
    (bytes : List ℕ) (x : ClientMessage) → m.from ≡ party_of from → m.to ≡ party_of (node.Client c) → m.bytes ≡ bytes
    → message_in from bytes ≡ Some x → HeardNamed from x
unfolding message_in
heard_named ss n m there fit c node.Server bytes (Answers a) from to is e =
    let spells : SpellsFitting c bytes = subst (SpellsFitting c) is (fit n c m there from to) in
    taken_named c bytes a spells (answer_in bytes (envelope_of bytes) a refl e)
heard_named ss n m there fit c from bytes x is to same e = tt

input_named : (w : World) (ss : List Sent) → view w ≡ ss → AnswersFit ss → (c : ℕ) (i : Input) → IsHeardByClient w c i
    → InputNamed i
input_named w ss seen fit c (Hears from m) heard =
    let d = heard.0 in
    let there : slice_get ss d.number ≡ Some (shown d.posted) =
    ap (λ (xs : List Sent). slice_get xs d.number) (sym seen)
    ∙ shown_get w.network.messages d.number (Some d.posted) d.there in
    subst (λ (f : Node). HeardNamed f m) (sym heard.1)
    (heard_named ss d.number (shown d.posted) there fit c d.posted.message.from (spelled d.posted.message.body) m refl
    (ap party_of d.receiver) refl heard.2)
input_named w ss seen fit c (Calls op) heard = tt
input_named w ss seen fit c (TimesOut j) heard = tt
input_named w ss seen fit c Leaves heard = tt
input_named w ss seen fit c Resends heard = tt

-- ---- messages

abbrev PostLow : ℕ → (from to : Node) → Body → Type 0
PostLow n (node.Client c) (node.Drive d) (OfCommand x) = IsLow n x.nonce
PostLow n from to body = Unit {0}

abbrev MessageLow : ℕ → Message → Type 0
MessageLow n m = PostLow n m.from m.to m.body

abbrev AllLow : ℕ → List Message → Type 0
AllLow n ms = AllByRecursion (MessageLow n) ms

wider_post : (m n : ℕ) (from to : Node) (body : Body) → m ≤ n → PostLow m from to body → PostLow n from to body
wider_post m n (node.Client c) (node.Drive d) (OfCommand x) l k = omega (arith, l, k)
wider_post m n from to body l k = tt

wider_all : (m n : ℕ) (ms : List Message) → m ≤ n → AllLow m ms → AllLow n ms
wider_all m n [] l k = tt
wider_all m n (x ∷ ms) l k = (wider_post m n x.from x.to x.body l k.0, wider_all m n ms l k.1)

all_more : (n : ℕ) (xs ys : List Message) → AllLow n xs → AllLow n ys → AllLow n (xs ++ ys)
all_more n [] ys k l = l
all_more n (x ∷ xs) ys k l = (k.0, all_more n xs ys k.1 l)

one_low : (n : ℕ) (b : Bool) (p : Post) (ps : List Post) → MessageLow n p.message → AllLow n (posted ps)
    → AllLow n (posted (if b then p ∷ ps else ps))
one_low n true p ps k l = (k, l)
one_low n false p ps k l = l

addressed_low : (n : ℕ) (ps : List Post) → AllLow n (posted ps) → AllLow n (posted (filter is_addressed ps))
addressed_low n [] k = tt
addressed_low n (p ∷ ps) k = one_low n (is_addressed p) p (filter is_addressed ps) k.0 (addressed_low n ps k.1)

server_low : (n : ℕ) (os : List server_rules.Outgoing) → AllLow n (posted (map server_post os))
server_low n [] = tt
server_low n (o ∷ os) = (tt, server_low n os)

client_low : (n c : ℕ) (wrote : Bool) (logged : ℕ) (os : List client_rules.Outgoing)
    → ((d : ℕ) (x : Command) → In (client_rules.ToDrive d x) os → IsLow n x.nonce)
    → AllLow n (posted (client_posts c wrote logged os))
client_low n c wrote logged [] k = tt
client_low n c wrote logged (client_rules.ToDrive d x ∷ os) k =
    (k d x (inl refl), client_low n c _ logged os (λ e y i. k e y (inr i)))
client_low n c wrote logged (client_rules.Asks r ∷ os) k = (tt, client_low n c _ logged os (λ e y i. k e y (inr i)))
client_low n c wrote logged (client_rules.AnswersRecall a ∷ os) k =
    (tt, client_low n c _ logged os (λ e y i. k e y (inr i)))

-- ---- clients

wider_low : (m n : ℕ) (xs : List Awaited) → m ≤ n → AreLow m xs → AreLow n xs
wider_low m n [] l k = tt
wider_low m n (a ∷ xs) l k = (omega (arith, l, k.0), wider_low m n xs l k.1)

in_low : (n : ℕ) (xs : List Awaited) (a : Awaited) → AreLow n xs → In a xs → IsLow n a.command.nonce
in_low n [] a k i = absurd i
in_low n (x ∷ xs) a k (inl e) = subst (λ (y : Awaited). IsLow n y.command.nonce) (sym e) k.0
in_low n (x ∷ xs) a k (inr i) = in_low n xs a k.1 i

all_low : (n : ℕ) (xs : List Awaited) → ((a : Awaited) → In a xs → IsLow n a.command.nonce) → AreLow n xs
all_low n [] k = tt
all_low n (a ∷ xs) k = (k a (inl refl), all_low n xs (λ x i. k x (inr i)))

record ClientLow (n : ℕ) (c : Client) : Type 0 where
  named : AreNamed c.held
  awaited : AreLow n (awaited_of c.call)

wider_client : (m n : ℕ) (c : Client) → m ≤ n → ClientLow m c → ClientLow n c
wider_client m n c l k = record { named = k.named; awaited = wider_low m n (awaited_of c.call) l k.awaited }

abbrev Clients : Type 0
Clients = List (ℕ × ClientAt)

abbrev AreAll : ℕ → Clients → Type 0
AreAll n xs = (c : ℕ) (a : ClientAt) → at_number xs c ≡ Some a → ClientLow n a.state

put_low : (n : ℕ) (xs : Clients) (c : ℕ) (a b : ClientAt) → AreAll n xs → at_number xs c ≡ Some a → ClientLow n b.state
    → AreAll n (with_number xs c b)
put_low n xs c a b all found now d x there = elim (cases_eq d c) [
  | inl it ↦ let here : Some x ≡ Some b =
      sym there ∙ ap (λ (j : ℕ). at_number (with_number xs c b) j) it
      ∙ lookup_set xs c b (subst IsSome (sym found) refl) in
      let same : b ≡ x = cc (sym here) in
      subst (λ (y : ClientAt). ClientLow n y.state) same now
  | inr other ↦ all d x (sym (lookup_set_beside xs c d b other) ∙ there)
]

add_low : (n : ℕ) (xs : Clients) (c : ℕ) (b : ClientAt) → AreAll n xs → ClientLow n b.state
    → AreAll n (and_number xs c b)
add_low n xs c b all now d x there = elim (cases_eq d c) [
  | inl it ↦ let here : Some x ≡ Some b =
      sym there ∙ ap (λ (j : ℕ). at_number (and_number xs c b) j) it ∙ lookup_inserted xs c b in
      let same : b ≡ x = cc (sym here) in
      subst (λ (y : ClientAt). ClientLow n y.state) same now
  | inr other ↦ all d x (sym (lookup_beside xs c d b other) ∙ there)
]

-- ---- a move

record IsLowAct (n : ℕ) (a : Act) : Type 0 where
  clients : AreAll n a.world.clients
  posts : AllLow n (posted a.posts)

module _ (w : World) (ss : List Sent) (seen : view w ≡ ss) (fit : AnswersFit ss) (fits : InWorld Fits w)
    (all : AreAll (length w.network.messages) w.clients) (a : Act) where
  abbrev before : ℕ
  before = length w.network.messages

  abbrev behind : ℕ
  behind = length w.network.messages + length a.posts

  still : (xs : Clients) → xs ≡ w.clients → AreAll behind xs
  still xs same c x there =
      wider_client before behind x.state (omega arith)
      (all c x (ap (λ (ys : Clients). at_number ys c) (sym same) ∙ there))

  replies_low : AreReplies a.posts → AllLow behind (posted a.posts)
  replies_low (Nothing e) = subst (λ (ps : List Post). AllLow behind (posted ps)) (sym e) tt
  replies_low (OneReply d to r e) = subst (λ (ps : List Post). AllLow behind (posted ps)) (sym e) (tt, tt)

  none_low : a.posts ≡ [] → AllLow behind (posted a.posts)
  none_low e = subst (λ (ps : List Post). AllLow behind (posted ps)) (sym e) tt

  client_goes : ClientGoes w a → IsLowAct behind a
  client_goes g =
      let c = g.client in
      let x = g.before.state in
      let own = all c g.before g.found in
      let f = fits c g.before g.found in
      let s = step x g.input in
      let kept = step_keeps before x own.named f.counts.commands g.input own.awaited
      (input_named w ss seen fit c g.input g.heard) in
      let near = step_known IsNear x g.input f.near (input_near g.input) in
      let many : length a.posts ≡ length s.sends =
      ap (λ (ps : List Post). length ps) g.posts ∙ all_sent c g.wrote g.logged s.sends near.sends in
      let sends : (d : ℕ) (y : Command) → In (client_rules.ToDrive d y) s.sends → IsLow behind y.nonce =
      λ d y i. omega (arith, many, kept.sends d y i) in
      let now : ClientLow behind s.client = record {
        named = kept.named;
        awaited =
            all_low behind (awaited_of s.client.call)
            (λ y i. elim ((step_awaits x g.input).each y i) [
              | inl old ↦ omega (arith, in_low before (awaited_of x.call) y own.awaited old)
              | inr new ↦ sends y.drive y.command new
            ]);
      } in
      record {
        clients =
            subst (AreAll behind) (sym g.clients)
            (put_low behind w.clients c g.before g.after (still w.clients refl) g.found
            (subst (ClientLow behind) (sym g.state) now));
        posts =
            subst (λ (ps : List Post). AllLow behind (posted ps)) (sym g.posts)
            (addressed_low behind (client_posts c g.wrote g.logged s.sends)
            (client_low behind c g.wrote g.logged s.sends sends));
      }

  by_goes : (m : Move) → Goes w m.chosen m.action a → IsLowAct behind a
  by_goes m (Others g) = record { clients = still a.world.clients g.clients; posts = replies_low g.posts }
  by_goes m (AServer g) = record {
    clients = still a.world.clients g.clients;
    posts =
        subst (λ (ps : List Post). AllLow behind (posted ps)) (sym g.posts)
        (addressed_low behind (map server_post (server_step w.server m.chosen g.input).sends)
        (server_low behind (server_step w.server m.chosen g.input).sends));
  }
  by_goes m (AClient g) = client_goes g
  by_goes m (Stops g) = record {
    clients =
        subst (AreAll behind) (sym g.clients)
        (put_low behind w.clients g.client g.before g.after (still w.clients refl) g.found
        (subst (ClientLow behind) (sym g.state)
        (wider_client before behind g.before.state (omega arith) (all g.client g.before g.found))));
    posts = none_low g.posts;
  }
  by_goes m (Comes g) = record {
    clients =
        subst (AreAll behind) (sym g.clients)
        (add_low behind w.clients g.client g.after (still w.clients refl)
        (subst (ClientLow behind) (sym g.state) (record { named = tt; awaited = tt })));
    posts = none_low g.posts;
  }

-- ---- each moment

record AllAreLow (w : World) : Type 0 where
  clients : AreAll (length w.network.messages) w.clients
  messages : AllLow (length w.network.messages) (sent_by w)

record LowThere (w : World) (h : List Line) : Type 0 where
  known : IsKnown w h
  fits : InWorld Fits w
  low : AnswersFit (sent_in h) → AllAreLow w

move_low : (w : World) (h : List Line) (k : LowThere w h) (m : Move) → AnswersFit (sent_in h)
    → AllAreLow (move w m).world
move_low w h k m fit =
    let a = acts w m.chosen m.action in
    let n : ℕ = length w.network.messages + length a.posts in
    let it = k.low fit in
    let act = by_goes w (sent_in h) (sym (sent_read w k.known.read.injected h k.known.read.drives)) fit k.fits
    it.clients a m (moves_are_steps w m.chosen m.action).goes in
    let messages : AllLow n (sent_by (move w m).world) =
    subst (AllLow n) (sym (messages_behind w m))
    (all_more n (sent_by w) (posted a.posts)
    (wider_all (length w.network.messages) n (sent_by w) (omega arith) it.messages) act.posts) in
    record {
      clients = subst (λ (j : ℕ). AreAll j (move w m).world.clients) (sym (longer_by w m)) act.clients;
      messages = subst (λ (j : ℕ). AllLow j (sent_by (move w m).world)) (sym (longer_by w m)) messages;
    }

nobody : AreAll 0 empty_world.clients
nobody c a found = absurd (cc found)

all_low_there : IsKept LowThere
all_low_there = record {
  starts = record {
    known = all_known.starts;
    fits = none_there Fits fits_kept;
    low = λ fit. record { clients = nobody; messages = tt };
  };
  opens =
      λ w h e chosen k allowed.
      let m = opening e chosen in
      record {
        known = all_known.opens w h e chosen k.known allowed;
        fits = move_goes Fits fits_kept w m k.fits;
        low =
            λ fit. move_low w h k m
            (fits_before (sent_in h) _ (history_grows h (line.Event e ∷ (move w m).lines)) fit);
      };
  moves =
      λ w h r m k due. record {
        known = all_known.moves w h r m k.known due;
        fits = move_goes Fits fits_kept w m k.fits;
        low = λ fit. move_low w h k m (fits_before (sent_in h) _ (history_grows h (move w m).lines) fit);
      };
}

-- ---- commands

call_low : (n : ℕ) (nonce : ℕ) → n ≤ MAX_KEPT → IsLow n nonce → nonce < 2 ^ 64
call_low n nonce few low = omega (arith, few, low)

nonces_there : (w : World) (h : List Line) → IsMoment w h → AreFew h → AnswersFit (sent_in h) → NoncesFit w
nonces_there w h m few fit =
    let it = (at_moment LowThere all_low_there w h m).low fit in
    let n : ℕ = length w.network.messages in
    let some : n ≤ MAX_KEPT = few_there w h m few in
    record {
      sent =
          λ c d x i. call_low n x.nonce some
          (one_in (MessageLow n) (sent_by w) (message_of c d x) it.messages
          (subst (In (message_of c d x)) (same_bodies w.network.messages) i));
      awaited =
          λ c a there x i.
          call_low n x.command.nonce some (in_low n (awaited_of a.state.call) x (it.clients c a there).awaited i);
    }

pub nonces_are_enough : AnswersAreFit → NoncesAreEnough
nonces_are_enough answers h lawful text few w before after is m =
    let all : AnswersFit (sent_in (before ++ after)) =
    subst (λ (ls : List Line). AnswersFit (sent_in ls)) is (answers h lawful text few) in
    nonces_there w before m (fewer before after (subst AreFew is few))
    (fits_before (sent_in before) _ (history_grows before after) all)
