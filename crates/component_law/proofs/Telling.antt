-- What a slot keeps was sent to its client. So each message of the server to a client was sent before, or gives a grant
-- that is live at the end of its step.
use Rattle.std.proofs.Common.{◌≡◌, ◌⊎◌, ℕ, zero, suc, ◌+◌, true, false, List, [], ◌∷◌, ◌++◌, length, map, slice_get, Some, refl, sym, ap, subst, ◌∙◌, inl, inr}
use Rattle.osd_lists.specs.declared.node.Node.{Node}
use Rattle.osd_lists.specs.declared.node.Node.TheVariants as node
use Rattle.layout_ops.specs.declared.envelope.Envelope.TheVariants as envelope
use Rattle.server_rules.specs.Files.{Step}
use Rattle.server_rules.specs.History.{step}
use Rattle.server_rules.specs.Laws.{In, FilesArePut}
use Rattle.server_rules.proofs.Members.{in_front, in_behind, in_either, in_mapped, in_map, in_filtered, in_filter}
use Rattle.scenario_text.specs.declared.line.Line.{Line}
use Rattle.scenario_text.specs.declared.line.Line.TheVariants as line
use Rattle.scenario_text.specs.declared.line.Party.{Party}
use Rattle.scenario_text.specs.declared.line.Party.TheVariants as party
use Rattle.world_history.specs.ServerNames.{Server, Slot, Answer, Outgoing, ToDrive, Recalls, Answers, AnswersOrder}
use Rattle.world_history.specs.declared.messages.Message.{Message}
use Rattle.world_history.specs.declared.messages.Posted.{Posted}
use Rattle.world_history.specs.declared.messages.Body.{Body}
use Rattle.world_history.specs.declared.messages.Body.TheVariants.{Envelope as OfEnvelope}
use Rattle.world_history.specs.State.{World}
use Rattle.world_history.specs.Spelled.{party_of, spelled}
use Rattle.world_history.specs.Names.{is_named}
use Rattle.world_history.specs.Handed.{Post, is_addressed, server_post}
use Rattle.world_history.specs.Moves.{Act, Action, Opens, Delivers, TimesOut, Pends, acts}
use Rattle.world_history.specs.Sending.{Move, move, sent_line, sent_lines, sends_all}
use Rattle.world_history.specs.Plans.{due}
use Rattle.world_history.specs.Reading.{is_head, sent_in}
use Rattle.world_history.specs.Book.{ServerSeen, server_after}
use Rattle.world_history.specs.History.{OneEventMore}
use Rattle.world_history.specs.Laws.{shown}
use Rattle.world_history.proofs.Parties.{party_server, party_client}
use Rattle.history_law.proofs.Moments.{always}
use Rattle.history_law.specs.BookMoments.{IsMoment, with_event, plan_at, lines_in}
use Rattle.history_law.specs.Read.{AreWritten, BookIsRead}
use Rattle.history_law.proofs.DriveLines.{sent_read}
use Rattle.history_law.proofs.Growing.{history_grows}
use Rattle.history_law.proofs.Issuing.{IsSilent, AreSilent}
use Rattle.history_law.proofs.IssuingMoves.{acts_known}
use Rattle.history_law.proofs.IssueLines.{IsKnown, all_known}
use Rattle.history_law.proofs.Staying.{written_front}
use Rattle.history_law.proofs.StepEnds.{at_step_ends}
use Rattle.exchange_law.proofs.CountMoments.{at_moment}
use Rattle.history_law.proofs.FencingMoves.{messages_in, posts_of, Acts, Others, Serves, each_acts}
use Rattle.history_law.proofs.Numbers.{messages_sent}
use Rattle.history_law.proofs.Ending.{next_moment}
use Rattle.component_law.specs.Live.{AnswersLive, AreShort, GrantsFit, SpellsLive, WasTold, IsToClient, TellsLive, EachAnswerIsLive}
use Rattle.component_law.proofs.Saying.{Known, Says, says_step, only_in}
use Rattle.component_law.proofs.Aging.{to_client, grants_fit}
use Rattle.component_law.proofs.Bodies.{low_now, HasBodies, all_bodies}

-- ---- at each moment

-- the server sent the client this answer
abbrev pub IsSent : World → Answer → Type 0
IsSent w a = In (to_client a.client (OfEnvelope (envelope.Answer a))) (messages_in w)

-- so it did what a slot keeps, where lines can name the client
abbrev pub Keeps : World → Type 0
Keeps w = (x : Slot) → In x w.server.slots → is_named (node.Client x.kept.client) ≡ true → IsSent w x.kept

stays : (w : World) (a : Act) → messages_in a.world ≡ messages_in w → (m : Message) → In m (messages_in w)
    → In m (messages_in (sends_all a).world)
stays w a same m i =
    subst (In m) (sym (messages_sent a.world.network.messages a.posts))
    (in_front m (messages_in a.world) (map (λ (p : Post). p.message) a.posts) (subst (In m) (sym same) i))

sent_now : (a : Act) (os : List Outgoing) → a.posts ≡ posts_of os → (x : Answer) → In (Answers x) os
    → is_named (node.Client x.client) ≡ true → IsSent (sends_all a).world x
sent_now a os posts x i named =
    let m : Message = to_client x.client (OfEnvelope (envelope.Answer x)) in
    let there : In m (map (λ (p : Post). p.message) (posts_of os)) =
    in_map (λ (p : Post). p.message) (server_post (Answers x)) (posts_of os)
    (in_filter is_addressed (server_post (Answers x)) (map server_post os) (in_map server_post (Answers x) os i) named) in
    subst (In m) (sym (messages_sent a.world.network.messages a.posts))
    (in_behind m (messages_in a.world) (map (λ (p : Post). p.message) a.posts)
    (subst (λ (ps : List Post). In m (map (λ (p : Post). p.message) ps)) (sym posts) there))

module _ (put : FilesArePut) where
  keeps_by : (w : World) (a : Act) → Keeps w → Acts w a.world a.told a.posts → Keeps (sends_all a).world
  keeps_by w a k (Others server messages told others) x i named =
      stays w a messages (to_client x.kept.client (OfEnvelope (envelope.Answer x.kept)))
      (k x (subst (λ (s : Server). In x s.slots) server i) named)
  keeps_by w a k (Serves chosen j sent server messages told posts) x i named =
      let t : Step = step w.server chosen j in
      let says : Says w.server t = says_step put w.server chosen j in
      elim (says.slots x (subst (λ (s : Server). In x s.slots) server i)) [
        | inl old ↦ stays w a messages (to_client x.kept.client (OfEnvelope (envelope.Answer x.kept))) (k x old named)
        | inr new ↦ sent_now a t.sends posts x.kept new named
      ]

  keeps_at : OneEventMore → (w : World) (h : List Line) → IsMoment w h → Keeps w
  keeps_at more w h at = always (λ v g. Keeps v) (record {
    starts = λ x i. absurd i;
    moves = λ v g k m d x. keeps_by v (acts v m.chosen m.action) x (each_acts v m.chosen m.action);
  }) more w h at

-- ---- in the lines

-- a message of the world stands among those that were sent, as the lines show it
found_shown : (ps : List Posted) (m : Message) → In m (map (λ (p : Posted). p.message) ps)
    → (n : ℕ) × (p : Posted) × (slice_get (map shown ps) n ≡ Some (shown p)) × (p.message ≡ m)
found_shown [] m i = absurd i
found_shown (p ∷ ps) m (inl e) = (zero, p, refl, sym e)
found_shown (p ∷ ps) m (inr i) = let r = found_shown ps m i in (suc r.0, r.1, r.2, r.3)

was_told : (w : World) (h front : List Line) → sent_in h ≡ map shown w.network.messages → (c : ℕ) (b : Body)
    → In (to_client c b) (messages_in w) → WasTold (h ++ front) c (spelled b)
was_told w h front read c b i =
    let r = found_shown w.network.messages (to_client c b) i in
    let s = history_grows h front r.0 (shown r.1) (ap (λ ss. slice_get ss r.0) read ∙ r.2) in
    record {
      number = r.0;
      message = s.message;
      there = s.there;
      sender = s.from_is ∙ ap (λ (m : Message). party_of m.from) r.3;
      receiver = s.to_is ∙ ap (λ (m : Message). party_of m.to) r.3;
      bytes_are = s.bytes_are ∙ ap (λ (m : Message). spelled m.body) r.3;
    }

pub in_sent : (n : ℕ) (ps : List Post) (l : Line) → In l (sent_lines n ps)
    → (k : ℕ) × (p : Post) × In p ps × (l ≡ sent_line k p.message)
unfolding sent_lines
in_sent n [] l i = absurd i
in_sent n (p ∷ ps) l (inl e) = (n, p, inl refl, e)
in_sent n (p ∷ ps) l (inr i) = let r = in_sent (n + 1) ps l i in (r.0, r.1, inr r.2, r.3)

pub not_silent : (ls : List Line) → AreSilent ls → (n : ℕ) (from to : Party) (bytes : List ℕ)
    → In (line.Message n from to bytes) ls → ⊥
not_silent [] s n from to bytes i = i
not_silent (l ∷ ls) s n from to bytes (inl e) = subst IsSilent (sym e) s.0
not_silent (l ∷ ls) s n from to bytes (inr i) = not_silent ls s.1 n from to bytes i

pub behind_event : (a : Action) (ls : List Line) (n : ℕ) (from to : Party) (bytes : List ℕ)
    → In (line.Message n from to bytes) (with_event a ls) → In (line.Message n from to bytes) ls
behind_event (Opens e) ls n from to bytes (inl x) = absurd (cc x)
behind_event (Opens e) ls n from to bytes (inr i) = i
behind_event (Delivers number) ls n from to bytes i = i
behind_event (TimesOut c k) ls n from to bytes i = i
behind_event (Pends c) ls n from to bytes i = i

-- the post whose line this is
record IsPost (ps : List Post) (from to : Party) (bytes : List ℕ) : Type 0 where
  post : Post
  among : In post ps
  from_is : party_of post.message.from ≡ from
  to_is : party_of post.message.to ≡ to
  bytes_are : bytes ≡ spelled post.message.body

post_of : (k n : ℕ) (ps : List Post) (from to : Party) (bytes : List ℕ)
    → In (line.Message n from to bytes) (sent_lines k ps) → IsPost ps from to bytes
post_of k n ps from to bytes i =
    let r = in_sent k ps (line.Message n from to bytes) i in
    record {
      post = r.1;
      among = r.2;
      from_is = source r.0 r.1.message r.3;
      to_is = target r.0 r.1.message r.3;
      bytes_are = spells r.0 r.1.message r.3;
    }
  where
    source : (j : ℕ) (m : Message) → line.Message n from to bytes ≡ sent_line j m → party_of m.from ≡ from
    source j m e = cc (sym e)

    target : (j : ℕ) (m : Message) → line.Message n from to bytes ≡ sent_line j m → party_of m.to ≡ to
    target j m e = cc (sym e)

    spells : (j : ℕ) (m : Message) → line.Message n from to bytes ≡ sent_line j m → bytes ≡ spelled m.body
    spells j m e = cc e

module _ (put : FilesArePut) (read : BookIsRead) (more : OneEventMore) where
  module _ (w : World) (h : List Line) (k : IsMoment w h) (m : Move) (d : due (plan_at k) w ≡ Some m.action)
      (x : AreWritten (h ++ lines_in w m)) where
    book_is : server_after (h ++ lines_in w m) ≡ (move w m).world.server
    book_is =
        ap (λ (s : ServerSeen). s.server)
        (read (move w m).world (h ++ lines_in w m) (next_moment w h k m d) x)

    known : IsKnown w h
    known = at_moment IsKnown all_known w h k

    then : HasBodies (move w m).world (h ++ lines_in w m)
    then = at_moment HasBodies all_bodies (move w m).world (h ++ lines_in w m) (next_moment w h k m d)

    grants_then : AreShort (h ++ lines_in w m) → GrantsFit (server_after (h ++ lines_in w m))
    grants_then short =
        subst GrantsFit (sym book_is)
        (grants_fit (move w m).world.server
        (low_now (move w m).world (h ++ lines_in w m) then.fitting short))

    messages_are : sent_in h ≡ map shown w.network.messages
    messages_are = sent_read w known.read.injected h known.read.drives

    post_in : (n c : ℕ) (bytes : List ℕ) → In (line.Message n party.Server (party.Client c) bytes) (lines_in w m)
        → IsPost (acts w m.chosen m.action).posts party.Server (party.Client c) bytes
    post_in n c bytes i =
        let a : Act = acts w m.chosen m.action in
        elim (in_either (line.Message n party.Server (party.Client c) bytes) a.told
        (sent_lines (length a.world.network.messages) a.posts)
        (behind_event m.action (move w m).lines n party.Server (party.Client c) bytes i)) [
          | inl told ↦ absurd (not_silent a.told
              (acts_known (sent_in h) w known.world (sym messages_are) m.chosen m.action).told n party.Server (party.Client c)
              bytes told)
          | inr sent ↦ post_of (length a.world.network.messages) n a.posts party.Server (party.Client c) bytes sent
        ]

    -- what is sent stands among the messages then
    sent_then : (c : ℕ) (x : Message) → x.to ≡ node.Client c → (p : Post)
        → In p (acts w m.chosen m.action).posts → p.message ≡ x → x.from ≡ node.Server
        → In (to_client c x.body) (messages_in (move w m).world)
    sent_then c x to p i is from =
        let a : Act = acts w m.chosen m.action in
        let same : x ≡ to_client c x.body =
        ap (λ (n : Node). record { from = n; to = x.to; body = x.body }) from
        ∙ ap (λ (n : Node). record { from = node.Server; to = n; body = x.body }) to in
        subst (λ (y : Message). In y (messages_in (move w m).world)) (is ∙ same)
        (subst (In p.message) (sym (messages_sent a.world.network.messages a.posts))
        (in_behind p.message (messages_in a.world) (map (λ (q : Post). q.message) a.posts)
        (in_map (λ (q : Post). q.message) p a.posts i)))

    -- what is sent in a step of the server
    told_by : (front : List Line) (t : Step) → Says w.server t → (move w m).world.server ≡ t.state → (c : ℕ) (o : Outgoing)
        → In o t.sends → is_addressed (server_post o) ≡ true → (server_post o).message.to ≡ node.Client c
        → In (to_client c (server_post o).message.body) (messages_in (move w m).world)
        → WasTold (h ++ front) c (spelled (server_post o).message.body)
        ⊎ SpellsLive (AreShort (h ++ lines_in w m)) (server_after (h ++ lines_in w m)) c (spelled (server_post o).message.body)
    told_by front t says state c (ToDrive drive command) i addressed to there = absurd (cc to)
    told_by front t says state c (Recalls r) i addressed to there = inr (record {
      message = envelope.Recall r;
      bytes_are = refl;
      live = tt;
      fits = λ short. then.bodies short c (envelope.Recall r) there;
      grants = grants_then;
    })
    told_by front t says state c (Answers a) i addressed to there =
        let client : a.client ≡ c = same to in
        elim (only_in (Known w.server t) t.sends a says.sends i) [
          | inl (s, slot, kept) ↦
              let named : is_named (node.Client s.kept.client) ≡ true =
              ap (λ (y : Answer). is_named (node.Client y.client)) (sym kept) ∙ addressed in
              inl (subst (λ (y : Answer). WasTold (h ++ front) c (spelled (OfEnvelope (envelope.Answer y)))) (sym kept)
              (subst (λ (n : ℕ). WasTold (h ++ front) n (spelled (OfEnvelope (envelope.Answer s.kept))))
              (ap (λ (y : Answer). y.client) (sym kept) ∙ client)
              (was_told w h front messages_are s.kept.client (OfEnvelope (envelope.Answer s.kept))
              (keeps_at put more w h k s slot named))))
          | inr live ↦ inr (record {
            message = envelope.Answer a;
            bytes_are = refl;
            live = (client, subst (λ (s : Server). AnswersLive s a) (sym (book_is ∙ state)) live);
            fits = λ short. then.bodies short c (envelope.Answer a) there;
            grants = grants_then;
          })
        ]
      where
        same : node.Client a.client ≡ node.Client c → a.client ≡ c
        same e = cc e
    told_by front t says state c (AnswersOrder r) i addressed to there = absurd (cc to)

    told_post : (front : List Line) (c : ℕ) (bytes : List ℕ)
        → (p : IsPost (acts w m.chosen m.action).posts party.Server (party.Client c) bytes)
        → Acts w (acts w m.chosen m.action).world (acts w m.chosen m.action).told (acts w m.chosen m.action).posts
        → WasTold (h ++ front) c bytes
        ⊎ SpellsLive (AreShort (h ++ lines_in w m)) (server_after (h ++ lines_in w m)) c bytes
    told_post front c bytes p (Others server messages told others) =
        absurd (others p.post p.among (party_server p.post.message.from p.from_is))
    told_post front c bytes p (Serves chosen j sent server messages told posts) =
        let t : Step = step w.server chosen j in
        let f = in_filtered is_addressed p.post (map server_post t.sends)
        (subst (λ (ps : List Post). In p.post ps) posts p.among) in
        let o = in_mapped server_post p.post t.sends f.0 in
        let to : (server_post o.0).message.to ≡ node.Client c =
        ap (λ (q : Post). q.message.to) (sym o.2) ∙ party_client p.post.message.to c p.to_is in
        subst (λ (bs : List ℕ). WasTold (h ++ front) c bs
        ⊎ SpellsLive (AreShort (h ++ lines_in w m)) (server_after (h ++ lines_in w m)) c bs)
        (sym (p.bytes_are ∙ ap (λ (q : Post). spelled q.message.body) o.2))
        (told_by front t (says_step put w.server chosen j) server c o.0 o.1
        (ap is_addressed (sym o.2) ∙ f.1)
        to
        (sent_then c (server_post o.0).message to (server_post o.0)
        (subst (λ (q : Post). In q (acts w m.chosen m.action).posts) o.2 p.among) refl refl))

    told_line : (front : List Line) (l : Line) → In l (lines_in w m) → IsToClient l
        → TellsLive l (h ++ front) (h ++ lines_in w m)
    told_line front (line.Message n party.Server (party.Client c) bytes) i is =
        told_post front c bytes (post_in n c bytes i) (each_acts w m.chosen m.action)
    told_line front l i is = tt

  no_head : (l : Line) → IsToClient l → is_head l ≡ false
  no_head (line.Message n from to bytes) is = refl
  no_head l is = absurd is

  pub each_answer_is_live : EachAnswerIsLive
  each_answer_is_live w h s x =
      at_step_ends AreWritten IsToClient TellsLive (record {
        fronts = λ xs ys y. written_front xs ys y;
        tells = no_head;
        ends = λ v g k m d y front l after is says.
            told_line v g k m d y front l (subst (In l) (sym is) (in_behind l front (l ∷ after) (inl refl))) says;
      }) more w h s x
