-- Each message of the server to a client tells a recall, or an answer to the request that comes.
use Rattle.std.proofs.Common.{◌≡◌, ◌⊎◌, ℕ, ◌+◌, true, List, [], ◌∷◌, ◌++◌, length, map, Some, refl, sym, ap, subst, ◌∙◌, arith, inl, inr}
use Rattle.std.proofs.lemmas.Bool.{eq-eqb}
use Rattle.std.proofs.lemmas.Bool.Decides.{nat_tests}
use Rattle.osd_lists.specs.declared.node.Node.TheVariants as node
use Rattle.layout_ops.specs.declared.statuses.TheConstants.{NFS4ERR_SEQ_MISORDERED}
use Rattle.server_rules.specs.Answers.{plain_answer, recalls_from}
use Rattle.server_rules.specs.Files.{Step, file_at, at_file, to_drives}
use Rattle.server_rules.specs.History.{Input, step}
use Rattle.server_rules.specs.Laws.{In, ConflictsAreExact, FilesArePut, AreSafe, is_taken_of}
use Rattle.server_rules.specs.Messages.{counters_have_room}
use Rattle.server_rules.specs.Requests.{serves, answer_with, answer_without, size_in, carried_out, only_answers, on_request}
use Rattle.server_rules.specs.Served.{Served, tells}
use Rattle.server_rules.specs.Slots.{Admit, New, Again, Misordered, slot_of, admit}
use Rattle.server_rules.proofs.Members.{in_front, in_behind, in_either, in_mapped, in_map, in_filtered, in_filter}
use Rattle.scenario_text.specs.declared.line.Line.{Line}
use Rattle.scenario_text.specs.declared.line.Line.TheVariants as line
use Rattle.scenario_text.specs.declared.line.Party.TheVariants as party
use Rattle.world_history.specs.ServerNames.{Server, Slot, Answer, ClientRequest, Outgoing, ToDrive, Recalls, Answers, AnswersOrder}
use Rattle.world_history.specs.State.{World}
use Rattle.world_history.specs.Spelled.{party_of, spelled}
use Rattle.world_history.specs.Names.{is_named}
use Rattle.client_rules.specs.History.{step as client_step}
use Rattle.world_history.specs.Handed.{Post, is_addressed, server_post, client_posts, op_in, wrote_in, data_in}
use Rattle.world_history.specs.Moves.{Act, Action, Opens, Delivers, TimesOut, Pends, acts}
use Rattle.world_history.specs.Sending.{Move, move, sent_line, sent_lines}
use Rattle.world_history.specs.Plans.{due}
use Rattle.world_history.specs.Reading.{sent_in}
use Rattle.world_history.specs.Book.{ServerSeen, server_after}
use Rattle.world_history.specs.History.{OneEventMore}
use Rattle.world_history.specs.Laws.{shown}
use Rattle.world_history.proofs.Parties.{party_server, party_client}
use Rattle.history_law.specs.Answers.{AnswersOnly, Never, ServerDid, Quiet, Asked}
use Rattle.history_law.specs.Moments.{IsMoment, with_event, plan_at, lines_in}
use Rattle.history_law.specs.Moves.{IsForServer}
use Rattle.history_law.specs.Steps.{IsAsked}
use Rattle.history_law.proofs.Answers.{step_did}
use Rattle.history_law.proofs.Moments.{always}
use Rattle.history_law.proofs.Moves.{each_act}
use Rattle.history_law.proofs.Steps.{each_request}
use Rattle.history_law.specs.Grants.{GrantsAreSafe}
use Rattle.history_law.specs.Read.{AreWritten, BookIsRead}
use Rattle.history_law.proofs.DriveLines.{sent_read}
use Rattle.history_law.proofs.IssuingMoves.{acts_known}
use Rattle.history_law.proofs.IssueLines.{IsKnown, all_known}
use Rattle.history_law.proofs.Staying.{written_front}
use Rattle.history_law.proofs.Ending.{next_moment}
use Rattle.history_law.proofs.FencingMoves.{Acts, Others, Serves, each_acts}
use Rattle.exchange_law.specs.InStep.{ClientsAreInStep}
use Rattle.exchange_law.specs.Made.{answer_to}
use Rattle.exchange_law.proofs.Admitting.{is_last}
use Rattle.exchange_law.proofs.CountMoments.{at_moment}
use Rattle.exchange_law.proofs.SlotServing.{Comes, request_comes}
use Rattle.component_law.specs.Live.{AreShort}
use Rattle.component_law.proofs.Saying.{only_in, found_slot, kept_sent}
use Rattle.component_law.proofs.Telling.{in_sent as in_sent_lines, not_silent, behind_event as behind_event_line}
use Rattle.cause_law.specs.Answers.{IsCaused, answer_line}
use Rattle.cause_law.specs.Told.{WasSent, Answers as AnswersIt, ToNew, Repeats, Refuses, IsToRequest, IsTold, TellsRecall, TellsAnswer, TellsCaused, EachMessageIsCaused}
use Rattle.cause_law.proofs.Answering.{safe_at}
use Rattle.cause_law.proofs.Causing.{Answered, request_answered}
use Rattle.cause_law.proofs.Sendable.{answer_fits, recall_fits}

-- ---- lines of messages

in_sent : (n : ℕ) (ps : List Post) (p : Post) → In p ps → (k : ℕ) × In (sent_line k p.message) (sent_lines n ps)
unfolding sent_lines
in_sent n [] p i = absurd i
in_sent n (x ∷ ps) p (inl e) = (n, inl (ap (λ (y : Post). sent_line n y.message) e))
in_sent n (x ∷ ps) p (inr i) = let r = in_sent (n + 1) ps p i in (r.0, inr r.1)

behind_event : (a : Action) (ls : List Line) (x : Line) → In x ls → In x (with_event a ls)
behind_event (Opens e) ls x i = inr i
behind_event (Delivers number) ls x i = i
behind_event (TimesOut c k) ls x i = i
behind_event (Pends c) ls x i = i

-- the line of what an act sends
pub sent_there : (w : World) (m : Move) (p : Post) → In p (acts w m.chosen m.action).posts
    → (k : ℕ) × In (sent_line k p.message) (lines_in w m)
sent_there w m p i =
    let a : Act = acts w m.chosen m.action in
    let n : ℕ = length a.world.network.messages in
    let r = in_sent n a.posts p i in (
      r.0,
      behind_event m.action (move w m).lines (sent_line r.0 p.message)
          (in_behind (sent_line r.0 p.message) a.told (sent_lines n a.posts) r.1),
    )

-- ---- what the server sends

-- a post of the server is one of its step
record IsServed (w : World) (m : Move) (a : Act) (p : Post) : Type 0 where
  input : Input
  handed : IsForServer w m.action input
  state : a.world.server ≡ (step w.server m.chosen input).state
  out : Outgoing
  among : In out (step w.server m.chosen input).sends
  is : p ≡ server_post out
  addressed : is_addressed (server_post out) ≡ true

clients_send : (c : ℕ) (wrote : _) (logged : ℕ) (os : _) (p : Post) → In p (client_posts c wrote logged os)
    → p.message.from ≡ node.Server → ⊥
clients_send c wrote logged [] p i e = i
clients_send c wrote logged (o ∷ os) p (inl same) e = cc (sym e ∙ ap (λ (x : Post). x.message.from) same)
clients_send c wrote logged (o ∷ os) p (inr i) e = clients_send c _ logged os p i e

server_sent : (w : World) (m : Move) (p : Post) → In p (acts w m.chosen m.action).posts → p.message.from ≡ node.Server
    → IsServed w m (acts w m.chosen m.action) p
server_sent w m = each_act w m.chosen
    (λ (a : Act). (p : Post) → In p a.posts → p.message.from ≡ node.Server → IsServed w m a p) m.action (record {
      rests = λ ms same told quiet p i e. absurd i;
      refused = λ c a found op handed x is p i e. absurd i;
      clock = λ time p i e. absurd i;
      serves = λ ms same i handed p there e.
          let f = in_filtered is_addressed p (map server_post (step w.server m.chosen i).sends) there in
          let o = in_mapped server_post p (step w.server m.chosen i).sends f.0 in
          record {
            input = i;
            handed = handed;
            state = refl;
            out = o.0;
            among = o.1;
            is = o.2;
            addressed = ap is_addressed (sym o.2) ∙ f.1;
          };
      goes = λ ms same c a found i handed p there e.
          absurd (clients_send c (wrote_in a i) (data_in (op_in a.state i)) (client_step a.state i).sends p
          (in_filtered is_addressed p
          (client_posts c (wrote_in a i) (data_in (op_in a.state i)) (client_step a.state i).sends) there).0 e);
      comes = λ c is p i e. absurd i;
      stops = λ c a found p i e. absurd i;
      judged = λ ms same d a found hears x number p i e. elim i [
        | inl is ↦ absurd (cc (sym e ∙ ap (λ (y : Post). y.message.from) is))
        | inr none ↦ absurd none
      ];
      injected = λ d bytes is a found p i e. absurd i;
      turns = λ d a b found t p i e. absurd i;
      known = λ d key capacity stored is knows p i e. absurd i;
      adds = λ d key capacity stored is knows p i e. absurd i;
    })

-- ---- what slots keep is sent

-- what a slot keeps behind a step it kept before, or is sent
abbrev SlotsSent : Server → Step → Type 0
SlotsSent s t = (x : Slot) → In x t.state.slots → In x s.slots ⊎ In (Answers x.kept) t.sends

request_sent : (s : Server) (now : ℕ) (chosen : List ℕ) (q : ClientRequest) → SlotsSent s (on_request s now chosen q)
request_sent s now chosen q = each_request s now chosen q (SlotsSent s) (record {
  again = λ kept is x i. inl i;
  misordered = λ expected is x i. inl i;
  without = λ new none x i.
      let a : Answer = answer_without q in
      kept_sent s.slots (record { client = q.client; last = q.sequence; kept = a }) x (Answers a ∷ []) (inl refl) i;
  served = λ new f found x i.
      let v : Served = serves (at_file s chosen f) s.next_grant s.format now q.client q.args in
      let a : Answer = answer_with s q v in
      kept_sent s.slots (record { client = q.client; last = q.sequence; kept = a }) x (carried_out s q v).sends
      (in_behind (Answers a) (to_drives s.drives v.going.effects.sent) _
      (in_behind (Answers a) (recalls_from s.next_recall v.recalled) (Answers a ∷ []) (inl refl))) i;
})

step_sent : (s : Server) (chosen : List ℕ) (i : Input) → SlotsSent s (step s chosen i)
step_sent s chosen i = by (step s chosen i) (step_did s chosen i)
  where
    by : (t : Step) → ServerDid s chosen i t → SlotsSent s t
    by t (Quiet q) = λ x j. inl (subst (λ (ss : List Slot). In x ss) q.slots j)
    by t (Asked now q asked done) = subst (SlotsSent s) (sym done) (request_sent s now chosen q)

-- ---- so each was sent

abbrev Keeps : World → List Line → Type 0
Keeps w h = (x : Slot) → In x w.server.slots → is_named (node.Client x.kept.client) ≡ true → WasSent h x.kept

-- it stays sent
sent_on : (h ls : List Line) (a : Answer) → WasSent h a → WasSent (h ++ ls) a
sent_on h ls a s = record { number = s.number; there = in_front (answer_line s.number a) h ls s.there }

keeps_by : (w : World) (h : List Line) (m : Move) → Keeps w h
    → Acts w (acts w m.chosen m.action).world (acts w m.chosen m.action).told (acts w m.chosen m.action).posts
    → Keeps (move w m).world (h ++ lines_in w m)
keeps_by w h m k (Others server messages told others) x i named =
    sent_on h (lines_in w m) x.kept (k x (subst (λ (s : Server). In x s.slots) server i) named)
keeps_by w h m k (Serves chosen j sent server messages told posts) x i named =
    let t : Step = step w.server chosen j in
    elim (step_sent w.server chosen j x (subst (λ (s : Server). In x s.slots) server i)) [
      | inl old ↦ sent_on h (lines_in w m) x.kept (k x old named)
      | inr new ↦
          let post : Post = server_post (Answers x.kept) in
          let there : In post (acts w m.chosen m.action).posts =
          subst (In post) (sym posts)
          (in_filter is_addressed post (map server_post t.sends) (in_map server_post (Answers x.kept) t.sends new) named) in
          let r = sent_there w m post there in
          record { number = r.0; there = in_behind (answer_line r.0 x.kept) h (lines_in w m) r.1 }
    ]

keeps_at : OneEventMore → (w : World) (h : List Line) → IsMoment w h → Keeps w h
keeps_at more w h at = always Keeps (record {
  starts = λ x i. absurd i;
  moves = λ v g k m d x. keeps_by v g m x (each_acts v m.chosen m.action);
}) more w h at

-- ---- an answer

only_kept : (s : Server) (a b : Answer) → In (Answers a) (only_answers s b).sends → a ≡ b
only_kept s a b (inl e) = same e
  where
    same : Answers a ≡ Answers b → a ≡ b
    same f = cc f
only_kept s a b (inr i) = absurd i

module _ (exact : ConflictsAreExact) (put : FilesArePut) (s : Server) (now : ℕ) (chosen : List ℕ) (q : ClientRequest)
    (h : List Line) (before : AreSafe s.files) (a : Answer)
    (own : (x : Slot) → slot_of s.slots q.client ≡ Some x → x.kept.client ≡ q.client)
    (sent : (x : Slot) → In x s.slots → a ≡ x.kept → WasSent h a) where
  abbrev did : Step
  did = on_request s now chosen q

  abbrev Goal : Type 0
  Goal = (a.client ≡ q.client) × AnswersIt h s did.state now q a

  -- it is the one that is made of the request
  made : (t : Step) → AnswersOnly (λ b. b ≡ answer_to s now chosen q) t.sends → In (Answers a) t.sends
      → a ≡ answer_to s now chosen q
  made t only i = only_in (λ b. b ≡ answer_to s now chosen q) t.sends a only i

  to_new : AreSafe did.state.files → admit (slot_of s.slots q.client) q.sequence ≡ New → In (Answers a) did.sends → Goal
  to_new behind new i =
      let it : Answered s now q did = request_answered exact put s now chosen q new before behind in
      let comes : Comes s now chosen q New did =
      subst (λ (x : Admit). Comes s now chosen q x did) new (request_comes s now chosen q) in
      let last : In (Answers it.answer) did.sends =
      subst (In (Answers it.answer)) (sym it.sends_are)
      (in_behind (Answers it.answer) it.front (Answers it.answer ∷ []) (inl refl))
      in
      let same : it.answer ≡ a = only_in (λ b. b ≡ answer_to s now chosen q) did.sends it.answer comes.sends last
      ∙ sym (made did comes.sends i) in (
        ap (λ (b : Answer). b.client) (sym same) ∙ it.client_is,
        ToNew new (subst (IsCaused s did.state now q) same it.caused),
      )

  to_last : (kept : Answer) → admit (slot_of s.slots q.client) q.sequence ≡ Again kept → In (Answers a) did.sends → Goal
  to_last kept again i =
      let it = is_last (slot_of s.slots q.client) q.sequence kept again in
      let comes : Comes s now chosen q (Again kept) did =
      subst (λ (x : Admit). Comes s now chosen q x did) again (request_comes s now chosen q) in
      let same : a ≡ it.slot.kept = only_in (λ b. b ≡ kept) did.sends a comes.1 i ∙ sym it.answer in (
        ap (λ (b : Answer). b.client) same ∙ own it.slot it.there,
        Repeats (record {
          slot = it.slot;
          kept = it.there;
          last = it.last;
          same = same;
          sent = sent it.slot (found_slot _ s.slots it.slot it.there) same;
        }),
      )

  refuses : (t : Step) (expected : ℕ)
      → t ≡ only_answers s (plain_answer q (tells NFS4ERR_SEQ_MISORDERED expected) (size_in (file_at s.files q.file)))
      → admit (slot_of s.slots q.client) q.sequence ≡ Misordered expected → In (Answers a) t.sends
      → (a.client ≡ q.client) × AnswersIt h s t.state now q a
  refuses t expected done misordered i =
      let refusal : Answer = plain_answer q (tells NFS4ERR_SEQ_MISORDERED expected) (size_in (file_at s.files q.file)) in
      let same : a ≡ refusal =
      only_kept s a refusal (subst (λ (x : Step). In (Answers a) x.sends) done i) in
      (ap (λ (b : Answer). b.client) same, Refuses (record { expected = expected; misordered = misordered; is = same }))

  abbrev So : Step → Type 0
  So t = t ≡ did → In (Answers a) t.sends → (a.client ≡ q.client) × AnswersIt h s t.state now q a

  answered : AreSafe did.state.files → In (Answers a) did.sends → Goal
  answered behind i = each_request s now chosen q So (record {
    again = λ kept again done there.
        subst (λ (t : Step). (a.client ≡ q.client) × AnswersIt h s t.state now q a) (sym done)
        (to_last kept again (subst (λ (t : Step). In (Answers a) t.sends) done there));
    misordered = λ expected misordered done there. refuses _ expected refl misordered there;
    without = λ new none done there.
        subst (λ (t : Step). (a.client ≡ q.client) × AnswersIt h s t.state now q a) (sym done)
        (to_new behind new (subst (λ (t : Step). In (Answers a) t.sends) done there));
    served = λ new f found done there.
        subst (λ (t : Step). (a.client ≡ q.client) × AnswersIt h s t.state now q a) (sym done)
        (to_new behind new (subst (λ (t : Step). In (Answers a) t.sends) done there));
  }) refl i

-- ---- in a move

its_taken : (s : Server) (i : Input) (now : ℕ) (q : ClientRequest) → IsAsked s i now q
    → is_taken_of s q.client q.client q ≡ true
its_taken s i now q is = taken is.low
  where
    taken : counters_have_room s ≡ true → is_taken_of s q.client q.client q ≡ true
    taken low = rw (eq-eqb q.client q.client refl, low) (grind (arith, nat_tests, is.named))

module _ (exact : ConflictsAreExact) (put : FilesArePut) (safe : GrantsAreSafe) (read : BookIsRead) (in_step : ClientsAreInStep)
    (more : OneEventMore) where
  module _ (w : World) (h : List Line) (k : IsMoment w h) (m : Move) (d : due (plan_at k) w ≡ Some m.action)
      (x : AreWritten (h ++ lines_in w m)) where
    abbrev Told : Server → Server → ℕ → List ℕ → Type 0
    Told s t = IsTold (AreShort (h ++ lines_in w m)) w m.action h s t

    messages_are : sent_in h ≡ map shown w.network.messages
    messages_are =
        let known : IsKnown w h = at_moment IsKnown all_known w h k in
        sent_read w known.read.injected h known.read.drives

    -- a message's line is that of a post
    post_of : (n c : ℕ) (bytes : List ℕ) → In (line.Message n party.Server (party.Client c) bytes) (lines_in w m)
        → (p : Post) × In p (acts w m.chosen m.action).posts × (p.message.from ≡ node.Server)
        × (p.message.to ≡ node.Client c) × (bytes ≡ spelled p.message.body)
    post_of n c bytes i =
        let a : Act = acts w m.chosen m.action in
        let known : IsKnown w h = at_moment IsKnown all_known w h k in
        elim (in_either (line.Message n party.Server (party.Client c) bytes) a.told
        (sent_lines (length a.world.network.messages) a.posts)
        (behind_event_line m.action (move w m).lines n party.Server (party.Client c) bytes i)) [
          | inl told ↦
              absurd (not_silent a.told (acts_known (sent_in h) w known.world (sym messages_are) m.chosen m.action).told n
              party.Server (party.Client c) bytes told)
          | inr sent ↦
              let r = in_sent_lines (length a.world.network.messages) a.posts (line.Message n party.Server (party.Client c) bytes)
              sent in (
                r.1,
                r.2,
                party_server r.1.message.from (source r.0 r.1 r.3),
                party_client r.1.message.to c (target r.0 r.1 r.3),
                spells r.0 r.1 r.3,
              )
        ]
      where
        source : (j : ℕ) (p : Post) → line.Message n party.Server (party.Client c) bytes ≡ sent_line j p.message
            → party_of p.message.from ≡ party.Server
        source j p e = cc (sym e)

        target : (j : ℕ) (p : Post) → line.Message n party.Server (party.Client c) bytes ≡ sent_line j p.message
            → party_of p.message.to ≡ party.Client c
        target j p e = cc (sym e)

        spells : (j : ℕ) (p : Post) → line.Message n party.Server (party.Client c) bytes ≡ sent_line j p.message
            → bytes ≡ spelled p.message.body
        spells j p e = cc e

    abbrev after : World
    after = (move w m).world

    -- an answer of the step
    by_answer : (i : Input) → IsForServer w m.action i → after.server ≡ (step w.server m.chosen i).state → (a : Answer)
        → In (Answers a) (step w.server m.chosen i).sends → is_named (node.Client a.client) ≡ true
        → IsToRequest w m.action h w.server after.server a
    by_answer i handed state a among named = by (step w.server m.chosen i) (step_did w.server m.chosen i) refl
      where
        by : (t : Step) → ServerDid w.server m.chosen i t → t ≡ step w.server m.chosen i
            → IsToRequest w m.action h w.server after.server a
        by t (Quiet quiet) is =
            absurd (only_in Never t.sends a quiet.sends (subst (λ (u : Step). In (Answers a) u.sends) (sym is) among))
        by t (Asked now q asked done) is =
            let own : after.server ≡ (on_request w.server now m.chosen q).state =
            state ∙ ap (λ (u : Step). u.state) (sym is ∙ done) in
            let there : In (Answers a) (on_request w.server now m.chosen q).sends =
            subst (λ (u : Step). In (Answers a) u.sends) (sym is ∙ done) among in
            let r =
            answered exact put w.server now m.chosen q h (safe_at safe w h k) a
            (λ slot found. ((in_step w h k q.client).slot slot found).client)
            (λ slot slotted same.
            subst (WasSent h) (sym same)
            (keeps_at more w h k slot slotted
            (ap (λ (b : Answer). is_named (node.Client b.client)) (sym same) ∙ named)))
            (subst (λ (s : Server). AreSafe s.files) own (safe_at safe after (h ++ lines_in w m) (next_moment w h k m d)))
            there in
            record {
              now = now;
              request = q;
              handed = subst (IsForServer w m.action) asked.is handed;
              taken = its_taken w.server i now q asked;
              client_is = r.0;
              why = subst (λ (s : Server). AnswersIt h w.server s now q a) (sym own) r.1;
            }

    by_out : (i : Input) → IsForServer w m.action i → after.server ≡ (step w.server m.chosen i).state → (o : Outgoing)
        → In o (step w.server m.chosen i).sends → is_addressed (server_post o) ≡ true → (c : ℕ)
        → (server_post o).message.to ≡ node.Client c
        → Told w.server after.server c (spelled (server_post o).message.body)
    by_out i handed state (ToDrive drive command) among addressed c to = absurd (cc to)
    by_out i handed state (AnswersOrder r) among addressed c to = absurd (cc to)
    by_out i handed state (Recalls r) among addressed c to =
        TellsRecall r (same to)
        (record { bytes_are = refl; fits = λ short. recall_fits w h k m d short i handed state r among })
      where
        same : node.Client r.client ≡ node.Client c → r.client ≡ c
        same e = cc e
    by_out i handed state (Answers a) among addressed c to =
        TellsAnswer a (same to)
        (record { bytes_are = refl; fits = λ short. answer_fits w h k m d short i handed state a among })
        (by_answer i handed state a among addressed)
      where
        same : node.Client a.client ≡ node.Client c → a.client ≡ c
        same e = cc e

    by_server : (p : Post) → IsServed w m (acts w m.chosen m.action) p → (c : ℕ) → p.message.to ≡ node.Client c
        → Told w.server after.server c (spelled p.message.body)
    by_server p it c to =
        subst (λ (q : Post). Told w.server after.server c (spelled q.message.body)) (sym it.is)
        (by_out it.input it.handed it.state it.out it.among it.addressed c
        (ap (λ (q : Post). q.message.to) (sym it.is) ∙ to))

    pub tells_caused : TellsCaused w h m
    tells_caused n c bytes i =
        let r = post_of n c bytes i in
        let before : server_after h ≡ w.server =
        ap (λ (s : ServerSeen). s.server) (read w h k (written_front h (lines_in w m) x)) in
        let behind : server_after (h ++ lines_in w m) ≡ after.server =
        ap (λ (s : ServerSeen). s.server) (read after (h ++ lines_in w m) (next_moment w h k m d) x) in
        rw (before, behind, r.4) (by_server r.0 (server_sent w m r.0 r.1 r.2) c r.3)

  pub each_message_is_caused : EachMessageIsCaused
  each_message_is_caused w h k m d x = tells_caused w h k m d x
