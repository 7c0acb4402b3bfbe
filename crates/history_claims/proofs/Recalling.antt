-- Each recall that the server sends has its cause.
use Rattle.std.proofs.Common.{◌≡◌, ◌⊎◌, ◌<◌, ℕ, List, [], ◌∷◌, ◌++◌, length, map, Some, refl, sym, ap, subst, ◌∙◌, inl, inr}
use Rattle.osd_lists.specs.declared.node.Node.TheVariants as node
use Rattle.layout_ops.specs.declared.envelope.Envelope.TheVariants as envelope
use Rattle.layout_ops.specs.Spelling.{envelope_item}
use Rattle.client_rules.specs.History.{step as client_step}
use Rattle.server_rules.specs.History.{Input, step}
use Rattle.server_rules.specs.Laws.{In, ConflictsAreExact, FilesArePut, AreSafe}
use Rattle.server_rules.proofs.Members.{in_either, in_mapped, in_filtered}
use Rattle.scenario_text.specs.declared.line.Line.{Line}
use Rattle.scenario_text.specs.declared.line.Line.TheVariants as line
use Rattle.scenario_text.specs.declared.line.Party.TheVariants as party
use Rattle.world_history.specs.ServerNames.{Server, Recall, Outgoing, ToDrive, Recalls, Answers, AnswersOrder}
use Rattle.world_history.specs.State.{World}
use Rattle.world_history.specs.Spelled.{party_of, spelled}
use Rattle.world_history.specs.Handed.{Post, is_addressed, server_post, client_posts, op_in, wrote_in, data_in}
use Rattle.world_history.specs.Moves.{Act, acts}
use Rattle.world_history.specs.Sending.{Move, move, sent_line, sent_lines}
use Rattle.world_history.specs.Plans.{due}
use Rattle.world_history.specs.Reading.{sent_in}
use Rattle.world_history.specs.Book.{ServerSeen, server_after}
use Rattle.world_history.specs.Laws.{shown}
use Rattle.world_history.proofs.Parties.{party_server, party_client}
use Rattle.history_law.specs.Grants.{GrantsAreSafe}
use Rattle.history_law.specs.Moments.{IsMoment, plan_at, lines_in}
use Rattle.history_law.specs.Moves.{IsForServer}
use Rattle.history_law.specs.Read.{AreWritten, BookIsRead}
use Rattle.history_law.proofs.DriveLines.{sent_read}
use Rattle.history_law.proofs.Ending.{next_moment}
use Rattle.history_law.proofs.IssueLines.{IsKnown, all_known}
use Rattle.history_law.proofs.IssuingMoves.{acts_known}
use Rattle.history_law.proofs.Moves.{each_act}
use Rattle.history_law.proofs.Staying.{written_front}
use Rattle.exchange_law.proofs.CountMoments.{at_moment}
use Rattle.component_law.proofs.Telling.{in_sent, not_silent, behind_event}
use Rattle.cause_law.proofs.Answering.{safe_at}
use Rattle.history_claims.specs.Recalled.{IsRecalled, IsAnswer, IsRecall, RecallsCaused, EachRecallIsCaused}
use Rattle.history_claims.proofs.RecallSteps.{Why, step_recalls}

-- ---- what the server sends

-- a post of the server is one of its step
record IsServed (w : World) (m : Move) (a : Act) (p : Post) : Type 0 where
  input : Input
  handed : IsForServer w m.action input
  state : a.world.server ≡ (step w.server m.chosen input).state
  out : Outgoing
  among : In out (step w.server m.chosen input).sends
  is : p ≡ server_post out

no_client : (c : ℕ) (wrote : _) (logged : ℕ) (os : _) (p : Post) → In p (client_posts c wrote logged os)
    → p.message.from ≡ node.Server → ⊥
no_client c wrote logged [] p i e = i
no_client c wrote logged (o ∷ os) p (inl same) e = cc (sym e ∙ ap (λ (x : Post). x.message.from) same)
no_client c wrote logged (o ∷ os) p (inr i) e = no_client c _ logged os p i e

served : (w : World) (m : Move) (p : Post) → In p (acts w m.chosen m.action).posts → p.message.from ≡ node.Server
    → IsServed w m (acts w m.chosen m.action) p
served w m = each_act w m.chosen
    (λ (a : Act). (p : Post) → In p a.posts → p.message.from ≡ node.Server → IsServed w m a p) m.action (record {
      rests = λ ms same told quiet p i e. absurd i;
      refused = λ c a found op handed x is p i e. absurd i;
      clock = λ time p i e. absurd i;
      serves = λ ms same i handed p there e.
          let f = in_filtered is_addressed p (map server_post (step w.server m.chosen i).sends) there in
          let o = in_mapped server_post p (step w.server m.chosen i).sends f.0 in
          record { input = i; handed = handed; state = refl; out = o.0; among = o.1; is = o.2 };
      goes = λ ms same c a found i handed p there e.
          absurd (no_client c (wrote_in a i) (data_in (op_in a.state i)) (client_step a.state i).sends p
          (in_filtered is_addressed p
          (client_posts c (wrote_in a i) (data_in (op_in a.state i)) (client_step a.state i).sends) there).0 e);
      comes = λ c is p i e. absurd i;
      stops = λ c a found p i e. absurd i;
      judged = λ ms same d a found hears x number p i e. elim i [
        | inl is ↦ absurd (cc (sym e ∙ ap (λ (y : Post). y.message.from) is))
        | inr none ↦ absurd none
      ];
      injected = λ d bytes is a found p i e. absurd i;
      turns = λ d a b found t p i e. absurd i;
      known = λ d key capacity stored is knows p i e. absurd i;
      adds = λ d key capacity stored is knows p i e. absurd i;
    })

-- ---- in a move

module _ (exact : ConflictsAreExact) (put : FilesArePut) (safe : GrantsAreSafe) (read : BookIsRead) where
  module _ (w : World) (h : List Line) (k : IsMoment w h) (m : Move) (d : due (plan_at k) w ≡ Some m.action)
      (written : AreWritten (h ++ lines_in w m)) where
    abbrev Told : Server → Server → ℕ → List ℕ → Type 0
    Told s t c bytes = IsAnswer c bytes ⊎ IsRecall w m.action s t c bytes

    -- a message's line is that of a post
    post_of : (n c : ℕ) (bytes : List ℕ) → In (line.Message n party.Server (party.Client c) bytes) (lines_in w m)
        → (p : Post) × In p (acts w m.chosen m.action).posts × (p.message.from ≡ node.Server)
        × (p.message.to ≡ node.Client c) × (bytes ≡ spelled p.message.body)
    post_of n c bytes i =
        let a : Act = acts w m.chosen m.action in
        let known : IsKnown w h = at_moment IsKnown all_known w h k in
        let sent : sent_in h ≡ map shown w.network.messages =
        sent_read w known.read.injected h known.read.drives in
        elim (in_either (line.Message n party.Server (party.Client c) bytes) a.told
        (sent_lines (length a.world.network.messages) a.posts)
        (behind_event m.action (move w m).lines n party.Server (party.Client c) bytes i)) [
          | inl told ↦
              absurd (not_silent a.told (acts_known (sent_in h) w known.world (sym sent) m.chosen m.action).told n
              party.Server (party.Client c) bytes told)
          | inr there ↦
              let r = in_sent (length a.world.network.messages) a.posts (line.Message n party.Server (party.Client c) bytes)
              there in (
                r.1,
                r.2,
                party_server r.1.message.from (source r.0 r.1 r.3),
                party_client r.1.message.to c (target r.0 r.1 r.3),
                spells r.0 r.1 r.3,
              )
        ]
      where
        source : (j : ℕ) (p : Post) → line.Message n party.Server (party.Client c) bytes ≡ sent_line j p.message
            → party_of p.message.from ≡ party.Server
        source j p e = cc (sym e)

        target : (j : ℕ) (p : Post) → line.Message n party.Server (party.Client c) bytes ≡ sent_line j p.message
            → party_of p.message.to ≡ party.Client c
        target j p e = cc (sym e)

        spells : (j : ℕ) (p : Post) → line.Message n party.Server (party.Client c) bytes ≡ sent_line j p.message
            → bytes ≡ spelled p.message.body
        spells j p e = cc e

    abbrev after : World
    after = (move w m).world

    by_out : (i : Input) → IsForServer w m.action i → after.server ≡ (step w.server m.chosen i).state → (o : Outgoing)
        → In o (step w.server m.chosen i).sends → (c : ℕ) → (server_post o).message.to ≡ node.Client c
        → Told w.server after.server c (spelled (server_post o).message.body)
    by_out i handed state (ToDrive drive command) among c to = absurd (cc to)
    by_out i handed state (AnswersOrder r) among c to = absurd (cc to)
    by_out i handed state (Answers a) among c to = inl (a, same to, refl)
      where
        same : node.Client a.client ≡ node.Client c → a.client ≡ c
        same e = cc e
    by_out i handed state (Recalls r) among c to =
        let behind : AreSafe (step w.server m.chosen i).state.files =
        subst (λ (s : Server). AreSafe s.files) state (safe_at safe after (h ++ lines_in w m) (next_moment w h k m d)) in
        let y : Why w.server (step w.server m.chosen i).state i r =
        step_recalls exact put w.server m.chosen i (safe_at safe w h k) behind r among in
        inr (record {
          input = i;
          comes = handed;
          grant = y.grant;
          client_is = sym (ap (λ (x : Recall). x.client) y.is) ∙ same to;
          count = y.count;
          first = y.first;
          counted = subst (λ (s : Server). y.count < s.next_recall) (sym state) y.counted;
          bytes_are = ap (λ (x : Recall). envelope_item (envelope.Recall x)) y.is;
          why = subst (λ (s : Server). IsRecalled w.server s i y.grant) (sym state) y.why;
        })
      where
        same : node.Client r.client ≡ node.Client c → r.client ≡ c
        same e = cc e

    by_server : (p : Post) → IsServed w m (acts w m.chosen m.action) p → (c : ℕ) → p.message.to ≡ node.Client c
        → Told w.server after.server c (spelled p.message.body)
    by_server p it c to =
        subst (λ (q : Post). Told w.server after.server c (spelled q.message.body)) (sym it.is)
        (by_out it.input it.handed it.state it.out it.among c (ap (λ (q : Post). q.message.to) (sym it.is) ∙ to))

    recalls_caused : RecallsCaused w h m
    recalls_caused n c bytes i =
        let r = post_of n c bytes i in
        let before : server_after h ≡ w.server =
        ap (λ (s : ServerSeen). s.server) (read w h k (written_front h (lines_in w m) written)) in
        let behind : server_after (h ++ lines_in w m) ≡ after.server =
        ap (λ (s : ServerSeen). s.server) (read after (h ++ lines_in w m) (next_moment w h k m d) written) in
        rw (before, behind, r.4) (by_server r.0 (served w m r.0 r.1 r.2) c r.3)

  pub each_recall_is_caused : EachRecallIsCaused
  each_recall_is_caused w h k m d written = recalls_caused w h k m d written
