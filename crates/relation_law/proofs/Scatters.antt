-- A call that comes to its scatter in a turn: its gather is over, and it sends the first WRITEs of its plan.
-- Towards `CallsGoOn` (`relation_law/specs/Steps.antt`).
use Rattle.std.proofs.Common.{◌≡◌, ◌==◌, ◌+◌, ◌++◌, ℕ, Bool, true, false, List, [], ◌∷◌, length, Option, Some, None, refl, sym, ap, subst, ◌∙◌, inl, inr, if◌then◌else◌}
use Rattle.std.proofs.lemmas.Bool.{cases_Bool, eqb-true}
use Rattle.osd_commands.specs.declared.replies.Reply.{Reply}
use Rattle.stripe_plan.specs.Lost.{unwritable}
use Rattle.stripe_plan.specs.Plans.{stores}
use Rattle.stripe_plan.specs.Touched.{stripes}
use Rattle.server_rules.specs.Laws.{In}
use Rattle.client_rules.specs.declared.limits.TheConstants.{PERFORMED, OTHER_TAG}
use Rattle.client_rules.specs.Calls.{file_of, is_write, span_of, bytes_of}
use Rattle.client_rules.specs.Commands.{counted, nonce_at, others, not_of, read_commands, write_commands}
use Rattle.client_rules.specs.Going.{begins, begun, by_turn, moved, with_held}
use Rattle.client_rules.specs.Grants.{clipped, covers, held_of, is_for, put_held}
use Rattle.client_rules.specs.Io.{awaited_in, got_of, outs}
use Rattle.client_rules.specs.Laws.{Awaiting}
use Rattle.client_rules.specs.Reads.{reads, reads_on, reads_unless, probes, probes_on, probes_by, is_probe_lost}
use Rattle.client_rules.specs.Replies.{replied, performed, refused, refusal, refused_report, timed_after, timed_out, gather_timed}
use Rattle.client_rules.specs.Turns.{turned, closing}
use Rattle.client_rules.specs.Writes.{accounted, written, is_past_size, firsts, laters, scatters, scatters_on, gathers, gathers_on, gathers_due, is_too_short}
use Rattle.client_rules.proofs.HeldGrants.{held_file, put_at}
use Rattle.history_law.proofs.Turns.{each_begin}
use Rattle.world_history.specs.ClientNames.{Awaited, Call, CallOp, Column, Done, Held, Io, Moved, Need, Needs, Outcome, Phase, Starts, Waits, Reads, Probes, Gathers, Scatters, Span, Store, TimedOut, Turn, Goes, Ends, Forgets}
use Rattle.gather_law.specs.Ready.{IsSome, IsReady as IsGatherReady, AreBelow}
use Rattle.gather_law.proofs.Gathered as gather
use Rattle.exchange_law.proofs.Had.{rest_below}
use Rattle.exchange_law.proofs.PlaceMoving.{covered}
use Rattle.exchange_law.proofs.RightMoves.{counted_outs}
use Rattle.plan_law.specs.Sending.{MayScatter}
use Rattle.relation_law.proofs.MessagesAlways.{Any}
use Rattle.relation_law.proofs.MessagesClients.{IsUsable, IsFit, GathersFor}
use Rattle.relation_law.proofs.MessagesContent.{stores_of}
use Rattle.relation_law.proofs.MessagesGathers.{GathersOn, HasBytes, begin_writable}
use Rattle.relation_law.proofs.MessagesRun.{FineDone, call_bytes}
use Rattle.file_simulation.specs.Messages.{is_scatter}

-- A scatter that begins: what its call got, the WRITEs of its plan, and those that go out first.
pub record Scattered (h : Held) (op : CallOp) (got : List Column) (io : Io) (queue : List Store) (cs : List Awaited) : Type 0
  where
    pub is : is_write op ≡ true
    pub some : IsSome op
    pub covers : is_for h.reach h.size op ≡ true
    pub may : MayScatter h.map (span_of op) (bytes_of op) got (outs h io.timed)
    pub before : Held
    pub first : cs ≡ write_commands before (firsts [] (stores_of h op got io.timed))
    pub rest : queue ≡ laters [] (stores_of h op got io.timed)

-- so a call moves under grant h
pub record ScattersSo (h : Held) (op : CallOp) (got : List Column) (io : Io) (queue : List Store) (m : Moved) : Type 0 where
  pub held : m.held ≡ counted h m.sent
  pub scattered : Scattered (counted h m.sent) op got io queue m.sent

-- ---- turns that come to no scatter

abbrev NoScatter : Turn → Type 0
NoScatter t = (io : Io) (queue : List Store) → t ≡ Goes (Scatters io queue) → ⊥

goes_apart : (p q : Phase) → Goes p ≡ Goes q → p ≡ q
goes_apart p q e = cc e

needs_never : (n : Need) → NoScatter (Goes (Needs n))
needs_never n io queue e = let p : Needs n ≡ Scatters io queue = goes_apart (Needs n) (Scatters io queue) e in cc p

either_never : (b : Bool) (t u : Turn) → NoScatter t → NoScatter u → NoScatter (if b then t else u)
either_never true t u x y = x
either_never false t u x y = y

either_moved : (b : Bool) (m n : Moved) → NoScatter m.turn → NoScatter n.turn → NoScatter (if b then m else n).turn
either_moved true m n x y = x
either_moved false m n x y = y

module _ (h : Held) (op : CallOp) where
  reads_on_never : (r : Span) (got : List Column) (timed : List TimedOut) (sent awaited : List Awaited) →
      NoScatter (reads_on h r got timed sent awaited).turn
  unfolding reads_on
  reads_on_never r got timed sent [] io queue e = cc e
  reads_on_never r got timed sent (a ∷ xs) io queue e =
      let p : Reads (record { awaited = a ∷ xs; got = got; timed = timed }) ≡ Scatters io queue = goes_apart _ _ e in cc p

  reads_never : (r : Span) (got : List Column) (timed : List TimedOut) (awaited : List Awaited) (o : Option (List ℕ)) →
      NoScatter (reads_unless h r got timed awaited o).turn
  reads_never r got timed awaited (Some ps) io queue e = cc e
  reads_never r got timed awaited None io queue e = reads_on_never r got timed _ _ io queue e

  probes_on_never : (got : List Column) (timed : List TimedOut) (sent awaited : List Awaited) →
      NoScatter (probes_on h got timed sent awaited).turn
  unfolding probes_on
  probes_on_never got timed sent [] io queue e = cc e
  probes_on_never got timed sent (a ∷ xs) io queue e =
      let p : Probes (record { awaited = a ∷ xs; got = got; timed = timed }) ≡ Scatters io queue = goes_apart _ _ e in cc p

  probes_never : (got : List Column) (timed : List TimedOut) (awaited : List Awaited) (o : Option ℕ) →
      NoScatter (probes_by h got timed awaited o).turn
  probes_never got timed awaited None io queue e = cc e
  probes_never got timed awaited (Some n) io queue e =
      either_moved (is_probe_lost h.map (outs h timed) _) _ _ (λ i q z. cc z) (probes_on_never got timed _ _) io queue e

  accounted_never : (timed : List TimedOut) → NoScatter (accounted op timed)
  accounted_never [] io queue e = cc e
  accounted_never (t ∷ ts) io queue e = needs_never _ io queue e

  written_never : (timed : List TimedOut) → NoScatter (written h op timed)
  unfolding written
  written_never timed io queue e =
      either_never (is_past_size h op) _ _ (needs_never _) (accounted_never timed) io queue e

  refused_never : (p : Phase) (a : Awaited) (q : Reply) → NoScatter (refused h p a q).turn
  unfolding refused
  refused_never p a q io queue e =
      either_moved (q.verdict == OTHER_TAG) (turned h (Forgets (refusal a q)))
      (turned h (closing (refusal a q) (refused_report h p a q))) (λ i z f. cc f) (needs_never _) io queue e

  -- ---- those that do

  record OnIs (timed : List TimedOut) (all : List Store) (sent : List Awaited) (io : Io) (queue : List Store) (m : Moved) : Type 0
    where
      timed_is : io.timed ≡ timed
      queue_is : queue ≡ all
      sent_is : m.sent ≡ sent
      held_is : m.held ≡ counted h sent

  on_is : (timed : List TimedOut) (all : List Store) (sent awaited : List Awaited) (io : Io) (queue : List Store) →
      (scatters_on h op timed all sent awaited).turn ≡ Goes (Scatters io queue) →
      OnIs timed all sent io queue (scatters_on h op timed all sent awaited)
  unfolding scatters_on
  on_is timed all sent [] io queue e = absurd (written_never timed io queue e)
  on_is timed all sent (a ∷ xs) io queue e =
      let r : Io = record { awaited = a ∷ xs; got = []; timed = timed } in
      let p : Scatters r all ≡ Scatters io queue = goes_apart (Scatters r all) (Scatters io queue) e in
      let i : r ≡ io = cc p in
      let q : all ≡ queue = cc p in
      record {
        timed_is = ap (λ (z : Io). z.timed) (sym i);
        queue_is = sym q;
        sent_is = refl;
        held_is = refl;
      }

  scatter_is : (got : List Column) (timed : List TimedOut) → GathersOn h op →
      MayScatter h.map (span_of op) (bytes_of op) got (outs h timed) → (io : Io) (queue : List Store) →
      (scatters h op got timed).turn ≡ Goes (Scatters io queue) → ScattersSo h op got io queue (scatters h op got timed)
  unfolding scatters
  scatter_is got timed on may io queue e =
      let all : List Store = stores h.map (span_of op) (bytes_of op) got (outs h timed) in
      let o = on_is timed (laters [] all) (write_commands h (firsts [] all)) (write_commands h (firsts [] all)) io queue e in
      let sent : List Awaited = (scatters_on h op timed (laters [] all) (write_commands h (firsts [] all))
      (write_commands h (firsts [] all))).sent in
      let same : outs h timed ≡ outs (counted h sent) io.timed =
      sym (counted_outs h sent timed) ∙ ap (outs (counted h sent)) (sym o.timed_is) in
      record {
        held = o.held_is ∙ ap (counted h) (sym o.sent_is);
        scattered = record {
          is = on.is;
          some = on.some;
          covers = on.covers;
          may = subst (λ (out : List ℕ). MayScatter h.map (span_of op) (bytes_of op) got out) same may;
          before = h;
          first = o.sent_is ∙ ap (λ (out : List ℕ). write_commands h (firsts [] (stores h.map (span_of op) (bytes_of op)
              got out))) same;
          rest = o.queue_is ∙ ap (λ (out : List ℕ). laters [] (stores h.map (span_of op) (bytes_of op) got out)) same;
        };
      }

  gather_is : (got : List Column) (timed : List TimedOut) (sent awaited : List Awaited) → GathersOn h op →
      IsGatherReady h.map (span_of op) (outs h timed) got awaited (nonce_at h (h.count + length sent)) → (io : Io)
      (queue : List Store) → (gathers_on h op got timed sent awaited).turn ≡ Goes (Scatters io queue) →
      ScattersSo h op got io queue (gathers_on h op got timed sent awaited)
  unfolding gathers_on
  gather_is got timed sent [] on x io queue e =
      scatter_is got timed on (record {
        checked = on.checked;
        long = on.some.long;
        can = x.can;
        fetched = gather.fetched h.map (span_of op) (outs h timed) got (nonce_at h (h.count + length sent)) x;
      }) io queue e
  gather_is got timed sent (a ∷ xs) on x io queue e =
      let p : Gathers (record { awaited = a ∷ xs; got = got; timed = timed }) ≡ Scatters io queue = goes_apart _ _ e in
      absurd (cc p)

  gathers_are : (got : List Column) (timed : List TimedOut) (awaited : List Awaited) → GathersOn h op →
      unwritable h.map (outs h timed) (stripes h.map (span_of op)) ≡ None → AreBelow (nonce_at h h.count) awaited → (io : Io)
      (queue : List Store) → (gathers h op got timed awaited).turn ≡ Goes (Scatters io queue) →
      ScattersSo h op got io queue (gathers h op got timed awaited)
  unfolding gathers
  gathers_are got timed awaited on can b io queue e =
      gather_is got timed (read_commands h (gathers_due h (span_of op) got timed awaited))
      (awaited ++ read_commands h (gathers_due h (span_of op) got timed awaited)) on
      (gather.ready_sent h (span_of op) got timed awaited on.some.some can b) io queue e

  begins_so : IsUsable h → HasBytes op → covers h op ≡ true → (io : Io) (queue : List Store) →
      (begins h op).turn ≡ Goes (Scatters io queue) → ScattersSo h op [] io queue (begins h op)
  unfolding begins probes reads
  begins_so u has cover io queue e =
      let c = covered h op cover in
      elim (cases_Bool (is_write op)) [
        | inl t ↦
            rw t (gathers_are [] [] [] (record {
              checked = u.checked;
              is = t;
              some = has.some t;
              covers = c;
            }) (begin_writable h op u t c) (record { differ = tt; below = λ a i. absurd i }) io queue (rw t at e))
        | inr f ↦ absurd (no_write (rw f at e))
      ]
    where
      no_write : (if (clipped h.size (span_of op)).length == 0 then probes h [] [] []
          else reads h (clipped h.size (span_of op)) [] [] []).turn ≡ Goes (Scatters io queue) → ⊥
      no_write z =
          either_moved ((clipped h.size (span_of op)).length == 0) _ _ (probes_never [] [] [] _) (reads_never _ [] [] [] _)
          io queue z

  -- ---- a reply

  pub record RepliesSo (p : Phase) (a : Awaited) (q : Reply) (io : Io) (queue : List Store) (m : Moved) : Type 0 where
    pub gathered : Io
    pub phase : p ≡ Gathers gathered
    pub performed : q.verdict ≡ PERFORMED
    pub scatters : ScattersSo h op (gathered.got ++ got_of a q ∷ []) io queue m

  performed_so : (p : Phase) (a : Awaited) (q : Reply) → IsUsable h → In a (awaited_in p) → IsFit h op p → is_scatter p ≡ false →
      q.verdict ≡ PERFORMED → (io : Io) (queue : List Store) → (performed h op p a q).turn ≡ Goes (Scatters io queue) →
      RepliesSo p a q io queue (performed h op p a q)
  performed_so (Gathers g) a q u i fit unsent v io queue e = record {
    gathered = g;
    phase = refl;
    performed = v;
    scatters = gather_is (g.got ++ got_of a q ∷ []) g.timed [] (others g.awaited a.command.nonce)
        (record { checked = u.checked; is = fit.is; some = fit.some; covers = fit.covers })
        (rw (gather.no_more h) at
        (gather.ready_replied h.map (span_of op) (outs h g.timed) g.got g.awaited a q (nonce_at h h.count) i fit.ready))
        io queue e;
  }
  performed_so (Reads g) a q u i fit unsent v io queue e = absurd (reads_on_never _ _ _ _ _ io queue e)
  performed_so (Probes g) a q u i fit unsent v io queue e = absurd (probes_on_never _ _ _ _ io queue e)
  performed_so (Scatters g rest) a q u i fit unsent v io queue e = absurd (cc unsent)
  performed_so Starts a q u i fit unsent v io queue e =
      let p : Starts ≡ Scatters io queue = goes_apart Starts (Scatters io queue) e in absurd (cc p)
  performed_so (Needs n) a q u i fit unsent v io queue e = absurd (needs_never n io queue e)
  performed_so (Waits n) a q u i fit unsent v io queue e =
      let p : Waits n ≡ Scatters io queue = goes_apart (Waits n) (Scatters io queue) e in absurd (cc p)

  pub replied_so : (p : Phase) (a : Awaited) (q : Reply) → IsUsable h → In a (awaited_in p) → IsFit h op p →
      is_scatter p ≡ false → (io : Io) (queue : List Store) → (replied h op p a q).turn ≡ Goes (Scatters io queue) →
      RepliesSo p a q io queue (replied h op p a q)
  unfolding replied
  replied_so p a q u i fit unsent io queue e = elim (cases_Bool (q.verdict == PERFORMED)) [
    | inl t ↦ rw t (performed_so p a q u i fit unsent (eqb-true q.verdict PERFORMED t) io queue (rw t at e))
    | inr f ↦ absurd (refused_never p a q io queue (rw f at e))
  ]

  -- a reply that comes to a scatter: it was performed
  pub replied_performed : (p : Phase) (a : Awaited) (q : Reply) (io : Io) (queue : List Store) →
      (replied h op p a q).turn ≡ Goes (Scatters io queue) → (q.verdict == PERFORMED) ≡ true
  unfolding replied
  replied_performed p a q io queue e = elim (cases_Bool (q.verdict == PERFORMED)) [
    | inl t ↦ t
    | inr f ↦ absurd (refused_never p a q io queue (rw f at e))
  ]

  -- ---- a timeout

  pub record TimesSo (p : Phase) (io : Io) (queue : List Store) (m : Moved) : Type 0 where
    pub gathered : Io
    pub phase : p ≡ Gathers gathered
    pub scatters : ScattersSo h op gathered.got io queue m

  gather_timed_so : (g : Io) (k : ℕ) (timed : List TimedOut) → IsUsable h → GathersFor h op g → (io : Io) (queue : List Store) →
      (gather_timed h op g k timed).turn ≡ Goes (Scatters io queue) → ScattersSo h op g.got io queue (gather_timed h op g k timed)
  unfolding gather_timed
  gather_timed_so g k timed u fit io queue e = elim (cases_Bool (is_too_short h op timed)) [
    | inl short ↦ absurd (ends_never (rw short at e))
    | inr enough ↦
        rw enough (gathers_are g.got timed (not_of k g.awaited)
        (record { checked = u.checked; is = fit.is; some = fit.some; covers = fit.covers }) (gather.long_enough h op timed enough)
        (gather.below_from _ _ (rest_below (nonce_at h h.count) k g.awaited (gather.below_to _ g.awaited fit.ready.nonces)))
        io queue (rw enough at e))
  ]
    where
      ends_never : {u : Outcome} → Ends u ≡ Goes (Scatters io queue) → ⊥
      ends_never z = cc z

  pub timed_so : (p : Phase) (k : ℕ) (a : Awaited) (xs : List Awaited) → IsUsable h → IsFit h op p → is_scatter p ≡ false →
      (io : Io) (queue : List Store) → (timed_out h op p k a xs).turn ≡ Goes (Scatters io queue) →
      TimesSo p io queue (timed_out h op p k a xs)
  unfolding reads probes
  timed_so (Gathers g) k a xs u fit unsent io queue e = record {
    gathered = g;
    phase = refl;
    scatters = gather_timed_so g k (timed_after g.timed a xs) u fit io queue e;
  }
  timed_so (Reads g) k a xs u fit unsent io queue e = absurd (reads_never _ _ _ _ _ io queue e)
  timed_so (Probes g) k a xs u fit unsent io queue e = absurd (probes_never _ _ _ _ io queue e)
  timed_so (Scatters g rest) k a xs u fit unsent io queue e = absurd (cc unsent)
  timed_so Starts k a xs u fit unsent io queue e =
      let p : Starts ≡ Scatters io queue = goes_apart Starts (Scatters io queue) e in absurd (cc p)
  timed_so (Needs n) k a xs u fit unsent io queue e = absurd (needs_never n io queue e)
  timed_so (Waits n) k a xs u fit unsent io queue e =
      let p : Waits n ≡ Scatters io queue = goes_apart (Waits n) (Scatters io queue) e in absurd (cc p)

-- ---- in the middle of a turn

-- the plan is of bytes that come from this source
pub record PlanOf (Source : List Column → Type 0) (op : CallOp) (h : Held) (io : Io) (queue : List Store) (cs : List Awaited) :
    Type 0
  where
    pub got : List Column
    pub source : Source got
    pub scattered : Scattered h op got io queue cs

-- so it is of a call on the file that has come to its scatter and sends something
abbrev pub HasPlan : (file : ℕ) → (List Column → Type 0) → Done → Type 0
HasPlan file Source d =
    (call : Call) (io : Io) (queue : List Store) (h : Held) → d.client.call ≡ Some call → call.phase ≡ Scatters io queue →
    (file_of call.op == file) ≡ true → held_of d.client.held (file_of call.op) ≡ Some h → Awaiting d.commands →
    PlanOf Source call.op h io queue d.commands

-- a move of the call that comes to its scatter so
abbrev pub MovesSo : (file : ℕ) → (List Column → Type 0) → Held → CallOp → Moved → Type 0
MovesSo file Source h op m =
    (io : Io) (queue : List Store) → (file_of op == file) ≡ true → m.turn ≡ Goes (Scatters io queue) →
    (got : List Column) × Source got × ScattersSo h op got io queue m

pub moved_plan : (file : ℕ) (Source : List Column → Type 0) (d : Done) (op : CallOp) (h : Held) (m : Moved) →
    held_of d.client.held (file_of op) ≡ Some h → MovesSo file Source h op m → HasPlan file Source (moved d op m)
moved_plan file Source d op h m held so = by_turn_is m.turn refl
  where
    by_turn_is : (t : Turn) → m.turn ≡ t →
        HasPlan file Source (by_turn (record (with_held d m.held) { commands = m.sent }) op t)
    by_turn_is (Goes p) e call io queue k is phase here there some =
        let first : Call = record { op = op; phase = p } in
        let same : first ≡ call = cc is in
        let op_is : op ≡ call.op = ap (λ (z : Call). z.op) same in
        let p_is : p ≡ Scatters io queue = ap (λ (z : Call). z.phase) same ∙ phase in
        let r = so io queue (ap (λ (o : CallOp). file_of o == file) op_is ∙ here) (e ∙ ap (λ (z : Phase). Goes z) p_is) in
        let kept : m.held.file ≡ file_of op =
        ap (λ (z : Held). z.file) r.2.held ∙ held_file d.client.held (file_of op) h held in
        let put : held_of (put_held d.client.held m.held) (file_of op) ≡ Some m.held =
        put_at d.client.held m.held (file_of op) kept in
        let one : Some k ≡ Some m.held =
        sym there ∙ ap (λ (o : CallOp). held_of (put_held d.client.held m.held) (file_of o)) (sym op_is) ∙ put in
        let k_is : k ≡ m.held = cc one in
        let last : counted h m.sent ≡ k = sym r.2.held ∙ sym k_is in
        subst (λ (o : CallOp). PlanOf Source o k io queue m.sent) op_is
        (subst (λ (z : Held). PlanOf Source op z io queue m.sent) last
        (record { got = r.0; source = r.1; scattered = r.2.scattered }))
    by_turn_is (Ends u) e call io queue k is phase here there some = absurd (cc is)
    by_turn_is (Forgets u) e call io queue k is phase here there some = absurd (cc is)

-- where nothing was sent there is nothing to show
pub none_plan : (file : ℕ) (Source : List Column → Type 0) (d : Done) → d.commands ≡ [] → HasPlan file Source d
none_plan file Source d none call io queue h is phase here there some = absurd (subst Awaiting none some)

-- the begin of a call has got nothing
pub begun_plan : (file : ℕ) (Source : List Column → Type 0) (d : Done) → Source [] → FineDone Any d → HasPlan file Source d →
    HasPlan file Source (begun d)
begun_plan file Source d nothing fine stays = each_begin d (HasPlan file Source) (record {
  stays = stays;
  needs = λ op n is out first call io queue h at phase here there some.
      (let first : Call = record { op = op; phase = Needs n } in
      let same : first ≡ call = cc at in
      let p : Needs n ≡ Scatters io queue = ap (λ (z : Call). z.phase) same ∙ phase in
      absurd (cc p));
  begun = λ op h is held cover.
      moved_plan file Source d op h (begins h op) held
      (λ io queue here e. (
        [],
        nothing,
        begins_so h op (fine.usable (file_of op) h held)
            (call_bytes d.client.held d.client.call (record { op = op; phase = Starts }) is fine.call) cover io queue e,
      ));
})
