-- What the relation says of a client stays, if the machine keeps what it has of the client.
-- Towards `CallsGoOn` (`specs/Steps.antt`).
use Rattle.std.proofs.Common.{◌≡◌, ℕ, ◌*◌, ◌<◌, ◌≤◌, ◌==◌, ◌&&◌, not, Bool, true, false, List, [], ◌∷◌, Option, Some, None, sym, ap, subst, ◌∙◌, inl, inr, arith}
use Rattle.data_map.specs.declared.check.RawMap.{RawMap}
use Rattle.layout_ops.specs.declared.messages.Answer.{Answer}
use Rattle.client_rules.specs.declared.limits.TheConstants.{NONCES}
use Rattle.client_rules.specs.Calls.{file_of}
use Rattle.client_rules.specs.Grants.{held_of}
use Rattle.world_history.specs.ClientNames.{Client, Call, CallOp, Held, Request, Awaited, TimedOut, Store, Io, Need, First, Get, Commit, Report, Close, Phase, Starts, Needs, Waits, Reads, Probes, Gathers, Scatters}
use Rattle.fence_law.specs.Words.{In as InRun}
use Rattle.fence_law.specs.State.{State, Grant, Start, PartState}
use Rattle.fence_law.specs.State as machine
use Rattle.file_simulation.specs.Calls.{IsOfGrant, IsRunning, IsReading, IsGathering, IsWriteOf, IsOver, AreOut, CarriesContent, IsWriting, IsScattering, Fits, NeedsCommit, CommittedAs, WaitsCommit, IsReporting, IsTaken, ReportIs, IsIdle, IsBroken, NeedIs, WaitIs, CallIs, CallOn, CallAt, HoldsNone, HeldIs, IsClient, is_taken, reports_on}
use Rattle.relation_law.specs.CallsFrames.{IsSpared, IsCarried}

module _ (s t : State) (c : ℕ) (k : IsCarried s t c) where
  -- ---- entries

  pub running_spared : (j : ℕ) → IsRunning s c j → IsRunning t c j
  running_spared j r = record {
    below = omega (arith, r.below, k.count);
    client = ap (λ (x : Start). x.client) (k.start j r.below) ∙ r.client;
    under = λ x e. subst (λ y. IsOfGrant y x) (sym (k.start j r.below)) (r.under x (sym k.held ∙ e));
    unfinished = k.acknowledged j r.below r.client ∙ r.unfinished;
  }

  pub write_spared : (op : CallOp) (j : ℕ) → j < s.count → IsWriteOf s op j → IsWriteOf t op j
  write_spared op j low w = let e = sym (k.start j low) in record {
    write = subst (λ (x : Start). x.is_write ≡ true) e w.write;
    bytes = λ p. ap (λ (x : Start). x.data_at p) (sym e) ∙ w.bytes p;
    past = ap (λ (x : Start). x.end_) (sym e) ∙ w.past;
    listed = λ q z v. subst (λ (x : Start). x.content q z ≡ Some v → x.left q ≡ false) e (w.listed q z v);
  }

  over_spared : (j : ℕ) (timed : List TimedOut) (q i : ℕ) → j < s.count → IsOver s c j timed q i → IsOver t c j timed q i
  over_spared j timed q i low o = elim o [
    | inl done ↦ inl (ap (λ (f : ℕ → ℕ → PartState). f q i) k.out ∙ done)
    | inr (inl left) ↦ inr (inl (ap (λ (x : Start). x.left q) (k.start j low) ∙ left))
    | inr (inr timed) ↦ inr (inr timed)
  ]

  pub out_spared : (j : ℕ) (awaited : List Awaited) (queue : List Store) (timed : List TimedOut) → j < s.count →
      AreOut s c j awaited queue timed → AreOut t c j awaited queue timed
  out_spared j awaited queue timed low o = record {
    sent = λ a i. ap (λ (f : ℕ → ℕ → PartState). f a.ask.component a.ask.offset) k.out ∙ o.sent a i;
    queued = λ q i. ap (λ (f : ℕ → ℕ → PartState). f q.ask.component q.ask.offset) k.out ∙ o.queued q i;
    others = λ q z v e.
        let part : (t.start j).part q z ≡ (s.start j).part q z = ap (λ (x : Start). x.part q z) (k.start j low) in
        elim (o.others q z v (sym (ap (λ (x : Start). x.content q z) (k.start j low)) ∙ e)) [
          | inl a ↦ inl (a.0, a.1, a.2, a.3 ∙ sym part)
          | inr (inl a) ↦ inr (inl (a.0, a.1, a.2, a.3 ∙ sym part))
          | inr (inr a) ↦ inr (inr (rw part (over_spared j timed q ((s.start j).part q z) low a)))
        ];
    known = λ q i v e. o.known q i v (sym (ap (λ (f : ℕ → ℕ → PartState). f q i) k.out) ∙ e);
  }

  content_spared : (j : ℕ) (q : Store) → j < s.count → CarriesContent (s.start j) q → CarriesContent (t.start j) q
  content_spared j q low x = subst (λ y. CarriesContent y q) (sym (k.start j low)) x

  -- ---- phases

  pub reading_spared : (op : CallOp) (j : ℕ) → IsReading s c op j → IsReading t c op j
  reading_spared op j r = let e = k.start j r.running.below in record {
    at_ = k.call ∙ r.at_;
    commit = k.commit ∙ r.commit;
    running = running_spared j r.running;
    first = ap (λ (x : Start). x.from_) e ∙ r.first;
    past = ap (λ (x : Start). x.to_) e ∙ r.past;
    clip = ap (λ (x : Start). x.clip) e ∙ r.clip ∙ sym k.size;
  }

  pub gathering_spared : (m : RawMap) (op : CallOp) (j : ℕ) → IsGathering m s c op j → IsGathering m t c op j
  gathering_spared m op j r = record {
    at_ = k.call ∙ r.at_;
    commit = k.commit ∙ r.commit;
    running = running_spared j r.running;
    reach = λ x e. ap (λ (y : Start). y.reach x) (k.start j r.running.below) ∙ r.reach x e;
  }

  pub writing_spared : (op : CallOp) (what : machine.Commit) (j : ℕ) → IsWriting s c op what j →
      IsWriting t c op what j
  writing_spared op what j w = record {
    at_ = k.call ∙ w.at_;
    commit_is = k.commit ∙ w.commit_is;
    running = running_spared j w.running;
    write = write_spared op j w.running.below w.write;
    last = k.last ∙ w.last;
  }

  pub scattering_spared : (op : CallOp) (io : Io) (queue : List Store) (j : ℕ) → IsScattering s c op io queue j →
      IsScattering t c op io queue j
  scattering_spared op io queue j w = let low = w.writing.running.below in record {
    writing = writing_spared op _ j w.writing;
    clip = ap (λ (x : Start). x.clip) (k.start j low) ∙ w.clip ∙ sym k.size;
    out = out_spared j _ _ _ low w.out;
    content = λ q i. content_spared j q low (w.content q i);
    differ = w.differ;
  }

  pub fits_spared : (j : ℕ) → j < s.count → Fits s j → Fits t j
  fits_spared j low f = elim f [
    | inl fits ↦ inl (subst (λ (x : Start). x.end_ ≤ x.clip) (sym (k.start j low)) fits)
    | inr on ↦ inr (k.committed j low on)
  ]

  pub needs_commit_spared : (op : CallOp) (timed : List TimedOut) (j : ℕ) → NeedsCommit s c op timed j →
      NeedsCommit t c op timed j
  needs_commit_spared op timed j w = record {
    writing = writing_spared op _ j w.writing;
    out = out_spared j _ _ _ w.writing.running.below w.out;
  }

  committed_spared : (j : ℕ) (o : Option Answer) → j < s.count → CommittedAs s c j o → CommittedAs t c j o
  committed_spared j None low x = tt
  committed_spared j (Some a) low x = λ ok. let y = x ok in (
    rw (k.size, ap (λ (x : Start). x.end_) (k.start j low)) y.0,
    k.committed j low y.1,
  )

  pub waits_commit_spared : (op : CallOp) (timed : List TimedOut) (o : Option Answer) (j : ℕ) → WaitsCommit s c op timed o j →
      WaitsCommit t c op timed o j
  waits_commit_spared op timed o j w = let low = w.writing.running.below in record {
    writing = writing_spared op _ j w.writing;
    out = out_spared j _ _ _ low w.out;
    committed = committed_spared j o low w.committed;
  }

  pub reporting_spared : (op : CallOp) (timed : List TimedOut) (j : ℕ) → IsReporting s c op timed j →
      IsReporting t c op timed j
  reporting_spared op timed j w = let low = w.writing.running.below in record {
    writing = writing_spared op _ j w.writing;
    out = out_spared j _ _ _ low w.out;
    fits = fits_spared j low w.fits;
  }

  pub taken_spared : (op : CallOp) (j : ℕ) → IsTaken s c op j → IsTaken t c op j
  taken_spared op j w = record {
    at_ = k.call ∙ w.at_;
    commit = k.commit ∙ w.commit;
    below = omega (arith, w.below, k.count);
    client = ap (λ (x : Start). x.client) (k.start j w.below) ∙ w.client;
    write = write_spared op j w.below w.write;
    last = k.last ∙ w.last;
    acknowledged = k.acknowledged j w.below w.client ∙ w.acknowledged;
  }

  report_spared : (op : CallOp) (timed : List TimedOut) (b : Bool) (j : ℕ) → ReportIs s c op timed b j →
      ReportIs t c op timed b j
  report_spared op timed false j w = reporting_spared op timed j w
  report_spared op timed true j w = taken_spared op j w

  pub idle_spared : IsIdle s c → IsIdle t c
  idle_spared w = record { at_ = k.call ∙ w.at_; commit = k.commit ∙ w.commit }

  pub broken_spared : IsBroken s c → IsBroken t c
  broken_spared w = record { at_ = k.call ∙ w.at_; commit = k.commit ∙ w.commit }

  need_spared : (op : CallOp) (n : Need) → NeedIs s c op n → NeedIs t c op n
  need_spared op First w = idle_spared w
  need_spared op (Get tries) w = idle_spared w
  need_spared op (Commit timed) w = (w.0, needs_commit_spared op timed w.0 w.1)
  need_spared op (Report timed) w = (w.0, reporting_spared op timed w.0 w.1)
  need_spared op (Close outcome []) w = idle_spared w
  need_spared op (Close outcome (e ∷ es)) w = broken_spared w

  wait_spared : (op : CallOp) (o : Option Answer) (n : Need) → WaitIs s c op o n → WaitIs t c op o n
  wait_spared op o First w = idle_spared w
  wait_spared op o (Get tries) w = idle_spared w
  wait_spared op o (Commit timed) w = (w.0, waits_commit_spared op timed o w.0 w.1)
  wait_spared op o (Report timed) w = (w.0, report_spared op timed (is_taken o) w.0 w.1)
  wait_spared op o (Close outcome report) w = idle_spared w

  pub phase_spared : (m : RawMap) (op : CallOp) (o : Option Answer) (p : Phase) → CallIs m s c op o p → CallIs m t c op o p
  phase_spared m op o Starts w = idle_spared w
  phase_spared m op o (Needs need) w = need_spared op need w
  phase_spared m op o (Waits need) w = wait_spared op o need w
  phase_spared m op o (Reads io) w = (w.0, reading_spared op w.0 w.1)
  phase_spared m op o (Probes io) w = (w.0, reading_spared op w.0 w.1)
  phase_spared m op o (Gathers io) w = (w.0, gathering_spared m op w.0 w.1)
  phase_spared m op o (Scatters io queue) w = (w.0, scattering_spared op io queue w.0 w.1)

  on_spared : (m : RawMap) (here : Bool) (call : Call) (o : Option Answer) → CallOn here m s c call o →
      CallOn here m t c call o
  on_spared m true call o w = phase_spared m call.op o call.phase w
  on_spared m false call o w = idle_spared w

  pub call_spared : (file : ℕ) (m : RawMap) (o : Option Answer) (call : Option Call) → CallAt file m s c o call →
      CallAt file m t c o call
  call_spared file m o None w = idle_spared w
  call_spared file m o (Some call) w = on_spared m (file_of call.op == file) call o w

  -- ---- the grant

  none_spared : (o : Option Request) (b : Bool) → HoldsNone s c o b → HoldsNone t c o b
  none_spared o true w = record { grant = w.grant; held = k.held ∙ w.held; returned = w.returned }
  none_spared o false w = k.held ∙ w

  pub held_spared : (file : ℕ) (m : RawMap) (x : Client) (o : Option Answer) (h : Option Held) → HeldIs file m s c x o h →
      HeldIs file m t c x o h
  held_spared file m x o None w = none_spared x.outstanding (reports_on file x.call && not (is_taken o)) w
  held_spared file m x o (Some h) w = record {
    grant = w.grant;
    held = k.held ∙ w.held;
    same = w.same;
    size = k.size ∙ w.size;
    nonce = rw k.nonce w.nonce;
  }

  pub used_spared : s.nonce c < s.next * NONCES → t.nonce c < t.next * NONCES
  used_spared low = rw k.nonce (more (s.nonce c) s.next t.next k.next low)
    where
      more : (v n m : ℕ) → n ≤ m → v < n * NONCES → v < m * NONCES
      more v n m le low = omega (arith, le, low)

-- ---- a client

pub carried : (s t : State) (c : ℕ) → IsSpared s t c → IsCarried s t c
carried s t c k = record {
  held = k.held;
  size = k.size;
  nonce = k.nonce;
  call = k.call;
  commit = k.commit;
  out = k.out;
  next = k.next;
  count = k.count;
  start = k.start;
  last = k.last;
  acknowledged = k.acknowledged;
  committed = k.committed;
}

pub fresh_spared : (s t : State) (c : ℕ) → IsSpared s t c →
    ((g : Grant) (size : ℕ) → s.waiting c ≡ true →
    InRun (record { client = c; sequence = s.sequence c; grant = Some g; size = size }) s.answers →
    s.nonce c < g.number * NONCES) →
    (g : Grant) (size : ℕ) → t.waiting c ≡ true →
    InRun (record { client = c; sequence = t.sequence c; grant = Some g; size = size }) t.answers →
    t.nonce c < g.number * NONCES
fresh_spared s t c k f g size e i = rw k.nonce (f g size (sym k.waiting ∙ e)
    (k.answers g size (subst
    (λ n. InRun (record { client = c; sequence = n; grant = Some g; size = size }) t.answers) k.sequence i)))

pub client_spared : (s t : State) (c : ℕ) → IsSpared s t c → (file : ℕ) (m : RawMap) (x : Client) (o : Option Answer) →
    IsClient file m s c x o → IsClient file m t c x o
client_spared s t c k file m x o w = let j = carried s t c k in record {
  held = held_spared s t c j file m x o (held_of x.held file) w.held;
  call = call_spared s t c j file m o x.call w.call;
  fresh = fresh_spared s t c k w.fresh;
  used = used_spared s t c j w.used;
}
