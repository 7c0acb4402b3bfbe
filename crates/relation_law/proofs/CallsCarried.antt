-- A client's request is carried out: with the answer that its slot keeps then, the machine has of the client what it has.
-- Towards `CallsGoOn` (`specs/Steps.antt`).
use Rattle.std.proofs.Common.{◌≡◌, ◌==◌, ◌&&◌, ℕ, ◌+◌, ◌*◌, ◌<◌, ◌≤◌, max, Bool, true, false, List, Option, Some, None, refl, sym, ap, subst, ◌∙◌, arith}
use Rattle.std.proofs.lemmas.Bool.{true≢false}
use Rattle.data_map.specs.declared.check.RawMap.{RawMap}
use Rattle.layout_ops.specs.declared.messages.Answer.{Answer}
use Rattle.layout_ops.specs.declared.statuses.TheConstants.{NFS4_OK}
use Rattle.client_rules.specs.declared.limits.TheConstants.{NONCES}
use Rattle.client_rules.specs.Answers.{is_loss_taken}
use Rattle.client_rules.specs.Calls.{file_of}
use Rattle.client_rules.specs.Grants.{held_of}
use Rattle.client_rules.specs.Results.{status_of}
use Rattle.world_history.specs.ClientNames.{Client, Call, CallOp, TimedOut, First, Get, Commit, Report, Close, Phase, Starts, Needs, Waits, Reads, Probes, Gathers, Scatters}
use Rattle.fence_law.specs.State.{State, Grant}
use Rattle.fence_law.specs.State.{Event as event}
use Rattle.fence_law.specs.Machine.{after}
use Rattle.file_simulation.specs.Calls.{IsClient, HoldsReported, HoldsNone, HeldIs, CallIs, CallOn, CallAt, WaitsCommit, IsReporting, reports_on, waits_report}
use Rattle.relation_law.specs.CallsFrames.{IsCarried}
use Rattle.relation_law.proofs.CallsSpared.{held_spared, call_spared}
use Rattle.relation_law.proofs.CallsMid.{held_plain, held_as}
use Rattle.relation_law.proofs.CallsServed.{grants_carried, grants_fresh, commit_done, commit_refused, report_taken, taken_left, leaves_none}

-- ---- a phase for which the answer doesn't matter

-- the call waits for no commit, and for no answer to a report
abbrev pub IsEven : Phase → Type 0
IsEven (Waits (Commit timed)) = ⊥
IsEven (Waits (Report timed)) = ⊥
IsEven p = Unit {0}

abbrev pub IsEvenCall : (file : ℕ) → Option Call → Type 0
IsEvenCall file z = (call : Call) → z ≡ Some call → (file_of call.op == file) ≡ true → IsEven call.phase

phase_even : (m : RawMap) (s : State) (c : ℕ) (op : CallOp) (o q : Option Answer) (p : Phase) → IsEven p →
    CallIs m s c op o p → CallIs m s c op q p
phase_even m s c op o q Starts e w = w
phase_even m s c op o q (Needs n) e w = w
phase_even m s c op o q (Reads io) e w = w
phase_even m s c op o q (Probes io) e w = w
phase_even m s c op o q (Gathers io) e w = w
phase_even m s c op o q (Scatters io queue) e w = w
phase_even m s c op o q (Waits First) e w = w
phase_even m s c op o q (Waits (Get tries)) e w = w
phase_even m s c op o q (Waits (Close u report)) e w = w
phase_even m s c op o q (Waits (Commit timed)) e w = absurd e
phase_even m s c op o q (Waits (Report timed)) e w = absurd e

plain_even : (b : Bool) (p : Phase) → IsEven p → (b && waits_report p) ≡ false
plain_even false p e = refl
plain_even true Starts e = refl
plain_even true (Needs n) e = refl
plain_even true (Reads io) e = refl
plain_even true (Probes io) e = refl
plain_even true (Gathers io) e = refl
plain_even true (Scatters io queue) e = refl
plain_even true (Waits First) e = refl
plain_even true (Waits (Get tries)) e = refl
plain_even true (Waits (Close u report)) e = refl
plain_even true (Waits (Commit timed)) e = refl
plain_even true (Waits (Report timed)) e = absurd e

module _ (file : ℕ) (m : RawMap) (c : ℕ) (s : State) (x : Client) where
  quiet_even : (z : Option Call) → IsEvenCall file z → reports_on file z ≡ false
  quiet_even None e = refl
  quiet_even (Some call) e = by_here (file_of call.op == file) refl
    where
      by_here : (b : Bool) → (file_of call.op == file) ≡ b → (file_of call.op == file && waits_report call.phase) ≡ false
      by_here true h = plain_even (file_of call.op == file) call.phase (e call refl h)
      by_here false h = rw h refl

  on_even : (b : Bool) (call : Call) (o q : Option Answer) → (b ≡ true → IsEven call.phase) → CallOn b m s c call o →
      CallOn b m s c call q
  on_even true call o q e w = phase_even m s c call.op o q call.phase (e refl) w
  on_even false call o q e w = w

  at_even : (z : Option Call) (o q : Option Answer) → IsEvenCall file z → CallAt file m s c o z → CallAt file m s c q z
  at_even None o q e w = w
  at_even (Some call) o q e w = on_even (file_of call.op == file) call o q (e call refl) w

  -- whatever is answered, the machine has the same of the client
  pub client_even : (o q : Option Answer) → IsEvenCall file x.call → IsClient file m s c x o → IsClient file m s c x q
  client_even o q e k = record {
    held = held_plain file m s c x x o q (held_of x.held file) (quiet_even x.call e) (quiet_even x.call e) k.held;
    call = at_even x.call o q e k.call;
    fresh = k.fresh;
    used = k.used;
  }

  -- ---- a grant

  pub client_granted : (o : Option Answer) (number : ℕ) (rw_ : Bool) (range : ℕ → Bool) (extending : Bool) → s.next ≤ number →
      IsClient file m s c x o → IsClient file m (after s (event.Grants c number rw_ range extending)) c x o
  client_granted o number rw_ range extending new k =
      let t : State = after s (event.Grants c number rw_ range extending) in
      let b : IsCarried s t c = grants_carried s c number rw_ range extending new in
      record {
        held = held_spared s t c b file m x o (held_of x.held file) k.held;
        call = call_spared s t c b file m o x.call k.call;
        fresh = grants_fresh s c number rw_ range extending new k.used k.fresh;
        used = below k.used;
      }
    where
      below : s.nonce c < s.next * NONCES → s.nonce c < (number + 1) * NONCES
      below low = omega (arith, new, low)

  -- ---- a commit

  module _ (op : CallOp) (timed : List TimedOut) (is : x.call ≡ Some (record { op = op; phase = Waits (Commit timed) }))
      (here : (file_of op == file) ≡ true) (k : IsClient file m s c x None) (a : Answer) where
    pub waits_is : (j : ℕ) × WaitsCommit s c op timed None j
    waits_is = at_here (file_of op == file) here (subst (λ z. CallAt file m s c None z) is k.call)
      where
        at_here : (b : Bool) → b ≡ true → CallOn b m s c (record { op = op; phase = Waits (Commit timed) }) None →
            (j : ℕ) × WaitsCommit s c op timed None j
        at_here true e w = w
        at_here false e w = absurd (true≢false (sym e))

    plain_commit : reports_on file x.call ≡ false
    plain_commit = ap (reports_on file) is ∙ no_report (file_of op == file)
      where
        no_report : (b : Bool) → (b && false) ≡ false
        no_report true = refl
        no_report false = refl

    commit_held : (t : State) → t.held c ≡ s.held c → t.known_size c ≡ s.known_size c → t.nonce c ≡ s.nonce c →
        HeldIs file m t c x (Some a) (held_of x.held file)
    commit_held t e f g = held_as file m s t c x (Some a) (held_of x.held file) e f g
        (held_plain file m s c x x None (Some a) (held_of x.held file) plain_commit plain_commit k.held)

    -- it is carried out
    pub client_committed : (g : Grant) → status_of a.results ≡ NFS4_OK →
        a.size ≡ max (s.known_size c) (s.start waits_is.0).end_ →
        IsClient file m (after s (event.Commits c waits_is.0 g)) c x (Some a)
    client_committed g ok size =
        let t : State = after s (event.Commits c waits_is.0 g) in
        let call_at : (j : ℕ) → WaitsCommit s c op timed None j → a.size ≡ max (s.known_size c) (s.start j).end_
        → CallAt file m (after s (event.Commits c j g)) c (Some a) x.call = λ j w z.
        rw (is, here) (j, commit_done s c op timed j g a w ok z) in
        record {
          held = commit_held t refl refl refl;
          call = call_at waits_is.0 waits_is.1 size;
          fresh = k.fresh;
          used = k.used;
        }

    -- or refused
    pub client_uncommitted : (status_of a.results ≡ NFS4_OK → ⊥) →
        IsClient file m (after s (event.RefusesCommit c waits_is.0)) c x (Some a)
    client_uncommitted no_ =
        let t : State = after s (event.RefusesCommit c waits_is.0) in
        let call_at : (j : ℕ) → WaitsCommit s c op timed None j
        → CallAt file m (after s (event.RefusesCommit c j)) c (Some a) x.call = λ j w.
        rw (is, here) (j, commit_refused s c op timed j a w no_) in
        record {
          held = commit_held t refl refl refl;
          call = call_at waits_is.0 waits_is.1;
          fresh = k.fresh;
          used = k.used;
        }

  -- ---- a report

  module _ (op : CallOp) (timed : List TimedOut) (is : x.call ≡ Some (record { op = op; phase = Waits (Report timed) }))
      (here : (file_of op == file) ≡ true) (gone : held_of x.held file ≡ None) (k : IsClient file m s c x None) (a : Answer)
    where
      pub reporting_is : (j : ℕ) × IsReporting s c op timed j
      reporting_is = at_here (file_of op == file) here (subst (λ z. CallAt file m s c None z) is k.call)
        where
          at_here : (b : Bool) → b ≡ true → CallOn b m s c (record { op = op; phase = Waits (Report timed) }) None →
              (j : ℕ) × IsReporting s c op timed j
          at_here true e w = w
          at_here false e w = absurd (true≢false (sym e))

      pub still_held : HoldsReported s c x.outstanding
      still_held = at_here (file_of op == file) here
          (subst (λ z. HoldsNone s c x.outstanding (reports_on file z && true)) is
          (subst (λ q. HeldIs file m s c x None q) gone k.held))
        where
          at_here : (b : Bool) → b ≡ true → HoldsNone s c x.outstanding ((b && true) && true) → HoldsReported s c x.outstanding
          at_here true e w = w
          at_here false e w = absurd (true≢false (sym e))

      -- it isn't taken as a loss
      pub client_untaken : is_loss_taken a ≡ false → IsClient file m s c x (Some a)
      client_untaken e = record {
        held = rw (gone, is, here, e) still_held;
        call = rw (is, here, e) reporting_is;
        fresh = k.fresh;
        used = k.used;
      }

      -- it is: the write is acknowledged, and the client leaves its grant
      pub client_taken : is_loss_taken a ≡ true →
          IsClient file m (after (after s (event.Acknowledges c reporting_is.0)) (event.Leaves c still_held.grant)) c x (Some a)
      client_taken e =
          let behind : ℕ → Grant → State = λ j z. after (after s (event.Acknowledges c j)) (event.Leaves c z) in
          let held_at : (j : ℕ) (z : Grant) → HeldIs file m (behind j z) c x (Some a) (held_of x.held file) = λ j z.
          rw (gone, is, here, e) (leaves_none (after s (event.Acknowledges c j)) c z) in
          let call_at : (j : ℕ) (z : Grant) → IsReporting s c op timed j → CallAt file m (behind j z) c (Some a) x.call =
          λ j z r.
          rw (is, here, e) (j, taken_left (after s (event.Acknowledges c j)) c op j z (report_taken s c op timed j r)) in
          record {
            held = held_at reporting_is.0 still_held.grant;
            call = call_at reporting_is.0 still_held.grant reporting_is.1;
            fresh = k.fresh;
            used = k.used;
          }
