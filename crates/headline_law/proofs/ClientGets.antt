-- A call that needs a layout in its turn holds none on its file.
use Rattle.std.proofs.Common.{◌≡◌, ◌==◌, ℕ, Bool, true, false, List, [], ◌∷◌, Option, Some, None, Result, Ok, Err, refl, sym, ap, subst, ◌∙◌, inl, inr, if◌then◌else◌}
use Rattle.std.proofs.lemmas.Bool.{cases_Bool}
use Rattle.layout_ops.specs.declared.messages.Answer.{Answer}
use Rattle.layout_ops.specs.declared.statuses.TheConstants.{NFS4_OK, NFS4ERR_BADLAYOUT}
use Rattle.client_rules.specs.Writes.{accounted}
use Rattle.client_rules.specs.Answers.{committed, not_committed, not_granted, on_commit, on_report}
use Rattle.client_rules.specs.Calls.{file_of}
use Rattle.client_rules.specs.Going.{begins, begun, by_turn, forgotten, moved, over, phased, quiet, starts_at, starts_call, starts_under, starts_with, with_held}
use Rattle.client_rules.specs.Grants.{covers, held_of}
use Rattle.client_rules.specs.Layouts.{taken}
use Rattle.client_rules.specs.Messages.{answered_get, commit_under, on_call, on_need, on_phase}
use Rattle.client_rules.specs.Results.{status_of}
use Rattle.client_rules.specs.Turns.{turned}
use Rattle.world_history.specs.ClientNames.{Client, Call, CallOp, Done, Held, Moved, BadLayout, Need, First, Get, Commit, Report, Close, Phase, Starts, Needs, Waits, Reads, Probes, Gathers, Scatters, Request, Status, TimedOut, Turn, Goes, Ends, Forgets, Why}
use Rattle.exchange_law.specs.Calls.{CallFine, Knows, PhaseFine}
use Rattle.exchange_law.proofs.HeldMoving.{MoveFine, begins_fine}
use Rattle.exchange_law.proofs.PlaceMoving.{covered}

-- so is it of this client
abbrev pub NoneForGet : Client → Type 0
NoneForGet y =
    (p : CallOp) (tries : ℕ) → y.call ≡ Some (record { op = p; phase = Needs (Get tries) }) → held_of y.held (file_of p) ≡ None

-- its call comes to this phase
in_phase : (y : Client) (op : CallOp) (p : Phase) → y.call ≡ Some (record { op = op; phase = p }) →
    ((tries : ℕ) → p ≡ Needs (Get tries) → held_of y.held (file_of op) ≡ None) → NoneForGet y
in_phase y op p is none q tries e =
    let same = same_call (record { op = op; phase = p }) (record { op = q; phase = Needs (Get tries) }) (sym is ∙ e) in
    subst (λ (o : CallOp). held_of y.held (file_of o) ≡ None) (ap (λ (z : Call). z.op) same)
    (none tries (ap (λ (z : Call). z.phase) same))
  where
    same_call : (a b : Call) → Some a ≡ Some b → a ≡ b
    same_call a b q = cc q

no_call : (y : Client) → y.call ≡ None → NoneForGet y
no_call y none p tries e = absurd (cc (sym none ∙ e))

waits_never : (n : Need) (tries : ℕ) → Waits n ≡ Needs (Get tries) → ⊥
waits_never n tries e = cc e

-- a call that begins
pub starting : (y : Client) (op : CallOp) → y.call ≡ Some (record { op = op; phase = Starts }) → NoneForGet y
starting y op is = in_phase y op Starts is (λ tries e. absurd (never tries e))
  where
    never : (tries : ℕ) → Starts ≡ Needs (Get tries) → ⊥
    never tries e = cc e

-- ---- dealings with the drives

goes_same : (p q : Phase) → Goes p ≡ Goes q → p ≡ q
goes_same p q e = cc e

moved_other : (d : Done) (op : CallOp) (m : Moved) → ((tries : ℕ) → m.turn ≡ Goes (Needs (Get tries)) → ⊥) →
    NoneForGet (moved d op m).client
moved_other d op m other = by_turn_is m.turn refl
  where
    by_turn_is : (t : Turn) → m.turn ≡ t → NoneForGet (by_turn (record (with_held d m.held) { commands = m.sent }) op t).client
    by_turn_is (Goes p) e =
        in_phase (phased (record (with_held d m.held) { commands = m.sent }) op p).client op p refl
        (λ tries is. absurd (other tries (e ∙ ap (λ (z : Phase). Goes z) is)))
    by_turn_is (Ends u) e = no_call (over (record (with_held d m.held) { commands = m.sent }) u).client refl
    by_turn_is (Forgets u) e =
        no_call (over (forgotten (record (with_held d m.held) { commands = m.sent }) (file_of op)) u).client refl

-- under a grant no layout is asked
pub moved_gets : (K : Knows) (out : Option Request) (d : Done) (op : CallOp) (h : Held) (m : Moved) → MoveFine K out h op m →
    NoneForGet (moved d op m).client
moved_gets K out d op h m fine = moved_other d op m (λ tries e. never tries (rw e at fine.turn))
  where
    never : (tries : ℕ) → PhaseFine K (Some m.held) out op (Needs (Get tries)) → ⊥
    never tries x = cc x.0

-- ---- an answer

commit_other : (h : Held) (op : CallOp) (a : Answer) (timed : List TimedOut) (tries : ℕ) →
    (on_commit h op a timed).turn ≡ Goes (Needs (Get tries)) → ⊥
unfolding on_commit not_committed
commit_other h op a timed tries = by_status (status_of a.results == NFS4_OK)
  where
    account : (ts : List TimedOut) → accounted op ts ≡ Goes (Needs (Get tries)) → ⊥
    account [] e = cc e
    account (t ∷ ts) e =
        let p : Needs (Report (t ∷ ts)) ≡ Needs (Get tries) = goes_same (Needs (Report (t ∷ ts))) (Needs (Get tries)) e in
        let n : Report (t ∷ ts) ≡ Get tries = cc p in cc n

    refused : (b : Bool) → (if b then Forgets (Status (status_of a.results) a.detail)
        else Ends (Status (status_of a.results) a.detail)) ≡ Goes (Needs (Get tries)) → ⊥
    refused true e = cc e
    refused false e = cc e

    by_status : (b : Bool) → (if b then committed h op a timed
        else turned h (not_committed (status_of a.results) a.detail)).turn ≡ Goes (Needs (Get tries)) → ⊥
    by_status true e = account timed e
    by_status false e = refused (status_of a.results == NFS4ERR_BADLAYOUT) e

module _ (K : Knows) (x : Client) (a : Answer) where
  abbrev freed : Done
  freed = quiet (record x { outstanding = None })

  given : (op : CallOp) (r : Result Held Why) → NoneForGet (answered_get freed op r).client
  given op (Ok h) = starting (phased (with_held freed h) op Starts).client op refl
  given op (Err why) = no_call (over freed (BadLayout why)).client refl

  asked : (op : CallOp) → held_of x.held (file_of op) ≡ None → (t : Turn) → NoneForGet (by_turn freed op t).client
  asked op none (Goes p) = in_phase (phased freed op p).client op p refl (λ tries e. none)
  asked op none (Ends u) = no_call (over freed u).client refl
  asked op none (Forgets u) = no_call (over (forgotten freed (file_of op)) u).client refl

  got : (op : CallOp) (tries : ℕ) → held_of x.held (file_of op) ≡ None → NoneForGet (on_need freed op (Get tries) a).client
  got op tries none = elim (cases_Bool (status_of a.results == NFS4_OK)) [
    | inl t ↦ rw t (given op (taken a op))
    | inr f ↦ rw f (asked op none (not_granted a tries))
  ]

  -- a call that stays as it is
  stays : (op : CallOp) (p : Phase) → x.call ≡ Some (record { op = op; phase = p }) →
      PhaseFine K (held_of x.held (file_of op)) x.outstanding op p → NoneForGet freed.client
  stays op p is fine = in_phase freed.client op p is (λ tries e. at_get tries (subst (PhaseFine K (held_of x.held (file_of op))
      x.outstanding op) e fine))
    where
      at_get : (tries : ℕ) → PhaseFine K (held_of x.held (file_of op)) x.outstanding op (Needs (Get tries)) →
          held_of x.held (file_of op) ≡ None
      at_get tries w = w.0

  commit : (op : CallOp) (timed : List TimedOut) → x.call ≡ Some (record { op = op; phase = Waits (Commit timed) }) →
      (o : Option Held) → NoneForGet (commit_under freed op a (Commit timed) o).client
  commit op timed is None = in_phase freed.client op (Waits (Commit timed)) is
      (λ tries e. absurd (waits_never (Commit timed) tries e))
  commit op timed is (Some h) = moved_other freed op (on_commit h op a timed) (commit_other h op a timed)

  by_need : (op : CallOp) (n : Need) → x.call ≡ Some (record { op = op; phase = Waits n }) →
      PhaseFine K (held_of x.held (file_of op)) x.outstanding op (Waits n) → NoneForGet (on_need freed op n a).client
  by_need op First is fine = starting (phased freed op Starts).client op refl
  by_need op (Get tries) is fine = got op tries fine.0
  by_need op (Commit timed) is fine = commit op timed is (held_of x.held (file_of op))
  by_need op (Report timed) is fine = no_call (over freed (on_report op a timed)).client refl
  by_need op (Close u report) is fine = no_call (over freed u).client refl

  by_phase : (op : CallOp) (p : Phase) → x.call ≡ Some (record { op = op; phase = p }) →
      PhaseFine K (held_of x.held (file_of op)) x.outstanding op p → NoneForGet (on_phase freed op p a).client
  by_phase op (Waits n) is fine = by_need op n is fine
  by_phase op Starts is fine = stays op Starts is fine
  by_phase op (Needs n) is fine = stays op (Needs n) is fine
  by_phase op (Reads io) is fine = stays op (Reads io) is fine
  by_phase op (Probes io) is fine = stays op (Probes io) is fine
  by_phase op (Gathers io) is fine = stays op (Gathers io) is fine
  by_phase op (Scatters io queue) is fine = stays op (Scatters io queue) is fine

  pub answered_gets : (o : Option Call) → x.call ≡ o → CallFine K x.held x.outstanding o → NoneForGet (on_call freed o a).client
  answered_gets None is fine = no_call freed.client is
  answered_gets (Some call) is fine = by_phase call.op call.phase is fine.1

-- nothing comes to the call
pub resting_gets : (K : Knows) (x y : Client) → y.call ≡ x.call → y.held ≡ x.held → CallFine K x.held x.outstanding x.call →
    NoneForGet y
resting_gets K x y call held fine p tries e =
    let w : CallFine K x.held x.outstanding (Some (record { op = p; phase = Needs (Get tries) })) =
    subst (CallFine K x.held x.outstanding) (sym call ∙ e) fine in
    ap (λ (hs : List Held). held_of hs (file_of p)) held ∙ w.1.0

-- ---- the begin

module _ (d : Done) (k : NoneForGet d.client) where
  needs : (op : CallOp) (n : Need) → ((tries : ℕ) → n ≡ Get tries → held_of d.client.held (file_of op) ≡ None) →
      (o : Option Request) → NoneForGet (starts_with d op n o).client
  needs op n none None = in_phase (phased d op (Needs n)).client op (Needs n) refl
      (λ tries e. none tries (need_same n (Get tries) e))
    where
      need_same : (a b : Need) → Needs a ≡ Needs b → a ≡ b
      need_same a b q = cc q
  needs op n none (Some r) = k

  covered_by : (op : CallOp) (h : Held) (b : Bool) → covers h op ≡ b →
      NoneForGet (if b then moved d op (begins h op) else starts_with d op First d.client.outstanding).client
  covered_by op h true e =
      moved_gets (λ p n r. Unit {0}) None d op h (begins h op) (begins_fine (λ p n r. Unit {0}) None tt h op (covered h op e))
  covered_by op h false e = needs op First (λ tries same. absurd (never tries same)) d.client.outstanding
    where
      never : (tries : ℕ) → First ≡ Get tries → ⊥
      never tries same = cc same

  under : (op : CallOp) (o : Option Held) → held_of d.client.held (file_of op) ≡ o → NoneForGet (starts_under d op o).client
  under op None e = needs op (Get 0) (λ tries z. e) d.client.outstanding
  under op (Some h) e = covered_by op h (covers h op) refl

  at_phase : (op : CallOp) (p : Phase) → NoneForGet (starts_at d op p).client
  at_phase op Starts = under op (held_of d.client.held (file_of op)) refl
  at_phase op (Needs n) = k
  at_phase op (Waits n) = k
  at_phase op (Reads io) = k
  at_phase op (Probes io) = k
  at_phase op (Gathers io) = k
  at_phase op (Scatters io queue) = k

  at_call : (o : Option Call) → NoneForGet (starts_call d o).client
  at_call None = k
  at_call (Some call) = at_phase call.op call.phase

  pub begun_gets : NoneForGet (begun d).client
  unfolding begun
  begun_gets = at_call d.client.call
