-- The grant that a call's client holds while the server has it, and what it may commit under it.
use Rattle.std.proofs.Common.{◌≡◌, ◌≤◌, ◌<◌, ◌+◌, ◌-◌, ◌*◌, ◌&&◌, ◌||◌, ◌==◌, ℕ, true, false, nat_lt, nat_le, min, List, Option, Some, sym, ap, subst, ◌∙◌, arith}
use Rattle.std.proofs.lemmas.Bool.{and_parts}
use Rattle.std.proofs.lemmas.Bool.Decides.{nat_tests}
use Rattle.data_map.specs.declared.ranges.TheConstants.{MAX_FILE_SIZE}
use Rattle.data_map.specs.Striping.{stripe_length}
use Rattle.scenario_text.specs.declared.line.Line.{Line}
use Rattle.server_rules.specs.Commit.{may_commit}
use Rattle.stripe_plan.specs.declared.plan.Span.{Span}
use Rattle.client_rules.specs.Calls.{span_of, is_write}
use Rattle.client_rules.specs.Grants.{contains, covers_write, is_for}
use Rattle.client_rules.specs.Steps.{writes_nothing}
use Rattle.client_rules.specs.Writes.{is_past_size}
use Rattle.world_history.specs.ClientNames.{CallOp, Call, Held, Reach, TimedOut, Phase, Waits, Commit, Request}
use Rattle.world_history.specs.ServerNames.{Grant}
use Rattle.world_history.specs.State.{World}
use Rattle.exchange_law.specs.Calls.{CallFine, Writes}
use Rattle.exchange_law.specs.Held.{Agrees}
use Rattle.exchange_law.specs.InStep.{state_of}
use Rattle.exchange_law.specs.Meeting.{KeptGood, IsMet}
use Rattle.ready_law.proofs.Calls.{ReadyCall, op_at, kept_at, IsIn}
use Rattle.ready_law.proofs.Stages.{HasGrant}
use Rattle.ready_law.proofs.AskingForms.{AskingLaws}
use Rattle.ready_law.proofs.ServingCommits.{end_of}
use Rattle.ready_law.proofs.WorkingForms.{UnderGrant}
use Rattle.ready_law.proofs.WorkingStage.{grant_agrees, grant_lists, for_writing}

-- ---- a grant that is held

module _ (laws : AskingLaws) (s : ReadyCall) (w : World) (h : List Line) (k : IsIn s w h) (p : Phase) (out : Option Request)
    (size : ℕ) (has : HasGrant s w p out size) where
  -- the server has the same grant
  held_agrees : Agrees (kept_at s).map has.grant has.held
  held_agrees =
      grant_agrees laws s w h k has.caller.at has.caller.there has.held has.holds has.grants size has.server has.grant
      has.granted

  -- what the client knows of its call
  pub call_fine : CallFine (KeptGood w.server s.client) has.caller.at.state.held out (Some (record { op = op_at s; phase = p }))
  call_fine =
      let met : IsMet w.server s.client has.caller.at.state =
      subst (IsMet w.server s.client) (ap (state_of s.client) has.caller.there)
      (laws.agree w h k.fair.moment k.fair.readable s.client) in
      subst (λ (o : Option Request).
      CallFine (KeptGood w.server s.client) has.caller.at.state.held o (Some (record { op = op_at s; phase = p })))
      has.caller.outstanding
      (subst (λ (c : Option Call).
      CallFine (KeptGood w.server s.client) has.caller.at.state.held has.caller.at.state.outstanding c)
      has.caller.call met.call)

  -- where it is for writing if the call writes, the call works under it
  under_grant : (is_write (op_at s) ≡ true → has.held.reach.rw ≡ true) → UnderGrant s w has.held size
  under_grant writing = record {
    grants = has.grants;
    grant = has.grant;
    granted = has.granted;
    others = has.others;
    aside = has.aside;
    server = has.server;
    good = has.good;
    listed = has.listed;
    agrees = held_agrees;
    lists =
        grant_lists laws s w h k has.caller.at has.caller.there has.held has.holds has.grants size has.server has.grant
        has.granted;
    for_writing = writing;
  }

-- ---- a write

-- A write that passes the size is for a grant that lets it extend the file, and lies inside.
pub record IsPastUnder (g : Reach) (r : Span) : Type 0 where
  pub extending : g.extending ≡ true
  pub first : g.first ≤ r.offset
  pub end : r.offset + r.length ≤ g.end

past_under : (g : Reach) (size : ℕ) (r : Span) → covers_write g size r ≡ true → nat_lt size (r.offset + r.length) ≡ true
    → IsPastUnder g r
unfolding covers_write
past_under g size r e past =
    let a = and_parts g.rw (contains g r && (g.extending || nat_le (r.offset + r.length) size)) e in
    let b = and_parts (contains g r) (g.extending || nat_le (r.offset + r.length) size) a.1 in
    let c = and_parts (nat_le g.first r.offset) (nat_le (r.offset + r.length) g.end) b.0 in
    let d : (g.extending || nat_le (r.offset + r.length) size) ≡ true = b.1 in
    record {
      extending = grind (arith, nat_tests, d, past);
      first = grind (arith, nat_tests, c.0);
      end = grind (arith, nat_tests, c.1);
    }

writes_under : (h : Held) (op : CallOp) → is_write op ≡ true → is_for h.reach h.size op ≡ true
    → covers_write h.reach h.size (span_of op) ≡ true
unfolding is_for
writes_under h op writes e = rw writes at e

-- it isn't of no byte
some_byte : (op : CallOp) → is_write op ≡ true → writes_nothing op ≡ false → 0 < (span_of op).length
some_byte op writes some =
    let test : ((span_of op).length == 0) ≡ false = rw writes at some in
    grind (arith, nat_tests, test)

-- its last byte may be committed
may_commit_last : (stripe : ℕ) (g : Grant) (last : ℕ) → g.extending ≡ true → g.first * stripe ≤ last
    → last < min (g.end * stripe) MAX_FILE_SIZE → may_commit stripe g last ≡ true
unfolding may_commit
may_commit_last stripe g last extending low high =
    let end : last < g.end * stripe = omega (arith, high) in
    let most : last < MAX_FILE_SIZE = omega (arith, high) in
    grind (arith, nat_tests, extending, low, end, most)

-- ---- a call that waits for the answer to its LAYOUTCOMMIT

module _ (laws : AskingLaws) (s : ReadyCall) (w : World) (h : List Line) (k : IsIn s w h) (timed : List TimedOut)
    (q : Request) (size : ℕ) (has : HasGrant s w (Waits (Commit timed)) (Some q) size) where
  its_write : Writes (Some has.held) (op_at s)
  its_write =
      subst (λ (o : Option Held). Writes o (op_at s)) has.holds
      (call_fine laws s w h k (Waits (Commit timed)) (Some q) size has).1.writes

  -- it has bytes
  pub commit_some : 0 < (span_of (op_at s)).length
  commit_some =
      some_byte (op_at s) its_write.0 (call_fine laws s w h k (Waits (Commit timed)) (Some q) size has).0.some

  -- where it passes the size, its last byte may be committed
  pub commit_may : is_past_size has.held (op_at s) ≡ true
      → may_commit (stripe_length (kept_at s).map) has.grant (end_of (op_at s) - 1) ≡ true
  commit_may past =
      let it =
      past_under has.held.reach has.held.size (span_of (op_at s))
      (writes_under has.held (op_at s) its_write.0 its_write.1) past in
      let g = held_agrees laws s w h k (Waits (Commit timed)) (Some q) size has in
      may_commit_last (stripe_length (kept_at s).map) has.grant (end_of (op_at s) - 1) (sym g.extending ∙ it.extending)
      (omega (arith, g.first, it.first, commit_some))
      (omega (arith, g.end, it.end, commit_some))

  -- the call works under its grant
  pub commit_under : UnderGrant s w has.held size
  commit_under =
      under_grant laws s w h k (Waits (Commit timed)) (Some q) size has
      (λ writes. for_writing has.held (op_at s) writes its_write.1)
