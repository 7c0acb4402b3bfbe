-- A call begins to work under a grant that covers it.
use Rattle.std.proofs.Common.{◌≡◌, ◌+◌, ◌++◌, ◌==◌, Bool, true, false, nat_lt, List, [], ◌∷◌, length, if◌then◌else◌, refl, sym, ap, subst, ◌∙◌, inl, inr, arith}
use Rattle.std.proofs.lemmas.Bool.{cases_Bool}
use Rattle.data_map.specs.declared.check.RawMap.{RawMap}
use Rattle.stripe_plan.specs.Plans.{stores}
use Rattle.server_rules.specs.Slots.{New, admit, slot_of}
use Rattle.client_rules.specs.declared.limits.TheConstants.{MAX_COUNT}
use Rattle.client_rules.specs.Calls.{span_of, is_write, bytes_of}
use Rattle.client_rules.specs.Commands.{counted, read_commands, write_commands}
use Rattle.client_rules.specs.Going.{begins}
use Rattle.client_rules.specs.Grants.{clipped, covers, is_for}
use Rattle.client_rules.specs.Io.{outs}
use Rattle.client_rules.specs.Reads.{reads, probes}
use Rattle.client_rules.specs.Requests.{commit_args}
use Rattle.client_rules.specs.Turns.{needing}
use Rattle.client_rules.specs.Writes.{is_past_size, written, accounted, firsts, laters, scatters_on, scatters, gathers_due, gathers_on, gathers}
use Rattle.client_rules.proofs.HeldGrants.{put_at}
use Rattle.scenario_text.specs.declared.line.Line.{Line}
use Rattle.world_history.specs.ClientNames.{CallOp, Held, Awaited, TimedOut, Commit, Report, Moved, Column, Store}
use Rattle.world_history.specs.State.{World}
use Rattle.world_history.specs.Sending.{Move, move}
use Rattle.history_law.specs.BookMoments.{lines_in}
use Rattle.exchange_law.specs.Held.{Agrees}
use Rattle.component_law.specs.Listed.{ListsComponents}
use Rattle.load_law.specs.Load as load
use Rattle.ready_law.specs.Stepping as stepping
use Rattle.ready_law.specs.Stepping.{StepsWell}
use Rattle.ready_law.proofs.AskingForms.{AskingLaws, BeginsUnder, BeginsToWork}
use Rattle.ready_law.proofs.Calls.{ReadyCall, op_at, file_at_call, kept_at, lost_at, IsIn}
use Rattle.ready_law.proofs.Stages.{GoesOn}
use Rattle.ready_law.proofs.WorkingForms.{UnderGrant, TakesTurn}
use Rattle.ready_law.proofs.WorkingTurns.{works_held, turn_works}
use Rattle.ready_law.proofs.WorkingEnds.{asks_held, turn_ends, turn_commits}
use Rattle.ready_law.proofs.WorkingStage.{grant_agrees, grant_lists, for_writing}
use Rattle.ready_law.proofs.Resting.{drives_begin}

-- ---- nothing is reported where nothing timed out

module _ (t : TimedOut) (ts : List TimedOut) where
  written_reports : (h : Held) (op : CallOp) (b : Bool)
      → (if b then needing (Commit []) else accounted op []) ≡ needing (Report (t ∷ ts)) → ⊥
  written_reports h op true e = cc e
  written_reports h op false e = cc e

  scatter_reports : (h : Held) (op : CallOp) (queue : List Store) (sent awaited : List Awaited)
      → (scatters_on h op [] queue sent awaited).turn ≡ needing (Report (t ∷ ts)) → ⊥
  unfolding scatters_on written
  scatter_reports h op queue sent [] e = written_reports h op (is_past_size h op) e
  scatter_reports h op queue sent (y ∷ ys) e = cc e

  gather_reports : (h : Held) (op : CallOp) (got : List Column) (sent awaited : List Awaited)
      → (gathers_on h op got [] sent awaited).turn ≡ needing (Report (t ∷ ts)) → ⊥
  unfolding gathers_on scatters
  gather_reports h op got sent [] e =
      let all : List Store = stores h.map (span_of op) (bytes_of op) got (outs h []) in
      scatter_reports h op (laters [] all) (write_commands h (firsts [] all)) (write_commands h (firsts [] all)) e
  gather_reports h op got sent (y ∷ ys) e = cc e

  begins_reports : (h : Held) (op : CallOp) → is_write op ≡ true → (begins h op).turn ≡ needing (Report (t ∷ ts)) → ⊥
  unfolding begins gathers
  begins_reports h op writes e =
      let due = read_commands h (gathers_due h (span_of op) [] [] []) in
      gather_reports h op [] due due
      (sym (ap (λ (b : Bool). (if b then gathers h op [] [] []
      else if (clipped h.size (span_of op)).length == 0 then probes h [] [] []
      else reads h (clipped h.size (span_of op)) [] [] []).turn) writes) ∙ e)

-- ---- where it begins

covers_for : (h : Held) (op : CallOp) → covers h op ≡ true → is_for h.reach h.size op ≡ true
unfolding covers
covers_for h op e = elim (cases_Bool (nat_lt MAX_COUNT h.count)) [
  | inl t ↦ absurd (cc (rw t at e))
  | inr f ↦ rw f at e
]

-- what a grant says it says with any count
agrees_before : (m : RawMap) (g : _) (h : Held) (sent : List Awaited) → Agrees m g (counted h sent) → Agrees m g h
agrees_before m g h sent x = record {
  file = x.file;
  number = x.number;
  rw = x.rw;
  extending = x.extending;
  first = x.first;
  end = x.end;
  map = x.map;
}

module _ (laws : AskingLaws) (s : ReadyCall) (w : World) (h : List Line) (m : Move)
    (i : IsIn s (move w m).world (h ++ lines_in w m)) (b : BeginsUnder s w m)
    (new : admit (slot_of (move w m).world.server.slots s.client) b.client.next ≡ New) where
  abbrev v : World
  v = (move w m).world

  abbrev begun : Moved
  begun = begins b.held (op_at s)

  abbrev turn : TakesTurn s w m b.held []
  turn = record {
    base = b.client;
    number = b.number;
    free = b.free;
    due = b.none_due;
    file_is = b.file;
    new = new;
    before = b.before;
    alive = b.alive;
    result = b.result;
    step = b.step;
    queue = b.queue;
    count = b.count;
  }

  -- the server has the grant that the client holds
  abbrev under : Agrees (kept_at s).map b.grant b.held → ListsComponents v.server.drives
      (record (kept_at s) { grants = b.grants; size = (kept_at s).size; high = b.server.high }) b.grant b.held.components
      → UnderGrant s v b.held (kept_at s).size
  under agrees lists = record {
    grants = b.grants;
    grant = b.grant;
    granted = b.granted;
    others = b.others;
    aside = b.aside;
    server = b.server;
    good = b.good;
    listed = b.listed;
    agrees = agrees;
    lists = lists;
    for_writing = λ writes. for_writing b.held (op_at s) writes (covers_for b.held (op_at s) b.covered);
  }

  by_turn_of : StepsWell b.client b.held (op_at s) (lost_at s) [] begun b.result → GoesOn s v (lines_in w m)
  by_turn_of (stepping.WorksOn p goes g is) =
      let held = works_held s w m b.held [] turn begun p is g.held in
      let agrees : Agrees (kept_at s).map b.grant begun.held =
      grant_agrees laws s v (h ++ lines_in w m) i turn.step.after turn.step.there begun.held held b.grants
      (kept_at s).size b.server b.grant b.granted in
      let lists =
      grant_lists laws s v (h ++ lines_in w m) i turn.step.after turn.step.there begun.held held b.grants
      (kept_at s).size b.server b.grant b.granted in
      turn_works s w m b.held [] turn begun (h ++ lines_in w m) i
      (under (agrees_before (kept_at s).map b.grant b.held begun.sent
      (subst (Agrees (kept_at s).map b.grant) g.held agrees))
      (subst (λ (k : Held). ListsComponents v.server.drives
      (record (kept_at s) { grants = b.grants; size = (kept_at s).size; high = b.server.high }) b.grant k.components)
      g.held lists))
      (record { size = b.size; in_time = b.in_time; drives = drives_begin s v b.drives })
      b.held [] [] []
      (record {
        own = tt;
        queue = tt;
        among_them = λ x j. absurd j;
        heard = λ x j. absurd j;
        run = λ q goes_so now. record {
          moved = begun;
          deals = load.AtBegin;
          held = refl;
          turn = goes_so;
          count = b.held.count + length begun.sent;
          same = now;
        };
        few = omega arith;
        sent = omega (arith, b.sent);
      })
      p goes g is
  by_turn_of (stepping.IsDone e none well low is) =
      turn_ends s w m b.held e turn is
      (record {
        grants = b.grants;
        grant = b.grant;
        granted = b.granted;
        others = b.others;
        aside = b.aside;
        server = b.server;
        drives = drives_begin s v b.drives;
        size = b.size;
        low = low;
      })
      well (omega (arith, b.sent))
  by_turn_of (stepping.Commits timed past it is) =
      let held =
      asks_held s w m b.held (Commit timed) (commit_args b.held (op_at s)) turn is
      ∙ put_at turn.base.held b.held (file_at_call s) turn.file_is in
      turn_commits s w m b.held timed turn is
      (under
      (grant_agrees laws s v (h ++ lines_in w m) i turn.step.after turn.step.there b.held held b.grants (kept_at s).size
      b.server b.grant b.granted)
      (grant_lists laws s v (h ++ lines_in w m) i turn.step.after turn.step.there b.held held b.grants (kept_at s).size
      b.server b.grant b.granted))
      (drives_begin s v b.drives) it.writes past it.well (omega (arith, b.sent))
  by_turn_of (stepping.Reports x timed turns low it is) =
      absurd (begins_reports x timed b.held (op_at s) it.writes turns)

  pub begins_goes_on : GoesOn s v (lines_in w m)
  begins_goes_on = by_turn_of b.well

-- so each call does
pub begins_to_work : AskingLaws → BeginsToWork
begins_to_work laws s w h m i b = begins_goes_on laws s w h m i b b.new
