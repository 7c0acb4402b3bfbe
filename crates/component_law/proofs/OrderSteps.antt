-- Each step of the server keeps the order of each file's grants.
use Rattle.std.proofs.Common.{◌≤◌, ℕ, ◌+◌, List, [], arith, refl}
use Rattle.server_rules.specs.Files.{Step, put_file, add_file, at_file, begins}
use Rattle.server_rules.specs.Going.{Going}
use Rattle.server_rules.specs.History.{Input}
use Rattle.server_rules.specs.Jobs.{making, declares}
use Rattle.server_rules.specs.Making.{with_file}
use Rattle.server_rules.specs.Openings.{crashed_file}
use Rattle.server_rules.specs.Orders.{offline, declare}
use Rattle.server_rules.specs.Replies.{hearing}
use Rattle.server_rules.specs.Requests.{serves}
use Rattle.server_rules.specs.Served.{Served}
use Rattle.server_rules.proofs.Runs.{ran_making}
use Rattle.world_history.specs.ServerNames.{Server, File, ClientRequest}
use Rattle.history_law.specs.Steps.{answered_file, new_file, StepCases, RequestCases}
use Rattle.history_law.proofs.Steps.{each_step, each_request}
use Rattle.history_law.proofs.Files.{Each, in_at, put_each, add_each, crashed_each, declared_each, opened_each}
use Rattle.component_law.specs.Order.{IsInOrder, AreInOrder, EachStepOrders}
use Rattle.component_law.proofs.PartyLists.{same_order, none_order, later_order}
use Rattle.component_law.proofs.PartyJobs.{stays_heard, stays_declared, order_fence, order_opened}
use Rattle.component_law.proofs.OrderServing.{order_served}

later_all : (next later : ℕ) (fs : List File) → next ≤ later → Each (IsInOrder next) fs → Each (IsInOrder later) fs
later_all next later fs le h x i = later_order next later x le (h x i)

abbrev OrdersStep : Step → Type 0
OrdersStep t = AreInOrder t.state

requests : (s : Server) (now : ℕ) (chosen : List ℕ) (q : ClientRequest) → AreInOrder s
    → RequestCases s now chosen q OrdersStep
requests s now chosen q h = record {
  again = λ kept is. h;
  misordered = λ expected is. h;
  without = λ new none. h;
  served = λ new f found.
      let v : Served = serves (at_file s chosen f) s.next_grant s.format now q.client q.args in
      put_each (IsInOrder (s.next_grant + v.numbers)) s.files q.file v.going.file
      (later_all s.next_grant (s.next_grant + v.numbers) s.files (omega arith) h)
      (order_served s.next_grant (at_file s chosen f) s.format now q.client q.args (h f (in_at s.files q.file f found)));
}

cases : (s : Server) (chosen : List ℕ) (i : Input) → AreInOrder s → StepCases s chosen i OrdersStep
unfolding declare
cases s chosen i h = record {
  rests = h;
  asked = λ now q is. each_request s now chosen q OrdersStep (requests s now chosen q h);
  answered = λ x is.
      put (answered_file s chosen x)
      (same_order s.next_grant x.file _
      (stays_heard (at_file s chosen x.file) x.job x.awaited x.reply (hearing x.file.kept x.awaited x.reply))
      (h x.file is.there));
  recalled = λ f is. h;
  refused = λ f is n why. put_each (IsInOrder s.next_grant) s.files f.kept.number f h (h f (in_at s.files is.target f is.found));
  fenced = λ f is kind none low.
      put_each (IsInOrder s.next_grant) s.files f.kept.number _ h
      (order_fence s.next_grant kind s.format (at_file s chosen f));
  declared = λ d known.
      declared_each (IsInOrder s.next_grant) d (offline s.drives d) s.files (begins s) chosen
      (λ f there m placed.
      let g : Going = record { file = f; effects = m; drives = offline s.drives d; chosen = placed } in
      same_order s.next_grant f (declares g d).file (stays_declared g d) (h f there));
  told = λ t now o is result kept. kept;
  made = λ n m tag zoned is none.
      let f : File = new_file s chosen n m tag zoned in
      let g : Going = at_file (with_file s f) [] f in
      put_each (IsInOrder s.next_grant) (add_file s.files f) n (making g).file
      (add_each (IsInOrder s.next_grant) s.files f h (none_order s.next_grant f refl))
      (none_order s.next_grant (making g).file (ran_making g).grants);
  added = λ d is. h;
  zoned = λ d zone is. h;
  formats = λ n is. h;
  resends = λ is. h;
  crashes = λ is.
      crashed_each (IsInOrder s.next_grant) s.files
      (λ f there. same_order s.next_grant f (crashed_file f) refl (h f there));
  opened = λ is low.
      opened_each (IsInOrder s.next_grant) s.format s.drives s.files (begins s)
      (λ f there m.
      order_opened s.next_grant s.format (record { file = f; effects = m; drives = s.drives; chosen = [] })
      (h f there));
}
  where
    put : (g : Going) → IsInOrder s.next_grant g.file
        → Each (IsInOrder s.next_grant) (put_file s.files g.file.kept.number g.file)
    put g o = put_each (IsInOrder s.next_grant) s.files g.file.kept.number g.file h o

pub each_step_orders : EachStepOrders
each_step_orders s chosen i h = each_step s chosen i OrdersStep (cases s chosen i h)
