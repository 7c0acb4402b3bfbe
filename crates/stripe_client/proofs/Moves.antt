-- Moves under a grant that is taken out and put back.
use Rattle.std.specs.Prelude.{ℕ, List, Some, None, Result, Ok, Err, OnOk, ◌≡◌, find}
use Rattle.std.proofs.Common.{sym, ap, ◌∙◌}
use Rattle.call_io.specs.Steps.{on_reply, on_timeout}
use Rattle.client_rules.specs.declared.calls.CallOp.{CallOp}
use Rattle.client_rules.specs.declared.calls.Call.{Call}
use Rattle.client_rules.specs.declared.calls.TimedOut.{TimedOut}
use Rattle.client_rules.specs.declared.calls.Need.TheVariants.{Commit}
use Rattle.client_rules.specs.declared.calls.Phase.TheVariants.{Waits}
use Rattle.client_rules.specs.declared.grants.Held.{Held}
use Rattle.client_rules.specs.declared.steps.Moved.{Moved}
use Rattle.client_rules.specs.declared.steps.Done.{Done}
use Rattle.layout_ops.specs.declared.messages.Answer.{Answer}
use Rattle.osd_commands.specs.declared.replies.Reply.{Reply}
use Rattle.client_rules.specs.Calls.{file_of}
use Rattle.client_rules.specs.Grants.{held_of, put_held}
use Rattle.client_rules.specs.Commands.{of_component}
use Rattle.client_rules.specs.Io.{awaited_in}
use Rattle.client_rules.specs.Replies.{answers}
use Rattle.client_rules.specs.Answers.{on_commit}
use Rattle.client_rules.specs.Going.{moved, phased, begins}
use Rattle.client_rules.proofs.HeldGrants.{held_file}
use Rattle.stripe_client.specs.Starting.{Deals}
use Rattle.stripe_client.specs.Answering.{commits}
use Rattle.stripe_client.specs.Driving.{replied_call, timed_call}
use Rattle.stripe_client.proofs.SameFile.{begins_stays, on_commit_stays, on_reply_stays, on_timeout_stays}
use Rattle.stripe_client.proofs.Taking.{turned_alike, moved_alike}

-- what is put back stands where it stood
abbrev pub PutsBack : (f : ℕ) → (hs all : List Held) → Type 0
PutsBack f hs all = (g : Held) → g.file ≡ f → put_held hs g ≡ put_held all g

-- the state without the grant
abbrev pub without : Done → List Held → Done
without d hs = record d { client = record d.client { held = hs } }

put_back : (d : Done) (hs : List Held) (op : CallOp) (h : Held) (m : Moved) →
    held_of d.client.held (file_of op) ≡ Some h →
    PutsBack (file_of op) hs d.client.held → m.held.file ≡ h.file → moved (without d hs) op m ≡ moved d op m
put_back d hs op h m found back stays =
    moved_alike d hs d.client.call op m (back m.held (stays ∙ held_file d.client.held (file_of op) h found))

pub dealt : (d : Done) (hs : List Held) (op : CallOp) (h : Held) (m : Moved) (new : Done) →
    held_of d.client.held (file_of op) ≡ Some h →
    PutsBack (file_of op) hs d.client.held → m ≡ begins h op → new ≡ moved (without d hs) op m →
    Deals d op (held_of d.client.held (file_of op)) new
dealt d hs op h m new found back made done =
    rw found (done ∙ ap (λ (x : Moved). moved (without d hs) op x) made ∙ put_back d hs op h (begins h op) found back
    (begins_stays h op))

pub committed : (d : Done) (hs : List Held) (op : CallOp) (a : Answer) (timed : List TimedOut) (h : Held) (m : Moved)
    (new : Done) →
    held_of d.client.held (file_of op) ≡ Some h → PutsBack (file_of op) hs d.client.held → m ≡ on_commit h op a timed →
    new ≡ moved (without d hs) op m → new ≡ commits d op a timed
committed d hs op a timed h m new found back made done =
    rw found (done ∙ ap (λ (x : Moved). moved (without d hs) op x) made ∙ put_back d hs op h
    (on_commit h op a timed) found back (on_commit_stays h op a timed)
    ∙ sym
    (turned_alike
    (record d {
      client = record d.client { held = put_held d.client.held (on_commit h op a timed).held };
      commands = (on_commit h op a timed).sent;
    }) op (on_commit h op a timed).turn
    (Some (record { op = op; phase = Waits (Commit timed) }))))

pub replied_to : (d : Done) (hs : List Held) (call : Call) (drive : ℕ) (r : Reply) (h : Held) (m : Moved) (new : Done) →
    held_of d.client.held (file_of call.op) ≡ Some h → PutsBack (file_of call.op) hs d.client.held →
    m ≡ on_reply h call.op call.phase r (find (answers drive r) (awaited_in call.phase)) →
    new ≡ moved (without d hs) call.op m → new ≡ replied_call d call drive r
replied_to d hs call drive r h m new found back made done =
    rw found (done ∙ ap (λ (x : Moved). moved (without d hs) call.op x) made
    ∙ put_back d hs call.op h _ found back
    (on_reply_stays h call.op call.phase r (find (answers drive r) (awaited_in call.phase))))

pub timed_of : (d : Done) (hs : List Held) (call : Call) (k : ℕ) (h : Held) (m : Moved) (new : Done) →
    held_of d.client.held (file_of call.op) ≡ Some h → PutsBack (file_of call.op) hs d.client.held →
    m ≡ on_timeout h call.op call.phase k (of_component k (awaited_in call.phase)) →
    new ≡ moved (without d hs) call.op m → new ≡ timed_call d call k
timed_of d hs call k h m new found back made done =
    rw found (done ∙ ap (λ (x : Moved). moved (without d hs) call.op x) made
    ∙ put_back d hs call.op h _ found back
    (on_timeout_stays h call.op call.phase k (of_component k (awaited_in call.phase))))

-- ---- no grant is held

pub dealt_none : (d : Done) (hs : List Held) (op : CallOp) → held_of d.client.held (file_of op) ≡ None →
    hs ≡ d.client.held →
    Deals d op (held_of d.client.held (file_of op)) (without d hs)
dealt_none d hs op found same = rw found (ap (λ (x : List Held). without d x) same)

pub committed_none : (d : Done) (hs : List Held) (op : CallOp) (a : Answer) (timed : List TimedOut) (new : Done) →
    held_of d.client.held (file_of op) ≡ None → hs ≡ d.client.held →
    new ≡ phased (without d hs) op (Waits (Commit timed)) → new ≡ commits d op a timed
committed_none d hs op a timed new found same done =
    rw found (done ∙ ap (λ (x : List Held). phased (without d x) op (Waits (Commit timed))) same)

pub replied_none : (d : Done) (hs : List Held) (call : Call) (drive : ℕ) (r : Reply) (new : Done) →
    held_of d.client.held (file_of call.op) ≡ None → hs ≡ d.client.held →
    new ≡ phased (without d hs) call.op call.phase → new ≡ replied_call d call drive r
replied_none d hs call drive r new found same done =
    rw found (done ∙ ap (λ (x : List Held). phased (without d x) call.op call.phase) same)

pub timed_none : (d : Done) (hs : List Held) (call : Call) (k : ℕ) (new : Done) →
    held_of d.client.held (file_of call.op) ≡ None → hs ≡ d.client.held →
    new ≡ phased (without d hs) call.op call.phase → new ≡ timed_call d call k
timed_none d hs call k new found same done =
    rw found (done ∙ ap (λ (x : List Held). phased (without d x) call.op call.phase) same)

-- what holds of a result that is Ok
pub implied : {T E A B : Type 0} (r : Result T E) → OnOk r A → (A → B) → OnOk r B
implied (Ok x) a f = f a
implied (Err e) a f = tt
