-- A clean LAYOUTRETURN ends the client's grant; and an answer to a recall is nothing to the server.
use Rattle.std.proofs.Common.{◌≡◌, ℕ, Bool, true, false, List, [], Option, Some, None, slice_get, refl, sym, ap, subst, ◌∙◌, if◌then◌else◌}
use Rattle.osd_lists.specs.declared.node.Node.TheVariants as node
use Rattle.layout_ops.specs.declared.envelope.Envelope.TheVariants as envelope
use Rattle.layout_ops.specs.declared.recalls.RecallAnswer.{RecallAnswer}
use Rattle.layout_ops.specs.declared.results.LayoutReturnResult.TheVariants as return
use Rattle.layout_ops.specs.declared.results.Results.TheVariants as results
use Rattle.layout_ops.specs.declared.statuses.TheConstants.{NFS4_OK}
use Rattle.scenario_text.specs.declared.line.Delivery.TheVariants as delivery
use Rattle.scenario_text.specs.declared.line.Line.{Line}
use Rattle.client_rules.specs.Requests.{return_args}
use Rattle.server_rules.specs.Envelopes.{return_in, asked_in}
use Rattle.server_rules.specs.Files.{still, at_file}
use Rattle.server_rules.specs.Going.{Going}
use Rattle.server_rules.specs.Grants.{grant_of, without}
use Rattle.server_rules.specs.Messages.{Message as ServerMessage, Asks, Replies, Orders, counters_have_room, on_message}
use Rattle.server_rules.specs.Requests.{serves}
use Rattle.server_rules.specs.Return.{by_grant, return_row, ends_grant, by_return, returns_on}
use Rattle.server_rules.specs.Served.{says}
use Rattle.world_history.specs.ClientNames.{Request}
use Rattle.world_history.specs.ServerNames.{File, Grant, ClientRequest, Return}
use Rattle.world_history.specs.declared.messages.Body.TheVariants.{Envelope as OfEnvelope}
use Rattle.world_history.specs.declared.messages.Message.{Message}
use Rattle.world_history.specs.declared.messages.Posted.{Posted}
use Rattle.world_history.specs.State.{World}
use Rattle.world_history.specs.Handed.{quiet, server_did, for_server, server_takes, handed_to}
use Rattle.world_history.specs.Moves.{Delivers, marked, told_delivered, acts}
use Rattle.exchange_law.proofs.SlotReading.{server_reads_none}
use Rattle.cause_law.proofs.Moving.{none_short}
use Rattle.cause_law.proofs.Reported.{read_whole}
use Rattle.cause_law.proofs.Frames.{delivered_act}
use Rattle.cause_law.proofs.Holders.{grants_named}
use Rattle.ready_law.specs.Fair.{IsFair}
use Rattle.ready_law.proofs.ServingForms.{RequestLaws, Comes, Carried, Serves, IsNothing}
use Rattle.ready_law.proofs.ServingRequests.{request_served}

-- ---- a LAYOUTRETURN without a report

-- the client's grant goes, and nothing else of the file changes
abbrev pub given_back : (c : ℕ) → Request → File → Carried
given_back c q f = record {
  left = record f { kept = record f.kept { grants = without f.kept.grants c } };
  recalled = [];
  numbers = 0;
  answer = record {
    client = c;
    sequence = q.sequence;
    file = q.file;
    detail = 0;
    size = f.kept.size;
    results = results.LayoutReturn (return.Returned None);
  };
}

pub return_clean : RequestLaws → (w : World) (h : List Line) → IsFair w h → (chosen : List ℕ) (number c : ℕ) (q : Request)
    (f : File) → Comes w c q f number → (grant : ℕ) → q.args ≡ return_args grant [] → (g : Grant)
    → grant_of f.kept.grants c ≡ Some g → Serves w c q number (given_back c q f) (acts w chosen (Delivers number))
unfolding returns_on return_row
return_clean laws w h fair chosen number c q f comes grant args g has =
    let go : Going = at_file w.server chosen f in
    let is_read : asked_in q.args ≡ Some (Return []) = ap asked_in args ∙ ap return_in (read_whole [] none_short) in
    let its : serves go w.server.next_grant w.server.format w.clock c (Return []) ≡ says (ends_grant go c) NFS4_OK 0 =
    ap (λ (o : Option Grant). by_return go w.server.format c (by_grant f.kept [] o)) has in
    request_served laws w h fair chosen number c q f comes
    (grants_named laws.safe laws.more w h fair.moment q.file f comes.file c g has) (Return []) is_read
    (says (ends_grant go c) NFS4_OK 0) its refl refl tt

-- ---- an answer to a recall

abbrev pub recall_answer_message : (c : ℕ) → RecallAnswer → Message
recall_answer_message c v = record { from = node.Client c; to = node.Server; body = OfEnvelope (envelope.RecallAnswer v) }

module _ (w : World) (chosen : List ℕ) (number : ℕ) (posted : Posted) (c : ℕ) (v : RecallAnswer) where
  abbrev there : World
  there = marked w number posted

  -- the server goes on as it was, or has no room for it
  still_is : (b : Bool) → IsNothing w number (told_delivered number (server_did there
      (if b then still w.server else still w.server)))
  still_is true = record {
    posts = refl;
    receipt = delivery.Taken;
    told = refl;
    server = refl;
    clients = refl;
    drives = refl;
    clock = refl;
    down = refl;
  }
  still_is false = record {
    posts = refl;
    receipt = delivery.Taken;
    told = refl;
    server = refl;
    clients = refl;
    drives = refl;
    clock = refl;
    down = refl;
  }

  -- no client's message but a request is anything to the server
  by_message : (m : ServerMessage) → ((q : ClientRequest) → m ≡ Asks q → ⊥)
      → IsNothing w number (told_delivered number (server_takes there chosen (node.Client c) (Some m)))
  unfolding on_message
  by_message (Asks q) none = absurd (none q refl)
  by_message (Replies r) none = still_is (counters_have_room w.server)
  by_message (Orders o) none = still_is (counters_have_room w.server)

  by_read : (o : Option ServerMessage) → ((q : ClientRequest) → o ≡ Some (Asks q) → ⊥)
      → IsNothing w number (told_delivered number (server_takes there chosen (node.Client c) o))
  by_read None none = record {
    posts = refl;
    receipt = delivery.Taken;
    told = refl;
    server = refl;
    clients = refl;
    drives = refl;
    clock = refl;
    down = refl;
  }
  by_read (Some m) none = by_message m (λ q is. none q (ap (λ (x : ServerMessage). Some x) is))

  by_down : (b : Bool) → IsNothing w number (told_delivered number (if b then quiet there delivery.Deaf
      else server_takes there chosen (node.Client c) (for_server (recall_answer_message c v))))
  by_down true = record {
    posts = refl;
    receipt = delivery.Deaf;
    told = refl;
    server = refl;
    clients = refl;
    drives = refl;
    clock = refl;
    down = refl;
  }
  by_down false =
      by_read (for_server (recall_answer_message c v)) (λ q is. server_reads_none c v q is)

-- whatever it says, the server takes nothing of it
pub recall_answer_is_nothing : (w : World) (chosen : List ℕ) (number : ℕ) (posted : Posted)
    → slice_get w.network.messages number ≡ Some posted → (c : ℕ) (v : RecallAnswer)
    → posted.message ≡ recall_answer_message c v → IsNothing w number (acts w chosen (Delivers number))
recall_answer_is_nothing w chosen number posted found c v message =
    let act_is : acts w chosen (Delivers number)
    ≡ told_delivered number (handed_to (marked w number posted) chosen (recall_answer_message c v) node.Server) =
    delivered_act w chosen number posted found
    ∙ ap (λ (m : Message). told_delivered number (handed_to (marked w number posted) chosen m m.to)) message in
    subst (IsNothing w number) (sym act_is) (by_down w chosen number posted c v w.down)
