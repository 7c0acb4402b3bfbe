-- What a client takes of an answer and of a recall.
use Rattle.std.specs.Prelude.{ℕ, Bool, false, [], Option, Some, None, ◌==◌, if◌then◌else◌}
use Rattle.layout_ops.specs.declared.statuses.TheConstants.{NFS4_OK, NFS4ERR_NOMATCHING_LAYOUT}
use Rattle.client_rules.specs.declared.client.Client.{Client}
use Rattle.client_rules.specs.declared.grants.Held.{Held}
use Rattle.layout_ops.specs.declared.messages.Request.{Request}
use Rattle.layout_ops.specs.declared.messages.Answer.{Answer}
use Rattle.layout_ops.specs.declared.recalls.Recall.{Recall}
use Rattle.client_rules.specs.Requests.{grant_in}
use Rattle.client_rules.specs.Messages.{is_awaited}
use Rattle.stripe_client.specs.declared.state.State.{State}
use Rattle.stripe_client.specs.declared.state.Made.{Made}
use Rattle.stripe_client.specs.States.{client_of}

-- a step has made nothing yet
abbrev pub nothing_made : Made
nothing_made = record { recall = None; asked = false; commands = []; outcome = None }

-- there is a request that it answers
abbrev pub answers_request : Client → Answer → Option Request → Bool
answers_request c a None = false
answers_request c a (Some r) = is_awaited c a r

-- the outstanding request is that
abbrev pub awaits_answer : State → Answer → Bool
awaits_answer s a = answers_request (client_of s) a s.outstanding

-- the status with which a recall is answered, by the grant that is held of its file
abbrev pub recall_status : Recall → Option Held → ℕ
recall_status r None = NFS4ERR_NOMATCHING_LAYOUT
recall_status r (Some h) = if h.number == grant_in r.args.stateid then NFS4_OK else NFS4ERR_NOMATCHING_LAYOUT
