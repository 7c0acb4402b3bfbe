-- A step of the server that declares no drive leaves none offline but those that were.
use Rattle.std.proofs.Common.{◌≡◌, ◌==◌, ◌&&◌, not, ℕ, Bool, true, false, List, [], ◌∷◌, Option, Some, None, is_some, find, nat_le, nat_lt, inl, inr, refl, sym, ◌∙◌, if◌then◌else◌}
use Rattle.std.proofs.lemmas.Bool.{cases_Bool, eqb-true, ne_eqb}
use Rattle.osd_lists.specs.declared.node.Node.{Node}
use Rattle.osd_lists.specs.declared.node.Node.TheVariants as node
use Rattle.server_rules.specs.declared.limits.TheConstants.{MAX_CLIENT, GREATEST_TAG}
use Rattle.world_history.specs.ServerNames.{Server, File, Drive, Job, JobKind, ClientRequest, Reply, Refusal, Revoking, Rebuilding, Auditing, OrderKind, ToRecall, ToRevoke, ToDeclare, ToRebuild, ToAudit}
use Rattle.server_rules.specs.Files.{Step, file_at, still}
use Rattle.server_rules.specs.Going.{Going}
use Rattle.server_rules.specs.History.{Input, Hears, Makes, Obeys, Adds, Zones, Opens, step, unless_made}
use Rattle.server_rules.specs.Making.{add_drive, refusal, unless_refused, makes_file, unmade, drives_for, create_file}
use Rattle.server_rules.specs.Messages.{Message, Asks, Replies, Orders, heard_at, by_heard, on_drive_reply, handled, on_message, counters_have_room}
use Rattle.server_rules.specs.Openings.{reopen}
use Rattle.server_rules.specs.Orders.{begins_job, starts, recalls_on, offline, declare, declares_known, ordered}
use Rattle.server_rules.specs.Requests.{carries_out, by_admit, on_request}
use Rattle.server_rules.specs.Slots.{Admit, New, Again, Misordered, slot_of, admit}
use Rattle.component_law.specs.Listed.{is_offline, IsOffline}
use Rattle.component_law.proofs.Offline.{out_more, zoned_out}

-- ---- the server's drives

new_out : (b o r : Bool) → o ≡ true → (if b && not o then true else r) ≡ true → r ≡ true
new_out true true r on e = e
new_out true false r on e = absurd (cc on)
new_out false o r on e = e

added_back : (ds : List Drive) (x : Drive) (n : ℕ) → x.online ≡ true → IsOffline (add_drive ds x) n → IsOffline ds n
unfolding is_offline add_drive
added_back [] x n on e = new_out (x.number == n) x.online false on e
added_back (y ∷ ds) x n on e = elim (cases_Bool (nat_lt y.number x.number)) [
  | inl t ↦ out_more ((y.number == n) && not y.online) _ _ (added_back ds x n on) (rw t at e)
  | inr z ↦ new_out (x.number == n) x.online _ on (rw z at e)
]

-- what is offline then was, but for the one that is declared
kept_back : (ds : List Drive) (drive n : ℕ) → (n ≡ drive → ⊥) → IsOffline (offline ds drive) n → IsOffline ds n
unfolding is_offline offline
kept_back [] drive n other e = e
kept_back (d ∷ ds) drive n other e = elim (cases_Bool (d.number == drive)) [
  | inl t ↦
      let differs : (d.number == n) ≡ false = ne_eqb d.number n (λ x. other (sym x ∙ eqb-true d.number drive t)) in
      rw differs (kept_back ds drive n other (rw (t, differs) at e))
  | inr f ↦ out_more ((d.number == n) && not d.online) _ _ (kept_back ds drive n other) (rw f at e)
]

-- ---- a step

abbrev Knows : Server → Step → Type 0
Knows s did = (n : ℕ) → IsOffline did.state.drives n → IsOffline s.drives n

either_step : (s : Server) (b : Bool) (x y : Step) → Knows s x → Knows s y → Knows s (if b then x else y)
either_step s true x y h g = h
either_step s false x y h g = g

knows_carried : (s : Server) (now : ℕ) (chosen : List ℕ) (q : ClientRequest) (o : Option File)
    → Knows s (carries_out s now chosen q o)
knows_carried s now chosen q None = (λ n o. o)
knows_carried s now chosen q (Some f) = (λ n o. o)

knows_admitted : (s : Server) (now : ℕ) (chosen : List ℕ) (q : ClientRequest) (a : Admit) → Knows s (by_admit s now chosen q a)
knows_admitted s now chosen q New = knows_carried s now chosen q (file_at s.files q.file)
knows_admitted s now chosen q (Again kept) = (λ n o. o)
knows_admitted s now chosen q (Misordered expected) = (λ n o. o)

knows_request : (s : Server) (now : ℕ) (chosen : List ℕ) (q : ClientRequest) → Knows s (on_request s now chosen q)
unfolding on_request
knows_request s now chosen q = knows_admitted s now chosen q (admit (slot_of s.slots q.client) q.sequence)

knows_heard : (s : Server) (o : Option Going) → Knows s (by_heard s o)
knows_heard s None = (λ n o. o)
knows_heard s (Some g) = (λ n o. o)

knows_reply : (s : Server) (chosen : List ℕ) (drive : ℕ) (r : Reply) → Knows s (on_drive_reply s chosen drive r)
unfolding on_drive_reply
knows_reply s chosen drive r = knows_heard s (heard_at s chosen drive r s.files)

knows_job : (s : Server) (chosen : List ℕ) (kind : JobKind) (f : File) (j : Option Job)
    → Knows s (begins_job s chosen kind f j).step
knows_job s chosen kind f (Some j) = (λ n o. o)
knows_job s chosen kind f None = elim (cases_Bool (f.kept.tag == GREATEST_TAG)) [
  | inl t ↦ rw t (λ n o. o)
  | inr z ↦ rw z (λ n o. o)
]

knows_starts : (s : Server) (chosen : List ℕ) (kind : JobKind) (o : Option File) → Knows s (starts s chosen kind o).step
knows_starts s chosen kind None = (λ n o. o)
knows_starts s chosen kind (Some f) = knows_job s chosen kind f f.job

knows_recalls : (s : Server) (o : Option File) → Knows s (recalls_on s o).step
knows_recalls s None = (λ n o. o)
knows_recalls s (Some f) = (λ n o. o)

-- an order that declares no drive
abbrev pub Keeps : OrderKind → Type 0
Keeps ToDeclare = ⊥
Keeps kind = Unit {0}

knows_ordered : (s : Server) (chosen : List ℕ) (kind : OrderKind) (n : ℕ) → Keeps kind → Knows s (ordered s chosen kind n).step
unfolding ordered
knows_ordered s chosen ToRecall n keeps = knows_recalls s (file_at s.files n)
knows_ordered s chosen ToRevoke n keeps = knows_starts s chosen Revoking (file_at s.files n)
knows_ordered s chosen ToDeclare n keeps = absurd keeps
knows_ordered s chosen ToRebuild n keeps = knows_starts s chosen Rebuilding (file_at s.files n)
knows_ordered s chosen ToAudit n keeps = knows_starts s chosen Auditing (file_at s.files n)

knows_handled : (s : Server) (now : ℕ) (chosen : List ℕ) (from : Node) (m : Message) → (from ≡ node.Server → ⊥)
    → Knows s (handled s now chosen from m)
knows_handled s now chosen (node.Client c) (Asks q) other =
    either_step s ((q.client == c) && nat_le c MAX_CLIENT) (on_request s now chosen q) (still s)
    (knows_request s now chosen q) (λ n o. o)
knows_handled s now chosen (node.Drive d) (Replies r) other = knows_reply s chosen d r
knows_handled s now chosen node.Server (Orders o) other = absurd (other refl)
knows_handled s now chosen from m other = (λ n o. o)

knows_message : (s : Server) (now : ℕ) (chosen : List ℕ) (from : Node) (m : Message) → (from ≡ node.Server → ⊥)
    → Knows s (on_message s now chosen from m)
unfolding on_message
knows_message s now chosen from m other =
    either_step s (counters_have_room s) (handled s now chosen from m) (still s)
    (knows_handled s now chosen from m other) (λ n o. o)

knows_unless : (s : Server) (o : Option Refusal) (f : File) → Knows s (unless_made s (unless_refused o (makes_file s f)))
knows_unless s (Some r) f = (λ n o. o)
knows_unless s None f = (λ n o. o)

-- an input that declares no drive
abbrev pub DeclaresNone : Input → Type 0
DeclaresNone (Hears now from m) = from ≡ node.Server → ⊥
DeclaresNone (Obeys kind n) = Keeps kind
DeclaresNone (Adds d) = d.online ≡ true
DeclaresNone i = Unit {0}

pub step_back : (s : Server) (chosen : List ℕ) (i : Input) → DeclaresNone i → Knows s (step s chosen i)
unfolding create_file reopen
step_back s chosen (Hears now from m) none = knows_message s now chosen from m none
step_back s chosen (Makes n m tag zoned) none =
    knows_unless s (refusal s n m zoned) (unmade s n m tag zoned (drives_for zoned s.drives m chosen))
step_back s chosen (Obeys kind n) none = knows_ordered s chosen kind n none
step_back s chosen Opens none = either_step s (counters_have_room s) _ (still s) (λ n o. o) (λ n o. o)
step_back s chosen (Adds d) none = λ n o. added_back s.drives d n none o
step_back s chosen (Zones d zone) none = λ n o. sym (zoned_out s.drives d zone n) ∙ o
step_back s chosen i none = λ n o. o

-- what a declaration leaves offline
declared_known : (s : Server) (chosen : List ℕ) (d n : ℕ) (b : Bool) → (n ≡ d → ⊥)
    → IsOffline (declares_known s chosen d b).step.state.drives n → IsOffline s.drives n
unfolding declare
declared_known s chosen d n true other o = kept_back s.drives d n other o
declared_known s chosen d n false other o = o

pub declared_back : (s : Server) (chosen : List ℕ) (d n : ℕ) → (n ≡ d → ⊥)
    → IsOffline (step s chosen (Obeys ToDeclare d)).state.drives n → IsOffline s.drives n
unfolding ordered
declared_back s chosen d n other o =
    declared_known s chosen d n (is_some (find (λ (x : Drive). x.number == d) s.drives)) other o
