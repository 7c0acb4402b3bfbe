-- Each step of the server counts its recalls.
use Rattle.std.proofs.Common.{◌≡◌, ◌==◌, ◌&&◌, ℕ, Bool, true, false, nat_le, List, [], ◌∷◌, flat_map, Option, Some, None, refl, ◌∙◌, arith, inl, inr, if◌then◌else◌}
use Rattle.osd_lists.specs.declared.node.Node.{Node}
use Rattle.osd_lists.specs.declared.node.Node.TheVariants.{Server as FromServer, Drive as FromDrive, Client as FromClient}
use Rattle.server_rules.specs.declared.limits.TheConstants.{MAX_CLIENT, GREATEST_TAG}
use Rattle.history_law.specs.Names.{Server, File, Drive, Awaited, Job, JobKind, Revoking, Rebuilding, Auditing, ClientRequest, Answer, Refusal, Busy, Spent, HasStarted, IsSpent, Recall, Recalls, Answers, OrderKind, ToRecall, ToRevoke, ToDeclare, ToRebuild, ToAudit}
use Rattle.server_rules.specs.Going.{Going, noting}
use Rattle.server_rules.specs.Get.{lowest}
use Rattle.server_rules.specs.Jobs.{fence_begins}
use Rattle.server_rules.specs.Served.{Served}
use Rattle.server_rules.specs.Answers.{recalls_from}
use Rattle.server_rules.specs.Slots.{Admit, New, Again, Misordered, admit, slot_of}
use Rattle.server_rules.specs.Files.{Step, still, file_at, at_file, to_drive, to_drives, step_at}
use Rattle.server_rules.specs.Requests.{serves, carried_out, carries_out, by_admit, on_request}
use Rattle.server_rules.specs.Messages.{Message, Asks, Replies, Orders, counters_have_room, heard_at, by_heard, on_drive_reply, handled, on_message, awaited_by}
use Rattle.server_rules.specs.Orders.{Ordered, begins_job, starts, recalls_on, declare, declares_known, ordered, with_result}
use Rattle.server_rules.specs.Making.{refusal, unless_refused, makes_file, unmade, drives_for, create_file}
use Rattle.server_rules.specs.Openings.{reopen}
use Rattle.server_rules.specs.History.{Hears, Makes, Obeys, Adds, Zones, Formats, Resends, Crashes, Opens, unless_made}
use Rattle.server_rules.specs.Laws.{In}
use Rattle.server_rules.proofs.Members.{in_either, in_mapped}
use Rattle.history_law.specs.Recalled.{CountsRecalls, EachStepCounts}

-- ---- steps without recalls

none_to_drives : (ds : List Drive) (cs : List Awaited) (r : Recall) → In (Recalls r) (to_drives ds cs) → ⊥
none_to_drives ds cs r i = let x = in_mapped (to_drive ds) (Recalls r) cs i in cc x.2

no_answer : (a : Answer) (r : Recall) → In (Recalls r) (Answers a ∷ []) → ⊥
no_answer a r (inl e) = cc e
no_answer a r (inr i) = i

none_counted : (s : Server) (t : Step) → t.state.next_recall ≡ s.next_recall
    → ((r : Recall) → In (Recalls r) t.sends → ⊥) → CountsRecalls s t
none_counted s t same none = record {
  recalled = [];
  rises = same ∙ omega arith;
  sends = λ r i. absurd (none r i);
}

still_counts : (s : Server) → CountsRecalls s (still s)
still_counts s = none_counted s (still s) refl (λ r i. i)

either_step : (s : Server) (b : Bool) (x y : Step) → CountsRecalls s x → CountsRecalls s y
    → CountsRecalls s (if b then x else y)
either_step s true x y p q = p
either_step s false x y p q = q

-- ---- a request

carried_counts : (s : Server) (q : ClientRequest) (v : Served) → CountsRecalls s (carried_out s q v)
carried_counts s q v = record {
  recalled = v.recalled;
  rises = refl;
  sends = λ r i. elim (in_either (Recalls r) (to_drives s.drives v.going.effects.sent) _ i) [
    | inl j ↦ absurd (none_to_drives s.drives v.going.effects.sent r j)
    | inr j ↦ elim (in_either (Recalls r) (recalls_from s.next_recall v.recalled) _ j) [
      | inl k ↦ k
      | inr k ↦ absurd (no_answer _ r k)
    ]
  ];
}

carries_counts : (s : Server) (now : ℕ) (chosen : List ℕ) (q : ClientRequest) (o : Option File)
    → CountsRecalls s (carries_out s now chosen q o)
carries_counts s now chosen q None = none_counted s _ refl (no_answer _)
carries_counts s now chosen q (Some f) =
    carried_counts s q (serves (at_file s chosen f) s.next_grant s.format now q.client q.args)

admitted_counts : (s : Server) (now : ℕ) (chosen : List ℕ) (q : ClientRequest) (a : Admit)
    → CountsRecalls s (by_admit s now chosen q a)
admitted_counts s now chosen q New = carries_counts s now chosen q (file_at s.files q.file)
admitted_counts s now chosen q (Again kept) = none_counted s _ refl (no_answer _)
admitted_counts s now chosen q (Misordered expected) = none_counted s _ refl (no_answer _)

asked_counts : (s : Server) (now : ℕ) (chosen : List ℕ) (q : ClientRequest)
    → CountsRecalls s (on_request s now chosen q)
unfolding on_request
asked_counts s now chosen q = admitted_counts s now chosen q (admit (slot_of s.slots q.client) q.sequence)

-- ---- a reply, and orders

heard_counts : (s : Server) (o : Option Going) → CountsRecalls s (by_heard s o)
heard_counts s None = still_counts s
heard_counts s (Some g) = none_counted s _ refl (none_to_drives s.drives g.effects.sent)

either_order : (s : Server) (b : Bool) (x y : Ordered) → CountsRecalls s x.step → CountsRecalls s y.step
    → CountsRecalls s (if b then x else y).step
either_order s true x y p q = p
either_order s false x y p q = q

-- a step at one file
at_counts : (s : Server) (n : ℕ) (g : Going) → CountsRecalls s (step_at s n g)
at_counts s n g = none_counted s _ refl (none_to_drives s.drives g.effects.sent)

begun_counts : (s : Server) (chosen : List ℕ) (kind : JobKind) (f : File) (j : Option Job)
    → CountsRecalls s (begins_job s chosen kind f j).step
begun_counts s chosen kind f (Some j) = at_counts s f.kept.number (noting (at_file s chosen f) (Busy (lowest
    j.awaited)))
begun_counts s chosen kind f None =
    either_order s (f.kept.tag == GREATEST_TAG) (record {
      step = step_at s f.kept.number (noting (at_file s chosen f) Spent);
      result = IsSpent;
    }) (record {
      step = step_at s f.kept.number (fence_begins kind s.format (at_file s chosen f));
      result = HasStarted;
    }) (at_counts s f.kept.number (noting (at_file s chosen f) Spent))
    (at_counts s f.kept.number (fence_begins kind s.format (at_file s chosen f)))

started_counts : (s : Server) (chosen : List ℕ) (kind : JobKind) (o : Option File)
    → CountsRecalls s (starts s chosen kind o).step
started_counts s chosen kind None = still_counts s
started_counts s chosen kind (Some f) = begun_counts s chosen kind f f.job

recalled_counts : (s : Server) (o : Option File) → CountsRecalls s (recalls_on s o).step
recalled_counts s None = still_counts s
recalled_counts s (Some f) = record { recalled = f.kept.grants; rises = refl; sends = λ r i. i }

declared_counts : (s : Server) (chosen : List ℕ) (n : ℕ) (b : Bool) → CountsRecalls s (declares_known s chosen n b).step
unfolding declare
declared_counts s chosen n true = none_counted s _ refl (none_to_drives _ _)
declared_counts s chosen n false = still_counts s

obeyed_counts : (s : Server) (chosen : List ℕ) (kind : OrderKind) (n : ℕ)
    → CountsRecalls s (ordered s chosen kind n).step
unfolding ordered
obeyed_counts s chosen ToRecall n = recalled_counts s (file_at s.files n)
obeyed_counts s chosen ToRevoke n = started_counts s chosen Revoking (file_at s.files n)
obeyed_counts s chosen ToDeclare n = declared_counts s chosen n _
obeyed_counts s chosen ToRebuild n = started_counts s chosen Rebuilding (file_at s.files n)
obeyed_counts s chosen ToAudit n = started_counts s chosen Auditing (file_at s.files n)

answered_counts : (s : Server) (kind : OrderKind) (o : Ordered) → CountsRecalls s o.step
    → CountsRecalls s (with_result kind o)
answered_counts s kind o c = record {
  recalled = c.recalled;
  rises = c.rises;
  sends = λ r i. elim (in_either (Recalls r) o.step.sends _ i) [
    | inl j ↦ c.sends r j
    | inr (inl e) ↦ absurd (cc e)
    | inr (inr none) ↦ absurd none
  ];
}

-- ---- any step

handled_counts : (s : Server) (now : ℕ) (chosen : List ℕ) (from : Node) (m : Message)
    → CountsRecalls s (handled s now chosen from m)
unfolding on_drive_reply
handled_counts s now chosen (FromClient c) (Asks q) =
    either_step s ((q.client == c) && nat_le c MAX_CLIENT) _ _ (asked_counts s now chosen q) (still_counts s)
handled_counts s now chosen (FromDrive d) (Replies r) = heard_counts s (heard_at s chosen d r s.files)
handled_counts s now chosen FromServer (Orders o) = answered_counts s o.order _ (obeyed_counts s chosen o.order
    o.target)
handled_counts s now chosen from m = still_counts s

made_counts : (s : Server) (f : File) (r : Option Refusal) → CountsRecalls s (unless_made s (unless_refused r
    (makes_file s f)))
made_counts s f (Some why) = still_counts s
made_counts s f None = none_counted s _ refl (none_to_drives s.drives _)

none_resent : (ds : List Drive) (fs : List File) (r : Recall)
    → In (Recalls r) (flat_map (λ (f : File). to_drives ds (awaited_by f.job)) fs) → ⊥
none_resent ds [] r i = i
none_resent ds (f ∷ fs) r i = elim (in_either (Recalls r) (to_drives ds (awaited_by f.job)) _ i) [
  | inl j ↦ none_to_drives ds (awaited_by f.job) r j
  | inr j ↦ none_resent ds fs r j
]

pub step_counts : EachStepCounts
unfolding on_message create_file reopen
step_counts s chosen (Hears now from m) =
    either_step s (counters_have_room s) _ _ (handled_counts s now chosen from m) (still_counts s)
step_counts s chosen (Makes n m tag zoned) =
    made_counts s (unmade s n m tag zoned (drives_for zoned s.drives m chosen)) (refusal s n m zoned)
step_counts s chosen (Obeys kind n) = obeyed_counts s chosen kind n
step_counts s chosen (Adds d) = none_counted s _ refl (λ r i. i)
step_counts s chosen (Zones d zone) = none_counted s _ refl (λ r i. i)
step_counts s chosen (Formats n) = none_counted s _ refl (λ r i. i)
step_counts s chosen Resends = none_counted s _ refl (none_resent s.drives s.files)
step_counts s chosen Crashes = none_counted s _ refl (λ r i. i)
step_counts s chosen Opens =
    either_step s (counters_have_room s) _ _ (none_counted s _ refl (none_to_drives s.drives _)) (still_counts s)
