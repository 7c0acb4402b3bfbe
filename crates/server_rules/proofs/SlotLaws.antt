-- Requests are carried out by the order of their numbers, and a repeat gets the same answer.
use Rattle.std.specs.Prelude.{ℕ, Bool, true, false, List, [], ◌∷◌, ◌++◌, Option, Some, None, refl, ◌≡◌, ◌+◌, ◌==◌, ◌&&◌, ◌⊎◌, nat_lt, nat_le, if◌then◌else◌, find, is_some}
use Rattle.std.proofs.Common.{arith, inl, inr, sym, ap, subst, eq-eqb, ◌∙◌}
use Rattle.std.proofs.lemmas.Bool.{cases_Bool, eqb-true}
use Rattle.std.proofs.lemmas.Bool.Decides.{nat_tests}
use Rattle.std.proofs.lemmas.List.{append_assoc}
use Rattle.osd_lists.specs.declared.node.Node.{Node}
use Rattle.osd_lists.specs.declared.node.Node.TheVariants.{Server as FromServer, Drive as FromDrive, Client as FromClient}
use Rattle.server_rules.specs.declared.limits.TheConstants.{MAX_CLIENT, GREATEST_TAG, GREATEST_SEQUENCE}
use Rattle.server_rules.specs.State.{Server, File, Slot, Answer, JobKind, Job, ClientRequest, Reply, OrderKind, ToRecall, ToRevoke, ToDeclare, ToRebuild, ToAudit, RawMap, Refusal, Revoking, Rebuilding, Auditing, Outgoing, Answers}
use Rattle.server_rules.specs.Slots.{Admit, New, Again, Misordered, admit, admit_after, slot_of}
use Rattle.server_rules.specs.Going.{Going}
use Rattle.server_rules.specs.Served.{Served}
use Rattle.server_rules.specs.Files.{Step, file_at, at_file, to_drives}
use Rattle.server_rules.specs.Requests.{serves, carries_out, by_admit, on_request, answer_with, answer_without}
use Rattle.server_rules.specs.Answers.{recalls_from}
use Rattle.server_rules.specs.Making.{refusal, unless_refused, makes_file, unmade, drives_for, create_file}
use Rattle.server_rules.specs.Messages.{heard_at, by_heard, on_drive_reply, Message, Asks, Replies, Orders, handled, on_message, counters_have_room}
use Rattle.server_rules.specs.Orders.{begins_job, starts, recalls_on, declare, declares_known, ordered}
use Rattle.server_rules.specs.Openings.{reopen}
use Rattle.server_rules.specs.History.{Input, Hears, Makes, Obeys, Adds, Zones, Formats, Resends, Crashes, Opens, Act, step, state_after, unless_made}
use Rattle.server_rules.specs.Laws.{last_of, where_new, carried_for, carried_by, carried, CountOnFrom, IsAnsweredAgain, OtherRequestsChangeNothing, RepeatsAreAnsweredAlike, RequestsAreCarriedOutInOrder}
use Rattle.server_rules.proofs.FileLaws.{keep_same, keep_other}

-- ---- steps that leave the slots alone

pub same_heard : (s : Server) (o : Option Going) → (by_heard s o).state.slots ≡ s.slots
same_heard s None = refl
same_heard s (Some g) = refl

pub same_reply : (s : Server) (chosen : List ℕ) (drive : ℕ) (r : Reply) → (on_drive_reply s chosen drive r).state.slots ≡ s.slots
unfolding on_drive_reply
same_reply s chosen drive r = same_heard s (heard_at s chosen drive r s.files)

pub same_job : (s : Server) (chosen : List ℕ) (kind : JobKind) (f : File) (j : Option Job) →
    (begins_job s chosen kind f j).step.state.slots ≡ s.slots
same_job s chosen kind f (Some j) = refl
same_job s chosen kind f None = elim (cases_Bool (f.kept.tag == GREATEST_TAG)) [ inl t ↦ rw t refl | inr z ↦ rw z refl ]

pub same_start : (s : Server) (chosen : List ℕ) (kind : JobKind) (o : Option File) →
    (starts s chosen kind o).step.state.slots ≡ s.slots
same_start s chosen kind None = refl
same_start s chosen kind (Some f) = same_job s chosen kind f f.job

pub same_recall : (s : Server) (o : Option File) → (recalls_on s o).step.state.slots ≡ s.slots
same_recall s None = refl
same_recall s (Some f) = refl

pub same_declared : (s : Server) (chosen : List ℕ) (drive : ℕ) (b : Bool) →
    (declares_known s chosen drive b).step.state.slots ≡ s.slots
unfolding declare
same_declared s chosen drive true = refl
same_declared s chosen drive false = refl

pub same_ordered : (s : Server) (chosen : List ℕ) (kind : OrderKind) (n : ℕ) →
    (ordered s chosen kind n).step.state.slots ≡ s.slots
unfolding ordered
same_ordered s chosen ToRecall n = same_recall s (file_at s.files n)
same_ordered s chosen ToRevoke n = same_start s chosen Revoking (file_at s.files n)
same_ordered s chosen ToDeclare n = same_declared s chosen n (is_some (find (λ d. d.number == n) s.drives))
same_ordered s chosen ToRebuild n = same_start s chosen Rebuilding (file_at s.files n)
same_ordered s chosen ToAudit n = same_start s chosen Auditing (file_at s.files n)

pub same_made : (s : Server) (n : ℕ) (m : RawMap) (tag : ℕ) (zoned : Bool) (ds : List ℕ) (o : Option Refusal) →
    (unless_made s (unless_refused o (makes_file s (unmade s n m tag zoned ds)))).state.slots ≡ s.slots
same_made s n m tag zoned ds None = refl
same_made s n m tag zoned ds (Some r) = refl

pub same_created : (s : Server) (n : ℕ) (m : RawMap) (tag : ℕ) (zoned : Bool) (chosen : List ℕ) →
    (unless_made s (create_file s n m tag zoned chosen)).state.slots ≡ s.slots
unfolding create_file
same_created s n m tag zoned chosen = same_made s n m tag zoned (drives_for zoned s.drives m chosen) (refusal s n m zoned)

pub same_reopened : (s : Server) → (reopen s).state.slots ≡ s.slots
unfolding reopen
same_reopened s = elim (cases_Bool (counters_have_room s)) [ inl t ↦ rw t refl | inr z ↦ rw z refl ]

-- ---- a request

-- the number behind the last
pub admit_new : (o : Option Slot) (n : ℕ) → admit o n ≡ New → n ≡ last_of o + 1
unfolding admit admit_after
admit_new None n e =
    elim (cases_Bool ((n == 0 + 1) && nat_lt 0 GREATEST_SEQUENCE))
    [ inl t ↦ grind (arith, nat_tests, t) | inr z ↦ absurd (cc (rw z at e)) ]
admit_new (Some t) n e = elim (cases_Bool (n == t.last)) [
  | inl x ↦ absurd (cc (rw x at e))
  | inr y ↦ elim
      (cases_Bool ((n == t.last + 1) && nat_lt t.last GREATEST_SEQUENCE))
      [ inl x ↦ grind (arith, nat_tests, x) | inr z ↦ absurd (cc (rw (y, z) at e)) ]
]

-- the last number again
pub admit_again : (o : Option Slot) (t : Slot) (n : ℕ) → o ≡ Some t → n ≡ t.last → admit o n ≡ Again t.kept
unfolding admit
admit_again o t n e m = rw e (rw (eq-eqb n t.last m) refl)

-- a request that is carried out leaves its answer in the slot, and answers it last
abbrev pub IsCarriedOut : Server → ClientRequest → Step → Type 0
IsCarriedOut s q t =
    (a : Answer) × (front : List Outgoing) × (t.sends ≡ front ++ (Answers a ∷ []))
    × (slot_of t.state.slots q.client ≡ Some (record { client = q.client; last = q.sequence; kept = a }))

pub leaves_answer : (s : Server) (now : ℕ) (chosen : List ℕ) (q : ClientRequest) (o : Option File) →
    IsCarriedOut s q (carries_out s now chosen q o)
leaves_answer s now chosen q None =
    let a : Answer = answer_without q
    in (a, [], refl, keep_same s.slots (record { client = q.client; last = q.sequence; kept = a }))
leaves_answer s now chosen q (Some f) =
    let v : Served = serves (at_file s chosen f) s.next_grant s.format now q.client q.args
    in (
      answer_with s q v,
      to_drives s.drives v.going.effects.sent ++ recalls_from s.next_recall v.recalled,
      sym (append_assoc (to_drives s.drives v.going.effects.sent) (recalls_from s.next_recall v.recalled)
          (Answers (answer_with s q v) ∷ [])),
      keep_same s.slots (record { client = q.client; last = q.sequence; kept = answer_with s q v }),
    )

pub by_new : (s : Server) (now : ℕ) (chosen : List ℕ) (q : ClientRequest) (a : Admit) → a ≡ New →
    IsCarriedOut s q (by_admit s now chosen q a)
by_new s now chosen q New e = leaves_answer s now chosen q (file_at s.files q.file)
by_new s now chosen q (Again kept) e = absurd (cc e)
by_new s now chosen q (Misordered expected) e = absurd (cc e)

pub carried_out : (s : Server) (now : ℕ) (chosen : List ℕ) (q : ClientRequest) →
    admit (slot_of s.slots q.client) q.sequence ≡ New → IsCarriedOut s q (on_request s now chosen q)
unfolding on_request
carried_out s now chosen q e = by_new s now chosen q (admit (slot_of s.slots q.client) q.sequence) e

-- one that isn't carried out changes nothing
pub by_old : (s : Server) (now : ℕ) (chosen : List ℕ) (q : ClientRequest) (a : Admit) → where_new a q.sequence ≡ [] →
    (by_admit s now chosen q a).state ≡ s
by_old s now chosen q New e = absurd (cc e)
by_old s now chosen q (Again kept) e = refl
by_old s now chosen q (Misordered expected) e = refl

pub not_carried : (s : Server) (now : ℕ) (chosen : List ℕ) (q : ClientRequest) →
    where_new (admit (slot_of s.slots q.client) q.sequence) q.sequence ≡ [] → (on_request s now chosen q).state ≡ s
unfolding on_request
not_carried s now chosen q e = by_old s now chosen q (admit (slot_of s.slots q.client) q.sequence) e

-- the slot of another client stays
pub other_kept : (s : Server) (now : ℕ) (chosen : List ℕ) (q : ClientRequest) (client : ℕ) (o : Option File) →
    (q.client == client) ≡ false →
    slot_of (carries_out s now chosen q o).state.slots client ≡ slot_of s.slots client
other_kept s now chosen q client None z =
    keep_other s.slots (record { client = q.client; last = q.sequence; kept = answer_without q }) client z
other_kept s now chosen q client (Some f) z =
    keep_other s.slots
    (record {
      client = q.client;
      last = q.sequence;
      kept =
          answer_with s q (serves (at_file s chosen f) s.next_grant s.format now q.client q.args);
    }) client z

pub other_admitted : (s : Server) (now : ℕ) (chosen : List ℕ) (q : ClientRequest) (client : ℕ) (a : Admit) →
    (q.client == client) ≡ false →
    slot_of (by_admit s now chosen q a).state.slots client ≡ slot_of s.slots client
other_admitted s now chosen q client New z = other_kept s now chosen q client (file_at s.files q.file) z
other_admitted s now chosen q client (Again kept) z = refl
other_admitted s now chosen q client (Misordered expected) z = refl

pub other_slot : (s : Server) (now : ℕ) (chosen : List ℕ) (q : ClientRequest) (client : ℕ) → (q.client == client) ≡ false →
    slot_of (on_request s now chosen q).state.slots client ≡ slot_of s.slots client
unfolding on_request
other_slot s now chosen q client z = other_admitted s now chosen q client (admit (slot_of s.slots q.client) q.sequence) z

-- ---- any step

-- either none of the client's requests is carried out and its slot stays, or one is, with the number behind the last
abbrev pub Counts : Server → (client : ℕ) → (now_carried : List ℕ) → Server → Type 0
Counts s client ns t =
    ((ns ≡ []) × (slot_of t.slots client ≡ slot_of s.slots client))
    ⊎ ((n : ℕ) × (ns ≡ n ∷ []) × (n ≡ last_of (slot_of s.slots client) + 1) × (last_of (slot_of t.slots client) ≡ n))

pub none_counts : (s : Server) (client : ℕ) (t : Server) → t.slots ≡ s.slots → Counts s client [] t
none_counts s client t e = inl (refl, ap (λ ss. slot_of ss client) e)

pub slot_last : (o : Option Slot) (t : Slot) → o ≡ Some t → last_of o ≡ t.last
slot_last o t e = rw e refl

-- of its own requests
pub own_counts : (s : Server) (now : ℕ) (chosen : List ℕ) (q : ClientRequest) (a : Admit) →
    admit (slot_of s.slots q.client) q.sequence ≡ a →
    Counts s q.client (where_new a q.sequence) (on_request s now chosen q).state
own_counts s now chosen q New e =
    let w : IsCarriedOut s q (on_request s now chosen q) = carried_out s now chosen q e
    in inr (
      q.sequence,
      refl,
      admit_new (slot_of s.slots q.client) q.sequence e,
      slot_last (slot_of (on_request s now chosen q).state.slots q.client) _ w.3,
    )
own_counts s now chosen q (Again kept) e = inl (refl, ap (λ t. slot_of t.slots q.client) (not_carried s now chosen q (rw e refl)))
own_counts s now chosen q (Misordered expected) e =
    inl (refl, ap (λ t. slot_of t.slots q.client) (not_carried s now chosen q (rw e refl)))

-- of a request that is taken, the client's or another's
pub request_counts : (s : Server) (now client : ℕ) (chosen : List ℕ) (q : ClientRequest) → (b : Bool) → (q.client == client) ≡ b →
    Counts s client (if b then where_new (admit (slot_of s.slots client) q.sequence) q.sequence else [])
    (on_request s now chosen q).state
request_counts s now client chosen q true e =
    subst (λ c. Counts s c (where_new (admit (slot_of s.slots c) q.sequence) q.sequence) (on_request s now chosen q).state)
    (eqb-true q.client client e)
    (own_counts s now chosen q (admit (slot_of s.slots q.client) q.sequence) refl)
request_counts s now client chosen q false e = inl (refl, other_slot s now chosen q client e)

-- a request from client c, once the counters have room
pub taken_counts : (s : Server) (now client c : ℕ) (chosen : List ℕ) (q : ClientRequest) →
    Counts s client
    (if (c == client) && ((q.client == c) && nat_le c MAX_CLIENT) then where_new
    (admit (slot_of s.slots client) q.sequence) q.sequence else [])
    (handled s now chosen (FromClient c) (Asks q)).state
taken_counts s now client c chosen q = elim (cases_Bool ((q.client == c) && nat_le c MAX_CLIENT)) [
  | inl y ↦ elim (cases_Bool (c == client)) [
    | inl x ↦ rw (x, y) (request_counts s now client chosen q true (grind (arith, nat_tests, x, y)))
    | inr x ↦ rw (x, y) (request_counts s now client chosen q false (grind (arith, nat_tests, x, y)))
  ]
  | inr y ↦ elim
      (cases_Bool (c == client))
      [ inl x ↦ rw (x, y) (none_counts s client s refl) | inr x ↦ rw (x, y) (none_counts s client s refl) ]
]

pub message_counts : (s : Server) (now client : ℕ) (chosen : List ℕ) (from : Node) (m : Message) →
    Counts s client (carried_for s client from m) (on_message s now chosen from m).state
unfolding on_message
message_counts s now client chosen (FromClient c) (Asks q) = elim (cases_Bool (counters_have_room s)) [
  | inl l ↦ rw l (taken_counts s now client c chosen q)
  | inr z ↦ elim
      (cases_Bool (c == client))
      [ inl x ↦ rw (x, z) (none_counts s client s refl) | inr x ↦ rw (x, z) (none_counts s client s refl) ]
]
message_counts s now client chosen (FromDrive d) (Replies r) =
    none_counts s client (on_message s now chosen (FromDrive d) (Replies r)).state
    (elim (cases_Bool (counters_have_room s)) [ inl t ↦ rw t (same_reply s chosen d r) | inr z ↦ rw z refl ])
message_counts s now client chosen FromServer (Orders o) =
    none_counts s client (on_message s now chosen FromServer (Orders o)).state
    (elim (cases_Bool (counters_have_room s)) [ inl t ↦ rw t (same_ordered s chosen o.order o.target) | inr z ↦ rw z refl ])
message_counts s now client chosen from m =
    none_counts s client (on_message s now chosen from m).state
    (elim (cases_Bool (counters_have_room s)) [ inl t ↦ rw t refl | inr z ↦ rw z refl ])

pub step_counts : (s : Server) (client : ℕ) (chosen : List ℕ) (i : Input) →
    Counts s client (carried_by s client i) (step s chosen i).state
step_counts s client chosen (Hears now from m) = message_counts s now client chosen from m
step_counts s client chosen (Makes n m tag zoned) =
    none_counts s client (step s chosen (Makes n m tag zoned)).state (same_created s n m tag zoned chosen)
step_counts s client chosen (Obeys kind n) =
    none_counts s client (step s chosen (Obeys kind n)).state (same_ordered s chosen kind n)
step_counts s client chosen (Zones d z) = none_counts s client (step s chosen (Zones d z)).state refl
step_counts s client chosen (Adds d) = none_counts s client (step s chosen (Adds d)).state refl
step_counts s client chosen (Formats n) = none_counts s client (step s chosen (Formats n)).state refl
step_counts s client chosen Resends = none_counts s client s refl
step_counts s client chosen Crashes = none_counts s client (step s chosen Crashes).state refl
step_counts s client chosen Opens = none_counts s client (step s chosen Opens).state (same_reopened s)

-- ---- any steps

pub add_counts : (s t : Server) (client : ℕ) (ns rest : List ℕ) → Counts s client ns t →
    CountOnFrom (last_of (slot_of t.slots client)) rest →
    CountOnFrom (last_of (slot_of s.slots client)) (ns ++ rest)
add_counts s t client ns rest (inl w) h = rw w.0 (subst (λ o. CountOnFrom (last_of o) rest) w.1 h)
add_counts s t client ns rest (inr w) h = rw w.1 (w.2, subst (λ k. CountOnFrom k rest) w.3 h)

pub count_on : RequestsAreCarriedOutInOrder
unfolding carried
count_on s client [] = tt
count_on s client (a ∷ acts) =
    add_counts s (step s a.chosen a.input).state client (carried_by s client a.input)
    (carried (step s a.chosen a.input).state client acts)
    (step_counts s client a.chosen a.input) (count_on (step s a.chosen a.input).state client acts)

pub others_change_nothing : OtherRequestsChangeNothing
unfolding on_message
others_change_nothing s now client chosen q e = elim (cases_Bool (counters_have_room s)) [
  | inl l ↦ elim (cases_Bool ((q.client == client) && nat_le client MAX_CLIENT)) [
    | inl y ↦ rw (l, y)
        (not_carried s now chosen q
        (subst (λ c. where_new (admit (slot_of s.slots c) q.sequence) q.sequence ≡ []) (sym (is_client y))
        (rw (eq-eqb client client refl, l, y) at e)))
    | inr y ↦ rw (l, y) refl
  ]
  | inr z ↦ rw z refl
]
  where
    is_client : ((q.client == client) && nat_le client MAX_CLIENT) ≡ true → q.client ≡ client
    is_client y = grind (arith, nat_tests, y)

pub both_empty : (xs ys : List ℕ) → xs ++ ys ≡ [] → (xs ≡ []) × (ys ≡ [])
both_empty [] ys e = (refl, e)
both_empty (x ∷ xs) ys e = absurd (cc e)

pub none_and_one : (ns : List ℕ) (n : ℕ) → ns ≡ [] → ns ≡ n ∷ [] → ⊥
none_and_one ns n e f = cc (sym e ∙ f)

pub stays_by : (s t : Server) (client : ℕ) (ns : List ℕ) → ns ≡ [] → Counts s client ns t →
    slot_of t.slots client ≡ slot_of s.slots client
stays_by s t client ns e (inl w) = w.1
stays_by s t client ns e (inr w) = absurd (none_and_one ns w.0 e w.1)

-- the slot stays until a request of its client is carried out
pub slot_after : (s : Server) (client : ℕ) (acts : List Act) → carried s client acts ≡ [] →
    slot_of (state_after s acts).slots client ≡ slot_of s.slots client
unfolding carried
slot_after s client [] e = refl
slot_after s client (a ∷ acts) e =
    slot_after (step s a.chosen a.input).state client acts (both_empty (carried_by s client a.input) _ e).1
    ∙ stays_by s (step s a.chosen a.input).state client (carried_by s client a.input)
    (both_empty (carried_by s client a.input) _ e).0 (step_counts s client a.chosen a.input)

pub answers_again : (s : Server) (q : ClientRequest) (a : Answer) →
    slot_of s.slots q.client ≡ Some (record { client = q.client; last = q.sequence; kept = a }) → IsAnsweredAgain s q a
unfolding on_request
answers_again s q a e = λ now chosen r c n.
    ap (by_admit s now chosen r)
    (admit_again (slot_of s.slots r.client) (record { client = q.client; last = q.sequence; kept = a }) r.sequence
    (ap (slot_of s.slots) c ∙ e) n)

pub repeats_alike : RepeatsAreAnsweredAlike
repeats_alike s now chosen q e =
    let w : IsCarriedOut s q (on_request s now chosen q) = carried_out s now chosen q e
    in (
      w.0,
      w.1,
      w.2,
      λ acts none. answers_again (state_after (on_request s now chosen q).state acts) q w.0
          (slot_after (on_request s now chosen q).state q.client acts none ∙ w.3),
    )
