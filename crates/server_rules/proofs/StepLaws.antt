-- Every step keeps that jobs that rest await something and that no two grants conflict; and it changes one file at most.
use Rattle.std.specs.Prelude.{ℕ, Bool, true, false, List, [], ◌∷◌, Option, Some, None, refl, ◌≡◌, ◌==◌, ◌&&◌, nat_le, find, map, is_some}
use Rattle.std.proofs.Common.{inl, inr, ◌∙◌}
use Rattle.std.proofs.lemmas.Bool.{cases_Bool}
use Rattle.osd_lists.specs.declared.node.Node.{Node}
use Rattle.osd_lists.specs.declared.node.Node.TheVariants.{Server as FromServer, Drive as FromDrive, Client as FromClient}
use Rattle.server_rules.specs.declared.limits.TheConstants.{MAX_CLIENT, GREATEST_TAG}
use Rattle.server_rules.specs.State.{Server, File, Kept, Drive, JobKind, Job, ClientRequest, Reply, OrderKind, ToRecall, ToRevoke, ToDeclare, ToRebuild, ToAudit, Effects, RawMap, Refusal, Revoking, Rebuilding, Auditing}
use Rattle.server_rules.specs.Slots.{Admit, New, Again, Misordered, admit, slot_of}
use Rattle.server_rules.specs.Going.{Going}
use Rattle.server_rules.specs.Jobs.{making, declares, fence_begins}
use Rattle.server_rules.specs.Replies.{on_reply}
use Rattle.server_rules.specs.Files.{file_at, at_file}
use Rattle.server_rules.specs.Requests.{serves, carries_out, by_admit, on_request}
use Rattle.server_rules.specs.Making.{new_server, refusal, unless_refused, makes_file, with_file, unmade, drives_for, create_file}
use Rattle.server_rules.specs.Messages.{heard_at, or_else, by_heard, on_drive_reply, Message, Asks, Replies, Orders, handled, on_message, counters_have_room}
use Rattle.server_rules.specs.Orders.{begins_job, starts, recalls_on, declares_each, declare, declares_known, ordered}
use Rattle.server_rules.specs.Openings.{crashed_file, opens, opens_each, reopen}
use Rattle.server_rules.specs.History.{Input, Hears, Makes, Obeys, Adds, Zones, Formats, Resends, Crashes, Opens, Act, step, state_after, unless_made}
use Rattle.server_rules.specs.Laws.{IsSafe, AreSafe, Leaves, OthersStay, declares_one, tells_to_declare, goes_through_all}
use Rattle.server_rules.proofs.GrantLaws.{apart_none}
use Rattle.server_rules.proofs.FileLaws.{number_at, put_other, add_other, safe_at, safe_put, safe_add}
use Rattle.server_rules.proofs.HandlerLaws.{Heard_out, leaves_fence, leaves_declared, leaves_opened, leaves_reply, leaves_served, leaves_new}

-- ---- a request

pub safe_carried : (s : Server) (now : ℕ) (chosen : List ℕ) (q : ClientRequest) (o : Option File) → file_at s.files q.file ≡ o →
    AreSafe s.files →
    AreSafe (carries_out s now chosen q o).state.files
safe_carried s now chosen q None e h = h
safe_carried s now chosen q (Some f) e h =
    safe_put s.files q.file _ h
    (leaves_served (at_file s chosen f) s.next_grant s.format now q.client q.args (safe_at s.files q.file f h e)).safe

pub safe_admitted : (s : Server) (now : ℕ) (chosen : List ℕ) (q : ClientRequest) (a : Admit) → AreSafe s.files →
    AreSafe (by_admit s now chosen q a).state.files
safe_admitted s now chosen q New h = safe_carried s now chosen q (file_at s.files q.file) refl h
safe_admitted s now chosen q (Again kept) h = h
safe_admitted s now chosen q (Misordered expected) h = h

pub safe_request : (s : Server) (now : ℕ) (chosen : List ℕ) (q : ClientRequest) → AreSafe s.files →
    AreSafe (on_request s now chosen q).state.files
unfolding on_request
safe_request s now chosen q h = safe_admitted s now chosen q (admit (slot_of s.slots q.client) q.sequence) h

pub others_carried : (s : Server) (now : ℕ) (chosen : List ℕ) (q : ClientRequest) (o : Option File) → file_at s.files q.file ≡ o →
    AreSafe s.files →
    OthersStay q.file s.files (carries_out s now chosen q o).state.files
others_carried s now chosen q None e h = λ n z. refl
others_carried s now chosen q (Some f) e h =
    put_other s.files q.file (serves (at_file s chosen f) s.next_grant s.format now q.client q.args).going.file
    ((leaves_served (at_file s chosen f) s.next_grant s.format now q.client q.args (safe_at s.files q.file f h e)).number
    ∙ number_at s.files q.file f e)

pub others_admitted : (s : Server) (now : ℕ) (chosen : List ℕ) (q : ClientRequest) (a : Admit) → AreSafe s.files →
    OthersStay q.file s.files (by_admit s now chosen q a).state.files
others_admitted s now chosen q New h = others_carried s now chosen q (file_at s.files q.file) refl h
others_admitted s now chosen q (Again kept) h = λ n z. refl
others_admitted s now chosen q (Misordered expected) h = λ n z. refl

-- a request changes its file at most
pub others_request : (s : Server) (now : ℕ) (chosen : List ℕ) (q : ClientRequest) → AreSafe s.files →
    OthersStay q.file s.files (on_request s now chosen q).state.files
unfolding on_request
others_request s now chosen q h = others_admitted s now chosen q (admit (slot_of s.slots q.client) q.sequence) h

-- ---- a reply

abbrev pub Safe_out : Option Going → Type 0
Safe_out None = Unit {0}
Safe_out (Some g) = IsSafe g.file

pub safe_from : (k : Kept) (o : Option Going) → Heard_out k o → Safe_out o
safe_from k None h = tt
safe_from k (Some g) h = h.safe

pub safe_either : (a b : Option Going) → Safe_out a → Safe_out b → Safe_out (or_else a b)
safe_either None b h i = i
safe_either (Some g) b h i = h

pub safe_heard : (s : Server) (chosen : List ℕ) (drive : ℕ) (r : Reply) (fs : List File) → AreSafe fs →
    Safe_out (heard_at s chosen drive r fs)
unfolding heard_at
safe_heard s chosen drive r [] h = tt
safe_heard s chosen drive r (f ∷ fs) h =
    safe_either (on_reply (at_file s chosen f) drive r) _
    (safe_from f.kept (on_reply (at_file s chosen f) drive r) (leaves_reply (at_file s chosen f) drive r h.0))
    (safe_heard s chosen drive r fs h.1)

pub safe_by_heard : (s : Server) (o : Option Going) → AreSafe s.files → Safe_out o → AreSafe (by_heard s o).state.files
safe_by_heard s None h i = h
safe_by_heard s (Some g) h i = safe_put s.files g.file.kept.number g.file h i

pub safe_reply : (s : Server) (chosen : List ℕ) (drive : ℕ) (r : Reply) → AreSafe s.files →
    AreSafe (on_drive_reply s chosen drive r).state.files
unfolding on_drive_reply
safe_reply s chosen drive r h = safe_by_heard s (heard_at s chosen drive r s.files) h (safe_heard s chosen drive r s.files h)

pub others_by_heard : (s : Server) (o : Option Going) → (m : ℕ) × OthersStay m s.files (by_heard s o).state.files
others_by_heard s None = (0, λ n z. refl)
others_by_heard s (Some g) = (g.file.kept.number, put_other s.files g.file.kept.number g.file refl)

-- a reply changes one file at most
pub others_reply : (s : Server) (chosen : List ℕ) (drive : ℕ) (r : Reply) →
    (m : ℕ) × OthersStay m s.files (on_drive_reply s chosen drive r).state.files
unfolding on_drive_reply
others_reply s chosen drive r = others_by_heard s (heard_at s chosen drive r s.files)

-- ---- orders

pub safe_job : (s : Server) (chosen : List ℕ) (kind : JobKind) (f : File) (j : Option Job) → AreSafe s.files → IsSafe f →
    AreSafe (begins_job s chosen kind f j).step.state.files
safe_job s chosen kind f (Some j) h i = safe_put s.files f.kept.number f h i
safe_job s chosen kind f None h i = elim (cases_Bool (f.kept.tag == GREATEST_TAG)) [
  | inl t ↦ rw t (safe_put s.files f.kept.number f h i)
  | inr z ↦ rw z (safe_put s.files f.kept.number _ h (leaves_fence kind s.format (at_file s chosen f)).safe)
]

pub safe_starts : (s : Server) (chosen : List ℕ) (kind : JobKind) (n : ℕ) (o : Option File) → file_at s.files n ≡ o →
    AreSafe s.files → AreSafe (starts s chosen kind o).step.state.files
safe_starts s chosen kind n None e h = h
safe_starts s chosen kind n (Some f) e h = safe_job s chosen kind f f.job h (safe_at s.files n f h e)

pub safe_recalls : (s : Server) (o : Option File) → AreSafe s.files → AreSafe (recalls_on s o).step.state.files
safe_recalls s None h = h
safe_recalls s (Some f) h = h

pub safe_each : (drive : ℕ) (ds : List Drive) (fs : List File) (m : Effects) (chosen : List ℕ) → AreSafe fs →
    AreSafe (declares_each drive ds fs m chosen).files
unfolding declares_each
safe_each drive ds [] m chosen h = tt
safe_each drive ds (f ∷ fs) m chosen h =
    let g : Going = declares (record { file = f; effects = m; drives = ds; chosen = chosen }) drive
    in (
      (leaves_declared (record { file = f; effects = m; drives = ds; chosen = chosen }) drive h.0).safe,
      safe_each drive ds fs g.effects g.chosen h.1,
    )

pub safe_declared : (s : Server) (chosen : List ℕ) (drive : ℕ) (b : Bool) → AreSafe s.files →
    AreSafe (declares_known s chosen drive b).step.state.files
unfolding declare
safe_declared s chosen drive true h = safe_each drive _ s.files _ chosen h
safe_declared s chosen drive false h = h

pub safe_ordered : (s : Server) (chosen : List ℕ) (kind : OrderKind) (n : ℕ) → AreSafe s.files →
    AreSafe (ordered s chosen kind n).step.state.files
unfolding ordered
safe_ordered s chosen ToRecall n h = safe_recalls s (file_at s.files n) h
safe_ordered s chosen ToRevoke n h = safe_starts s chosen Revoking n (file_at s.files n) refl h
safe_ordered s chosen ToDeclare n h = safe_declared s chosen n (is_some (find (λ d. d.number == n) s.drives)) h
safe_ordered s chosen ToRebuild n h = safe_starts s chosen Rebuilding n (file_at s.files n) refl h
safe_ordered s chosen ToAudit n h = safe_starts s chosen Auditing n (file_at s.files n) refl h

-- ---- messages

pub safe_handled : (s : Server) (now : ℕ) (chosen : List ℕ) (from : Node) (m : Message) → AreSafe s.files →
    AreSafe (handled s now chosen from m).state.files
safe_handled s now chosen (FromClient c) (Asks q) h = elim (cases_Bool ((q.client == c) && nat_le c MAX_CLIENT)) [
  | inl t ↦ rw t (safe_request s now chosen q h)
  | inr z ↦ rw z h
]
safe_handled s now chosen (FromDrive d) (Replies r) h = safe_reply s chosen d r h
safe_handled s now chosen FromServer (Orders o) h = safe_ordered s chosen o.order o.target h
safe_handled s now chosen from m h = h

pub safe_message : (s : Server) (now : ℕ) (chosen : List ℕ) (from : Node) (m : Message) → AreSafe s.files →
    AreSafe (on_message s now chosen from m).state.files
unfolding on_message
safe_message s now chosen from m h = elim (cases_Bool (counters_have_room s)) [
  | inl t ↦ rw t (safe_handled s now chosen from m h)
  | inr z ↦ rw z h
]

-- ---- making and opening

pub safe_made : (s : Server) (n : ℕ) (m : RawMap) (tag : ℕ) (zoned : Bool) (ds : List ℕ) (o : Option Refusal) → AreSafe s.files →
    AreSafe (unless_made s (unless_refused o (makes_file s (unmade s n m tag zoned ds)))).state.files
safe_made s n m tag zoned ds (Some r) h = h
safe_made s n m tag zoned ds None h =
    safe_put _ n _ (safe_add s.files _ h (record { rests = tt; apart = apart_none; alone = tt }))
    (leaves_new (at_file (with_file s (unmade s n m tag zoned ds)) [] (unmade s n m tag zoned ds)) refl).safe

pub safe_create : (s : Server) (n : ℕ) (m : RawMap) (tag : ℕ) (zoned : Bool) (chosen : List ℕ) → AreSafe s.files →
    AreSafe (unless_made s (create_file s n m tag zoned chosen)).state.files
unfolding create_file
safe_create s n m tag zoned chosen h = safe_made s n m tag zoned _ (refusal s n m zoned) h

pub safe_crashed : (fs : List File) → AreSafe fs → AreSafe (map crashed_file fs)
safe_crashed [] h = tt
safe_crashed (f ∷ fs) h = (record { rests = tt; apart = h.0.apart; alone = tt }, safe_crashed fs h.1)

pub safe_opened : (format : ℕ) (ds : List Drive) (fs : List File) (m : Effects) → AreSafe fs →
    AreSafe (opens_each format ds fs m).files
unfolding opens_each
safe_opened format ds [] m h = tt
safe_opened format ds (f ∷ fs) m h =
    let g : Going = opens format (record { file = f; effects = m; drives = ds; chosen = [] })
    in (
      (leaves_opened format (record { file = f; effects = m; drives = ds; chosen = [] }) h.0).safe,
      safe_opened format ds fs g.effects h.1,
    )

pub safe_reopened : (s : Server) → AreSafe s.files → AreSafe (reopen s).state.files
unfolding reopen
safe_reopened s h =
    elim (cases_Bool (counters_have_room s)) [ inl t ↦ rw t (safe_opened s.format s.drives s.files _ h) | inr z ↦ rw z h ]

-- ---- every step

pub safe_step : (s : Server) (chosen : List ℕ) (i : Input) → AreSafe s.files → AreSafe (step s chosen i).state.files
safe_step s chosen (Hears now from m) h = safe_message s now chosen from m h
safe_step s chosen (Makes n m tag zoned) h = safe_create s n m tag zoned chosen h
safe_step s chosen (Obeys kind n) h = safe_ordered s chosen kind n h
safe_step s chosen (Adds d) h = h
safe_step s chosen (Zones d z) h = h
safe_step s chosen (Formats n) h = h
safe_step s chosen Resends h = h
safe_step s chosen Crashes h = safe_crashed s.files h
safe_step s chosen Opens h = safe_reopened s h

pub safe_after : (s : Server) (acts : List Act) → AreSafe s.files → AreSafe (state_after s acts).files
safe_after s [] h = h
safe_after s (a ∷ acts) h = safe_after (step s a.chosen a.input).state acts (safe_step s a.chosen a.input h)

pub safe_run : (ds : List Drive) (acts : List Act) → AreSafe (state_after (new_server ds) acts).files
safe_run ds acts = safe_after (new_server ds) acts tt

-- ---- an order on a file

pub others_job : (s : Server) (chosen : List ℕ) (kind : JobKind) (n : ℕ) (f : File) (j : Option Job) → f.kept.number ≡ n →
    OthersStay n s.files (begins_job s chosen kind f j).step.state.files
others_job s chosen kind n f (Some j) e = rw (← e) (put_other s.files f.kept.number f refl)
others_job s chosen kind n f None e = rw (← e) (elim (cases_Bool (f.kept.tag == GREATEST_TAG)) [
  | inl t ↦ rw t (put_other s.files f.kept.number f refl)
  | inr z ↦ rw z
      (put_other s.files f.kept.number (fence_begins kind s.format (at_file s chosen f)).file
      (leaves_fence kind s.format (at_file s chosen f)).number)
])

pub others_starts : (s : Server) (chosen : List ℕ) (kind : JobKind) (n : ℕ) (o : Option File) → file_at s.files n ≡ o →
    OthersStay n s.files (starts s chosen kind o).step.state.files
others_starts s chosen kind n None e = λ m z. refl
others_starts s chosen kind n (Some f) e = others_job s chosen kind n f f.job (number_at s.files n f e)

pub others_ordered : (s : Server) (chosen : List ℕ) (kind : JobKind) (n : ℕ) →
    OthersStay n s.files (starts s chosen kind (file_at s.files n)).step.state.files
others_ordered s chosen kind n = others_starts s chosen kind n (file_at s.files n) refl

-- ---- one file at most

-- some number, and no other file changes
abbrev pub One : List File → List File → Type 0
One fs gs = (m : ℕ) × OthersStay m fs gs

pub one_of_none : (fs : List File) → One fs fs
one_of_none fs = (0, λ n z. refl)

pub one_recalled : (s : Server) (o : Option File) → One s.files (recalls_on s o).step.state.files
one_recalled s None = one_of_none s.files
one_recalled s (Some f) = one_of_none s.files

pub one_ordered : (s : Server) (chosen : List ℕ) (kind : OrderKind) (n : ℕ) → declares_one kind ≡ false →
    One s.files (ordered s chosen kind n).step.state.files
unfolding ordered
one_ordered s chosen ToRecall n d = one_recalled s (file_at s.files n)
one_ordered s chosen ToRevoke n d = (n, others_ordered s chosen Revoking n)
one_ordered s chosen ToDeclare n d = absurd (cc d)
one_ordered s chosen ToRebuild n d = (n, others_ordered s chosen Rebuilding n)
one_ordered s chosen ToAudit n d = (n, others_ordered s chosen Auditing n)

pub one_handled : (s : Server) (now : ℕ) (chosen : List ℕ) (from : Node) (m : Message) → AreSafe s.files →
    tells_to_declare m ≡ false → One s.files (handled s now chosen from m).state.files
one_handled s now chosen (FromClient c) (Asks q) h d = elim (cases_Bool ((q.client == c) && nat_le c MAX_CLIENT)) [
  | inl t ↦ rw t (q.file, others_request s now chosen q h)
  | inr z ↦ rw z (one_of_none s.files)
]
one_handled s now chosen (FromDrive drive) (Replies r) h d = others_reply s chosen drive r
one_handled s now chosen FromServer (Orders o) h d = one_ordered s chosen o.order o.target d
one_handled s now chosen from m h d = one_of_none s.files

pub one_message : (s : Server) (now : ℕ) (chosen : List ℕ) (from : Node) (m : Message) → AreSafe s.files →
    tells_to_declare m ≡ false → One s.files (on_message s now chosen from m).state.files
unfolding on_message
one_message s now chosen from m h d = elim (cases_Bool (counters_have_room s)) [
  | inl t ↦ rw t (one_handled s now chosen from m h d)
  | inr z ↦ rw z (one_of_none s.files)
]

pub one_made : (s : Server) (n : ℕ) (m : RawMap) (tag : ℕ) (zoned : Bool) (ds : List ℕ) (o : Option Refusal) →
    One s.files (unless_made s (unless_refused o (makes_file s (unmade s n m tag zoned ds)))).state.files
one_made s n m tag zoned ds (Some r) = one_of_none s.files
one_made s n m tag zoned ds None =
    let f : File = unmade s n m tag zoned ds
    in let made : Leaves f.kept (making (at_file (with_file s f) [] f)) = leaves_new (at_file (with_file s f) [] f) refl
    in (
      n,
      λ k z. put_other (with_file s f).files n (making (at_file (with_file s f) [] f)).file made.number k z
          ∙ add_other s.files f k z,
    )

pub one_created : (s : Server) (n : ℕ) (m : RawMap) (tag : ℕ) (zoned : Bool) (chosen : List ℕ) →
    One s.files (unless_made s (create_file s n m tag zoned chosen)).state.files
unfolding create_file
one_created s n m tag zoned chosen = one_made s n m tag zoned (drives_for zoned s.drives m chosen) (refusal s n m zoned)

pub one_step : (s : Server) (chosen : List ℕ) (i : Input) → AreSafe s.files → goes_through_all i ≡ false →
    One s.files (step s chosen i).state.files
one_step s chosen (Hears now from m) h d = one_message s now chosen from m h d
one_step s chosen (Makes n m tag zoned) h d = one_created s n m tag zoned chosen
one_step s chosen (Obeys kind n) h d = one_ordered s chosen kind n d
one_step s chosen (Adds drive) h d = one_of_none s.files
one_step s chosen (Zones drive z) h d = one_of_none s.files
one_step s chosen (Formats n) h d = one_of_none s.files
one_step s chosen Resends h d = one_of_none s.files
one_step s chosen Crashes h d = absurd (cc d)
one_step s chosen Opens h d = absurd (cc d)
