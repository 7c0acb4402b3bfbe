-- Each step of the server is the same where a placer names the drives of the CREATEs that it sends.
use Rattle.std.specs.List.{list_any}
use Rattle.std.proofs.Common.{◌≡◌, ℕ, ◌==◌, ◌<◌, ◌∷◌, [], List, ◌++◌, Bool, true, false, ◌&&◌, ◌||◌, nat_eq, nat_le, Option, Some, None, is_some, find, refl, sym, ap, subst, ◌∙◌, append_assoc, if◌then◌else◌}
use Rattle.std.proofs.lemmas.List.{append-nil}
use Rattle.std.proofs.lemmas.Grind.{flat_map-append}
use Rattle.osd_lists.specs.declared.node.Node.{Node}
use Rattle.osd_lists.specs.declared.node.Node.TheVariants as node
use Rattle.osd_capability.specs.Layout.{is_format}
use Rattle.scenario_text.specs.declared.names.TheConstants.{DRIVES}
use Rattle.server_rules.specs.declared.limits.TheConstants.{MAX_CLIENT, GREATEST_TAG}
use Rattle.world_history.specs.ServerNames.{Server, Kept, File, Drive, Awaited, Effects, Job, JobKind, Revoking, Rebuilding, Auditing, ClientRequest, Reply, OrderResult, IsSpent, HasStarted, OrderKind, ToRecall, ToRevoke, ToDeclare, ToRebuild, ToAudit, Busy, Spent, Answers, AnswersOrder}
use Rattle.server_rules.specs.Going.{Going, noting}
use Rattle.server_rules.specs.Get.{lowest}
use Rattle.server_rules.specs.Replies.{on_reply}
use Rattle.server_rules.specs.Served.{Served}
use Rattle.server_rules.specs.Slots.{Admit, New, Again, Misordered, slot_of, admit}
use Rattle.server_rules.specs.Jobs.{fence_begins, declares}
use Rattle.server_rules.specs.Files.{Step, still, begins, file_at, put_file, at_file, step_at, to_drives}
use Rattle.server_rules.specs.Rounds.{Round, then_files, step_round}
use Rattle.server_rules.specs.Requests.{carried_out, carries_out, by_admit, on_request}
use Rattle.server_rules.specs.Messages.{heard_at, or_else, by_heard, on_drive_reply, Message, Asks, Replies, Orders, handled, on_message, counters_have_room}
use Rattle.server_rules.specs.Orders.{Ordered, begins_job, starts, recalls_on, offline, declares_each, with_offline, declare, declares_known, ordered, with_result}
use Rattle.history_law.specs.Placed.{AreNamed, HaveFormats, IsReadable, placed_by}
use Rattle.history_law.proofs.Creating.{place}
use Rattle.history_law.proofs.Placing.{Given, given, choosing, Fit, placed_of, Placed, placed_here}
use Rattle.history_law.proofs.BookGoing.{fence_placed, declares_placed}
use Rattle.history_law.proofs.Served.{ends_placed, HearsAlike, HeardAs, reply_placed, Serves, request_serves}
use Rattle.history_law.proofs.Stepping.{all_kept, IsPlaced, placed_always, placed_either, kept_alike, put_alike, placed_sent, placed_more, recalls_to_others, format_at, formats_put, step_placed}

-- ---- a request

served_placed : (s : Server) (q : ClientRequest) (v : Served) (f : List ℕ → Served) → IsReadable s
    → Serves s.drives [] v f
    → IsPlaced s (carried_out s q v) (λ x. carried_out s q (f x))
served_placed s q v f r e = record {
  same = λ n. ap (λ (ns : List ℕ). carried_out s q (f ns))
      (placed_more (to_drives s.drives v.going.effects.sent) _
      (recalls_to_others s.next_recall v.recalled (Answers _ ∷ []) tt) n
      ∙ placed_sent s.drives v.going.effects.sent n ∙ ap (placed_of s.drives) e.sends
      ∙ sym (append-nil (placed_of s.drives e.more)))
      ∙ ap (carried_out s q) (e.same []);
  keeps = λ x n y at. kept_alike _ _ n (put_alike s.files q.file (f x).going.file v.going.file (e.alike x).kept);
  mends = λ x. ap (λ (m : Effects). m.mended) (e.alike x).effects;
  readable = record {
    drives = r.drives;
    format = r.format;
    files = formats_put s.files q.file v.going.file r.files e.format;
  };
  knows = λ d. refl;
}

carried_placed : (s : Server) (now : ℕ) (chosen : List ℕ) (q : ClientRequest) (o : Option File)
    → file_at s.files q.file ≡ o
    → IsReadable s → IsPlaced s (carries_out s now chosen q o) (λ x. carries_out s now x q o)
carried_placed s now chosen q None e r =
    placed_always s (carries_out s now chosen q None)
    (record { drives = r.drives; format = r.format; files = r.files }) (λ d. refl)
carried_placed s now chosen q (Some f) e r =
    served_placed s q _ _ r (request_serves (at_file s chosen f) s.next_grant s.format now q.client q.args r.format
    (record { format = format_at s.files q.file f r.files e; drives = r.drives }))

admit_placed : (s : Server) (now : ℕ) (chosen : List ℕ) (q : ClientRequest) (a : Admit) → IsReadable s
    → IsPlaced s (by_admit s now chosen q a) (λ x. by_admit s now x q a)
admit_placed s now chosen q New r = carried_placed s now chosen q (file_at s.files q.file) refl r
admit_placed s now chosen q (Again kept) r = placed_always s _ r (λ d. refl)
admit_placed s now chosen q (Misordered expected) r = placed_always s _ r (λ d. refl)

request_placed : (s : Server) (now : ℕ) (chosen : List ℕ) (q : ClientRequest) → IsReadable s
    → IsPlaced s (on_request s now chosen q) (λ x. on_request s now x q)
unfolding on_request
request_placed s now chosen q r = admit_placed s now chosen q (admit (slot_of s.slots q.client) q.sequence) r

-- ---- a reply

first_alike : (o p : Option Going) (h : Going) → HearsAlike o h → HearsAlike (or_else o p) h
first_alike None p h s = absurd s
first_alike (Some g) p h s = s

either_heard : (ds : List Drive) (o p : Option Going) (f k : List ℕ → Option Going) → HeardAs ds [] o f
    → HeardAs ds [] p k
    → HeardAs ds [] (or_else o p) (λ x. or_else (f x) (k x))
either_heard ds None None f k h i = λ x. ap (λ (y : Option Going). or_else y (k x)) (h x) ∙ i x
either_heard ds None (Some g) f k h i =
    let x = placed_of ds i.0 in (
      i.0,
      i.1,
      i.2,
      ap (λ (y : Option Going). or_else y (k x)) (h x) ∙ i.3,
      i.4,
      λ z. subst (λ (y : Option Going). HearsAlike (or_else y (k z)) g) (sym (h z)) (i.5 z),
    )
either_heard ds (Some g) p f k h i =
    let x = placed_of ds h.0 in
    (h.0, h.1, h.2, ap (λ (y : Option Going). or_else y (k x)) h.3, h.4, λ z. first_alike (f z) (k z) g (h.5 z))

heard_placed : (s : Server) (chosen : List ℕ) (drive : ℕ) (m : Reply) (fs : List File) → AreNamed s.drives
    → HaveFormats fs
    → HeardAs s.drives [] (heard_at s chosen drive m fs) (λ x. heard_at s x drive m fs)
unfolding heard_at
heard_placed s chosen drive m [] a h = λ x. refl
heard_placed s chosen drive m (f ∷ fs) a h =
    either_heard s.drives (on_reply (at_file s chosen f) drive m) _ (λ x. on_reply (at_file s x f) drive m)
    (λ x. heard_at s x drive m fs)
    (reply_placed (at_file s chosen f) drive m (record { format = h.0; drives = a }))
    (heard_placed s chosen drive m fs a h.1)

heard_alike : (s : Server) (o : Option Going) (h : Going) → HearsAlike o h
    → all_kept (by_heard s o).state.files ≡ all_kept (by_heard s (Some h)).state.files
heard_alike s None h a = absurd a
heard_alike s (Some g) h a =
    ap (λ (k : Kept). all_kept (put_file s.files k.number g.file)) a.kept
    ∙ put_alike s.files h.file.kept.number g.file h.file a.kept

heard_mends : (s : Server) (o : Option Going) (h : Going) → HearsAlike o h
    → (by_heard s o).mended ≡ (by_heard s (Some h)).mended
heard_mends s None h a = absurd a
heard_mends s (Some g) h a = ap (λ (m : Effects). m.mended) a.effects

by_heard_placed : (s : Server) (o : Option Going) (f : List ℕ → Option Going) → IsReadable s → HeardAs s.drives [] o f
    → IsPlaced s (by_heard s o) (λ x. by_heard s (f x))
by_heard_placed s None f r h = record {
  same = λ n. ap (by_heard s) (h _);
  keeps = λ x n y at. kept_alike _ _ n (ap (λ (o : Option Going). all_kept (by_heard s o).state.files) (h x));
  mends = λ x. ap (λ (o : Option Going). (by_heard s o).mended) (h x);
  readable = r;
  knows = λ d. refl;
}
by_heard_placed s (Some g) f r h = record {
  same = λ n. ap (λ (ns : List ℕ). by_heard s (f ns))
      (placed_sent s.drives g.effects.sent n ∙ ap (placed_of s.drives) h.2) ∙ ap (by_heard s) h.3;
  keeps = λ x n y at. kept_alike _ _ n (heard_alike s (f x) g (h.5 x));
  mends = λ x. heard_mends s (f x) g (h.5 x);
  readable = record {
    drives = r.drives;
    format = r.format;
    files = formats_put s.files g.file.kept.number g.file r.files h.4;
  };
  knows = λ d. refl;
}

drive_placed : (s : Server) (chosen : List ℕ) (drive : ℕ) (m : Reply) → IsReadable s
    → IsPlaced s (on_drive_reply s chosen drive m) (λ x. on_drive_reply s x drive m)
unfolding on_drive_reply
drive_placed s chosen drive m r =
    by_heard_placed s (heard_at s chosen drive m s.files) (λ x. heard_at s x drive m s.files) r
    (heard_placed s chosen drive m s.files r.drives r.files)

-- ---- an order at a file

-- a fence that the tag refuses, and one that starts
abbrev spent : Server → (chosen : List ℕ) → File → Ordered
spent s chosen f = record { step = step_at s f.kept.number (noting (at_file s chosen f) Spent); result = IsSpent }

abbrev fences : Server → (chosen : List ℕ) → JobKind → File → Ordered
fences s chosen kind f = record {
  step = step_at s f.kept.number (fence_begins kind s.format (at_file s chosen f));
  result = HasStarted;
}

either_order : (b : Bool) (s : Server) (o p : Ordered) (f k : List ℕ → Ordered) → IsPlaced s o.step (λ x. (f x).step)
    → IsPlaced s p.step (λ x. (k x).step) → IsPlaced s (if b then o else p).step (λ x. (if b then f x else k x).step)
either_order true s o p f k h i = h
either_order false s o p f k h i = i

job_placed : (s : Server) (chosen : List ℕ) (kind : JobKind) (f : File) (j : Option Job) → IsReadable s
    → is_format f.kept.format ≡ true
    → IsPlaced s (begins_job s chosen kind f j).step (λ x. (begins_job s x kind f j).step)
job_placed s chosen kind f (Some j) r h =
    step_placed s f.kept.number _ (λ x. noting (at_file s x f) (Busy (lowest j.awaited))) r
    (ends_placed _ _ _ _ (placed_here (noting (at_file s chosen f) (Busy (lowest j.awaited)))
    (record { format = h; drives = r.drives })))
job_placed s chosen kind f None r h =
    let fit : Fit (at_file s chosen f) = record { format = h; drives = r.drives } in
    either_order (f.kept.tag == GREATEST_TAG) s (spent s chosen f) (fences s chosen kind f) (λ x. spent s x f)
    (λ x. fences s x kind f)
    (step_placed s f.kept.number _ (λ x. noting (at_file s x f) Spent) r
    (ends_placed _ _ _ _ (placed_here (noting (at_file s chosen f) Spent) fit)))
    (step_placed s f.kept.number _ (λ x. fence_begins kind s.format (at_file s x f)) r
    (ends_placed _ _ _ _ (fence_placed kind s.format (at_file s chosen f) r.format fit)))

starts_placed : (s : Server) (chosen : List ℕ) (kind : JobKind) (n : ℕ) (o : Option File) → file_at s.files n ≡ o
    → IsReadable s → IsPlaced s (starts s chosen kind o).step (λ x. (starts s x kind o).step)
starts_placed s chosen kind n None e r = placed_always s _ r (λ d. refl)
starts_placed s chosen kind n (Some f) e r = job_placed s chosen kind f f.job r (format_at s.files n f r.files e)

recalls_placed : (s : Server) (o : Option File) → IsReadable s
    → IsPlaced s (recalls_on s o).step (λ x. (recalls_on s o).step)
recalls_placed s None r = placed_always s _ r (λ d. refl)
recalls_placed s (Some f) r =
    placed_always s (recalls_on s (Some f)).step (record { drives = r.drives; format = r.format; files = r.files })
    (λ d. refl)

-- ---- a drive is declared

pub offline_named : (ds : List Drive) (drive : ℕ) → AreNamed ds → AreNamed (offline ds drive)
unfolding offline
offline_named [] drive a = tt
offline_named (d ∷ ds) drive a = (either (d.number == drive), offline_named ds drive a.1)
  where
    either : (b : Bool) → (if b then record d { online = false } else d).number < DRIVES
    either true = a.0
    either false = a.0

offline_known : (ds : List Drive) (drive d : ℕ)
    → list_any (λ (x : Drive). nat_eq x.number d) (offline ds drive) ≡ list_any (λ (x : Drive). nat_eq x.number d) ds
unfolding offline
offline_known [] drive d = refl
offline_known (x ∷ ds) drive d =
    ap (λ (b : Bool). nat_eq (if x.number == drive then record x { online = false } else x).number d || b)
    (offline_known ds drive d)
    ∙ either (x.number == drive)
  where
    either : (b : Bool)
        → (nat_eq (if b then record x { online = false } else x).number d
        || list_any (λ (y : Drive). nat_eq y.number d) ds)
        ≡ (nat_eq x.number d || list_any (λ (y : Drive). nat_eq y.number d) ds)
    either true = refl
    either false = refl

record Goes (ds : List Drive) (sent : List Awaited) (r : Round) (f : Given → Round) : Type 0 where
  more : List Awaited
  sends : r.effects.sent ≡ sent ++ more
  same : (rest : List ℕ) → f (given sent (placed_of ds more ++ rest)) ≡ record r { chosen = rest }
  alike : (x : Given) → all_kept (f x).files ≡ all_kept r.files
  mends : (x : Given) → (f x).effects.mended ≡ r.effects.mended
  files : HaveFormats r.files

goes_then : (ds : List Drive) (sent : List Awaited) (g : Going) (f : Given → Going) (k : Effects → List ℕ → Round)
    → Placed ds sent g f
    → Goes ds g.effects.sent (k g.effects g.chosen) (λ x. k (record g.effects { sent = x.sent }) x.chosen)
    → Goes ds sent (then_files g (k g.effects g.chosen)) (λ x. then_files (f x) (k (f x).effects (f x).chosen))
goes_then ds sent g f k p q = record {
  more = p.more ++ q.more;
  sends = q.sends ∙ ap (λ (cs : List Awaited). cs ++ q.more) p.sends ∙ append_assoc sent p.more q.more;
  same = λ rest. ap (λ (ns : List ℕ). next (f (given sent (ns ++ rest)))) (flat_map-append (place ds) p.more q.more)
      ∙ ap (λ (ns : List ℕ). next (f (given sent ns))) (append_assoc (placed_of ds p.more) (placed_of ds q.more) rest)
      ∙ ap next (p.same (placed_of ds q.more ++ rest)) ∙ ap (then_files g) (q.same rest);
  alike = λ x. ap (λ (y : Kept). y ∷ all_kept (k (f x).effects (f x).chosen).files) (p.alike x).kept
      ∙ ap (λ (ks : List Kept). g.file.kept ∷ ks) (
      ap (λ (m : Effects). all_kept (k (record m { sent = (f x).effects.sent }) (f x).chosen).files) (p.alike x).effects
      ∙ q.alike (given (f x).effects.sent (f x).chosen)
      );
  mends = λ x. ap (λ (m : Effects). (k (record m { sent = (f x).effects.sent }) (f x).chosen).effects.mended) (p.alike x).effects
      ∙ q.mends (given (f x).effects.sent (f x).chosen);
  files = (p.format, q.files);
}
  where
    next : Going → Round
    next y = then_files y (k y.effects y.chosen)

each_placed : (drive : ℕ) (ds : List Drive) (fs : List File) (m : Effects) (chosen : List ℕ) → AreNamed ds
    → HaveFormats fs
    → Goes ds m.sent (declares_each drive ds fs m chosen)
    (λ x. declares_each drive ds fs (record m { sent = x.sent }) x.chosen)
unfolding declares_each
each_placed drive ds [] m chosen a h =
    record {
      more = [];
      sends = sym (append-nil m.sent);
      same = λ rest. refl;
      alike = λ x. refl;
      mends = λ x. refl;
      files = tt;
    }
each_placed drive ds (f ∷ fs) m chosen a h =
    let g0 : Going = record { file = f; effects = m; drives = ds; chosen = chosen } in
    let g = declares g0 drive in
    goes_then ds m.sent g (λ x. declares (choosing g0 x) drive) (declares_each drive ds fs)
    (declares_placed g0 drive (record { format = h.0; drives = a })) (each_placed drive ds fs g.effects g.chosen a h.1)

declare_placed : (s : Server) (chosen : List ℕ) (drive : ℕ) → IsReadable s
    → IsPlaced s (declare s chosen drive) (λ x. declare s x drive)
unfolding declare
declare_placed s chosen drive r =
    let ds = offline s.drives drive in
    let named = offline_named s.drives drive r.drives in
    let e = each_placed drive ds s.files (begins s) chosen named r.files in
    record {
      same = λ n. ap (λ (ns : List ℕ). step_round (with_offline s drive) (declares_each drive ds s.files (begins s) ns))
          (placed_sent ds _ n ∙ ap (placed_of ds) e.sends ∙ sym (append-nil (placed_of ds e.more)))
          ∙ ap (step_round (with_offline s drive)) (e.same []);
      keeps = λ x n y at. kept_alike _ _ n (e.alike (given [] x));
      mends = λ x. e.mends (given [] x);
      readable = record { drives = named; format = r.format; files = e.files };
      knows = offline_known s.drives drive;
    }

known_placed : (s : Server) (chosen : List ℕ) (drive : ℕ) (b : Bool) → IsReadable s
    → IsPlaced s (declares_known s chosen drive b).step (λ x. (declares_known s x drive b).step)
known_placed s chosen drive true r = declare_placed s chosen drive r
known_placed s chosen drive false r = placed_always s _ r (λ d. refl)

-- ---- any order, and any message

pub order_placed : (s : Server) (chosen : List ℕ) (kind : OrderKind) (n : ℕ) → IsReadable s
    → IsPlaced s (ordered s chosen kind n).step (λ x. (ordered s x kind n).step)
unfolding ordered
order_placed s chosen ToRecall n r = recalls_placed s (file_at s.files n) r
order_placed s chosen ToRevoke n r = starts_placed s chosen Revoking n (file_at s.files n) refl r
order_placed s chosen ToDeclare n r = known_placed s chosen n (is_some (find (λ d. d.number == n) s.drives)) r
order_placed s chosen ToRebuild n r = starts_placed s chosen Rebuilding n (file_at s.files n) refl r
order_placed s chosen ToAudit n r = starts_placed s chosen Auditing n (file_at s.files n) refl r

answered_placed : (s : Server) (kind : OrderKind) (o : Ordered) (f : List ℕ → Ordered)
    → IsPlaced s o.step (λ x. (f x).step)
    → ((x : List ℕ) → (f x).result ≡ o.result) → IsPlaced s (with_result kind o) (λ x. with_result kind (f x))
answered_placed s kind o f p results = record {
  same = λ n. ap (λ (ns : List ℕ). with_result kind (f ns)) (placed_more o.step.sends (AnswersOrder _ ∷ []) tt n)
      ∙ ap (λ (t : Step). with_result kind (record { step = t; result = (f (placed_by n o.step.sends)).result }))
      (p.same n)
      ∙ ap (λ (r : OrderResult). with_result kind (record { step = o.step; result = r }))
      (results (placed_by n o.step.sends));
  keeps = p.keeps;
  mends = p.mends;
  readable = p.readable;
  knows = p.knows;
}

job_results : (s : Server) (x y : List ℕ) (kind : JobKind) (f : File) (j : Option Job)
    → (begins_job s x kind f j).result ≡ (begins_job s y kind f j).result
job_results s x y kind f (Some j) = refl
job_results s x y kind f None =
    either (f.kept.tag == GREATEST_TAG) (spent s x f) (fences s x kind f) (spent s y f) (fences s y kind f) refl refl
  where
    either : (b : Bool) (o p u v : Ordered) → o.result ≡ u.result → p.result ≡ v.result
        → (if b then o else p).result ≡ (if b then u else v).result
    either true o p u v h i = h
    either false o p u v h i = i

start_results : (s : Server) (x y : List ℕ) (kind : JobKind) (o : Option File)
    → (starts s x kind o).result ≡ (starts s y kind o).result
start_results s x y kind None = refl
start_results s x y kind (Some f) = job_results s x y kind f f.job

known_results : (s : Server) (x y : List ℕ) (drive : ℕ) (b : Bool)
    → (declares_known s x drive b).result ≡ (declares_known s y drive b).result
known_results s x y drive true = refl
known_results s x y drive false = refl

order_results : (s : Server) (x y : List ℕ) (kind : OrderKind) (n : ℕ)
    → (ordered s x kind n).result ≡ (ordered s y kind n).result
unfolding ordered
order_results s x y ToRecall n = refl
order_results s x y ToRevoke n = start_results s x y Revoking (file_at s.files n)
order_results s x y ToDeclare n = known_results s x y n (is_some (find (λ d. d.number == n) s.drives))
order_results s x y ToRebuild n = start_results s x y Rebuilding (file_at s.files n)
order_results s x y ToAudit n = start_results s x y Auditing (file_at s.files n)

handled_placed : (s : Server) (now : ℕ) (chosen : List ℕ) (from : Node) (m : Message) → IsReadable s
    → IsPlaced s (handled s now chosen from m) (λ x. handled s now x from m)
handled_placed s now chosen (node.Client c) (Asks q) r =
    placed_either ((q.client == c) && nat_le c MAX_CLIENT) s _ _ (λ x. on_request s now x q) (λ x. still s)
    (request_placed s now chosen q r) (placed_always s (still s) r (λ d. refl))
handled_placed s now chosen (node.Drive d) (Replies m) r = drive_placed s chosen d m r
handled_placed s now chosen node.Server (Orders o) r =
    answered_placed s o.order (ordered s chosen o.order o.target) (λ x. ordered s x o.order o.target)
    (order_placed s chosen o.order o.target r) (λ x. order_results s x chosen o.order o.target)
handled_placed s now chosen from m r = placed_always s (still s) r (λ d. refl)

pub message_placed : (s : Server) (now : ℕ) (chosen : List ℕ) (from : Node) (m : Message) → IsReadable s
    → IsPlaced s (on_message s now chosen from m) (λ x. on_message s now x from m)
unfolding on_message
message_placed s now chosen from m r =
    placed_either (counters_have_room s) s _ _ (λ x. handled s now x from m) (λ x. still s)
    (handled_placed s now chosen from m r)
    (placed_always s (still s) r (λ d. refl))
