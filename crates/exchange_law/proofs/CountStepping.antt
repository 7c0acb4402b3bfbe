-- Each step of the server leaves what fits, goes to those whom a line can name, and raises no number by more than it
-- sends messages.
use Rattle.std.specs.List.{AllByRecursion}
use Rattle.std.proofs.Common.{◌≡◌, ◌==◌, ℕ, suc, ◌+◌, ◌≤◌, ◌<◌, ◌++◌, Bool, true, false, List, [], ◌∷◌, Option, Some, None, find, filter, map, length, nat_lt, refl, sym, ap, subst, ◌∙◌, append_assoc, arith, if◌then◌else◌}
use Rattle.std.proofs.lemmas.Bool.Decides.{nat_tests}
use Rattle.std.proofs.lemmas.List.{append-nil, length-append, length-map}
use Rattle.data_map.specs.declared.check.RawMap.{RawMap}
use Rattle.data_map.specs.Check.{HasAlgorithm}
use Rattle.osd_capability.specs.Layout.{is_format}
use Rattle.scenario_text.specs.declared.names.TheConstants.{DRIVES, FILES}
use Rattle.layout_ops.specs.declared.messages.Answer.{Answer}
use Rattle.server_rules.specs.declared.limits.TheConstants.{MAX_CLIENT, GREATEST_TAG}
use Rattle.server_rules.specs.declared.server.Slot.{Slot}
use Rattle.world_history.specs.ServerNames.{Server, File, Drive, Grant, Awaited, JobKind, NoteKind, Outgoing, ToDrive, Recalls, Answers, AnswersOrder, ClientRequest, OrderKind, OrderResult, Effects}
use Rattle.server_rules.specs.Answers.{recalls_from}
use Rattle.server_rules.specs.Going.{Going, noting}
use Rattle.server_rules.specs.Jobs.{fence_begins, declares}
use Rattle.server_rules.specs.Files.{Step, still, begins, file_at, put_file, add_file, at_file, to_drives, step_at}
use Rattle.server_rules.specs.Rounds.{Round, then_files, step_round}
use Rattle.server_rules.specs.Served.{Served}
use Rattle.server_rules.specs.Slots.{Admit, New, Again, Misordered, slot_of, admit, admit_after, keep}
use Rattle.server_rules.specs.Requests.{serves, answer_with, answer_without, carried_out, on_request}
use Rattle.server_rules.specs.Orders.{recalls, offline, declares_each, declare}
use Rattle.server_rules.specs.Replies.{answers, hearing}
use Rattle.server_rules.specs.History.{Input, Makes, Adds, Formats}
use Rattle.world_history.specs.Handed.{Post, is_addressed, server_post}
use Rattle.history_law.specs.Placed.{AreNamed}
use Rattle.history_law.proofs.HistorySteps.{offline_named}
use Rattle.history_law.specs.Steps.{Answering, IsAnswering, answered_file, with_answer}
use Rattle.history_law.proofs.Steps.{each_request}
use Rattle.exchange_law.specs.Files.{GrantFits, KeptFits}
use Rattle.exchange_law.proofs.Parts.{each_more, each_as, each_in, IsNear, AllNear, JobFits, wider_job}
use Rattle.exchange_law.proofs.Running.{wider_kept, Sound, From, here, noted}
use Rattle.exchange_law.proofs.Mending.{fence_runs, declares_run, hears_run, found_near}
use Rattle.exchange_law.proofs.CountServing.{ServedFits}
use Rattle.exchange_law.proofs.Returning.{serves_fit, served_fits}

-- ---- the server

abbrev pub FileFits : (objects : ℕ) → File → Type 0
FileFits n f = KeptFits n f.kept × JobFits n f.kept.tag f.job

-- an answer that is kept is for a client that lines can name
abbrev pub SlotFits : Slot → Type 0
SlotFits s = s.kept.client ≤ MAX_CLIENT

pub record ServerFits (s : Server) : Type 0 where
  pub drives : AreNamed s.drives
  pub format : is_format s.format ≡ true
  pub files : AllByRecursion (FileFits s.next_object) s.files
  pub slots : AllByRecursion SlotFits s.slots

-- what may come to it
abbrev pub IsGiven : Input → Type 0
IsGiven (Makes n m tag zoned) = (n < FILES) × (tag ≤ GREATEST_TAG) × HasAlgorithm m
IsGiven (Adds d) = d.number < DRIVES
IsGiven (Formats n) = is_format n ≡ true
IsGiven i = Unit {0}

-- ---- what it sends

-- a line can name the receiver
abbrev pub IsNamedOut : Outgoing → Type 0
IsNamedOut (ToDrive d c) = d < DRIVES
IsNamedOut (Recalls r) = r.client ≤ MAX_CLIENT
IsNamedOut (Answers a) = a.client ≤ MAX_CLIENT
IsNamedOut (AnswersOrder a) = Unit {0}

abbrev pub AreNamedOut : List Outgoing → Type 0
AreNamedOut os = AllByRecursion IsNamedOut os

named_out : (o : Outgoing) → IsNamedOut o → is_addressed (server_post o) ≡ true
named_out (ToDrive d c) n = grind (arith, n, nat_tests)
named_out (Recalls r) n = grind (arith, n, nat_tests)
named_out (Answers a) n = grind (arith, n, nat_tests)
named_out (AnswersOrder a) n = refl

-- so all of it is sent
pub all_posted : (os : List Outgoing) → AreNamedOut os
    → filter is_addressed (map server_post os) ≡ map server_post os
all_posted [] n = refl
all_posted (o ∷ os) n = rw (named_out o n.0) (ap (λ (ps : List Post). server_post o ∷ ps) (all_posted os n.1))

pub all_counted : (os : List Outgoing) → AreNamedOut os
    → length (filter is_addressed (map server_post os)) ≡ length os
all_counted os n = ap (λ (ps : List Post). length ps) (all_posted os n) ∙ length-map os server_post

pub drives_out : (ds : List Drive) (ws : List Awaited) → AllNear ws → AreNamedOut (to_drives ds ws)
drives_out ds [] n = tt
drives_out ds (a ∷ ws) n = (n.0.drive, drives_out ds ws n.1)

pub length_drives : (ds : List Drive) (ws : List Awaited) → length (to_drives ds ws) ≡ length ws
length_drives ds ws = length-map ws _

pub recalls_out : (count number : ℕ) (m : RawMap) (gs : List Grant) → AllByRecursion (GrantFits number m) gs
    → AreNamedOut (recalls_from count gs)
unfolding recalls_from
recalls_out count number m [] k = tt
recalls_out count number m (g ∷ gs) k = (k.0.client, recalls_out (count + 1) number m gs k.1)

pub length_recalls : (count : ℕ) (gs : List Grant) → length (recalls_from count gs) ≡ length gs
unfolding recalls_from
length_recalls count [] = refl
length_recalls count (g ∷ gs) = ap suc (length_recalls (count + 1) gs)

-- ---- files and slots

pub wider_files : (m n : ℕ) (fs : List File) → m ≤ n → AllByRecursion (FileFits m) fs → AllByRecursion (FileFits n) fs
wider_files m n fs l k =
    each_as (FileFits m) (FileFits n) fs (λ f x. (wider_kept m n f.kept l x.0, wider_job m n f.kept.tag f.job l x.1)) k

pub put_fits : (n : ℕ) (fs : List File) (number : ℕ) (g : File) → AllByRecursion (FileFits n) fs → FileFits n g
    → AllByRecursion (FileFits n) (put_file fs number g)
unfolding put_file
put_fits n [] number g k f = tt
put_fits n (x ∷ fs) number g k f = either (x.kept.number == number) (put_fits n fs number g k.1 f)
  where
    either : (b : Bool) → AllByRecursion (FileFits n) (put_file fs number g)
        → AllByRecursion (FileFits n) (if b then g ∷ fs else x ∷ put_file fs number g)
    either true l = (f, k.1)
    either false l = (k.0, l)

pub add_fits : (n : ℕ) (fs : List File) (g : File) → AllByRecursion (FileFits n) fs → FileFits n g
    → AllByRecursion (FileFits n) (add_file fs g)
unfolding add_file
add_fits n [] g k f = (f, tt)
add_fits n (x ∷ fs) g k f = either (nat_lt x.kept.number g.kept.number) (add_fits n fs g k.1 f)
  where
    either : (b : Bool) → AllByRecursion (FileFits n) (add_file fs g)
        → AllByRecursion (FileFits n) (if b then x ∷ add_file fs g else g ∷ x ∷ fs)
    either true l = (k.0, l)
    either false l = (f, k)

abbrev pub FoundFile : ℕ → Option File → Type 0
FoundFile n None = Unit {0}
FoundFile n (Some f) = FileFits n f

pub found_file : (n : ℕ) (fs : List File) (number : ℕ) → AllByRecursion (FileFits n) fs
    → FoundFile n (file_at fs number)
unfolding file_at
found_file n [] number k = tt
found_file n (x ∷ fs) number k = either (x.kept.number == number) (found_file n fs number k.1)
  where
    either : (b : Bool) → FoundFile n (file_at fs number) → FoundFile n (if b then Some x else file_at fs number)
    either true l = k.0
    either false l = l

kept_slots : (ss : List Slot) (s : Slot) → AllByRecursion SlotFits ss → SlotFits s
    → AllByRecursion SlotFits (keep ss s)
unfolding keep
kept_slots [] s k f = (f, tt)
kept_slots (x ∷ ss) s k f = either (x.client == s.client) (kept_slots ss s k.1 f)
  where
    either : (b : Bool) → AllByRecursion SlotFits (keep ss s)
        → AllByRecursion SlotFits (if b then s ∷ ss else x ∷ keep ss s)
    either true l = (f, k.1)
    either false l = (k.0, l)

-- ---- a step

pub record StepFits (s : Server) (t : Step) : Type 0 where
  pub fits : ServerFits t.state
  pub named : AreNamedOut t.sends
  pub nonces : t.state.next_nonce ≤ s.next_nonce + length t.sends
  pub objects : t.state.next_object ≤ s.next_object + length t.sends
  pub recalls : t.state.next_recall ≤ s.next_recall + length t.sends
  pub grows : s.next_object ≤ t.state.next_object

-- nothing is sent, and no number rises
pub quiet_fits : (s t : Server) → ServerFits t → t.next_nonce ≡ s.next_nonce → t.next_object ≡ s.next_object
    → t.next_recall ≡ s.next_recall → StepFits s (still t)
quiet_fits s t k nonce object recall = record {
  fits = k;
  named = tt;
  nonces = omega (arith, nonce);
  objects = omega (arith, object);
  recalls = omega (arith, recall);
  grows = omega (arith, object);
}

pub still_fits : (s : Server) → ServerFits s → StepFits s (still s)
still_fits s k = quiet_fits s s k refl refl refl

pub at_sound : (s : Server) (chosen : List ℕ) (f : File) → ServerFits s → FileFits s.next_object f
    → Sound (at_file s chosen f)
at_sound s chosen f k x = record { kept = x.0; drives = k.drives }

-- what a run at a file sent
pub sent_near : (ws more : List Awaited) → ws ≡ more → AllNear more → AllNear ws
sent_near ws more e n = subst AllNear (sym e) n

-- a step at one file
at_fits : (s : Server) (chosen : List ℕ) (number : ℕ) (f : File) (h : Going) → ServerFits s
    → From (at_file s chosen f) h → StepFits s (step_at s number h)
at_fits s chosen number f h k r =
    let long : length (to_drives s.drives h.effects.sent) ≡ length r.more =
    length_drives s.drives h.effects.sent ∙ ap (λ (ws : List Awaited). length ws) r.sent_is in
    record {
      fits = record {
        drives = k.drives;
        format = k.format;
        files = put_fits h.effects.object s.files number h.file
            (wider_files s.next_object h.effects.object s.files r.objects k.files) (r.kept, r.job);
        slots = k.slots;
      };
      named = drives_out s.drives h.effects.sent (sent_near h.effects.sent r.more r.sent_is r.near);
      nonces = omega (arith, r.rises, long);
      objects = omega (arith, r.given, long);
      recalls = omega arith;
      grows = r.objects;
    }

-- ---- a request

out_fits : (s : Server) (chosen : List ℕ) (q : ClientRequest) (f : File) (v : Served) → ServerFits s
    → q.client ≤ MAX_CLIENT → ServedFits (at_file s chosen f) v → StepFits s (carried_out s q v)
out_fits s chosen q f v k c x =
    let r = x.runs in
    let drives = to_drives s.drives v.going.effects.sent in
    let recalls = recalls_from s.next_recall v.recalled in
    let answer = Answers (answer_with s q v) ∷ [] in
    let long : length drives ≡ length r.more =
    length_drives s.drives v.going.effects.sent ∙ ap (λ (ws : List Awaited). length ws) r.sent_is in
    let all : length (drives ++ (recalls ++ answer)) ≡ length drives + (length recalls + 1) =
    length-append drives (recalls ++ answer) ∙ ap (λ (n : ℕ). length drives + n) (length-append recalls answer) in
    let many : length recalls ≡ length v.recalled = length_recalls s.next_recall v.recalled in
    record {
      fits = record {
        drives = k.drives;
        format = k.format;
        files = put_fits v.going.effects.object s.files q.file v.going.file
            (wider_files s.next_object v.going.effects.object s.files r.objects k.files) (r.kept, r.job);
        slots = kept_slots s.slots _ k.slots c;
      };
      named =
          each_more IsNamedOut drives (recalls ++ answer)
          (drives_out s.drives v.going.effects.sent (sent_near v.going.effects.sent r.more r.sent_is r.near))
          (each_more IsNamedOut recalls answer
          (recalls_out s.next_recall f.kept.number f.kept.map v.recalled x.recalled) (c, tt));
      nonces = omega (arith, r.rises, long, all);
      objects = omega (arith, r.given, long, all);
      recalls = omega (arith, all, many);
      grows = r.objects;
    }

only_fits : (s t : Server) (a : Answer) → ServerFits t → t.next_nonce ≡ s.next_nonce
    → t.next_object ≡ s.next_object → t.next_recall ≡ s.next_recall → a.client ≤ MAX_CLIENT
    → StepFits s (record { state = t; sends = Answers a ∷ []; notes = []; mended = [] })
only_fits s t a k nonce object recall c = record {
  fits = k;
  named = (c, tt);
  nonces = omega (arith, nonce);
  objects = omega (arith, object);
  recalls = omega (arith, recall);
  grows = omega (arith, object);
}

abbrev AdmitFits : Admit → Type 0
AdmitFits (Again kept) = kept.client ≤ MAX_CLIENT
AdmitFits a = Unit {0}

abbrev FoundSlot : Option Slot → Type 0
FoundSlot None = Unit {0}
FoundSlot (Some s) = SlotFits s

found_slot : (p : Slot → Bool) (ss : List Slot) → AllByRecursion SlotFits ss → FoundSlot (find p ss)
found_slot p [] k = tt
found_slot p (s ∷ ss) k = either (p s) (found_slot p ss k.1)
  where
    either : (b : Bool) → FoundSlot (find p ss) → FoundSlot (if b then Some s else find p ss)
    either true l = k.0
    either false l = l

either_admit : (b : Bool) (x y : Admit) → AdmitFits x → AdmitFits y → AdmitFits (if b then x else y)
either_admit true x y p q = p
either_admit false x y p q = q

after_fits : (last sequence : ℕ) → AdmitFits (admit_after last sequence)
unfolding admit_after
after_fits last sequence = either_admit _ New (Misordered _) tt tt

admit_fits : (o : Option Slot) (sequence : ℕ) → FoundSlot o → AdmitFits (admit o sequence)
unfolding admit
admit_fits None sequence k = after_fits 0 sequence
admit_fits (Some s) sequence k =
    either_admit (sequence == s.last) (Again s.kept) (admit_after s.last sequence) k (after_fits s.last sequence)

pub request_fits : (s : Server) (now : ℕ) (chosen : List ℕ) (q : ClientRequest) → ServerFits s → q.client ≤ MAX_CLIENT
    → StepFits s (on_request s now chosen q)
request_fits s now chosen q k c =
    each_request s now chosen q (StepFits s) (record {
      again = λ kept is.
          only_fits s s kept k refl refl refl
          (subst AdmitFits is (admit_fits (slot_of s.slots q.client) q.sequence (found_slot _ s.slots k.slots)));
      misordered = λ expected is. only_fits s s _ k refl refl refl c;
      without = λ new none.
          only_fits s _ (answer_without q) (record {
            drives = k.drives;
            format = k.format;
            files = k.files;
            slots = kept_slots s.slots _ k.slots c;
          }) refl refl refl c;
      served = λ new f found.
          let x : FileFits s.next_object f =
          subst (FoundFile s.next_object) found (found_file s.next_object s.files q.file k.files) in
          out_fits s chosen q f (serves (at_file s chosen f) s.next_grant s.format now q.client q.args) k c
          (served_fits q.args (at_file s chosen f) _
          (serves_fit (at_file s chosen f) s.next_grant s.format now q.client q.args k.format c (at_sound s chosen f k x)
          x.1));
    })

-- ---- a reply

pub answered_fits : (s : Server) (chosen : List ℕ) (i : Input) (x : Answering) → IsAnswering s i x → ServerFits s
    → StepFits s (step_at s (answered_file s chosen x).file.kept.number (answered_file s chosen x))
answered_fits s chosen i x is k =
    let f : FileFits s.next_object x.file = each_in (FileFits s.next_object) s.files x.file k.files is.there in
    let j : JobFits s.next_object x.file.kept.tag (Some x.job) =
    subst (JobFits s.next_object x.file.kept.tag) is.runs f.1 in
    at_fits s chosen (answered_file s chosen x).file.kept.number x.file (answered_file s chosen x) k
    (hears_run (at_file s chosen x.file) x.job x.awaited x.reply (hearing x.file.kept x.awaited x.reply)
    (at_sound s chosen x.file k f) f.1 j
    (found_near (answers x.drive x.reply) x.job.awaited x.awaited j.1 is.awaits))

-- ---- orders

module _ (s : Server) (chosen : List ℕ) (f : File) (k : ServerFits s) (x : FileFits s.next_object f) where
  pub recalled_fits : StepFits s (recalls s f).step
  recalled_fits = record {
    fits = record { drives = k.drives; format = k.format; files = k.files; slots = k.slots };
    named = recalls_out s.next_recall f.kept.number f.kept.map f.kept.grants x.0.grants;
    nonces = omega arith;
    objects = omega arith;
    recalls = omega (arith, length_recalls s.next_recall f.kept.grants);
    grows = omega arith;
  }

  pub refused_fits : (n : NoteKind) → StepFits s (step_at s f.kept.number (noting (at_file s chosen f) n))
  refused_fits n =
      let g : Going = noting (at_file s chosen f) n in
      at_fits s chosen f.kept.number f g k (here g (noted (at_file s chosen f) n (at_sound s chosen f k x)) x.1)

  pub fenced_fits : (kind : JobKind) → (f.kept.tag == GREATEST_TAG) ≡ false
      → StepFits s (step_at s f.kept.number (fence_begins kind s.format (at_file s chosen f)))
  fenced_fits kind low =
      at_fits s chosen f.kept.number f (fence_begins kind s.format (at_file s chosen f)) k
      (fence_runs kind s.format (at_file s chosen f) k.format (at_sound s chosen f k x)
      (grind (arith, low, x.0.tag, nat_tests)))

-- with the answer to an order
pub told_fits : (s : Server) (kind : OrderKind) (result : OrderResult) (t : Step) → StepFits s t
    → StepFits s (with_answer t kind result)
told_fits s kind result t k =
    let long : length (t.sends ++ AnswersOrder (record { order = kind; result = result }) ∷ []) ≡ length t.sends + 1 =
    length-append t.sends _ in
    record {
      fits = record { drives = k.fits.drives; format = k.fits.format; files = k.fits.files; slots = k.fits.slots };
      named = each_more IsNamedOut t.sends _ k.named (tt, tt);
      nonces = omega (arith, k.nonces, long);
      objects = omega (arith, k.objects, long);
      recalls = omega (arith, k.recalls, long);
      grows = k.grows;
    }

-- ---- a step through all files

pub record RoundFits (nonce object : ℕ) (sent : List Awaited) (r : Round) : Type 0 where
  pub more : List Awaited
  pub sent_is : r.effects.sent ≡ sent ++ more
  pub rises : r.effects.nonce ≡ nonce + length more
  pub objects : object ≤ r.effects.object
  pub given : r.effects.object ≤ object + length more
  pub near : AllNear more
  pub files : AllByRecursion (FileFits r.effects.object) r.files

pub no_files_fit : (m : Effects) (chosen : List ℕ)
    → RoundFits m.nonce m.object m.sent (record { files = []; effects = m; chosen = chosen })
no_files_fit m chosen = record {
  more = [];
  sent_is = sym (append-nil m.sent);
  rises = omega arith;
  objects = omega arith;
  given = omega arith;
  near = tt;
  files = tt;
}

-- one file, and then the others
pub then_fits : (g h : Going) (r : Round) → From g h → RoundFits h.effects.nonce h.effects.object h.effects.sent r
    → RoundFits g.effects.nonce g.effects.object g.effects.sent (then_files h r)
then_fits g h r a b = record {
  more = a.more ++ b.more;
  sent_is = b.sent_is ∙ ap (λ (ws : List Awaited). ws ++ b.more) a.sent_is ∙ append_assoc g.effects.sent a.more b.more;
  rises = omega (arith, a.rises, b.rises, length-append a.more b.more);
  objects = omega (arith, a.objects, b.objects);
  given = omega (arith, a.given, b.given, length-append a.more b.more);
  near = each_more IsNear a.more b.more a.near b.near;
  files = (
    (
      wider_kept h.effects.object r.effects.object h.file.kept b.objects a.kept,
      wider_job h.effects.object r.effects.object h.file.kept.tag h.file.job b.objects a.job,
    ),
    b.files,
  );
}

-- the step of it, with these drives
pub round_fits : (s : Server) (ds : List Drive) (r : Round) → ServerFits s → AreNamed ds
    → RoundFits s.next_nonce s.next_object [] r → StepFits s (step_round (record s { drives = ds }) r)
round_fits s ds r k named x =
    let long : length (to_drives ds r.effects.sent) ≡ length x.more =
    length_drives ds r.effects.sent ∙ ap (λ (ws : List Awaited). length ws) x.sent_is in
    record {
      fits = record { drives = named; format = k.format; files = x.files; slots = k.slots };
      named = drives_out ds r.effects.sent (sent_near r.effects.sent x.more x.sent_is x.near);
      nonces = omega (arith, x.rises, long);
      objects = omega (arith, x.given, long);
      recalls = omega arith;
      grows = x.objects;
    }

-- ---- a drive is declared

each_declared : (drive : ℕ) (ds : List Drive) (fs : List File) (m : Effects) (chosen : List ℕ) → AreNamed ds
    → AllByRecursion (FileFits m.object) fs
    → RoundFits m.nonce m.object m.sent (declares_each drive ds fs m chosen)
unfolding declares_each
each_declared drive ds [] m chosen named k = no_files_fit m chosen
each_declared drive ds (f ∷ fs) m chosen named k =
    let g : Going = record { file = f; effects = m; drives = ds; chosen = chosen } in
    let h : Going = declares g drive in
    let a = declares_run g drive (record { kept = k.0.0; drives = named }) k.0.1 in
    then_fits g h _ a
    (each_declared drive ds fs h.effects h.chosen named (wider_files m.object h.effects.object fs a.objects k.1))

pub declared_fits : (s : Server) (chosen : List ℕ) (n : ℕ) → ServerFits s → StepFits s (declare s chosen n)
unfolding declare
declared_fits s chosen n k =
    let ds = offline s.drives n in
    let named = offline_named s.drives n k.drives in
    round_fits s ds (declares_each n ds s.files (begins s) chosen) k named
    (each_declared n ds s.files (begins s) chosen named k.files)
