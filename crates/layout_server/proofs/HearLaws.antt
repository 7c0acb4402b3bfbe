-- The file that hears a drive's reply.
use Rattle.std.specs.Prelude.{ℕ, Bool, true, false, List, [], ◌∷◌, Option, Some, None, ◌≡◌, ◌<◌, find, is_some, refl, IfSome, IfNone}
use Rattle.std.specs.Ordering.{nat_cmp}
use Rattle.std.specs.BTreeMap.{BTreeMap, is_at}
use Rattle.std.specs.Map.{keys_of, set_value}
use Rattle.std.specs.List.{AllByRecursion}
use Rattle.std.specs.List.Sorted.{IsStrictlySortedBy}
use Rattle.std.specs.declared.cmp.Ordering.TheVariants.{Less}
use Rattle.std.proofs.lemmas.Bool.{cases_Bool}
use Rattle.std.proofs.lemmas.Bool.Decides.{nat_tests}
use Rattle.std.proofs.Common.{arith, inl, inr, sym, ap, subst, append-nil, ◌∙◌}
use Rattle.osd_lists.proofs.Tests.{at_number, is_at_same}
use Rattle.osd_commands.specs.declared.replies.Reply.{Reply}
use Rattle.server_rules.specs.declared.jobs.Job.{Job}
use Rattle.server_rules.specs.declared.jobs.Awaited.{Awaited}
use Rattle.server_rules.specs.declared.server.Server.{Server}
use Rattle.server_rules.specs.Going.{Going}
use Rattle.server_rules.specs.declared.server.Effects.{Effects}
use Rattle.server_rules.specs.declared.files.File.{File}
use Rattle.server_rules.specs.Files.{at_file, begins, step_at, still}
use Rattle.server_rules.specs.Messages.{heard_at, or_else, by_heard, on_drive_reply}
use Rattle.server_rules.specs.Replies.{answers, on_reply, heard_in, heard_by}
use Rattle.file_jobs.specs.declared.job.FileState.{FileState}
use Rattle.file_jobs.specs.Steps.{at, file_of}
use Rattle.file_jobs.specs.Heard.{HearsReply}
use Rattle.file_jobs.specs.Placing.{AreLoadsOf}
use Rattle.stripe_repair.specs.declared.loads.DriveLoad.{DriveLoad}
use Rattle.server_state.specs.FileRequests.{LeavesFile}
use Rattle.server_state.specs.declared.state.State.{State}
use Rattle.server_state.specs.declared.step.Step.{Step}
use Rattle.server_state.specs.Tables.{Table, files_in, entry_at, AreEntries}
use Rattle.server_state.specs.States.{server_of, Did, IsGoodBut, Settles}
use Rattle.server_state.specs.Replies.{file_awaits, job_awaits, AreListed, OthersStay}
use Rattle.server_state.specs.Index.{Keys, has, are_to, IsFirst}
use Rattle.layout_server.specs.Hearing.{awaits, AwaitedAt, AwaitedNowhere, HeardIn}
use Rattle.server_state.proofs.TableLaws.{entry_found, entries_left}
use Rattle.server_state.proofs.ReplyLaws.{none_again, others_set, sorted_rest}
use Rattle.server_state.proofs.StepLaws.{settled_at, good_settled}

-- a job that awaits it hears it, and else none does
heard_where : (g : Going) (drive : ℕ) (r : Reply) (j : Job) (a : Option Awaited) → is_some (heard_by g r j a) ≡ is_some a
heard_where g drive r j None = refl
heard_where g drive r j (Some a) = refl

in_job : (g : Going) (drive : ℕ) (r : Reply) (o : Option Job) → is_some (heard_in g drive r o) ≡ awaits drive r o
in_job g drive r None = refl
in_job g drive r (Some j) = heard_where g drive r j (find (answers drive r) j.awaited)

pub hears_where : (g : Going) (drive : ℕ) (r : Reply) → is_some (on_reply g drive r) ≡ awaits drive r g.file.job
unfolding on_reply
hears_where g drive r = in_job g drive r g.file.job

-- what there is comes first
first_there : (o later : Option Going) → is_some o ≡ true → or_else o later ≡ o
first_there None later e = absurd (cc e)
first_there (Some g) later e = refl

later_there : (o later : Option Going) → is_some o ≡ false → or_else o later ≡ later
later_there None later e = refl
later_there (Some g) later e = absurd (cc e)

-- a file whose job awaits it hears it
heard_first : (s : Server) (chosen : List ℕ) (drive : ℕ) (r : Reply) (n : ℕ) (f : FileState) (t : Table) →
    awaits drive r f.job ≡ true →
    heard_at s chosen drive r (files_in ((n, f) ∷ t)) ≡ on_reply (at_file s chosen (file_of f)) drive r
unfolding heard_at
heard_first s chosen drive r n f t e =
    first_there (on_reply (at_file s chosen (file_of f)) drive r) (heard_at s chosen drive r (files_in t))
    (hears_where (at_file s chosen (file_of f)) drive r ∙ e)

-- any other leaves it to those behind
heard_later : (s : Server) (chosen : List ℕ) (drive : ℕ) (r : Reply) (n : ℕ) (f : FileState) (t : Table) →
    awaits drive r f.job ≡ false →
    heard_at s chosen drive r (files_in ((n, f) ∷ t)) ≡ heard_at s chosen drive r (files_in t)
unfolding heard_at
heard_later s chosen drive r n f t e =
    later_there (on_reply (at_file s chosen (file_of f)) drive r) (heard_at s chosen drive r (files_in t))
    (hears_where (at_file s chosen (file_of f)) drive r ∙ e)

-- where nothing heard it, no job awaits it
pub none_awaits : (g : Going) (drive : ℕ) (r : Reply) → on_reply g drive r ≡ None → awaits drive r g.file.job ≡ true → ⊥
none_awaits g drive r n t = clash (sym (ap is_some n) ∙ hears_where g drive r ∙ t)
  where
    clash : false ≡ true → ⊥
    clash e = absurd (cc e)

-- ---- the search

-- what the list says of a job
same_awaits : (drive : ℕ) (r : Reply) (o : Option Job) → awaits drive r o ≡ job_awaits o r.nonce drive
unfolding are_to
same_awaits drive r None = refl
same_awaits drive r (Some j) = refl

awaiting_file : (o : Option FileState) (x d : ℕ) → file_awaits o x d ≡ true →
    (f : FileState) × (o ≡ Some f) × (job_awaits f.job x d ≡ true)
awaiting_file None x d e = absurd (cc e)
awaiting_file (Some f) x d e = (f, refl, e)

-- the first of these doesn't await it
quiet_here : (e : ℕ × FileState) (es : Table) (drive : ℕ) (r : Reply) →
    file_awaits (entry_at (e ∷ es) e.0) r.nonce drive ≡ false → awaits drive r e.1.job ≡ false
quiet_here e es drive r q = same_awaits drive r e.1.job ∙ rw (is_at_same e.0) at q

-- and so it is with those behind
quiet_behind : (e : ℕ × FileState) (es : Table) (x d m : ℕ) → AllByRecursion (λ k. nat_cmp e.0 k ≡ Less) (keys_of es) →
    file_awaits (entry_at (e ∷ es) m) x d ≡ false → file_awaits (entry_at es m) x d ≡ false
quiet_behind e es x d m order q = elim (cases_Bool (is_at (nat_cmp m) e.0)) [
  | inl here ↦
      ap (λ (k : ℕ). file_awaits (entry_at es k) x d) (same_key m e.0 here)
      ∙ ap (λ (o : Option FileState). file_awaits o x d) (none_again e.0 es order)
  | inr there ↦ rw there at q
]
  where
    same_key : (n k : ℕ) → is_at (nat_cmp n) k ≡ true → n ≡ k
    same_key n k t = grind (arith, nat_tests, at_number n k, t)

-- a file behind another has a greater number
is_behind : (k n : ℕ) (es : Table) (f : FileState) → AllByRecursion (λ y. nat_cmp k y ≡ Less) (keys_of es) →
    entry_at es n ≡ Some f → k < n
is_behind k n [] f order found = absurd (cc found)
is_behind k n (e ∷ es) f order found = elim (cases_Bool (is_at (nat_cmp n) e.0)) [
  | inl here ↦ less k n e.0 order.0 here
  | inr there ↦ is_behind k n es f order.1 (rw there at found)
]
  where
    less : (k n y : ℕ) → nat_cmp k y ≡ Less → is_at (nat_cmp n) y ≡ true → k < n
    less k n y l t = grind (arith, nat_tests, at_number n y, l, t)

-- the first file whose job awaits it hears it
heard_by_first : (s : Server) (chosen : List ℕ) (drive : ℕ) (r : Reply) (t : Table) (n : ℕ) (f : FileState) →
    IsStrictlySortedBy nat_cmp (keys_of t) → entry_at t n ≡ Some f → awaits drive r f.job ≡ true →
    ((m : ℕ) → m < n → file_awaits (entry_at t m) r.nonce drive ≡ false) →
    heard_at s chosen drive r (files_in t) ≡ on_reply (at_file s chosen (file_of f)) drive r
heard_by_first s chosen drive r [] n f sorted found here none = absurd (cc found)
heard_by_first s chosen drive r (e ∷ es) n f sorted found here none =
    let order = sorted_rest e.0 (keys_of es) sorted in
    elim (cases_Bool (is_at (nat_cmp n) e.0)) [
      | inl at_it ↦
          let same : e.1 ≡ f = cc (rw at_it at found) in
          heard_first s chosen drive r e.0 e.1 es (subst (λ (h : FileState). awaits drive r h.job ≡ true) (sym same) here)
          ∙ ap (λ (h : FileState). on_reply (at_file s chosen (file_of h)) drive r) same
      | inr not_it ↦
          let later : entry_at es n ≡ Some f = rw not_it at found in
          heard_later s chosen drive r e.0 e.1 es (quiet_here e es drive r (none e.0 (is_behind e.0 n es f order.0 later)))
          ∙ heard_by_first s chosen drive r es n f order.1 later here
          (λ m l. quiet_behind e es r.nonce drive m order.0 (none m l))
    ]

heard_by_none : (s : Server) (chosen : List ℕ) (drive : ℕ) (r : Reply) (t : Table) → IsStrictlySortedBy nat_cmp (keys_of t) →
    ((m : ℕ) → file_awaits (entry_at t m) r.nonce drive ≡ false) → heard_at s chosen drive r (files_in t) ≡ None
unfolding heard_at
heard_by_none s chosen drive r [] sorted none = refl
heard_by_none s chosen drive r (e ∷ es) sorted none =
    let order = sorted_rest e.0 (keys_of es) sorted in
    heard_later s chosen drive r e.0 e.1 es (quiet_here e es drive r (none e.0))
    ∙ heard_by_none s chosen drive r es order.1 (λ m. quiet_behind e es r.nonce drive m order.0 (none m))

-- the first file that the list names
pub first_listed : (drive : ℕ) (r : Reply) (ks : Keys) (t : Table) (n : ℕ) → IsStrictlySortedBy nat_cmp (keys_of t) →
    AreListed ks t →
    IsFirst ks r.nonce drive n → AwaitedAt drive r n t
first_listed drive r ks t n sorted listed first =
    let h = awaiting_file (entry_at t n) r.nonce drive (sym (listed r.nonce drive n) ∙ first.awaits) in
    let here : awaits drive r h.0.job ≡ true = same_awaits drive r h.0.job ∙ h.2 in (
      h.0,
      h.1,
      here,
      λ s chosen. heard_by_first s chosen drive r t n h.0 sorted h.1 here (λ m l. sym (listed r.nonce drive m) ∙ first.none m l),
    )

pub none_listed : (drive : ℕ) (r : Reply) (ks : Keys) (t : Table) → IsStrictlySortedBy nat_cmp (keys_of t) → AreListed ks t →
    ((m : ℕ) → has ks r.nonce drive m ≡ false) → AwaitedNowhere drive r t
none_listed drive r ks t sorted listed none =
    λ s chosen. heard_by_none s chosen drive r t sorted (λ m. sym (listed r.nonce drive m) ∙ none m)

-- what follows of a number, if there is one, and of none
pub if_some : {P Q : ℕ → Type 0} (o : Option ℕ) → ((n : ℕ) → P n → Q n) → IfSome o P → IfSome o Q
if_some None f p = tt
if_some (Some n) f p = f n p

pub if_none : {P Q : Type 0} (o : Option ℕ) → (P → Q) → IfNone o P → IfNone o Q
if_none None f p = f p
if_none (Some n) f p = tt

-- ---- at the file of a number

heard_there : (heard : Bool) (loads : List DriveLoad) (drive : ℕ) (r : Reply) (f g : FileState) (was is : Effects) →
    awaits drive r f.job ≡ true → HearsReply heard loads drive r f was g is → HearsReply true loads drive r f was g is
heard_there true loads drive r f g was is w h = h
heard_there false loads drive r f g was is w h = absurd (none_awaits (at f was [] []) drive r (h.0 [] []) w)

pub heard_in_table : (loads : List DriveLoad) (drive : ℕ) (r : Reply) (n : ℕ) (old new : Table) (was is : Effects) (heard : Bool)
    (f g : FileState) →
    entry_at old n ≡ Some f → new ≡ set_value (is_at (nat_cmp n)) old g → HearsReply heard loads drive r f was g is →
    LeavesFile f g →
    HeardIn loads drive r n old was new is
heard_in_table loads drive r n old new was is heard f g found put h l = λ e at_e w.
    let same : f ≡ e = cc (sym found ∙ at_e) in (
      g,
      put,
      subst (λ (z : FileState). HearsReply true loads drive r z was g is) same
          (heard_there heard loads drive r f g was is (subst (λ (z : FileState). awaits drive r z.job ≡ true) (sym same) w) h),
      subst (λ (z : FileState). LeavesFile z g) same l,
    )

-- ---- the step

-- what comes of it, once its file heard it
pub heard_step : (old : State) (files : BTreeMap ℕ FileState) (new : State) (m : Effects) (n : ℕ) (loads : List DriveLoad)
    (drive : ℕ) (r : Reply) (f g : FileState) (out : Step) →
    AreEntries old.files.entries → entry_at old.files.entries n ≡ Some f →
    ((s : Server) (chosen : List ℕ) →
    heard_at s chosen drive r (files_in old.files.entries) ≡ on_reply (at_file s chosen (file_of f)) drive r) →
    files.entries ≡ set_value (is_at (nat_cmp n)) old.files.entries g → AreLoadsOf loads old.drives →
    HearsReply true loads drive r f (begins (server_of old)) g m → LeavesFile f g →
    Settles (record old { files = files }) m new out →
    (chosen : List ℕ) × Did out (server_of new) (on_drive_reply (server_of old) chosen drive r)
unfolding on_drive_reply
heard_step old files new m n loads drive r f g out good found at_it put_in loaded hears leaves fin =
    let s : Server = server_of old in
    let number : g.kept.number ≡ n = leaves.number ∙ (entry_found old.files.entries n f good found).number in
    let h = hears old.drives loaded in
    let chosen : List ℕ = h.0 in
    let heard : heard_at s chosen drive r s.files ≡ Some (at g m old.drives []) =
    at_it s chosen ∙ ap (λ (cs : List ℕ). on_reply (at f (begins s) old.drives cs) drive r) (sym (append-nil chosen))
    ∙ h.1 [] in (
      chosen,
      subst (λ (x : Option Going). Did out (server_of new) (by_heard s x)) (sym heard)
          (subst (λ (k : ℕ). Did out (server_of new) (step_at s k (at g m old.drives []))) (sym number)
          (settled_at old files new m n g [] (at g m old.drives []) out good put_in refl fin)),
    )

-- the file that heard it, and what the step left of it
pub heard_whole : (old : State) (files : BTreeMap ℕ FileState) (new : State) (m : Effects) (n : ℕ) (loads : List DriveLoad)
    (drive : ℕ) (r : Reply) (out : Step) →
    IsGoodBut n old → AwaitedAt drive r n old.files.entries → AreLoadsOf loads old.drives →
    HeardIn loads drive r n old.files.entries (begins (server_of old)) files.entries m →
    Settles (record old { files = files }) m new out →
    ((chosen : List ℕ) × Did out (server_of new) (on_drive_reply (server_of old) chosen drive r)) × IsGoodBut n new
heard_whole old files new m n loads drive r out good awaited loaded heard fin =
    let f : FileState = awaited.0 in
    let h = heard f awaited.1 awaited.2 in (
      heard_step old files new m n loads drive r f h.0 out good.files awaited.1 awaited.3 h.1 loaded h.2 h.3 fin,
      good_settled n old files new m out good
          (subst (λ (t : Table). AreEntries t) (sym h.1) (entries_left old.files.entries n f h.0 good.files awaited.1 h.3))
          (subst (λ (t : Table). OthersStay n old.files.entries t) (sym h.1) (others_set old.files.entries n h.0)) fin,
    )

-- none hears it, and nothing happens
pub heard_none : (s : Server) (drive : ℕ) (r : Reply) (t : Table) (out : Step) → s.files ≡ files_in t → AwaitedNowhere drive r t →
    Did out s (still s) →
    (chosen : List ℕ) × Did out s (on_drive_reply s chosen drive r)
unfolding on_drive_reply
heard_none s drive r t out e nowhere did = (
  [],
  subst (λ (x : Option Going). Did out s (by_heard s x))
      (sym (ap (λ (fs : List File). heard_at s [] drive r fs) e ∙ nowhere s [])) did,
)
