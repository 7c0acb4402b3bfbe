-- Each note of a step of the server has its cause.
use Rattle.std.proofs.Common.{◌≡◌, ◌⊎◌, ◌==◌, ◌&&◌, ◌≤◌, ℕ, Bool, true, false, nat_lt, nat_le, List, [], ◌∷◌, find, is_some, Option, Some, None, refl, sym, ap, subst, ◌∙◌, arith, inl, inr, if◌then◌else◌}
use Rattle.std.proofs.lemmas.Bool.{cases_Bool, eq-eqb, eqb-true, leb-true, and_parts}
use Rattle.std.proofs.lemmas.Bool.Decides.{nat_tests}
use Rattle.osd_lists.specs.declared.node.Node.{Node}
use Rattle.osd_lists.specs.declared.node.Node.TheVariants.{Server as FromServer, Drive as FromDrive, Client as FromClient}
use Rattle.server_rules.specs.declared.limits.TheConstants.{MAX_CLIENT, GREATEST_TAG}
use Rattle.server_rules.specs.Files.{Step, still, begins, file_at, put_file, add_file, at_file}
use Rattle.server_rules.specs.Get.{lowest}
use Rattle.server_rules.specs.Going.{Going, noting}
use Rattle.server_rules.specs.History.{Input, Hears, Makes, Obeys, Adds, Zones, Formats, Resends, Crashes, Opens, unless_made, step}
use Rattle.server_rules.specs.Jobs.{making, declares, fence_begins}
use Rattle.server_rules.specs.Laws.{In, ConflictsAreExact, Rests, AreSafe, is_taken_of}
use Rattle.server_rules.specs.Making.{refusal, unless_refused, makes_file, with_file, unmade, drives_for, create_file}
use Rattle.server_rules.specs.Messages.{Message, Asks, Replies, Orders, awaited_by, counters_have_room, or_else, by_heard, heard_at, on_drive_reply, handled, on_message}
use Rattle.server_rules.specs.Openings.{opens, opens_each, reopen}
use Rattle.server_rules.specs.Orders.{begins_job, starts, recalls_on, declares_known, ordered, offline, declare, declares_each}
use Rattle.server_rules.specs.Replies.{Hearing, Older, Full, Done, Nothing, answers, heard_by, heard_in, on_reply, hearing, hears}
use Rattle.server_rules.specs.Requests.{serves, on_request}
use Rattle.server_rules.specs.Rounds.{step_round}
use Rattle.server_rules.specs.Slots.{New as IsNewRequest, slot_of, admit}
use Rattle.server_rules.proofs.FileLaws.{number_at, not_there}
use Rattle.world_history.specs.ServerNames.{Server, Drive, File, Job, JobKind, Revoking, Rebuilding, Auditing, Awaited, Effects, Note, Busy, Spent, Reply, ClientRequest, OrderKind, ToRecall, ToRevoke, ToDeclare, ToRebuild, ToAudit, RawMap, Refusal}
use Rattle.world_history.specs.Told.{told_note}
use Rattle.history_law.specs.Steps.{IsOrder, Here, Sent}
use Rattle.history_law.proofs.Steps.{each_request}
use Rattle.history_law.proofs.Files.{in_at, safe_in}
use Rattle.history_law.proofs.JobFiles.{put_there}
use Rattle.history_law.proofs.Fences.{handled_fence, handled_making}
use Rattle.history_law.proofs.Hearing.{found_in, goes_hears}
use Rattle.history_law.proofs.Asking.{handled_served, handled_declares, handled_opened}
use Rattle.component_law.specs.Going.{declared_by, declared_in, if_known, taken_out, IsMaking}
use Rattle.cause_law.specs.Answers.{IsNew}
use Rattle.cause_law.specs.Awaiting.{Answers}
use Rattle.cause_law.specs.Changes.{IsFencing, TakesOrder}
use Rattle.cause_law.specs.Gets.{IsLowest}
use Rattle.cause_law.proofs.TagSteps.{R}
use Rattle.cause_law.proofs.Words.{job_waits}
use Rattle.history_claims.specs.Notes.{AtMaking, ByOrder, IsTold, OrdersAudit, CausedOf, CausedAtFirst}
use Rattle.history_claims.proofs.NoteWalk.{New, one_new, Own, adds_making}
use Rattle.history_claims.proofs.NoteCauses.{Caused, says_hears, says_declares, says_fence, says_spent, says_opens}
use Rattle.history_claims.proofs.NoteRequests.{serves_tell}

-- a file is among those to which it is added
own_added : (fs : List File) (f : File) → In f (add_file fs f)
unfolding add_file
own_added [] f = inl refl
own_added (x ∷ fs) f = by (nat_lt x.kept.number f.kept.number) (own_added fs f)
  where
    by : (b : Bool) → In f (add_file fs f) → In f (if b then x ∷ add_file fs f else f ∷ x ∷ fs)
    by true j = inr j
    by false j = inl refl

-- ---- a note

-- It is caused by what a file was, and became; or its file is made.
pub data Was (s : Server) (i : Input) (ds : List Drive) (gs : List File) (x : Note) : Type 0 where
  Of : (f g : File) → In f s.files → In g gs → g.kept.number ≡ f.kept.number → x.file ≡ f.kept.number
      → CausedOf s ds i f g (told_note x.kind) → Was s i ds gs x
  AtFirst : (g : File) → In g gs → x.file ≡ g.kept.number → file_at s.files g.kept.number ≡ None
      → CausedAtFirst i g (told_note x.kind) → Was s i ds gs x

module _ (exact : ConflictsAreExact) (s : Server) (chosen : List ℕ) (i : Input) (safe : AreSafe s.files) where
  abbrev P : Step → Type 0
  P t = (x : Note) → In x t.notes → Was s i t.state.drives t.state.files x

  -- one file goes on
  put_so : (n : ℕ) (f : File) (h : Going) → In f s.files → f.kept.number ≡ n → h.file.kept.number ≡ f.kept.number
      → New (Own f.kept.number (Caused s s.drives i f h.file)) [] h.effects.notes → (x : Note) → In x h.effects.notes
      → Was s i s.drives (put_file s.files n h.file) x
  put_so n f h there is number notes x j = elim (notes x j) [
    | inl none ↦ absurd none
    | inr (own, caused) ↦ Of f h.file there (put_there s.files n h.file f there is) number own caused
  ]

  -- ---- a request

  new_of : (now : ℕ) (q : ClientRequest) → i ≡ Hears now (FromClient q.client) (Asks q) → counters_have_room s ≡ true
      → q.client ≤ MAX_CLIENT → admit (slot_of s.slots q.client) q.sequence ≡ IsNewRequest → IsNew s i now q
  new_of now q comes low named new = record { comes = comes; taken = taken; new = new }
    where
      taken : is_taken_of s q.client q.client q ≡ true
      taken = rw (eq-eqb q.client q.client refl, low) (grind (arith, nat_tests, named))

  asked : (now : ℕ) (q : ClientRequest) → i ≡ Hears now (FromClient q.client) (Asks q) → counters_have_room s ≡ true
      → q.client ≤ MAX_CLIENT → P (on_request s now chosen q)
  asked now q comes low named =
      each_request s now chosen q P (record {
        again = λ kept e x j. absurd j;
        misordered = λ expected e x j. absurd j;
        without = λ new none x j. absurd j;
        served = λ new f found.
            let h : Going = (serves (at_file s chosen f) s.next_grant s.format now q.client q.args).going in
            put_so q.file f h (in_at s.files q.file f found) (number_at s.files q.file f found)
            (handled_served R (at_file s chosen f) s.next_grant s.format now q.client q.args).goes.number_is
            (serves_tell exact s i f h.file chosen now q (new_of now q comes low named new)
            (sym (number_at s.files q.file f found)) (safe_in s.files safe f (in_at s.files q.file f found)).apart q.args refl
            refl);
      })

  -- ---- a reply

  module _ (now d : ℕ) (r : Reply) (comes : i ≡ Hears now (FromDrive d) (Replies r)) (low : counters_have_room s ≡ true) where
    -- a file that hears it
    abbrev Heard_ : Option Going → Type 0
    Heard_ None = Unit {0}
    Heard_ (Some h) =
        (f : File) × In f s.files × (h.file.kept.number ≡ f.kept.number)
        × New (Own f.kept.number (Caused s s.drives i f h.file)) [] h.effects.notes

    its : (a : Awaited) → answers d r a ≡ true → (a.drive ≡ d) × (r.nonce ≡ a.command.nonce)
    its a e =
        let both = and_parts (a.command.nonce == r.nonce) (a.drive == d) e in
        (eqb-true a.drive d both.1, sym (eqb-true a.command.nonce r.nonce both.0))

    heard_so : (f : File) → In f s.files → (j : Job) → f.job ≡ Some j → (a : Awaited)
        → find (answers d r) j.awaited ≡ Some a → Heard_ (Some (hears (at_file s chosen f) j a r (hearing f.kept a r)))
    heard_so f there j runs a found = (
      f,
      there,
      (goes_hears (at_file s chosen f) j a r (hearing f.kept a r) own.0
          (λ b k. subst (λ (o : Option Job). In b (awaited_by o)) (sym runs) k)).number_is,
      by (hearing f.kept a r) refl,
    )
      where
        own : In a j.awaited × (answers d r a ≡ true)
        own = found_in (answers d r) j.awaited a found

        answers_it : (hearing f.kept a r ≡ Nothing → ⊥) → Answers s i f a
        answers_it counts = record {
          now = now;
          reply = r;
          comes = comes ∙ ap (λ (n : ℕ). Hears now (FromDrive n) (Replies r)) (sym (its a own.1).0);
          room = low;
          nonce = (its a own.1).1;
          counts = counts;
        }

        by : (v : Hearing) → hearing f.kept a r ≡ v
            → New (Own f.kept.number (Caused s s.drives i f (hears (at_file s chosen f) j a r v).file)) []
            (hears (at_file s chosen f) j a r v).effects.notes
        by Nothing is = λ x k. absurd k
        by Older is =
            says_hears s s.drives i f (hears (at_file s chosen f) j a r Older).file j runs (at_file s chosen f) refl refl a own.0
            r (answers_it (λ q. cc (sym is ∙ q))) refl Older is refl
        by Full is =
            says_hears s s.drives i f (hears (at_file s chosen f) j a r Full).file j runs (at_file s chosen f) refl refl a own.0
            r (answers_it (λ q. cc (sym is ∙ q))) refl Full is refl
        by Done is =
            says_hears s s.drives i f (hears (at_file s chosen f) j a r Done).file j runs (at_file s chosen f) refl refl a own.0
            r (answers_it (λ q. cc (sym is ∙ q))) refl Done is refl

    first_heard : (fs : List File) → ((f : File) → In f fs → In f s.files) → Heard_ (heard_at s chosen d r fs)
    unfolding heard_at on_reply
    first_heard [] among = tt
    first_heard (f ∷ fs) among =
        of_job f.job refl (heard_at s chosen d r fs) (first_heard fs (λ g j. among g (inr j)))
      where
        of_found : (j : Job) → f.job ≡ Some j → (o : Option Awaited) → find (answers d r) j.awaited ≡ o
            → (later : Option Going) → Heard_ later → Heard_ (or_else (heard_by (at_file s chosen f) r j o) later)
        of_found j runs None found later rest = rest
        of_found j runs (Some a) found later rest = heard_so f (among f (inl refl)) j runs a found

        of_job : (o : Option Job) → f.job ≡ o → (later : Option Going) → Heard_ later
            → Heard_ (or_else (heard_in (at_file s chosen f) d r o) later)
        of_job None runs later rest = rest
        of_job (Some j) runs later rest = of_found j runs (find (answers d r) j.awaited) refl later rest

    replied : P (on_drive_reply s chosen d r)
    unfolding on_drive_reply
    replied = by (heard_at s chosen d r s.files) (first_heard s.files (λ f j. j))
      where
        by : (o : Option Going) → Heard_ o → P (by_heard s o)
        by None h = λ x j. absurd j
        by (Some h) e = put_so h.file.kept.number e.0 h e.1 (sym e.2) e.2 e.3

  -- ---- an order

  module _ (kind : OrderKind) (n : ℕ) (order : IsOrder i kind n) (takes : TakesOrder s i) (fencing : IsFencing kind) where
    begun : (job : JobKind) → (job ≡ Rebuilding → kind ≡ ToRebuild) → (job ≡ Auditing → kind ≡ ToAudit) → (f : File)
        → file_at s.files n ≡ Some f → (o : Option Job) → f.job ≡ o → P (begins_job s chosen job f o).step
    begun job r a f found (Some j) runs =
        put_so f.kept.number f (noting (at_file s chosen f) (Busy (lowest j.awaited))) (in_at s.files n f found) refl refl
        (one_new (Own f.kept.number (Caused s s.drives i f f)) [] _ (
          refl,
          record {
            kind = kind;
            begins = fencing;
            order = its;
            takes = takes;
            lowest =
                subst (λ (o : Option Job). IsLowest (awaited_by o) (lowest j.awaited)) (sym runs)
                (job_waits j (subst Rests runs (safe_in s.files safe f (in_at s.files n f found)).rests));
          },
        ))
      where
        its : IsOrder i kind f.kept.number
        its = subst (IsOrder i kind) (sym (number_at s.files n f found)) order
    begun job r a f found None free = elim (cases_Bool (f.kept.tag == GREATEST_TAG)) [
      | inl t ↦
          rw t (put_so f.kept.number f (noting (at_file s chosen f) Spent) (in_at s.files n f found) refl refl
          (says_spent s s.drives i f f (at_file s chosen f) refl refl (eqb-true f.kept.tag GREATEST_TAG t)
          (ByOrder kind fencing its takes free)))
      | inr z ↦
          rw z (put_so f.kept.number f (fence_begins job s.format (at_file s chosen f)) (in_at s.files n f found) refl
          (handled_fence R job s.format (at_file s chosen f)).goes.number_is
          (says_fence s s.drives i f (fence_begins job s.format (at_file s chosen f)).file job
          (λ e. IsTold (subst (λ (k : OrderKind). IsOrder i k f.kept.number) (r e) its) takes free)
          (λ e. OrdersAudit (subst (λ (k : OrderKind). IsOrder i k f.kept.number) (a e) its) takes free) s.format
          (at_file s chosen f) refl refl refl))
    ]
      where
        its : IsOrder i kind f.kept.number
        its = subst (IsOrder i kind) (sym (number_at s.files n f found)) order

    started : (job : JobKind) → (job ≡ Rebuilding → kind ≡ ToRebuild) → (job ≡ Auditing → kind ≡ ToAudit)
        → (o : Option File) → file_at s.files n ≡ o → P (starts s chosen job o).step
    started job r a None found = λ x j. absurd j
    started job r a (Some f) found = begun job r a f found f.job refl

  -- ---- a declaration

  -- a note of one of these files
  more_was : (ds : List Drive) (g : File) (gs : List File) (x : Note) → Was s i ds gs x → Was s i ds (g ∷ gs) x
  more_was ds g gs x (Of f h there among number own caused) = Of f h there (inr among) number own caused
  more_was ds g gs x (AtFirst h among own none caused) = AtFirst h (inr among) own none caused

  all_declared : (d : ℕ) → taken_out s i ≡ Some d → (ds : List Drive) (fs : List File) (m : Effects) (placed : List ℕ)
      → ((f : File) → In f fs → In f s.files) → (x : Note) → In x (declares_each d ds fs m placed).effects.notes
      → In x m.notes ⊎ Was s i ds (declares_each d ds fs m placed).files x
  unfolding declares_each
  all_declared d out ds [] m placed among x j = inl j
  all_declared d out ds (f ∷ fs) m placed among x j =
      let g : Going = record { file = f; effects = m; drives = ds; chosen = placed } in
      let h : Going = declares g d in
      elim (all_declared d out ds fs h.effects h.chosen (λ y k. among y (inr k)) x j) [
        | inr was ↦ inr (more_was ds h.file _ x was)
        | inl here ↦ elim (says_declares s ds i f h.file d out g refl refl refl x here) [
          | inl before ↦ inl before
          | inr (own, caused) ↦
              inr (Of f h.file (among f (inl refl)) (inl refl) (handled_declares R g d).goes.number_is own caused)
        ]
      ]

  declared : (n : ℕ) (b : Bool) → (b ≡ true → taken_out s i ≡ Some n) → P (declares_known s chosen n b).step
  unfolding declare
  declared n false out = λ x j. absurd j
  declared n true out = λ x j. elim (all_declared n (out refl) (offline s.drives n) s.files (begins s) chosen (λ f k. k) x j) [
    | inl none ↦ absurd none
    | inr was ↦ was
  ]

  recalled : (o : Option File) → P (recalls_on s o).step
  recalled None = λ x j. absurd j
  recalled (Some f) = λ x j. absurd j

  obeyed : (kind : OrderKind) (n : ℕ) → IsOrder i kind n → TakesOrder s i → taken_out s i ≡ if_known s (declared_by kind n)
      → P (ordered s chosen kind n).step
  unfolding ordered
  obeyed ToRecall n order takes out = recalled (file_at s.files n)
  obeyed ToRevoke n order takes out =
      started ToRevoke n order takes tt Revoking (λ e. absurd (cc e)) (λ e. absurd (cc e)) (file_at s.files n) refl
  obeyed ToDeclare n order takes out =
      declared n (is_some (find (λ (d : Drive). d.number == n) s.drives))
      (λ known. out ∙ ap (λ (b : Bool). if b then Some n else None) known)
  obeyed ToRebuild n order takes out =
      started ToRebuild n order takes tt Rebuilding (λ e. refl) (λ e. absurd (cc e)) (file_at s.files n) refl
  obeyed ToAudit n order takes out =
      started ToAudit n order takes tt Auditing (λ e. absurd (cc e)) (λ e. refl) (file_at s.files n) refl

  -- ---- a message

  either : (b : Bool) (t u : Step) → (b ≡ true → P t) → P u → P (if b then t else u)
  either true t u p q = p refl
  either false t u p q = q

  message : (now : ℕ) (from : Node) (m : Message) → i ≡ Hears now from m → counters_have_room s ≡ true
      → taken_out s i ≡ if_known s (declared_in (Hears now from m)) → P (handled s now chosen from m)
  message now (FromClient c) (Asks q) is low out =
      either ((q.client == c) && nat_le c MAX_CLIENT) _ _ (λ e.
      let both = and_parts (q.client == c) (nat_le c MAX_CLIENT) e in
      let same : c ≡ q.client = sym (eqb-true q.client c both.0) in
      asked now q (subst (λ (n : ℕ). i ≡ Hears now (FromClient n) (Asks q)) same is) low
      (subst (λ (n : ℕ). n ≤ MAX_CLIENT) same (leb-true c MAX_CLIENT both.1))) (λ x j. absurd j)
  message now (FromDrive d) (Replies r) is low out = replied now d r is low
  message now FromServer (Orders o) is low out = obeyed o.order o.target (Sent now o is refl refl) (takes_it i is) out
    where
      takes_it : (j : Input) → j ≡ Hears now FromServer (Orders o) → TakesOrder s j
      takes_it (Obeys kind n) e = tt
      takes_it (Hears x y z) e = low
      takes_it (Makes a b c d) e = low
      takes_it (Adds d) e = low
      takes_it (Zones d zone) e = low
      takes_it (Formats n) e = low
      takes_it Resends e = low
      takes_it Crashes e = low
      takes_it Opens e = low
  message now from m is low out = λ x j. absurd j

  heard_message : (now : ℕ) (from : Node) (m : Message) → i ≡ Hears now from m → (b : Bool) → counters_have_room s ≡ b
      → P (if b then handled s now chosen from m else still s)
  heard_message now from m is true low =
      message now from m is low (ap (taken_out s) is
      ∙ ap (λ (b : Bool). if b then if_known s (declared_in (Hears now from m)) else None) low)
  heard_message now from m is false low = λ x j. absurd j

  -- ---- a file is made

  created : (n : ℕ) (m : RawMap) (tag : ℕ) (zoned : Bool) → i ≡ Makes n m tag zoned
      → P (unless_made s (create_file s n m tag zoned chosen))
  unfolding create_file
  created n m tag zoned is = by (refusal s n m zoned) refl
    where
      f : File
      f = unmade s n m tag zoned (drives_for zoned s.drives m chosen)

      by : (o : Option Refusal) → refusal s n m zoned ≡ o → P (unless_made s (unless_refused o (makes_file s f)))
      by (Some why) e = λ x j. absurd j
      by None e = λ x j. elim (told x j) [
        | inl none ↦ absurd none
        | inr (own, caused) ↦ AtFirst h.file (put_there (add_file s.files f) n h.file f (own_added s.files f) refl)
            (own ∙ sym number) (ap (file_at s.files) number ∙ not_there s n m zoned e) caused
      ]
        where
          g : Going
          g = at_file (with_file s f) [] f

          h : Going
          h = making g

          number : h.file.kept.number ≡ n
          number = (handled_making R g).goes.number_is

          making_it : IsMaking i h.file.kept.number
          making_it = subst (λ (x : Input). IsMaking x h.file.kept.number) (sym is) (sym number)

          told : New (Own n (λ kind. CausedAtFirst i h.file (told_note kind))) [] h.effects.notes
          told =
              adds_making n s.drives h.file (λ kind. CausedAtFirst i h.file (told_note kind)) ⊥ ⊥ g (λ none job ready. record {
                made = AtMaking making_it none;
                over = job;
                ready = ready;
              }) refl refl refl

  -- ---- an opening

  all_opened : i ≡ Opens → counters_have_room s ≡ true → (format : ℕ) (fs : List File) (m : Effects)
      → ((f : File) → In f fs → In f s.files) → (x : Note) → In x (opens_each format s.drives fs m).effects.notes
      → In x m.notes ⊎ Was s i s.drives (opens_each format s.drives fs m).files x
  unfolding opens_each
  all_opened is low format [] m among x j = inl j
  all_opened is low format (f ∷ fs) m among x j =
      let g : Going = record { file = f; effects = m; drives = s.drives; chosen = [] } in
      let h : Going = opens format g in
      elim (all_opened is low format fs h.effects (λ y k. among y (inr k)) x j) [
        | inr was ↦ inr (more_was s.drives h.file _ x was)
        | inl here ↦ elim (says_opens s s.drives i f h.file is low format g refl refl refl x here) [
          | inl before ↦ inl before
          | inr (own, caused) ↦
              inr (Of f h.file (among f (inl refl)) (inl refl) (handled_opened R format g).goes.number_is own caused)
        ]
      ]

  opened : i ≡ Opens → P (reopen s)
  unfolding reopen
  opened is = by (counters_have_room s) refl
    where
      by : (b : Bool) → counters_have_room s ≡ b
          → P (if b then step_round s (opens_each s.format s.drives s.files (begins s)) else still s)
      by false low = λ x j. absurd j
      by true low = λ x j. elim (all_opened is low s.format s.files (begins s) (λ f k. k) x j) [
        | inl none ↦ absurd none
        | inr was ↦ was
      ]

-- ---- any step

pub notes_caused : (exact : ConflictsAreExact) (s : Server) (chosen : List ℕ) (i : Input) (safe : AreSafe s.files)
    → P exact s chosen i safe (step s chosen i)
unfolding on_message
notes_caused exact s chosen (Hears now from m) safe =
    heard_message exact s chosen (Hears now from m) safe now from m refl (counters_have_room s) refl
notes_caused exact s chosen (Makes n m tag zoned) safe =
    created exact s chosen (Makes n m tag zoned) safe n m tag zoned refl
notes_caused exact s chosen (Obeys kind n) safe =
    obeyed exact s chosen (Obeys kind n) safe kind n (Here refl) tt refl
notes_caused exact s chosen (Adds d) safe = λ x j. absurd j
notes_caused exact s chosen (Zones d zone) safe = λ x j. absurd j
notes_caused exact s chosen (Formats n) safe = λ x j. absurd j
notes_caused exact s chosen Resends safe = λ x j. absurd j
notes_caused exact s chosen Crashes safe = λ x j. absurd j
notes_caused exact s chosen Opens safe = opened exact s chosen Opens safe refl
