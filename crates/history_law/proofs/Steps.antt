-- What is so in each case of a step of the server is so of each step. This is the one walk over the server's steps.
use Rattle.std.proofs.Common.{◌≡◌, ◌≤◌, ◌==◌, ◌&&◌, ℕ, Bool, true, false, nat_le, List, [], ◌∷◌, Option, Some, None, find, is_some, inl, inr, refl, sym, subst, if◌then◌else◌}
use Rattle.std.proofs.lemmas.Bool.{eqb-true, leb-true}
use Rattle.osd_lists.specs.declared.node.Node.{Node}
use Rattle.osd_lists.specs.declared.node.Node.TheVariants.{Server as FromServer, Drive as FromDrive, Client as FromClient}
use Rattle.server_rules.specs.declared.limits.TheConstants.{MAX_CLIENT, GREATEST_TAG}
use Rattle.server_rules.specs.Files.{Step, still, begins, file_at, at_file, step_at}
use Rattle.server_rules.specs.Going.{Going, noting}
use Rattle.server_rules.specs.History.{Input, Hears, Makes, Obeys, Adds, Zones, Formats, Resends, Crashes, Opens, step, unless_made}
use Rattle.server_rules.specs.Jobs.{fence_begins}
use Rattle.server_rules.specs.Laws.{In}
use Rattle.server_rules.specs.Making.{refusal, unless_refused, makes_file, create_file}
use Rattle.server_rules.specs.Messages.{Message, Asks, Replies, Orders, counters_have_room, or_else, by_heard, heard_at, on_drive_reply, handled, on_message}
use Rattle.server_rules.specs.Openings.{opens_each, reopen}
use Rattle.server_rules.specs.Orders.{Ordered, begins_job, starts, recalls_on, declares_known, ordered}
use Rattle.server_rules.specs.Replies.{answers, heard_by, heard_in, on_reply}
use Rattle.server_rules.specs.Rounds.{step_round}
use Rattle.server_rules.specs.Requests.{by_admit, carries_out, on_request}
use Rattle.server_rules.specs.Slots.{Admit, New, Again, Misordered, slot_of, admit}
use Rattle.world_history.specs.ServerNames.{Server, File, Drive, Job, JobKind, Revoking, Rebuilding, Auditing, Awaited, Reply, ClientRequest, OrderKind, ToRecall, ToRevoke, ToDeclare, ToRebuild, ToAudit, HasStarted, IsSpent, Spent, RawMap, Refusal}
use Rattle.history_law.specs.Steps.{IsOrder, Here, Sent, IsOrdered, WhileBusy, OnGreatest, new_file, StepCases, RequestCases}

-- ---- a request

module _ (s : Server) (now : ℕ) (chosen : List ℕ) (q : ClientRequest) (P : Step → Type 0)
    (k : RequestCases s now chosen q P) where
  carried : admit (slot_of s.slots q.client) q.sequence ≡ New → (o : Option File) → file_at s.files q.file ≡ o
      → P (carries_out s now chosen q o)
  carried new None found = k.without new found
  carried new (Some f) found = k.served new f found

  admitted : (a : Admit) → admit (slot_of s.slots q.client) q.sequence ≡ a → P (by_admit s now chosen q a)
  admitted New is = carried is (file_at s.files q.file) refl
  admitted (Again kept) is = k.again kept is
  admitted (Misordered expected) is = k.misordered expected is

  pub each_request : P (on_request s now chosen q)
  unfolding on_request
  each_request = admitted (admit (slot_of s.slots q.client) q.sequence) refl

-- ---- a step

both : (a b : Bool) → (a && b) ≡ true → (a ≡ true) × (b ≡ true)
both true b e = (refl, e)
both false b e = absurd (cc e)

module _ (s : Server) (chosen : List ℕ) (i : Input) (P : Step → Type 0) (k : StepCases s chosen i P) where
  -- ---- a request

  asked : (now c : ℕ) (q : ClientRequest) → i ≡ Hears now (FromClient c) (Asks q) → counters_have_room s ≡ true
      → (b : Bool) → ((q.client == c) && nat_le c MAX_CLIENT) ≡ b
      → P (if b then on_request s now chosen q else still s)
  asked now c q is low false e = k.rests
  asked now c q is low true e =
      let x = both (q.client == c) (nat_le c MAX_CLIENT) e in
      let same : c ≡ q.client = sym (eqb-true q.client c x.0) in
      k.asked now q
      (record {
        is = subst (λ (n : ℕ). i ≡ Hears now (FromClient n) (Asks q)) same is;
        named = subst (λ (n : ℕ). n ≤ MAX_CLIENT) same (leb-true c MAX_CLIENT x.1);
        low = low;
      })

  -- ---- a reply

  module _ (now drive : ℕ) (r : Reply) (is : i ≡ Hears now (FromDrive drive) (Replies r))
      (low : counters_have_room s ≡ true) where
    awaiting : (f : File) → In f s.files → (j : Job) → f.job ≡ Some j → (o : Option Awaited)
        → find (answers drive r) j.awaited ≡ o → (later : Option Going) → P (by_heard s later)
        → P (by_heard s (or_else (heard_by (at_file s chosen f) r j o) later))
    awaiting f there j runs None awaits later rest = rest
    awaiting f there j runs (Some a) awaits later rest =
        k.answered (record { now = now; drive = drive; reply = r; file = f; job = j; awaited = a })
        (record { is = is; low = low; there = there; runs = runs; awaits = awaits })

    working : (f : File) → In f s.files → (o : Option Job) → f.job ≡ o → (later : Option Going)
        → P (by_heard s later) → P (by_heard s (or_else (heard_in (at_file s chosen f) drive r o) later))
    working f there None runs later rest = rest
    working f there (Some j) runs later rest =
        awaiting f there j runs (find (answers drive r) j.awaited) refl later rest

    first_heard : (fs : List File) → ((f : File) → In f fs → In f s.files)
        → P (by_heard s (heard_at s chosen drive r fs))
    unfolding heard_at on_reply
    first_heard [] among = k.rests
    first_heard (f ∷ fs) among =
        working f (among f (inl refl)) f.job refl (heard_at s chosen drive r fs)
        (first_heard fs (λ g there. among g (inr there)))

    replied : P (on_drive_reply s chosen drive r)
    unfolding on_drive_reply
    replied = first_heard s.files (λ f there. there)

  -- ---- an order

  module _ (kind : OrderKind) (n : ℕ) (order : IsOrder i kind n) where
    on_file : (f : File) → file_at s.files n ≡ Some f → IsOrdered s i f
    on_file f found = record { kind = kind; target = n; order = order; found = found }

    fenced : (job : JobKind) (f : File) → file_at s.files n ≡ Some f → f.job ≡ None → (b : Bool)
        → (f.kept.tag == GREATEST_TAG) ≡ b
        → P ((λ (o : Ordered). o.step) (if b then record {
          step = step_at s f.kept.number (noting (at_file s chosen f) Spent);
          result = IsSpent;
        }
        else record {
          step = step_at s f.kept.number (fence_begins job s.format (at_file s chosen f));
          result = HasStarted;
        }))
    fenced job f found none true spent = k.refused f (on_file f found) Spent (OnGreatest none spent refl)
    fenced job f found none false spent = k.fenced f (on_file f found) job none spent

    begun : (job : JobKind) (f : File) → file_at s.files n ≡ Some f → (o : Option Job) → f.job ≡ o
        → P (begins_job s chosen job f o).step
    begun job f found (Some j) runs = k.refused f (on_file f found) _ (WhileBusy j runs refl)
    begun job f found None none = fenced job f found none (f.kept.tag == GREATEST_TAG) refl

    started : (job : JobKind) (o : Option File) → file_at s.files n ≡ o → P (starts s chosen job o).step
    started job None found = k.rests
    started job (Some f) found = begun job f found f.job refl

    recalled : (o : Option File) → file_at s.files n ≡ o → P (recalls_on s o).step
    recalled None found = k.rests
    recalled (Some f) found = k.recalled f (on_file f found)

    declared : (b : Bool) → is_some (find (λ (x : Drive). x.number == n) s.drives) ≡ b
        → P (declares_known s chosen n b).step
    declared true is = k.declared n is
    declared false is = k.rests

  obeyed : (kind : OrderKind) (n : ℕ) → IsOrder i kind n → P (ordered s chosen kind n).step
  unfolding ordered
  obeyed ToRecall n o = recalled ToRecall n o (file_at s.files n) refl
  obeyed ToRevoke n o = started ToRevoke n o Revoking (file_at s.files n) refl
  obeyed ToDeclare n o = declared ToDeclare n o (is_some (find (λ (x : Drive). x.number == n) s.drives)) refl
  obeyed ToRebuild n o = started ToRebuild n o Rebuilding (file_at s.files n) refl
  obeyed ToAudit n o = started ToAudit n o Auditing (file_at s.files n) refl

  -- ---- a message

  handles : (now : ℕ) (from : Node) (m : Message) → i ≡ Hears now from m → counters_have_room s ≡ true
      → P (handled s now chosen from m)
  handles now (FromClient c) (Asks q) is low =
      asked now c q is low ((q.client == c) && nat_le c MAX_CLIENT) refl
  handles now (FromDrive d) (Replies r) is low = replied now d r is low
  handles now FromServer (Orders o) is low =
      k.told (ordered s chosen o.order o.target).step now o is (ordered s chosen o.order o.target).result
      (obeyed o.order o.target (Sent now o is refl refl))
  handles now from m is low = k.rests

  hears_it : (now : ℕ) (from : Node) (m : Message) → i ≡ Hears now from m → (b : Bool) → counters_have_room s ≡ b
      → P (if b then handled s now chosen from m else still s)
  hears_it now from m is true low = handles now from m is low
  hears_it now from m is false low = k.rests

  made : (n : ℕ) (m : RawMap) (tag : ℕ) (zoned : Bool) → i ≡ Makes n m tag zoned → (o : Option Refusal)
      → refusal s n m zoned ≡ o
      → P (unless_made s (unless_refused o (makes_file s (new_file s chosen n m tag zoned))))
  made n m tag zoned is (Some why) refused = k.rests
  made n m tag zoned is None refused = k.made n m tag zoned is refused

  opened : i ≡ Opens → (b : Bool) → counters_have_room s ≡ b
      → P (if b then step_round s (opens_each s.format s.drives s.files (begins s)) else still s)
  opened is true low = k.opened is low
  opened is false low = k.rests

  by_input : (j : Input) → i ≡ j → P (step s chosen j)
  unfolding on_message create_file reopen
  by_input (Hears now from m) is = hears_it now from m is (counters_have_room s) refl
  by_input (Makes n m tag zoned) is = made n m tag zoned is (refusal s n m zoned) refl
  by_input (Obeys kind n) is = obeyed kind n (Here is)
  by_input (Adds d) is = k.added d is
  by_input (Zones d zone) is = k.zoned d zone is
  by_input (Formats n) is = k.formats n is
  by_input Resends is = k.resends is
  by_input Crashes is = k.crashes is
  by_input Opens is = opened is (counters_have_room s) refl

  pub each_step : P (step s chosen i)
  each_step = by_input i refl
