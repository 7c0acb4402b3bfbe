-- What a step of the server makes of the live grants of each file, and of its size.
use Rattle.std.proofs.Common.{◌≡◌, ◌⊎◌, ◌==◌, ℕ, ◌+◌, Bool, true, false, true≢false, List, [], ◌∷◌, is_some, Option, Some, None, refl, sym, ap, subst, ◌∙◌, arith, inl, inr, if◌then◌else◌}
use Rattle.std.proofs.lemmas.Bool.{cases_Bool, eq-eqb, eqb-true, ne_eqb}
use Rattle.osd_lists.specs.declared.node.Node.TheVariants.{Server as FromServer}
use Rattle.std.proofs.lemmas.Bool.Decides.{nat_tests}
use Rattle.server_rules.specs.declared.limits.TheConstants.{GREATEST_TAG}
use Rattle.server_rules.specs.Commands.{Raising, All, to_all}
use Rattle.server_rules.specs.Files.{Step, file_at, put_file, add_file, at_file, begins}
use Rattle.server_rules.specs.Going.{Going, keeping, noting, rests_or}
use Rattle.server_rules.specs.History.{Input, Hears, Makes, Obeys, Opens, step}
use Rattle.server_rules.specs.Jobs.{making, ending, fenced, fence_begins}
use Rattle.server_rules.specs.Laws.{In, Rests, IsSafe, AreSafe, is_taken_of}
use Rattle.server_rules.specs.Making.{checked_64, by_check, refusal, with_file}
use Rattle.server_rules.specs.Messages.{Orders, counters_have_room}
use Rattle.server_rules.specs.Openings.{is_unsettled, opens_made, opens_fenced, opens}
use Rattle.server_rules.specs.Orders.{offline, declare}
use Rattle.server_rules.specs.Replies.{hearing}
use Rattle.server_rules.specs.Requests.{serves, on_request}
use Rattle.server_rules.specs.Slots.{New, slot_of, admit}
use Rattle.server_rules.proofs.FileLaws.{number_at}
use Rattle.server_rules.proofs.HandlerLaws.{ran_hears}
use Rattle.server_rules.proofs.Runs.{ran_fences, ran_declares, ran_making}
use Rattle.world_history.specs.ServerNames.{Server, File, Kept, Awaited, JobKind, Fences, Revoking, Repairing, Fenced as FenceOver, ClientRequest, Order, OrderKind, RawMap, FileExists}
use Rattle.history_law.specs.Steps.{IsOrder, Here, Sent, IsAsked, Answering, IsAnswering, answered_file, new_file, StepCases}
use Rattle.history_law.proofs.Files as Files
use Rattle.history_law.proofs.Files.{in_at, put_each, add_each, declared_each, crashed_each, safe_in}
use Rattle.history_law.proofs.Steps.{each_request, each_step}
use Rattle.history_law.specs.Fencing.{is_fencing}
use Rattle.history_law.proofs.Asking.{handled_served}
use Rattle.history_law.proofs.Quiet.{quiet_repair}
use Rattle.component_law.specs.Going.{IsMaking}
use Rattle.component_law.specs.Distinct.{AreDistinct}
use Rattle.component_law.specs.Sound.{IsSound}
use Rattle.component_law.specs.Words.{Each}
use Rattle.cause_law.specs.Answers.{IsNew}
use Rattle.cause_law.specs.Changes as changes
use Rattle.cause_law.specs.Changes.{FenceBegan, BeginsFence, ByOrder, ByOpening, IsAskedOf, Changes}
use Rattle.cause_law.proofs.Unsettled.{is_fenced, unsettled}

-- ---- a fence begins

has_begun : (kind : JobKind) (g : Going) (cs : List Awaited)
    → (is_fencing (rests_or cs g kind Fences (fenced kind g)).file.job ≡ true)
    ⊎ ((rests_or cs g kind Fences (fenced kind g)).file.kept.tag ≡ g.file.kept.tag + 1)
unfolding fenced
has_begun kind g [] =
    inr (quiet_repair (λ (k : Kept). k.tag ≡ g.file.kept.tag + 1) (record { mends = λ k e. e }) kind
    (noting (keeping g (record g.file.kept { tag = g.file.kept.tag + 1; phase = Repairing }))
    (FenceOver (g.file.kept.tag + 1))) refl).kept
has_begun kind g (c ∷ cs) = inl refl

pub begun : (kind : JobKind) (format : ℕ) (g : Going) → FenceBegan g.file (fence_begins kind format g).file
unfolding fence_begins
begun kind format g =
    let f : Going = keeping g (ending g.file.kept format) in
    record {
      none = (ran_fences kind f).grants;
      fence = has_begun kind f (to_all f.file.kept All Raising f.effects.nonce);
    }

-- ---- what comes to the server

-- it comes as no order, and opens nothing
abbrev pub is_plain : Input → Bool
is_plain (Obeys kind n) = false
is_plain (Hears now FromServer (Orders o)) = false
is_plain Opens = false
is_plain i = true

plain_order : (i : Input) (kind : OrderKind) (n : ℕ) → is_plain i ≡ true → IsOrder i kind n → ⊥
plain_order i kind n p (Here is) = true≢false (sym p ∙ ap is_plain is)
plain_order i kind n p (Sent now o is of on) = true≢false (sym p ∙ ap is_plain is)

-- one order comes at a time
pub same_order : (i : Input) (k j : OrderKind) (n m : ℕ) → IsOrder i k n → IsOrder i j m → (k ≡ j) × (n ≡ m)
same_order i k j n m (Here a) (Here b) = by (sym a ∙ b)
  where
    by : Obeys k n ≡ Obeys j m → (k ≡ j) × (n ≡ m)
    by e = (cc e, cc e)
same_order i k j n m (Here a) (Sent now o b of on) = absurd (cc (sym a ∙ b))
same_order i k j n m (Sent now o a of on) (Here b) = absurd (cc (sym a ∙ b))
same_order i k j n m (Sent now o a of on) (Sent later p b of_it on_it) = by (sym a ∙ b)
  where
    by : Hears now FromServer (Orders o) ≡ Hears later FromServer (Orders p) → (k ≡ j) × (n ≡ m)
    by e =
        let it : o ≡ p = cc e in
        (sym of ∙ ap (λ (x : Order). x.order) it ∙ of_it, sym on ∙ ap (λ (x : Order). x.target) it ∙ on_it)

pub no_opening : (i : Input) (k : OrderKind) (n : ℕ) → IsOrder i k n → i ≡ Opens → ⊥
no_opening i k n (Here is) o = cc (sym is ∙ o)
no_opening i k n (Sent now q is of on) o = cc (sym is ∙ o)

pub no_fence : (s : Server) (i : Input) (f : File) → is_plain i ≡ true → BeginsFence s i f → ⊥
no_fence s i f p (ByOrder kind fencing order takes none low) = plain_order i kind f.kept.number p order
no_fence s i f p (ByOpening is room unsettled low) = true≢false (sym p ∙ ap is_plain is)

-- ---- a file

module _ (s : Server) (i : Input) where
  -- the file goes on as the other
  pub data Goes (f g : File) : Type 0 where
    GoesSame : g.kept.number ≡ f.kept.number → (BeginsFence s i f → ⊥) → g.kept.grants ≡ f.kept.grants
        → g.kept.size ≡ f.kept.size → Goes f g
    GoesFenced : g.kept.number ≡ f.kept.number → BeginsFence s i f → FenceBegan f g → g.kept.size ≡ f.kept.size → Goes f g
    GoesAsked : g.kept.number ≡ f.kept.number → IsAskedOf s i f.kept.number → Goes f g

  -- a file that is made
  pub record IsMade (g : File) : Type 0 where
    pub makes : IsMaking i g.kept.number
    pub absent : file_at s.files g.kept.number ≡ None
    pub none : g.kept.grants ≡ []
    pub size : g.kept.size ≡ 0

  -- it was there, or is made
  abbrev pub Was : File → Type 0
  Was g = ((f : File) × In f s.files × Goes f g) ⊎ IsMade g

  pub same : (f : File) → (BeginsFence s i f → ⊥) → Goes f f
  same f none = GoesSame refl none refl refl

  pub number : (f g : File) → Goes f g → g.kept.number ≡ f.kept.number
  number f g (GoesSame n none grants size) = n
  number f g (GoesFenced n begins began size) = n
  number f g (GoesAsked n asked) = n

  -- a fence of it begins
  pub goes_fenced : (kind : JobKind) (format : ℕ) (g : Going) → BeginsFence s i g.file
      → Goes g.file (fence_begins kind format g).file
  unfolding fence_begins
  goes_fenced kind format g b =
      let r = ran_fences kind (keeping g (ending g.file.kept format)) in
      GoesFenced r.number b (begun kind format g) r.size

  -- it is opened
  by_ready : (format : ℕ) (g : Going) → (BeginsFence s i g.file → ⊥) → (b : Bool) → Goes g.file (opens_made g b).file
  by_ready format g none true = GoesSame refl none refl refl
  by_ready format g none false = let r = ran_making g in GoesSame r.number none r.grants r.size

  -- an opening begins a fence only where there is something to end, and a further tag
  settled : (f : File) → i ≡ Opens → is_unsettled f.kept ≡ false → BeginsFence s i f → ⊥
  settled f is none (ByOrder kind fencing order takes free low) = no_opening i kind f.kept.number order is
  settled f is none (ByOpening opens room open_ low) = true≢false (sym (is_fenced f.kept open_) ∙ none)

  pub spent : (f : File) → f.kept.tag ≡ GREATEST_TAG → BeginsFence s i f → ⊥
  spent f tag (ByOrder kind fencing order takes free low) = low tag
  spent f tag (ByOpening opens room unsettled low) = low tag

  by_tag : (format : ℕ) (g : Going) → i ≡ Opens → counters_have_room s ≡ true → is_unsettled g.file.kept ≡ true → (b : Bool)
      → (g.file.kept.tag == GREATEST_TAG) ≡ b → Goes g.file (opens_fenced format g).file
  unfolding opens_fenced
  by_tag format g is room open_ true e =
      rw e (GoesSame refl (spent g.file (eqb-true g.file.kept.tag GREATEST_TAG e)) refl refl)
  by_tag format g is room open_ false e =
      rw e (goes_fenced Revoking format g
      (ByOpening is room (unsettled g.file.kept open_) (λ same. true≢false (sym (eq-eqb g.file.kept.tag GREATEST_TAG same) ∙ e))))

  pub goes_opened : (format : ℕ) (g : Going) → i ≡ Opens → counters_have_room s ≡ true → Goes g.file (opens format g).file
  unfolding opens
  goes_opened format g is room = elim (cases_Bool (is_unsettled g.file.kept)) [
    | inl t ↦ rw t (by_tag format g is room t (g.file.kept.tag == GREATEST_TAG) refl)
    | inr z ↦ rw z (by_ready format g (settled g.file is z) g.file.kept.ready)
  ]

-- ---- places in the list of files

-- where no two files have one number
pub at_place : (fs : List File) (x : File) → AreDistinct fs → In x fs → file_at fs x.kept.number ≡ Some x
unfolding file_at
at_place [] x d j = absurd j
at_place (y ∷ fs) x d (inl e) = rw (e, eq-eqb y.kept.number y.kept.number refl) refl
at_place (y ∷ fs) x d (inr j) =
    rw (ne_eqb y.kept.number x.kept.number (λ e. absurd (none_of fs x y.kept.number d.0 j (sym e)))) (at_place fs x d.1 j)
  where
    none_of : (gs : List File) (z : File) (n : ℕ) → Each (λ (g : File). g.kept.number ≡ n → ⊥) gs → In z gs
        → z.kept.number ≡ n → ⊥
    none_of [] z n e k is = absurd k
    none_of (g ∷ gs) z n e (inl here) is = e.0 (sym (ap (λ (v : File). v.kept.number) here) ∙ is)
    none_of (g ∷ gs) z n e (inr k) is = none_of gs z n e.1 k is

-- ---- a step in which no order comes

module _ (s : Server) (chosen : List ℕ) (i : Input) (safe : AreSafe s.files) (plain : is_plain i ≡ true) where
  abbrev P : Step → Type 0
  P t = Files.Each (Was s i) t.state.files

  none : (f : File) → BeginsFence s i f → ⊥
  none f = no_fence s i f plain

  stay : Files.Each (Was s i) s.files
  stay f there = inl (f, there, same s i f (none f))

  put_at : (n : ℕ) (f g : File) → In f s.files → Goes s i f g → Files.Each (Was s i) (put_file s.files n g)
  put_at n f g there goes = put_each (Was s i) s.files n g stay (inl (f, there, goes))

  answered : (x : Answering) → IsAnswering s i x → Goes s i x.file (answered_file s chosen x).file
  answered x is =
      let f : IsSafe x.file = safe_in s.files safe x.file is.there in
      let r = ran_hears (at_file s chosen x.file) x.job x.awaited x.reply (hearing x.file.kept x.awaited x.reply)
      (subst Rests is.runs f.rests) f.rests in
      GoesSame r.number (none x.file) r.grants r.size

  -- ---- a request

  its_new : (now : ℕ) (q : ClientRequest) → IsAsked s i now q → admit (slot_of s.slots q.client) q.sequence ≡ New
      → IsNew s i now q
  its_new now q is new = record { comes = is.is; taken = taken is.low; new = new }
    where
      taken : counters_have_room s ≡ true → is_taken_of s q.client q.client q ≡ true
      taken low = rw (eq-eqb q.client q.client refl, low) (grind (arith, nat_tests, is.named))

  asked : (now : ℕ) (q : ClientRequest) → IsAsked s i now q → P (on_request s now chosen q)
  asked now q is =
      each_request s now chosen q P (record {
        again = λ kept e. stay;
        misordered = λ expected e. stay;
        without = λ new none. stay;
        served = λ new f found.
            put_at q.file f (serves (at_file s chosen f) s.next_grant s.format now q.client q.args).going.file
            (in_at s.files q.file f found)
            (GoesAsked
            (handled_served (λ d x tag. true) (at_file s chosen f) s.next_grant s.format now q.client q.args).goes.number_is
            (record { now = now; request = q; new = its_new now q is new; on = sym (number_at s.files q.file f found) }));
      })

  -- ---- any

  not_there : (n : ℕ) (m : RawMap) (zoned : Bool) → refusal s n m zoned ≡ None → file_at s.files n ≡ None
  unfolding refusal
  not_there n m zoned e = by_file (file_at s.files n) refl e
    where
      by_file : (o : Option File) → file_at s.files n ≡ o
          → (if is_some o then Some FileExists else by_check zoned s.drives (checked_64 m)) ≡ None → file_at s.files n ≡ None
      by_file None is x = is
      by_file (Some f) is x = absurd (cc x)

  its_made : (n : ℕ) (m : RawMap) (tag : ℕ) (zoned : Bool) → i ≡ Makes n m tag zoned → file_at s.files n ≡ None → (g : File)
      → g.kept.number ≡ n → g.kept.grants ≡ [] → g.kept.size ≡ 0 → IsMade s i g
  its_made n m tag zoned is none g here grants size = record {
    makes = subst (λ (x : Input). IsMaking x g.kept.number) (sym is) (sym here);
    absent = subst (λ (k : ℕ). file_at s.files k ≡ None) (sym here) none;
    none = grants;
    size = size;
  }

  cases : StepCases s chosen i P
  unfolding declare
  cases = record {
    rests = stay;
    asked = asked;
    answered = λ x is.
        put_at (answered_file s chosen x).file.kept.number x.file (answered_file s chosen x).file is.there (answered x is);
    recalled = λ f is. stay;
    refused = λ f is n why. put_at f.kept.number f f (in_at s.files is.target f is.found) (same s i f (none f));
    fenced = λ f is kind free low. absurd (plain_order i is.kind is.target plain is.order);
    declared = λ d known.
        declared_each (Was s i) d (offline s.drives d) s.files (begins s) chosen (λ f there m placed.
        let r = ran_declares (record { file = f; effects = m; drives = offline s.drives d; chosen = placed }) d
        (safe_in s.files safe f there).rests in
        inl (f, there, GoesSame r.number (none f) r.grants r.size));
    told = λ t now o is result p. p;
    made = λ n m tag zoned is none.
        let f : File = new_file s chosen n m tag zoned in
        let r = ran_making (at_file (with_file s f) [] f) in
        let absent : file_at s.files n ≡ None = not_there n m zoned none in
        put_each (Was s i) (add_file s.files f) n (making (at_file (with_file s f) [] f)).file
        (add_each (Was s i) s.files f stay (inr (its_made n m tag zoned is absent f refl refl refl)))
        (inr (its_made n m tag zoned is absent (making (at_file (with_file s f) [] f)).file r.number r.grants r.size));
    added = λ d is. stay;
    zoned = λ d zone is. stay;
    formats = λ n is. stay;
    resends = λ is. stay;
    crashes = λ is. crashed_each (Was s i) s.files (λ f there. inl (f, there, GoesSame refl (none f) refl refl));
    opened = λ is low. absurd (true≢false (sym plain ∙ ap is_plain is));
  }

  pub each_was : P (step s chosen i)
  each_was = each_step s chosen i P cases

-- ---- before and behind

abbrev pub later : Server → List ℕ → Input → List File
later s chosen i = (step s chosen i).state.files

module _ (s : Server) (i : Input) (sound : IsSound s) where
  pub goes_as : (n : ℕ) (f g : File) → f.kept.number ≡ n → Goes s i f g → Changes s i n (Some f) (Some g)
  goes_as n f g here (GoesSame k none grants size) = changes.Stays f g none grants size
  goes_as n f g here (GoesFenced k begins began size) = changes.Fenced f g begins began size
  goes_as n f g here (GoesAsked k asked) = changes.Asked f g (subst (IsAskedOf s i) here asked)

  -- all files go on so, and none goes
  module _ (fs : List File) (each : Files.Each (Was s i) fs)
      (stays : (n : ℕ) (f : File) → file_at s.files n ≡ Some f → (g : File) × (file_at fs n ≡ Some g)) where
    was : (n : ℕ) (g : File) → file_at fs n ≡ Some g → Was s i g
    was n g d = each g (in_at fs n g d)

    -- the file that it was stands under the same number
    there : (n : ℕ) (f g : File) → file_at fs n ≡ Some g → In f s.files → Goes s i f g → file_at s.files n ≡ Some f
    there n f g d among goes =
        subst (λ (k : ℕ). file_at s.files k ≡ Some f) (sym (number s i f g goes) ∙ number_at fs n g d)
        (at_place s.files f sound.distinct among)

    not_made : (n : ℕ) (g : File) → file_at fs n ≡ Some g → IsMade s i g → file_at s.files n ≡ None
    not_made n g d made = subst (λ (k : ℕ). file_at s.files k ≡ None) (number_at fs n g d) made.absent

    by_files : (n : ℕ) (o p : Option File) → file_at s.files n ≡ o → file_at fs n ≡ p → Changes s i n o p
    by_files n None None e d = changes.Absent
    by_files n None (Some g) e d = elim (was n g d) [
      | inl (f, among, goes) ↦ absurd (cc (sym e ∙ there n f g d among goes))
      | inr made ↦ changes.Made g (subst (IsMaking i) (number_at fs n g d) made.makes) made.none made.size
    ]
    by_files n (Some f) None e d = let it = stays n f e in absurd (cc (sym d ∙ it.1))
    by_files n (Some f) (Some g) e d = elim (was n g d) [
      | inl (x, among, goes) ↦
          let same_file : x ≡ f = cc (sym (there n x g d among goes) ∙ e) in
          goes_as n f g (number_at s.files n f e) (subst (λ (y : File). Goes s i y g) same_file goes)
      | inr made ↦ absurd (cc (sym e ∙ not_made n g d made))
    ]

    pub all_change : (n : ℕ) → Changes s i n (file_at s.files n) (file_at fs n)
    all_change n = by_files n (file_at s.files n) (file_at fs n) refl refl

  -- all files stay
  pub all_stay : ((f : File) → BeginsFence s i f → ⊥) → (n : ℕ) → Changes s i n (file_at s.files n) (file_at s.files n)
  all_stay none n = by (file_at s.files n)
    where
      by : (o : Option File) → Changes s i n o o
      by None = changes.Absent
      by (Some f) = changes.Stays f f (none f) refl refl
