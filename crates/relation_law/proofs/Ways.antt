-- How a file goes on in a step of the server, once for all laws of jobs: by its job, by a request, or as it was.
use Rattle.std.proofs.Common.{◌≡◌, ◌==◌, ◌||◌, ℕ, Bool, true, false, List, [], ◌∷◌, ◌++◌, Option, Some, None, refl, sym, ap, subst, ◌∙◌, if◌then◌else◌}
use Rattle.server_rules.specs.declared.limits.TheConstants.{GREATEST_TAG}
use Rattle.server_rules.specs.Files.{file_at, at_file}
use Rattle.server_rules.specs.Going.{Going, noting, noting_if, with_components}
use Rattle.server_rules.specs.History.{Input}
use Rattle.server_rules.specs.Jobs.{making, fence_begins, loses, declares, declared_in, is_target, others_than, targets}
use Rattle.server_rules.specs.Laws.{In}
use Rattle.server_rules.specs.Making.{with_file}
use Rattle.server_rules.specs.Openings.{crashed_file, is_unsettled, opens_made, opens_spent, opens_fenced, opens}
use Rattle.server_rules.specs.Replies.{Hearing, Older, Full, Done, Nothing, others, fills_up, heard_with, hears}
use Rattle.server_rules.specs.Standing.{lose_on, lose_from, any_on}
use Rattle.server_rules.proofs.Members.{in_front}
use Rattle.history_law.specs.Names.{Server, File, Component, Job, JobKind, Revoking, Awaited, Work, Creates, Fences, Fetches, Stores, Targets, Gathers, Fills, Lengths, Checks, Reply, Note, NoteKind, NoSpace}
use Rattle.history_law.specs.Steps.{Answering, IsAnswering, answered_file}
use Rattle.relation_law.proofs.Places.{KeepPlaces, keep_here, keep_then, keep_from, keep_on}
use Rattle.relation_law.proofs.Walk.{Place, JobCases, walk_loses, walk_fence, walk_making, walk_full, walk_waits}

-- ---- notes only come

-- each note that was there is there
abbrev pub Noted : (before after : List Note) → Type 0
Noted ns ms = (x : Note) → In x ns → In x ms

abbrev pub NotedAt : List Note → Place → Going → Type 0
NotedAt ns place g = Noted ns g.effects.notes

pub one_more : (ns ms : List Note) (n : Note) → Noted ns ms → Noted ns (ms ++ n ∷ [])
one_more ns ms n k x i = in_front x ms (n ∷ []) (k x i)

pub if_more : (ns : List Note) (b : Bool) (g : Going) (kind : NoteKind) → Noted ns g.effects.notes →
    Noted ns (noting_if b g kind).effects.notes
if_more ns true g kind k = one_more ns g.effects.notes _ k
if_more ns false g kind k = k

pub noted_cases : (ns : List Note) → JobCases (NotedAt ns) (λ g. Noted ns g.effects.notes)
noted_cases ns = record {
  asks = λ place work c cs kind g q a. q;
  aims = λ t g q is. q;
  readied = λ g q. one_more ns g.effects.notes _ q;
  rests_behind = λ g q. q;
  built = λ n g q. q;
  counted = λ t g q. one_more ns g.effects.notes _ q;
  raises = λ g q. one_more ns g.effects.notes _ q;
  skips = λ p ps g q e. q;
  unchanged = λ p ps heard g q e. q;
  repaired = λ short g q. one_more ns g.effects.notes _ q;
  begins = λ g q. q;
  passes = λ b n g q. if_more ns b g _ q;
  builds = λ t g q. one_more ns g.effects.notes _ q;
  loses_it = λ t p ps lacked g q e. one_more ns g.effects.notes _ q;
  gone = λ t todo g q. one_more ns g.effects.notes _ q;
  full = λ t todo g q. one_more ns g.effects.notes _ q;
  zeros = λ t p ps heard g q e. q;
  lengths = λ g q. q;
  counts = λ p ps g q. q;
}

-- ---- what doesn't concern a job

-- the job is the same, and so is what it works on
pub record IsAlike (g h : Going) : Type 0 where
  pub job : h.file.job ≡ g.file.job
  pub number : h.file.kept.number ≡ g.file.kept.number
  pub map : h.file.kept.map ≡ g.file.kept.map
  pub phase : h.file.kept.phase ≡ g.file.kept.phase
  pub places : KeepPlaces g.file.kept.components h.file.kept.components
  pub notes : Noted g.effects.notes h.effects.notes

pub alike_here : (g h : Going) → h.file ≡ g.file → Noted g.effects.notes h.effects.notes → IsAlike g h
alike_here g h same notes = record {
  job = ap (λ (f : File). f.job) same;
  number = ap (λ (f : File). f.kept.number) same;
  map = ap (λ (f : File). f.kept.map) same;
  phase = ap (λ (f : File). f.kept.phase) same;
  places = subst (λ (cs : List Component). KeepPlaces g.file.kept.components cs)
      (sym (ap (λ (f : File). f.kept.components) same)) (keep_here g.file.kept.components);
  notes = notes;
}

pub alike_noted : (g : Going) (kind : NoteKind) → IsAlike g (noting g kind)
alike_noted g kind = alike_here g (noting g kind) refl (one_more g.effects.notes g.effects.notes _ (λ x i. i))

-- that its tag is spent, and noted so
pub alike_spent : (g : Going) → IsAlike g (opens_spent g)
alike_spent g = record {
  job = refl;
  number = refl;
  map = refl;
  phase = refl;
  places = keep_here g.file.kept.components;
  notes = one_more g.effects.notes g.effects.notes _ (λ x i. i);
}

-- that a component lacks space
pub alike_lacks : (g : Going) (place : ℕ) → IsAlike g
    (noting (with_components g (lose_from (place ∷ []) g.file.kept.components 0)) (NoSpace place))
alike_lacks g place = record {
  job = refl;
  number = refl;
  map = refl;
  phase = refl;
  places = keep_from (place ∷ []) g.file.kept.components 0;
  notes = one_more g.effects.notes g.effects.notes _ (λ x i. i);
}

-- and that what stood on a drive is lost
pub alike_lost : (g : Going) (drive : ℕ) → IsAlike g (with_components g (lose_on drive g.file.kept.components))
alike_lost g drive = record {
  job = refl;
  number = refl;
  map = refl;
  phase = refl;
  places = keep_on drive g.file.kept.components;
  notes = λ x i. i;
}

pub alike_then : (g h k : Going) → IsAlike g h → IsAlike h k → IsAlike g k
alike_then g h k x y = record {
  job = y.job ∙ x.job;
  number = y.number ∙ x.number;
  map = y.map ∙ x.map;
  phase = y.phase ∙ x.phase;
  places = keep_then g.file.kept.components h.file.kept.components k.file.kept.components x.places y.places;
  notes = λ n i. y.notes n (x.notes n i);
}

-- ---- the ways

-- `P f g` says that file f has become g so far, in a step of server s on input i
pub record FileWays (s : Server) (chosen : List ℕ) (i : Input) (P : File → Going → Type 0) (N : File → Type 0) : Type 0
  where
    pub stays : (f : File) (g : Going) → In f s.files → g.file ≡ f → P f g
    pub alike : (f : File) (g h : Going) → IsAlike g h → P f g → P f h
    pub heard : (x : Answering) → IsAnswering s i x → P x.file (answered_file s chosen x)
    pub fenced : (f : File) (g : Going) (kind : JobKind) (format : ℕ) → In f s.files → g.file ≡ f →
        P f (fence_begins kind format g)
    pub declared : (f : File) (g : Going) (drive : ℕ) → In f s.files → g.file ≡ f → P f (declares g drive)
    pub crashed : (f : File) (g : Going) → In f s.files → g.file ≡ crashed_file f → P f g
    pub opened : (f : File) (g : Going) (format : ℕ) → In f s.files → g.file ≡ f → P f (opens format g)
    pub made : (f : File) → file_at s.files f.kept.number ≡ None → f.job ≡ None →
        N (making (at_file (with_file s f) [] f)).file

-- ---- the file's number

-- it stays
abbrev HasNumber : (number : ℕ) → Place → Going → Type 0
HasNumber n place g = g.file.kept.number ≡ n

number_cases : (n : ℕ) → JobCases (HasNumber n) (λ g. g.file.kept.number ≡ n)
number_cases n = record {
  asks = λ place work c cs kind g q a. q;
  aims = λ t g q is. q;
  readied = λ g q. q;
  rests_behind = λ g q. q;
  built = λ m g q. q;
  counted = λ t g q. q;
  raises = λ g q. q;
  skips = λ p ps g q e. q;
  unchanged = λ p ps heard g q e. q;
  repaired = λ short g q. q;
  begins = λ g q. q;
  passes = λ b m g q. q;
  builds = λ t g q. q;
  loses_it = λ t p ps lacked g q e. q;
  gone = λ t todo g q. q;
  full = λ t todo g q. q;
  zeros = λ t p ps heard g q e. q;
  lengths = λ g q. q;
  counts = λ p ps g q. q;
}

module _ (n : ℕ) where
  abbrev Same : Going → Type 0
  Same g = g.file.kept.number ≡ n

  loses_number : (g : Going) (j : Job) (work : Work) (rest : List Awaited) (gone : Bool) → j.work ≡ work → Same g →
      Same (loses g j work rest gone)
  loses_number g j work rest gone is q =
      walk_loses (HasNumber n) Same (number_cases n) g j work rest gone is
      (record { waits = λ c cs e. q; stays = q; on = λ rest. q })

  fills_up_number : (g : Going) (j : Job) (a : Awaited) (work : Work) → j.work ≡ work → Same g →
      Same (fills_up g j a work)
  fills_up_number g j a (Targets t) is q = walk_full (HasNumber n) Same (number_cases n) t [] g q
  fills_up_number g j a (Gathers t ps) is q = walk_full (HasNumber n) Same (number_cases n) t ps g q
  fills_up_number g j a (Fills t ps) is q = walk_full (HasNumber n) Same (number_cases n) t ps g q
  fills_up_number g j a Creates is q = loses_number _ j Creates (others j.awaited a.command.nonce) false is q
  fills_up_number g j a Fences is q = loses_number _ j Fences (others j.awaited a.command.nonce) false is q
  fills_up_number g j a (Fetches ps short) is q =
      loses_number _ j (Fetches ps short) (others j.awaited a.command.nonce) false is q
  fills_up_number g j a (Stores ps short b) is q =
      loses_number _ j (Stores ps short b) (others j.awaited a.command.nonce) false is q
  fills_up_number g j a Lengths is q = loses_number _ j Lengths (others j.awaited a.command.nonce) false is q
  fills_up_number g j a (Checks ps t) is q =
      loses_number _ j (Checks ps t) (others j.awaited a.command.nonce) false is q

  pub hears_number : (g : Going) (j : Job) (a : Awaited) (r : Reply) (x : Hearing) → Same g → Same (hears g j a r x)
  hears_number g j a r Older q = q
  hears_number g j a r Full q = fills_up_number g j a j.work refl q
  hears_number g j a r Done q =
      walk_waits (HasNumber n) Same (number_cases n) g j j.work (others j.awaited a.command.nonce) (heard_with j a r)
      (λ c cs e. q) (λ none. q)
  hears_number g j a r Nothing q = q

  pub declares_number : (drive : ℕ) (g : Going) → Same g → Same (declares g drive)
  unfolding declares
  declares_number drive g q =
      let h : Going = with_components g (lose_on drive g.file.kept.components) in
      pick (any_on drive g.file.kept.components || targets g.file.job drive) (declared_in h drive g.file.job) g
      (by_job h g.file.job q) q
    where
      pick : (b : Bool) (x y : Going) → Same x → Same y → Same (if b then x else y)
      pick true x y p r = p
      pick false x y p r = r

      by_job : (h : Going) (o : Option Job) → Same h → Same (declared_in h drive o)
      by_job h None p = p
      by_job h (Some j) p =
          loses_number h j j.work (others_than drive j.awaited) (is_target j.work drive) refl p

  pub opens_number : (format : ℕ) (g : Going) → Same g → Same (opens format g)
  unfolding opens opens_fenced
  opens_number format g q =
      pick (is_unsettled g.file.kept) _ _
      (pick (g.file.kept.tag == GREATEST_TAG) _ _ q (walk_fence (HasNumber n) Same (number_cases n) Revoking format g q))
      (by_ready g.file.kept.ready)
    where
      pick : (b : Bool) (x y : Going) → Same x → Same y → Same (if b then x else y)
      pick true x y p r = p
      pick false x y p r = r

      by_ready : (b : Bool) → Same (opens_made g b)
      by_ready true = q
      by_ready false = walk_making (HasNumber n) Same (number_cases n) g q

-- what is so of a file, and that it has its number
abbrev pub Numbered : (File → Going → Type 0) → File → Going → Type 0
Numbered P f g = (g.file.kept.number ≡ f.kept.number) × P f g

same_number : (f : File) (g : Going) → g.file ≡ f → g.file.kept.number ≡ f.kept.number
same_number f g same = ap (λ (x : File). x.kept.number) same

pub numbered_ways : (s : Server) (chosen : List ℕ) (i : Input) (P : File → Going → Type 0) (N : File → Type 0) →
    FileWays s chosen i P N → FileWays s chosen i (Numbered P) N
numbered_ways s chosen i P N k = record {
  stays = λ f g j same. (same_number f g same, k.stays f g j same);
  alike = λ f g h a p. (a.number ∙ p.0, k.alike f g h a p.1);
  heard = λ x is. (
    hears_number x.file.kept.number (at_file s chosen x.file) x.job x.awaited x.reply _ refl,
    k.heard x is,
  );
  fenced = λ f g kind format j same. (
    walk_fence (HasNumber f.kept.number) (λ x. x.file.kept.number ≡ f.kept.number) (number_cases f.kept.number) kind
        format g (same_number f g same),
    k.fenced f g kind format j same,
  );
  declared = λ f g drive j same. (
    declares_number f.kept.number drive g (same_number f g same),
    k.declared f g drive j same,
  );
  crashed = λ f g j same. (ap (λ (x : File). x.kept.number) same, k.crashed f g j same);
  opened = λ f g format j same. (
    opens_number f.kept.number format g (same_number f g same),
    k.opened f g format j same,
  );
  made = k.made;
}
