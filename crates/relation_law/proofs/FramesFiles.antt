-- A file that is there before a move and behind it keeps its number, its map, its first tag and its number of components.
use Rattle.std.proofs.Common.{◌≡◌, nat_lt, ℕ, List, [], ◌∷◌, ◌++◌, Option, Some, None, map, inl, inr, refl, sym, ap, subst, ◌∙◌}
use Rattle.std.proofs.lemmas.Bool.{cases_Bool, cases_eq, eq-eqb, ne_eqb}
use Rattle.scenario_text.specs.declared.line.Line.{Line}
use Rattle.data_map.specs.declared.check.RawMap.{RawMap}
use Rattle.server_rules.specs.Files.{Step, begins, file_at, put_file, add_file, at_file}
use Rattle.server_rules.specs.Going.{Going}
use Rattle.server_rules.specs.History.{Input, step}
use Rattle.server_rules.specs.Jobs.{making, declares, fence_begins}
use Rattle.server_rules.specs.Laws.{In}
use Rattle.server_rules.specs.Making.{with_file, makes_file}
use Rattle.server_rules.specs.Openings.{crashed_file, opens, opens_each}
use Rattle.server_rules.specs.Orders.{offline, declare, declares_each}
use Rattle.server_rules.specs.Replies.{hearing}
use Rattle.server_rules.specs.Requests.{on_request}
use Rattle.server_rules.proofs.FileLaws.{number_at, put_other, add_other, not_there}
use Rattle.world_history.specs.ServerNames.{Server, File, Drive, Effects, ClientRequest}
use Rattle.world_history.specs.State.{World}
use Rattle.world_history.specs.Sending.{Move, move}
use Rattle.world_history.specs.Plans.{due}
use Rattle.history_law.specs.BookMoments.{IsMoment, plan_at, lines_in}
use Rattle.history_law.specs.Doing.{input_in}
use Rattle.history_law.specs.Moments.{IsReached}
use Rattle.history_law.specs.Steps.{answered_file, new_file, StepCases}
use Rattle.history_law.proofs.Files.{in_at}
use Rattle.history_law.proofs.Reached.{always}
use Rattle.history_law.proofs.Steps.{each_step, each_request}
use Rattle.component_law.specs.Words.{Each}
use Rattle.component_law.specs.Distinct.{AreDistinct}
use Rattle.component_law.proofs.Making.{none_there, distinct_added}
use Rattle.exchange_law.specs.Shapes.{FilesHaveShape}
use Rattle.exchange_law.proofs.CountMoments.{reached}
use Rattle.exchange_law.proofs.HeldWorlds.{next_moment}
use Rattle.exchange_law.proofs.Shapes.{files_have_shape}
use Rattle.history_law.proofs.Running.{parties_run}
use Rattle.relation_law.specs.Frames.{FileStays, IsSameFile}
use Rattle.relation_law.proofs.FramesRan.{same_making, same_hears, same_fence, same_declares, same_opens, same_serves}
use Rattle.relation_law.proofs.FramesParties.{server_rests, server_steps}

same_file : (f : File) → IsSameFile f f
same_file f = record { number = refl; map = refl; first_tag = refl }

-- ---- lists of files

-- the same files, one by one
abbrev Pairs : List File → List File → Type 0
Pairs [] [] = Unit {0}
Pairs (f ∷ fs) (g ∷ gs) = IsSameFile f g × Pairs fs gs
Pairs fs gs = ⊥

pairs_same : (fs : List File) → Pairs fs fs
pairs_same [] = tt
pairs_same (f ∷ fs) = (same_file f, pairs_same fs)

each_pair : (n : ℕ) (fs gs : List File) → Pairs fs gs → Each (λ (f : File). f.kept.number ≡ n → ⊥) fs
    → Each (λ (f : File). f.kept.number ≡ n → ⊥) gs
each_pair n [] [] p a = tt
each_pair n [] (g ∷ gs) p a = absurd p
each_pair n (f ∷ fs) [] p a = absurd p
each_pair n (f ∷ fs) (g ∷ gs) p a = (λ e. a.0 (sym p.0.number ∙ e), each_pair n fs gs p.1 a.1)

pairs_distinct : (fs gs : List File) → Pairs fs gs → AreDistinct fs → AreDistinct gs
pairs_distinct [] [] p d = tt
pairs_distinct [] (g ∷ gs) p d = absurd p
pairs_distinct (f ∷ fs) [] p d = absurd p
pairs_distinct (f ∷ fs) (g ∷ gs) p d = (
  subst (λ (n : ℕ). Each (λ (x : File). x.kept.number ≡ n → ⊥) gs) (sym p.0.number)
      (each_pair f.kept.number fs gs p.1 d.0),
  pairs_distinct fs gs p.1 d.1,
)

pairs_at : (fs gs : List File) → Pairs fs gs → (n : ℕ) (f g : File) → file_at fs n ≡ Some f → file_at gs n ≡ Some g
    → IsSameFile f g
unfolding file_at
pairs_at [] [] p n f g e d = absurd (cc e)
pairs_at [] (y ∷ gs) p n f g e d = absurd p
pairs_at (x ∷ fs) [] p n f g e d = absurd p
pairs_at (x ∷ fs) (y ∷ gs) p n f g e d = elim (cases_eq x.kept.number n) [
  | inl here ↦
      let it : x ≡ f = cc (rw (eq-eqb x.kept.number n here) at e) in
      let its : y ≡ g = cc (rw (eq-eqb y.kept.number n (p.0.number ∙ here)) at d) in
      subst (λ (a : File). IsSameFile a g) it (subst (λ (b : File). IsSameFile x b) its p.0)
  | inr other ↦
      pairs_at fs gs p.1 n f g (rw (ne_eqb x.kept.number n other) at e)
      (rw (ne_eqb y.kept.number n (λ i. other (sym p.0.number ∙ i))) at d)
]

-- a file that is among the former is among the latter
pairs_there : (fs gs : List File) → Pairs fs gs → (n : ℕ) (f : File) → file_at fs n ≡ Some f
    → (g : File) × (file_at gs n ≡ Some g)
unfolding file_at
pairs_there [] gs p n f e = absurd (cc e)
pairs_there (x ∷ fs) [] p n f e = absurd p
pairs_there (x ∷ fs) (y ∷ gs) p n f e = elim (cases_eq x.kept.number n) [
  | inl here ↦ (y, rw (eq-eqb y.kept.number n (p.0.number ∙ here)) refl)
  | inr other ↦
      (let r = pairs_there fs gs p.1 n f (rw (ne_eqb x.kept.number n other) at e) in
      (r.0, rw (ne_eqb y.kept.number n (λ i. other (sym p.0.number ∙ i))) r.1))
]

each_in : (P : File → Type 0) (fs : List File) (f : File) → Each P fs → In f fs → P f
each_in P [] f a i = absurd i
each_in P (g ∷ fs) f a (inl same) = subst P (sym same) a.0
each_in P (g ∷ fs) f a (inr i) = each_in P fs f a.1 i

put_first : (x f g : File) (fs : List File) (n : ℕ) → n ≡ f.kept.number → In f (x ∷ fs) → AreDistinct (x ∷ fs)
    → IsSameFile f g → x.kept.number ≡ n → IsSameFile x g
put_first x f g fs n is (inl same) d s here = subst (λ (a : File). IsSameFile a g) same s
put_first x f g fs n is (inr j) d s here =
    absurd (each_in (λ (y : File). y.kept.number ≡ x.kept.number → ⊥) fs f d.0 j (sym is ∙ sym here))

put_later : (x f : File) (fs : List File) (n : ℕ) → n ≡ f.kept.number → In f (x ∷ fs) → (x.kept.number ≡ n → ⊥) → In f fs
put_later x f fs n is (inl same) other = absurd (other (ap (λ (y : File). y.kept.number) (sym same) ∙ sym is))
put_later x f fs n is (inr j) other = j

pairs_put : (fs : List File) (f g : File) (n : ℕ) → n ≡ f.kept.number → In f fs → AreDistinct fs → IsSameFile f g
    → Pairs fs (put_file fs n g)
unfolding put_file
pairs_put [] f g n is i d s = absurd i
pairs_put (x ∷ fs) f g n is i d s = elim (cases_eq x.kept.number n) [
  | inl here ↦ rw (eq-eqb x.kept.number n here) (put_first x f g fs n is i d s here, pairs_same fs)
  | inr other ↦
      rw (ne_eqb x.kept.number n other)
      (same_file x, pairs_put fs f g n is (put_later x f fs n is i other) d.1 s)
]

-- the file that is added is there
added : (fs : List File) (f : File) → Each (λ (x : File). x.kept.number ≡ f.kept.number → ⊥) fs
    → file_at (add_file fs f) f.kept.number ≡ Some f
unfolding file_at add_file
added [] f none = rw (eq-eqb f.kept.number f.kept.number refl) refl
added (g ∷ fs) f none = elim (cases_Bool (nat_lt g.kept.number f.kept.number)) [
  | inl t ↦ rw t (rw (ne_eqb g.kept.number f.kept.number none.0) (added fs f none.1))
  | inr z ↦ rw z (rw (eq-eqb f.kept.number f.kept.number refl) refl)
]

-- ---- rounds

pairs_crashed : (fs : List File) → Pairs fs (map crashed_file fs)
pairs_crashed [] = tt
pairs_crashed (f ∷ fs) = (record { number = refl; map = refl; first_tag = refl }, pairs_crashed fs)

pairs_declared : (d : ℕ) (ds : List Drive) (fs : List File) (m : Effects) (chosen : List ℕ)
    → Pairs fs (declares_each d ds fs m chosen).files
unfolding declares_each
pairs_declared d ds [] m chosen = tt
pairs_declared d ds (f ∷ fs) m chosen =
    let g : Going = declares (record { file = f; effects = m; drives = ds; chosen = chosen }) d in (
      same_declares (record { file = f; effects = m; drives = ds; chosen = chosen }) d,
      pairs_declared d ds fs g.effects g.chosen,
    )

pairs_opened : (format : ℕ) (ds : List Drive) (fs : List File) (m : Effects) → Pairs fs (opens_each format ds fs m).files
unfolding opens_each
pairs_opened format ds [] m = tt
pairs_opened format ds (f ∷ fs) m =
    let g : Going = opens format (record { file = f; effects = m; drives = ds; chosen = [] }) in
    (same_opens format (record { file = f; effects = m; drives = ds; chosen = [] }), pairs_opened format ds fs g.effects)

-- ---- a step

-- files stay, and no two have one number
abbrev pub FilesStay : List File → List File → Type 0
FilesStay fs gs = AreDistinct fs → AreDistinct gs × ((n : ℕ) (f g : File) → file_at fs n ≡ Some f → file_at gs n ≡ Some g
    → IsSameFile f g) × ((n : ℕ) (f : File) → file_at fs n ≡ Some f → (g : File) × (file_at gs n ≡ Some g))

by_pairs : (fs gs : List File) → (AreDistinct fs → Pairs fs gs) → FilesStay fs gs
by_pairs fs gs p d = (pairs_distinct fs gs (p d) d, pairs_at fs gs (p d), pairs_there fs gs (p d))

stay : (fs : List File) → FilesStay fs fs
stay fs = by_pairs fs fs (λ d. pairs_same fs)

at_found : (fs : List File) (n : ℕ) (f g : File) → file_at fs n ≡ Some f → IsSameFile f g → FilesStay fs (put_file fs n g)
at_found fs n f g found s = by_pairs fs _ (λ d. pairs_put fs f g n (sym (number_at fs n f found)) (in_at fs n f found) d s)

module _ (s : Server) (chosen : List ℕ) where
  abbrev Stays : Step → Type 0
  Stays t = FilesStay s.files t.state.files

  on_asked : (now : ℕ) (q : ClientRequest) → Stays (on_request s now chosen q)
  on_asked now q = each_request s now chosen q Stays (record {
    again = λ kept is. stay s.files;
    misordered = λ expected is. stay s.files;
    without = λ new none. stay s.files;
    served = λ new f found. at_found s.files q.file f _ found
        (same_serves (at_file s chosen f) s.next_grant s.format now q.client q.args);
  })

  -- a file that wasn't there is made
  on_made : (x : File) → file_at s.files x.kept.number ≡ None → Stays (makes_file s x)
  on_made x none d =
      let y : File = (making (at_file (with_file s x) [] x)).file in
      let made : IsSameFile x y = same_making (at_file (with_file s x) [] x) in
      let more : AreDistinct (add_file s.files x) = distinct_added s.files x d (none_there s.files x.kept.number none) in (
        (at_found (add_file s.files x) x.kept.number x y (added s.files x (none_there s.files x.kept.number none)) made more).0,
        λ n f g e i. elim (cases_eq x.kept.number n) [
          | inl here ↦ absurd (cc (sym e ∙ subst (λ (k : ℕ). file_at s.files k ≡ None) here none))
          | inr other ↦
              let it : Some g ≡ Some f =
              sym i ∙ put_other (add_file s.files x) x.kept.number y made.number n (ne_eqb x.kept.number n other)
              ∙ add_other s.files x n (ne_eqb x.kept.number n other) ∙ e in
              let its : g ≡ f = cc it in
              subst (λ (z : File). IsSameFile f z) (sym its) (same_file f)
        ],
        λ n f e. elim (cases_eq x.kept.number n) [
          | inl here ↦ absurd (cc (sym e ∙ subst (λ (k : ℕ). file_at s.files k ≡ None) here none))
          | inr other ↦ (
            f,
            put_other (add_file s.files x) x.kept.number y made.number n (ne_eqb x.kept.number n other)
                ∙ add_other s.files x n (ne_eqb x.kept.number n other) ∙ e,
          )
        ],
      )

  cases : (i : Input) → StepCases s chosen i Stays
  unfolding declare
  cases i = record {
    rests = stay s.files;
    asked = λ now q is. on_asked now q;
    answered = λ x is. by_pairs s.files _
        (λ d. pairs_put s.files x.file (answered_file s chosen x).file (answered_file s chosen x).file.kept.number
        (same_hears (at_file s chosen x.file) x.job x.awaited x.reply (hearing x.file.kept x.awaited x.reply)).number
        is.there d (same_hears (at_file s chosen x.file) x.job x.awaited x.reply (hearing x.file.kept x.awaited x.reply)));
    recalled = λ f is. stay s.files;
    refused = λ f is n why. at_found s.files f.kept.number f f (at_own f is.target is.found) (same_file f);
    fenced = λ f is kind none low. at_found s.files f.kept.number f (fence_begins kind s.format (at_file s chosen f)).file
        (at_own f is.target is.found) (same_fence kind s.format (at_file s chosen f));
    declared = λ d known. by_pairs s.files _ (λ x. pairs_declared d (offline s.drives d) s.files (begins s) chosen);
    told = λ t now o is result h. h;
    made = λ n m tag zoned is none. on_made (new_file s chosen n m tag zoned) (not_there s n m zoned none);
    added = λ d is. stay s.files;
    zoned = λ d zone is. stay s.files;
    formats = λ n is. stay s.files;
    resends = λ is. stay s.files;
    crashes = λ is. by_pairs s.files _ (λ x. pairs_crashed s.files);
    opened = λ is low. by_pairs s.files _ (λ x. pairs_opened s.format s.drives s.files (begins s));
  }
    where
      at_own : (f : File) (n : ℕ) → file_at s.files n ≡ Some f → file_at s.files f.kept.number ≡ Some f
      at_own f n found = subst (λ (k : ℕ). file_at s.files k ≡ Some f) (sym (number_at s.files n f found)) found

  pub step_stays : (i : Input) → Stays (step s chosen i)
  step_stays i = each_step s chosen i Stays (cases i)

-- ---- a move

pub move_stays : (w : World) (m : Move) → FilesStay w.server.files (move w m).world.server.files
move_stays w m = either (input_in w m.action) refl
  where
    either : (o : Option Input) → input_in w m.action ≡ o → FilesStay w.server.files (move w m).world.server.files
    either None is = rw (server_rests w m is) (stay w.server.files)
    either (Some i) is = rw (server_steps w m i is) (step_stays w.server m.chosen i)

-- no two files have one number, at each moment
pub files_distinct : (w : World) → IsReached w → AreDistinct w.server.files
files_distinct w k =
    always (λ (v : World). AreDistinct v.server.files) (record { starts = tt; moves = λ v m d. (move_stays v m d).0 }) w k

-- A file that is there before a move and behind it is the same, with as many components.
shaped : FilesHaveShape
shaped = files_have_shape parties_run

pub file_stays : (w : World) (h : List Line) → (k : IsMoment w h) → (m : Move) → due (plan_at k) w ≡ Some m.action
    → (n : ℕ) (f g : File)
    → file_at w.server.files n ≡ Some f → file_at (move w m).world.server.files n ≡ Some g → FileStays f g
file_stays w h k m d n f g there goes =
    let same : IsSameFile f g = (move_stays w m (files_distinct w (reached w h k))).1 n f g there goes in
    record {
      same = same;
      components =
          (shaped (move w m).world (reached (move w m).world (h ++ lines_in w m)
          (next_moment w h k m d)) n g goes).components ∙ ap (λ (x : RawMap). x.comps) same.map
          ∙ sym (shaped w (reached w h k) n f there).components;
    }
