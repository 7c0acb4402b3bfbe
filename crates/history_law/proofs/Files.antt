-- The files of a server behind a step, one by one.
use Rattle.std.proofs.Common.{◌≡◌, ◌==◌, ℕ, Bool, true, false, List, [], ◌∷◌, Some, map, inl, inr, refl, sym, subst, ◌∙◌, if◌then◌else◌}
use Rattle.std.proofs.lemmas.Bool.{cases_eq, eq-eqb, ne_eqb}
use Rattle.server_rules.specs.Files.{Step, begins, file_at, put_file, add_file, at_file}
use Rattle.server_rules.specs.Going.{Going}
use Rattle.osd_lists.specs.declared.node.Node.TheVariants.{Server as FromServer}
use Rattle.server_rules.specs.History.{Input, Hears, step}
use Rattle.server_rules.specs.Jobs.{making, declares, fence_begins}
use Rattle.server_rules.specs.Laws.{In, IsSafe, AreSafe}
use Rattle.server_rules.specs.Making.{with_file}
use Rattle.server_rules.specs.Messages.{Orders}
use Rattle.server_rules.specs.Openings.{crashed_file, opens, opens_each}
use Rattle.server_rules.specs.Orders.{offline, declare, declares_each}
use Rattle.server_rules.proofs.FileLaws.{number_at, put_other, add_other}
use Rattle.server_rules.proofs.Runs.{ran_making}
use Rattle.world_history.specs.ServerNames.{Server, File, Drive, Effects, Order, OrderResult}
use Rattle.history_law.specs.Steps.{answered_file, new_file, with_added, with_zoned, with_answer, StepCases}
use Rattle.history_law.specs.Files.{GoesAt, AllGo, FilesGo, Quiet, Asked, FileCases}
use Rattle.history_law.proofs.Steps.{each_step}
use Rattle.history_law.proofs.JobFiles.{in_add, in_put}

-- ---- places in the list

pub put_gives : (fs : List File) (n : ℕ) (g f : File) → g.kept.number ≡ n → file_at (put_file fs n g) n ≡ Some f → f ≡ g
unfolding file_at put_file
put_gives [] n g f is e = absurd (cc e)
put_gives (x ∷ xs) n g f is e = elim (cases_eq x.kept.number n) [
  | inl here ↦ cc (sym (rw (eq-eqb x.kept.number n here, eq-eqb g.kept.number n is) at e))
  | inr other ↦
      put_gives xs n g f is (rw (ne_eqb x.kept.number n other, ne_eqb x.kept.number n other) at e)
]

pub in_at : (fs : List File) (n : ℕ) (f : File) → file_at fs n ≡ Some f → In f fs
unfolding file_at
in_at [] n f e = absurd (cc e)
in_at (g ∷ fs) n f e = either (g.kept.number == n) e (in_at fs n f)
  where
    either : (b : Bool) → (if b then Some g else file_at fs n) ≡ Some f → (file_at fs n ≡ Some f → In f fs)
        → In f (g ∷ fs)
    either true is rest = let same : g ≡ f = cc is in inl (sym same)
    either false is rest = inr (rest is)

-- ---- what is so of each file

abbrev pub Each : (File → Type 0) → List File → Type 0
Each Q fs = (f : File) → In f fs → Q f

module _ (Q : File → Type 0) where
  pub put_each : (fs : List File) (n : ℕ) (g : File) → Each Q fs → Q g → Each Q (put_file fs n g)
  put_each fs n g all here x i = elim (in_put fs n g x i) [
    | inl same ↦ subst Q (sym same) here
    | inr j ↦ all x j
  ]

  pub add_each : (fs : List File) (g : File) → Each Q fs → Q g → Each Q (add_file fs g)
  add_each fs g all here x i = elim (in_add fs g x i) [
    | inl same ↦ subst Q (sym same) here
    | inr j ↦ all x j
  ]

  pub crashed_each : (fs : List File) → ((f : File) → In f fs → Q (crashed_file f)) → Each Q (map crashed_file fs)
  crashed_each [] all x i = absurd i
  crashed_each (f ∷ fs) all x (inl same) = subst Q (sym same) (all f (inl refl))
  crashed_each (f ∷ fs) all x (inr i) = crashed_each fs (λ g j. all g (inr j)) x i

  pub declared_each : (d : ℕ) (ds : List Drive) (fs : List File) (m : Effects) (chosen : List ℕ)
      → ((f : File) → In f fs → (m : Effects) (chosen : List ℕ)
      → Q (declares (record { file = f; effects = m; drives = ds; chosen = chosen }) d).file)
      → Each Q (declares_each d ds fs m chosen).files
  unfolding declares_each
  declared_each d ds [] m chosen all x i = absurd i
  declared_each d ds (f ∷ fs) m chosen all x i =
      let g : Going = declares (record { file = f; effects = m; drives = ds; chosen = chosen }) d in
      elim i [
        | inl same ↦ subst Q (sym same) (all f (inl refl) m chosen)
        | inr j ↦ declared_each d ds fs g.effects g.chosen (λ y k. all y (inr k)) x j
      ]

  pub opened_each : (format : ℕ) (ds : List Drive) (fs : List File) (m : Effects)
      → ((f : File) → In f fs → (m : Effects)
      → Q (opens format (record { file = f; effects = m; drives = ds; chosen = [] })).file)
      → Each Q (opens_each format ds fs m).files
  unfolding opens_each
  opened_each format ds [] m all x i = absurd i
  opened_each format ds (f ∷ fs) m all x i =
      let g : Going = opens format (record { file = f; effects = m; drives = ds; chosen = [] }) in
      elim i [
        | inl same ↦ subst Q (sym same) (all f (inl refl) m)
        | inr j ↦ opened_each format ds fs g.effects (λ y k. all y (inr k)) x j
      ]

pub safe_in : (fs : List File) → AreSafe fs → (f : File) → In f fs → IsSafe f
safe_in [] safe f i = absurd i
safe_in (g ∷ fs) safe f (inl same) = subst IsSafe (sym same) safe.0
safe_in (g ∷ fs) safe f (inr i) = safe_in fs safe.1 f i

-- ---- what stands under each number

module _ (R : List Drive → File → File → Type 0) (N : File → Type 0) (ds : List Drive)
    (same : (f : File) → R ds f f) (number : (f g : File) → R ds f g → g.kept.number ≡ f.kept.number) where
  abbrev Go : List File → List File → Type 0
  Go fs gs = AllGo R N ds fs gs

  same_go : (fs : List File) → Go fs fs
  same_go fs n g e = inl (g, e, same g)

  put_go : (fs : List File) (n : ℕ) (g : File) → g.kept.number ≡ n → GoesAt R N ds fs n g → Go fs (put_file fs n g)
  put_go fs n g is x m f e = elim (cases_eq n m) [
    | inl here ↦
        let it : f ≡ g =
        put_gives fs n g f is (subst (λ (k : ℕ). file_at (put_file fs n g) k ≡ Some f) (sym here) e) in
        subst (λ (y : File). GoesAt R N ds fs m y) (sym it) (subst (λ (k : ℕ). GoesAt R N ds fs k g) here x)
    | inr other ↦ inl (f, sym (put_other fs n g is m (ne_eqb n m other)) ∙ e, same f)
  ]

  at_go : (fs : List File) (n : ℕ) (f g : File) → file_at fs n ≡ Some f → R ds f g
      → Go fs (put_file fs f.kept.number g)
  at_go fs n f g found x =
      put_go fs f.kept.number g (number f g x)
      (inl (f, subst (λ (k : ℕ). file_at fs k ≡ Some f) (sym (number_at fs n f found)) found, x))

  add_go : (fs : List File) (f g : File) → g.kept.number ≡ f.kept.number → N g
      → Go fs (put_file (add_file fs f) f.kept.number g)
  add_go fs f g is new k x e = elim (cases_eq f.kept.number k) [
    | inl here ↦
        let it : x ≡ g =
        put_gives (add_file fs f) f.kept.number g x is
        (subst (λ (j : ℕ). file_at (put_file (add_file fs f) f.kept.number g) j ≡ Some x) (sym here) e) in
        inr (subst N (sym it) new)
    | inr other ↦
        inl (
          x,
          sym (add_other fs f k (ne_eqb f.kept.number k other))
              ∙ sym (put_other (add_file fs f) f.kept.number g is k (ne_eqb f.kept.number k other)) ∙ e,
          same x,
        )
  ]

  -- one file after the other
  more_go : (f g : File) (fs gs : List File) → R ds f g → Go fs gs → Go (f ∷ fs) (g ∷ gs)
  unfolding file_at
  more_go f g fs gs x all n h e = elim (cases_eq f.kept.number n) [
    | inl is ↦
        let it : g ≡ h = cc (rw (eq-eqb g.kept.number n (number f g x ∙ is)) at e) in
        rw (eq-eqb f.kept.number n is) (inl (f, refl, subst (λ (y : File). R ds f y) it x))
    | inr other ↦
        rw (ne_eqb f.kept.number n other)
        (all n h (rw (ne_eqb g.kept.number n (λ (i : g.kept.number ≡ n). other (sym (number f g x) ∙ i))) at e))
  ]

  declared_go : (d : ℕ) (fs : List File) (m : Effects) (chosen : List ℕ)
      → ((f : File) → In f fs → (m : Effects) (chosen : List ℕ)
      → R ds f (declares (record { file = f; effects = m; drives = ds; chosen = chosen }) d).file)
      → Go fs (declares_each d ds fs m chosen).files
  unfolding declares_each
  declared_go d [] m chosen all = same_go []
  declared_go d (f ∷ fs) m chosen all =
      let g : Going = declares (record { file = f; effects = m; drives = ds; chosen = chosen }) d in
      more_go f g.file fs _ (all f (inl refl) m chosen) (declared_go d fs g.effects g.chosen (λ y j. all y (inr j)))

  crashed_go : (fs : List File) → ((f : File) → In f fs → R ds f (crashed_file f)) → Go fs (map crashed_file fs)
  crashed_go [] all = same_go []
  crashed_go (f ∷ fs) all =
      more_go f (crashed_file f) fs (map crashed_file fs) (all f (inl refl)) (crashed_go fs (λ y j. all y (inr j)))

  opened_go : (format : ℕ) (fs : List File) (m : Effects)
      → ((f : File) → In f fs → (m : Effects)
      → R ds f (opens format (record { file = f; effects = m; drives = ds; chosen = [] })).file)
      → Go fs (opens_each format ds fs m).files
  unfolding opens_each
  opened_go format [] m all = same_go []
  opened_go format (f ∷ fs) m all =
      let g : Going = opens format (record { file = f; effects = m; drives = ds; chosen = [] }) in
      more_go f g.file fs _ (all f (inl refl) m) (opened_go format fs g.effects (λ y j. all y (inr j)))

-- ---- any step

module _ (R : List Drive → File → File → Type 0) (N : File → Type 0) (s : Server) (chosen : List ℕ) (i : Input)
    (k : FileCases R N s chosen i) where
  stay : (ds : List Drive) → AllGo R N ds s.files s.files
  stay ds = same_go R N ds (k.same ds) (k.number ds) s.files

  told : (t : Step) (now : ℕ) (o : Order) → i ≡ Hears now FromServer (Orders o) → (result : OrderResult)
      → FilesGo R N s chosen i t → FilesGo R N s chosen i (with_answer t o.order result)
  told t now o is result (Quiet all same) = Quiet all same
  told t now o is result (Asked later q asked done) = absurd (cc (sym is ∙ asked.is))

  cases : StepCases s chosen i (FilesGo R N s chosen i)
  unfolding declare
  cases = record {
    rests = Quiet (stay s.drives) refl;
    asked = λ now q is. Asked now q is refl;
    answered = λ x is.
        Quiet (put_go R N s.drives (k.same s.drives) (k.number s.drives) s.files
        (answered_file s chosen x).file.kept.number (answered_file s chosen x).file refl (inr (k.answered x is))) refl;
    recalled = λ f is. Quiet (stay s.drives) refl;
    refused = λ f is n why.
        Quiet (at_go R N s.drives (k.same s.drives) (k.number s.drives) s.files is.target f f is.found
        (k.same s.drives f)) refl;
    fenced = λ f is kind none low.
        Quiet (at_go R N s.drives (k.same s.drives) (k.number s.drives) s.files is.target f
        (fence_begins kind s.format (at_file s chosen f)).file is.found (k.fenced f is kind none)) refl;
    declared = λ d known.
        Quiet (declared_go R N (offline s.drives d) (k.same (offline s.drives d)) (k.number (offline s.drives d)) d
        s.files (begins s) chosen (k.declared d known)) refl;
    told = told;
    made = λ n m tag zoned is none.
        let f : File = new_file s chosen n m tag zoned in
        Quiet (add_go R N s.drives (k.same s.drives) (k.number s.drives) s.files f
        (making (at_file (with_file s f) [] f)).file (ran_making (at_file (with_file s f) [] f)).number (k.made f refl)) refl;
    added = λ d is. Quiet (stay (with_added s d).drives) refl;
    zoned = λ d zone is. Quiet (stay (with_zoned s d zone).drives) refl;
    formats = λ n is. Quiet (stay s.drives) refl;
    resends = λ is. Quiet (stay s.drives) refl;
    crashes = λ is. Quiet (crashed_go R N s.drives (k.same s.drives) (k.number s.drives) s.files k.crashed) refl;
    opened = λ is low.
        Quiet (opened_go R N s.drives (k.same s.drives) (k.number s.drives) s.format s.files (begins s) k.opened) refl;
  }

  pub files_go : FilesGo R N s chosen i (step s chosen i)
  files_go = each_step s chosen i (FilesGo R N s chosen i) cases
