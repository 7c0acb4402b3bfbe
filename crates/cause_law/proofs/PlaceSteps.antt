-- What each step of the server makes of the object numbers of components: each keeps its own, gets that of a rebuild's target, or
-- gets a new one.
use Rattle.std.proofs.Common.{◌≡◌, ◌⊎◌, ℕ, zero, suc, ◌≤◌, List, [], ◌∷◌, slice_get, Option, Some, None, refl, sym, subst, arith, inl, inr}
use Rattle.std.proofs.lemmas.Bool.{eq-eqb, ne_eqb}
use Rattle.server_rules.specs.Files.{Step, file_at, add_file, at_file, begins}
use Rattle.server_rules.specs.Going.{Going}
use Rattle.server_rules.specs.History.{Input, step}
use Rattle.server_rules.specs.Jobs.{making, declares, fence_begins}
use Rattle.server_rules.specs.Laws.{In}
use Rattle.server_rules.specs.Making.{drives_for, with_file}
use Rattle.server_rules.specs.Openings.{opens, opens_each}
use Rattle.server_rules.specs.Orders.{offline, declare, declares_each}
use Rattle.server_rules.specs.Replies.{hearing}
use Rattle.server_rules.specs.Requests.{serves}
use Rattle.server_rules.specs.Rounds.{Round}
use Rattle.server_rules.specs.Served.{Served}
use Rattle.server_rules.proofs.FileLaws.{number_at}
use Rattle.history_law.specs.Names.{Server, File, Kept, Drive, Effects, Target, ClientRequest}
use Rattle.history_law.specs.Steps.{answered_file, new_file, StepCases, RequestCases}
use Rattle.history_law.proofs.Files.{Each, in_at, put_each, add_each, crashed_each}
use Rattle.history_law.proofs.Steps.{each_request, each_step}
use Rattle.component_law.specs.Distinct.{AreDistinct}
use Rattle.component_law.specs.Objects.{objects_of, target_of}
use Rattle.component_law.proofs.SentNumbers.{in_new}
use Rattle.component_law.proofs.Walking.{IsWalked, ends_making, ends_fence, ends_hears, ends_declares, ends_opens, ends_serves}
use Rattle.cause_law.proofs.Barring.{of_each}
use Rattle.cause_law.proofs.PlaceJobs.{Lasts, Ends, IsAim, places_walked}

-- ---- whatever is so of each file's component numbers and objects, and of each new object number

module _ (C : ℕ → ℕ → ℕ → Type 0) (next : ℕ) (fresh : (n k o : ℕ) → next ≤ o → C n k o) where
  abbrev Has : File → Type 0
  Has f =
      ((k o : ℕ) → slice_get (objects_of f.kept.components) k ≡ Some o → C f.kept.number k o)
      × IsAim (C f.kept.number) (target_of f.job)

  abbrev Stay : ℕ → List Drive → ℕ → Kept → Option Target → Type 0
  Stay n = Lasts (C n) n next

  walked : (n : ℕ) → IsWalked (Stay n)
  walked n = places_walked (C n) n next (fresh n)

  start : (g : Going) → next ≤ g.effects.object → Has g.file → Ends (C g.file.kept.number) g.file.kept.number next g
  start g from h = ((refl, from, h.0), h.1)

  abbrev Ended : Going → Type 0
  Ended g = (next ≤ g.effects.object) × Has g.file

  finish : (n : ℕ) (g : Going) → Ends (C n) n next g → Ended g
  finish n g e = (
    e.0.1,
    subst (λ (m : ℕ). ((k o : ℕ) → slice_get (objects_of g.file.kept.components) k ≡ Some o → C m k o)
        × IsAim (C m) (target_of g.file.job)) (sym e.0.0) (e.0.2, e.1),
  )

  -- ---- all files in order

  abbrev Holds : Round → Type 0
  Holds r = (next ≤ r.effects.object) × Each Has r.files

  then_all : (f : File) (fs : List File) → Has f → Each Has fs → Each Has (f ∷ fs)
  then_all f fs h all x (inl e) = subst Has (sym e) h
  then_all f fs h all x (inr i) = all x i

  declared_all : (d : ℕ) (ds : List Drive) (fs : List File) (m : Effects) (chosen : List ℕ) → next ≤ m.object
      → Each Has fs → Holds (declares_each d ds fs m chosen)
  unfolding declares_each
  declared_all d ds [] m chosen from all = (from, λ x i. absurd i)
  declared_all d ds (f ∷ fs) m chosen from all =
      let g : Going = record { file = f; effects = m; drives = ds; chosen = chosen } in
      let e = finish f.kept.number (declares g d)
      (ends_declares (Stay f.kept.number) (walked f.kept.number) g d (start g from (all f (inl refl)))) in
      let r = declared_all d ds fs (declares g d).effects (declares g d).chosen e.0 (λ x i. all x (inr i)) in
      (r.0, then_all (declares g d).file _ e.1 r.1)

  opened_all : (format : ℕ) (ds : List Drive) (fs : List File) (m : Effects) → next ≤ m.object → Each Has fs
      → Holds (opens_each format ds fs m)
  unfolding opens_each
  opened_all format ds [] m from all = (from, λ x i. absurd i)
  opened_all format ds (f ∷ fs) m from all =
      let g : Going = record { file = f; effects = m; drives = ds; chosen = [] } in
      let e = finish f.kept.number (opens format g)
      (ends_opens (Stay f.kept.number) (walked f.kept.number) format g (start g from (all f (inl refl)))) in
      let r = opened_all format ds fs (opens format g).effects e.0 (λ x i. all x (inr i)) in
      (r.0, then_all (opens format g).file _ e.1 r.1)

  -- ---- a step

  abbrev P : Step → Type 0
  P t = (next ≤ t.state.next_object) × Each Has t.state.files

  get_in : (xs : List ℕ) (k o : ℕ) → slice_get xs k ≡ Some o → In o xs
  get_in [] k o e = absurd (cc e)
  get_in (x ∷ xs) zero o e = inl (cc (sym e))
  get_in (x ∷ xs) (suc k) o e = inr (get_in xs k o e)

  module _ (s : Server) (chosen : List ℕ) (i : Input) (is_next : s.next_object ≡ next) (all : Each Has s.files) where
    from_here : next ≤ s.next_object
    from_here = omega (arith, is_next)

    begun : (f : File) → In f s.files → Ends (C f.kept.number) f.kept.number next (at_file s chosen f)
    begun f among = start (at_file s chosen f) from_here (all f among)

    requests : (now : ℕ) (q : ClientRequest) → RequestCases s now chosen q P
    requests now q = record {
      again = λ kept is. (from_here, all);
      misordered = λ expected is. (from_here, all);
      without = λ new none. (from_here, all);
      served = λ new f found.
          let v : Served = serves (at_file s chosen f) s.next_grant s.format now q.client q.args in
          let e = finish f.kept.number v.going
          (ends_serves (Stay f.kept.number) (walked f.kept.number) (at_file s chosen f) s.next_grant s.format
          now q.client q.args (begun f (in_at s.files q.file f found))) in
          (e.0, put_each Has s.files q.file v.going.file all e.1);
    }

    cases : StepCases s chosen i P
    unfolding declare
    cases = record {
      rests = (from_here, all);
      asked = λ now q is. each_request s now chosen q P (requests now q);
      answered = λ x is.
          let g : Going = answered_file s chosen x in
          let e = finish x.file.kept.number g
          (ends_hears (Stay x.file.kept.number) (walked x.file.kept.number) (at_file s chosen x.file) x.job
          x.awaited x.reply (hearing x.file.kept x.awaited x.reply) is.runs (begun x.file is.there)) in
          (e.0, put_each Has s.files g.file.kept.number g.file all e.1);
      recalled = λ f is. (from_here, all);
      refused = λ f is n why.
          (from_here, put_each Has s.files f.kept.number f all (all f (in_at s.files is.target f is.found)));
      fenced = λ f is kind free low.
          let g : Going = fence_begins kind s.format (at_file s chosen f) in
          let e = finish f.kept.number g
          (ends_fence (Stay f.kept.number) (walked f.kept.number) kind s.format (at_file s chosen f)
          ((begun f (in_at s.files is.target f is.found)).0, tt)) in
          (e.0, put_each Has s.files f.kept.number g.file all e.1);
      declared = λ d known. declared_all d (offline s.drives d) s.files (begins s) chosen from_here all;
      told = λ t now o is result p. p;
      made = λ n m tag zoned is none.
          let f : File = new_file s chosen n m tag zoned in
          let g : Going = at_file (with_file s f) [] f in
          let own : (k o : ℕ) → slice_get (objects_of f.kept.components) k ≡ Some o → C n k o =
          λ k o e.
          fresh n k o
          (subst (λ (z : ℕ). z ≤ o) is_next
          (in_new (drives_for zoned s.drives m chosen) s.next_object o (get_in (objects_of f.kept.components) k o e)).0) in
          let e = finish n (making g)
          (ends_making (Stay n) (walked n) g ((refl, omega (arith, is_next), own), tt)) in
          (e.0, put_each Has (add_file s.files f) n (making g).file (add_each Has s.files f all (own, tt)) e.1);
      added = λ d is. (from_here, all);
      zoned = λ d zone is. (from_here, all);
      formats = λ n is. (from_here, all);
      resends = λ is. (from_here, all);
      crashes = λ is. (from_here, crashed_each Has s.files (λ f there. ((all f there).0, tt)));
      opened = λ is low. opened_all s.format s.drives s.files (begins s) from_here all;
    }

    pub step_has : P (step s chosen i)
    step_has = each_step s chosen i P cases

-- ---- what has an object number

-- in the book of a server: component k of file n has it, or is to have it when its rebuild is over
pub record Claims (s : Server) (n k o : ℕ) : Type 0 where
  pub file : File
  pub found : file_at s.files n ≡ Some file
  pub has : (slice_get (objects_of file.kept.components) k ≡ Some o)
      ⊎ ((t : Target) × (target_of file.job ≡ Some t) × (t.component ≡ k) × (t.object ≡ o))

-- of two moments of a server: whatever has a number at the later one had it at the earlier one, or has a newer one
pub record Since (s t : Server) : Type 0 where
  pub rises : s.next_object ≤ t.next_object
  pub back : (n k o : ℕ) → Claims t n k o → Claims s n k o ⊎ (s.next_object ≤ o)

pub since_itself : (s : Server) → Since s s
since_itself s = record { rises = omega arith; back = λ n k o c. inl c }

pub since_then : (s t u : Server) → Since s t → Since t u → Since s u
since_then s t u a b = record {
  rises = omega (arith, a.rises, b.rises);
  back = λ n k o c. elim (b.back n k o c) [
    | inl old ↦ a.back n k o old
    | inr new ↦ inr (omega (arith, new, a.rises))
  ];
}

-- ---- a step

at_its_place : (fs : List File) (x : File) → AreDistinct fs → In x fs → file_at fs x.kept.number ≡ Some x
unfolding file_at
at_its_place [] x d i = absurd i
at_its_place (y ∷ fs) x d (inl e) = rw (e, eq-eqb y.kept.number y.kept.number refl) refl
at_its_place (y ∷ fs) x d (inr i) =
    rw
    (ne_eqb y.kept.number x.kept.number
    (λ e. of_each (λ (f : File). f.kept.number ≡ y.kept.number → ⊥) fs x d.0 i (sym e)))
    (at_its_place fs x d.1 i)

module _ (s : Server) (chosen : List ℕ) (i : Input) (distinct : AreDistinct s.files) where
  abbrev C : ℕ → ℕ → ℕ → Type 0
  C n k o = Claims s n k o ⊎ (s.next_object ≤ o)

  abbrev Mine : File → Type 0
  Mine f = Has C s.next_object (λ n k o from. inr from) f

  first_has : (f : File) → In f s.files → Mine f
  first_has f among = (
    λ k o e. inl (record { file = f; found = at_its_place s.files f distinct among; has = inl e }),
    aim (target_of f.job) refl,
  )
    where
      aim : (o : Option Target) → target_of f.job ≡ o → IsAim (C f.kept.number) o
      aim None e = tt
      aim (Some t) e = inl (record { file = f; found = at_its_place s.files f distinct among; has = inr (t, e, refl, refl) })

  pub step_since : Since s (step s chosen i).state
  step_since =
      let r = step_has C s.next_object (λ n k o from. inr from) s chosen i refl first_has in
      record {
        rises = r.0;
        back = λ n k o c.
            let h = r.1 c.file (in_at (step s chosen i).state.files n c.file c.found) in
            subst (λ (m : ℕ). C m k o) (number_at (step s chosen i).state.files n c.file c.found) (elim c.has [
              | inl e ↦ h.0 k o e
              | inr (t, e, is, its) ↦ its_aim (c.file.kept.number) k o t is its
                  (subst (IsAim (C c.file.kept.number)) e h.1)
            ]);
      }
    where
      its_aim : (n k o : ℕ) (t : Target) → t.component ≡ k → t.object ≡ o → C n t.component t.object → C n k o
      its_aim n k o t is its c = subst (λ (x : ℕ). C n x o) is (subst (λ (x : ℕ). C n t.component x) its c)
