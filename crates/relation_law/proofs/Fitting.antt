-- What a job awaits stays as its work asks, over each function of jobs.
use Rattle.std.proofs.Common.{◌≡◌, ◌⊎◌, ◌==◌, ℕ, Bool, true, false, List, [], ◌∷◌, map, Option, Some, refl, sym, subst, ◌∙◌, inl, inr, if◌then◌else◌}
use Rattle.std.proofs.lemmas.Bool.{eqb-true}
use Rattle.data_map.specs.declared.check.RawMap.{RawMap}
use Rattle.data_map.specs.Striping.{group_of}
use Rattle.server_rules.specs.Commands.{again_in_2}
use Rattle.server_rules.specs.Going.{Going, with_components, noting}
use Rattle.server_rules.specs.Jobs.{waits_or_on, loses}
use Rattle.server_rules.specs.Laws.{In}
use Rattle.server_rules.specs.Maps.{group_with, pieces_along, pieces_in}
use Rattle.server_rules.specs.Replies.{Hearing, Older, Full, Done, Nothing, others, renewed, fills_up, heard_with, hears}
use Rattle.server_rules.specs.Standing.{lose_from}
use Rattle.server_rules.proofs.Members.{in_filtered, in_mapped}
use Rattle.history_law.specs.Names.{Kept, Awaited, Heard, Piece, Target, Job, Work, Creates, Fences, Fetches, Stores, Targets, Gathers, Fills, Lengths, Checks, NoSpace, Reply}
use Rattle.relation_law.specs.Awaiting.{IsOfComponent, IsOfTarget, IsMaking, IsAskedIn, AreOfGroup, ToDoFits, IsFit, FitsIn}
use Rattle.relation_law.proofs.Walk.{JobCases, place_behind, lost_place, broken, walk_waits, walk_loses, walk_full}
use Rattle.relation_law.proofs.RepairAsked.{PlaceFits, asked_fits}
use Rattle.relation_law.proofs.Places.{KeepPlaces, keep_from, asked_kept}

abbrev pub FitsAt : Going → Type 0
FitsAt g = FitsIn g.file.kept g.file.job

pub fit_cases : JobCases PlaceFits FitsAt
fit_cases = record {
  asks = λ place work c cs kind g q a. let r = asked_fits g place work (c ∷ cs) q a in record { asked = r.0; todo = r.1 };
  aims = λ t g q is. record {
    asked = λ a i. elim i [
      | inl same ↦ subst (IsMaking t) (sym same)
          (record { of = record { component = refl; drive = refl; object = refl }; action_is = refl })
      | inr none ↦ absurd none
    ];
    todo = tt;
  };
  readied = λ g q. tt;
  rests_behind = λ g q. tt;
  built = λ n g q. tt;
  counted = λ t g q. tt;
  raises = λ g q. tt;
  skips = λ p ps g q e. tt;
  unchanged = λ p ps heard g q e. tt;
  repaired = λ short g q. tt;
  begins = λ g q. tt;
  passes = λ b n g q. tt;
  builds = λ t g q. tt;
  loses_it = λ t p ps lacked g q e. tt;
  gone = λ t todo g q. tt;
  full = λ t todo g q. tt;
  zeros = λ t p ps heard g q e x i. q x (inr i);
  lengths = λ g q. tt;
  counts = λ p ps g q. tt;
}

-- ---- where a job goes on

in_group : (f : Kept) (t : Target) → AreOfGroup f.map t.component (pieces_in f.map (group_with f.map t.component) f.high)
unfolding pieces_in
in_group f t p i =
    let r = in_filtered (λ (x : Piece). group_of f.map x.stripe == group_with f.map t.component) p
    (pieces_along f.map.unit 0 f.high) i in
    sym (eqb-true (group_of f.map p.stripe) (group_with f.map t.component) r.1)

fits_behind : (g : Going) (work : Work) (heard : List Heard) → ToDoFits g.file.kept.map work →
    PlaceFits (place_behind g.file.kept work heard) g
fits_behind g Creates heard q = tt
fits_behind g Fences heard q = tt
fits_behind g (Fetches [] short) heard q = tt
fits_behind g (Fetches (p ∷ ps) short) heard q = tt
fits_behind g (Stores [] short b) heard q = tt
fits_behind g (Stores (p ∷ ps) short true) heard q = tt
fits_behind g (Stores (p ∷ ps) short false) heard q = tt
fits_behind g (Targets t) heard q = in_group g.file.kept t
fits_behind g (Gathers t []) heard q = q
fits_behind g (Gathers t (p ∷ ps)) heard q = q
fits_behind g (Fills t []) heard q = q
fits_behind g (Fills t (p ∷ ps)) heard q = λ x i. q x (inr i)
fits_behind g Lengths heard q = tt
fits_behind g (Checks [] tally) heard q = tt
fits_behind g (Checks (p ∷ ps) tally) heard q = tt

fits_lost : (g : Going) (work : Work) → ToDoFits g.file.kept.map work → PlaceFits (lost_place g.file.kept work) g
fits_lost g Creates q = tt
fits_lost g Fences q = tt
fits_lost g (Fetches todo short) q = tt
fits_lost g (Stores todo short b) q = tt
fits_lost g (Targets t) q = λ p i. absurd i
fits_lost g (Gathers t todo) q = q
fits_lost g (Fills t todo) q = q
fits_lost g Lengths q = tt
fits_lost g (Checks todo tally) q = tt

-- ---- the same asked again

module _ (f : Kept) (n : ℕ) where
  of_again : (a : Awaited) → IsOfComponent f.components a → IsOfComponent f.components (again_in_2 a n)
  of_again a is = record { component = is.component; there = is.there; drive = is.drive; object = is.object }

  aim_again : (t : Target) (a : Awaited) → IsOfTarget t a → IsOfTarget t (again_in_2 a n)
  aim_again t a is = record { component = is.component; drive = is.drive; object = is.object }

  asked_again : (work : Work) (a : Awaited) → IsAskedIn f work a → IsAskedIn f work (again_in_2 a n)
  asked_again Creates a is = record { of = of_again a is.of; action_is = is.action_is }
  asked_again Fences a is = record { of = of_again a is.of; action_is = is.action_is }
  asked_again (Fetches [] short) a is = is
  asked_again (Fetches (p ∷ ps) short) a is =
      record { of = of_again a is.of; action_is = is.action_is; offset = is.offset; count = is.count }
  asked_again (Stores [] short b) a is = is
  asked_again (Stores (p ∷ ps) short b) a is = record { of = of_again a is.of; action_is = is.action_is; inside = is.inside }
  asked_again (Targets t) a is = record { of = aim_again t a is.of; action_is = is.action_is }
  asked_again (Gathers t []) a is = is
  asked_again (Gathers t (p ∷ ps)) a is =
      record { of = of_again a is.of; action_is = is.action_is; offset = is.offset; count = is.count }
  asked_again (Fills t []) a is = is
  asked_again (Fills t (p ∷ ps)) a is = record { of = aim_again t a is.of; action_is = is.action_is; inside = is.inside }
  asked_again Lengths a is = record { of = of_again a is.of; action_is = is.action_is }
  asked_again (Checks [] tally) a is = is
  asked_again (Checks (p ∷ ps) tally) a is =
      record { of = of_again a is.of; action_is = is.action_is; offset = is.offset; count = is.count }

renewed_is : (a b y : Awaited) → (renewed a b y ≡ b) ⊎ (renewed a b y ≡ y)
renewed_is a b y = either (y.command.nonce == a.command.nonce)
  where
    either : (t : Bool) → ((if t then b else y) ≡ b) ⊎ ((if t then b else y) ≡ y)
    either true = inl refl
    either false = inr refl

-- ---- the job waits on

broken_asked : (f : Kept) (work : Work) (a : Awaited) → IsAskedIn f work a → IsAskedIn f (broken work) a
broken_asked f Creates a is = is
broken_asked f Fences a is = is
broken_asked f (Fetches todo short) a is = is
broken_asked f (Stores [] short b) a is = is
broken_asked f (Stores (p ∷ ps) short b) a is = is
broken_asked f (Targets t) a is = is
broken_asked f (Gathers t todo) a is = is
broken_asked f (Fills t todo) a is = is
broken_asked f Lengths a is = is
broken_asked f (Checks todo tally) a is = is

broken_todo : (m : RawMap) (work : Work) → ToDoFits m work → ToDoFits m (broken work)
broken_todo m Creates q = q
broken_todo m Fences q = q
broken_todo m (Fetches todo short) q = q
broken_todo m (Stores todo short b) q = q
broken_todo m (Targets t) q = q
broken_todo m (Gathers t todo) q = q
broken_todo m (Fills t todo) q = q
broken_todo m Lengths q = q
broken_todo m (Checks todo tally) q = q

todo_kept : (m n : RawMap) (work : Work) → n ≡ m → ToDoFits m work → ToDoFits n work
todo_kept m n work is q = subst (λ (x : RawMap). ToDoFits x work) (sym is) q

-- ---- a component is lost

module _ (g : Going) (j : Job) (fit : IsFit g.file.kept j) where
  pub fits_loses : (rest : List Awaited) (gone : Bool) → ((a : Awaited) → In a rest → In a j.awaited) → FitsAt g →
      FitsAt (loses g j j.work rest gone)
  fits_loses rest gone among here =
      walk_loses PlaceFits FitsAt fit_cases g j j.work rest gone refl (record {
        waits = λ c cs e. record {
          asked = λ a i. broken_asked g.file.kept j.work a
              (fit.asked a (among a (subst (λ (ws : List Awaited). In a ws) (sym e) i)));
          todo = broken_todo g.file.kept.map j.work fit.todo;
        };
        stays = here;
        on = λ none. fits_lost g j.work fit.todo;
      })

  fits_waits : (rest : List Awaited) (heard : List Heard) → ((a : Awaited) → In a rest → In a j.awaited) →
      FitsAt (waits_or_on g j j.work rest heard)
  fits_waits rest heard among =
      walk_waits PlaceFits FitsAt fit_cases g j j.work rest heard
      (λ c cs e. record {
        asked = λ a i. fit.asked a (among a (subst (λ (ws : List Awaited). In a ws) (sym e) i));
        todo = fit.todo;
      })
      (λ none. fits_behind g j.work heard fit.todo)

  in_others : (n : ℕ) (a : Awaited) → In a (others j.awaited n) → In a j.awaited
  in_others n a i = (in_filtered _ a j.awaited i).0

  -- what is asked of components that keep their places
  pub fits_kept : (h : Kept) → h.map ≡ g.file.kept.map → KeepPlaces g.file.kept.components h.components → IsFit h j
  fits_kept h map keeps = record {
    asked = λ a i. asked_kept g.file.kept h map keeps j.work a (fit.asked a i);
    todo = todo_kept g.file.kept.map h.map j.work map fit.todo;
  }

fits_some : (f : Kept) (j : Job) (o : Option Job) → o ≡ Some j → IsFit f j → FitsIn f o
fits_some f j o is fit = subst (FitsIn f) (sym is) fit

fills_up_fits : (g : Going) (j : Job) (a : Awaited) (work : Work) → j.work ≡ work → g.file.job ≡ Some j →
    IsFit g.file.kept j → FitsAt (fills_up g j a work)
fills_up_fits g j a work is runs fit = by_work work is
  where
    todo : (x : Work) → j.work ≡ x → ToDoFits g.file.kept.map x
    todo x e = subst (ToDoFits g.file.kept.map) e fit.todo

    h : Going
    h = noting (with_components g (lose_from (a.component ∷ []) g.file.kept.components 0)) (NoSpace a.component)

    lost : IsFit h.file.kept j
    lost = fits_kept g j fit h.file.kept refl (keep_from (a.component ∷ []) g.file.kept.components 0)

    loses_it : (x : Work) → j.work ≡ x → FitsAt (loses h j x (others j.awaited a.command.nonce) false)
    loses_it x e =
        subst (λ (y : Work). FitsAt (loses h j y (others j.awaited a.command.nonce) false)) e
        (fits_loses h j lost (others j.awaited a.command.nonce) false (in_others g j fit a.command.nonce)
        (fits_some h.file.kept j g.file.job runs lost))

    by_work : (x : Work) → j.work ≡ x → FitsAt (fills_up g j a x)
    by_work (Targets t) e = walk_full PlaceFits FitsAt fit_cases t [] g (λ p i. absurd i)
    by_work (Gathers t ps) e = walk_full PlaceFits FitsAt fit_cases t ps g (todo (Gathers t ps) e)
    by_work (Fills t ps) e = walk_full PlaceFits FitsAt fit_cases t ps g (todo (Fills t ps) e)
    by_work Creates e = loses_it Creates e
    by_work Fences e = loses_it Fences e
    by_work (Fetches ps short) e = loses_it (Fetches ps short) e
    by_work (Stores ps short b) e = loses_it (Stores ps short b) e
    by_work Lengths e = loses_it Lengths e
    by_work (Checks ps t) e = loses_it (Checks ps t) e

-- ---- a reply

pub fits_hears : (g : Going) (j : Job) (a : Awaited) (r : Reply) (x : Hearing) → g.file.job ≡ Some j →
    In a j.awaited → IsFit g.file.kept j → FitsAt (hears g j a r x)
fits_hears g j a r Older runs here fit =
    let b : Awaited = again_in_2 a g.effects.nonce in
    record {
      asked = λ y i.
          let z = in_mapped (renewed a b) y j.awaited i in
          elim (renewed_is a b z.0) [
            | inl new ↦
                subst (IsAskedIn g.file.kept j.work) (sym (z.2 ∙ new))
                (asked_again g.file.kept g.effects.nonce j.work a (fit.asked a here))
            | inr old ↦ subst (IsAskedIn g.file.kept j.work) (sym (z.2 ∙ old)) (fit.asked z.0 z.1)
          ];
      todo = fit.todo;
    }
fits_hears g j a r Full runs here fit = fills_up_fits g j a j.work refl runs fit
fits_hears g j a r Done runs here fit =
    fits_waits g j fit (others j.awaited a.command.nonce) (heard_with j a r) (in_others g j fit a.command.nonce)
fits_hears g j a r Nothing runs here fit = fits_some g.file.kept j g.file.job runs fit
