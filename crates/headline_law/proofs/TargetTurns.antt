-- How the job that makes a component anew goes on in a step of the server: over its own functions, and over each step.
use Rattle.std.proofs.Common.{◌≡◌, ◌==◌, ◌||◌, ℕ, Bool, true, false, not, nat_lt, List, [], ◌∷◌, length, map, Option, Some, None, refl, sym, ap, subst, ◌∙◌, inl, inr, if◌then◌else◌, eq-eqb, ne_eqb}
use Rattle.std.proofs.lemmas.Bool.{cases_eq, true≢false}
use Rattle.std.proofs.lemmas.Option.{same_Some}
use Rattle.osd_lists.specs.declared.node.Node.TheVariants as node
use Rattle.osd_commands.specs.declared.replies.Reply.{Reply}
use Rattle.server_rules.specs.declared.limits.TheConstants.{GREATEST_TAG}
use Rattle.server_rules.specs.Commands.{Creating, All, again_in_2, to_all}
use Rattle.server_rules.specs.Going.{Going, over, noting, with_components, rests_or, waits_on}
use Rattle.server_rules.specs.History.{Input, Hears}
use Rattle.server_rules.specs.Jobs.{making, is_made, fence_begins, waits_or_on, loses, declares, declared_in, is_target, others_than, targets}
use Rattle.server_rules.specs.Laws.{In, IsSafe, NoneBeside}
use Rattle.server_rules.specs.Maps.{group_with, pieces_in}
use Rattle.server_rules.specs.Messages.{Replies}
use Rattle.server_rules.specs.Openings.{is_unsettled, opens_made, opens_spent, opens_fenced, opens, is_still}
use Rattle.server_rules.specs.Replies.{Hearing, Older, Full, Done, Nothing, answers, hearing, others, renewed, renews, fills_up, heard_with, hears}
use Rattle.server_rules.specs.Standing.{lose_from, lose_on, any_on}
use Rattle.server_rules.proofs.Members.{in_front, in_behind, in_mapped, in_map, in_filtered, in_filter}
use Rattle.world_history.specs.ServerNames.{File, Drive, Effects, Grant, Awaited, Heard, Piece, Target, Job, JobKind, Making, Revoking, Work, Creates, Fences, Fetches, Stores, Targets, Gathers, Fills, Lengths, Checks, NoSpace, Phase, Still}
use Rattle.component_law.specs.Objects.{target_in, target_of}
use Rattle.relation_law.proofs.Places.{KeepPlaces, keep_here, keep_from, keep_on}
use Rattle.relation_law.proofs.Walk.{AtFill, place_behind, walk_audits, walk_repairs, walk_fills, walk_gone, walk_full, walk_fence, walk_waits}
use Rattle.headline_law.specs.TargetGoes.{IsLastReply, AreNext, Begun, Again, PastWritten, AsksAgain, Waits, IsSameStill}
use Rattle.headline_law.specs.TargetLaws.{IsAskedOrHeard}
use Rattle.headline_law.proofs.TargetWays.{Common, IsFree, Had, AtPlace, IsOld, Out, none_out, unaimed, target_cases}

-- a command asks what it asks
same_ask : (a : Awaited) → AsksAgain a a
same_ask a = record { component = refl; drive = refl; action = refl; object = refl; offset = refl; count = refl; payload = refl }

module _ (i : Input) (f : File) (safe : IsSafe f) (still : (t : Target) → target_of f.job ≡ Some t → f.kept.phase ≡ Still)
    (alone : (j : Job) → f.job ≡ Some j → (a b : Awaited) → In a j.awaited → In b j.awaited →
    a.command.nonce ≡ b.command.nonce → a ≡ b) where
  -- the file's map, tag and grants stay
  abbrev still_same : (g : Going) → g.file ≡ f → IsSameStill f.kept g.file.kept
  still_same g same = record {
    map = ap (λ (x : File). x.kept.map) same;
    high = ap (λ (x : File). x.kept.high) same;
    tag = ap (λ (x : File). x.kept.tag) same;
    phase = ap (λ (x : File). x.kept.phase) same;
  }

  common_kept : (g : Going) → KeepPlaces f.kept.components g.file.kept.components → Common i f g
  common_kept g keeps n b there = let x = keeps.on n b there in inl (x.0, x.1, x.2.object)

  common_here : (g : Going) → g.file ≡ f → Common i f g
  common_here g same =
      common_kept g (subst (λ (x : File). KeepPlaces f.kept.components x.kept.components) (sym same)
      (keep_here f.kept.components))

  -- the job is as it was
  pub here_out : (g : Going) → g.file ≡ f → Out i f g
  here_out g same l t runs aims =
      IsOld l (ap (λ (x : File). x.job) (sym same) ∙ runs) aims (still_same g same) (Waits (record {
        work = refl;
        awaited = λ b here. (b, here, same_ask b);
        asked = λ n x. x;
        present = λ u todo is. ap (λ (x : File). x.kept.components) same;
      }))

  -- the same but for a mark
  spent_out : (g : Going) → g.file ≡ f → Out i f (opens_spent g)
  spent_out g same l t runs aims =
      IsOld l (ap (λ (x : File). x.job) (sym same) ∙ runs) aims (still_same g same) (Waits (record {
        work = refl;
        awaited = λ b here. (b, here, same_ask b);
        asked = λ n x. x;
        present = λ u todo is. ap (λ (x : File). x.kept.components) same;
      }))

  pick : (b : Bool) (x y : Going) → Out i f x → Out i f y → Out i f (if b then x else y)
  pick true x y p q = p
  pick false x y p q = q

  -- ---- a fence, and an opening

  pub fence_out : (kind : JobKind) (format : ℕ) (g : Going) → g.file ≡ f → IsFree i f → Out i f (fence_begins kind format g)
  fence_out kind format g same free =
      walk_fence (AtPlace i f) (Out i f) (target_cases i f) kind format g (common_here g same, free)

  making_out : (g : Going) → Out i f (making g)
  unfolding making
  making_out g = by_asked (to_all g.file.kept All Creating g.effects.nonce)
    where
      by_asked : (ws : List Awaited) → Out i f (rests_or ws g Making Creates (is_made g))
      by_asked [] = none_out i f (is_made g) refl
      by_asked (c ∷ cs) = unaimed i f _ _ refl refl

  fenced_out : (format : ℕ) (g : Going) → g.file ≡ f → IsFree i f → Out i f (opens_fenced format g)
  unfolding opens_fenced
  fenced_out format g same free =
      pick (g.file.kept.tag == GREATEST_TAG) (opens_spent g) (fence_begins Revoking format g) (spent_out g same)
      (fence_out Revoking format g same free)

  pub opens_out : (g : Going) (format : ℕ) → g.file ≡ f → Out i f (opens format g)
  unfolding opens
  opens_out g format same = by_unsettled (is_unsettled g.file.kept) refl
    where
      by_ready : (b : Bool) → Out i f (opens_made g b)
      by_ready true = none_out i f (over g) refl
      by_ready false = making_out g

      free : is_unsettled g.file.kept ≡ true → IsFree i f
      free e u aim =
          by_job f.job refl safe.alone
        where
          by_job : (o : Option Job) → f.job ≡ o → NoneBeside o f.kept.grants → ⊥
          by_job None none x = cc (sym (ap target_of none) ∙ aim)
          by_job (Some j) runs none =
              true≢false (sym (ap (λ (x : File). is_unsettled x.kept) (sym same) ∙ e)
              ∙ (ap (λ (gs : List Grant). nat_lt 0 (length gs) || not (is_still f.kept.phase)) none
              ∙ ap (λ (p : Phase). not (is_still p)) (still u aim)))

      by_unsettled : (b : Bool) → is_unsettled g.file.kept ≡ b →
          Out i f (if b then opens_fenced format g else opens_made g g.file.kept.ready)
      by_unsettled true e = fenced_out format g same (free e)
      by_unsettled false e = by_ready g.file.kept.ready

  -- ---- a component is lost

  module _ (j : Job) (runs : f.job ≡ Some j) where
    free_by : (work : Work) → j.work ≡ work → target_in work ≡ None → IsFree i f
    free_by work is none u aim =
        cc (sym none ∙ sym (ap target_in is) ∙ sym (ap target_of runs) ∙ aim)

    abbrev had_by : (g : Going) → IsSameStill f.kept g.file.kept → (work : Work) (t : Target) → j.work ≡ work →
        target_in work ≡ Some t → Had i f g t
    had_by g same work t is to = record { job = j; runs = runs; aimed = ap target_in is ∙ to; still = same }

    module _ (h : Going) (keeps : KeepPlaces f.kept.components h.file.kept.components)
        (same : IsSameStill f.kept h.file.kept) (job : h.file.job ≡ Some j) where
      common : Common i f h
      common = common_kept h keeps

      -- it waits, or goes on at a place without a target
      waits_out : (work : Work) (rest : List Awaited) (heard : List Heard) → target_in work ≡ None →
          (rest ≡ [] → AtPlace i f (place_behind h.file.kept work heard) h) → Out i f (waits_or_on h j work rest heard)
      waits_out work rest heard none on =
          walk_waits (AtPlace i f) (Out i f) (target_cases i f) h j work rest heard
          (λ c cs e. unaimed i f _ (record { kind = j.kind; work = work; awaited = c ∷ cs; heard = heard }) refl none) on

      fill_at : (t : Target) (work : Work) (todo : List Piece) → j.work ≡ work → target_in work ≡ Some t →
          ((p : Piece) (qs : List Piece) → todo ≡ p ∷ qs → AreNext i f j t (p ∷ qs)) → AtPlace i f (AtFill t todo) h
      fill_at t work todo is to next = (common, (had_by h same work t is to, next))

      ended : (t : Target) (work : Work) → j.work ≡ work → target_in work ≡ Some t → AtPlace i f (AtFill t []) h
      ended t work is to = fill_at t work [] is to (λ p qs none. absurd (cc none))

      loses_out : (rest : List Awaited) (gone : Bool) (work : Work) → j.work ≡ work → Out i f (loses h j work rest gone)
      unfolding loses
      loses_out rest gone Creates is =
          waits_out Creates rest j.heard refl (λ none. (common, free_by Creates is refl))
      loses_out rest gone Fences is =
          waits_out Fences rest j.heard refl (λ none. (common, free_by Fences is refl))
      loses_out rest gone (Fetches todo short) is =
          walk_repairs (AtPlace i f) (Out i f) (target_cases i f) j.kind todo short h
          (common, free_by (Fetches todo short) is refl)
      loses_out rest gone (Stores [] short b) is =
          waits_out (Stores [] short true) rest j.heard refl (λ none. (common, free_by (Stores [] short b) is refl))
      loses_out rest gone (Stores (p ∷ ps) short b) is =
          waits_out (Stores (p ∷ ps) short true) rest j.heard refl
          (λ none. (common, free_by (Stores (p ∷ ps) short b) is refl))
      loses_out rest true (Targets t) is =
          walk_gone (AtPlace i f) (Out i f) (target_cases i f) t [] h (ended t (Targets t) is refl)
      loses_out rest false (Targets t) is = λ l u has aims.
          let one : j ≡ l = same_Some j l (sym job ∙ has) in
          IsOld j runs (ap (λ (x : Job). target_in x.work) one ∙ aims) same (Waits (record {
            work = ap (λ (x : Job). x.work) (sym one);
            awaited = λ b here. (b, subst (λ (x : Job). In b x.awaited) (sym one) here, same_ask b);
            asked = λ n x. subst (λ (y : Job). IsAskedOrHeard y n) one x;
            present = λ v todo wrong. absurd (cc (sym is ∙ wrong));
          }))
      loses_out rest true (Gathers t todo) is =
          walk_gone (AtPlace i f) (Out i f) (target_cases i f) t [] h (ended t (Gathers t todo) is refl)
      loses_out rest false (Gathers t todo) is =
          walk_fills (AtPlace i f) (Out i f) (target_cases i f) t todo h
          (fill_at t (Gathers t todo) todo is refl
          (λ p qs same_todo. Again (inl (is ∙ ap (Gathers t) same_todo))))
      loses_out rest true (Fills t todo) is =
          walk_gone (AtPlace i f) (Out i f) (target_cases i f) t [] h (ended t (Fills t todo) is refl)
      loses_out rest false (Fills t todo) is =
          walk_fills (AtPlace i f) (Out i f) (target_cases i f) t todo h
          (fill_at t (Fills t todo) todo is refl (λ p qs same_todo. Again (inr (is ∙ ap (Fills t) same_todo))))
      loses_out rest gone Lengths is =
          waits_out Lengths rest j.heard refl (λ none. (common, free_by Lengths is refl))
      loses_out rest gone (Checks todo tally) is =
          walk_audits (AtPlace i f) (Out i f) (target_cases i f) todo tally h (common, free_by (Checks todo tally) is refl)

  pub declares_out : (g : Going) (drive : ℕ) → g.file ≡ f → Out i f (declares g drive)
  unfolding declares
  declares_out g drive same =
      pick (any_on drive g.file.kept.components || targets g.file.job drive) (declared_in h drive g.file.job) g
      (by_job g.file.job refl) (here_out g same)
    where
      h : Going
      h = with_components g (lose_on drive g.file.kept.components)

      keeps : KeepPlaces f.kept.components (lose_on drive g.file.kept.components)
      keeps =
          subst (λ (x : File). KeepPlaces x.kept.components (lose_on drive g.file.kept.components)) same
          (keep_on drive g.file.kept.components)

      kept : IsSameStill f.kept h.file.kept
      kept = let x = still_same g same in record { map = x.map; high = x.high; tag = x.tag; phase = x.phase }

      by_job : (o : Option Job) → g.file.job ≡ o → Out i f (declared_in h drive o)
      by_job None is = none_out i f h is
      by_job (Some j) is =
          loses_out j (ap (λ (x : File). x.job) (sym same) ∙ is) h keeps kept is (others_than drive j.awaited)
          (is_target j.work drive) j.work refl

  -- ---- a reply

  module _ (m : Effects) (ds : List Drive) (chosen : List ℕ) (now drive : ℕ) (r : Reply)
      (it : i ≡ Hears now (node.Drive drive) (Replies r)) (j : Job) (runs : f.job ≡ Some j) (a : Awaited)
      (awaits : In a j.awaited) (answer : answers drive r a ≡ true) where
    abbrev g : Going
    g = record { file = f; effects = m; drives = ds; chosen = chosen }

    b : Awaited
    b = again_in_2 a m.nonce

    -- a command that goes out again
    is_again : (t : Bool) (y : Awaited) → In y j.awaited →
        (c : Awaited) × In c j.awaited × AsksAgain c (if t then again_in_2 a m.nonce else y)
    is_again true y here = (
      a,
      awaits,
      record {
        component = refl;
        drive = refl;
        action = refl;
        object = refl;
        offset = refl;
        count = refl;
        payload = refl;
      },
    )
    is_again false y here = (y, here, same_ask y)

    its_component : (y : Awaited) → In y j.awaited → (renewed a (again_in_2 a m.nonce) y).component ≡ y.component
    its_component y here = elim (cases_eq y.command.nonce a.command.nonce) [
      | inl same ↦
          let one : y ≡ a = alone j runs y a here awaits same in
          rw (eq-eqb y.command.nonce a.command.nonce same) (ap (λ (x : Awaited). x.component) (sym one))
      | inr other ↦ rw (ne_eqb y.command.nonce a.command.nonce other) refl
    ]

    renewed_out : Out i f (renews g j a)
    renewed_out l t has aims =
        let one : record j { awaited = map (renewed a (again_in_2 a m.nonce)) j.awaited } ≡ l = same_Some _ l has in
        IsOld j runs (ap (λ (x : Job). target_in x.work) one ∙ aims)
        (record { map = refl; high = refl; tag = refl; phase = refl }) (Waits (record {
          work = ap (λ (x : Job). x.work) (sym one);
          awaited = λ c here.
              let x = in_mapped (renewed a (again_in_2 a m.nonce)) c j.awaited
              (subst (λ (y : Job). In c y.awaited) (sym one) here) in
              let z = is_again (x.0.command.nonce == a.command.nonce) x.0 x.1 in
              (z.0, z.1, subst (AsksAgain z.0) (sym x.2) z.2);
          asked = λ n x. subst (λ (y : Job). IsAskedOrHeard y n) one (elim x [
            | inl c ↦ inl (
              renewed a (again_in_2 a m.nonce) c.0,
              in_map (renewed a (again_in_2 a m.nonce)) c.0 j.awaited c.1,
              its_component c.0 c.1 ∙ c.2,
            )
            | inr c ↦ inr c
          ]);
          present = λ u todo is. refl;
        }))

    -- a component lacks space
    abbrev lacks : Going
    lacks = noting (with_components g (lose_from (a.component ∷ []) f.kept.components 0)) (NoSpace a.component)

    lacks_out : (work : Work) → j.work ≡ work → Out i f (loses lacks j work (others j.awaited a.command.nonce) false)
    lacks_out work is =
        loses_out j runs lacks (keep_from (a.component ∷ []) f.kept.components 0)
        (record { map = refl; high = refl; tag = refl; phase = refl }) runs (others j.awaited a.command.nonce) false work is

    at_end : (t : Target) (work : Work) → j.work ≡ work → target_in work ≡ Some t → AtPlace i f (AtFill t []) g
    at_end t work is to =
        ended j runs g (keep_here f.kept.components) (still_same g refl) runs t work is to

    full_out : (work : Work) → j.work ≡ work → Out i f (fills_up g j a work)
    full_out (Targets t) is =
        walk_full (AtPlace i f) (Out i f) (target_cases i f) t [] g (at_end t (Targets t) is refl)
    full_out (Gathers t todo) is =
        walk_full (AtPlace i f) (Out i f) (target_cases i f) t [] g (at_end t (Gathers t todo) is refl)
    full_out (Fills t todo) is =
        walk_full (AtPlace i f) (Out i f) (target_cases i f) t [] g (at_end t (Fills t todo) is refl)
    full_out Creates is = lacks_out Creates is
    full_out Fences is = lacks_out Fences is
    full_out (Fetches todo short) is = lacks_out (Fetches todo short) is
    full_out (Stores todo short q) is = lacks_out (Stores todo short q) is
    full_out Lengths is = lacks_out Lengths is
    full_out (Checks todo t) is = lacks_out (Checks todo t) is

    module _ (done : hearing f.kept a r ≡ Done) where
      -- it waits for the rest
      rest_out : (c : Awaited) (cs : List Awaited) → others j.awaited a.command.nonce ≡ c ∷ cs →
          Out i f (waits_on g j j.work c cs (heard_with j a r))
      rest_out c cs is l t has aims =
          let one : record { kind = j.kind; work = j.work; awaited = c ∷ cs; heard = heard_with j a r } ≡ l =
          same_Some _ l has in
          IsOld j runs (ap (λ (x : Job). target_in x.work) one ∙ aims) (still_same g refl) (Waits (record {
            work = ap (λ (x : Job). x.work) (sym one);
            awaited = λ d here.
                let x = in_filtered (λ (y : Awaited). not (y.command.nonce == a.command.nonce)) d j.awaited
                (subst (In d) (sym is) (subst (λ (y : Job). In d y.awaited) (sym one) here)) in (d, x.0, same_ask d);
            asked = λ n x. subst (λ (y : Job). IsAskedOrHeard y n) one (elim x [
              | inl d ↦ elim (cases_eq d.0.command.nonce a.command.nonce) [
                | inl same ↦
                    let own : d.0 ≡ a = alone j runs d.0 a d.1 awaits same in
                    inr (
                      record { component = a.component; payload = r.payload },
                      in_behind _ j.heard _ (inl refl),
                      ap (λ (y : Awaited). y.component) (sym own) ∙ d.2,
                    )
                | inr other ↦ inl (
                  d.0,
                  subst (In d.0) is (in_filter (λ (y : Awaited). not (y.command.nonce == a.command.nonce)) d.0 j.awaited
                      d.1 (ap not (ne_eqb d.0.command.nonce a.command.nonce other))),
                  d.2,
                )
              ]
              | inr d ↦ inr (d.0, in_front d.0 j.heard _ d.1, d.2)
            ]);
            present = λ u todo e. refl;
          }))

      module _ (none : others j.awaited a.command.nonce ≡ []) where
        abbrev last : IsLastReply i f j
        last = record {
          now = now;
          drive = drive;
          reply = r;
          awaited = a;
          hears = it;
          awaits = awaits;
          answer = answer;
          is_done = done;
          last = none;
        }

        here : Common i f g
        here = common_here g refl

        fill : (t : Target) (work : Work) (todo : List Piece) → j.work ≡ work → target_in work ≡ Some t →
            ((p : Piece) (qs : List Piece) → todo ≡ p ∷ qs → AreNext i f j t (p ∷ qs)) → AtPlace i f (AtFill t todo) g
        fill t work todo is to next = (here, (had_by j runs g (still_same g refl) work t is to, next))

        goes_on : (work : Work) → j.work ≡ work → AtPlace i f (place_behind f.kept work (heard_with j a r)) g
        goes_on Creates is = (here, free_by j runs Creates is refl)
        goes_on Fences is = (here, free_by j runs Fences is refl)
        goes_on (Fetches [] short) is = (here, free_by j runs (Fetches [] short) is refl)
        goes_on (Fetches (p ∷ ps) short) is = (here, free_by j runs (Fetches (p ∷ ps) short) is refl)
        goes_on (Stores [] short q) is = (here, free_by j runs (Stores [] short q) is refl)
        goes_on (Stores (p ∷ ps) short true) is = (here, free_by j runs (Stores (p ∷ ps) short true) is refl)
        goes_on (Stores (p ∷ ps) short false) is = (here, free_by j runs (Stores (p ∷ ps) short false) is refl)
        goes_on (Targets t) is =
            fill t (Targets t) (pieces_in f.kept.map (group_with f.kept.map t.component) f.kept.high) is refl
            (λ p qs all. Begun is (sym all) last)
        goes_on (Gathers t []) is = fill t (Gathers t []) [] is refl (λ p qs e. absurd (cc e))
        goes_on (Gathers t (p ∷ ps)) is =
            (here, (had_by j runs g (still_same g refl) (Gathers t (p ∷ ps)) t is refl, is, refl, (last, refl)))
        goes_on (Fills t []) is = fill t (Fills t []) [] is refl (λ p qs e. absurd (cc e))
        goes_on (Fills t (p ∷ ps)) is =
            fill t (Fills t (p ∷ ps)) ps is refl
            (λ q qs e. PastWritten p (is ∙ ap (λ (xs : List Piece). Fills t (p ∷ xs)) e) last)
        goes_on Lengths is = (here, free_by j runs Lengths is refl)
        goes_on (Checks [] tally) is = (here, free_by j runs (Checks [] tally) is refl)
        goes_on (Checks (p ∷ ps) tally) is = (here, free_by j runs (Checks (p ∷ ps) tally) is refl)

    pub hears_out : (x : Hearing) → hearing f.kept a r ≡ x → Out i f (hears g j a r x)
    hears_out Older e = renewed_out
    hears_out Full e = full_out j.work refl
    hears_out Done e =
        walk_waits (AtPlace i f) (Out i f) (target_cases i f) g j j.work (others j.awaited a.command.nonce)
        (heard_with j a r) (rest_out e) (λ none. goes_on e none j.work refl)
    hears_out Nothing e = here_out g refl
