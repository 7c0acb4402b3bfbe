-- What a step of the server makes of the target of a file's job.
use Rattle.std.proofs.Common.{◌≡◌, ◌==◌, ◌||◌, ℕ, Bool, true, false, List, [], ◌∷◌, filter, map, Option, Some, None, refl, sym, ap, subst, ◌∙◌, inl, inr, if◌then◌else◌}
use Rattle.std.proofs.lemmas.Option.{same_Some}
use Rattle.osd_lists.specs.declared.node.Node.TheVariants.{Drive as FromDrive}
use Rattle.server_rules.specs.declared.limits.TheConstants.{GREATEST_TAG}
use Rattle.server_rules.specs.Commands.{again_in_2}
use Rattle.server_rules.specs.Files.{file_at, at_file}
use Rattle.server_rules.specs.Going.{Going, noting, with_components, waits_on}
use Rattle.server_rules.specs.History.{Input, Hears, step}
use Rattle.server_rules.specs.Jobs.{making, fence_begins, loses, declares, declared_in, is_target, targets}
use Rattle.server_rules.specs.Laws.{In}
use Rattle.server_rules.specs.Maps.{pieces_in}
use Rattle.server_rules.specs.Messages.{Replies}
use Rattle.server_rules.specs.Openings.{crashed_file, is_unsettled, opens_made, opens_fenced, opens}
use Rattle.server_rules.specs.Rebuild.{made, group_for}
use Rattle.server_rules.specs.Replies.{Hearing, Older, Full, Done, Nothing, answers, hearing, others, renewed, renews, fills_up, heard_with, hears}
use Rattle.server_rules.specs.Standing.{any_on, lose_on, lose_from}
use Rattle.server_rules.proofs.FileLaws.{number_at}
use Rattle.server_rules.proofs.Runs.{ran_making}
use Rattle.history_law.specs.Names.{Server, File, Drive, Effects, Component, Awaited, Heard, Piece, Target, Job, JobKind, Revoking, Work, Creates, Fences, Fetches, Stores, Targets, Gathers, Fills, Lengths, Checks, NoSpace, Reply}
use Rattle.history_law.proofs.Hearing.{found_in}
use Rattle.component_law.specs.Distinct.{AreDistinct}
use Rattle.history_law.proofs.Files.{in_at}
use Rattle.component_law.specs.Objects.{target_in, target_of}
use Rattle.server_rules.specs.Making.{with_file}
use Rattle.relation_law.specs.Owning.{Coming}
use Rattle.relation_law.proofs.Places.{KeepPlaces}
use Rattle.relation_law.proofs.TargetWalk.{IsOne, IsOfZeros, NoneComes, IsAimed, AllOld, OldOrRebuilt, all_old, WritesOne, PlaceMakes, Remakes, no_job, make_cases}
use Rattle.relation_law.proofs.Walk.{AtFill, place_behind, lost_place, broken, walk_loses, walk_fence, walk_making, walk_gone, walk_full, walk_waits}
use Rattle.relation_law.proofs.Ways.{IsAlike, alike_spent, FileWays, alike_lacks, alike_lost}
use Rattle.relation_law.proofs.WaysSteps.{files_go}

-- ---- what is asked before a step

-- where a rebuild has no piece to do any more, nothing comes to its target
abbrev pub EndsClear : Coming → File → Work → Type 0
EndsClear C f (Targets t) = pieces_in f.kept.map (group_for f.kept t) f.kept.high ≡ [] → NoneComes C f t
EndsClear C f (Gathers t todo) = todo ≡ [] → NoneComes C f t
EndsClear C f (Fills t todo) = todo ≡ [] → NoneComes C f t
EndsClear C f work = Unit {0}

-- nor where its last piece is written, or read and of zeros, as the answer to the awaited command says
abbrev pub LastClear : Coming → File → Job → Awaited → Reply → Work → Type 0
LastClear C f j a r (Gathers t (p ∷ ps)) =
    others j.awaited a.command.nonce ≡ [] → IsOfZeros p (made f.kept t p (heard_with j a r)) → ps ≡ [] → NoneComes C f t
LastClear C f j a r (Fills t (p ∷ ps)) = ps ≡ [] → NoneComes C f t
LastClear C f j a r work = Unit {0}

-- what is so of a file before a step
pub record IsPrepared (C : Coming) (i : Input) (f : File) : Type 0 where
  pub one : (j : Job) (t : Target) (todo : List Piece) → f.job ≡ Some j → j.work ≡ Fills t todo → IsOne j.awaited
  pub ends : (j : Job) → f.job ≡ Some j → EndsClear C f j.work
  pub last : (now drive : ℕ) (r : Reply) (j : Job) (a : Awaited) → i ≡ Hears now (FromDrive drive) (Replies r) →
      f.job ≡ Some j → In a j.awaited → answers drive r a ≡ true → hearing f.kept a r ≡ Done →
      LastClear C f j a r j.work

-- a piece, where it doesn't matter which
no_piece : Piece
no_piece = record { stripe = 0; column = 0; count = 0 }

filtered_one : (p : Awaited → Bool) (a c : Awaited) (cs : List Awaited) → filter p (a ∷ []) ≡ c ∷ cs → cs ≡ []
filtered_one p a c cs e = by_test (p a) e
  where
    by_test : (b : Bool) → (if b then a ∷ [] else []) ≡ c ∷ cs → cs ≡ []
    by_test true x = cc (sym x)
    by_test false x = absurd (cc x)

module _ (C : Coming) (i : Input) (f : File) (ready : IsPrepared C i f) where
  -- ---- the file as it is

  old_here : (g : Going) → g.file ≡ f → AllOld C f g.file.kept.components
  old_here g same =
      subst (λ (y : File). AllOld C f y.kept.components) (sym same) (λ k at there stands. (at, there, refl))

  old_kept : (cs ds : List Component) → KeepPlaces cs ds → AllOld C f cs → AllOld C f ds
  old_kept cs ds keeps old k at there stands =
      let was = keeps.back k at there in
      let o = old k was.0 was.1 (was.2.missing stands) in
      (o.0, o.1, o.2 ∙ sym was.2.object)

  writes_one : WritesOne C f f.job
  writes_one j t todo runs is = (ap target_of runs ∙ ap target_in is, ready.one j t todo runs is)

  here : (g : Going) → g.file ≡ f → Remakes C f g
  here g same = (
    all_old C f g.file.kept.phase g.file.kept.components (old_here g same),
    subst (λ (o : Option Job). WritesOne C f o) (sym (ap (λ (y : File). y.job) same)) writes_one,
  )

  alike : (g h : Going) → IsAlike g h → Remakes C f g → Remakes C f h
  alike g h a m = (
    λ k at there stands.
        let was = a.places.back k at there in
        elim (m.0 k was.0 was.1 (was.2.missing stands)) [
          | inl old ↦ inl (old.0, old.1, old.2 ∙ sym was.2.object)
          | inr new ↦ inr (record {
            none = λ x comes object.
                new.none x (subst (λ (d : ℕ). C d x) was.2.drive comes) (object ∙ was.2.object);
            target = new.target;
            aimed = (new.aimed.0, a.phase ∙ new.aimed.1);
          })
        ],
    subst (λ (o : Option Job). WritesOne C f o) (sym a.job) m.1,
  )

  -- ---- a fence, an opening, and a crash

  fence : (kind : JobKind) (format : ℕ) (g : Going) → AllOld C f g.file.kept.components →
      Remakes C f (fence_begins kind format g)
  fence kind format g old = walk_fence (PlaceMakes C f) (Remakes C f) (make_cases C f) kind format g old

  opening : (g : Going) (format : ℕ) → g.file ≡ f → Remakes C f (opens format g)
  unfolding opens opens_fenced
  opening g format same =
      pick (is_unsettled g.file.kept) _ _
      (pick (g.file.kept.tag == GREATEST_TAG) _ _ (alike g _ (alike_spent g) (here g same))
      (fence Revoking format g (old_here g same)))
      (by_ready g.file.kept.ready)
    where
      pick : (b : Bool) (x y : Going) → Remakes C f x → Remakes C f y → Remakes C f (if b then x else y)
      pick true x y p q = p
      pick false x y p q = q

      by_ready : (b : Bool) → Remakes C f (opens_made g b)
      by_ready true = (all_old C f g.file.kept.phase g.file.kept.components (old_here g same), no_job C f)
      by_ready false = walk_making (PlaceMakes C f) (Remakes C f) (make_cases C f) g (old_here g same)

  crash : (g : Going) → g.file ≡ crashed_file f → Remakes C f g
  crash g same =
      subst (λ (y : File). OldOrRebuilt C f y.kept.phase y.kept.components × WritesOne C f y.job) (sym same)
      (all_old C f f.kept.phase f.kept.components (λ k at there stands. (at, there, refl)), no_job C f)

  -- ---- a job

  module _ (j : Job) (runs : f.job ≡ Some j) where
    aimed : (t : Target) (work : Work) → j.work ≡ work → target_in work ≡ Some t → IsAimed C f f.kept.phase t
    aimed t work is to = (ap target_of runs ∙ ap target_in is ∙ to, refl)

    ends : (work : Work) → j.work ≡ work → EndsClear C f work
    ends work is = subst (EndsClear C f) is (ready.ends j runs)

    module _ (h : Going) (old : AllOld C f h.file.kept.components) (phase : h.file.kept.phase ≡ f.kept.phase) where
      -- the job waits on for some of what it awaited
      waits : (p : Awaited → Bool) (work : Work) (c : Awaited) (cs : List Awaited) (heard : List Heard) →
          filter p j.awaited ≡ c ∷ cs → ((t : Target) (todo : List Piece) → work ≡ Fills t todo → j.work ≡ Fills t todo) →
          Remakes C f (waits_on h j work c cs heard)
      waits p work c cs heard e same = (
        all_old C f h.file.kept.phase h.file.kept.components old,
        λ k t todo it is.
            let own : record { kind = j.kind; work = work; awaited = c ∷ cs; heard = heard } ≡ k = same_Some _ k it in
            let fill : j.work ≡ Fills t todo = same t todo (ap (λ (y : Job). y.work) own ∙ is) in
            let one = ready.one j t todo runs fill in
            let none : cs ≡ [] = filtered_one p one.0 c cs (ap (filter p) (sym one.1) ∙ e) in (
              ap target_of runs ∙ ap target_in fill,
              (c, sym (ap (λ (y : Job). y.awaited) own) ∙ ap (λ (ws : List Awaited). c ∷ ws) none),
            ),
      )

      still_old : OldOrRebuilt C f h.file.kept.phase h.file.kept.components
      still_old = all_old C f h.file.kept.phase h.file.kept.components old

      at : (t : Target) (work : Work) → j.work ≡ work → target_in work ≡ Some t → IsAimed C f h.file.kept.phase t
      at t work is to = ((aimed t work is to).0, phase)

      -- the target is given up
      full : (t : Target) (work : Work) → j.work ≡ work → target_in work ≡ Some t →
          PlaceMakes C f (AtFill t (no_piece ∷ [])) h
      full t work is to = (still_old, at t work is to, λ none. absurd (cc none))

      module _ (p : Awaited → Bool) (gone : Bool) (stays : Remakes C f h) where
        fills_same : (work : Work) (t : Target) (todo : List Piece) → broken work ≡ Fills t todo → work ≡ Fills t todo
        fills_same Creates t todo e = e
        fills_same Fences t todo e = e
        fills_same (Fetches ps short) t todo e = e
        fills_same (Stores ps short b) t todo e = absurd (cc e)
        fills_same (Targets u) t todo e = e
        fills_same (Gathers u ps) t todo e = e
        fills_same (Fills u ps) t todo e = e
        fills_same Lengths t todo e = e
        fills_same (Checks ps tally) t todo e = e

        walked : (work : Work) → j.work ≡ work → PlaceMakes C f (lost_place h.file.kept work) h →
            Remakes C f (loses h j work (filter p j.awaited) gone)
        walked work is q =
            walk_loses (PlaceMakes C f) (Remakes C f) (make_cases C f) h j work (filter p j.awaited) gone is (record {
              waits = λ c cs e. waits p (broken j.work) c cs j.heard e (fills_same j.work);
              stays = stays;
              on = λ none. subst (λ (y : Work). PlaceMakes C f (lost_place h.file.kept y) h) (sym is) q;
            })

        lost_target : (t : Target) (b : Bool) → j.work ≡ Targets t →
            Remakes C f (loses h j (Targets t) (filter p j.awaited) b)
        unfolding loses
        lost_target t true is =
            walk_gone (PlaceMakes C f) (Remakes C f) (make_cases C f) t (no_piece ∷ []) h (full t (Targets t) is refl)
        lost_target t false is = stays

        -- a component is lost, or the target
        lost : (work : Work) → j.work ≡ work → Remakes C f (loses h j work (filter p j.awaited) gone)
        lost Creates is = walked Creates is old
        lost Fences is = walked Fences is old
        lost (Fetches todo short) is = walked (Fetches todo short) is old
        lost (Stores todo short b) is = walked (Stores todo short b) is old
        lost (Targets t) is = lost_target t gone is
        lost (Gathers t todo) is =
            walked (Gathers t todo) is (still_old, at t (Gathers t todo) is refl, ends (Gathers t todo) is)
        lost (Fills t todo) is =
            walked (Fills t todo) is (still_old, at t (Fills t todo) is refl, ends (Fills t todo) is)
        lost Lengths is = walked Lengths is old
        lost (Checks todo tally) is = walked (Checks todo tally) is old

  -- ---- a reply

  module _ (m : Effects) (ds : List Drive) (chosen : List ℕ) (now drive : ℕ) (r : Reply)
      (it : i ≡ Hears now (FromDrive drive) (Replies r)) (j : Job) (runs : f.job ≡ Some j) (a : Awaited)
      (awaits : In a j.awaited) (answer : answers drive r a ≡ true) where
    abbrev g : Going
    g = record { file = f; effects = m; drives = ds; chosen = chosen }

    old : AllOld C f f.kept.components
    old = old_here g refl

    renewed_makes : Remakes C f (renews g j a)
    renewed_makes = (
      all_old C f f.kept.phase f.kept.components old,
      λ k t todo same is.
          let own : record j { awaited = map (renewed a (again_in_2 a m.nonce)) j.awaited } ≡ k = same_Some _ k same in
          let fill : j.work ≡ Fills t todo = ap (λ (y : Job). y.work) own ∙ is in
          let one = ready.one j t todo runs fill in (
            ap target_of runs ∙ ap target_in fill,
            (
              renewed a (again_in_2 a m.nonce) one.0,
              sym (ap (λ (y : Job). y.awaited) own) ∙ ap (map (renewed a (again_in_2 a m.nonce))) one.1,
            ),
          ),
    )

    -- a component lacks space
    abbrev lacks : Going
    lacks = noting (with_components g (lose_from (a.component ∷ []) f.kept.components 0)) (NoSpace a.component)

    lacks_alike : IsAlike g lacks
    lacks_alike = alike_lacks g a.component

    lacks_makes : (work : Work) → j.work ≡ work → Remakes C f (loses lacks j work (others j.awaited a.command.nonce) false)
    lacks_makes work is =
        lost j runs lacks (old_kept f.kept.components lacks.file.kept.components lacks_alike.places old) refl _ false
        (alike g lacks lacks_alike (here g refl)) work is

    full_makes : (work : Work) → j.work ≡ work → Remakes C f (fills_up g j a work)
    full_makes (Targets t) is =
        walk_full (PlaceMakes C f) (Remakes C f) (make_cases C f) t (no_piece ∷ []) g
        (full j runs g old refl t (Targets t) is refl)
    full_makes (Gathers t todo) is =
        walk_full (PlaceMakes C f) (Remakes C f) (make_cases C f) t (no_piece ∷ []) g
        (full j runs g old refl t (Gathers t todo) is refl)
    full_makes (Fills t todo) is =
        walk_full (PlaceMakes C f) (Remakes C f) (make_cases C f) t (no_piece ∷ []) g
        (full j runs g old refl t (Fills t todo) is refl)
    full_makes Creates is = lacks_makes Creates is
    full_makes Fences is = lacks_makes Fences is
    full_makes (Fetches todo short) is = lacks_makes (Fetches todo short) is
    full_makes (Stores todo short b) is = lacks_makes (Stores todo short b) is
    full_makes Lengths is = lacks_makes Lengths is
    full_makes (Checks todo t) is = lacks_makes (Checks todo t) is

    -- the job goes on
    module _ (is_done : hearing f.kept a r ≡ Done) (none : others j.awaited a.command.nonce ≡ []) where
      last : (work : Work) → j.work ≡ work → LastClear C f j a r work
      last work is = subst (LastClear C f j a r) is (ready.last now drive r j a it runs awaits answer is_done)

      behind : (work : Work) → j.work ≡ work → PlaceMakes C f (place_behind f.kept work (heard_with j a r)) g
      behind Creates is = old
      behind Fences is = old
      behind (Fetches [] short) is = old
      behind (Fetches (p ∷ ps) short) is = old
      behind (Stores [] short b) is = old
      behind (Stores (p ∷ ps) short true) is = old
      behind (Stores (p ∷ ps) short false) is = old
      behind (Targets t) is =
          (still_old j runs g old refl, at j runs g old refl t (Targets t) is refl, ends j runs (Targets t) is)
      behind (Gathers t []) is =
          (still_old j runs g old refl, at j runs g old refl t (Gathers t []) is refl, ends j runs (Gathers t []) is)
      behind (Gathers t (p ∷ ps)) is = (
        still_old j runs g old refl,
        at j runs g old refl t (Gathers t (p ∷ ps)) is refl,
        last (Gathers t (p ∷ ps)) is none,
      )
      behind (Fills t []) is =
          (still_old j runs g old refl, at j runs g old refl t (Fills t []) is refl, ends j runs (Fills t []) is)
      behind (Fills t (p ∷ ps)) is = (
        still_old j runs g old refl,
        at j runs g old refl t (Fills t (p ∷ ps)) is refl,
        last (Fills t (p ∷ ps)) is,
      )
      behind Lengths is = old
      behind (Checks [] tally) is = old
      behind (Checks (p ∷ ps) tally) is = old

    heard_makes : (x : Hearing) → hearing f.kept a r ≡ x → Remakes C f (hears g j a r x)
    heard_makes Older e = renewed_makes
    heard_makes Full e = full_makes j.work refl
    heard_makes Done e =
        walk_waits (PlaceMakes C f) (Remakes C f) (make_cases C f) g j j.work (others j.awaited a.command.nonce)
        (heard_with j a r)
        (λ c cs is. waits j runs g old refl _ j.work c cs (heard_with j a r) is (λ t todo same. same))
        (λ none. behind e none j.work refl)
    heard_makes Nothing e = here g refl

  -- ---- a declaration

  declaring : (g : Going) (drive : ℕ) → g.file ≡ f → Remakes C f (declares g drive)
  unfolding declares
  declaring g drive same =
      pick (any_on drive g.file.kept.components || targets g.file.job drive) (declared_in h drive g.file.job) g
      (by_job g.file.job refl) (here g same)
    where
      pick : (b : Bool) (x y : Going) → Remakes C f x → Remakes C f y → Remakes C f (if b then x else y)
      pick true x y p q = p
      pick false x y p q = q

      h : Going
      h = with_components g (lose_on drive g.file.kept.components)

      lost_alike : IsAlike g h
      lost_alike = alike_lost g drive

      here_lost : Remakes C f h
      here_lost = alike g h lost_alike (here g same)

      by_job : (o : Option Job) → g.file.job ≡ o → Remakes C f (declared_in h drive o)
      by_job None is = here_lost
      by_job (Some j) is =
          lost j (ap (λ (y : File). y.job) (sym same) ∙ is) h
          (old_kept g.file.kept.components h.file.kept.components lost_alike.places (old_here g same))
          (ap (λ (y : File). y.kept.phase) same) _ (is_target j.work drive) here_lost j.work refl

-- ---- a step

abbrev pub Prepares : Coming → Input → File → Going → Type 0
Prepares C i f g = IsPrepared C i f → Remakes C f g

-- a file that is made wasn't there, and no rebuild of it writes
abbrev IsMade : Server → File → Type 0
IsMade s g =
    (file_at s.files g.kept.number ≡ None)
    × ((j : Job) (t : Target) (todo : List Piece) → g.job ≡ Some j → j.work ≡ Fills t todo → ⊥)

make_ways : (C : Coming) (s : Server) (chosen : List ℕ) (i : Input) → FileWays s chosen i (Prepares C i) (IsMade s)
make_ways C s chosen i = record {
  stays = λ f g j same ready. here C i f ready g same;
  alike = λ f g h a p ready. alike C i f ready g h a (p ready);
  heard = λ x is ready.
      let found = found_in (answers x.drive x.reply) x.job.awaited x.awaited is.awaits in
      heard_makes C i x.file ready (at_file s chosen x.file).effects s.drives chosen x.now x.drive x.reply is.is x.job
      is.runs x.awaited found.0 found.1 (hearing x.file.kept x.awaited x.reply) refl;
  fenced = λ f g kind format j same ready. fence C i f ready kind format g (old_here C i f ready g same);
  declared = λ f g drive j same ready. declaring C i f ready g drive same;
  crashed = λ f g j same ready. crash C i f ready g same;
  opened = λ f g format j same ready. opening C i f ready g format same;
  made = λ f there none. (
    ap (file_at s.files) (ran_making (at_file (with_file s f) [] f)).number ∙ there,
    λ j t todo runs is.
        let m : Remakes C f (making (at_file (with_file s f) [] f)) =
        walk_making (PlaceMakes C f) (Remakes C f) (make_cases C f) (at_file (with_file s f) [] f)
        (λ k at place stands. (at, place, refl)) in
        cc (sym (m.1 j t todo runs is).0 ∙ ap target_of none),
  );
}

-- What a file has become behind a step: each present component is old, or nothing comes to it; and where its job writes to a
-- target, that was its target before, and one command is awaited.
pub targets_go : (C : Coming) (s : Server) (chosen : List ℕ) (i : Input) → AreDistinct s.files → (n : ℕ) (f g : File) →
    file_at s.files n ≡ Some f → file_at (step s chosen i).state.files n ≡ Some g → IsPrepared C i f →
    OldOrRebuilt C f g.kept.phase g.kept.components × WritesOne C f g.job
targets_go C s chosen i apart n f g there behind ready =
    elim (files_go s chosen i (Prepares C i) (IsMade s) (make_ways C s chosen i) apart n g behind) [
      | inl x ↦
          let same : x.before ≡ f = same_Some x.before f (sym x.there ∙ there) in
          let so : Remakes C f x.going =
          subst (λ (y : File). Remakes C y x.going) same (x.so (subst (IsPrepared C i) (sym same) ready)) in
          subst (λ (y : File). OldOrRebuilt C f y.kept.phase y.kept.components × WritesOne C f y.job) x.is so
      | inr new ↦
          absurd (cc (sym there ∙ ap (file_at s.files) (sym (number_at (step s chosen i).state.files n g behind)) ∙ new.0))
    ]

-- ---- where nothing comes

abbrev nothing : Coming
nothing drive x = ⊥

nothing_ends : (f : File) (work : Work) → EndsClear nothing f work
nothing_ends f Creates = tt
nothing_ends f Fences = tt
nothing_ends f (Fetches todo short) = tt
nothing_ends f (Stores todo short b) = tt
nothing_ends f (Targets t) = λ e x comes. absurd comes
nothing_ends f (Gathers t todo) = λ e x comes. absurd comes
nothing_ends f (Fills t todo) = λ e x comes. absurd comes
nothing_ends f Lengths = tt
nothing_ends f (Checks todo t) = tt

nothing_last : (f : File) (j : Job) (a : Awaited) (r : Reply) (work : Work) → LastClear nothing f j a r work
nothing_last f j a r Creates = tt
nothing_last f j a r Fences = tt
nothing_last f j a r (Fetches todo short) = tt
nothing_last f j a r (Stores todo short b) = tt
nothing_last f j a r (Targets t) = tt
nothing_last f j a r (Gathers t []) = tt
nothing_last f j a r (Gathers t (p ∷ ps)) = λ none zeros e x comes. absurd comes
nothing_last f j a r (Fills t []) = tt
nothing_last f j a r (Fills t (p ∷ ps)) = λ e x comes. absurd comes
nothing_last f j a r Lengths = tt
nothing_last f j a r (Checks todo t) = tt

-- Where a rebuild writes behind a step, it made that target before, and one command is awaited.
pub fills_go : (s : Server) (chosen : List ℕ) (i : Input) → AreDistinct s.files →
    ((f : File) → In f s.files → (j : Job) (t : Target) (todo : List Piece) → f.job ≡ Some j → j.work ≡ Fills t todo →
    IsOne j.awaited) → (n : ℕ) (g : File) → file_at (step s chosen i).state.files n ≡ Some g →
    (j : Job) (t : Target) (todo : List Piece) → g.job ≡ Some j → j.work ≡ Fills t todo →
    (f : File) × (file_at s.files n ≡ Some f) × (target_of f.job ≡ Some t) × IsOne j.awaited
fills_go s chosen i apart one n g behind j t todo runs is =
    elim (files_go s chosen i (Prepares nothing i) (IsMade s) (make_ways nothing s chosen i) apart n g behind) [
      | inl x ↦
          let ready : IsPrepared nothing i x.before = record {
            one = one x.before (in_at s.files n x.before x.there);
            ends = λ k e. nothing_ends x.before k.work;
            last = λ now drive r k a e e1 e2 e3 e4. nothing_last x.before k a r k.work;
          } in
          let r = (x.so ready).1 j t todo (ap (λ (y : File). y.job) x.is ∙ runs) is in
          (x.before, x.there, r.0, r.1)
      | inr new ↦ absurd (new.1 j t todo runs is)
    ]
