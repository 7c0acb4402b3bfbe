-- What may still come to a present component is of the repair that awaits it, where a reply comes or a drive is declared; and so
-- over each step of the server.
use Rattle.std.proofs.Common.{◌≡◌, ◌⊎◌, ◌||◌, ℕ, Bool, true, false, not, List, [], ◌∷◌, map, slice_get, Option, Some, None, refl, sym, ap, subst, ◌∙◌, inl, inr, arith, if◌then◌else◌}
use Rattle.std.proofs.lemmas.Bool.{ne_eqb}
use Rattle.std.proofs.lemmas.Option.{same_Some}
use Rattle.osd_lists.specs.declared.node.Node.TheVariants.{Drive as FromDrive}
use Rattle.osd_commands.specs.declared.commands.Command.{Command}
use Rattle.data_map.specs.declared.check.RawMap.{RawMap}
use Rattle.server_rules.specs.Commands.{again_in_2}
use Rattle.server_rules.specs.Files.{file_at, at_file}
use Rattle.server_rules.specs.Going.{Going, noting, with_components}
use Rattle.server_rules.specs.History.{Input, Hears, step}
use Rattle.server_rules.specs.Making.{with_file}
use Rattle.server_rules.specs.Messages.{Replies}
use Rattle.server_rules.specs.Jobs.{loses, declares, declared_in, is_target, others_than, targets}
use Rattle.server_rules.specs.Laws.{In}
use Rattle.server_rules.specs.Replies.{Hearing, Older, Full, Done, Nothing, answers, hearing, others, renewed, renews, fills_up, heard_with, hears}
use Rattle.server_rules.specs.Standing.{any_on, lose_on, lose_from}
use Rattle.server_rules.specs.Numbers.{among}
use Rattle.server_rules.proofs.FileLaws.{number_at}
use Rattle.server_rules.proofs.Runs.{ran_making}
use Rattle.server_rules.proofs.Members.{in_map, in_filter}
use Rattle.history_law.specs.Names.{Server, File, Still, Repairing, Component, Awaited, Piece, Target, Job, Work, Creates, Fences, Fetches, Stores, Targets, Gathers, Fills, Lengths, Checks, Fenced, NoSpace, Reply}
use Rattle.history_law.proofs.Asking.{in_lost_on}
use Rattle.history_law.proofs.Hearing.{found_in}
use Rattle.component_law.specs.Objects.{target_in, target_of}
use Rattle.component_law.specs.KeptWalk.{WorkFits}
use Rattle.relation_law.proofs.DriveMoves.{got_in}
use Rattle.file_simulation.specs.Jobs.{IsInPiece, IsOfWork, IsOfPhase}
use Rattle.relation_law.specs.Awaiting.{IsStore, IsAskedIn, FitsIn}
use Rattle.relation_law.specs.Owning.{Coming, AreOfPhase, IsReady, OwnedGoOn}
use Rattle.relation_law.proofs.Walk.{AtFill, walk_full}
use Rattle.relation_law.proofs.Ways.{IsAlike, alike_here, FileWays, alike_lacks, alike_lost}
use Rattle.relation_law.proofs.WaysSteps.{files_go}
use Rattle.relation_law.proofs.OwningPlaces.{Clear, PlaceOwns, Owns, own_cases}
use Rattle.relation_law.proofs.Owning.{lost_at, among_one, IsOf, of_alike, IsStored, comes_to, AreLeft, loses_owns, answered_owns, here_owns, kept_owns, quiet_clear, fence_owns, opens_owns, crash_owns}

module _ (C : Coming) (i : Input) (f : File) (ready : IsReady C i f) where
  -- ---- a reply

  module _ (g : Going) (same : g.file ≡ f) (j : Job) (runs : f.job ≡ Some j) (now drive : ℕ) (r : Reply)
      (is : i ≡ Hears now (FromDrive drive) (Replies r)) (a : Awaited) (here : In a j.awaited)
      (answer : answers drive r a ≡ true) where
    of_here : IsOf C i f ready g
    of_here = of_alike C i f ready g g same (alike_here g g refl (λ x k. k))

    -- what a store goes to
    drive_of : (k : ℕ) (x : Command) (s : IsStored C i f ready j k x) (at : Component) → slice_get f.kept.components k ≡ Some at →
        s.command.drive ≡ at.drive
    drive_of k x s at there =
        let asked : IsAskedIn f.kept j.work s.command =
        (subst (FitsIn f.kept) runs ready.fits).asked s.command s.awaits in
        let store : IsStore f.kept.map f.kept.components s.piece s.command =
        subst (λ (w : Work). IsAskedIn f.kept w s.command) s.work asked in
        let found : slice_get f.kept.components k ≡ Some store.of.component =
        ap (slice_get f.kept.components) (sym s.component) ∙ store.of.there in
        store.of.drive ∙ ap (λ (y : Component). y.drive) (same_Some store.of.component at (sym found ∙ there))

    -- one that is done doesn't come
    not_done : (hearing f.kept a r ≡ Older) ⊎ (hearing f.kept a r ≡ Done) → (h : Going) → IsOf C i f ready h → (k : ℕ)
        (at : Component) (x : Command) → slice_get h.file.kept.components k ≡ Some at → C at.drive x →
        (s : IsStored C i f ready j k x) → s.command.command.nonce ≡ a.command.nonce → ⊥
    not_done what h of k at x there comes s nonce =
        let was = of.places.back k at there in
        let it : s.command ≡ a = ready.alone j runs s.command a s.awaits here nonce in
        let own : a.drive ≡ at.drive =
        ap (λ (y : Awaited). y.drive) (sym it) ∙ drive_of k x s was.0 was.1 ∙ sym was.2.drive in
        ready.told now drive r j a is runs here answer what x
        (s.is ∙ ap (λ (y : Awaited). record y.command { check = x.check }) it)
        (subst (λ (d : ℕ). C d x) (sym own) comes)

    left_by : (h : Going) (of : IsOf C i f ready h) → ((k : ℕ) (at : Component) (x : Command) →
        slice_get h.file.kept.components k ≡ Some at → at.missing ≡ false → C at.drive x → (s : IsStored C i f ready j k x) →
        s.command.command.nonce ≡ a.command.nonce → ⊥) → AreLeft C i f ready h j runs of (others j.awaited a.command.nonce)
    left_by h of other k at x there stands old comes object s =
        in_filter _ s.command j.awaited s.awaits
        (ap not (ne_eqb s.command.command.nonce a.command.nonce (other k at x there stands comes s)))

    renews_owns : (hearing f.kept a r ≡ Older) → Owns C f (renews g j a)
    renews_owns old_format = inr (λ k at x there stands old comes object.
        elim (comes_to C i f ready g j runs of_here [] k at x there stands old comes object) [
          | inl again ↦ subst (IsOfPhase F k x) (sym (of_here.phase ∙ again)) tt
          | inr s ↦ by_store k at x s (not_done (inl old_format) g of_here k at x there comes s)
        ])
      where
        b : Awaited
        b = again_in_2 a g.effects.nonce

        F : File
        F = (renews g j a).file

        repairs : (work : Work) → (p : Piece) → (ps : List Piece) → (short : List ℕ) → (q : Bool) →
            work ≡ Stores (p ∷ ps) short q → WorkFits f.kept.phase work → f.kept.phase ≡ Repairing
        repairs work p ps short q e fits = subst (WorkFits f.kept.phase) e fits

        stays : (y : Awaited) → (y.command.nonce ≡ a.command.nonce → ⊥) → renewed a b y ≡ y
        stays y ne = ap (λ (t : Bool). if t then b else y) (ne_eqb y.command.nonce a.command.nonce ne)

        by_store : (k : ℕ) (at : Component) (x : Command) (s : IsStored C i f ready j k x) →
            (s.command.command.nonce ≡ a.command.nonce → ⊥) → IsOfPhase F k x F.kept.phase
        by_store k at x s ne =
            subst (IsOfPhase F k x) (sym (of_here.phase ∙ repairs j.work s.piece s.todo s.short s.is_broken s.work
            (ready.phase j runs)))
            (subst (λ (y : Work). IsOfWork F.kept.map (map (renewed a b) j.awaited) k x y) (sym s.work) (
              (
                s.command,
                subst (λ (y : Awaited). In y (map (renewed a b) j.awaited)) (stays s.command ne)
                    (in_map (renewed a b) s.command j.awaited s.awaits),
                s.component,
                s.is,
              ),
              subst (λ (m : RawMap). IsInPiece m s.piece k x) (sym of_here.map) s.inside,
            ))

    -- a component lacks space
    abbrev lacks : Going
    lacks = noting (with_components g (lose_from (a.component ∷ []) g.file.kept.components 0)) (NoSpace a.component)

    lacks_alike : IsAlike g lacks
    lacks_alike = alike_lacks g a.component

    lacks_of : IsOf C i f ready lacks
    lacks_of = of_alike C i f ready g lacks same lacks_alike

    lacks_left : AreLeft C i f ready lacks j runs lacks_of (others j.awaited a.command.nonce)
    lacks_left =
        left_by lacks lacks_of (λ k at x there stands comes s nonce.
        let it : s.command ≡ a = ready.alone j runs s.command a s.awaits here nonce in
        let place : a.component ≡ k = ap (λ (y : Awaited). y.component) (sym it) ∙ s.component in
        let gone : at.missing ≡ true =
        lost_at (a.component ∷ []) g.file.kept.components 0 k at
        (subst (λ (m : ℕ). among m (a.component ∷ []) ≡ true) (place ∙ omega arith) (among_one a.component)) there in
        cc (sym stands ∙ gone))

    lacks_owns : (work : Work) → j.work ≡ work → Owns C f (loses lacks j work (others j.awaited a.command.nonce) false)
    lacks_owns work e =
        subst (λ (w : Work). Owns C f (loses lacks j w (others j.awaited a.command.nonce) false)) e
        (loses_owns C i f ready lacks j runs lacks_of (others j.awaited a.command.nonce) lacks_left false
        (kept_owns C i f ready g lacks lacks_alike (here_owns C i f ready g same)))

    -- a target does
    target_owns : (t : Target) (todo : List Piece) → target_in j.work ≡ Some t → (j.work ≡ Fences → ⊥) →
        Clear C f g.file.kept.components → PlaceOwns C f (AtFill t todo) g
    target_owns t todo e other clear = (of_here.number, inr clear, ready.apart t (ap target_of runs ∙ e))

    still_clear : f.kept.phase ≡ Still → Clear C f g.file.kept.components
    still_clear still = quiet_clear C i f ready g same (inl still)

    phase_in : (work : Work) → j.work ≡ work → WorkFits f.kept.phase work
    phase_in work e = subst (WorkFits f.kept.phase) e (ready.phase j runs)

    full_owns : (work : Work) → j.work ≡ work → Owns C f (fills_up g j a work)
    full_owns (Targets t) e =
        walk_full (PlaceOwns C f) (Owns C f) (own_cases C f) t [] g
        (target_owns t [] (ap target_in e) (λ x. cc (sym e ∙ x)) (still_clear (phase_in (Targets t) e)))
    full_owns (Gathers t todo) e =
        walk_full (PlaceOwns C f) (Owns C f) (own_cases C f) t todo g
        (target_owns t todo (ap target_in e) (λ x. cc (sym e ∙ x)) (still_clear (phase_in (Gathers t todo) e)))
    full_owns (Fills t todo) e =
        walk_full (PlaceOwns C f) (Owns C f) (own_cases C f) t todo g
        (target_owns t todo (ap target_in e) (λ x. cc (sym e ∙ x)) (still_clear (phase_in (Fills t todo) e)))
    full_owns Creates e = lacks_owns Creates e
    full_owns Fences e = lacks_owns Fences e
    full_owns (Fetches todo short) e = lacks_owns (Fetches todo short) e
    full_owns (Stores todo short b) e = lacks_owns (Stores todo short b) e
    full_owns Lengths e = lacks_owns Lengths e
    full_owns (Checks todo t) e = lacks_owns (Checks todo t) e

    hears_owns : (x : Hearing) → hearing f.kept a r ≡ x → Owns C f (hears g j a r x)
    hears_owns Older e = renews_owns e
    hears_owns Full e = full_owns j.work refl
    hears_owns Done e =
        answered_owns C i f ready g j runs of_here (others j.awaited a.command.nonce)
        (left_by g of_here (λ k at x there stands comes s. not_done (inr e) g of_here k at x there comes s))
        (heard_with j a r)
    hears_owns Nothing e = here_owns C i f ready g same

  -- ---- a declaration

  declares_owns : (g : Going) (drive : ℕ) → g.file ≡ f → Owns C f (declares g drive)
  unfolding declares
  declares_owns g drive same =
      pick (any_on drive g.file.kept.components || targets g.file.job drive) (declared_in h drive g.file.job) g
      (by_job g.file.job refl) (here_owns C i f ready g same)
    where
      pick : (b : Bool) (x y : Going) → Owns C f x → Owns C f y → Owns C f (if b then x else y)
      pick true x y p q = p
      pick false x y p q = q

      h : Going
      h = with_components g (lose_on drive g.file.kept.components)

      lost : IsAlike g h
      lost = alike_lost g drive

      left : (j : Job) (runs : f.job ≡ Some j) →
          AreLeft C i f ready h j runs (of_alike C i f ready g h same lost) (others_than drive j.awaited)
      left j runs k at x there stands old comes object s =
          let was = (of_alike C i f ready g h same lost).places.back k at there in
          let asked : IsAskedIn f.kept j.work s.command =
          (subst (FitsIn f.kept) runs ready.fits).asked s.command s.awaits in
          let store : IsStore f.kept.map f.kept.components s.piece s.command =
          subst (λ (w : Work). IsAskedIn f.kept w s.command) s.work asked in
          let found : slice_get f.kept.components k ≡ Some store.of.component =
          ap (slice_get f.kept.components) (sym s.component) ∙ store.of.there in
          let own : s.command.drive ≡ at.drive =
          store.of.drive ∙ ap (λ (y : Component). y.drive) (same_Some store.of.component was.0 (sym found ∙ was.1))
          ∙ sym was.2.drive in
          let off = in_lost_on drive g.file.kept.components at (got_in h.file.kept.components k at there) stands in
          in_filter _ s.command j.awaited s.awaits
          (ap not (ne_eqb s.command.drive drive (λ (e : s.command.drive ≡ drive). off.1 (sym own ∙ e))))

      by_job : (o : Option Job) → g.file.job ≡ o → Owns C f (declared_in h drive o)
      by_job None is = kept_owns C i f ready g h lost (here_owns C i f ready g same)
      by_job (Some j) is =
          let runs : f.job ≡ Some j = ap (λ (y : File). y.job) (sym same) ∙ is in
          loses_owns C i f ready h j runs (of_alike C i f ready g h same lost) (others_than drive j.awaited) (left j runs)
          (is_target j.work drive) (kept_owns C i f ready g h lost (here_owns C i f ready g same))

-- ---- a step

-- a file that is made wasn't there
abbrev IsMade : Server → File → Type 0
IsMade s g = file_at s.files g.kept.number ≡ None

abbrev GoesOwned : Coming → Input → File → Going → Type 0
GoesOwned C i f g = IsReady C i f → Owns C f g

own_ways : (C : Coming) (s : Server) (chosen : List ℕ) (i : Input) → FileWays s chosen i (GoesOwned C i) (IsMade s)
own_ways C s chosen i = record {
  stays = λ f g j same ready. here_owns C i f ready g same;
  alike = λ f g h a p ready. kept_owns C i f ready g h a (p ready);
  heard = λ x is ready.
      let found = found_in (answers x.drive x.reply) x.job.awaited x.awaited is.awaits in
      hears_owns C i x.file ready (at_file s chosen x.file) refl x.job is.runs x.now x.drive x.reply is.is x.awaited
      found.0 found.1 (hearing x.file.kept x.awaited x.reply) refl;
  fenced = λ f g kind format j same ready. fence_owns C i f ready g kind format same;
  declared = λ f g drive j same ready. declares_owns C i f ready g drive same;
  crashed = λ f g j same ready. crash_owns C i f ready g same;
  opened = λ f g format j same ready. opens_owns C i f ready g format same;
  made = λ f there none.
      ap (file_at s.files) (ran_making (at_file (with_file s f) [] f)).number ∙ there;
}

pub owned_go_on : OwnedGoOn
owned_go_on C s chosen i apart n f g there behind ready =
    elim (files_go s chosen i (GoesOwned C i) (IsMade s) (own_ways C s chosen i) apart n g behind) [
      | inl x ↦
          let same : x.before ≡ f = same_Some x.before f (sym x.there ∙ there) in
          let ready_ : IsReady C i x.before = subst (IsReady C i) (sym same) ready in
          let number : f.kept.number ≡ n = number_at s.files n f there in
          elim (subst (λ (y : File). Owns C y x.going) same (x.so ready_)) [
            | inl e ↦ inl (
              e.0,
              subst (λ (m : ℕ). In (record { file = m; kind = Fenced e.0 }) (step s chosen i).notes) number
                  (x.notes _ e.1),
            )
            | inr owned ↦ inr (subst (AreOfPhase C f) x.is owned)
          ]
      | inr new ↦
          absurd (cc (sym there ∙ ap (file_at s.files) (sym (number_at (step s chosen i).state.files n g behind)) ∙ new))
    ]
