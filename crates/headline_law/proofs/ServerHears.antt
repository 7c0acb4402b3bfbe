-- A file whose job hears a reply: the events of the notes of the step can happen.
use Rattle.std.proofs.Common.{◌≡◌, ◌==◌, ℕ, Bool, true, false, List, [], ◌∷◌, length, Some, refl, sym, ap, subst, ◌∙◌, inl, inr, arith}
use Rattle.std.proofs.lemmas.Bool.{cases_Bool, true≢false}
use Rattle.std.proofs.lemmas.Option.{slice_get_within}
use Rattle.osd_commands.specs.declared.actions.Action.{Action}
use Rattle.server_rules.specs.Files.{at_file}
use Rattle.server_rules.specs.Going.{Going, noting, with_components}
use Rattle.server_rules.specs.History.{Input}
use Rattle.server_rules.specs.Jobs.{loses}
use Rattle.server_rules.specs.Rebuild.{target_full}
use Rattle.server_rules.specs.Replies.{Hearing, Older, Full, Done, Nothing, is_done, is_write, hearing, others, fills_up, heard_with, hears}
use Rattle.server_rules.proofs.Components.{length_lost}
use Rattle.server_rules.specs.Standing.{lose_from}
use Rattle.server_rules.specs.declared.limits.TheConstants.{OLD_FORMAT}
use Rattle.component_law.specs.KeptWalk.{WorkFits}
use Rattle.component_law.specs.Tagged.{is_fence}
use Rattle.component_law.proofs.KeptJobs.{same_but_components}
use Rattle.component_law.specs.Objects.{target_in}
use Rattle.world_history.specs.ServerNames.{File, Kept, NoSpace, Repairing, Piece, Target, Job, Work, Creates, Fences, Fetches, Stores, Targets, Gathers, Fills, Lengths, Checks, Awaited, Reply}
use Rattle.world_history.specs.State.{World}
use Rattle.fence_law.specs.State.{State, Layout}
use Rattle.fence_law.specs.Columns.{Short}
use Rattle.fence_law.specs.Machine.{Lawful, after_all}
use Rattle.fence_law.proofs.Safe.{Safe}
use Rattle.fence_law.proofs.Words.{updated_read}
use Rattle.file_simulation.specs.Components.{AreComponents}
use Rattle.file_simulation.specs.Jobs.{AreDone, DoneIn}
use Rattle.file_simulation.specs.ServerEvents.{lacks_space, noted_here}
use Rattle.relation_law.specs.Awaiting.{IsOfComponent, IsAskedIn}
use Rattle.relation_law.specs.KeptSteps.{core, notes_events, IsKeptAt}
use Rattle.relation_law.proofs.ComponentsNotes.{leaves_as, told_walked}
use Rattle.relation_law.proofs.ComponentsServer.{start_told}
use Rattle.relation_law.proofs.KeptEnds.{so_far_from}
use Rattle.relation_law.proofs.KeptGuards.{drops_allowed}
use Rattle.relation_law.proofs.KeptNotes.{lawful_supplies, walked}
use Rattle.relation_law.proofs.KeptRounds.{begun}
use Rattle.relation_law.proofs.Walk.{Place, AtStart, AtRepair, AtFill, place_behind, lost_place, walk_full, walk_waits, walk_loses}
use Rattle.headline_law.specs.ServerLines.{NotesMay}
use Rattle.headline_law.proofs.ServerPlaces.{Fits, Knows, JobStands, LastKnows}
use Rattle.headline_law.proofs.ServerNotes.{none_may, own_may, behind_own}
use Rattle.headline_law.proofs.ServerWalk.{IsLaid, Midway, May, cases}

-- ---- what is done stays

-- the file, and what is kept of it
pub done_core : (s : State) (f : File) (todo : List Piece) → AreDone s f todo → AreDone s (core f.kept) todo
done_core s f todo done x e behind long =
    done x (record { grant = e.grant; ended = e.ended; rw = e.rw; has = e.has }) behind long

-- where more is lost, and nothing else changes
pub done_lost : (s u : State) (k : Kept) (todo : List Piece) → u.layout ≡ s.layout → ((j z : ℕ) → u.cell j z ≡ s.cell j z)
    → ((j : ℕ) → s.lost j ≡ true → u.lost j ≡ true) → AreDone s (core k) todo → AreDone u (core k) todo
done_lost s u k todo layout cells lost done x e behind long =
    let r = done x e behind (λ sh. long (short sh)) in (
      r.0,
      λ n z cell column stands.
          cells n z
          ∙ r.1 n z (ap (λ (y : Layout). y.is_cell n z) (sym layout) ∙ cell)
          (ap (λ (y : Layout). y.cell_col n z) (sym layout) ∙ column) (stood n stands)
          ∙ ap (λ (y : Layout). y.word n z r.0) (sym layout),
    )
  where
    stood : (n : ℕ) → u.lost n ≡ false → s.lost n ≡ false
    stood n stands = elim (cases_Bool (s.lost n)) [
      | inl gone ↦ absurd (true≢false (sym (lost n gone) ∙ stands))
      | inr here ↦ here
    ]

    short : Short s x → Short u x
    short sh = (
      sh.0,
      sh.1,
      ap (λ (y : Layout). y.is_cell sh.0 sh.1) layout ∙ sh.2,
      ap (λ (y : Layout). y.cell_col sh.0 sh.1) layout ∙ sh.3,
      λ n z cell column position.
          lost n (sh.4 n z (ap (λ (y : Layout). y.is_cell n z) (sym layout) ∙ cell)
          (ap (λ (y : Layout). y.cell_col n z) (sym layout) ∙ column)
          (ap (λ (y : Layout). y.position n) (sym layout) ∙ position
          ∙ ap (λ (y : Layout). y.position sh.0) layout)),
    )

-- ---- the file as it is

-- A piece that doesn't matter.
pub no_piece : Piece
no_piece = record { stripe = 0; column = 0; count = 0 }

-- where the work goes on when nothing is awaited any more, it fits
place_fits : (f : File) (j : Job) (s : State) (a : Awaited) (r : Reply) → JobStands s f j
    → Fits f (place_behind f.kept j.work (heard_with j a r))
place_fits f j s a r k = by j.work refl k.fits
  where
    by : (work : Work) → j.work ≡ work → WorkFits f.kept.phase work → Fits f (place_behind f.kept work (heard_with j a r))
    by Creates is h = tt
    by Fences is h = h
    by (Fetches [] short) is h = h
    by (Fetches (p ∷ ps) short) is h = h
    by (Stores [] short b) is h = h
    by (Stores (p ∷ ps) short true) is h = h
    by (Stores (p ∷ ps) short false) is h = h
    by (Targets t) is h = k.fill t (ap target_in is)
    by (Gathers t []) is h = k.fill t (ap target_in is)
    by (Gathers t (p ∷ ps)) is h = k.fill t (ap target_in is)
    by (Fills t []) is h = k.fill t (ap target_in is)
    by (Fills t (p ∷ ps)) is h = k.fill t (ap target_in is)
    by Lengths is h = tt
    by (Checks [] tally) is h = tt
    by (Checks (p ∷ ps) tally) is h = tt

-- only a WRITE finds no space
full_writes : (f : Kept) (a : Awaited) (r : Reply) → hearing f a r ≡ Full → is_write a.command.action ≡ true
unfolding hearing
full_writes f a r is = elim (cases_Bool (r.verdict == OLD_FORMAT)) [
  | inl old ↦ absurd (cc (rw old at is))
  | inr new ↦ elim (cases_Bool (is_write a.command.action)) [
    | inl w ↦ w
    | inr no_ ↦ elim (cases_Bool (is_done f a r)) [
      | inl d ↦ absurd (cc (rw (new, no_, d) at is))
      | inr n ↦ absurd (cc (rw (new, no_, n) at is))
    ]
  ]
]

no_write : (action : Action) → (a : Awaited) → a.command.action ≡ action → is_write a.command.action ≡ true
    → is_write action ≡ true
no_write action a is w = ap is_write (sym is) ∙ w

module _ (next : ℕ) (s : State) (w : World) (f : File) (i : Input) (chosen : List ℕ) (safe : Safe s) (laid : IsLaid s f)
    (many : length f.kept.components ≡ s.layout.components) (h : IsKeptAt next s f) (parts : AreComponents s w f) (j : Job)
    (k : JobStands s f j) where
  abbrev There : Place → Going → Type 0
  There place g = Midway next s s w f i safe laid place g

  -- at a place where nothing was noted yet
  begin : (place : Place) → Fits f place → Knows s f place → There place (at_file w.server chosen f)
  unfolding notes_events
  begin place fits knows = record {
    behind = begun next s w f i (λ ns. Lawful s (notes_events s w f i ns)) (λ busy. lawful_supplies next busy s w f i)
        true f.kept [] refl refl refl
        (so_far_from next true s f (λ b n. absurd (cc (sym k.runs ∙ n))) h);
    told = start_told s s w f i (λ n. leaves_as s s n refl) parts;
    high = refl;
    many = refl;
    fits = fits;
    may = none_may s w f i;
    knows = λ l. knows;
  }

  -- ---- a component lacks space

  module _ (a : Awaited) (asked : IsAskedIn f.kept j.work a) where
    -- of the target of a rebuild
    target_lacks : (t : Target) → target_in j.work ≡ Some t
        → NotesMay s w f i (target_full (at_file w.server chosen f) t).effects.notes
    target_lacks t is =
        walk_full (λ place g. There place g) (λ g. May next s s w f i safe laid g) (cases next s s w f i safe laid) t
        (no_piece ∷ []) (at_file w.server chosen f)
        (begin (AtFill t (no_piece ∷ [])) (k.fill t is) (λ e. absurd (cc e)))

    -- of a component, where a repair writes
    module _ (p : Piece) (ps : List Piece) (short : List ℕ) (b : Bool) (is : j.work ≡ Stores (p ∷ ps) short b) where
      abbrev n : ℕ
      n = a.component

      own : IsOfComponent f.kept.components a
      own = (subst (λ (x : Work). IsAskedIn f.kept x a) is asked).of

      -- where it is, more is lost, and nothing else changes
      lacked_so : (u : State) (missing lost : Bool)
          → ((after_all u (lacks_space missing lost n)).layout ≡ u.layout)
          × ((m z : ℕ) → (after_all u (lacks_space missing lost n)).cell m z ≡ u.cell m z)
          × ((m : ℕ) → u.lost m ≡ true → (after_all u (lacks_space missing lost n)).lost m ≡ true)
      lacked_so u true lost = (refl, λ m z. refl, λ m e. e)
      lacked_so u false true = (refl, λ m z. refl, λ m e. e)
      lacked_so u false false = (
        refl,
        λ m z. refl,
        λ m e. elim (updated_read u.lost n true m).1 [
          | inl here ↦ here.1
          | inr other ↦ other.1 ∙ e
        ],
      )

      abbrev lacked : Going
      lacked = noting (with_components (at_file w.server chosen f) (lose_from (n ∷ []) f.kept.components 0)) (NoSpace n)

      lacks_lawful : Lawful s (noted_here s w f i (NoSpace n))
      lacks_lawful = by (s.missing n) (s.lost n) refl
        where
          repairs : f.kept.phase ≡ Repairing
          repairs = subst (WorkFits f.kept.phase) is k.fits

          by : (missing lost : Bool) → s.lost n ≡ lost → Lawful s (lacks_space missing lost n)
          by true lost e = tt
          by false true e = (e, tt)
          by false false e = (
            drops_allowed next s f n (λ none. cc (sym k.runs ∙ none)) (ap is_fence repairs)
                (let low = slice_get_within f.kept.components n own.component own.there in
                omega (arith, low, many)) e h,
            tt,
          )

      lacked_there : There (AtRepair (p ∷ ps)) lacked
      unfolding notes_events
      lacked_there =
          let l : Kept = record f.kept { components = lose_from (n ∷ []) f.kept.components 0 } in
          let walk = walked next true s w f i (λ ns. Lawful s (notes_events s w f i ns))
          (lawful_supplies next true s w f i) safe in
          let before : There AtStart (at_file w.server chosen f) = begin AtStart tt tt in
          record {
            behind = walk.plain l [] (NoSpace n) refl
                (walk.alike f.kept l [] (same_but_components f.kept l.components) before.behind);
            told = (told_walked s s w f i).lost f.kept [] n before.told;
            high = refl;
            many = length_lost (n ∷ []) f.kept.components 0;
            fits = subst (WorkFits f.kept.phase) is k.fits;
            may = own_may s w f i f.kept [] (NoSpace n) refl (none_may s w f i) (λ law run. lacks_lawful);
            knows = λ law.
                let x = lacked_so s (s.missing n) (s.lost n) in
                subst (λ (u : State). AreDone u (core f.kept) (p ∷ ps)) (sym (behind_own s w f i f.kept [] (NoSpace n) refl))
                (done_lost s (after_all s (lacks_space (s.missing n) (s.lost n) n)) f.kept (p ∷ ps) x.0 x.1 x.2
                (done_core s f (p ∷ ps) (subst (DoneIn s f) is k.done)));
          }

      store_lacks : NotesMay s w f i
          (loses lacked j (Stores (p ∷ ps) short b) (others j.awaited a.command.nonce) false).effects.notes
      store_lacks =
          walk_loses (λ place g. There place g) (λ g. May next s s w f i safe laid g) (cases next s s w f i safe laid)
          lacked j (Stores (p ∷ ps) short b) (others j.awaited a.command.nonce) false is
          (record {
            waits = λ c cs e. lacked_there.may;
            stays = lacked_there.may;
            on = λ rest.
                subst (λ (x : Work). There (lost_place lacked.file.kept x) lacked) (sym is) lacked_there;
          })

    lacks_may : (work : Work) → j.work ≡ work → is_write a.command.action ≡ true → IsAskedIn f.kept work a
        → NotesMay s w f i (fills_up (at_file w.server chosen f) j a work).effects.notes
    lacks_may (Targets t) is w_ x = target_lacks t (ap target_in is)
    lacks_may (Gathers t todo) is w_ x = target_lacks t (ap target_in is)
    lacks_may (Fills t todo) is w_ x = target_lacks t (ap target_in is)
    lacks_may (Stores (p ∷ ps) short b) is w_ x = store_lacks p ps short b is
    lacks_may (Stores [] short b) is w_ x = absurd x
    lacks_may Creates is w_ x = absurd (cc (no_write _ a x.action_is w_))
    lacks_may Fences is w_ x = absurd (cc (no_write _ a x.action_is w_))
    lacks_may (Fetches [] short) is w_ x = absurd x
    lacks_may (Fetches (p ∷ ps) short) is w_ x = absurd (cc (no_write _ a x.action_is w_))
    lacks_may Lengths is w_ x = absurd (cc (no_write _ a x.action_is w_))
    lacks_may (Checks [] tally) is w_ x = absurd x
    lacks_may (Checks (p ∷ ps) tally) is w_ x = absurd (cc (no_write _ a x.action_is w_))

  -- ---- the reply

  pub hears_may : (a : Awaited) (r : Reply) → IsAskedIn f.kept j.work a → LastKnows s f j a r
      → NotesMay s w f i (hears (at_file w.server chosen f) j a r (hearing f.kept a r)).effects.notes
  hears_may a r asked last = by (hearing f.kept a r) refl
    where
      by : (x : Hearing) → hearing f.kept a r ≡ x
          → NotesMay s w f i (hears (at_file w.server chosen f) j a r x).effects.notes
      by Older is = none_may s w f i
      by Nothing is = none_may s w f i
      by Full is = lacks_may a asked j.work refl (full_writes f.kept a r is) asked
      by Done is =
          walk_waits (λ place g. There place g) (λ g. May next s s w f i safe laid g) (cases next s s w f i safe laid)
          (at_file w.server chosen f) j j.work (others j.awaited a.command.nonce) (heard_with j a r)
          (λ c cs e. none_may s w f i)
          (λ none. begin (place_behind f.kept j.work (heard_with j a r)) (place_fits f j s a r k) (last is none))
