-- The parts of a job in a step of the server: the event of each note can happen.
use Rattle.std.proofs.Common.{◌≡◌, ◌||◌, ℕ, zero, suc, ◌+◌, Bool, true, false, List, [], ◌∷◌, length, Some, refl, sym, ap, subst, ◌∙◌}
use Rattle.std.specs.Prelude.{slice_get, slice_set}
use Rattle.std.proofs.lemmas.Bool.{true≢false}
use Rattle.std.proofs.lemmas.Option.{same_Some}
use Rattle.data_map.specs.Check.{IsChecked}
use Rattle.osd_lists.proofs.Slices.{length_set}
use Rattle.data_map.specs.declared.check.RawMap.{RawMap}
use Rattle.server_rules.specs.Going.{Going, noting, noting_if}
use Rattle.server_rules.specs.Grants.{merged, count_stripes}
use Rattle.server_rules.specs.History.{Input}
use Rattle.server_rules.specs.Maps.{pieces}
use Rattle.server_rules.specs.Rebuild.{stands_at}
use Rattle.server_rules.specs.Repair.{mended}
use Rattle.component_law.specs.Components.{is_lacking}
use Rattle.component_law.specs.KeptWalk as kept
use Rattle.component_law.specs.KeptWalk.{noted_of}
use Rattle.component_law.proofs.KeptJobs.{same_but_components}
use Rattle.world_history.specs.ServerNames.{File, Kept, Component, Note, NoteKind, Ready, Fenced, Repaired, Rebuilt, NoDrive, Lost, NoSpace, Repairing, Still, Piece, Target}
use Rattle.world_history.specs.State.{World, at_number}
use Rattle.fence_law.specs.State.{State}
use Rattle.fence_law.specs.State.{Event as event}
use Rattle.fence_law.specs.Law.{IsCode, IsWholeAt}
use Rattle.fence_law.specs.Machine.{Allowed, Lawful, after}
use Rattle.fence_law.proofs.Safe.{Safe, safe_all}
use Rattle.plan_law.specs.FileLayout.{layout_of}
use Rattle.plan_law.proofs.Codes.{layouts_are_codes}
use Rattle.file_simulation.specs.Components.{has_failed}
use Rattle.file_simulation.specs.EventLists.{where_so}
use Rattle.file_simulation.specs.ServerEvents.{noted_here, cells_made}
use Rattle.file_simulation.specs.Showing.{IsRun}
use Rattle.relation_law.specs.ComponentsWalk as told
use Rattle.relation_law.specs.KeptGuards.{HasLayout}
use Rattle.relation_law.specs.KeptSteps.{notes_events, behind_notes, IsKeptAt}
use Rattle.relation_law.proofs.CalmRuns.{whole_now}
use Rattle.relation_law.proofs.ComponentsNotes.{AreTold, told_walked}
use Rattle.relation_law.proofs.KeptEnds.{kept_from}
use Rattle.relation_law.proofs.KeptGuards.{fenced_allowed, repaired_allowed}
use Rattle.relation_law.proofs.KeptNotes.{IsBehind, walked, lawful_supplies}
use Rattle.relation_law.proofs.KeptRebuilt.{rebuilds_allowed}
use Rattle.relation_law.proofs.KeptShort.{standing_not_short}
use Rattle.relation_law.proofs.Quiet.{layout_all}
use Rattle.relation_law.proofs.Walk.{Place, AtFence, Behind, AtRepair, AtRows, AtRebuild, AtFill, AtSources, AtAudit, JobCases, raised, standing}
use Rattle.headline_law.specs.ServerLines.{NotesMay}
use Rattle.headline_law.proofs.ServerPlaces.{CanFill, Fits, Knows}
use Rattle.headline_law.proofs.ServerDone.{all_are_done, skipped_done}
use Rattle.headline_law.proofs.ServerNotes.{after_is, own_may}

-- the machine has the file's layout
pub record IsLaid (t : State) (f : File) : Type 0 where
  pub checked : IsChecked f.kept.map
  pub layout : t.layout ≡ layout_of f.kept.map f.kept.first_tag
  pub many : length f.kept.components ≡ f.kept.map.comps

-- Of a file in the middle of a step: `s` is the machine before the step, and `t` the one behind its first line.
module _ (next : ℕ) (s t : State) (w : World) (f : File) (i : Input) (safe : Safe t) (laid : IsLaid t f) where
  -- the events of the notes so far can happen
  abbrev pub Given : List Note → Type 0
  Given ns = Lawful t (notes_events t w f i ns)

  -- the machine behind them
  abbrev pub At : Going → State
  At g = behind_notes t w f i g.effects.notes

  abbrev pub NowBehind : Kept → List Note → Type 0
  NowBehind k ns = IsBehind next true t w f i Given k ns

  pub record Midway (place : Place) (g : Going) : Type 0 where
    pub behind : NowBehind g.file.kept g.effects.notes
    pub told : AreTold s t w f i g.file.kept g.effects.notes
    pub high : g.file.kept.high ≡ f.kept.high
    pub many : length g.file.kept.components ≡ length f.kept.components
    pub fits : Fits g.file place
    pub may : NotesMay t w f i g.effects.notes
    pub knows : Given g.effects.notes → Knows (At g) g.file place

  -- all that is asked where it ends
  abbrev pub May : Going → Type 0
  May g = NotesMay t w f i g.effects.notes

  kept_walk : kept.IsWalked NowBehind
  kept_walk = walked next true t w f i Given (lawful_supplies next true t w f i) safe

  told_walk : told.IsWalked (AreTold s t w f i)
  told_walk = told_walked s t w f i

  -- ---- the machine at a place

  safe_at : (g : Going) → Given g.effects.notes → Safe (At g)
  safe_at g l = safe_all t (notes_events t w f i g.effects.notes) l safe

  laid_at : (g : Going) → g.file.kept.map ≡ f.kept.map → HasLayout (At g) g.file.kept
  laid_at g map = record {
    checked = subst IsChecked (sym map) laid.checked;
    tag = f.kept.first_tag;
    layout = layout_all t (notes_events t w f i g.effects.notes) ∙ laid.layout
        ∙ ap (λ (m : RawMap). layout_of m f.kept.first_tag) (sym map);
  }

  whole_at : (g : Going) → IsRun (At g) → IsWholeAt (At g)
  whole_at g run =
      whole_now (At g) run
      (subst IsCode (sym (layout_all t (notes_events t w f i g.effects.notes) ∙ laid.layout))
      (layouts_are_codes f.kept.map f.kept.first_tag laid.checked))

  -- what is missing is lost
  pub lost_at : (g : Going) → AreTold s t w f i g.file.kept g.effects.notes → (j : ℕ) (at : Component)
      → slice_get g.file.kept.components j ≡ Some at → at.missing ≡ true
      → ((At g).lost j ≡ true) × ((At g).missing j ≡ true)
  lost_at g told j at there gone =
      let h = told.each j at there in
      let same = after_is t w f i g.effects.notes in (
        ap (λ (u : State). u.lost j) (sym same) ∙ h.lost
            ∙ ap (λ (b : Bool). b || has_failed (at_number w.drives at.drive)) gone,
        ap (λ (u : State). u.missing j) (sym same) ∙ h.missing ∙ gone,
      )

  -- so is one that a target is made for
  lacks : (cs : List Component) (n : ℕ) (at : Component) → slice_get cs n ≡ Some at → at.missing ≡ true → is_lacking cs n ≡ true
  lacks [] n at there gone = refl
  lacks (x ∷ cs) zero at there gone =
      ap (λ (y : Component). y.missing) (same_Some x at there) ∙ gone
  lacks (x ∷ cs) (suc n) at there gone = lacks cs n at there gone

  -- ---- notes

  fails : (u : State) (failed : Bool) (k : ℕ) → Lawful u (where_so failed (event.Fails k ∷ []))
  fails u true k = (tt, tt)
  fails u false k = tt

  -- one that only tells
  plain_note : (place next_place : Place) (g : Going) (kind : NoteKind) → kept.is_plain kind ≡ true
      → told.is_silent kind ≡ true → ((u : State) → noted_here u w f i kind ≡ []) → Fits g.file next_place
      → (Given (noted_of g.file.kept g.effects.notes kind) → Knows (At (noting g kind)) g.file next_place)
      → Midway place g → Midway next_place (noting g kind)
  plain_note place next_place g kind plain silent none fits knows q = record {
    behind = kept_walk.plain g.file.kept g.effects.notes kind plain q.behind;
    told = told_walk.silent g.file.kept g.effects.notes kind silent q.told;
    high = q.high;
    many = q.many;
    fits = fits;
    may = own_may t w f i g.file.kept g.effects.notes kind q.behind.number q.may
        (λ l r. subst (Lawful (At g)) (sym (none (At g))) tt);
    knows = knows;
  }

  -- a fence is over
  raises : (g : Going) → Midway AtFence g
      → Midway (AtRepair (pieces g.file.kept.map.unit (merged g.file.kept.ended))) (raised g)
  raises g q =
      let h : Kept = record g.file.kept { tag = g.file.kept.tag + 1; phase = Repairing } in
      record {
        behind = kept_walk.fenced g.file.kept g.effects.notes q.fits q.behind;
        told = told_walk.silent h g.effects.notes (Fenced (g.file.kept.tag + 1)) refl
            (told_walk.same g.file.kept h g.effects.notes refl refl q.told);
        high = q.high;
        many = q.many;
        fits = refl;
        may = own_may t w f i g.file.kept g.effects.notes (Fenced (g.file.kept.tag + 1)) q.behind.number q.may
            (λ l r. fenced_allowed next true (At g) g.file.kept q.fits (q.knows l) (q.behind.so_far l));
        knows = λ l.
            all_are_done (At (raised g)) (raised g).file.kept (subst IsChecked (sym q.behind.map) laid.checked);
      }

  -- a repair is over
  repaired : (short : List ℕ) (g : Going) → Midway (AtRepair []) g → Midway Behind (mended g short)
  repaired short g q =
      let kind : NoteKind = Repaired (count_stripes (merged g.file.kept.ended)) (length short) in
      let h : Kept = record g.file.kept { ended = []; phase = Still } in
      record {
        behind = kept_walk.mended g.file.kept g.effects.notes (count_stripes (merged g.file.kept.ended)) (length short) q.fits
            q.behind;
        told = told_walk.silent h g.effects.notes kind refl
            (told_walk.same g.file.kept h g.effects.notes refl refl q.told);
        high = q.high;
        many = q.many;
        fits = tt;
        may = own_may t w f i g.file.kept g.effects.notes kind q.behind.number q.may
            (λ l r.
            let a = repaired_allowed standing_not_short next true (At g) g.file.kept q.fits (laid_at g q.behind.map)
            (whole_at g r) (q.knows l) (q.behind.so_far l) in
            (rw q.behind.map at a, tt));
        knows = λ l. tt;
      }

  -- a component is made anew
  builds : (x : Target) (g : Going) → Midway (AtFill x []) g → Midway (AtRebuild (x.component + 1)) (standing g x)
  builds x g q =
      let kind : NoteKind = Rebuilt x.component x.drive in
      let can : CanFill g.file x = q.fits in
      let h : Kept = record g.file.kept { components = slice_set g.file.kept.components x.component (stands_at x) } in
      record {
        behind = kept_walk.plain h g.effects.notes kind refl
            (kept_walk.alike g.file.kept h g.effects.notes (same_but_components g.file.kept h.components) q.behind);
        told = told_walk.rebuilt g.file.kept g.effects.notes x q.told;
        high = q.high;
        many = length_set g.file.kept.components x.component (stands_at x) ∙ q.many;
        fits = tt;
        may = own_may t w f i g.file.kept g.effects.notes kind q.behind.number q.may
            (λ l r.
            let u : State = At g in
            let all : IsKeptAt next u g.file =
            kept_from next true u g.file (λ e. absurd (true≢false e)) (q.behind.so_far l) in
            let a = rebuilds_allowed next u g.file x.component can.still can.busy can.alone
            (lost_at g q.told x.component can.component can.there can.missing).0 (laid_at g q.behind.map) (safe_at g l)
            (whole_at g r)
            (q.knows l refl) all in
            let b : Allowed u (event.Rebuilds x.component (cells_made u f.kept.map f.kept.high x.component)) =
            rw (q.behind.map, q.high) at a in (
              b,
              fails (after u (event.Rebuilds x.component (cells_made u f.kept.map f.kept.high x.component)))
                  (has_failed (at_number w.drives x.drive)) x.component,
            ));
        knows = λ l. tt;
      }

  -- the target's drive has no space
  full : (x : Target) (todo : List Piece) (g : Going) → Midway (AtFill x todo) g
      → Midway (AtRebuild (x.component + 1)) (noting g (NoSpace x.component))
  full x todo g q =
      let can : CanFill g.file x = q.fits in
      record {
        behind = kept_walk.plain g.file.kept g.effects.notes (NoSpace x.component) refl q.behind;
        told = told_walk.full g.file.kept g.effects.notes x.component
            (lacks g.file.kept.components x.component can.component can.there can.missing) q.told;
        high = q.high;
        many = q.many;
        fits = tt;
        may = own_may t w f i g.file.kept g.effects.notes (NoSpace x.component) q.behind.number q.may
            (λ l r. rw (lost_at g q.told x.component can.component can.there can.missing).1 tt);
        knows = λ l. tt;
      }

  passes : (b : Bool) (k : ℕ) (g : Going) → Midway (AtRebuild k) g
      → Midway (AtRebuild (k + 1)) (noting_if b g (NoDrive k))
  passes true k g q = plain_note (AtRebuild k) (AtRebuild (k + 1)) g (NoDrive k) refl refl (λ u. refl) tt (λ l. tt) q
  passes false k g q = record {
    behind = q.behind;
    told = q.told;
    high = q.high;
    many = q.many;
    fits = tt;
    may = q.may;
    knows = λ l. tt;
  }

  -- to another place of the same file
  moves : (place next_place : Place) (g : Going) → Fits g.file next_place
      → (Given g.effects.notes → Knows (At g) g.file place → Knows (At g) g.file next_place) → Midway place g
      → Midway next_place g
  moves place next_place g fits knows q = record {
    behind = q.behind;
    told = q.told;
    high = q.high;
    many = q.many;
    fits = fits;
    may = q.may;
    knows = λ l. knows l (q.knows l);
  }

  pub cases : JobCases Midway May
  cases = record {
    asks = λ place work c cs kind g q a. q.may;
    aims = λ x g q is. q.may;
    readied = λ g q.
        own_may t w f i g.file.kept g.effects.notes Ready q.behind.number q.may (λ l r. tt);
    rests_behind = λ g q. q.may;
    built = λ component g q. q.may;
    counted = λ tally g q. own_may t w f i g.file.kept g.effects.notes _ q.behind.number q.may (λ l r. tt);
    raises = raises;
    skips = λ p ps g q none.
        moves (AtRepair (p ∷ ps)) (AtRepair ps) g q.fits
        (λ l done.
        skipped_done (At g) g.file.kept p ps g.effects.nonce (laid_at g q.behind.map)
        (q.many ∙ laid.many ∙ ap (λ (m : RawMap). m.comps) (sym q.behind.map))
        (λ j at there gone. (lost_at g q.told j at there gone).0) none done) q;
    unchanged = λ p ps heard g q none.
        moves (AtRows p ps heard) (AtRepair ps) g q.fits (λ l k. k.1 g.effects.nonce none) q;
    repaired = repaired;
    begins = λ g q. moves Behind (AtRebuild 0) g tt (λ l k. tt) q;
    passes = passes;
    builds = builds;
    loses_it = λ x p ps lacked g q none.
        plain_note (AtFill x (p ∷ ps)) (AtRebuild (x.component + 1)) g (Lost x.component lacked) refl refl (λ u. refl) tt
        (λ l. tt) q;
    gone = λ x todo g q.
        plain_note (AtFill x todo) (AtRebuild (x.component + 1)) g (NoDrive x.component) refl refl (λ u. refl) tt
        (λ l. tt) q;
    full = full;
    zeros = λ x p ps heard g q none. moves (AtSources x p ps heard) (AtFill x ps) g q.fits (λ l k. k) q;
    lengths = λ g q. moves Behind (AtAudit _) g tt (λ l k. tt) q;
    counts = λ p ps g q. moves (AtAudit (p ∷ ps)) (AtAudit ps) g tt (λ l k. tt) q;
  }
