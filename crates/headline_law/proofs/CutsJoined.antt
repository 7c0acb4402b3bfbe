-- Each cut of a move shows each file that was there before it, by the parts of the induction and what is shown at a cut.
use Rattle.std.proofs.Common.{◌≡◌, ◌⊎◌, ◌<◌, ◌≤◌, ◌+◌, ◌-◌, ◌++◌, ℕ, zero, suc, Bool, true, false, nat_lt, List, [], length, Option, Some, None, refl, sym, ap, subst, ◌∙◌, inl, inr, arith, if◌then◌else◌}
use Rattle.std.specs.Prelude.{drop, take}
use Rattle.std.proofs.lemmas.List.{append-nil}
use Rattle.std.proofs.lemmas.Bool.{cases_lt}
use Rattle.scenario_text.specs.declared.line.Line.{Line}
use Rattle.server_rules.specs.Files.{file_at, Step as ServerStep}
use Rattle.server_rules.specs.History.{Input}
use Rattle.world_history.specs.Calm.{moment_of}
use Rattle.world_history.specs.Moves as moves
use Rattle.world_history.specs.Sending.{Move}
use Rattle.world_history.specs.ServerNames.{File, Kept}
use Rattle.world_history.specs.State.{World}
use Rattle.history_law.specs.BookMoments.{lines_in}
use Rattle.history_law.specs.Doing.{did_in, input_in}
use Rattle.history_law.specs.Read.{leads}
use Rattle.fence_law.specs.Machine.{after_all}
use Rattle.fence_law.specs.State.{State}
use Rattle.file_simulation.specs.Claim.{IsCalmHistory}
use Rattle.file_simulation.specs.Cuts.{at_cut, lines_before, notes_behind, rebuilt_ahead}
use Rattle.file_simulation.specs.Showing.{Pairs, ShowsFile, ShowsLines, IsRun}
use Rattle.file_simulation.specs.Simulation.{EachCutIsShown, IsNext, ShowsCut, StandsAt}
use Rattle.exchange_law.specs.Text.{AreOfText}
use Rattle.relation_law.specs.Steps.{HasRoom, owed}
use Rattle.relation_law.proofs.FramesFiles.{file_stays}
use Rattle.headline_law.specs.Parts.{CutsHaveRoom, FollowsShown, OthersShowComponents, OthersShowFiles, SameShown, ServersShowComponents, ServersShowFiles, ShowsAll, cut_at, lines_to}
use Rattle.headline_law.proofs.Joining.{InductionParts, behind_it, cut, cut_run, entries, shown_there, shows, shows_file}

-- what is known of cuts
pub record CutParts : Type 0 where
  pub induction : InductionParts
  pub room : CutsHaveRoom
  pub servers_files : ServersShowFiles
  pub servers_components : ServersShowComponents
  pub others_files : OthersShowFiles
  pub others_components : OthersShowComponents

-- ---- before the first line

-- no note of a step is told there that hasn't begun
none_ahead : (a : moves.Action) (o : Option ServerStep) (s : State) (w : World) (f : File) →
    after_all s (rebuilt_ahead s w f (notes_behind 0 a o)) ≡ s
unfolding rebuilt_ahead
none_ahead a None s w f = refl
none_ahead (moves.Opens e) (Some did) s w f = by (leads e)
  where
    by : (b : Bool) → after_all s
        (rebuilt_ahead s w f (if nat_lt 0 (if b then 2 else 1) then [] else drop (0 - (if b then 2 else 1)) did.notes)) ≡ s
    by true = refl
    by false = refl
none_ahead (moves.Delivers n) (Some did) s w f = refl
none_ahead (moves.TimesOut c k) (Some did) s w f = refl
none_ahead (moves.Pends c) (Some did) s w f = refl

at_start : (s : State) (w : World) (e : ℕ → ℕ) (f : File) (m : Move) → at_cut s w e f m 0 ≡ s
at_start s w e f m = none_ahead m.action (did_in w m) s w f

shows_start : (w : World) (h : List Line) (m : Move) (f : File) (s : State) (pairs : Pairs) → StandsAt w h f s pairs →
    ShowsCut w (h ++ take 0 (lines_in w m)) f s m 0
shows_start w h m f s pairs stands =
    let e : ℕ → ℕ = owed stands.related.related in
    record {
      bytes = e;
      pairs = pairs;
      run = subst IsRun (sym (at_start s w e f m)) stands.run;
      shown =
          subst (λ t. ShowsLines (h ++ take 0 (lines_in w m)) t f.kept.number pairs) (sym (at_start s w e f m))
          (subst (λ ls. ShowsLines ls s f.kept.number pairs) (sym (append-nil h)) stands.shown);
    }

-- ---- behind some lines

module _ (parts : CutParts) (w : World) (h : List Line) (m : Move) (count : ℕ) (next : IsNext w h m (lines_in w m))
    (low : count ≤ length (lines_in w m)) (some : 0 < count) (calm : IsCalmHistory (h ++ take count (lines_in w m))) (f : File)
    (s : State) (pairs : Pairs) (stands : StandsAt w h f s pairs) where
  known : AreOfText (h ++ lines_in w m) × HasRoom w m
  known = parts.room w h m count next.moment next.is_due some calm.scenario

  abbrev i : InductionParts
  i = parts.induction

  abbrev g : File
  g = (behind_it i.world i.more i.moments i.lines i.pending w h m count next known.0 known.1 calm f s pairs stands).0

  abbrev k : FollowsShown w h m count f g s pairs
  k = shown_there i.world i.more i.moments i.lines i.pending w h m count next known.0 known.1 calm f s pairs stands low

  abbrev lines : List Line
  lines = lines_to w h m count

  -- the file that the lines show there, and its components
  abbrev ShownFile : File → Type 0
  ShownFile x = SameShown f x × ShowsAll (cut i.runs w h m count f g s pairs k) x.kept.components

  by_server : (input : Input) → input_in w m.action ≡ Some input → (q : ℕ) → count ≡ lines_before m.action + q → (x : File) →
      file_at (moment_of lines).server.files f.kept.number ≡ Some x → ShownFile x
  by_server input is q at x there =
      let same : x.kept ≡ g.kept = parts.servers_files w h m count f g s k.follows input is q at x there in
      let stays = file_stays w h next.moment m next.is_due f.kept.number f g k.follows.there k.follows.goes in (
        record {
          map = ap (λ (y : Kept). y.map) same ∙ stays.same.map;
          first_tag = ap (λ (y : Kept). y.first_tag) same ∙ stays.same.first_tag;
        },
        subst (λ (y : Kept). ShowsAll (cut i.runs w h m count f g s pairs k) y.components) (sym same)
            (parts.servers_components w h m count f g s pairs (cut i.runs w h m count f g s pairs k) input is q at),
      )

  by_other : (input_in w m.action ≡ None) ⊎ (count < lines_before m.action) → (x : File) →
      file_at (moment_of lines).server.files f.kept.number ≡ Some x → ShownFile x
  by_other other x there =
      let same : x ≡ f = parts.others_files w h m count f g s k.follows other x there in (
        record {
          map = ap (λ (y : File). y.kept.map) same;
          first_tag = ap (λ (y : File). y.kept.first_tag) same;
        },
        subst (λ (y : File). ShowsAll (cut i.runs w h m count f g s pairs k) y.kept.components) (sym same)
            (parts.others_components w h m count f g s pairs (cut i.runs w h m count f g s pairs k) other),
      )

  shown_file : (x : File) → file_at (moment_of lines).server.files f.kept.number ≡ Some x → ShownFile x
  shown_file = by (input_in w m.action) refl
    where
      by : (o : Option Input) → input_in w m.action ≡ o → (x : File) →
          file_at (moment_of lines).server.files f.kept.number ≡ Some x → ShownFile x
      by None none = by_other (inl none)
      by (Some input) is = elim (cases_lt count (lines_before m.action)) [
        | inl early ↦ by_other (inr early)
        | inr late ↦ by_server input is (count - lines_before m.action) (omega (arith, late))
      ]

  shows_file_there : (x : File) → file_at (moment_of lines).server.files f.kept.number ≡ Some x →
      ShowsFile lines (cut_at k.follows) (entries i.runs w h m count f g s pairs k i.shown).pairs x
  unfolding cut
  shows_file_there x there =
      let r : ShownFile x = shown_file x there in
      shows_file i.runs w h m count f g s pairs k i.shown x there r.0 r.1

  shows_there : ShowsCut w (h ++ take count (lines_in w m)) f s m count
  shows_there = record {
    bytes = owed k.follows.related;
    pairs = (entries i.runs w h m count f g s pairs k i.shown).pairs;
    run = cut_run i.runs w h m count f g s pairs k;
    shown = shows i.runs w h m count f g s pairs k i.shown shows_file_there;
  }

-- ---- the statement

shows_any : CutParts → (w : World) (h : List Line) (m : Move) (count : ℕ) → IsNext w h m (lines_in w m) →
    count ≤ length (lines_in w m) → IsCalmHistory (h ++ take count (lines_in w m)) → (f : File) (s : State) (pairs : Pairs) →
    StandsAt w h f s pairs → ShowsCut w (h ++ take count (lines_in w m)) f s m count
shows_any parts w h m zero next low calm f s pairs stands = shows_start w h m f s pairs stands
shows_any parts w h m (suc n) next low calm f s pairs stands =
    shows_there parts w h m (suc n) next low (omega arith) calm f s pairs stands

pub each_cut_is_shown : CutParts → EachCutIsShown
each_cut_is_shown parts w h more m count next low calm f s pairs stands =
    let is : more ≡ lines_in w m = next.lines in
    subst (λ ls. ShowsCut w (h ++ take count ls) f s m count) (sym is)
    (shows_any parts w h m count (record { moment = next.moment; is_due = next.is_due; lines = refl })
    (subst (λ ls. count ≤ length ls) is low) (subst (λ ls. IsCalmHistory (h ++ take count ls)) is calm) f s pairs stands)
