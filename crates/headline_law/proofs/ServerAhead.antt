-- A rebuild that a step of the server is still to tell of at a cut can happen there: `AheadIsLawful` (`specs/Parts.antt`).
use Rattle.std.proofs.Common.{◌≡◌, ◌==◌, ◌-◌, ℕ, zero, suc, Bool, true, false, nat_lt, List, [], ◌∷◌, ◌++◌, take, Option, Some, None, refl, sym, ap, subst, arith, if◌then◌else◌}
use Rattle.std.proofs.lemmas.Bool.{le-ltb}
use Rattle.std.proofs.lemmas.Bool.Decides.{nat_tests}
use Rattle.std.specs.Prelude.{drop}
use Rattle.scenario_text.specs.declared.line.Line.{Line}
use Rattle.server_rules.specs.Files.{Step}
use Rattle.server_rules.specs.History.{Input, step}
use Rattle.world_history.specs.ServerNames.{File, Note, NoteKind, Outgoing, Rebuilt}
use Rattle.world_history.specs.State.{World}
use Rattle.world_history.specs.Sending.{Move}
use Rattle.world_history.specs.Book.{step_by}
use Rattle.world_history.specs.Moves as moves
use Rattle.history_law.specs.Doing.{input_in, did_in}
use Rattle.history_law.specs.Read.{leads}
use Rattle.fence_law.specs.State.{State, Event}
use Rattle.fence_law.specs.Machine.{Lawful, after_all}
use Rattle.file_simulation.specs.Cuts.{rebuilt_by, rebuilt_ahead, lines_before, notes_behind}
use Rattle.file_simulation.specs.EventLists.{Lines, where_so}
use Rattle.file_simulation.specs.Events.{joined, led_by, events_of}
use Rattle.file_simulation.specs.DriveEvents.{drive_events}
use Rattle.file_simulation.specs.ServerEvents.{at_first, noted_here, noted, notes_all}
use Rattle.file_simulation.specs.Showing.{Pairs, IsRun}
use Rattle.relation_law.specs.Steps.{owed}
use Rattle.relation_law.proofs.KeptNotes.{after_both, lawful_both}
use Rattle.headline_law.specs.Parts.{FollowsShown, ServersKeepRuns, AheadIsLawful}
use Rattle.headline_law.specs.ServerLines.{MayGo}
use Rattle.headline_law.proofs.ServerClients.{ClientLaws}
use Rattle.headline_law.proofs.ServerJoined.{all_lines, lines_are, lines_may}
use Rattle.headline_law.proofs.ServerLines.{StaysRun}

module _ (w : World) (f : File) where
  -- the rebuild that these notes tell can happen behind the first n of these lines
  abbrev pub AheadAt : State → Lines → (n : ℕ) → List Note → Type 0
  AheadAt s ls n ns = Lawful (after_all s (joined (take n ls))) (rebuilt_ahead (after_all s (joined (take n ls))) w f ns)

  none_ahead : (u : State) → Lawful u (rebuilt_ahead u w f [])
  unfolding rebuilt_ahead
  none_ahead u = tt

  -- behind one line more
  behind_line : (s : State) (es : List Event) (ls : Lines) (n : ℕ) (ns : List Note) → (IsRun s → MayGo s (es ∷ ls))
      → StaysRun s (es ∷ ls) (suc n)
      → ((IsRun (after_all s es) → MayGo (after_all s es) ls) → StaysRun (after_all s es) ls n
      → AheadAt (after_all s es) ls n ns) → AheadAt s (es ∷ ls) (suc n) ns
  unfolding MayGo
  behind_line s es ls n ns may runs later =
      let d = may (runs 0 (omega arith) tt) in
      subst (λ (u : State). Lawful u (rebuilt_ahead u w f ns)) (sym (after_both s es (joined (take n ls))))
      (later d.1
      (λ k low l.
      subst IsRun (after_both s es (joined (take k ls)))
      (runs (suc k) (omega (arith, low)) (lawful_both s es (joined (take k ls)) d.0 l))))

  module _ (g : File) (i : Input) (os : List Outgoing) (more : Lines) where
    -- the lines of some notes, and those behind them
    abbrev lines : State → List Note → Lines
    lines u ns = notes_all u w f g i os ns ++ more

    -- the first note on the file
    told_by : (u : State) (kind : NoteKind) → Lawful u (noted_here u w f i kind) → Lawful u (rebuilt_by u w f kind)
    told_by u (Rebuilt k d) law = law
    told_by u kind law = tt

    by_note : (u : State) (n : Note) (ns : List Note) (b : Bool)
        → Lawful u (where_so b (noted_here u w f i n.kind))
        × (IsRun (after_all u (where_so b (noted_here u w f i n.kind)))
        → MayGo (after_all u (where_so b (noted_here u w f i n.kind)))
        (lines (after_all u (where_so b (noted_here u w f i n.kind))) ns))
        → ((IsRun u → MayGo u (lines u ns)) → Lawful u (rebuilt_ahead u w f ns))
        → Lawful u (if b then rebuilt_by u w f n.kind else rebuilt_ahead u w f ns)
    by_note u n ns true x later = told_by u n.kind x.0
    by_note u n ns false x later = later x.1

    first_ahead : (u : State) (ns : List Note) → IsRun u → MayGo u (lines u ns) → Lawful u (rebuilt_ahead u w f ns)
    unfolding rebuilt_ahead MayGo notes_all
    first_ahead u [] run may = tt
    first_ahead u (n ∷ ns) run may =
        by_note u n ns (n.file == f.kept.number) may (λ later. first_ahead u ns run (later run))

    notes_ahead : (n : ℕ) (u : State) (ns : List Note) → (IsRun u → MayGo u (lines u ns)) → StaysRun u (lines u ns) n
        → AheadAt u (lines u ns) n (drop n ns)
    unfolding notes_all
    notes_ahead zero u ns may runs =
        let run : IsRun u = runs 0 (omega arith) tt in first_ahead u ns run (may run)
    notes_ahead (suc n) u [] may runs = none_ahead (after_all u (joined (take (suc n) (lines u []))))
    notes_ahead (suc n) u (x ∷ ns) may runs =
        let v : State = after_all u (noted u w f i x) in
        behind_line u (noted u w f i x) (lines v ns) n (drop n ns) may runs (λ m r. notes_ahead n v ns m r)

    -- behind the first line
    module _ (s : State) (es : List Event) (ns : List Note) where
      abbrev step_lines : Lines
      step_lines = es ∷ (lines (after_all s es) ns)

      behind_first : (count : ℕ) → (IsRun s → MayGo s step_lines) → StaysRun s step_lines count
          → AheadAt s step_lines count (if nat_lt count 1 then [] else drop (count - 1) ns)
      behind_first zero may runs = none_ahead s
      behind_first (suc n) may runs =
          let less : suc n - 1 ≡ n = omega arith in
          rw (le-ltb (suc n) 1 (omega arith), less)
          (behind_line s es (lines (after_all s es) ns) n (drop n ns) may runs
          (λ m r. notes_ahead n (after_all s es) ns m r))

      -- with a line before it that leads
      behind_lead : (b : Bool) (count : ℕ) → (IsRun s → MayGo s (if b then [] ∷ step_lines else step_lines))
          → StaysRun s (if b then [] ∷ step_lines else step_lines) count
          → AheadAt s (if b then [] ∷ step_lines else step_lines) count
          (if nat_lt count (if b then 2 else 1) then [] else drop (count - (if b then 2 else 1)) ns)
      behind_lead false count may runs = behind_first count may runs
      behind_lead true zero may runs = none_ahead s
      behind_lead true (suc n) may runs =
          let less : suc n - 2 ≡ n - 1 = omega arith in
          let same : nat_lt (suc n) 2 ≡ nat_lt n 1 = grind (arith, nat_tests) in
          rw (same, less)
          (behind_line s [] step_lines n (if nat_lt n 1 then [] else drop (n - 1) ns) may runs
          (λ m r. behind_first n m r))

      behind_action : (a : moves.Action) (count : ℕ) → (IsRun s → MayGo s (led_by a step_lines))
          → StaysRun s (led_by a step_lines) count
          → AheadAt s (led_by a step_lines) count
          (if nat_lt count (lines_before a) then [] else drop (count - lines_before a) ns)
      behind_action (moves.Opens e) count may runs = behind_lead (leads e) count may runs
      behind_action (moves.Delivers n) count may runs = behind_first count may runs
      behind_action (moves.TimesOut c k) count may runs = behind_first count may runs
      behind_action (moves.Pends c) count may runs = behind_first count may runs

-- at a cut of a move
module _ (laws : ClientLaws) (keep : ServersKeepRuns) (w : World) (h : List Line) (m : Move) (count : ℕ) (f g : File) (s : State)
    (pairs : Pairs) (k : FollowsShown w h m count f g s pairs) where
  abbrev At : Option Step → Type 0
  At o = AheadAt w f s (events_of s w (owed k.follows.related) f m) count (notes_behind count m.action o)

  stepped : (i : Input) → input_in w m.action ≡ Some i → At (Some (step w.server m.chosen i))
  stepped i comes =
      let did : Step = step w.server m.chosen i in
      let are : events_of s w (owed k.follows.related) f m
      ≡ led_by m.action (all_lines w h m count f g s k.follows i comes) =
      lines_are w h m count f g s k.follows i comes in
      subst (λ (ls : Lines). AheadAt w f s ls count (notes_behind count m.action (Some did))) (sym are)
      (behind_action w f g i did.sends (drive_events s w (owed k.follows.related) f m.action) s
      (at_first s w.server did f g i) did.notes m.action count
      (λ r. subst (MayGo s) are (lines_may laws w h m count f g s k.follows i comes))
      (subst (λ (ls : Lines). StaysRun s ls count) are (λ n le l. keep w h m count f g s pairs k i comes n le l)))

  by : (o : Option Input) → input_in w m.action ≡ o → At (did_in w m)
  by None comes =
      subst At (sym (ap (step_by w.server m.chosen) comes))
      (none_ahead w f (after_all s (joined (take count (events_of s w (owed k.follows.related) f m)))))
  by (Some i) comes = subst At (sym (ap (step_by w.server m.chosen) comes)) (stepped i comes)

-- A rebuild that is still to be told at a cut can happen there, if steps of the server keep runs calm.
pub ahead_is_lawful : ClientLaws → AheadIsLawful
ahead_is_lawful laws keep w h m count f g s pairs k lawful =
    by laws keep w h m count f g s pairs k (input_in w m.action) refl
