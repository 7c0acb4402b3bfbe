-- Each cut of a move shows the entries of a file.
-- Towards `CutsShowEntries` (`specs/Parts.antt`).
use Rattle.std.proofs.Common.{◌≡◌, ◌==◌, ◌<◌, ℕ, Bool, true, false, List, [], ◌∷◌, refl, sym, ap, subst, arith}
use Rattle.std.proofs.lemmas.Bool.{true≢false}
use Rattle.scenario_text.specs.declared.line.Line.{Line}
use Rattle.world_history.specs.ServerNames as server_rules
use Rattle.world_history.specs.ServerNames.{File, Note, NoteKind}
use Rattle.world_history.specs.History.{OneEventMore}
use Rattle.world_history.specs.Laws.{MomentGoesOn, AllLinesGoOn}
use Rattle.world_history.specs.ReadLog.{Log, log_in}
use Rattle.world_history.specs.Calm.{moment_of}
use Rattle.world_history.specs.Sending.{Move}
use Rattle.world_history.specs.State.{World, at_number}
use Rattle.history_law.specs.Doing.{did_in}
use Rattle.component_law.specs.LeftPending.{PendingIsRead}
use Rattle.fence_law.specs.Log.{IsLog}
use Rattle.fence_law.specs.Machine.{Lawful, after, after_all, new_file_state}
use Rattle.fence_law.specs.State.{State, Event}
use Rattle.fence_law.proofs.SizesTold.{Said, keep_said}
use Rattle.file_simulation.specs.Components.{has_failed}
use Rattle.file_simulation.specs.Cuts.{rebuilt_ahead, rebuilt_by, notes_behind}
use Rattle.file_simulation.specs.ServerEvents.{rebuilt}
use Rattle.file_simulation.specs.Showing.{ArePaired, Pairs, IsRun}
use Rattle.relation_law.specs.Frames.{AreAll}
use Rattle.relation_law.specs.Steps.{behind}
use Rattle.relation_law.proofs.FramesClient.{either_all, where_all}
use Rattle.headline_law.specs.Parts.{CutShown, EntriesShown, HasPairs, lines_to, cut_at}
use Rattle.file_simulation.specs.Tied.{AreTied, IsSingle}
use Rattle.headline_law.proofs.EntriesCalls.{Stands, NoneToldAbove}
use Rattle.headline_law.proofs.EntriesLog.{log_of_pairs}
use Rattle.headline_law.proofs.EntriesNamed.{log_well, plain_well, IsWell}
use Rattle.headline_law.proofs.EntriesPairs.{IsSilent, silent_stay, paired_stays}
use Rattle.headline_law.proofs.EntriesRead.{moment_plain, cut_said}

-- ---- what was told

said_all : (b : State) (es : List Event) → Lawful b es → Said b → Said (after_all b es)
said_all b [] l h = h
said_all b (e ∷ es) l h = said_all (after b e) es l.1 (keep_said b e l.0 h)

-- no entry that is still to come was told, in a state that a run has reached
pub run_untold : (s : State) → IsRun s → NoneToldAbove s
run_untold s r j low = by (s.told_client j) refl
  where
    said : Said s
    said =
        subst Said (sym r.state)
        (said_all (new_file_state s.layout) r.events r.lawful (λ i t. absurd (true≢false (sym t))))

    by : (b : Bool) → s.told_client j ≡ b → s.told_client j ≡ false
    by false e = e
    by true e = let l : j < s.count = (said j e).0 in absurd (omega (arith, l, low))

-- ---- a rebuild that is told later

rebuilt_silent : (s : State) (w : World) (f : File) (k d : ℕ) → AreAll IsSilent (rebuilt s w f k d)
rebuilt_silent s w f k d = (tt, where_all IsSilent (has_failed (at_number w.drives d)) _ (tt, tt))

rebuilt_by_silent : (s : State) (w : World) (f : File) (n : NoteKind) → AreAll IsSilent (rebuilt_by s w f n)
rebuilt_by_silent s w f (server_rules.Rebuilt k d) = rebuilt_silent s w f k d
rebuilt_by_silent s w f n = tt

pub ahead_silent : (s : State) (w : World) (f : File) (ns : List Note) → AreAll IsSilent (rebuilt_ahead s w f ns)
unfolding rebuilt_ahead
ahead_silent s w f [] = tt
ahead_silent s w f (n ∷ ns) =
    either_all IsSilent (n.file == f.kept.number) _ _ (rebuilt_by_silent s w f n.kind) (ahead_silent s w f ns)

-- ---- what is shown

-- what is known of lines
pub record ReadingLaws : Type 0 where
  pub moments : MomentGoesOn
  pub lines : AllLinesGoOn
  pub pending : PendingIsRead
  pub more : OneEventMore

module _ (laws : ReadingLaws) (w : World) (h : List Line) (m : Move) (count : ℕ) (f g : File) (s : State) (pairs : Pairs)
    (k : CutShown w h m count f g s pairs) where
  -- the machine behind the lines
  abbrev pub behind_cut : State
  behind_cut = behind k.shown.follows.related m count

  -- If entries are paired behind the lines, they are shown at the cut.
  pub shown_by : (more : Pairs) → HasPairs pairs more →
      ArePaired behind_cut f.kept.number (moment_of (lines_to w h m count)).log.entries more → IsSingle more →
      (z : EntriesShown (lines_to w h m count) (cut_at k.shown.follows) f.kept.number pairs) × (z.pairs ≡ more)
  shown_by more has so single =
      let es : List Event = rebuilt_ahead behind_cut w f (notes_behind count m.action (did_in w m)) in
      let paired = paired_stays behind_cut (cut_at k.shown.follows) f.kept.number
      (moment_of (lines_to w h m count)).log.entries more
      (silent_stay behind_cut es (ahead_silent behind_cut w f (notes_behind count m.action (did_in w m)))) so in (
        record {
          pairs = more;
          more = has;
          paired = paired;
          log =
              subst (IsLog (cut_at k.shown.follows) (cut_at k.shown.follows).count)
              (sym (cut_said laws.moments laws.pending laws.lines laws.more w h k.shown.follows.moment m count f.kept.number))
              (log_of_pairs (cut_at k.shown.follows) f.kept.number (moment_of (lines_to w h m count)).log.entries more paired
              single);
        },
        refl,
      )

  pub shown_of : (more : Pairs) → HasPairs pairs more →
      Stands f.kept.number behind_cut (moment_of (lines_to w h m count)).log more →
      (z : EntriesShown (lines_to w h m count) (cut_at k.shown.follows) f.kept.number pairs) × (z.pairs ≡ more)
  shown_of more has z = shown_by more has z.paired z.single

  pub pending_there : (moment_of h).log.pending ≡ (log_in h).pending
  pending_there =
      ap (λ (l : Log). l.pending)
      (moment_plain laws.moments laws.pending laws.lines laws.more w h k.shown.follows.moment)

  pub well_there : IsWell (moment_of h).log
  well_there =
      plain_well (moment_of h).log
      (subst IsWell (sym (moment_plain laws.moments laws.pending laws.lines laws.more w h k.shown.follows.moment)) (log_well h))

  -- before the move the entries are paired
  pub stands_there : AreTied w h s f.kept.number pairs → Stands f.kept.number s (moment_of h).log pairs
  stands_there tied = record {
    paired = k.shown.shown.paired;
    single = tied.single;
    named = well_there.1;
    untold = run_untold s k.shown.follows.run;
  }
