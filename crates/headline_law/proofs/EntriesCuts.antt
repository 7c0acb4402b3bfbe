-- `CutsKeepEntries` from its parts: moves of clients, steps of the server, and the other moves.
-- Towards `CutsShowEntries` (`specs/Parts.antt`).
use Rattle.std.proofs.Common.{◌≡◌, ◌<◌, ◌++◌, ℕ, zero, suc, List, [], ◌∷◌, length, Option, Some, None, refl, sym, subst, arith}
use Rattle.std.proofs.lemmas.List.{append-nil}
use Rattle.scenario_text.specs.declared.line.Line.{Line}
use Rattle.server_rules.specs.History.{Input}
use Rattle.world_history.specs.Calm.{moment_of}
use Rattle.world_history.specs.Moves.{Act, Action, Opens, Delivers, Pends, acts}
use Rattle.world_history.specs.Moves as moves
use Rattle.world_history.specs.Sending.{Move, move, sent_lines}
use Rattle.world_history.specs.ServerNames.{File}
use Rattle.world_history.specs.State.{World}
use Rattle.history_law.specs.Moments.{with_event, lines_in}
use Rattle.history_law.specs.Doing.{input_in}
use Rattle.fence_law.specs.State.{State}
use Rattle.file_simulation.specs.ClientEvents.{Going, going_in}
use Rattle.file_simulation.specs.Showing.{Pairs, ArePaired}
use Rattle.headline_law.specs.EntriesTied.{ServersKeepEntries, EntriesKept, CutsKeepEntries}
use Rattle.file_simulation.specs.Tied.{AreTied, IsSingle}
use Rattle.headline_law.specs.Parts.{CutShown, cut_at, lines_to}
use Rattle.headline_law.proofs.EntriesActs.{ActsSo, Turns, Refuses, acts_so}
use Rattle.headline_law.proofs.EntriesClients.{client_shows, shows_single}
use Rattle.headline_law.proofs.EntriesFacts.{FactLaws, turns_are_tied}
use Rattle.headline_law.proofs.EntriesShown.{shown_by}

-- A move of a drive, or of nobody, keeps the entries.
abbrev pub DrivesKeepEntries : Type 0
DrivesKeepEntries =
    (w : World) (h : List Line) (m : Move) (count : ℕ) (f g : File) (s : State) (pairs : Pairs) →
    (k : CutShown w h m count f g s pairs) → AreTied w h s f.kept.number pairs → going_in w m.action ≡ None →
    input_in w m.action ≡ None → EntriesKept w h m count (cut_at k.shown.follows) f.kept.number pairs

-- Behind a whole move of a client its pairs are tied.
abbrev pub ClientsKeepTied : FactLaws → Type 0
ClientsKeepTied laws =
    (w : World) (h : List Line) (m : Move) (count : ℕ) (f g : File) (s : State) (pairs : Pairs) →
    (k : CutShown w h m count f g s pairs) → (tied : AreTied w h s f.kept.number pairs) → (j : Going) →
    (goes : going_in w m.action ≡ Some j) → (some : 0 < count) → count ≡ length (lines_in w m) →
    AreTied (move w m).world (lines_to w h m count) (cut_at k.shown.follows) f.kept.number
    (client_shows laws.client w h m count f g s pairs k tied j goes (turns_are_tied laws) some).pairs

-- ---- a client's move has lines

some_told : (w : World) (a : Action) (g : Going) (x : Act) → going_in w a ≡ Some g → ActsSo a g x → (sent : List Line) →
    with_event a (x.told ++ sent) ≡ [] → ⊥
some_told w (Opens e) g x goes so sent none = cc none
some_told w (Delivers n) g x goes (Turns other taken wrote logged told posts) sent none =
    cc (subst (λ (ls : List Line). ls ++ sent ≡ []) told none)
some_told w (Delivers n) g x goes (Refuses op e is refuses front told posts) sent none = cc front
some_told w (moves.TimesOut c n) g x goes (Turns other taken wrote logged told posts) sent none =
    cc (subst (λ (ls : List Line). ls ++ sent ≡ []) told none)
some_told w (moves.TimesOut c n) g x goes (Refuses op e is refuses front told posts) sent none = cc front
some_told w (Pends c) g x goes so sent none = cc goes

some_lines : (w : World) (m : Move) (g : Going) → going_in w m.action ≡ Some g → lines_in w m ≡ [] → ⊥
unfolding sent_lines
some_lines w m g goes none =
    some_told w m.action g (acts w m.chosen m.action) goes (acts_so w m.chosen m.action g goes)
    (sent_lines (length (acts w m.chosen m.action).world.network.messages) (acts w m.chosen m.action).posts) none

none_long : (ls : List Line) → zero ≡ length ls → ls ≡ []
none_long [] e = refl
none_long (l ∷ ls) e = absurd (omega (arith, e))

-- ---- any move

module _ (laws : FactLaws) (clients : ClientsKeepTied laws) (servers : ServersKeepEntries) (drives : DrivesKeepEntries) where
  -- before its first line
  none_there : (w : World) (h : List Line) (m : Move) (f g : File) (s : State) (pairs : Pairs) →
      (k : CutShown w h m zero f g s pairs) → AreTied w h s f.kept.number pairs → (j : Going) → going_in w m.action ≡ Some j →
      EntriesKept w h m zero (cut_at k.shown.follows) f.kept.number pairs
  none_there w h m f g s pairs k tied j goes =
      let z =
      shown_by laws.client.reading w h m zero f g s pairs k pairs (λ a b n. n)
      (subst (λ (ls : List Line). ArePaired s f.kept.number (moment_of ls).log.entries pairs) (sym (append-nil h))
      k.shown.shown.paired) tied.single in
      record {
        shown = z.0;
        single = subst IsSingle (sym z.1) tied.single;
        tied = λ full. absurd (some_lines w m j goes (none_long (lines_in w m) full));
      }

  client_keeps : (w : World) (h : List Line) (m : Move) (count : ℕ) (f g : File) (s : State) (pairs : Pairs) →
      (k : CutShown w h m count f g s pairs) → AreTied w h s f.kept.number pairs → (j : Going) → going_in w m.action ≡ Some j →
      EntriesKept w h m count (cut_at k.shown.follows) f.kept.number pairs
  client_keeps w h m zero f g s pairs k tied j goes = none_there w h m f g s pairs k tied j goes
  client_keeps w h m (suc n) f g s pairs k tied j goes =
      let some : 0 < suc n = omega arith in
      record {
        shown = client_shows laws.client w h m (suc n) f g s pairs k tied j goes (turns_are_tied laws) some;
        single = shows_single laws.client w h m (suc n) f g s pairs k tied j goes (turns_are_tied laws) some;
        tied = clients w h m (suc n) f g s pairs k tied j goes some;
      }

  pub cuts_keep_entries : CutsKeepEntries
  cuts_keep_entries w h m count f g s pairs k tied = by (going_in w m.action) (input_in w m.action) refl refl
    where
      by : (o : Option Going) (i : Option Input) → going_in w m.action ≡ o → input_in w m.action ≡ i →
          EntriesKept w h m count (cut_at k.shown.follows) f.kept.number pairs
      by (Some j) i goes input = client_keeps w h m count f g s pairs k tied j goes
      by None (Some i) goes input = servers w h m count f g s pairs k tied i input
      by None None goes input = drives w h m count f g s pairs k tied goes input
