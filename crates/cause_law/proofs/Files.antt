-- At each moment the server's files fit, and so do the answers that it keeps.
use Rattle.std.specs.List.{AllByRecursion}
use Rattle.std.proofs.Common.{◌≡◌, ◌==◌, ℕ, zero, suc, ◌≤◌, ◌^◌, ◌∷◌, Bool, true, false, List, [], Option, Some, None, length, slice_get, sym, subst, arith, if◌then◌else◌}
use Rattle.scenario_text.specs.declared.line.Line.{Line}
use Rattle.scenario_text.specs.declared.line.Line.TheVariants as line
use Rattle.server_rules.specs.Files.{file_at}
use Rattle.server_rules.specs.Grants.{grant_of}
use Rattle.server_rules.specs.Slots.{slot_of}
use Rattle.server_rules.specs.History.{Input}
use Rattle.world_history.specs.ServerNames.{Server, File, Component, Grant, Slot}
use Rattle.world_history.specs.State.{World}
use Rattle.world_history.specs.Sending.{Move, move}
use Rattle.world_history.specs.Book.{step_by, server_behind}
use Rattle.history_law.proofs.DriveEvents.{IsRead, kept}
use Rattle.world_history.specs.declared.limits.TheConstants.{MAX_KEPT}
use Rattle.world_history.proofs.Always.{opening, IsKept}
use Rattle.data_map.specs.declared.check.RawMap.{RawMap}
use Rattle.history_law.specs.Doing.{input_in}
use Rattle.history_law.specs.BookMoments.{IsMoment}
use Rattle.history_law.proofs.Doing.{acts_serve}
use Rattle.exchange_law.specs.Meeting.{IsFitting}
use Rattle.exchange_law.specs.Text.{AreOfText, AreFew}
use Rattle.exchange_law.specs.Files.{ComponentFits, GrantFits, KeptFits, AllFilesFit}
use Rattle.exchange_law.proofs.CountGrowing.{as_many, text_front, text_behind}
use Rattle.exchange_law.proofs.Parts.{PartsFit}
use Rattle.exchange_law.proofs.Layouts.{numbers_fit}
use Rattle.exchange_law.proofs.CountStepping.{ServerFits}
use Rattle.exchange_law.proofs.Answering.{GoodBelow, SlotsGood}
use Rattle.exchange_law.proofs.CountTelling.{step_good}
use Rattle.exchange_law.proofs.CountSending.{ReadAny, read_input}
use Rattle.exchange_law.proofs.CountWorlds.{GivenAny, given_event, given_rule, FitsThere, all_fit}
use Rattle.exchange_law.proofs.CountMoments.{at_moment}
use Rattle.cause_law.specs.Readable.{FilesAreFit, KeptAnswersFit}

-- ---- each moment

pub record AreGood (w : World) (h : List Line) : Type 0 where
  pub there : FitsThere w h
  pub slots : AreOfText h → SlotsGood w.server.next_object w.server.slots

pub slots_by : (s : Server) (chosen : List ℕ) (o : Option Input) → ServerFits s → GivenAny o → ReadAny o
    → SlotsGood s.next_object s.slots
    → SlotsGood (server_behind s (step_by s chosen o)).next_object (server_behind s (step_by s chosen o)).slots
slots_by s chosen None k g r slots = slots
slots_by s chosen (Some i) k g r slots = (step_good s chosen i k g r slots).slots

pub move_good : (w : World) (h : List Line) (k : AreGood w h) (m : Move) → GivenAny (input_in w m.action)
    → AreOfText h → SlotsGood (move w m).world.server.next_object (move w m).world.server.slots
move_good w h k m g text =
    subst (λ (s : Server). SlotsGood s.next_object s.slots) (sym (acts_serve w m.chosen m.action).server)
    (slots_by w.server m.chosen (input_in w m.action) (k.there text).server g (read_input w m.action) (k.slots text))

pub all_good : IsKept AreGood
all_good = record {
  starts = record { there = all_fit.starts; slots = λ text. tt };
  opens =
      λ w h e chosen k allowed.
      let m = opening e chosen in
      let lines = (move w m).lines in
      record {
        there = all_fit.opens w h e chosen k.there allowed;
        slots =
            λ text. move_good w h k m (given_event w e (text_behind h (line.Event e ∷ lines) text).0)
            (text_front h (line.Event e ∷ lines) text);
      };
  moves =
      λ w h r m k due. record {
        there = all_fit.moves w h r m k.there due;
        slots = λ text. move_good w h k m (given_rule w r m.action due) (text_front h (move w m).lines text);
      };
}

-- ---- few numbers are used

pub few_there : (w : World) (h : List Line) → IsMoment w h → AreFew h → length w.network.messages ≤ MAX_KEPT
few_there w h m few = omega (arith, as_many w h (at_moment IsRead kept w h m), few)

pub few_objects : (w : World) (h : List Line) → IsMoment w h → AreOfText h → AreFew h → w.server.next_object ≤ 2 ^ 63
few_objects w h m text few = omega (arith, (at_moment FitsThere all_fit w h m text).objects, few_there w h m few)

-- ---- files

file_kept : (n : ℕ) (fs : List File) (number : ℕ) (f : File)
    → AllByRecursion (λ (x : File). KeptFits n x.kept) fs → file_at fs number ≡ Some f → KeptFits n f.kept
unfolding file_at
file_kept n [] number f k e = absurd (cc e)
file_kept n (x ∷ fs) number f k e = either (x.kept.number == number) (λ d. file_kept n fs number f k.1 d) e
  where
    either : (b : Bool) → (file_at fs number ≡ Some f → KeptFits n f.kept)
        → (if b then Some x else file_at fs number) ≡ Some f → KeptFits n f.kept
    either true rest e = let same : x ≡ f = cc e in subst (λ (y : File). KeptFits n y.kept) same k.0
    either false rest e = rest e

grant_fits : (number : ℕ) (m : RawMap) (gs : List Grant) (c : ℕ) (g : Grant) → AllByRecursion (GrantFits number m) gs
    → grant_of gs c ≡ Some g → GrantFits number m g
grant_fits number m [] c g k e = absurd (cc e)
grant_fits number m (x ∷ gs) c g k e = either (x.client == c) (λ d. grant_fits number m gs c g k.1 d) e
  where
    either : (b : Bool) → (grant_of gs c ≡ Some g → GrantFits number m g)
        → (if b then Some x else grant_of gs c) ≡ Some g → GrantFits number m g
    either true rest e = let same : x ≡ g = cc e in subst (GrantFits number m) same k.0
    either false rest e = rest e

part_fits : (n : ℕ) (cs : List Component) (k : ℕ) (at : Component) → PartsFit n cs → slice_get cs k ≡ Some at
    → ComponentFits n at
part_fits n [] k at fit e = absurd (cc e)
part_fits n (c ∷ cs) zero at fit e = let same : c ≡ at = cc e in subst (ComponentFits n) same fit.0
part_fits n (c ∷ cs) (suc k) at fit e = part_fits n cs k at fit.1 e

fitting_file : (s : Server) (f : File) → s.next_object ≤ 2 ^ 63 → KeptFits s.next_object f.kept → IsFitting s f
fitting_file s f l k = record {
  map = k.map;
  drives =
      λ j at found. let part = part_fits s.next_object f.kept.components j at k.components found in
      omega (arith, part.drive);
  fits =
      λ c g found. numbers_fit s.drives s.next_object f.kept g l k
      (grant_fits f.kept.number f.kept.map f.kept.grants c g k.grants found);
}

pub files_are_fit : AllFilesFit → FilesAreFit
files_are_fit all w h m text few n f found =
    fitting_file w.server f (few_objects w h m text few)
    (file_kept w.server.next_object w.server.files n f (all w h m text) found)

-- ---- answers

slot_good : (n : ℕ) (ss : List Slot) (c : ℕ) (t : Slot) → SlotsGood n ss → slot_of ss c ≡ Some t → GoodBelow n t.kept
slot_good n [] c t k e = absurd (cc e)
slot_good n (s ∷ ss) c t k e = either (s.client == c) (λ d. slot_good n ss c t k.1 d) e
  where
    either : (b : Bool) → (slot_of ss c ≡ Some t → GoodBelow n t.kept)
        → (if b then Some s else slot_of ss c) ≡ Some t → GoodBelow n t.kept
    either true rest e = let same : s ≡ t = cc e in subst (λ (x : Slot). GoodBelow n x.kept) same k.0
    either false rest e = rest e

pub kept_answers_fit : KeptAnswersFit
kept_answers_fit w h m text few c t found =
    let slots = (at_moment AreGood all_good w h m).slots text in
    (slot_good w.server.next_object w.server.slots c t slots found (few_objects w h m text few)).0
