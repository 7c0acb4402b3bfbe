-- Where the first lines of a move are those of a scenario's text, so are all of them, and there is room for the numbers that the
-- whole move uses: `CutsHaveRoom` (`specs/Parts.antt`).
use Rattle.std.proofs.Common.{◌≡◌, ◌≤◌, ◌^◌, ◌+◌, ◌++◌, ℕ, zero, suc, Bool, false, true≢false, List, [], ◌∷◌, length, map, take, Option, Some, None, refl, sym, subst, inl, inr, arith}
use Rattle.std.specs.List.{AllByRecursion, range_with_len}
use Rattle.std.proofs.lemmas.List.{length-map}
use Rattle.std.proofs.lemmas.List.FromFn.{length-range_with_len}
use Rattle.data_map.specs.declared.check.RawMap.{RawMap}
use Rattle.scenario_text.specs.declared.line.Line.{Line}
use Rattle.scenario_text.specs.declared.line.Line.TheVariants as line
use Rattle.scenario_text.specs.declared.names.TheConstants.{FILES}
use Rattle.client_rules.specs.History.{step as client_step}
use Rattle.server_rules.specs.declared.limits.TheConstants.{MAX_FILE_COMPONENTS}
use Rattle.server_rules.specs.History.{Input, Makes}
use Rattle.server_rules.specs.Laws.{In}
use Rattle.server_rules.specs.Making.{drives_for, refusal}
use Rattle.world_history.specs.declared.limits.TheConstants.{MAX_KEPT}
use Rattle.world_history.specs.Moves.{Action, Opens, Delivers, TimesOut, Pends, acts, begins}
use Rattle.world_history.specs.Plans.{due}
use Rattle.world_history.specs.Sending.{Move, move, sends_all}
use Rattle.world_history.specs.ServerNames.{File, Server}
use Rattle.world_history.specs.ClientNames.{Client}
use Rattle.world_history.specs.State.{World}
use Rattle.history_law.specs.BookMoments.{IsMoment, plan_at, lines_in}
use Rattle.history_law.specs.Doing.{input_in}
use Rattle.history_law.specs.Moments.{with_event}
use Rattle.history_law.specs.Steps.{new_file}
use Rattle.exchange_law.specs.Text.{AreOfText, IsOfText, AreFew}
use Rattle.exchange_law.proofs.ClientMoves.{IsKeptByClients, clients_always}
use Rattle.exchange_law.proofs.ClientsCounted.{Fits, fits_kept}
use Rattle.exchange_law.proofs.CountGrowing.{fewer, text_front, text_behind}
use Rattle.exchange_law.proofs.CountMoments.{at_moment, reached}
use Rattle.exchange_law.proofs.CountStepping.{FileFits}
use Rattle.exchange_law.proofs.CountWorlds.{GivenAny, FitsThere, WorldFits, all_fit}
use Rattle.exchange_law.proofs.Making.{good_map}
use Rattle.server_rules.proofs.Components.{length_components}
use Rattle.server_rules.proofs.Placed.{length_made}
use Rattle.component_law.specs.Distinct.{AreDistinct as FilesDiffer}
use Rattle.component_law.specs.Words.{Each}
use Rattle.component_law.proofs.Doing.{IsAllowed}
use Rattle.component_law.proofs.Inside.{shape_each, opens_each}
use Rattle.component_law.proofs.Moments.{allowed_at}
use Rattle.component_law.proofs.NextMoves.{acts_shape}
use Rattle.component_law.proofs.Shapes.{is_event}
use Rattle.cause_law.proofs.Files.{few_there}
use Rattle.load_law.proofs.Lists.{AreDistinct, no_longer, in_range}
use Rattle.file_simulation.specs.Claim.{IsOfScenario}
use Rattle.file_simulation.specs.ClientEvents.{Going, going_in}
use Rattle.relation_law.specs.Frames.{ByClient}
use Rattle.relation_law.specs.Steps.{HasNonces}
use Rattle.relation_law.proofs.FramesFiles.{files_distinct}
use Rattle.relation_law.proofs.FramesParties.{client_goes, server_rests, server_steps}
use Rattle.relation_law.proofs.MessagesAlways.{new_fine, turn_is_fine}
use Rattle.relation_law.proofs.MessagesRun.{IsFine}
use Rattle.headline_law.specs.Parts.{CutsHaveRoom}
use Rattle.headline_law.proofs.CalmAnswers.{given_by}
use Rattle.headline_law.proofs.ClientLawful.{first_text}
use Rattle.headline_law.proofs.RoomCalls.{few_dealt}
use Rattle.headline_law.proofs.RoomObjects.{step_uses_few}
use Rattle.headline_law.proofs.RoomTurns.{CallDealt, ClientDealt, more_client, step_dealt}

-- ---- the text

inside : (l : Line) → is_event l ≡ false → IsOfText l
inside (line.Event e) none = absurd (true≢false none)
inside l none = tt

each_text : (ls : List Line) → Each IsOfText ls → AreOfText ls
each_text [] each = tt
each_text (l ∷ ls) each = (each.0, each_text ls each.1)

text_more : (xs ys : List Line) → AreOfText xs → AreOfText ys → AreOfText (xs ++ ys)
text_more [] ys t u = u
text_more (x ∷ xs) ys t u = (t.0, text_more xs ys t.1 u)

-- the line of its event is the only one that a text has
lines_text : (w : World) (chosen : List ℕ) (action : Action) → IsAllowed w action → AreOfText (with_event action []) →
    AreOfText (lines_in w (record { action = action; chosen = chosen }))
lines_text w chosen (Opens e) allowed text =
    (text.0, each_text (sends_all (begins w chosen e)).lines (opens_each IsOfText inside w chosen e allowed))
lines_text w chosen (Delivers n) allowed text =
    each_text (sends_all (acts w chosen (Delivers n))).lines
    (shape_each IsOfText inside _ (acts_shape w chosen (Delivers n) refl))
lines_text w chosen (TimesOut c k) allowed text =
    each_text (sends_all (acts w chosen (TimesOut c k))).lines
    (shape_each IsOfText inside _ (acts_shape w chosen (TimesOut c k) refl))
lines_text w chosen (Pends c) allowed text =
    each_text (sends_all (acts w chosen (Pends c))).lines
    (shape_each IsOfText inside _ (acts_shape w chosen (Pends c) refl))

-- ---- how many files there are

none_with : (n : ℕ) (fs : List File) → Each (λ (f : File). f.kept.number ≡ n → ⊥) fs →
    In n (map (λ (f : File). f.kept.number) fs) → ⊥
none_with n [] each i = i
none_with n (f ∷ fs) each (inl e) = each.0 (sym e)
none_with n (f ∷ fs) each (inr i) = none_with n fs each.1 i

numbers_differ : (fs : List File) → FilesDiffer fs → AreDistinct (map (λ (f : File). f.kept.number) fs)
numbers_differ [] d = tt
numbers_differ (f ∷ fs) d = (none_with f.kept.number fs d.0, numbers_differ fs d.1)

numbers_low : (objects : ℕ) (fs : List File) → AllByRecursion (FileFits objects) fs → (n : ℕ) →
    In n (map (λ (f : File). f.kept.number) fs) → In n (range_with_len 0 FILES)
numbers_low objects [] fit n i = absurd i
numbers_low objects (f ∷ fs) fit n (inl e) = in_range 0 FILES n (omega arith) (omega (arith, e, fit.0.0.number))
numbers_low objects (f ∷ fs) fit n (inr i) = numbers_low objects fs fit.1 n i

few_files : (objects : ℕ) (fs : List File) → FilesDiffer fs → AllByRecursion (FileFits objects) fs → length fs ≤ FILES
few_files objects fs d fit =
    let few : length (map (λ (f : File). f.kept.number) fs) ≤ length (range_with_len 0 FILES) =
    no_longer (map (λ (f : File). f.kept.number) fs) (range_with_len 0 FILES) (numbers_differ fs d)
    (numbers_low objects fs fit) in
    omega (arith, few, length-map fs (λ (f : File). f.kept.number), length-range_with_len 0 FILES)

-- ---- clients

-- what holds of a client behind so many messages
record Stands (n : ℕ) (c : Client) : Type 0 where
  fits : Fits n c
  fine : IsFine c
  dealt : ClientDealt n c

stands_kept : IsKeptByClients Stands
stands_kept = record {
  more = λ n k c s. record {
    fits = fits_kept.more n k c s.fits;
    fine = s.fine;
    dealt = more_client n (n + k) c (omega arith) s.dealt;
  };
  made = λ n number. record { fits = fits_kept.made n number; fine = new_fine number 1; dealt = tt };
  steps = λ n c i number wrote logged s. record {
    fits = fits_kept.steps n c i number wrote logged s.fits;
    fine = turn_is_fine c i s.fine;
    dealt = more_client n _ (client_step c i).client (omega arith) (step_dealt n c i s.fine s.fits.counts.commands s.dealt);
  };
}

-- ---- a move

module _ (w : World) (h : List Line) (m : Move) (n : ℕ) (k : IsMoment w h) (is_due : due (plan_at k) w ≡ Some m.action)
    (scenario : IsOfScenario (h ++ take (suc n) (lines_in w m))) where
  text : AreOfText h
  text = text_front h (take (suc n) (lines_in w m)) scenario.text

  few : AreFew h
  few = fewer h (take (suc n) (lines_in w m)) scenario.few

  all_text : AreOfText (h ++ lines_in w m)
  all_text =
      text_more h (lines_in w m) text
      (lines_text w m.chosen m.action (allowed_at w h k m.action is_due)
      (first_text m.action (move w m).lines n (text_behind h (take (suc n) (lines_in w m)) scenario.text)))

  sent : length w.network.messages ≤ MAX_KEPT
  sent = few_there w h k few

  there : WorldFits w
  there = at_moment FitsThere all_fit w h k text

  files : length w.server.files ≤ FILES
  files = few_files w.server.next_object w.server.files (files_distinct w (reached w h k)) there.server.files

  given : (i : Input) → input_in w m.action ≡ Some i → GivenAny (Some i)
  given i comes = subst GivenAny comes (given_by w h m.action (move w m).lines all_text)

  makes_few : (i : Input) → GivenAny (Some i) → (x : ℕ) (map_ : RawMap) (tag : ℕ) (zoned : Bool) → i ≡ Makes x map_ tag zoned →
      refusal w.server x map_ zoned ≡ None →
      length (new_file w.server m.chosen x map_ tag zoned).kept.components ≤ MAX_FILE_COMPONENTS
  makes_few i g x map_ tag zoned is none =
      let its : GivenAny (Some (Makes x map_ tag zoned)) = subst (λ (y : Input). GivenAny (Some y)) is g in
      let good = good_map w.server x map_ zoned its.2 none in
      omega (
        arith,
        good.1,
        length_components (drives_for zoned w.server.drives map_ m.chosen) w.server.next_object,
        length_made w.server x map_ zoned m.chosen none,
      )

  objects : (move w m).world.server.next_object ≤ 2 ^ 63
  objects = by (input_in w m.action) refl
    where
      by : (o : Option Input) → input_in w m.action ≡ o → (move w m).world.server.next_object ≤ 2 ^ 63
      by None rests =
          subst (λ (s : Server). s.next_object ≤ 2 ^ 63) (sym (server_rests w m rests)) (omega (arith, there.objects, sent))
      by (Some i) comes =
          subst (λ (s : Server). s.next_object ≤ 2 ^ 63) (sym (server_steps w m i comes))
          (let used = step_uses_few w.server m.chosen i (makes_few i (given i comes)) in
          omega (arith, used, there.objects, sent, files))

  commands : (j : Going) → going_in w m.action ≡ Some j → HasNonces (client_step j.state j.input).client
  commands j goes call is a awaits held holds =
      let its : ByClient w m.action j (acts w m.chosen m.action) = client_goes w h k m is_due j goes in
      let s : Stands (length w.network.messages) j.state =
      subst (Stands (length w.network.messages)) (sym its.state_is)
      (clients_always Stands stands_kept w (reached w h k) j.client its.before its.found) in
      let dealt =
      subst (CallDealt (length w.network.messages) (client_step j.state j.input).client.held) is
      (step_dealt (length w.network.messages) j.state j.input s.fine s.fits.counts.commands s.dealt) in
      let count = few_dealt (length w.network.messages) held call.op call.phase (dealt.1 held holds a awaits) dealt.0 in
      omega (arith, count, sent)

pub cuts_have_room : CutsHaveRoom
cuts_have_room w h m zero k is_due some scenario = absurd (omega (arith, some))
cuts_have_room w h m (suc n) k is_due some scenario = (
  all_text w h m n k is_due scenario,
  record { objects = objects w h m n k is_due scenario; commands = commands w h m n k is_due scenario },
)
