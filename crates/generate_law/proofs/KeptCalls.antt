-- A call of the scenario keeps few bytes from a rest on, at each moment of its event, and tells no loss.
use Rattle.client_rules.specs.Calls.{file_of}
use Rattle.data_map.specs.declared.check.RawMap.{RawMap}
use Rattle.exchange_law.specs.Text.{AreOfText}
use Rattle.generate_law.proofs.KeptHears.{NoLoss}
use Rattle.generate_law.proofs.KeptMoves.{MOST_AT_ONCE}
use Rattle.generate_law.proofs.KeptStages.{IsOfScenario}
use Rattle.generate_law.proofs.KeptWalk.{call_keeps}
use Rattle.generate_law.proofs.Messages.{three_grants, three_opposed, two_touched}
use Rattle.generate_law.proofs.Readiness.{IsInside, is_ready, its_file, none}
use Rattle.generate_law.specs.Few.{MESSAGES_A_CALL}
use Rattle.generate_law.specs.Kept.{BYTES_A_CALL}
use Rattle.generate_law.specs.Rests.{Rests}
use Rattle.generate_law.specs.Scenario.{file_map}
use Rattle.history_law.proofs.Files.{in_at}
use Rattle.history_law.specs.HistoryMoments.{IsReached}
use Rattle.history_law.specs.Read.{AreWritten, is_written}
use Rattle.ready_law.proofs.Calls.{ReadyCall, kept_at, op_at, opposed_at}
use Rattle.ready_law.proofs.Stages.{asking_at, work_at}
use Rattle.ready_law.proofs.Together.{ReadyLaws}
use Rattle.ready_law.specs.Ready.{IsReady, held_by, is_covered, lost_of, scene_of, touched}
use Rattle.scenario_text.specs.Spelling.{Fits}
use Rattle.scenario_text.specs.declared.event.Call.{Call}
use Rattle.scenario_text.specs.declared.line.Line.{Line}
use Rattle.server_rules.proofs.FileLaws.{safe_at}
use Rattle.std.proofs.Common.{ℕ, List, None, [], ap, arith, length, max, refl, subst, sym, true, ◌*◌, ◌+◌, ◌<◌, ◌∙◌, ◌≡◌, ◌≤◌}
use Rattle.world_history.specs.ClientNames.{CallOp}
use Rattle.world_history.specs.History.{StandsFor}
use Rattle.world_history.specs.Moves.{op_of, raw_of}
use Rattle.world_history.specs.Plans.{plan_of}
use Rattle.world_history.specs.Refusals.{refusal}
use Rattle.world_history.specs.Runs.{AreDue, lines_of, world_after}
use Rattle.world_history.specs.Sending.{Move}
use Rattle.world_history.specs.ServerNames.{File}
use Rattle.world_history.specs.State.{World}
use Rattle.world_history.specs.declared.limits.TheConstants.{MAX_KEPT}
use Rattle.scenario_text.specs.declared.event.Event.TheVariants as event

-- From its begin to some moves on the event keeps few bytes more, has few messages more, and tells no loss.
pub record CallIsSmall (u : World) (ms : List Move) : Type 0 where
  pub kept : (world_after u ms).network.kept ≤ u.network.kept + BYTES_A_CALL
  pub few : length (world_after u ms).network.messages ≤ length u.network.messages + MESSAGES_A_CALL
  pub told : NoLoss (lines_of u ms)

at_most : (n comps l : ℕ) → n ≤ 3 → comps ≡ 5 → l ≤ 2 → 6 + 4 * n + 12 * comps * max 1 l + 4 ≤ 208
at_most n comps l a e b = rw e (omega (arith, a, b))

module _ (all : ReadyLaws) (size c : ℕ) (low : c < 3) (x : Call) (its : IsInside (op_of x)) (u : World) (g : List Line)
    (here : StandsFor u g) (r : Rests size (scene_of u g)) where
  abbrev op : CallOp
  op = op_of x

  ready : IsReady (scene_of u g) c op
  ready = is_ready all.asking.safe u g here size r c low op its.file its.short its.inside

  same : ready.file ≡ r.file
  unfolding ready
  same = its_file all.asking.safe u g here size r c low op its.file its.short its.inside

  abbrev s : ReadyCall
  s = record { world = u; history = g; stands = here; client = c; its = x; ready = ready }

  reached_here : IsReached u
  reached_here = record { before = u; history = g; stands = here; moves = []; world_is = refl }

  few_grants : length r.file.kept.grants ≤ 3
  few_grants =
      three_grants r.file.kept.grants (all.asking.order u reached_here r.file (in_at u.server.files 0 r.file r.found)).rise
      (λ a b i j. ((safe_at u.server.files 0 r.file (all.asking.safe u reached_here) r.found).apart a b i j).1) r.granted

  three : length (opposed_at s) ≤ 3
  three =
      three_opposed (scene_of u g) ready.file.kept c op
      (subst (λ (f : File). length f.kept.grants ≤ 3) (sym same) few_grants)
      (is_covered (held_by ready.caller (file_of op)) op)

  map_is : ready.file.kept.map ≡ raw_of file_map
  map_is = ap (λ (f : File). f.kept.map) same ∙ r.its.map

  comps : (kept_at s).map.comps ≡ 5
  comps = ap (λ (m : RawMap). m.comps) map_is

  known : IsOfScenario s
  known = record {
    whole =
        subst (λ (f : File). lost_of (scene_of u g) f.kept ≡ []) (sym same)
        (none all.asking.safe u g here size r c low op its.file its.short its.inside);
    three = three;
    five = (let five : length (kept_at s).components ≡ 5 = ap (λ (f : File). length f.kept.components) same ∙ r.its.count in
        omega (arith, five));
    comps = comps;
    clock = r.clock;
    short = its.short;
    inside = its.inside;
  }

  few_calls : asking_at s + work_at s + 4 ≤ MESSAGES_A_CALL
  few_calls =
      at_most (length (opposed_at s)) (kept_at s).map.comps (length (touched (kept_at s) (op_at s))) three comps
      (two_touched (kept_at s) op map_is its.short)

  pub call_is_small : AreWritten g → AreOfText g → is_written (event.Do c x) ≡ true → Fits (event.Do c x)
      → refusal u (event.Do c x) ≡ None → length u.network.messages + MESSAGES_A_CALL + MOST_AT_ONCE ≤ MAX_KEPT
      → (ms : List Move) → AreDue (plan_of u (event.Do c x)) u ms → CallIsSmall u ms
  call_is_small written text its_written its_text allowed room ms due_all =
      let it = call_keeps all s known few_calls room written text its_written its_text allowed ms due_all in
      record { kept = it.kept; few = it.few; told = it.told }
