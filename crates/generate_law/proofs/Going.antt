-- The scenario's calls go on from rest to rest.
use Rattle.std.proofs.Common.{◌≡◌, ◌<◌, ◌%◌, ◌+◌, ℕ, zero, suc, List, [], ◌∷◌, ◌++◌, map, refl, sym, ap, subst, ◌∙◌, append_assoc, arith, inr}
use Rattle.std.proofs.Math.Nat.{mod-lt}
use Rattle.std.proofs.lemmas.List.{append-nil}
use Rattle.scenario_text.specs.declared.event.Call.{Call}
use Rattle.scenario_text.specs.declared.event.Event.{Event}
use Rattle.scenario_text.specs.declared.event.Event.TheVariants.{Do}
use Rattle.scenario_text.specs.declared.line.Line.{Line}
use Rattle.scenario_text.specs.declared.line.Line.TheVariants as line
use Rattle.world_history.specs.ServerNames.{File}
use Rattle.world_history.specs.State.{World}
use Rattle.world_history.specs.Moves.{op_of}
use Rattle.world_history.specs.Runs.{Carries, lines_of}
use Rattle.world_history.specs.History.{Step, StandsFor, Lawful, OneEventMore, end_of, lines_of_steps}
use Rattle.world_history.specs.History.Begins.{Nothing}
use Rattle.history_law.specs.Grants.{GrantsAreSafe}
use Rattle.history_law.proofs.Coming.{clean_front}
use Rattle.history_law.proofs.Staying.{written_front}
use Rattle.exchange_law.proofs.CountGrowing.{fewer, text_front}
use Rattle.cause_law.proofs.Eventless.{moves_plain}
use Rattle.ready_law.specs.Answered.{scene_in}
use Rattle.ready_law.specs.Events.{IsOver}
use Rattle.ready_law.specs.Ready.{Scene, IsReady, scene_of, lost_of}
use Rattle.ready_law.specs.Rested.{LeavesRest, ReadyCallsLeaveRest}
use Rattle.ready_law.specs.Worlds.{ScenesAreRead}
use Rattle.generate_law.specs.Going.{GoesWell, CallsKeepRest}
use Rattle.generate_law.specs.Rests.{FILE_SIZE, Rests}
use Rattle.generate_law.specs.Scenario.{call_of, call_event, calls_from, first_call, first_write, next_random}
use Rattle.generate_law.proofs.Readiness.{IsInside, call_inside, is_ready, its_file, none}
use Rattle.generate_law.proofs.Resting.{first_inside, first_rest_begins, rests_go_on}

-- it goes well up to each front
pub front_well : (h rest : List Line) → GoesWell (h ++ rest) → GoesWell h
front_well h rest g = record {
  written = written_front h rest g.written;
  text = text_front h rest g.text;
  few = fewer h rest g.few;
  clean = clean_front h rest g.clean;
}

module _ (more : OneEventMore) (leaves : ReadyCallsLeaveRest) (safe : GrantsAreSafe) (scenes : ScenesAreRead) where
  -- ---- one call, of whatever size the file is

  module _ (size c : ℕ) (low : c < 3) (x : Call) (it : IsInside (op_of x)) (w v : World) (h lines : List Line)
      (here : StandsFor w h) (r : Rests size (scene_of w h)) (d : Carries w (Do c x) lines v) (good : GoesWell (h ++ lines)) where
    abbrev body : List Line
    body = lines_of w d.moves

    behind : StandsFor v (h ++ lines)
    behind = more w v h lines (Do c x) here d

    lawful : Lawful (h ++ lines)
    lawful = record {
      world = v;
      whole = h ++ lines;
      stands = behind;
      last = [];
      begins = Nothing refl;
      lines_are = sym (append-nil (h ++ lines));
    }

    over : IsOver (h ++ lines) h (Do c x) body
    over = record {
      after = [];
      lines_are =
          ap (λ (ls : List Line). h ++ ls)
          (d.lines_are ∙ ap (λ (ls : List Line). line.Event (Do c x) ∷ ls) (sym (append-nil body)));
      alone = moves_plain w (Do c x) d.moves d.are_due;
      closed = inr (refl, (v, behind));
    }

    abbrev Leaves : Scene → Type 0
    Leaves z =
        (q : IsReady z c (op_of x)) → lost_of z q.file.kept ≡ []
        → LeavesRest z (scene_in (h ++ line.Event (Do c x) ∷ body)) c (op_of x) q.file

    left : Leaves (scene_of w h)
    left =
        subst Leaves (scenes w h here (written_front h lines good.written))
        (λ q whole. leaves (h ++ lines) lawful good.written good.text good.few h body c
        x over q whole)

    abbrev Rested : File → List Line → Type 0
    Rested f ls = LeavesRest (scene_of w h) (scene_in ls) c (op_of x) f

    pub rested : LeavesRest (scene_of w h) (scene_of v (h ++ lines)) c (op_of x) r.file
    rested =
        let ready = is_ready safe w h here size r c low (op_of x) it.file it.short it.inside in
        let same : ready.file ≡ r.file = its_file safe w h here size r c low (op_of x) it.file it.short it.inside in
        let whole : lost_of (scene_of w h) ready.file.kept ≡ [] =
        subst (λ (f : File). lost_of (scene_of w h) f.kept ≡ []) (sym same)
        (none safe w h here size r c low (op_of x) it.file it.short it.inside) in
        let there : Rested r.file (h ++ lines) =
        subst (λ (f : File). Rested f (h ++ lines)) same
        (subst (Rested ready.file) (ap (λ (ls : List Line). h ++ ls) (sym d.lines_are)) (left ready whole)) in
        subst (λ (z : Scene). LeavesRest (scene_of w h) z c (op_of x) r.file) (scenes v (h ++ lines) behind good.written) there

  one_call : (k x : ℕ) (w v : World) (h lines : List Line) → StandsFor w h → Rests FILE_SIZE (scene_of w h)
      → Carries w (call_event k x) lines v → GoesWell (h ++ lines) → Rests FILE_SIZE (scene_of v (h ++ lines))
  one_call k x w v h lines here r d good =
      rests_go_on (scene_of w h) (scene_of v (h ++ lines)) r k x good.clean
      (rested FILE_SIZE (k % 3) (mod-lt k {m = 3} (omega arith)) (call_of k x) (call_inside k x) w v h lines here r d good)

  -- the first call
  pub one_first : (w v : World) (h lines : List Line) → StandsFor w h → Rests 0 (scene_of w h) → Carries w first_call lines v
      → GoesWell (h ++ lines) → Rests FILE_SIZE (scene_of v (h ++ lines))
  one_first w v h lines here r d good =
      first_rest_begins (scene_of w h) (scene_of v (h ++ lines)) r good.clean
      (rested 0 0 (omega arith) first_write first_inside w v h lines here r d good)

  -- ---- any number of them

  pub calls_keep_rest : CallsKeepRest
  calls_keep_rest zero k x w h [] here r carried are good =
      subst (λ (ls : List Line). Rests FILE_SIZE (scene_of w ls)) (sym (append-nil h)) r
  calls_keep_rest zero k x w h (s ∷ steps) here r carried are good = absurd (cc are)
  calls_keep_rest (suc n) k x w h [] here r carried are good = absurd (cc are)
  calls_keep_rest (suc n) k x w h (s ∷ steps) here r carried are good =
      let is : s.event ≡ call_event k x = cc are in
      let rest : map (λ (t : Step). t.event) steps ≡ calls_from n (k + 1) (next_random x) = cc are in
      let split : (h ++ s.lines) ++ lines_of_steps steps ≡ h ++ (s.lines ++ lines_of_steps steps) =
      append_assoc h s.lines (lines_of_steps steps) in
      let well : GoesWell ((h ++ s.lines) ++ lines_of_steps steps) = subst GoesWell (sym split) good in
      let its : Carries w (call_event k x) s.lines s.after =
      subst (λ (e : Event). Carries w e s.lines s.after) is carried.0 in
      subst (λ (ls : List Line). Rests FILE_SIZE (scene_of (end_of s.after steps) ls)) split
      (calls_keep_rest n (k + 1) (next_random x) s.after (h ++ s.lines) steps
      (more w s.after h s.lines (call_event k x) here its)
      (one_call k x w s.after h s.lines here r its (front_well (h ++ s.lines) (lines_of_steps steps) well)) carried.1 rest
      well)
