-- An action that is performed is a move.
use Rattle.std.proofs.Common.{◌≡◌, ◌≤◌, ◌++◌, ℕ, ◌+◌, List, [], length, drop, Result, Ok, Err, refl, sym, ap, subst, ◌∙◌, arith}
use Rattle.std.specs.Prelude.{OnOk}
use Rattle.std.proofs.lemmas.List.{length-append}
use Rattle.std.proofs.Math.Seq.{drop-append_seam}
use Rattle.scenario_text.specs.declared.line.Line.{Line}
use Rattle.world_history.specs.declared.err.WorldErr.{WorldErr}
use Rattle.world_history.specs.declared.err.WorldErr.TheVariants.{Memory}
use Rattle.world_history.specs.declared.messages.Sent.{Sent}
use Rattle.world_history.specs.ServerNames.{Mended}
use Rattle.world_history.specs.State.{World}
use Rattle.world_history.specs.Moves.{Act as WorldAct, Action, acts}
use Rattle.world_history.specs.Sending.{Move, move}
use Rattle.world_history.specs.Calm.{mended_in}
use Rattle.world_history.specs.Reading.{arrived}
use Rattle.world_network.specs.Network.{NetworkState}
use Rattle.world_network.specs.declared.acts.Act.{Act}
use Rattle.world_network.specs.Acts.{IsAct}
use Rattle.layout_world.specs.declared.parties.Parties.{Parties}
use Rattle.world_watch.specs.State.{WatchState}
use Rattle.history_law.specs.BookMoments.{with_event, lines_in}
use Rattle.history_law.specs.Doing.{did_in}
use Rattle.layout_world.specs.State.{Settled, ShowsWith}
use Rattle.layout_world.specs.Acting.{ActsWith, ends_in, Marked, Grows}
use Rattle.layout_world.specs.Going.{SeesAct, Sees, Performed, Moves, SettlesOne}
use Rattle.layout_world.specs.Watching.{LeavesTold}
use Rattle.layout_world.proofs.Settling.{get_in, settled_more, settled_next}
use Rattle.layout_world.proofs.Performing.{nothing_performed}

-- the watch saw the lines of a move, which begin at a place of all lines
pub sees_own : (w : World) (m : Move) (n : ℕ) (base after : List Line) (s t : WatchState) → n ≡ length base
    → after ≡ base ++ lines_in w m → LeavesTold s t
    → (n ≤ length after
    → SeesAct (acts w m.chosen m.action) (mended_in (did_in w m)) (drop n after) s t)
    → Sees w m s t
sees_own w m n base after s t place a told h =
    let within : n ≤ length after =
    omega (arith, place, ap (λ (ls : List Line). length ls) a ∙ length-append base (lines_in w m)) in
    let own : drop n after ≡ lines_in w m =
    ap (λ (k : ℕ). drop k after) place ∙ ap (λ (ls : List Line). drop (length base) ls) a
    ∙ drop-append_seam base (lines_in w m) in (
      told.0,
      subst (λ (ls : List Line). SeesAct (acts w m.chosen m.action) (mended_in (did_in w m)) ls s t) own (h within),
    )

sees_ok : (w : World) (m : Move) (n : ℕ) (new : Parties) (before after : List Line) (s t : WatchState)
    (r : Result (Unit {0}) WorldErr) → n ≡ length before → lines_in w m ≡ (move w m).lines → LeavesTold s t
    → Performed (acts w m.chosen m.action) new before after r
    → OnOk r (n ≤ length after → SeesAct (acts w m.chosen m.action) (mended_in (did_in w m)) (drop n after) s t)
    → OnOk r (Sees w m s t)
sees_ok w m n new before after s t (Ok u) place plain told p h =
    sees_own w m n before after s t place (p.1 ∙ ap (λ (ls : List Line). before ++ ls) (sym plain)) told h
sees_ok w m n new before after s t (Err e) place plain told p h = tt

-- what the watch saw of an act, of one world
pub given_act : (act : Act) (mid : Parties) (n : ℕ) (after : List Line) (s t : WatchState)
    (r : Result (Unit {0}) WorldErr) (a : WorldAct) (ended : List Mended) → IsAct a.told a.posts act
    → ShowsWith ended mid a.world
    → OnOk r ((a : WorldAct) (ended : List Mended) → IsAct a.told a.posts act → ShowsWith ended mid a.world
    → n ≤ length after → SeesAct a ended (drop n after) s t)
    → OnOk r (n ≤ length after → SeesAct a ended (drop n after) s t)
given_act act mid n after s t (Ok u) a ended i x h = h a ended i x
given_act act mid n after s t (Err e) a ended i x h = tt

pub moves_by : (action : Action) (old mid new : Parties) (act : Act) (s t : WatchState) (n : ℕ) (before after : List Line)
    (r : Result (Unit {0}) WorldErr) → ActsWith (λ w chosen. acts w chosen action) (ends_in action) old mid act
    → ((a : WorldAct) (ended : List Mended) → IsAct a.told a.posts act → ShowsWith ended mid a.world
    → Performed a new before after r)
    → OnOk r ((a : WorldAct) (ended : List Mended) → IsAct a.told a.posts act → ShowsWith ended mid a.world
    → n ≤ length after → SeesAct a ended (drop n after) s t)
    → n ≡ length before → LeavesTold s t → ((ls : List Line) → with_event action ls ≡ ls)
    → Moves action old new s t before after r
moves_by action old mid new act s t n before after r does performs sees place told plain = λ w x.
    let d = does w x in
    let m : Move = record { action = action; chosen = d.chosen } in
    record {
      chosen = d.chosen;
      performed = performs (acts w d.chosen action) (ends_in action w d.chosen) d.is d.shows;
      sees = sees_ok w m n new before after s t r place (plain (move w m).lines) told
          (performs (acts w d.chosen action) (ends_in action w d.chosen) d.is d.shows)
          (given_act act mid n after s t r (acts w d.chosen action) (ends_in action w d.chosen) d.is d.shows sees);
    }

pub no_move : (action : Action) (old new : Parties) (s t : WatchState) (lines : List Line)
    → Moves action old new s t lines lines (Err Memory)
no_move action old new s t lines = λ w x.
    record { chosen = []; performed = nothing_performed new (acts w [] action) lines; sees = tt }

pub settles_by : (number : ℕ) (n m : NetworkState) (ms : List Sent) (r : Result (Unit {0}) WorldErr) → Marked number n m
    → OnOk r (Grows m.messages ms) → OnOk r (SettlesOne number n.messages ms)
settles_by number n m ms (Err x) mark g = tt
settles_by number n m ms (Ok u) mark g = λ first next s low.
    let d = mark (get_in n.messages number low.message low.found) in
    let here : Settled first (number + 1) m.messages =
    subst (λ (x : NetworkState). Settled first (number + 1) x.messages) (sym d.state)
    (settled_next first next number n.messages (arrived d.message) refl s low) in
    subst (λ (x : List Sent). Settled first (number + 1) x) (sym g.1) (settled_more first (number + 1) m.messages g.0 here)

pub grows_by : (n m : NetworkState) (ms : List Sent) (r : Result (Unit {0}) WorldErr) → m ≡ n
    → OnOk r (Grows m.messages ms) → OnOk r (Grows n.messages ms)
grows_by n m ms r e g = subst (λ (x : NetworkState). OnOk r (Grows x.messages ms)) e g
