-- An event that isn't refused, from its line to the end of its first move.
use Rattle.std.specs.Prelude.{OnOk, OnErr}
use Rattle.std.proofs.Common.{arith, ℕ, ◌≡◌, ◌≤◌, ◌+◌, ◌++◌, ◌∷◌, [], List, append_assoc, drop, length, None, Result, Ok, Err, refl, sym, ap, subst, ◌∙◌}
use Rattle.std.proofs.lemmas.List.{length-append, length-map}
use Rattle.scenario_text.specs.declared.event.Event.{Event}
use Rattle.scenario_text.specs.declared.line.Line.{Line}
use Rattle.scenario_text.specs.declared.line.Line.TheVariants as line
use Rattle.world_history.specs.declared.err.WorldErr.{WorldErr}
use Rattle.world_history.specs.declared.err.WorldErr.TheVariants.{Memory}
use Rattle.world_history.specs.State.{World}
use Rattle.world_history.specs.Moves.{Action, Opens, begins, acts}
use Rattle.world_history.specs.Plans.{rule_of, plan_of}
use Rattle.world_history.specs.Refusals.{refusal}
use Rattle.world_network.specs.declared.acts.Act.{Act}
use Rattle.world_network.specs.Acts.{IsAct}
use Rattle.world_history.specs.Moves.{Act as WorldAct}
use Rattle.layout_world.specs.declared.parties.Parties.{Parties}
use Rattle.layout_world.specs.State.{ShowsWith, Shows}
use Rattle.world_history.specs.Laws.{shown}
use Rattle.world_history.specs.ServerNames.{Mended}
use Rattle.world_history.specs.Sending.{Move, move}
use Rattle.world_history.specs.Calm.{mended_in}
use Rattle.world_watch.specs.State.{WatchState}
use Rattle.history_law.specs.BookMoments.{with_event, lines_in}
use Rattle.history_law.specs.Doing.{did_in}
use Rattle.layout_world.specs.Acting.{ActsWith, ends_in, Grows}
use Rattle.layout_world.specs.Going.{SeesAct, Sees, Performed, MovesBy, Far, Broken, Comes, Finishes, FinishesSeen, Ended, behind}
use Rattle.layout_world.specs.Watching.{LeavesTold}
use Rattle.layout_world.proofs.Going.{comes, broken_here}
use Rattle.layout_world.proofs.Moved.{sees_own, given_act}
use Rattle.history_law.proofs.Counting.{acts_count}

-- its first move
sees_first : (w : World) (m : Move) (e : Event) (new : Parties) (n : ℕ) (before told after : List Line) (s t : WatchState)
    (r : Result (Unit {0}) WorldErr) → m.action ≡ Opens e → n ≡ length before → told ≡ before ++ line.Event e ∷ []
    → LeavesTold s t → Performed (acts w m.chosen m.action) new told after r
    → OnOk r (n ≤ length after → SeesAct (acts w m.chosen m.action) (mended_in (did_in w m)) (drop n after) s t)
    → OnOk r (Sees w m s t)
sees_first w m e new n before told after s t (Ok u) opens place is leaves p h =
    let own : lines_in w m ≡ line.Event e ∷ (move w m).lines =
    ap (λ (a : Action). with_event a (move w m).lines) opens in
    sees_own w m n before after s t place
    (p.1 ∙ ap (λ (ls : List Line). ls ++ (move w m).lines) is ∙ append_assoc before (line.Event e ∷ []) (move w m).lines
    ∙ ap (λ (ls : List Line). before ++ ls) (sym own)) leaves h
sees_first w m e new n before told after s t (Err x) opens place is leaves p h = tt

pub opens : (w : World) (e : Event) (old mid new : Parties) (act : Act) (s t : WatchState) (n : ℕ)
    (before told after : List Line) (r : Result (Unit {0}) WorldErr) → told ≡ before ++ line.Event e ∷ []
    → ActsWith (λ v chosen. begins v chosen e) (ends_in (Opens e)) old mid act
    → ((a : WorldAct) (ended : List Mended) → IsAct a.told a.posts act → ShowsWith ended mid a.world
    → Performed a new told after r)
    → OnOk r ((a : WorldAct) (ended : List Mended) → IsAct a.told a.posts act → ShowsWith ended mid a.world
    → n ≤ length after → SeesAct a ended (drop n after) s t)
    → n ≡ length before → LeavesTold s t
    → Shows old w → refusal w e ≡ None → Comes w e before s (behind (rule_of w e)) new t after r
opens w e old mid new act s t n before told after r is does performs sees place leaves x a =
    let did = does w x in
    let m : Move = record { action = Opens e; chosen = did.chosen } in
    let first : Far w e before s (plan_of w e) old s (before ++ line.Event e ∷ []) = record {
      allowed = a;
      moves = [];
      are_due = tt;
      plan_is = refl;
      lines_are = refl;
      shows = x;
      sees = (refl, refl);
    } in
    let made : Performed (begins w did.chosen e) new told after r =
    performs (begins w did.chosen e) (ends_in (Opens e) w did.chosen) did.is did.shows in
    let moved : MovesBy w (Opens e) new s t told after r = record {
      chosen = did.chosen;
      performed = made;
      sees = sees_first w m e new n before told after s t r refl place is leaves made
          (given_act act mid n after s t r (begins w did.chosen e) (ends_in (Opens e) w did.chosen) did.is did.shows sees);
    } in
    comes w e before s (plan_of w e) old s (before ++ line.Event e ∷ []) first (Opens e) new t after r refl
    (subst (λ (y : List Line). MovesBy w (Opens e) new s t y after r) is moved)

-- an event that came to its end breaks off there
pub broken_behind : (w : World) (e : Event) (before : List Line) (watch : WatchState) (p : Parties) (now : WatchState)
    (lines : List Line) → Ended w e before watch p now lines → Broken w e before lines
broken_behind w e before watch p now lines x = broken_here w e before watch x.plan p now lines x.far

-- ---- no message is taken away

shown_count : (p : Parties) (w : World) → Shows p w → length p.network.messages ≡ length w.network.messages
shown_count p w s = ap length s.network.messages ∙ length-map w.network.messages shown

pub sent_then : (e : Event) (old mid new : Parties) (act : Act) (r : Result (Unit {0}) WorldErr)
    → ActsWith (λ v chosen. begins v chosen e) (ends_in (Opens e)) old mid act →
    OnOk r (Grows mid.network.messages new.network.messages)
    → OnOk r ((w : World) → Shows old w → length old.network.messages ≤ length new.network.messages)
sent_then e old mid new act (Err x) does g = tt
sent_then e old mid new act (Ok u) does g = λ w s.
    let did = does w s in
    let a : length old.network.messages ≡ length w.network.messages = shown_count old w s in
    let b : length mid.network.messages ≡ length (begins w did.chosen e).world.network.messages =
    ap length did.shows.network.messages ∙ length-map (begins w did.chosen e).world.network.messages shown in
    let n : length (begins w did.chosen e).world.network.messages ≡ length w.network.messages =
    (acts_count w did.chosen (Opens e)).messages in
    let m : length new.network.messages ≡ length mid.network.messages + length g.0 =
    ap length g.1 ∙ length-append mid.network.messages g.0 in
    omega (arith, a, b, n, m)

-- ---- an event that was carried out, or for which there was no memory behind its lines

pub seen_end : (w : World) (e : Event) (before : List Line) (watch : WatchState) (p : Parties) (middle now : WatchState)
    (lines : List Line) (r : Result (Unit {0}) WorldErr) → Finishes w e before watch p middle lines (Ok tt)
    → OnErr r (r ≡ Err Memory) → now.moments ≡ middle.moments → FinishesSeen w e before watch p now lines r
seen_end w e before watch p middle now lines (Ok u) x h same = (middle, x, same)
seen_end w e before watch p middle now lines (Err y) x h same = (
  middle,
  subst (λ (r : Result (Unit {0}) WorldErr). Finishes w e before watch p middle lines r) (sym h)
      (broken_behind w e before watch p middle lines x),
  same,
)

-- an event that didn't come to its end
pub unseen_end : (w : World) (e : Event) (before : List Line) (watch : WatchState) (p : Parties) (now : WatchState)
    (lines : List Line) (r : Result (Unit {0}) WorldErr) → Finishes w e before watch p now lines r
    → FinishesSeen w e before watch p now lines r
unseen_end w e before watch p now lines r x = (now, x, refl)
