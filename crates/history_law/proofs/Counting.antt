-- No move gives more grants than it sends messages.
use Rattle.std.proofs.Common.{◌≡◌, ℕ, suc, ◌+◌, ◌≤◌, ◌∷◌, [], List, length, map, refl, ap, arith}
use Rattle.std.proofs.lemmas.List.{length-append}
use Rattle.world_history.specs.State.{World}
use Rattle.world_history.specs.Handed.{Post}
use Rattle.world_history.specs.Moves.{Act, Action, acts}
use Rattle.world_history.specs.Sending.{Move, move, fresh}
use Rattle.history_law.specs.Moves.{MoveCases}
use Rattle.history_law.proofs.Moves.{said_length, each_act}
use Rattle.history_law.specs.Counters.{GrantsAreCounted}
use Rattle.history_law.proofs.HistoryMoments.{always}
use Rattle.history_law.proofs.Counted.{step_counted}

-- no more grants are given than messages sent, and none is forgotten; the bytes that are kept stay until these are sent
pub record Counts (w : World) (a : Act) : Type 0 where
  pub grants : a.world.server.next_grant ≤ w.server.next_grant + length a.posts
  pub messages : length a.world.network.messages ≡ length w.network.messages
  pub kept : a.world.network.kept ≡ w.network.kept

same : (w : World) (a : Act) → a.world.server.next_grant ≡ w.server.next_grant
    → length a.world.network.messages ≡ length w.network.messages → a.world.network.kept ≡ w.network.kept → Counts w a
same w a server messages kept = record { grants = omega (arith, server); messages = messages; kept = kept }

cases : (w : World) (chosen : List ℕ) (action : Action) → MoveCases w chosen action (Counts w)
cases w chosen action = record {
  rests = λ ms said told quiet. same w _ refl (said_length ms w.network.messages said) refl;
  refused = λ c a found op is e why. same w _ refl refl refl;
  clock = λ time. same w _ refl refl refl;
  serves = λ ms said i is. record {
    grants = (step_counted w.server chosen i).grants;
    messages = said_length ms w.network.messages said;
    kept = refl;
  };
  goes = λ ms said c a found i is. same w _ refl (said_length ms w.network.messages said) refl;
  comes = λ c is. same w _ refl refl refl;
  stops = λ c a found. same w _ refl refl refl;
  judged = λ ms said d a found deaf m number. same w _ refl (said_length ms w.network.messages said) refl;
  injected = λ d bytes is a found. same w _ refl refl refl;
  turns = λ d a b found turns. same w _ refl refl refl;
  known = λ d key capacity stored is knows. same w _ refl refl refl;
  adds = λ d key capacity stored is knows. same w _ refl refl refl;
}

pub acts_count : (w : World) (chosen : List ℕ) (action : Action) → Counts w (acts w chosen action)
acts_count w chosen action = each_act w chosen (Counts w) action (cases w chosen action)

pub length_map : (ps : List Post) → length (map fresh ps) ≡ length ps
length_map [] = refl
length_map (p ∷ ps) = ap suc (length_map ps)

counted_on : (w : World) (m : Move) → w.server.next_grant ≤ length w.network.messages + 1
    → (move w m).world.server.next_grant ≤ length (move w m).world.network.messages + 1
counted_on w m before =
    let a = acts w m.chosen m.action in
    let c = acts_count w m.chosen m.action in
    omega (
      arith,
      before,
      c.grants,
      c.messages,
      length-append a.world.network.messages (map fresh a.posts),
      length_map a.posts,
    )

pub grants_are_counted : GrantsAreCounted
grants_are_counted w reached =
    always (λ (v : World). v.server.next_grant ≤ length v.network.messages + 1)
    (record { starts = omega arith; moves = counted_on }) w reached
