-- A step of the server gives no grant of a number that is below its next: what is live behind the step was live before it, or is
-- new, and the machine gives no grant of a number of one that was outstanding.
-- Towards `CutsKeepEntries` (`specs/EntriesTied.antt`).
use Rattle.std.proofs.Common.{◌≡◌, ◌<◌, ◌≤◌, ◌⊎◌, ℕ, List, [], ◌∷◌, Some, sym, ap, subst, ◌∙◌, inl, inr, arith}
use Rattle.server_rules.specs.Files.{Step, file_at}
use Rattle.server_rules.specs.History.{step}
use Rattle.server_rules.specs.Laws.{In}
use Rattle.server_rules.proofs.FileLaws.{safe_at}
use Rattle.world_history.specs.ServerNames.{Server, File, Grant}
use Rattle.history_law.specs.Grants.{GrantsAreSafe}
use Rattle.exchange_law.proofs.CountMoments.{reached}
use Rattle.component_law.proofs.Server.{found_own}
use Rattle.fence_law.specs.Machine.{Allowed, Lawful, after}
use Rattle.fence_law.specs.State.{State, Event}
use Rattle.fence_law.specs.State.Event.{Grants}
use Rattle.relation_law.specs.Frames.{AreAll}
use Rattle.relation_law.specs.Steps.{owed}
use Rattle.relation_law.proofs.FramesParties.{server_steps}
use Rattle.relation_law.proofs.FramesStay.{all_joined, lines_taken}
use Rattle.headline_law.proofs.GrantTags.{run_numbered}
use Rattle.headline_law.proofs.ShownWhole.{live_tag}
use Rattle.headline_law.proofs.LossApart.{move_gives}
use Rattle.headline_law.proofs.LossApartEvents.{GivesLive}
use Rattle.headline_law.proofs.LossApartSteps.{OldOrNew, WasLive, AreNumbered, are_numbered, new_at_one}
use Rattle.headline_law.proofs.LossOver.{GrantsAreAhead}
use Rattle.headline_law.proofs.LossOverMachine.{IsApartFrom}

-- ---- the machine's next number

low_self : (n : ℕ) → n ≤ n
low_self n = omega arith

next_rises : (s : State) (e : Event) → Allowed s e → s.next ≤ (after s e).next
next_rises s (Grants c n wide range extending) may = let new : s.next ≤ n = may.new in omega (arith, new)
next_rises s e may = low_self s.next

-- What is given is of a further number, if what is live in the file behind isn't this number, or is below the machine's next.
module _ (g : File) (next number : ℕ) (new : (x : Grant) → In x g.kept.grants → x.number ≡ number → x.number < next) where
  apart_one : (b : State) (e : Event) → Allowed b e → next ≤ b.next → GivesLive g e → IsApartFrom number e
  apart_one b (Grants c n wide range extending) may low live = λ same.
      let less : live.0.number < next = new live.0 live.1 (live.2 ∙ same) in
      let is : live.0.number ≡ n = live.2 in
      let high : b.next ≤ n = may.new in
      absurd (omega (arith, less, low, is, high))
  apart_one b e may low live = tt

  apart_all : (b : State) (es : List Event) → Lawful b es → next ≤ b.next → AreAll (GivesLive g) es →
      AreAll (IsApartFrom number) es
  apart_all b [] l low live = tt
  apart_all b (e ∷ es) l low live =
      let rises : b.next ≤ (after b e).next = next_rises b e l.0 in
      (apart_one b e l.0 low live.0, apart_all (after b e) es l.1 (omega (arith, low, rises)) live.1)

-- ---- a step

pub grants_are_ahead : GrantsAreSafe → GrantsAreAhead
grants_are_ahead safes w h m count f g s pairs k i is number low =
    apart_all g s.next number old s _ k.lawful (low_self s.next)
    (all_joined (GivesLive g) _
    (lines_taken (GivesLive g) count _ (move_gives s w (owed k.shown.follows.related) f g m i is here)))
  where
    t : Step
    t = step w.server m.chosen i

    here : file_at t.state.files f.kept.number ≡ Some g
    here = ap (λ (v : Server). file_at v.files f.kept.number) (sym (server_steps w m i is)) ∙ k.shown.follows.goes

    numbered : AreNumbered w.server
    numbered = are_numbered w (reached w h k.shown.follows.moment)

    n : (file : ℕ) × OldOrNew w.server file t
    n = new_at_one w.server m.chosen i numbered.distinct

    outstanding : (x : Grant) → In x f.kept.grants → x.number < s.next
    outstanding x live =
        let safe =
        safe_at w.server.files f.kept.number f (safes w (reached w h k.shown.follows.moment)) k.shown.follows.there in
        let out = live_tag s w f x k.shown.follows.related.kept live (found_own f.kept.grants x safe.apart live) in
        let below : out.0.number < s.next =
        ((run_numbered s k.shown.follows.run).live x.client out.0 out.1).1 in
        let same : out.0.number ≡ x.number = out.2 in
        omega (arith, below, same)

    by : (x : Grant) → x.number ≡ number →
        WasLive w.server f.kept.number x ⊎ ((w.server.next_grant ≤ x.number) × (f.kept.number ≡ n.0)) → x.number < s.next
    by x same (inl was) =
        let one : was.0 ≡ f = cc (sym was.1 ∙ k.shown.follows.there) in
        outstanding x (subst (λ (y : File). In x y.kept.grants) one was.2)
    by x same (inr new) = absurd (omega (arith, low, new.0, same))

    old : (x : Grant) → In x g.kept.grants → x.number ≡ number → x.number < s.next
    old x live same = by x same (n.1 f.kept.number g x here live)
