-- In each whole history no two layouts that are given name one grant.
use Rattle.std.proofs.Common.{◌≡◌, ◌<◌, ◌≤◌, List, [], ◌∷◌, ◌++◌, Option, Some, None, refl, sym, ap, subst, ◌∙◌, append_assoc, arith, inl, inr}
use Rattle.std.proofs.lemmas.Bool.{false≢true}
use Rattle.std.proofs.lemmas.List.{append-nil}
use Rattle.osd_lists.proofs.Slices.{tail_same}
use Rattle.layout_ops.specs.declared.results.LayoutGetOk.{LayoutGetOk}
use Rattle.server_rules.specs.History.{Input}
use Rattle.server_rules.specs.Laws.{In}
use Rattle.server_rules.proofs.Members.{in_behind}
use Rattle.scenario_text.specs.declared.line.Line.{Line}
use Rattle.world_history.specs.ServerNames.{Server}
use Rattle.world_history.specs.State.{World}
use Rattle.world_history.specs.Plans.{due}
use Rattle.world_history.specs.Sending.{Move, move}
use Rattle.world_history.specs.Book.{ServerSeen, input_at, step_by, server_behind, server_seen, server_after}
use Rattle.world_history.specs.History.{OneEventMore}
use Rattle.world_history.specs.Laws.{ServerGoesOn}
use Rattle.history_law.specs.Moments.{IsMoment, plan_at, lines_in}
use Rattle.history_law.proofs.Moments.{stands_kept}
use Rattle.history_law.specs.Doing.{input_in, ServerMoves}
use Rattle.history_law.specs.Read.{AreWritten, BookIsRead, StepIsRead}
use Rattle.history_law.proofs.Staying.{written_front}
use Rattle.history_law.proofs.StepEnds.{place_of}
use Rattle.history_law.proofs.Ending.{next_moment}
use Rattle.history_law.proofs.NextSteps.{begin_more, move_begins}
use Rattle.exchange_law.proofs.HeldWorlds.{reached}
use Rattle.component_law.specs.Order.{AreInOrder, GrantsAreInOrder}
use Rattle.cause_law.specs.Steps.{InStep}
use Rattle.cause_law.proofs.Reading.{IsRead, input_head, line_read}
use Rattle.cause_law.specs.Numbers.{IsGiven, EachGrantIsNamedOnce}
use Rattle.cause_law.proofs.Giving.{HasNext, has_next, next_past, same_number, grants_rise}

-- what is given at a line names the grant of the number that was the next one then
given_next : (before : List Line) (l : Line) (i : Input) (rest : List Line) (ok : LayoutGetOk) (g : IsGiven before l i rest ok)
    → HasNext (server_after before) (server_after (before ++ l ∷ rest)) ok
given_next before l i rest ok g =
    has_next (server_after before) (server_after (before ++ l ∷ rest)) g.now g.request g.answered.answer ok g.answered.caused
    g.gives

cancel : (xs ys zs : List Line) → xs ++ ys ≡ xs ++ zs → ys ≡ zs
cancel [] ys zs e = e
cancel (x ∷ xs) ys zs e = cancel xs ys zs (tail_same x x (xs ++ ys) (xs ++ zs) e)

-- the number is spent: the next one is past it, and no later layout names that grant
record Spent (w : World) (h before : List Line) (l : Line) (ok : LayoutGetOk) : Type 0 where
  past : (server_after before).next_grant < w.server.next_grant
  other : (middle : List Line) (m : Line) (after : List Line) (j : Input) → h ≡ before ++ l ∷ (middle ++ m ∷ after)
      → input_at (server_seen (before ++ l ∷ middle)) m ≡ Some j → (last : List Line) (other : LayoutGetOk)
      → IsGiven (before ++ l ∷ middle) m j last other → other.stateid ≡ ok.stateid → ⊥

abbrev SpentAt : World → List Line → (before : List Line) → Line → Input → (rest : List Line) → Type 0
SpentAt w h before l i rest = (ok : LayoutGetOk) → IsGiven before l i rest ok → Spent w h before l ok

module _ (order : GrantsAreInOrder) (read : BookIsRead) (step_read : StepIsRead) (moves : ServerMoves) (on : ServerGoesOn) where
  abbrev So : World → List Line → Type 0
  So w h = AreWritten h → (before : List Line) (l : Line) (after : List Line) (i : Input) → h ≡ before ++ l ∷ after
      → input_at (server_seen before) l ≡ Some i → InStep (SpentAt w h before l i) after

  module _ (w : World) (h : List Line) (k : IsMoment w h) (m : Move) (d : due (plan_at k) w ≡ Some m.action)
      (written : AreWritten (h ++ lines_in w m)) where
    abbrev ms : List Line
    ms = lines_in w m

    abbrev v : World
    v = (move w m).world

    there : server_after h ≡ w.server
    there = ap (λ (s : ServerSeen). s.server) (read w h k (written_front h ms written))

    behind : server_after (h ++ ms) ≡ v.server
    behind = ap (λ (s : ServerSeen). s.server) (read v (h ++ ms) (next_moment w h k m d) written)

    -- the next number doesn't fall in the move
    rises : w.server.next_grant ≤ v.server.next_grant
    rises = subst (λ (s : Server). w.server.next_grant ≤ s.next_grant) (sym (moves w m).server) (by (input_in w m.action))
      where
        by : (o : Option Input)
            → w.server.next_grant ≤ (server_behind w.server (step_by w.server m.chosen o)).next_grant
        by None = omega arith
        by (Some i) = grants_rise w.server m.chosen i

    at_line : (front : List Line) (l : Line) (after : List Line) (i : Input) → ms ≡ front ++ l ∷ after
        → input_at (server_seen (h ++ front)) l ≡ Some i → IsRead w h front l after m
    at_line front l after i is comes = line_read on w h m front l after is (i, comes) (step_read w h k m d written)

    -- of a line before the move
    older : (before : List Line) (l : Line) (rest : List Line) (i : Input) → h ≡ before ++ l ∷ rest
        → input_at (server_seen before) l ≡ Some i → (ok : LayoutGetOk) (last : List Line) → IsGiven before l i last ok
        → Spent w h before l ok → Spent v (h ++ ms) before l ok
    older before l rest i own comes ok last given s = record {
      past = omega (arith, s.past, rises);
      other = λ middle x after j is comes_too end other g same.
          elim (place_of h ms (before ++ l ∷ middle) after x (is ∙ sym (append_assoc before (l ∷ middle) (x ∷ after)))) [
            | inl (tail, here, more) ↦
                s.other middle x tail j (here ∙ append_assoc before (l ∷ middle) (x ∷ tail)) comes_too end other g same
            | inr (front, up, it) ↦
                let r =
                at_line front x after j it (subst (λ (ls : List Line). input_at (server_seen ls) x ≡ Some j) up comes_too) in
                let now : (server_after (before ++ l ∷ middle)).next_grant ≡ w.server.next_grant =
                ap (λ (ls : List Line). (server_after ls).next_grant) up
                ∙ ap (λ (t : Server). t.next_grant) (r.server ∙ there) in
                let a = given_next before l i last ok given in
                let b = given_next (before ++ l ∷ middle) x j end other g in
                let one : (server_after (before ++ l ∷ middle)).next_grant ≡ (server_after before).next_grant =
                same_number (server_after (before ++ l ∷ middle)).next_grant (server_after before).next_grant b.left a.left
                (sym b.named ∙ same ∙ a.named) in
                absurd (omega (arith, one, now, s.past))
          ];
    }

    -- of a line of the move
    newer : (before front : List Line) (l : Line) (after : List Line) (i : Input) → before ≡ h ++ front
        → ms ≡ front ++ l ∷ after → h ++ ms ≡ before ++ l ∷ after → input_at (server_seen before) l ≡ Some i
        → InStep (SpentAt v (h ++ ms) before l i) after
    newer before front l after i own it is comes =
        let r = at_line front l after i it (subst (λ (ls : List Line). input_at (server_seen ls) l ≡ Some i) own comes) in
        record {
          rest = after;
          more = [];
          cut = sym (append-nil after);
          of_step = r.alone;
          ends = tt;
          holds = λ ok given. record {
            past =
                subst (λ (s : Server). (server_after before).next_grant < s.next_grant) behind
                (subst (λ (ls : List Line). (server_after before).next_grant < (server_after ls).next_grant) (sym is)
                (next_past (server_after before) (server_after (before ++ l ∷ after)) ok
                (subst AreInOrder (sym behind ∙ ap server_after is) (order v (reached v (h ++ ms) (next_moment w h k m d))))
                (given_next before l i after ok given)));
            other = λ middle x tail j is_too comes_too end other g same.
                let cut : after ≡ middle ++ x ∷ tail =
                tail_same l l after (middle ++ x ∷ tail)
                (cancel before (l ∷ after) (l ∷ (middle ++ x ∷ tail)) (sym is ∙ is_too)) in
                false≢true
                (sym (r.alone x (subst (In x) (sym cut) (in_behind x middle (x ∷ tail) (inl refl))))
                ∙ input_head (server_seen (before ++ l ∷ middle)) x j comes_too);
          };
        }

    moved : So w h → (before : List Line) (l : Line) (after : List Line) (i : Input) → h ++ ms ≡ before ++ l ∷ after
        → input_at (server_seen before) l ≡ Some i → InStep (SpentAt v (h ++ ms) before l i) after
    moved so before l after i is comes = elim (place_of h ms before after l is) [
      | inl (rest, own, more) ↦
          let e = so (written_front h ms written) before l rest i own comes in
          record {
            rest = e.rest;
            more = e.more ++ ms;
            cut = more ∙ ap (λ (ls : List Line). ls ++ ms) e.cut ∙ append_assoc e.rest e.more ms;
            of_step = e.of_step;
            ends = begin_more e.more ms e.ends (move_begins w m);
            holds = λ ok given. older before l rest i own comes ok e.rest given (e.holds ok given);
          }
      | inr (front, own, it) ↦ newer before front l after i own it is comes
    ]

  starts : (before : List Line) (l : Line) (after : List Line) → [] ≡ before ++ l ∷ after → ⊥
  starts [] l after e = cc e
  starts (x ∷ before) l after e = cc e

  pub each_grant_is_named_once : OneEventMore → EachGrantIsNamedOnce
  each_grant_is_named_once more w h s written before l after i is comes =
      let e = stands_kept So (record {
        starts = λ x b y t j none c. absurd (starts b y t none);
        moves = λ u g j n x so x_written. moved u g j n x x_written so;
      }) more w h s written before l after i is comes in
      record {
        rest = e.rest;
        more = e.more;
        cut = e.cut;
        of_step = e.of_step;
        ends = e.ends;
        holds = λ ok given. (e.holds ok given).other;
      }
