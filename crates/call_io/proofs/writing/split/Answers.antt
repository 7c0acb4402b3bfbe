use Rattle.std.proofs.Common.{sym, ap, ◌∙◌, ◌≡◌, ◌++◌, [], List, ℕ, length, arith, append_assoc, append-nil}
use Rattle.std.specs.Vec.Iter.{into_iter_items}
use Rattle.std.proofs.lemmas.List.{nil_from_length}
use Rattle.client_rules.specs.Writes.{firsts, laters}
use Rattle.call_io.specs.State.{Store}
use Rattle.call_io.specs.Splits.{new_first, new_later}
use Rattle.call_io.proofs.Splits.{first_turn, later_turn, first_end, later_end}
use Rattle.call_io.proofs.writing.split.Goals as goal

pub loop-store-preserved : goal.loop-store-preserved
loop-store-preserved c =
    record {
      firsts =
          ap (λ (xs : List Store). xs ++ firsts c.place.new.seen (into_iter_items c.next.new.self)) c.in_ok-place.ensures.firsts
          ∙ append_assoc c.loop-store.firsts.items (new_first c.loop-store.seen c.in-Some.store)
          (firsts c.place.new.seen (into_iter_items c.next.new.self))
          ∙ ap (λ (s : List ℕ). c.loop-store.firsts.items
          ++ (new_first c.loop-store.seen c.in-Some.store ++ firsts s (into_iter_items c.next.new.self)))
          c.in_ok-place.ensures.seen
          ∙ ap (λ (xs : List Store). c.loop-store.firsts.items ++ xs)
          (first_turn c.loop-store.seen c.in-Some.store (into_iter_items c.next.new.self))
          ∙ ap (λ (ws : List Store). c.loop-store.firsts.items ++ firsts c.loop-store.seen ws) (sym c.in-Some.ensures.steps.0)
          ∙ c.loop-store.invariant.firsts;
      long = omega (
        arith,
        c.in-Some.ensures.steps.1,
        ap (λ (ws : List Store). length ws) c.in-Some.ensures.steps.0,
        c.loop-store.invariant.long,
      );
      laters =
          ap (λ (xs : List Store). xs ++ laters c.place.new.seen (into_iter_items c.next.new.self)) c.in_ok-place.ensures.queue
          ∙ append_assoc c.loop-store.queue (new_later c.loop-store.seen c.in-Some.store)
          (laters c.place.new.seen (into_iter_items c.next.new.self))
          ∙ ap (λ (s : List ℕ). c.loop-store.queue
          ++ (new_later c.loop-store.seen c.in-Some.store ++ laters s (into_iter_items c.next.new.self)))
          c.in_ok-place.ensures.seen
          ∙ ap (λ (xs : List Store). c.loop-store.queue ++ xs)
          (later_turn c.loop-store.seen c.in-Some.store (into_iter_items c.next.new.self))
          ∙ ap (λ (ws : List Store). c.loop-store.queue ++ laters c.loop-store.seen ws) (sym c.in-Some.ensures.steps.0)
          ∙ c.loop-store.invariant.laters;
    }

pub returns-clause-firsts : goal.returns-clause-firsts
returns-clause-firsts c =
    let none : into_iter_items c.loop-store.store-iterator ≡ [] =
    nil_from_length _ (omega (arith, c.in-None.ensures.steps.0, c.loop-store.invariant.long)) in
    sym (append-nil c.loop-store.firsts.items)
    ∙ ap (λ (xs : List Store). c.loop-store.firsts.items ++ xs) (sym (first_end c.loop-store.seen))
    ∙ ap (λ (ws : List Store). c.loop-store.firsts.items ++ firsts c.loop-store.seen ws) (sym none)
    ∙ c.loop-store.invariant.firsts

pub returns-clause-laters : goal.returns-clause-laters
returns-clause-laters c =
    let none : into_iter_items c.loop-store.store-iterator ≡ [] =
    nil_from_length _ (omega (arith, c.in-None.ensures.steps.0, c.loop-store.invariant.long)) in
    sym (append-nil c.loop-store.queue)
    ∙ ap (λ (xs : List Store). c.loop-store.queue ++ xs) (sym (later_end c.loop-store.seen))
    ∙ ap (λ (ws : List Store). c.loop-store.queue ++ laters c.loop-store.seen ws) (sym none)
    ∙ c.loop-store.invariant.laters
