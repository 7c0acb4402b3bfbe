use Rattle.std.proofs.Common.{◌≡◌, ◌∙◌, ◌+◌, ◌++◌, [], List, sym, ap, length, arith}
use Rattle.std.specs.Prelude.{true}
use Rattle.std.specs.Vec.Iter.{into_iter_items}
use Rattle.std.proofs.lemmas.List.{nil_from_length}
use Rattle.client_rules.specs.Commands.{numbered, write_commands}
use Rattle.call_commands.specs.State.{Awaited, Store}
use Rattle.call_commands.proofs.Numbering.{one_numbered, none_left}
use Rattle.call_commands.proofs.commands.write_commands.Goals as goal

pub loop-store-preserved : goal.loop-store-preserved
loop-store-preserved c =
    let h = c.args.held.now in
    let rest = into_iter_items c.next.new.self in
    record {
      sent =
          ap (λ (xs : List Awaited). xs ++ numbered h true (c.loop-store.count + 1) rest) c.in_ok-push.ensures.ok
          ∙ one_numbered h true c.loop-store.count c.in-Some.store rest c.loop-store.sent _ c.in_ok-awaited_for.ensures.value
          ∙ ap (λ (ws : List Store). c.loop-store.sent ++ numbered h true c.loop-store.count ws) (sym c.in-Some.ensures.steps.0)
          ∙ c.loop-store.invariant.sent;
      long = omega (
        arith,
        c.in-Some.ensures.steps.1,
        ap (λ (ws : List Store). length ws) c.in-Some.ensures.steps.0,
        c.loop-store.invariant.long,
      );
    }

pub returns : goal.returns
unfolding write_commands
returns c =
    let none : into_iter_items c.loop-store.store-iterator ≡ [] =
    nil_from_length _ (omega (arith, c.in-None.ensures.steps.0, c.loop-store.invariant.long)) in
    none_left c.args.held.now true c.loop-store.count _ c.loop-store.sent none ∙ c.loop-store.invariant.sent
