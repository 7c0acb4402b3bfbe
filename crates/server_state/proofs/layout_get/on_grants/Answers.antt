use Rattle.std.proofs.Common.{refl, sym, ◌∙◌}
use Rattle.server_rules.specs.Get.{on_grants, fence_first, give_or_refuse}
use Rattle.server_state.proofs.ServingLaws.{serves_as, for_moved}
use Rattle.server_state.proofs.layout_get.on_grants.Goals as goal

pub returns-then-must_fence-clause-rule : goal.returns-then-must_fence-clause-rule
unfolding on_grants
returns-then-must_fence-clause-rule c =
    let q = c.args.asking.now in
    let test = rw c.as_slice.ensures at (sym c.must_fence.ensures ∙ c.if-must_fence.true) in
    serves_as (λ go. fence_first go q.next_grant q.format c.args.grant)
    (λ go. on_grants go q.next_grant q.format q.time c.args.grant) _ c.args.file.now _ c.args.effects.now _
    (λ ds chosen. rw test refl) c.fence_first.ensures.rule

pub returns-clause-rule : goal.returns-clause-rule
unfolding on_grants
returns-clause-rule c =
    let q = c.args.asking.now in
    let test = rw c.as_slice.ensures at (sym c.must_fence.ensures ∙ c.if-must_fence.false) in
    serves_as (λ go. give_or_refuse go q.next_grant c.args.grant)
    (λ go. on_grants go q.next_grant q.format q.time c.args.grant) _ c.args.file.now _ c.args.effects.now _
    (λ ds chosen. rw test refl)
    (for_moved (λ go. give_or_refuse go q.next_grant c.args.grant) _ c.args.file.now _ c.args.effects.now
    c.give_or_refuse.ensures.rule)
