use Rattle.server_rules.specs.Get.{BadMode, Invalid, Unable, Waits, On, on_grants}
use Rattle.server_state.specs.FileRequests.{gets_for}
use Rattle.server_state.proofs.ServingLaws.{serves_as, gets_by}
use Rattle.server_state.proofs.SoundLaws.{on_idle}
use Rattle.server_state.proofs.layout_get.get.Goals as goal

pub returns-in-BadMode-clause-rule : goal.returns-in-BadMode-clause-rule
returns-in-BadMode-clause-rule c =
    let row = rw c.waits.ensures at c.in-BadMode.ensures.row in
    λ ds chosen. rw c.says.ensures
    (gets_by c.args.file.now c.args.effects.now c.args.asking.now c.args.wanted.now BadMode row ds chosen)

pub returns-in-Invalid-clause-rule : goal.returns-in-Invalid-clause-rule
returns-in-Invalid-clause-rule c =
    let row = rw c.waits.ensures at c.in-Invalid.ensures.row in
    λ ds chosen. rw c.says-in-Invalid.ensures
    (gets_by c.args.file.now c.args.effects.now c.args.asking.now c.args.wanted.now Invalid row ds chosen)

pub returns-in-Unable-clause-rule : goal.returns-in-Unable-clause-rule
returns-in-Unable-clause-rule c =
    let row = rw c.waits.ensures at c.in-Unable.ensures.row in
    λ ds chosen. rw c.says-in-Unable.ensures
    (gets_by c.args.file.now c.args.effects.now c.args.asking.now c.args.wanted.now Unable row ds chosen)

pub returns-in-Waits-clause-rule : goal.returns-in-Waits-clause-rule
returns-in-Waits-clause-rule c =
    let row = rw c.waits.ensures at c.in-Waits.ensures.row in
    λ ds chosen. rw c.says-in-Waits.ensures
    (gets_by c.args.file.now c.args.effects.now c.args.asking.now c.args.wanted.now
    (Waits c.in-Waits.component) row ds chosen)

pub returns-in-On-clause-rule : goal.returns-in-On-clause-rule
returns-in-On-clause-rule c =
    let q = c.args.asking.now in
    let row = rw c.waits.ensures at c.in-On.ensures.row in
    serves_as (λ go. on_grants go q.next_grant q.format q.time c.asked-grant.result)
    (gets_for q c.args.wanted.now) _ c.args.file.now _ c.args.effects.now _
    (λ ds chosen. rw c.asked-grant.ensures.value
    (gets_by c.args.file.now c.args.effects.now q c.args.wanted.now On row ds chosen)) c.on_grants.ensures.rule

pub on_grants-requires-clause-idle : goal.on_grants-requires-clause-idle
on_grants-requires-clause-idle c =
    on_idle c.args.file.now.spent c.args.file.now.job c.args.wanted.now.iomode c.args.wanted.now.offset c.args.wanted.now.length
    (rw c.waits.ensures at c.in-On.ensures.row)
