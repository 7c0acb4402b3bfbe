use Rattle.std.proofs.Common.{inr, List, ℕ, refl, sym, ◌∙◌, ap}
use Rattle.osd_disk.specs.Calls.{all_done}
use Rattle.osd_disk.specs.declared.calls.Call.TheVariants.{Sync}
use Rattle.osd_disk.proofs.Media.{stays_done, did_told, did_elapse, did_bytes, sync_only, sync_narrows}
use Rattle.osd_disk.proofs.faultless.FaultlessDiskDisk.sync.Goals as goal

pub invariant_of-self : goal.invariant_of-self
invariant_of-self c =
    let past = c.self.inside.past in
    let next = c.with_sync-self-inside.result in
    stays_done past.calls next.calls Sync c.self.inside.bytes next.first (inr refl)
    (c.self.invariant
    ∙ ap (λ (f : List ℕ). all_done past.calls f) (sym c.with_sync-self-inside.ensures.first))
    c.with_sync-self-inside.ensures.calls

pub returns-clause-durable : goal.returns-clause-durable
returns-clause-durable c = λ told.
    let past = c.self.inside.past in
    let next = c.with_sync-self-inside.result in
    let did = did_told c.args.self.now
    (Sync) past.first next.first past.calls next.calls c.self.view_is c.with_sync-self-inside.ensures.first
    c.with_sync-self-inside.ensures.calls in
    sync_only c.args.self.now _ did

pub returns-clause-seen : goal.returns-clause-seen
returns-clause-seen c =
    let past = c.self.inside.past in
    let next = c.with_sync-self-inside.result in
    let did = did_told c.args.self.now
    (Sync) past.first next.first past.calls next.calls c.self.view_is c.with_sync-self-inside.ensures.first
    c.with_sync-self-inside.ensures.calls in
    did_bytes c.args.self.now _ Sync did

pub returns-clause-crash : goal.returns-clause-crash
returns-clause-crash c =
    let past = c.self.inside.past in
    let next = c.with_sync-self-inside.result in
    let did = did_told c.args.self.now
    (Sync) past.first next.first past.calls next.calls c.self.view_is c.with_sync-self-inside.ensures.first
    c.with_sync-self-inside.ensures.calls in
    sync_narrows c.args.self.now _ did

pub returns-clause-time : goal.returns-clause-time
returns-clause-time c =
    let past = c.self.inside.past in
    let next = c.with_sync-self-inside.result in
    let did = did_told c.args.self.now
    (Sync) past.first next.first past.calls next.calls c.self.view_is c.with_sync-self-inside.ensures.first
    c.with_sync-self-inside.ensures.calls in
    did_elapse c.args.self.now _ Sync did
