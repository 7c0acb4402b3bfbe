use Rattle.std.proofs.Common.{List, ℕ, length, refl, sym, ◌∙◌, ap, subst}
use Rattle.osd_disk.specs.Calls.{all_done}
use Rattle.osd_disk.specs.Medium.{Medium, may_hold}
use Rattle.osd_disk.specs.declared.calls.Call.TheVariants.{Write}
use Rattle.osd_disk.proofs.Media.{torn_same, written_over, did_told, did_elapse, write_follows, write_torn, write_holds}
use Rattle.osd_disk.proofs.faultless.FaultlessDiskDisk.write_at.Goals as goal

pub returns-in_err-write_over-clause-crash : goal.returns-in_err-write_over-clause-crash
returns-in_err-write_over-clause-crash c =
    λ left may. (
      left,
      subst (λ (m : Medium). may_hold m left) c.self.view_is may,
      torn_same c.args.at (length c.args.bytes.now) left,
    )

pub invariant_of-self-2 : goal.invariant_of-self-2
invariant_of-self-2 c =
    let past = c.self.inside.past in
    let next = c.with_write-self-inside.result in
    written_over past.calls next.calls c.args.at c.args.bytes.now c.args.bytes.now c.self.inside.bytes c.write_over.new.bytes
    next.first refl
    (c.self.invariant
    ∙ ap (λ (f : List ℕ). all_done past.calls f) (sym c.with_write-self-inside.ensures.first))
    c.with_write-self-inside.ensures.calls c.in_ok-write_over.ensures.ok

pub returns-clause-bytes : goal.returns-clause-bytes
returns-clause-bytes c = λ told le.
    let past = c.self.inside.past in
    let next = c.with_write-self-inside.result in
    let did = did_told c.args.self.now
    (Write c.args.at c.args.bytes.now) past.first next.first past.calls next.calls c.self.view_is
    c.with_write-self-inside.ensures.first c.with_write-self-inside.ensures.calls in
    write_holds c.args.self.now _ c.args.at c.args.bytes.now did le

pub returns-clause-part : goal.returns-clause-part
returns-clause-part c = λ told.
    let past = c.self.inside.past in
    let next = c.with_write-self-inside.result in
    let did = did_told c.args.self.now
    (Write c.args.at c.args.bytes.now) past.first next.first past.calls next.calls c.self.view_is
    c.with_write-self-inside.ensures.first c.with_write-self-inside.ensures.calls in
    write_torn c.args.self.now _ c.args.at c.args.bytes.now did

pub returns-clause-crash : goal.returns-clause-crash
returns-clause-crash c =
    let past = c.self.inside.past in
    let next = c.with_write-self-inside.result in
    let did = did_told c.args.self.now
    (Write c.args.at c.args.bytes.now) past.first next.first past.calls next.calls c.self.view_is
    c.with_write-self-inside.ensures.first c.with_write-self-inside.ensures.calls in
    write_follows c.args.self.now _ c.args.at c.args.bytes.now did

pub returns-clause-time : goal.returns-clause-time
returns-clause-time c =
    let past = c.self.inside.past in
    let next = c.with_write-self-inside.result in
    let did = did_told c.args.self.now
    (Write c.args.at c.args.bytes.now) past.first next.first past.calls next.calls c.self.view_is
    c.with_write-self-inside.ensures.first c.with_write-self-inside.ensures.calls in
    did_elapse c.args.self.now _ (Write c.args.at c.args.bytes.now) did
