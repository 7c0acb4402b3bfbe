use Rattle.std.proofs.Common.{rules, ◌++◌, [], take, refl, ◌∙◌}
use Rattle.osd_bytes.proofs.RecordLaws.{split-nil, read_on}
use Rattle.osd_bytes.proofs.ExchangeLaws.{received-nil, received-then, receives-first, receives-long, receives-none, receives-end}
use Rattle.osd_bytes.proofs.exchanges.receive_record.Goals as goal

pub loop-records-init : goal.loop-records-init
loop-records-init g c =
    rw c.new-records.ensures (([], received-nil (g.L.Links.told c.args.links.now), split-nil _), refl, search rules, refl, refl)

pub returns-then-n-eq0-clause-told : goal.returns-then-n-eq0-clause-told
returns-then-n-eq0-clause-told g c =
    let got = c.loop-records.invariant.0 in
    receives-end _ (g.L.Links.told c.loop-records.links) _ got.0 c.receive.new.buf c.loop-records.records got.1
    (rw c.if-n-eq0.true at c.in_ok-n.ensures.told) (search rules) got.2

pub returns-in-Ok-Some-clause-told : goal.returns-in-Ok-Some-clause-told
returns-in-Ok-Some-clause-told g c =
    let got = c.loop-records.invariant.0 in
    let came = received-then _
    (g.L.Links.told c.loop-records.links) _ got.0 c.receive.new.buf c.in_ok-n.n got.1 c.in_ok-n.ensures.told in
    let found = rw (c.in-Ok-Some.field-0-is, c.split_at.ensures.front) at c.in-Ok-Some.ensures.first in
    receives-first _ _ got.0 (take c.in_ok-n.n c.receive.new.buf) c.loop-records.records c.in-Ok-Some.record came got.2 found

pub returns-in-Err-TooLong-clause-told : goal.returns-in-Err-TooLong-clause-told
returns-in-Err-TooLong-clause-told g c =
    let got = c.loop-records.invariant.0 in
    let came = received-then _
    (g.L.Links.told c.loop-records.links) _ got.0 c.receive.new.buf c.in_ok-n.n got.1 c.in_ok-n.ensures.told in
    let found = rw (c.in-Err-TooLong.field-0-is, c.split_at.ensures.front) at c.in-Err-TooLong.ensures.first in
    receives-long _ _ got.0 (take c.in_ok-n.n c.receive.new.buf) c.loop-records.records came got.2 found

pub returns-in-Err-Memory-clause-told : goal.returns-in-Err-Memory-clause-told
returns-in-Err-Memory-clause-told g c =
    let got = c.loop-records.invariant.0 in
    receives-none _ _ _
    (received-then _ (g.L.Links.told c.loop-records.links) _ got.0 c.receive.new.buf c.in_ok-n.n got.1 c.in_ok-n.ensures.told)

pub loop-records-preserved : goal.loop-records-preserved
loop-records-preserved g c =
    let got = c.loop-records.invariant.0 in
    let came = received-then _
    (g.L.Links.told c.loop-records.links) _ got.0 c.receive.new.buf c.in_ok-n.n got.1 c.in_ok-n.ensures.told in
    let found = rw (c.in-Ok-None.field-0-is, c.split_at.ensures.front) at c.in-Ok-None.ensures.first in
    let bound = rw c.in-Ok-None.field-0-is at c.in-Ok-None.ensures.bound in (
      (
        got.0 ++ take c.in_ok-n.n c.receive.new.buf,
        came,
        read_on got.0 _ [] [] c.loop-records.records c.first_of.new.self got.2 (found ∙ split-nil c.first_of.new.self),
      ),
      search rules,
      bound,
      search rules,
      search rules,
    )
