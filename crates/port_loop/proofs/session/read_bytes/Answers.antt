use Rattle.std.proofs.Common.{rules, ◌∙◌, List, ℕ, Some, ap, sym, take}
use Rattle.std.specs.Prelude.{slice_index}
use Rattle.std.proofs.lemmas.List.{take_more}
use Rattle.osd_bytes.specs.Records.{split}
use Rattle.osd_bytes.proofs.RecordLaws.{split-nil}
use Rattle.port_loop.proofs.PieceLaws.{piece-broken, split-more}
use Rattle.port_loop.proofs.session.read_bytes.Goals as goal

pub loop-i-init : goal.loop-i-init
loop-i-init c = rw c.new-records.ensures (split-nil c.args.stream.now)

pub returns-in-Err-TooLong : goal.returns-in-Err-TooLong
returns-in-Err-TooLong c =
    piece-broken c.args.stream.now c.loop-i.stream c.loop-i.records c.args.piece.now c.loop-i.i
    (slice_index c.args.piece.now c.loop-i.i) c.loop-i.invariant
    (take_more c.args.piece.now c.loop-i.i 0 (search rules))
    (rw c.in-Err-TooLong.field-0-is at c.in-Err-TooLong.ensures.fed).0

pub loop-i-preserved : goal.loop-i-preserved
loop-i-preserved c =
    ap (split c.args.stream.now) (take_more c.args.piece.now c.loop-i.i 0 (search rules))
    ∙ split-more c.args.stream.now c.loop-i.stream c.loop-i.records c.in-Ok.more (take c.loop-i.i c.args.piece.now)
    (slice_index c.args.piece.now c.loop-i.i) (Some c.feed.new.self) c.loop-i.invariant c.in-Ok.ensures.fed
    ∙ ap (λ (l : List (List ℕ)). record { records = l; begun = Some c.feed.new.self }) (sym c.in_ok-append-in-Ok.ensures)
