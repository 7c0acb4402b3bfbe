use Rattle.std.proofs.Common.{◌≡◌, ◌<◌, ◌+◌, ℕ, List, ◌∷◌, ◌++◌, IsTrue, drop, length, refl, sym, ◌∙◌, ap, subst}
use Rattle.gate_log.specs.Broken.{IsNoRecord}
use Rattle.gate_log.specs.Forms.{record_of, size_of}
use Rattle.gate_log.specs.declared.form.Form.{Form}
use Rattle.gate_log.proofs.Records.{no_block, no_room, record_parts, says_more, taken_same}
use Rattle.gate_log.proofs.record.read_record.Goals as goal

pub returns-in-Err-clause-refused : goal.returns-in-Err-clause-refused
returns-in-Err-clause-refused g c =
    let told = IsTrue (g.D.Disk.tells c.args.disk.now) in
    let bytes = g.D.Disk.seen c.args.disk.now in
    says_more (λ (n : ℕ). (n ≡ c.args.at) × (told → IsNoRecord (drop (c.args.at + 1) bytes)))
    (λ (n : ℕ). (n ≡ c.args.at) × (told → c.args.size ≡ length bytes → IsNoRecord (drop (c.args.at + 1) bytes)))
    (λ n p. (p.0, λ t sized. p.1 t)) c.in-Err.e c.in-Err.ensures.refused

pub returns-in-Err-read_block-clause-refused : goal.returns-in-Err-read_block-clause-refused
returns-in-Err-read_block-clause-refused g c =
    let told = IsTrue (g.D.Disk.tells c.args.disk.now) in
    let bytes = g.D.Disk.seen c.args.disk.now in
    let now = g.D.Disk.seen c.read_head.new.disk in
    let head = c.in-Ok.head in
    let one = c.read_head.ensures.disk in
    says_more (λ (n : ℕ). (n ≡ c.args.at) × (IsTrue (g.D.Disk.tells c.read_head.new.disk)
    → length (drop (c.args.at + 1) now) < size_of head.form head.len + 1))
    (λ (n : ℕ). (n ≡ c.args.at) × (told → c.args.size ≡ length bytes → IsNoRecord (drop (c.args.at + 1) bytes)))
    (λ n p. (
      p.0,
      λ t sized.
          no_room (drop (c.args.at + 1) bytes) head.form head.len c.in-Ok.ensures.range.1 (c.in-Ok.ensures.bytes t)
          (subst (λ (l : List ℕ). length (drop (c.args.at + 1) l) < size_of head.form head.len + 1) one.seen_same
          (p.1 (subst IsTrue (sym one.tells_same) t))),
    ))
    c.in-Err-read_block.e c.in-Err-read_block.ensures.refused

pub returns-in-Some-clause-bytes : goal.returns-in-Some-clause-bytes
returns-in-Some-clause-bytes g c told =
    let bytes = g.D.Disk.seen c.args.disk.now in
    let head = c.in-Ok.head in
    let one = c.read_head.ensures.disk in
    let kept = c.in-Some.record in
    let parts = record_parts head.form kept.body (drop (c.args.at + 1) bytes) c.in-Ok-read_block.block kept.next_gate head.len
    c.in-Some.ensures.size.0 (c.in-Ok.ensures.bytes told)
    (taken_same head.form head.len c.args.at bytes (g.D.Disk.seen c.read_head.new.disk) c.in-Ok-read_block.block one.seen_same
    (c.in-Ok-read_block.ensures.bytes (subst IsTrue (sym one.tells_same) told)))
    c.in-Some.ensures.bytes in (
      parts.0,
      parts.1 ∙ ap (λ (f : Form). record_of f kept.body ++ kept.next_gate ∷ parts.0) (sym c.in-Some.ensures.size.1),
    )

pub returns-in-None-clause-refused : goal.returns-in-None-clause-refused
returns-in-None-clause-refused g c = (
  refl,
  λ told sized.
      let bytes = g.D.Disk.seen c.args.disk.now in
      let head = c.in-Ok.head in
      let one = c.read_head.ensures.disk in
      no_block (drop (c.args.at + 1) bytes) head.form head.len c.in-Ok.ensures.range.1 (c.in-Ok.ensures.bytes told)
      c.in-Ok-read_block.block
      (taken_same head.form head.len c.args.at bytes (g.D.Disk.seen c.read_head.new.disk) c.in-Ok-read_block.block one.seen_same
      (c.in-Ok-read_block.ensures.bytes (subst IsTrue (sym one.tells_same) told)))
      c.in-None.ensures.none,
)
