use Rattle.std.proofs.Common.{rules, ℕ, ◌+◌, List, length, refl, sym, ◌∙◌, ap}
use Rattle.gate_log.specs.Forms.{size_of}
use Rattle.gate_log.proofs.OneLog.{length_record}
use Rattle.gate_log.proofs.Reading.{steps_on, refused_there}
use Rattle.gate_log.proofs.reader.LogReader.next.Goals as goal

pub returns-clause-body : goal.returns-clause-body
returns-clause-body g c header bodies h =
    let self = c.args.self.now in
    let kept = c.in-Ok.record in
    let found = c.in-Ok.ensures.bytes h.stands.told in
    record {
      stands = steps_on g.D.Disk.tells g.D.Disk.seen g.D.Disk.may_leave g.D.Disk.moment g.D.Disk.left_since header bodies
          self.disk c.read_record.new.disk self.at self.gate h.stands c.in-Ok.ensures.disk
          (record { gate = self.gate; form = kept.form; body = kept.body }) found.0 kept.next_gate _ refl
          (record { open_gate = search rules; is_body = c.in-Ok.ensures.size }) found.1
          (ap (λ (n : ℕ). self.at + (1 + n))
          (c.record_size.ensures ∙ ap (size_of kept.form) c.len.ensures ∙ sym (length_record kept.form kept.body)));
      sized = h.sized ∙ ap (λ (l : List ℕ). length l) (sym c.in-Ok.ensures.disk.seen_same);
    }

pub returns-in-Err-clause-refused : goal.returns-in-Err-clause-refused
returns-in-Err-clause-refused g c =
    refused_there g.D.Disk.tells g.D.Disk.seen g.D.Disk.may_leave c.args.self.now c.in-Err.e
    (search rules) c.in-Err.ensures.refused
