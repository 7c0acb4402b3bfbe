use Rattle.std.proofs.Common.{ℕ, List, [], ◌∷◌, ◌++◌, Option, sym, ◌∙◌, ap}
use Rattle.osd_disk.specs.Calls.{all_done}
use Rattle.osd_disk.specs.Medium.{Medium, first_or}
use Rattle.osd_disk.specs.declared.calls.Call.TheVariants.{Write}
use Rattle.osd_disk.proofs.Media.{did_more, written_over}
use Rattle.osd_disk.proofs.mem_disk.MemDisk.write.Goals as goal

pub invariant_of-self-in-Ok : goal.invariant_of-self-in-Ok
invariant_of-self-in-Ok c =
    written_over c.self.inside.calls c.push.new.self c.args.at c.in_ok-copy.copy c.args.bytes.now c.self.inside.bytes
    c.write_over.new.bytes (first_or c.self.inside.bytes c.self.inside.first)
    c.in_ok-copy.ensures c.self.invariant c.in_ok-push.ensures.ok c.in-Ok.ensures.ok
    ∙ ap (λ (o : Option (List ℕ)). all_done c.push.new.self (first_or c.write_over.new.bytes o))
    (sym c.in_ok-keep_first.ensures.kept)

pub returns-in-Ok-clause-ok : goal.returns-in-Ok-clause-ok
returns-in-Ok-clause-ok c =
    did_more c.args.self.now (Write c.args.at c.args.bytes.now)
    (first_or c.write_over.new.bytes c.keep_first.new.first) c.push.new.self c.self.inside.fails c.self.inside.faults
    (ap (λ (o : Option (List ℕ)). first_or c.write_over.new.bytes o) c.in_ok-keep_first.ensures.kept
    ∙ ap (λ (m : Medium). m.first) c.self.view_is)
    (c.in_ok-push.ensures.ok ∙ ap (λ (b : List ℕ). c.self.inside.calls ++ Write c.args.at b ∷ []) c.in_ok-copy.ensures
    ∙ ap (λ (m : Medium). m.calls ++ Write c.args.at c.args.bytes.now ∷ []) c.self.view_is)
    (ap (λ (m : Medium). m.fails) c.self.view_is)
    (ap (λ (m : Medium). m.faults) c.self.view_is)
