use Rattle.std.proofs.Common.{arith, eq-eqb, ne_eqb, ap, sym, ◌∙◌, length-set}
use Rattle.std.specs.Prelude.{◌==◌, if◌then◌else◌, map, refl}
use Rattle.std.proofs.lemmas.List.{take_all}
use Rattle.server_rules.specs.declared.jobs.Awaited.{Awaited}
use Rattle.file_jobs.proofs.Finding.{renewed_here, renewed_not}
use Rattle.file_jobs.proofs.awaited.renew.Goals as goal
use Rattle.file_jobs.proofs.awaited.renew.Goals.{then-get-former+in_ok-awaited, else-get-former}

pub get-requires : goal.get-requires
get-requires c = omega (arith, c.loop-i-test.true, c.loop-i.invariant.long, c.len-i-end.ensures)

pub get_mut-requires : goal.get_mut-requires
get_mut-requires c = omega (arith, c.loop-i-test.true, c.loop-i.invariant.long, c.len-i-end.ensures)

pub loop-i-preserved : goal.loop-i-preserved
loop-i-preserved c =
    let f = λ (a : Awaited). if a.command.nonce == c.args.former then c.args.again.now else a in
    let h = c.loop-i.invariant in
    elim c.if-get-former.branch [
      | then-get-former+in_ok-awaited w ↦
          let n = renewed_here f c.loop-i.awaited c.args.awaited.now c.loop-i.i c.get.result.now w.in_ok-awaited.field-0 h.front
          h.rest h.long (omega (arith, c.loop-i-test.true, c.len-i-end.ensures)) c.get.ensures
          (rw (eq-eqb _ _ w.if-get-former.true) (sym w.in_ok-awaited.ensures)) in
          rw w.awaited-is (record { front = n.0; rest = n.1; long = length-set _ _ _ ∙ h.long })
      | else-get-former w ↦
          let n = renewed_not f c.loop-i.awaited c.args.awaited.now c.loop-i.i c.get.result.now h.front h.rest h.long
          (omega (arith, c.loop-i-test.true, c.len-i-end.ensures)) c.get.ensures
          (rw (ne_eqb _ _ w.if-get-former.false) refl) in
          rw w.awaited-is (record { front = n.0; rest = n.1; long = h.long })
    ]

pub returns : goal.returns
returns c =
    let h = c.loop-i.invariant in
    let f = λ (a : Awaited). if a.command.nonce == c.args.former then c.args.again.now else a in
    sym (take_all c.loop-i.i c.loop-i.awaited (omega (arith, c.loop-i-test.false, h.long, c.len-i-end.ensures)))
    ∙ h.front
    ∙ ap (map f) (take_all c.loop-i.i c.args.awaited.now (omega (arith, c.loop-i-test.false, c.len-i-end.ensures)))
