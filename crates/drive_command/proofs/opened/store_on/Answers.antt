use Rattle.std.proofs.Common.{ℕ, List, inr, refl, sym, ◌∙◌, subst}
use Rattle.std.specs.Prelude.{IsTrue}
use Rattle.drive_store.specs.Stores.{core_of}
use Rattle.drive_command.specs.Opened.{IsOwnStore, first_of}
use Rattle.drive_command.proofs.OpenedLaws.{asked, read_on, since_opened}
use Rattle.drive_command.proofs.opened.store_on.Goals as goal

pub returns-in-Ok-opened_store-clause-begins : goal.returns-in-Ok-opened_store-clause-begins
returns-in-Ok-opened_store-clause-begins g c told =
    let tells = c.size.ensures.tells ∙ c.open.ensures.tells in
    inr
    (subst (λ (b : List ℕ). IsOwnStore (first_of c.args.own) b (core_of c.in-Ok-opened_store.store)) (c.size.ensures.seen
    ∙ c.open.ensures.seen)
    (c.in-Ok-opened_store.ensures.own (subst IsTrue (sym tells) told) (first_of c.args.own) refl (sym c.in-Ok.ensures)))

pub returns-in-Err-opened_store-clause-refused : goal.returns-in-Err-opened_store-clause-refused
returns-in-Err-opened_store-clause-refused g c =
    since_opened g.D.Disk (first_of c.args.own) c.args.disk c.size.new.self c.in-Err-opened_store.refusal.1
    c.in-Err-opened_store.refusal.0
    (c.size.ensures.tells ∙ c.open.ensures.tells) (c.size.ensures.seen ∙ c.open.ensures.seen) (c.in-Ok-size.ensures.cause.same
    ∙ c.in-Ok-open.ensures.cause.same)
    (c.in-Err-opened_store.ensures.refused (first_of c.args.own) refl (sym c.in-Ok.ensures))

pub returns-in-Ok-opened_store-clause-leaves : goal.returns-in-Ok-opened_store-clause-leaves
returns-in-Ok-opened_store-clause-leaves g c told =
    read_on g.D.Disk g.met.D.Disk.only_now c.args.disk c.size.new.self _
    (asked g.D.Disk c.args.disk c.open.new.self c.size.new.self c.open.ensures.tells c.open.ensures.seen c.open.ensures.crash
    c.open.ensures.time
    c.size.ensures.tells c.size.ensures.seen c.size.ensures.crash c.size.ensures.time)
    c.in-Ok-opened_store.ensures.read

pub returns-in-Err-opened_store-clause-cut_off : goal.returns-in-Err-opened_store-clause-cut_off
returns-in-Err-opened_store-clause-cut_off g c told =
    read_on g.D.Disk g.met.D.Disk.only_now c.args.disk c.size.new.self _
    (asked g.D.Disk c.args.disk c.open.new.self c.size.new.self c.open.ensures.tells c.open.ensures.seen c.open.ensures.crash
    c.open.ensures.time
    c.size.ensures.tells c.size.ensures.seen c.size.ensures.crash c.size.ensures.time)
    c.in-Err-opened_store.ensures.read_back
