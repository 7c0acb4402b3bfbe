use Rattle.std.proofs.Common.{rules, ◌≡◌, Err}
use Rattle.osd_bytes.specs.declared.exchanges.ExchangeErr.TheVariants.{LinkFault}
use Rattle.osd_bytes.proofs.ExchangeLaws.{exchanged, cut_in_sending}
use Rattle.osd_bytes.proofs.exchanges.ask.Goals as goal

pub returns-in_err-send_all-clause-told : goal.returns-in_err-send_all-clause-told
returns-in_err-send_all-clause-told g c =
    let same : c.from_residual-in_err-send_all.result ≡ Err LinkFault = search rules in
    rw same (cut_in_sending c.args.to c.args.message.now c.as_slice.result.now (g.L.Links.told c.args.links.now)
    (g.L.Links.told c.connect.new.self) _ tt (search rules) c.in_ok-connect.ensures.told c.in_err-send_all.ensures.err)

pub returns-clause-told : goal.returns-clause-told
returns-clause-told g c =
    exchanged c.args.to c.args.message.now c.as_slice.result.now (g.L.Links.told c.args.links.now)
    (g.L.Links.told c.connect.new.self) (g.L.Links.told c.send_all.new.links) _ tt _
    (search rules) c.in_ok-connect.ensures.told c.in_ok-send_all.ensures.ok c.receive_record.ensures.told
