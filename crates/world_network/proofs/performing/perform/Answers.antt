use Rattle.world_network.proofs.Posted.{performs_behind, told_front}
use Rattle.world_network.proofs.performing.perform.Goals as goal

pub returns-in-Ok : goal.returns-in-Ok
returns-in-Ok c =
    performs_behind c.args.network.now c.post_all.new.self c.args.act c.args.lines.now c.append.new.lines c.post_all.new.lines
    c.post_all.result c.in-Ok.ensures.all c.post_all.ensures

pub returns-in-Err : goal.returns-in-Err
returns-in-Err c =
    let f = c.append.ensures.front in
    (f.0, f.1, told_front c.args.network.now c.args.act f.0 f.2)
