use Rattle.layout_world.proofs.Delivered.{hands_ok}
use Rattle.layout_world.proofs.delivering.hand.Goals as goal

pub returns-in-Drive-clause-handed : goal.returns-in-Drive-clause-handed
returns-in-Drive-clause-handed g c =
    hands_ok c.hand_drive.result c.args.number _ c.message.result.now c.args.parties.now c.hand_drive.new.parties
    c.message.ensures c.in-Drive.is c.hand_drive.ensures.handed

pub returns-in-Client-clause-handed : goal.returns-in-Client-clause-handed
returns-in-Client-clause-handed g c =
    hands_ok c.hand_client.result c.args.number _ c.message.result.now c.args.parties.now c.hand_client.new.parties
    c.message.ensures c.in-Client.is c.hand_client.ensures.handed

pub returns-in-Server-clause-handed : goal.returns-in-Server-clause-handed
returns-in-Server-clause-handed g c =
    hands_ok c.hand_server.result c.args.number _ c.message.result.now c.args.parties.now c.hand_server.new.parties
    c.message.ensures c.in-Server.is c.hand_server.ensures.handed
