use Rattle.std.proofs.Common.{◌≡◌, ap, subst, ◌∙◌}
use Rattle.world_history.specs.declared.messages.Sent.{Sent}
use Rattle.world_history.specs.Spelled.{node_of}
use Rattle.world_parties.specs.Clients.{heard_in, Hears}
use Rattle.layout_world.proofs.Delivered.{same_message, client_handed}
use Rattle.layout_world.proofs.delivering.hand_client.Goals as goal

pub returns-clause-handed : goal.returns-clause-handed
returns-clause-handed c = λ s f t.
    let p = c.args.parties.now in
    let same : c.message-sent.result.now ≡ s =
    same_message p c.args.number c.message-sent.result.now s c.message-sent.ensures f in
    client_handed c.clients_are_the_worlds.ensures.hear p c.hear.new.self s c.args.client c.node_of-from.result
    c.in_ok-handed.handed t (c.node_of-from.ensures ∙ ap (λ (x : Sent). node_of x.from) same)
    (subst (λ (x : Sent). Hears (heard_in p.clients c.args.client c.node_of-from.result x.bytes) c.hear.new.self
    c.in_ok-handed.handed) same (rw c.as_slice.ensures at c.in_ok-handed.ensures))
