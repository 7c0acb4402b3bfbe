use Rattle.server_state.proofs.SlotLaws.{set_there, pushed_last}
use Rattle.server_state.proofs.slots.keep.Goals as goal

pub returns-then-place-len : goal.returns-then-place-len
returns-then-place-len c =
    let place = rw (c.as_slice.ensures, c.client.ensures) at c.place_of-place.ensures in
    set_there c.args.slots.now c.args.slot c.place_of-place.result c.len.result place c.len.ensures c.if-place-len.true

pub returns : goal.returns
returns c =
    let place = rw (c.as_slice.ensures, c.client.ensures) at c.place_of-place.ensures in
    pushed_last c.args.slots.now c.args.slot c.place_of-place.result c.len.result c.push.result c.push.new.self place
    c.len.ensures c.if-place-len.false c.push.ensures.ok
