use Rattle.std.proofs.Common.{◌<◌, length, arith}
use Rattle.mio_ports.proofs.TableLaws.{few_more}
use Rattle.mio_ports.proofs.table.Table.keep.Goals as goal

pub invariant_of-self : goal.invariant_of-self
invariant_of-self c =
    let table = c.args.self.now in
    let room : length table.slots.entries < table.limits.connections = omega (arith, c.if-len-self.false, c.len.ensures.len) in
    record {
      few = few_more table.slots.entries c.insert.new.self.entries table.limits.connections c.insert.result
          room c.insert.ensures.len c.insert.ensures.err;
    }
