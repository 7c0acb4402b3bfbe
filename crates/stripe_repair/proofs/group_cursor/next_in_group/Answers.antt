use Rattle.stripe_repair.proofs.GroupTurns.{next_from, next_stands, next_none}
use Rattle.stripe_repair.proofs.group_cursor.next_in_group.Goals as goal

pub returns-clause-from : goal.returns-clause-from
returns-clause-from c =
    rw (
      c.from.ensures,
      c.from-depth.ensures,
      c.raw.ensures.value,
      c.group-own.ensures.value,
      c.groups.ensures.value,
      c.groups-2.ensures.value,
    )
    (next_from c.args.map.now c.args.group c.args.stripe c.known.ensures c.requires.group
    (rw c.group-own.ensures.value at c.if-own-group.false))

pub returns-clause-stands : goal.returns-clause-stands
returns-clause-stands c =
    rw (
      c.from.ensures,
      c.from-depth.ensures,
      c.raw.ensures.value,
      c.group-own.ensures.value,
      c.groups.ensures.value,
      c.groups-2.ensures.value,
    )
    (next_stands c.args.map.now c.args.group c.args.stripe c.known.ensures c.requires.group
    (rw c.group-own.ensures.value at c.if-own-group.false))

pub returns-clause-none : goal.returns-clause-none
returns-clause-none c =
    rw (
      c.from.ensures,
      c.from-depth.ensures,
      c.raw.ensures.value,
      c.group-own.ensures.value,
      c.groups.ensures.value,
      c.groups-2.ensures.value,
    )
    (next_none c.args.map.now c.args.group c.args.stripe c.known.ensures c.requires.group
    (rw c.group-own.ensures.value at c.if-own-group.false))
