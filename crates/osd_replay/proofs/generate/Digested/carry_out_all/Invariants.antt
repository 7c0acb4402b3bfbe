use Rattle.std.proofs.Common.{◌≡◌, ◌++◌, []}
use Rattle.history_claims.specs.Texts.{EventsFit}
use Rattle.osd_replay.specs.Generate.{Made}
use Rattle.osd_replay.proofs.generate.Digested.carry_out_all.Given as goal

abbrev pub invariant-loop-event : goal.invariant-loop-event
invariant-loop-event g l = record {
  made : Made [] l.fn.self → EventsFit l.yielded → Made l.yielded l.self;
  split : l.fn.events.items ≡ l.yielded ++ l.event-iterator.rest.items;
}
