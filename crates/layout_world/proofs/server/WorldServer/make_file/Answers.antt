use Rattle.std.proofs.Common.{refl, sym}
use Rattle.std.proofs.lemmas.Result.{IfOk-weaker}
use Rattle.world_history.specs.Moves.{raw_of}
use Rattle.layout_world.proofs.Refused.{made_by, refused_by, unknown}
use Rattle.layout_world.proofs.server.WorldServer.make_file.Goals as goal

pub returns-then-not-has_algorithm : goal.returns-then-not-has_algorithm
returns-then-not-has_algorithm g c =
    IfOk-weaker c.line.result _ _ (λ act h.
    unknown c.args.self.now c.args.file (raw_of c.args.map.now) c.args.tag c.args.zoned c.args.self.now act
    (sym c.if-not-has_algorithm.ensures.value) refl h) c.line.ensures

pub returns-in-Ok : goal.returns-in-Ok
returns-in-Ok g c =
    IfOk-weaker c.did.result _ _ (λ act h.
    made_by c.args.self.now _ _ c.args.file c.args.file (raw_of c.args.map.now)
    (raw_of c.args.map.now) c.args.tag c.args.zoned _ c.did.new.self act
    c.if-not-has_algorithm.ensures.value refl refl refl c.in-Ok.ensures.made h) c.did.ensures

pub returns-in-Err : goal.returns-in-Err
returns-in-Err g c =
    IfOk-weaker c.tell_refusal.result _ _ (λ act h.
    refused_by c.args.self.now _ _ c.args.file c.args.file (raw_of c.args.map.now)
    (raw_of c.args.map.now) c.args.tag c.args.zoned _ _ act
    c.if-not-has_algorithm.ensures.value refl refl refl
    c.in-Err.ensures.refused h refl c.in-Err.ensures.mended) c.tell_refusal.ensures
