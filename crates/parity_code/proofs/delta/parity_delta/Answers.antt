use Rattle.std.proofs.Common.{◌∙◌, ap, refl}
use Rattle.gf256.specs.Field.{added, summed}
use Rattle.parity_code.proofs.DeltaLaws.{p_follows, q_follows}
use Rattle.parity_code.proofs.delta.parity_delta.Goals as goal

pub returns-in-Xor-clause-p_follows : goal.returns-in-Xor-clause-p_follows
returns-in-Xor-clause-p_follows c = λ some k units lt at is_old is_p.
    p_follows c.args.p.now c.args.old.now c.args.new.now (summed c.args.p.now c.args.old.now) c.exchange.new.sum
    (c.requires.p some) c.requires.new refl c.exchange.ensures k c.args.data_position units lt at is_old is_p

pub returns-in-PandQ-clause-p_follows : goal.returns-in-PandQ-clause-p_follows
returns-in-PandQ-clause-p_follows c = λ some k units lt at is_old is_p.
    p_follows c.args.p.now c.args.old.now c.args.new.now (summed c.args.p.now c.args.old.now) c.exchange-in-PandQ.new.sum
    (c.requires.p some) c.requires.new refl c.exchange-in-PandQ.ensures k c.args.data_position units lt at is_old is_p

pub returns-in-PandQ-clause-q_follows : goal.returns-in-PandQ-clause-q_follows
returns-in-PandQ-clause-q_follows c = λ both k units lt at is_old is_q.
    q_follows c.args.q.now c.args.old.now c.args.new.now c.add_scaled.new.out c.add_scaled-in-PandQ.new.out
    (c.requires.q both) c.requires.new k c.args.data_position units
    (c.add_scaled.ensures ∙ ap (λ w. added w c.args.q.now c.args.old.now) c.power-weight.ensures)
    (c.add_scaled-in-PandQ.ensures ∙ ap (λ w. added w c.add_scaled.new.out c.args.new.now) c.power-weight.ensures)
    lt at is_old is_q
