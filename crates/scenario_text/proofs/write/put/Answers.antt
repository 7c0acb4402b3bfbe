use Rattle.std.proofs.Common.{[]}
use Rattle.scenario_text.specs.declared.write.Word.TheVariants.{Fixed}
use Rattle.scenario_text.proofs.Behind.{word_out}
use Rattle.scenario_text.proofs.write.put.Goals as goal

pub loop-word-preserved : goal.loop-word-preserved
loop-word-preserved c =
    word_out c.args.out.now c.loop-word.out c.push.new.self c.put_word.new.out c.args.words.now c.loop-word.word-index
    (Fixed (record { ref_ptr = (0, 0); now = [] })) c.loop-word-test.true c.loop-word.invariant c.in_ok-push.ensures.ok
    c.in_ok-put_word.ensures
