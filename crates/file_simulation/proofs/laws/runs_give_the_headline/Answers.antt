use Rattle.file_simulation.proofs.Conclusion.{runs_give_the_headline}
use Rattle.file_simulation.proofs.laws.runs_give_the_headline.Goals as goal

pub returns : goal.returns
returns c =
    runs_give_the_headline c.layouts_are_codes.ensures c.columns_have_stripes.ensures c.judged.ensures c.whole.ensures
