-- What is read off lines goes on with further lines from where it was.
use Rattle.std.proofs.Common.{◌≡◌, ◌++◌, ◌∷◌, [], List, Bool, true, false, refl, ap, ◌∙◌}
use Rattle.std.specs.List.{fold}
use Rattle.std.proofs.lemmas.List.Sums.{fold-append}
use Rattle.scenario_text.specs.declared.line.Line.{Line}
use Rattle.world_history.specs.Reading.{is_head, Step, Grouped, grouped_with, grouped, steps_of, sent_after, sent_in}
use Rattle.world_history.specs.ReadDrives.{sees_drive}
use Rattle.world_history.specs.Book.{sees_server, server_at_first}
use Rattle.world_history.specs.ReadLog.{log_after, empty_log}
use Rattle.world_history.specs.Calm.{sees, first_seen}
use Rattle.world_history.specs.Guesses.{guards}
use Rattle.world_history.specs.Summing.{counts_line, no_summary}
use Rattle.world_history.specs.Laws.{BeginWithHead, StepsGoOn, ServerGoesOn, MomentGoesOn, LinesGoOn}

-- the steps of lines behind others that are grouped
abbrev joined : Grouped → List Step → Grouped
joined g steps = record { loose = g.loose; steps = g.steps ++ steps }

with_joined : (b : Bool) (l : Line) (g : Grouped) (steps : List Step)
    → grouped_with b l (joined g steps) ≡ joined (grouped_with b l g) steps
with_joined true l g steps = refl
with_joined false l g steps = refl

none_loose : (b : Bool) (l : Line) (g : Grouped) → b ≡ true → (grouped_with b l g).loose ≡ []
none_loose true l g e = refl
none_loose false l g e = absurd (cc e)

grouped_more : (h more : List Line) → (grouped more).loose ≡ []
    → grouped (h ++ more) ≡ joined (grouped h) (grouped more).steps
unfolding grouped
grouped_more [] more e = ap (λ (x : List Line). record { loose = x; steps = (grouped more).steps }) e
grouped_more (l ∷ h) more e =
    ap (λ (g : Grouped). grouped_with (is_head l) l g) (grouped_more h more e)
    ∙ with_joined (is_head l) l (grouped h) (grouped more).steps

begins_loose : (more : List Line) → BeginWithHead more → (grouped more).loose ≡ []
unfolding grouped
begins_loose [] b = absurd b
begins_loose (l ∷ ls) b = none_loose (is_head l) l (grouped ls) b

pub steps_go_on : StepsGoOn
steps_go_on h more b = ap (λ (g : Grouped). g.steps) (grouped_more h more (begins_loose more b))

pub server_goes_on : ServerGoesOn
server_goes_on h more b =
    ap (λ (x : List Step). fold sees_server server_at_first x) (steps_go_on h more b)
    ∙ fold-append sees_server server_at_first (steps_of h) (steps_of more)

pub moment_goes_on : MomentGoesOn
moment_goes_on h more b =
    ap (λ (x : List Step). fold sees first_seen x) (steps_go_on h more b)
    ∙ fold-append sees first_seen (steps_of h) (steps_of more)

pub lines_go_on : (h more : List Line) → LinesGoOn h more
unfolding sent_in
lines_go_on h more = record {
  messages = fold-append sent_after [] h more;
  drives = λ d. fold-append (sees_drive d) _ h more;
  log = fold-append log_after empty_log h more;
  guesses = fold-append guards _ h more;
  summary = fold-append counts_line no_summary h more;
}
