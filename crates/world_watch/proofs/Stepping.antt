-- Steps as the code sees them.
use Rattle.std.proofs.Common.{◌≡◌, List, true, Option, ap, ◌∙◌}
use Rattle.scenario_text.specs.declared.line.Line.{Line}
use Rattle.world_history.specs.declared.messages.Sent.{Sent}
use Rattle.world_history.specs.ServerNames.{Mended}
use Rattle.world_history.specs.Reading.{is_head}
use Rattle.world_calm.specs.declared.calm.Performed.{Performed}
use Rattle.world_calm.specs.Seeing.{CalmState, KeptOf, sees}
use Rattle.world_watch.specs.Steps.{performed_at, sees_headed}

pub headed : (kept : KeptOf) (rs : List Mended) (ms : List Sent) (c : CalmState) (injected : Option Performed)
    (head : Line) (rest : List Line) (p : Option Performed) (x : CalmState) → is_head head ≡ true
    → p ≡ performed_at ms injected head → x ≡ sees kept rs c ms head rest p
    → x ≡ sees_headed kept rs ms c injected head rest
unfolding sees_headed
headed kept rs ms c injected head rest p x t e q =
    rw t (q ∙ ap (λ (o : Option Performed). sees kept rs c ms head rest o) e)
