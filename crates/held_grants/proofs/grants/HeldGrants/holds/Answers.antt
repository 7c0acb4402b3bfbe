use Rattle.std.proofs.Common.{sym, ap, ◌∙◌}
use Rattle.held_grants.proofs.FileMaps.{found, named, has_number}
use Rattle.held_grants.proofs.grants.HeldGrants.holds.Goals as goal

pub returns-in-Some : goal.returns-in-Some
returns-in-Some c =
    rw (← c.self.view_is)
    (sym (named _ _ c.self.invariant
    ∙ ap (has_number c.args.due.number) (sym (found c.args.due.file _ c.self.invariant) ∙ sym c.in-Some.ensures.value)))

pub returns-in-None : goal.returns-in-None
returns-in-None c =
    rw (← c.self.view_is)
    (sym (named _ _ c.self.invariant
    ∙ ap (has_number c.args.due.number) (sym (found c.args.due.file _ c.self.invariant) ∙ sym c.in-None.ensures.value)))
