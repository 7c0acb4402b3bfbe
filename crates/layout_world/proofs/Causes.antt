-- The first of two causes against an event.
use Rattle.std.proofs.Common.{◌≡◌, Option, ap, ◌∙◌}
use Rattle.world_history.specs.declared.err.WorldErr.{WorldErr}
use Rattle.world_history.specs.State.{World}
use Rattle.world_history.specs.Refusals.{first_of}
use Rattle.layout_world.specs.declared.parties.Parties.{Parties}
use Rattle.layout_world.specs.Refusing.{IsCause}

pub first_cause : (p : Parties) (a b : World → Option WorldErr) (x y r : Option WorldErr) → r ≡ first_of x y
    → IsCause p a x → IsCause p b y → IsCause p (λ w. first_of (a w) (b w)) r
first_cause p a b x y r e f g = λ w s.
    e ∙ ap (λ (o : Option WorldErr). first_of o y) (f w s) ∙ ap (λ (o : Option WorldErr). first_of (a w) o) (g w s)
