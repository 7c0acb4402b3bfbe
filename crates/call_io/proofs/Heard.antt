-- Replies whose command was taken out first, and components that were put out first.
use Rattle.std.proofs.Common.{◌≡◌, ℕ, List, [], ◌∷◌, refl, sym, ap, ◌∙◌}
use Rattle.std.specs.Prelude.{Option, Some, None}
use Rattle.client_rules.specs.Turns.{turned}
use Rattle.client_rules.specs.Io.{first_of}
use Rattle.client_rules.specs.Replies.{refused, replied, timed_out, gather_timed, scatter_timed}
use Rattle.call_commands.specs.Pending.{first_among}
use Rattle.call_io.specs.State.{CallOp, Held, Awaited, TimedOut, Phase, Starts, Needs, Waits, Reads, Probes, Gathers, Scatters, Goes, Reply}
use Rattle.call_io.specs.Steps.{on_reply, on_timeout}
use Rattle.call_io.specs.Heard.{heard_in, answered}
use Rattle.call_io.specs.Silence.{out_in, goes_without}

-- ---- replies

answered_is : (h : Held) (op : CallOp) (p : Phase) (a : Awaited) (r : Reply) →
    answered h op (heard_in p (Some a)) a r ≡ replied h op p a r
unfolding replied refused
answered_is h op (Reads io) a r = refl
answered_is h op (Probes io) a r = refl
answered_is h op (Gathers io) a r = refl
answered_is h op (Scatters io queue) a r = refl
answered_is h op Starts a r = refl
answered_is h op (Needs need) a r = refl
answered_is h op (Waits need) a r = refl

-- the command was found
pub found : (h : Held) (op : CallOp) (p q : Phase) (a : Awaited) (r : Reply) (t o : Option Awaited) → t ≡ o → t ≡ Some a →
    q ≡ heard_in p t → answered h op q a r ≡ on_reply h op p r o
found h op p q a r t o s e f =
    ap (λ (x : Phase). answered h op x a r) (f ∙ ap (heard_in p) e) ∙ answered_is h op p a r ∙ ap (on_reply h op p r) (sym e ∙ s)

as_it_was : (p : Phase) → heard_in p None ≡ p
as_it_was (Reads io) = refl
as_it_was (Probes io) = refl
as_it_was (Gathers io) = refl
as_it_was (Scatters io queue) = refl
as_it_was Starts = refl
as_it_was (Needs need) = refl
as_it_was (Waits need) = refl

-- it wasn't
pub unheard : (h : Held) (op : CallOp) (p q : Phase) (r : Reply) (t o : Option Awaited) → t ≡ o → t ≡ None → q ≡ heard_in p t →
    turned h (Goes q) ≡ on_reply h op p r o
unheard h op p q r t o s e f =
    ap (λ (x : Phase). turned h (Goes x)) (f ∙ ap (heard_in p) e ∙ as_it_was p) ∙ ap (on_reply h op p r) (sym e ∙ s)

-- ---- timeouts

without_is : (h : Held) (op : CallOp) (p : Phase) (k : ℕ) (a : Awaited) (xs : List Awaited) →
    goes_without h op (out_in p k (first_of a xs)) k ≡ timed_out h op p k a xs
unfolding gather_timed scatter_timed
without_is h op (Reads io) k a xs = refl
without_is h op (Probes io) k a xs = refl
without_is h op (Gathers io) k a xs = refl
without_is h op (Scatters io queue) k a xs = refl
without_is h op Starts k a xs = refl
without_is h op (Needs need) k a xs = refl
without_is h op (Waits need) k a xs = refl

-- it is awaited
pub silent : (h : Held) (op : CallOp) (p q : Phase) (k : ℕ) (t : TimedOut) (xs : List Awaited) → first_among xs ≡ Some t →
    q ≡ out_in p k t → goes_without h op q k ≡ on_timeout h op p k xs
silent h op p q k t [] e f = absurd (cc e)
silent h op p q k t (a ∷ xs) e f =
    let same : first_of a xs ≡ t = cc e in
    ap (λ (x : Phase). goes_without h op x k) (f ∙ ap (out_in p k) (sym same)) ∙ without_is h op p k a xs

-- it isn't
pub unasked : (h : Held) (op : CallOp) (p : Phase) (k : ℕ) (xs : List Awaited) → first_among xs ≡ None →
    turned h (Goes p) ≡ on_timeout h op p k xs
unasked h op p k [] e = refl
unasked h op p k (a ∷ xs) e = absurd (cc e)
