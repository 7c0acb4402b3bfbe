use Rattle.std.proofs.Common.{rules, tests, ap, ◌∙◌, ◌≡◌, ℕ}
use Rattle.std.specs.Prelude.{not, ◌==◌}
use Rattle.std.specs.Map.{values_of}
use Rattle.std.proofs.lemmas.Map.Entries.{filter_from_retain_pairs}
use Rattle.client_rules.specs.Commands.{not_of}
use Rattle.call_commands.specs.State.{Awaited}
use Rattle.call_commands.proofs.Pendings.{keyed_kept, kept_values}
use Rattle.call_commands.proofs.pending.PendingCommands.drop_component.Goals as goal

pub invariant_of-self : goal.invariant_of-self
invariant_of-self c =
    rw (filter_from_retain_pairs _ (λ g. g.0.now ≡ c.args.component)
    (λ (e : ℕ × Awaited). not (e.1.ask.component == c.args.component)) (λ g k v b w g' i t. search (rules, tests, i)) _ _ _
    (search (rules, tests)) c.retain.ensures.filtered)
    (keyed_kept _ c.self.inside.by_nonce.entries c.self.invariant)

pub returns : goal.returns
returns c =
    ap values_of
    (filter_from_retain_pairs _ (λ g. g.0.now ≡ c.args.component)
    (λ (e : ℕ × Awaited). not (e.1.ask.component == c.args.component)) (λ g k v b w g' i t. search (rules, tests, i)) _ _ _
    (search (rules, tests)) c.retain.ensures.filtered)
    ∙ kept_values c.args.component c.self.inside.by_nonce.entries
    ∙ ap (not_of c.args.component) c.self.view_is
