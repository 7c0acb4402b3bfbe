use Rattle.std.proofs.Common.{sym, ap, ◌∙◌, ◌≡◌}
use Rattle.std.specs.Prelude.{find, is_some}
use Rattle.std.specs.Map.{values_of}
use Rattle.client_rules.specs.Commands.{others}
use Rattle.call_commands.specs.Pending.{answering}
use Rattle.call_commands.proofs.Pendings.{found, of_drive, kept_drive, keyed_without, taken_out, nonce_there, left_is}
use Rattle.call_commands.proofs.pending.PendingCommands.take.Goals as goal

pub invariant_of-self : goal.invariant_of-self
invariant_of-self c = rw c.remove.ensures.entries (keyed_without c.args.nonce c.self.inside.by_nonce.entries c.self.invariant)

pub returns-clause-found : goal.returns-clause-found
returns-clause-found c =
    let e : find (answering c.args.drive c.args.nonce) c.args.self.now ≡ of_drive c.args.drive c.remove.result =
    ap (find (answering c.args.drive c.args.nonce)) (sym c.self.view_is)
    ∙ found c.args.drive c.args.nonce c.self.inside.by_nonce.entries c.self.invariant c.known.ensures
    ∙ ap (of_drive c.args.drive) (sym c.remove.ensures.value)
    in sym (e ∙ kept_drive c.args.drive c.remove.result (sym (ap is_some e) ∙ sym c.has.ensures ∙ c.if-not-has.false))

pub returns-clause-left : goal.returns-clause-left
returns-clause-left c =
    let e : find (answering c.args.drive c.args.nonce) c.args.self.now ≡ of_drive c.args.drive c.remove.result =
    ap (find (answering c.args.drive c.args.nonce)) (sym c.self.view_is)
    ∙ found c.args.drive c.args.nonce c.self.inside.by_nonce.entries c.self.invariant c.known.ensures
    ∙ ap (of_drive c.args.drive) (sym c.remove.ensures.value)
    in ap values_of c.remove.ensures.entries
    ∙ taken_out c.args.nonce c.self.inside.by_nonce.entries c.self.invariant c.known.ensures
    ∙ ap (λ xs. others xs c.args.nonce) c.self.view_is
    ∙ sym (left_is c.args.self.now c.args.nonce c.remove.result
    (ap is_some (sym (kept_drive c.args.drive c.remove.result (sym (ap is_some e) ∙ sym c.has.ensures ∙ c.if-not-has.false))
    ∙ sym e) ∙ sym c.has.ensures ∙ c.if-not-has.false)
    (λ a x. nonce_there c.args.nonce c.self.inside.by_nonce.entries a c.self.invariant (sym c.remove.ensures.value ∙ x)))
