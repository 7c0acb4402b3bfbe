-- The bytes of a client's message tell whether it is a WRITE.
use Rattle.std.proofs.Common.{◌≡◌, ℕ, ◌+◌, ◌≤◌, Bool, true, false, ◌||◌, ◌&&◌, List, [], ◌∷◌, ◌++◌, length, map, refl, sym, ap, ◌∙◌, arith, length-append}
use Rattle.std.specs.Prelude.{◌==◌, nat_le, slice_range}
use Rattle.std.specs.Int.{w16, to_be_bytes, from_be_bytes}
use Rattle.std.specs.List.{list_any}
use Rattle.std.proofs.lemmas.Bool.Decides.{nat_tests}
use Rattle.osd_commands.specs.declared.actions.Action.{Action}
use Rattle.osd_commands.specs.declared.actions.Action.TheVariants as action
use Rattle.osd_commands.specs.declared.commands.Command.{Command}
use Rattle.osd_commands.specs.Actions.{number_of}
use Rattle.osd_commands.specs.Commands.{fields, head, spelling}
use Rattle.osd_commands.proofs.Writing.{length-fields}
use Rattle.osd_drive.specs.Table.{is_write as writes}
use Rattle.stripe_client.specs.Sending.{sent_of, spelled}
use Rattle.world_history.specs.ClientNames.{Outgoing, AnswersRecall, Asks, ToDrive}
use Rattle.world_history.specs.Handed.{is_write_out}
use Rattle.world_parties.specs.Posting.{has_write, is_write}

action_spelled : (c : Command) → slice_range (spelling c) 4 6 ≡ to_be_bytes w16 (number_of c.action)
unfolding spelling head fields
action_spelled c = refl

long_front : (xs ys zs : List ℕ) → 6 ≤ length xs → 6 ≤ length ((xs ++ ys) ++ zs)
long_front xs ys zs l = omega (arith, length-append (xs ++ ys) zs, length-append xs ys, l)

long_spelled : (c : Command) → 6 ≤ length (spelling c)
unfolding spelling head
long_spelled c = long_front (fields c) _ _ (omega (arith, length-fields c))

by_action : (a : Action) → (from_be_bytes w16 (to_be_bytes w16 (number_of a)) == number_of action.Write) ≡ writes a
by_action action.Create = refl
by_action action.Read = refl
by_action action.Write = refl
by_action action.GetAttr = refl
by_action action.SetAttr = refl
by_action action.SetTag = refl

action_written : (c : Command) → has_write (spelling c) ≡ writes c.action
action_written c = rw (action_spelled c) (by_action c.action)

long_enough : (n : ℕ) → 6 ≤ n → nat_le 6 n ≡ true
long_enough n l = grind (arith, nat_tests, l)

pub written : (o : Outgoing) → is_write (sent_of o) ≡ is_write_out o
written (AnswersRecall a) = refl
written (Asks r) = refl
written (ToDrive d c) = rw (long_enough (length (spelling c)) (long_spelled c)) (action_written c)

pub any_written : (os : List Outgoing) → list_any is_write (spelled os) ≡ list_any is_write_out os
any_written [] = refl
any_written (o ∷ os) = rw (written o, any_written os) refl
