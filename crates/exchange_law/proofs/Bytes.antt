-- Each message has a byte that is kept.
use Rattle.std.proofs.Common.{◌≡◌, ℕ, ◌-◌, ◌≤◌, ◌++◌, ◌∷◌, [], List, length, take, replicate, sum_by, refl, arith}
use Rattle.std.specs.Int.{w16, w32, w64, to_be_bytes}
use Rattle.std.proofs.lemmas.List.{length-append}
use Rattle.std.proofs.lemmas.List.Sums.{sum_by-cons}
use Rattle.xdr_codec.specs.Items.{u32_item}
use Rattle.layout_ops.specs.declared.envelope.Envelope.{Envelope}
use Rattle.layout_ops.specs.declared.envelope.Envelope.TheVariants as envelope
use Rattle.layout_ops.specs.Spelling.{envelope_item, request_item, answer_item, recall_item, recall_answer_item, order_item, order_answer_item}
use Rattle.osd_capability.specs.Layout as capabilities
use Rattle.osd_commands.specs.declared.commands.Command.{Command}
use Rattle.osd_commands.specs.declared.replies.Reply.{Reply}
use Rattle.osd_commands.specs.Commands as commands
use Rattle.osd_commands.specs.Replies as replies
use Rattle.osd_commands.proofs.Writing.{length-fields}
use Rattle.world_history.specs.declared.messages.Body.{Body}
use Rattle.world_history.specs.declared.messages.Body.TheVariants.{Command as OfCommand, Reply as OfReply, Envelope as OfEnvelope}
use Rattle.world_history.specs.State.{World}
use Rattle.world_history.specs.Spelled.{spelled}
use Rattle.world_history.specs.Handed.{Post}
use Rattle.world_history.specs.Moves.{acts}
use Rattle.world_history.specs.Sending.{Move, move, cost}
use Rattle.history_law.proofs.Counting.{acts_count}
use Rattle.history_law.proofs.HistoryMoments.{always}
use Rattle.history_law.proofs.Histories.{stands}
use Rattle.history_law.proofs.DriveEvents.{kept as all_read, IsRead}
use Rattle.exchange_law.specs.Text.{EachMessageIsKept, WithinTheLimitAreFew}
use Rattle.exchange_law.proofs.ClientMoves.{longer_by}
use Rattle.exchange_law.proofs.CountGrowing.{as_many}

-- ---- no message is empty

some_more : (xs ys : List ℕ) → 1 ≤ length xs → 1 ≤ length (xs ++ ys)
some_more xs ys l = omega (arith, length-append xs ys, l)

some_first : (n : ℕ) (rest : List ℕ) → 1 ≤ length (to_be_bytes w32 n ++ rest)
some_first n rest =
    let four : length (to_be_bytes w32 n) ≡ 4 = refl in some_more (to_be_bytes w32 n) rest (omega (arith, four))

some_number : (n : ℕ) → 1 ≤ length (u32_item n)
unfolding u32_item
some_number n = let four : length (to_be_bytes w32 n) ≡ 4 = refl in omega (arith, four)

some_envelope : (e : Envelope) → 1 ≤ length (envelope_item e)
some_envelope (envelope.Request v) = some_more (u32_item 1) (request_item v) (some_number 1)
some_envelope (envelope.Answer v) = some_more (u32_item 2) (answer_item v) (some_number 2)
some_envelope (envelope.Recall v) = some_more (u32_item 3) (recall_item v) (some_number 3)
some_envelope (envelope.RecallAnswer v) = some_more (u32_item 4) (recall_answer_item v) (some_number 4)
some_envelope (envelope.Order v) = some_more (u32_item 5) (order_item v) (some_number 5)
some_envelope (envelope.OrderAnswer v) = some_more (u32_item 6) (order_answer_item v) (some_number 6)

some_command : (c : Command) → 1 ≤ length (commands.spelling c)
unfolding commands.spelling commands.head
some_command c =
    some_more (commands.head c) (take (commands.check_len c.capability.format) c.check ++ c.payload)
    (some_more (commands.fields c)
    (capabilities.spelling c.capability ++ replicate (96 - commands.check_len c.capability.format) 0)
    (omega (arith, length-fields c)))

some_reply : (r : Reply) → 1 ≤ length (replies.spelling r)
unfolding replies.spelling replies.fields
some_reply r =
    some_more (replies.fields r) r.payload
    (some_first replies.magic (to_be_bytes w16 r.action ++ (to_be_bytes w16 r.verdict ++ (to_be_bytes w64 r.object
    ++ (to_be_bytes w64 r.nonce ++ (to_be_bytes w64 r.detail ++ (to_be_bytes w32 (length r.payload) ++ replicate 4 0)))))))

pub some_byte : (b : Body) → 1 ≤ length (spelled b)
some_byte (OfCommand c) = some_command c
some_byte (OfReply r) = some_reply r
some_byte (OfEnvelope e) = some_envelope e

-- ---- what they cost

costs : (ps : List Post) → length ps ≤ sum_by cost ps
costs [] = omega arith
costs (p ∷ ps) = omega (arith, some_byte p.message.body, costs ps, sum_by-cons cost p ps)

move_costs : (w : World) (m : Move) → length w.network.messages ≤ w.network.kept
    → length (move w m).world.network.messages ≤ (move w m).world.network.kept
move_costs w m l =
    omega (
      arith,
      l,
      longer_by w m,
      costs (acts w m.chosen m.action).posts,
      (acts_count w m.chosen m.action).kept,
    )

pub each_message_is_kept : EachMessageIsKept
each_message_is_kept w reached =
    always (λ (v : World). length v.network.messages ≤ v.network.kept)
    (record { starts = omega arith; moves = move_costs }) w reached

pub within_the_limit_are_few : WithinTheLimitAreFew
within_the_limit_are_few w h s within =
    let many = as_many w h (stands IsRead all_read w h s) in
    let kept : length w.network.messages ≤ w.network.kept =
    each_message_is_kept w (record { before = w; history = h; stands = s; moves = []; world_is = refl }) in
    omega (arith, many, kept, within)
