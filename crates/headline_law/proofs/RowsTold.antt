-- What drives tell the server: each reply is to a message of the server, and has the nonce of a command that the server sent.
-- Towards `RowsFollow` (`specs/Parts.antt`).
use Rattle.std.proofs.Common.{◌≡◌, ◌⊎◌, ℕ, ◌<◌, ◌≤◌, ◌%◌, ◌^◌, false, List, Some, Result, Ok, Err, refl, sym, ap, subst, ◌∙◌, arith, inl, inr}
use Rattle.std.specs.Prelude.{slice_range}
use Rattle.std.specs.Int.{w64, to_be_bytes, from_be_bytes}
use Rattle.osd_capability.specs.declared.layout.Capability.{Capability}
use Rattle.osd_commands.specs.Commands.{spelling, reading, command_at}
use Rattle.osd_commands.specs.declared.actions.Action.{Action as CommandAction}
use Rattle.osd_commands.specs.declared.commands.Command.{Command}
use Rattle.osd_commands.specs.declared.commands.CommandErr.{CommandErr}
use Rattle.osd_commands.specs.declared.replies.Reply.{Reply}
use Rattle.osd_drive.specs.Table.{first_fault}
use Rattle.osd_drive.specs.Effects.{reply_by}
use Rattle.osd_lists.specs.declared.node.Node.{Node}
use Rattle.osd_lists.specs.declared.node.Node.TheVariants as node
use Rattle.scenario_text.specs.declared.line.Line.{Line}
use Rattle.server_rules.specs.declared.limits.TheConstants.{PERFORMED}
use Rattle.server_rules.specs.History as server
use Rattle.server_rules.specs.Laws.{In}
use Rattle.server_rules.proofs.Members.{in_map}
use Rattle.client_rules.specs.History as client
use Rattle.world_history.specs.ServerNames.{Server}
use Rattle.world_history.specs.declared.messages.Body.{Body}
use Rattle.world_history.specs.declared.messages.Body.TheVariants.{Command as OfCommand, Reply as OfReply}
use Rattle.world_history.specs.declared.messages.Message.{Message}
use Rattle.world_history.specs.declared.messages.Posted.{Posted}
use Rattle.world_history.specs.Drives.{command_in, judges, is_deaf}
use Rattle.world_history.specs.Handed.{Post, wrote_in, data_in, op_in}
use Rattle.world_history.specs.Moves.{Act, Action, acts}
use Rattle.world_history.specs.Sending.{Move, move}
use Rattle.world_history.specs.State.{World, DriveAt, at_number}
use Rattle.world_history.proofs.Always.{opening, IsKept}
use Rattle.history_law.specs.Moments.{IsMoment}
use Rattle.history_law.specs.Said.{said, posted, IsDelivered}
use Rattle.history_law.specs.Moves.{MoveCases}
use Rattle.history_law.proofs.FencingMoves.{messages_in, Moved, Idles, Goes, moved}
use Rattle.history_law.proofs.Goes.{moves_are_steps}
use Rattle.history_law.proofs.JobSteps.{step_numbers}
use Rattle.history_law.proofs.Moves.{each_act}
use Rattle.history_law.proofs.Numbers.{Numbers, to_drive, numbers_move, numbers_first}
use Rattle.history_law.proofs.Spelled.{nonce_part}
use Rattle.exchange_law.proofs.CountMoments.{at_moment}
use Rattle.exchange_law.proofs.LatestLaw.{sent_split}
use Rattle.exchange_law.proofs.RefusalVerdicts.{judged_agrees}
use Rattle.exchange_law.proofs.Replied.{from_server, from_client}
use Rattle.file_simulation.specs.Jobs.{HasToldServer}
use Rattle.relation_law.proofs.ComponentsReading.{taken}
use Rattle.relation_law.proofs.DriveMoves.{got_in}
use Rattle.relation_law.proofs.Heard.{judged_low}
use Rattle.relation_law.proofs.ReadsDrive.{reply_nonce}

-- ---- who replies

-- drive d, which hears, judges a message of the server, and replies r
pub record IsReplying (w : World) (d : ℕ) (r : Reply) : Type 0 where
  pub delivered : IsDelivered w (node.Drive d)
  pub drive : DriveAt
  pub there : at_number w.drives d ≡ Some drive
  pub hears : is_deaf drive ≡ false
  pub from : delivered.posted.message.from ≡ node.Server
  pub reply : r ≡ (judges drive (command_in delivered.posted.message.body)).reply

-- what a drive says to the server
abbrev told_message : (d : ℕ) → Body → Message
told_message d b = record { from = node.Drive d; to = node.Server; body = b }

-- it is such a reply
abbrev pub RepliesNow : World → (d : ℕ) → Body → Type 0
RepliesNow w d b = (r : Reply) × (b ≡ OfReply r) × IsReplying w d r

module _ (w : World) (chosen : List ℕ) (action : Action) where
  -- all that a move sends from a drive to the server is so
  Replies : Act → Type 0
  Replies a = (d : ℕ) (b : Body) → In (told_message d b) (posted a.posts) → RepliesNow w d b

  cases : MoveCases w chosen action Replies
  unfolding Replies
  cases = record {
    rests = λ ms same told quiet d b i. absurd i;
    refused = λ n a there op is e why d b i. absurd i;
    clock = λ time d b i. absurd i;
    serves = λ ms same i is d b n.
        absurd (not_server d (from_server (told_message d b) (server.step w.server chosen i).sends n));
    goes = λ ms same n a there i is d b x.
        absurd
        (not_client d n
        (from_client (told_message d b) n (wrote_in a i) (data_in (op_in a.state i)) (client.step a.state i).sends x));
    comes = λ n is d b i. absurd i;
    stops = λ n a there d b i. absurd i;
    judged = λ ms same k a there hears m number d b i. elim i [
      | inl e ↦
          let to_drive : d ≡ k = cc (ap (λ (x : Message). x.from) e) in
          let from : m.posted.message.from ≡ node.Server = sym (ap (λ (x : Message). x.to) e) in
          let reply : Reply = (judges a (command_in m.posted.message.body)).reply in (
            reply,
            ap (λ (x : Message). x.body) e,
            subst (λ (n : ℕ). IsReplying w n (judges a (command_in m.posted.message.body)).reply) (sym to_drive)
                (record { delivered = m; drive = a; there = there; hears = hears; from = from; reply = refl }),
          )
      | inr none ↦ absurd none
    ];
    injected = λ k bytes is a there d b i. absurd i;
    turns = λ k a c there turns d b i. absurd i;
    known = λ k key capacity stored is knows d b i. absurd i;
    adds = λ k key capacity stored is knows d b i. absurd i;
  }
    where
      not_server : (d : ℕ) → node.Drive d ≡ node.Server → ⊥
      not_server d e = cc e

      not_client : (d n : ℕ) → node.Drive d ≡ node.Client n → ⊥
      not_client d n e = cc e

  replies : Replies (acts w chosen action)
  replies = each_act w chosen Replies action cases

-- what a drive has told the server behind a move it had told before, or tells in it
said_before_or_now : (w : World) (m : Move) (d : ℕ) (b : Body) → In (told_message d b) (said (move w m).world.network.messages) →
    In (told_message d b) (said w.network.messages) ⊎ RepliesNow w d b
unfolding Replies
said_before_or_now w m d b i =
    elim (sent_split w (acts w m.chosen m.action) (told_message d b) (moves_are_steps w m.chosen m.action).said i) [
      | inl old ↦ inl old
      | inr (p, j, is) ↦
          inr (replies w m.chosen m.action d b (subst (λ (x : Message). In x (posted (acts w m.chosen m.action).posts)) (sym is)
          (in_map (λ (q : Post). q.message) p (acts w m.chosen m.action).posts j)))
    ]

pub told_before_or_now : (w : World) (m : Move) (d : ℕ) (r : Reply) → HasToldServer (move w m).world d r →
    HasToldServer w d r ⊎ IsReplying w d r
told_before_or_now w m d r i = elim (said_before_or_now w m d (OfReply r) i) [
  | inl old ↦ inl old
  | inr now ↦ let same : now.0 ≡ r = cc (sym now.1) in inr (subst (IsReplying w d) same now.2)
]

-- ---- of what

nonce_at : (a : CommandAction) (cap : Capability) (bytes : List ℕ) →
    (command_at a cap bytes).nonce ≡ from_be_bytes w64 (slice_range bytes 40 48)
unfolding command_at
nonce_at a cap bytes = refl

read_64 : (n : ℕ) → from_be_bytes w64 (to_be_bytes w64 n) ≡ n % 2 ^ 64
read_64 n = omega arith

-- the nonce that is read isn't greater than the one that was spelled
nonce_low : (c x : Command) → reading (spelling c) ≡ Ok x → x.nonce ≤ c.nonce
nonce_low c x e =
    let t = taken (spelling c) x e in
    let is : x.nonce ≡ c.nonce % 2 ^ 64 =
    ap (λ (z : Command). z.nonce) (sym t.is) ∙ nonce_at t.action t.capability (spelling c)
    ∙ ap (from_be_bytes w64) (nonce_part c) ∙ read_64 c.nonce in
    omega (arith, is)

-- the server's message to a drive is a command
its_command : (w : World) → Numbers w → (d : ℕ) (k : IsDelivered w (node.Drive d)) → k.posted.message.from ≡ node.Server →
    (c : Command) × (k.posted.message.body ≡ OfCommand c) × (c.nonce < w.server.next_nonce)
    × In (to_drive d (OfCommand c)) (messages_in w)
its_command w numbers d k from =
    let among : In k.posted.message (messages_in w) =
    in_map (λ (p : Posted). p.message) k.posted w.network.messages (got_in w.network.messages k.number k.posted k.there) in
    let is : k.posted.message ≡ to_drive d k.posted.message.body =
    ap (λ (n : Node). record { from = n; to = k.posted.message.to; body = k.posted.message.body }) from
    ∙ ap (λ (n : Node). record { from = node.Server; to = n; body = k.posted.message.body }) k.receiver in
    let there : In (to_drive d k.posted.message.body) (messages_in w) = subst (λ (x : Message). In x (messages_in w)) is among in
    let n = numbers.sent d k.posted.message.body there in
    (n.0, n.1, n.2, subst (λ (y : Body). In (to_drive d y) (messages_in w)) n.1 there)

-- The message was a command of the server, which the drive read, and performed as the reply says.
pub record IsOfCommand (w : World) (d : ℕ) (r : Reply) (k : IsReplying w d r) : Type 0 where
  pub command : Command
  pub sent : In (to_drive d (OfCommand command)) (messages_in w)
  pub low : command.nonce < w.server.next_nonce
  pub read : Command
  pub reads : reading (spelling command) ≡ Ok read
  pub reply : r ≡ reply_by (first_fault k.drive.state k.drive.clock read) k.drive.state read

pub of_command : (w : World) → Numbers w → (d : ℕ) (r : Reply) (k : IsReplying w d r) → r.verdict ≡ PERFORMED →
    IsOfCommand w d r k
unfolding judges
of_command w numbers d r k done =
    let c = its_command w numbers d k.delivered k.from in
    by_reading c.0 c.1 c.2 c.3 (command_in k.delivered.posted.message.body) refl
  where
    by_reading : (c : Command) → k.delivered.posted.message.body ≡ OfCommand c → c.nonce < w.server.next_nonce →
        In (to_drive d (OfCommand c)) (messages_in w) → (o : Result Command CommandErr) →
        command_in k.delivered.posted.message.body ≡ o → IsOfCommand w d r k
    by_reading c is low sent (Err why) reads =
        let reply = k.reply ∙ ap (λ (o : Result Command CommandErr). (judges k.drive o).reply) reads in
        absurd (cc (sym (ap (λ (q : Reply). q.verdict) reply) ∙ done))
    by_reading c is low sent (Ok x) reads = record {
      command = c;
      sent = sent;
      low = low;
      read = x;
      reads = ap command_in (sym is) ∙ reads;
      reply = k.reply ∙ ap (λ (o : Result Command CommandErr). (judges k.drive o).reply) reads;
    }

pub replied_below : (w : World) → Numbers w → (d : ℕ) (r : Reply) → IsReplying w d r → r.verdict ≡ PERFORMED →
    r.nonce < w.server.next_nonce
replied_below w numbers d r k done =
    let c = of_command w numbers d r k done in
    let low = nonce_low c.command c.read c.reads in
    let same : r.nonce ≡ c.read.nonce =
    ap (λ (q : Reply). q.nonce) c.reply ∙ reply_nonce k.drive.state k.drive.clock c.read in
    omega (arith, low, same, c.low)

-- ---- at each moment

-- It is a reply whose numbers fit their places; and if it says that a command was performed, its nonce is below the next one.
pub record IsTold (w : World) (b : Body) : Type 0 where
  pub reply : Reply
  pub is : b ≡ OfReply reply
  pub verdict : reply.verdict < 2 ^ 16
  pub nonce : reply.nonce < 2 ^ 64
  pub below : reply.verdict ≡ PERFORMED → reply.nonce < w.server.next_nonce

abbrev AreTold : World → Type 0
AreTold w = (d : ℕ) (b : Body) → In (told_message d b) (said w.network.messages) → IsTold w b

rises : (w : World) (m : Move) → w.server.next_nonce ≤ (move w m).world.server.next_nonce
rises w m = by (moved w m)
  where
    by : {ls : List Line} → {ps : List Post} → Moved w (move w m).world ls ps →
        w.server.next_nonce ≤ (move w m).world.server.next_nonce
    by (Idles same told) = omega (arith, ap (λ (s : Server). s.next_nonce) same)
    by (Goes chosen i sent same told) =
        omega (arith, ap (λ (s : Server). s.next_nonce) same, (step_numbers w.server chosen i).rises)

-- a reply that is sent now
told_now : (w : World) → Numbers w → (d : ℕ) (b : Body) → RepliesNow w d b → IsTold w b
told_now w numbers d b (r, is, k) =
    let c = its_command w numbers d k.delivered k.from in
    record {
      reply = r;
      is = is;
      verdict = subst (λ (y : Reply). y.verdict < 2 ^ 16) (sym k.reply)
          (judged_agrees k.drive (command_in k.delivered.posted.message.body)).low;
      nonce = subst (λ (y : Reply). y.nonce < 2 ^ 64) (sym k.reply)
          (judged_low k.drive c.0 k.delivered.posted.message.body c.1);
      below = λ done. replied_below w numbers d r k done;
    }

later : (w v : World) (b : Body) → w.server.next_nonce ≤ v.server.next_nonce → IsTold w b → IsTold v b
later w v b up t = record {
  reply = t.reply;
  is = t.is;
  verdict = t.verdict;
  nonce = t.nonce;
  below = λ done. let low = t.below done in omega (arith, low, up);
}

abbrev IsCounted : World → List Line → Type 0
IsCounted w h = Numbers w × AreTold w

moves_on : (w : World) (m : Move) → Numbers w × AreTold w → Numbers (move w m).world × AreTold (move w m).world
moves_on w m (numbers, told) = (
  numbers_move w m numbers,
  λ d b i. elim (said_before_or_now w m d b i) [
    | inl old ↦ later w (move w m).world b (rises w m) (told d b old)
    | inr now ↦ later w (move w m).world b (rises w m) (told_now w numbers d b now)
  ],
)

counted : IsKept IsCounted
counted = record {
  starts = (numbers_first, λ d b i. absurd i);
  opens = λ w h e chosen k allowed. moves_on w (opening e chosen) k;
  moves = λ w h rule m k due. moves_on w m k;
}

-- All that a drive told the server is so.
pub are_told : (w : World) (h : List Line) → IsMoment w h → (d : ℕ) (b : Body) →
    In (record { from = node.Drive d; to = node.Server; body = b }) (said w.network.messages) → IsTold w b
are_told w h k = (at_moment IsCounted counted w h k).1

-- Each reply of a drive to the server that a command was performed has a nonce below the server's next one.
pub told_below : (w : World) (h : List Line) → IsMoment w h → (d : ℕ) (r : Reply) → HasToldServer w d r →
    r.verdict ≡ PERFORMED → r.nonce < w.server.next_nonce
told_below w h k d r i done =
    let t = are_told w h k d (OfReply r) i in
    let same : t.reply ≡ r = cc (sym t.is) in
    subst (λ (y : Reply). y.nonce < w.server.next_nonce) same (t.below (ap (λ (y : Reply). y.verdict) same ∙ done))
