-- The numbers at the front of a request, as the server reads them, fit their places.
use Rattle.std.proofs.Common.{◌≡◌, ℕ, zero, suc, ◌^◌, ◌<◌, ◌++◌, Bool, true, false, List, [], ◌∷◌, Result, Ok, Err, length, nat_lt, nat_eq, ap, subst, ◌∙◌, arith, if◌then◌else◌}
use Rattle.std.specs.Int.{w32, to_be_bytes}
use Rattle.osd_lists.proofs.Options.{guard_ok}
use Rattle.xdr_codec.specs.Items.{u32_item}
use Rattle.xdr_codec.specs.Reading.{Rest, ◌>>=◌, u32_in, end_of}
use Rattle.xdr_codec.proofs.ItemLaws.{bind_ok, ok_is}
use Rattle.layout_types.specs.Grammar.{lifted, u32_part}
use Rattle.layout_types.specs.declared.err.LayoutErr.TheVariants.{BadEnum}
use Rattle.layout_ops.specs.declared.err.OpErr.{OpErr}
use Rattle.layout_ops.specs.declared.err.OpErr.TheVariants.{Layout}
use Rattle.layout_ops.proofs.Steps.{named}
use Rattle.layout_ops.specs.declared.messages.Request.{Request}
use Rattle.layout_ops.specs.declared.envelope.Envelope.{Envelope}
use Rattle.layout_ops.specs.declared.envelope.Envelope.TheVariants as envelope
use Rattle.layout_ops.specs.Grammar.{carried, u32_field, operation_in, whole}
use Rattle.layout_ops.specs.Enumerations.{order_number, order_result_number}
use Rattle.layout_ops.specs.Spelling.{envelope_item}
use Rattle.layout_ops.specs.Reading.{args_in, request_in, answer_in, recall_in, recall_answer_in, order_in, order_answer_in, envelope_behind, envelope_in, envelope_of}
use Rattle.osd_commands.specs.declared.commands.Command.{Command}
use Rattle.osd_commands.specs.declared.replies.Reply.{Reply}
use Rattle.osd_commands.specs.Commands as commands
use Rattle.osd_commands.specs.Replies as replies
use Rattle.world_history.specs.declared.messages.Body.{Body}
use Rattle.world_history.specs.declared.messages.Body.TheVariants.{Command as OfCommand, Reply as OfReply, Envelope as OfEnvelope}
use Rattle.world_history.specs.Spelled.{spelled}
use Rattle.history_law.proofs.Parts.{carried_ok, lifted_ok}

-- ---- bytes at the front

-- the first n of these are bytes
abbrev pub BeginsWithBytes : ℕ → List ℕ → Type 0
BeginsWithBytes zero xs = Unit {0}
BeginsWithBytes (suc n) [] = Unit {0}
BeginsWithBytes (suc n) (x ∷ xs) = (x < 256) × BeginsWithBytes n xs

-- a number that is read at the front is small
abbrev IsSmall : ℕ → ℕ × Rest → Type 0
IsSmall n x = (x.0 < 2 ^ 32) × BeginsWithBytes n x.1.left

read_number : (n at : ℕ) (xs : List ℕ) (x : ℕ × Rest) → u32_in (record { left = xs; at = at }) ≡ Ok x
    → BeginsWithBytes (suc (suc (suc (suc n)))) xs → IsSmall n x
unfolding u32_in
read_number n at [] x e b = absurd (cc e)
read_number n at (p ∷ []) x e b = absurd (cc e)
read_number n at (p ∷ q ∷ []) x e b = absurd (cc e)
read_number n at (p ∷ q ∷ r ∷ []) x e b = absurd (cc e)
read_number n at (p ∷ q ∷ r ∷ s ∷ xs) x e b =
    let g = guard_ok (nat_lt (length (p ∷ q ∷ r ∷ s ∷ xs)) 4) _ _ x e in
    subst (IsSmall n) (ok_is _ x g.1) (omega (arith, b.0, b.1.0, b.1.1.0, b.1.1.1.0), b.1.1.1.1)

read_field : (n : ℕ) (i : Rest) (x : ℕ × Rest) → u32_field i ≡ Ok x → BeginsWithBytes (suc (suc (suc (suc n)))) i.left
    → IsSmall n x
unfolding u32_field u32_part
read_field n i x e b =
    read_number n i.at i.left x (lifted_ok (u32_in i) x (carried_ok (lifted (u32_in i)) x e)) b

-- ---- a request

abbrev pub NumbersFit : Request → Type 0
NumbersFit r = (r.sequence < 2 ^ 32) × (r.file < 2 ^ 32)

read_request : (i : Rest) (x : Request × Rest) → request_in i ≡ Ok x → BeginsWithBytes 12 i.left → NumbersFit x.0
unfolding request_in
read_request i x e b =
    let client = bind_ok _ _ x e in
    let a = read_field 8 i client.0 client.1 b in
    let sequence = bind_ok _ _ x client.2 in
    let c = read_field 4 client.0.1 sequence.0 sequence.1 a.1 in
    let file = bind_ok _ _ x sequence.2 in
    let d = read_field 0 sequence.0.1 file.0 file.1 c.1 in
    let operation = bind_ok (operation_in file.0.1) _ x file.2 in
    let arguments = bind_ok (args_in operation.0.0 operation.0.1) _ x operation.2 in
    subst (λ (y : Request × Rest). NumbersFit y.0) (ok_is _ x arguments.2) (c.0, d.0)

-- no other message is read as a request
other_kind : {V : Type 0} (read : Rest → Result (V × Rest) OpErr) (name : V → Envelope) (i : Rest) (r : Request)
    (j : Rest) → ((v : V) → name v ≡ envelope.Request r → ⊥)
    → (read i >>= named name) ≡ Ok (envelope.Request r, j) → ⊥
other_kind read name i r j not e =
    let b = bind_ok (read i) (named name) (envelope.Request r, j) e in
    not b.0.0 (ap (λ (p : Envelope × Rest). p.0) (ok_is _ (envelope.Request r, j) b.2))

read_kind : (at : ℕ) (k : ℕ × Rest) (r : Request) (j : Rest) → envelope_behind at k ≡ Ok (envelope.Request r, j)
    → BeginsWithBytes 12 k.1.left → NumbersFit r
read_kind at k r j e b =
    either (nat_eq k.0 1) (nat_eq k.0 2) (nat_eq k.0 3) (nat_eq k.0 4) (nat_eq k.0 5) (nat_eq k.0 6) e
  where
    either : (a b c d f g : Bool)
        → (if a then (request_in k.1 >>= named envelope.Request)
        else if b then (answer_in k.1 >>= named envelope.Answer)
        else if c then (recall_in k.1 >>= named envelope.Recall)
        else if d then (recall_answer_in k.1 >>= named envelope.RecallAnswer)
        else if f then (order_in k.1 >>= named envelope.Order)
        else if g then (order_answer_in k.1 >>= named envelope.OrderAnswer)
        else Err (Layout (BadEnum at k.0))) ≡ Ok (envelope.Request r, j) → NumbersFit r
    either true p c d f g x =
        let y = bind_ok (request_in k.1) (named envelope.Request) (envelope.Request r, j) x in
        let same : y.0.0 ≡ r = cc (ap (λ (z : Envelope × Rest). z.0) (ok_is _ (envelope.Request r, j) y.2)) in
        subst NumbersFit same (read_request k.1 y.0 y.1 b)
    either false true c d f g x = absurd (other_kind answer_in envelope.Answer k.1 r j (λ v y. cc y) x)
    either false false true d f g x = absurd (other_kind recall_in envelope.Recall k.1 r j (λ v y. cc y) x)
    either false false false true f g x =
        absurd (other_kind recall_answer_in envelope.RecallAnswer k.1 r j (λ v y. cc y) x)
    either false false false false true g x = absurd (other_kind order_in envelope.Order k.1 r j (λ v y. cc y) x)
    either false false false false false true x =
        absurd (other_kind order_answer_in envelope.OrderAnswer k.1 r j (λ v y. cc y) x)
    either false false false false false false x = absurd (cc x)

pub request_read : (bytes : List ℕ) (r : Request) → envelope_of bytes ≡ Ok (envelope.Request r)
    → BeginsWithBytes 16 bytes → NumbersFit r
unfolding envelope_of whole envelope_in
request_read bytes r e b =
    let first = bind_ok _ _ (envelope.Request r) e in
    let done = bind_ok (carried (lifted (end_of first.0.1))) (λ d. Ok first.0.0) (envelope.Request r) first.2 in
    let same = ok_is first.0.0 (envelope.Request r) done.2 in
    let kind = bind_ok _ _ first.0 first.1 in
    let small = read_field 12 (record { left = bytes; at = 0 }) kind.0 kind.1 b in
    read_kind 0 kind.0 r first.0.1
    (kind.2 ∙ ap (λ (m : Envelope). Ok (m, first.0.1)) same) small.1

-- ---- what is spelled begins with bytes

begins_32 : (m n : ℕ) (rest : List ℕ) → BeginsWithBytes m rest
    → BeginsWithBytes (suc (suc (suc (suc m)))) (to_be_bytes w32 n ++ rest)
begins_32 m n rest b = (omega arith, (omega arith, (omega arith, (omega arith, b))))

item_32 : (m n : ℕ) (rest : List ℕ) → BeginsWithBytes m rest
    → BeginsWithBytes (suc (suc (suc (suc m)))) (u32_item n ++ rest)
unfolding u32_item
item_32 m n rest b = begins_32 m n rest b

last_32 : (m n : ℕ) → BeginsWithBytes (suc (suc (suc (suc m)))) (u32_item n)
unfolding u32_item
last_32 zero n = (omega arith, (omega arith, (omega arith, (omega arith, tt))))
last_32 (suc m) n = (omega arith, (omega arith, (omega arith, (omega arith, tt))))

begins_envelope : (e : Envelope) → BeginsWithBytes 16 (envelope_item e)
begins_envelope (envelope.Request v) =
    item_32 12 1 _ (item_32 8 v.client _ (item_32 4 v.sequence _ (item_32 0 v.file _ tt)))
begins_envelope (envelope.Answer v) =
    item_32 12 2 _ (item_32 8 v.client _ (item_32 4 v.sequence _ (item_32 0 v.file _ tt)))
begins_envelope (envelope.Recall v) =
    item_32 12 3 _ (item_32 8 v.client _ (item_32 4 v.number _ (item_32 0 v.file _ tt)))
begins_envelope (envelope.RecallAnswer v) =
    item_32 12 4 _ (item_32 8 v.client _ (item_32 4 v.number _ (item_32 0 v.file _ tt)))
begins_envelope (envelope.Order v) = item_32 12 5 _ (item_32 8 (order_number v.order) _ (last_32 4 v.target))
begins_envelope (envelope.OrderAnswer v) =
    item_32 12 6 _ (item_32 8 (order_number v.order) _ (last_32 4 (order_result_number v.result)))

begins_command : (c : Command) → BeginsWithBytes 16 (commands.spelling c)
unfolding commands.spelling commands.head commands.fields
begins_command c = (
  omega arith,
  (
    omega arith,
    (
      omega arith,
      (
        omega arith,
        (
          omega arith,
          (
            omega arith,
            (
              omega arith,
              (
                omega
                    arith,
                (
                  omega arith,
                  (
                    omega arith,
                    (
                      omega arith,
                      (
                        omega arith,
                        (
                          omega arith,
                          (
                            omega arith,
                            (
                              omega arith,
                              (omega arith, tt),
                            ),
                          ),
                        ),
                      ),
                    ),
                  ),
                ),
              ),
            ),
          ),
        ),
      ),
    ),
  ),
)

begins_reply : (r : Reply) → BeginsWithBytes 16 (replies.spelling r)
unfolding replies.spelling replies.fields
begins_reply r = (
  omega arith,
  (
    omega arith,
    (
      omega arith,
      (
        omega arith,
        (
          omega arith,
          (
            omega arith,
            (
              omega arith,
              (
                omega
                    arith,
                (
                  omega arith,
                  (
                    omega arith,
                    (
                      omega arith,
                      (
                        omega arith,
                        (
                          omega arith,
                          (
                            omega arith,
                            (
                              omega arith,
                              (omega arith, tt),
                            ),
                          ),
                        ),
                      ),
                    ),
                  ),
                ),
              ),
            ),
          ),
        ),
      ),
    ),
  ),
)

pub begins_spelled : (b : Body) → BeginsWithBytes 16 (spelled b)
begins_spelled (OfCommand c) = begins_command c
begins_spelled (OfReply r) = begins_reply r
begins_spelled (OfEnvelope e) = begins_envelope e
