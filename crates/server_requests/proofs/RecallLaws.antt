-- One more recall is sent.
use Rattle.std.specs.Prelude.{ℕ, List, [], ◌∷◌, ◌++◌, ◌+◌, ◌<◌, ◌≡◌, drop, length, suc}
use Rattle.std.proofs.Common.{arith, ap, sym, ◌∙◌, append_assoc, get_or, drop-cons}
use Rattle.server_rules.specs.declared.grants.Grant.{Grant}
use Rattle.server_rules.specs.declared.server.Outgoing.TheVariants.{Recalls}
use Rattle.server_rules.specs.Answers.{recall_of, recalls_from}
use Rattle.server_requests.specs.declared.outgoing.Sent.{Sent}
use Rattle.server_requests.specs.Sending.{sent_as, all_sent}

recalls_at : (gs : List Grant) (i count : ℕ) (d : Grant) → i < length gs →
    recalls_from count (drop i gs) ≡ Recalls (recall_of (get_or gs i d) count) ∷ recalls_from (count + 1) (drop (i + 1) gs)
unfolding recalls_from
recalls_at gs i count d l =
    let next : suc i ≡ i + 1 = omega arith in
    ap (λ rest. recalls_from count rest) (drop-cons gs i d l)
    ∙ ap (λ j. Recalls (recall_of (get_or gs i d) count) ∷ recalls_from (count + 1) (drop j gs)) next

-- the first ones are sent, and this one
pub sent_more : (gs : List Grant) (i count : ℕ) (d : Grant) (old now all : List Sent) → i < length gs →
    now ≡ old ++ sent_as (Recalls (recall_of (get_or gs i d) count)) ∷ [] →
    old ++ all_sent (recalls_from count (drop i gs)) ≡ all →
    now ++ all_sent (recalls_from (count + 1) (drop (i + 1) gs)) ≡ all
sent_more gs i count d old now all l e h =
    ap (λ z. z ++ all_sent (recalls_from (count + 1) (drop (i + 1) gs))) e
    ∙ append_assoc old (sent_as (Recalls (recall_of (get_or gs i d) count)) ∷ [])
    (all_sent (recalls_from (count + 1) (drop (i + 1) gs)))
    ∙ ap (λ rest. old ++ all_sent rest) (sym (recalls_at gs i count d l)) ∙ h
