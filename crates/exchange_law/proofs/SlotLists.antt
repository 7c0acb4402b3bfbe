-- Messages one by one, and those that a step sends.
use Rattle.std.proofs.Common.{◌≡◌, ℕ, zero, suc, Bool, true, false, List, [], ◌∷◌, ◌++◌, Option, Some, map, filter, slice_get, refl, ap, subst, if◌then◌else◌}
use Rattle.layout_ops.specs.declared.messages.Answer.{Answer}
use Rattle.world_history.specs.ServerNames as server_rules
use Rattle.world_history.specs.ClientNames as client_rules
use Rattle.world_history.specs.declared.messages.Message.{Message}
use Rattle.world_history.specs.declared.messages.Posted.{Posted}
use Rattle.world_history.specs.Handed.{Post, is_addressed, server_post, client_post, client_posts}
use Rattle.world_history.specs.Sending.{fresh}
use Rattle.server_rules.specs.declared.server.Slot.{Slot}
use Rattle.history_law.specs.State.{Client, Request}
use Rattle.exchange_law.specs.Doing.{said, posted}
use Rattle.exchange_law.specs.Messages.{EachMessage, WasAsked, AsksOf, WasAnswered, AnswersOf}
use Rattle.exchange_law.proofs.SlotStepping.{AsksOnly}
use Rattle.history_law.specs.Answers.{AnswersOnly}

-- ---- lists

pub each_map : {P Q : Message → Type 0} → ((m : Message) → P m → Q m) → (ms : List Message) → EachMessage P ms
    → EachMessage Q ms
each_map f [] k = tt
each_map f (m ∷ ms) k = (f m k.0, each_map f ms k.1)

pub each_more : (P : Message → Type 0) (xs ys : List Message) → EachMessage P xs → EachMessage P ys
    → EachMessage P (xs ++ ys)
each_more P [] ys k l = l
each_more P (x ∷ xs) ys k l = (k.0, each_more P xs ys k.1 l)

pub each_at : (P : Message → Type 0) (ps : List Posted) (n : ℕ) (p : Posted) → slice_get ps n ≡ Some p
    → EachMessage P (said ps) → P p.message
each_at P [] n p e k = absurd (cc e)
each_at P (x ∷ ps) zero p e k =
    let same : x ≡ p = cc e in subst (λ (y : Posted). P y.message) same k.0
each_at P (x ∷ ps) (suc n) p e k = each_at P ps n p e k.1

fresh_said : (ps : List Post) → said (map fresh ps) ≡ posted ps
fresh_said [] = refl
fresh_said (p ∷ ps) = ap (λ (ms : List Message). p.message ∷ ms) (fresh_said ps)

pub said_more : (ms : List Posted) (ps : List Post) → said (ms ++ map fresh ps) ≡ said ms ++ posted ps
said_more [] ps = fresh_said ps
said_more (m ∷ ms) ps = ap (λ (l : List Message). m.message ∷ l) (said_more ms ps)

module _ (P : Message → Type 0) where
  one_each : (b : Bool) (p : Post) (ps : List Post) → P p.message → EachMessage P (posted ps)
      → EachMessage P (posted (if b then p ∷ ps else ps))
  one_each true p ps k l = (k, l)
  one_each false p ps k l = l

  pub addressed_each : (ps : List Post) → EachMessage P (posted ps) → EachMessage P (posted (filter is_addressed ps))
  addressed_each [] k = tt
  addressed_each (p ∷ ps) k =
      one_each (is_addressed p) p (filter is_addressed ps) k.0 (addressed_each ps k.1)

-- ---- what the server sends

pub server_asks_none : (c : ℕ) (x : Client) (os : List server_rules.Outgoing)
    → EachMessage (AsksOf c x) (posted (map server_post os))
server_asks_none c x [] = tt
server_asks_none c x (o ∷ os) = (λ from to. absurd (cc from), server_asks_none c x os)

module _ (c : ℕ) (o : Option Slot) (Q : Answer → Type 0)
    (was : (a : Answer) → Q a → a.client ≡ c → WasAnswered c o a) where
  answer_to_client : (a : Answer) → Q a → AnswersOf c o (server_post (server_rules.Answers a)).message
  answer_to_client a q from to = let it : a.client ≡ c = cc to in was a q it

  pub server_answers : (os : List server_rules.Outgoing) → AnswersOnly Q os
      → EachMessage (AnswersOf c o) (posted (map server_post os))
  server_answers [] k = tt
  server_answers (server_rules.ToDrive d x ∷ os) k = (λ from to. absurd (cc to), server_answers os k)
  server_answers (server_rules.Recalls r ∷ os) k = (λ from to. tt, server_answers os k)
  server_answers (server_rules.Answers a ∷ os) k = (answer_to_client a k.0, server_answers os k.1)
  server_answers (server_rules.AnswersOrder a ∷ os) k = (λ from to. absurd (cc to), server_answers os k)

-- ---- what a client sends

module _ (c d : ℕ) (x : Client) (o : Option Request)
    (was : (r : Request) → o ≡ Some r → d ≡ c → WasAsked x r) where
  asks_server : (logged : ℕ) (r : Request) → o ≡ Some r
      → AsksOf c x (client_post d logged (client_rules.Asks r)).message
  asks_server logged r is from to = let it : d ≡ c = cc from in was r is it

  pub client_asks : (wrote : Bool) (logged : ℕ) (os : List client_rules.Outgoing) → AsksOnly o os
      → EachMessage (AsksOf c x) (posted (client_posts d wrote logged os))
  client_asks wrote logged [] k = tt
  client_asks wrote logged (client_rules.AnswersRecall a ∷ os) k = (λ from to. tt, client_asks _ logged os k)
  client_asks wrote logged (client_rules.Asks r ∷ os) k = (asks_server logged r k.0, client_asks _ logged os k.1)
  client_asks wrote logged (client_rules.ToDrive e y ∷ os) k = (λ from to. absurd (cc to), client_asks _ logged os k)

pub client_answers_none : (c d : ℕ) (o : Option Slot) (wrote : Bool) (logged : ℕ) (os : List client_rules.Outgoing)
    → EachMessage (AnswersOf c o) (posted (client_posts d wrote logged os))
client_answers_none c d o wrote logged [] = tt
client_answers_none c d o wrote logged (x ∷ os) = (λ from to. absurd (cc from), client_answers_none c d o _ logged os)
