-- A client takes no layout with a drive that a line can't name, so it sends nothing to one.
use Rattle.std.proofs.Common.{◌≡◌, ℕ, Bool, true, List, [], ◌∷◌, ◌&&◌, not, filter, refl, ap, ◌∙◌, inl, inr, if◌then◌else◌}
use Rattle.std.specs.Prelude.{◌||◌}
use Rattle.server_rules.specs.Laws.{In}
use Rattle.client_rules.specs.Envelopes.{receiver}
use Rattle.client_rules.specs.History.{step}
use Rattle.world_history.specs.ClientNames.{Outgoing, AnswersRecall, Asks, ToDrive}
use Rattle.world_history.specs.Names.{is_named}
use Rattle.world_history.specs.Handed.{Post, is_addressed, is_write_out, client_post, client_posts}
use Rattle.history_law.proofs.KnownGoing.{SendsKnown}
use Rattle.history_law.proofs.KnownSteps.{step_known}
use Rattle.exchange_law.proofs.ClientMoves.{clients_always}
use Rattle.exchange_law.proofs.ClientsCounted.{Fits, fits_kept}
use Rattle.exchange_law.proofs.CountNear.{IsNear, input_near}
use Rattle.exchange_law.proofs.HeldWorlds.{reached}
use Rattle.name_law.specs.ClientSends.{ClientsSendToNamed}

each_named : (os : List Outgoing) → SendsKnown IsNear os → (o : Outgoing) → In o os → is_named (receiver o) ≡ true
each_named [] k o i = absurd i
each_named (ToDrive d c ∷ os) k o (inl e) = ap (λ (x : Outgoing). is_named (receiver x)) e ∙ k.0
each_named (ToDrive d c ∷ os) k o (inr i) = each_named os k.1 o i
each_named (AnswersRecall a ∷ os) k o (inl e) = ap (λ (x : Outgoing). is_named (receiver x)) e
each_named (AnswersRecall a ∷ os) k o (inr i) = each_named os k o i
each_named (Asks r ∷ os) k o (inl e) = ap (λ (x : Outgoing). is_named (receiver x)) e
each_named (Asks r ∷ os) k o (inr i) = each_named os k o i

-- one message in front
first_out : (c : ℕ) (wrote : Bool) (logged : ℕ) (o : Outgoing) (ps qs : List Post) → ps ≡ qs
    → client_post c (if is_write_out o && not wrote then logged else 0) o ∷ ps
    ≡ client_post c (if is_write_out o && not wrote then logged else 0) o ∷ qs
first_out c wrote logged o ps qs same =
    ap (λ (l : List Post). client_post c (if is_write_out o && not wrote then logged else 0) o ∷ l) same

all_out : (c : ℕ) (wrote : Bool) (logged : ℕ) (os : List Outgoing) → SendsKnown IsNear os
    → filter is_addressed (client_posts c wrote logged os) ≡ client_posts c wrote logged os
all_out c wrote logged [] k = refl
all_out c wrote logged (ToDrive d x ∷ os) k =
    rw k.0
    (first_out c wrote logged (ToDrive d x) _ _ (all_out c (wrote || is_write_out (ToDrive d x)) logged os k.1))
all_out c wrote logged (AnswersRecall a ∷ os) k =
    first_out c wrote logged (AnswersRecall a) _ _ (all_out c (wrote || is_write_out (AnswersRecall a)) logged os k)
all_out c wrote logged (Asks r ∷ os) k =
    first_out c wrote logged (Asks r) _ _ (all_out c (wrote || is_write_out (Asks r)) logged os k)

pub clients_send : ClientsSendToNamed
clients_send w h k c a found i =
    let fits = clients_always Fits fits_kept w (reached w h k) c a found in
    let sends = (step_known IsNear a.state i fits.near (input_near i)).sends in
    record {
      each = λ o there. each_named (step a.state i).sends sends o there;
      all = λ wrote logged. all_out c wrote logged (step a.state i).sends sends;
    }
