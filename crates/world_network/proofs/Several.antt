-- Several messages that are sent one after another.
use Rattle.std.proofs.Common.{◌≡◌, ℕ, ◌+◌, ◌-◌, ◌++◌, ◌∷◌, [], List, Bool, true, false, cond, length, map, sum_by, fold, refl, sym, ap, ◌∙◌, ltb}
use Rattle.scenario_text.specs.declared.line.Line.{Line}
use Rattle.world_history.specs.declared.limits.TheConstants.{MAX_KEPT}
use Rattle.world_history.specs.declared.messages.Posted.{Posted}
use Rattle.world_history.specs.declared.messages.Sent.{Sent}
use Rattle.world_history.specs.Handed.{Post}
use Rattle.world_history.specs.Sending.{fresh as fresh_post, cost as cost_there, sent_line, sent_lines, fitting as fitting_there}
use Rattle.world_history.specs.Laws.{shown}
use Rattle.world_network.specs.declared.posting.Posting.{Posting}
use Rattle.world_network.specs.Posting.{sent, cost, lines_from, fitting}
use Rattle.world_network.specs.Shows.{posting_of, AllPostingsAreShown}
use Rattle.world_network.proofs.Showing.{shown_length}

sent_shown : (ps : List Post) → map sent (map posting_of ps) ≡ map shown (map fresh_post ps)
sent_shown [] = refl
sent_shown (p ∷ ps) = ap (λ (l : List Sent). shown (fresh_post p) ∷ l) (sent_shown ps)

shown_all : (xs ys : List Posted) → map shown (xs ++ ys) ≡ map shown xs ++ map shown ys
shown_all [] ys = refl
shown_all (x ∷ xs) ys = ap (λ (l : List Sent). shown x ∷ l) (shown_all xs ys)

costs_from : (k : ℕ) (ps : List Post)
    → fold (λ n p. n + cost p) k (map posting_of ps) ≡ fold (λ n p. n + cost_there p) k ps
costs_from k [] = refl
costs_from k (p ∷ ps) = costs_from (k + cost_there p) ps

lines_shown : (k : ℕ) (ps : List Post) → lines_from k (map posting_of ps) ≡ sent_lines k ps
unfolding sent_lines
lines_shown k [] = refl
lines_shown k (p ∷ ps) = ap (λ (l : List Line). sent_line k p.message ∷ l) (lines_shown (k + 1) ps)

fits : (b : Bool) (room : ℕ) (p : Post) (ps : List Post)
    → fitting (room - cost_there p) (map posting_of ps) ≡ map posting_of (fitting_there (room - cost_there p) ps)
    → cond b [] (posting_of p ∷ fitting (room - cost_there p) (map posting_of ps)) ≡ map posting_of (cond b []
    (p ∷ fitting_there (room - cost_there p) ps))
fits true room p ps e = refl
fits false room p ps e = ap (λ (l : List Posting). posting_of p ∷ l) e

fitting_shown : (room : ℕ) (ps : List Post) → fitting room (map posting_of ps) ≡ map posting_of (fitting_there room ps)
unfolding fitting_there
fitting_shown room [] = refl
fitting_shown room (p ∷ ps) = fits (ltb room (cost_there p)) room p ps (fitting_shown (room - cost_there p) ps)

pub postings_are_shown : AllPostingsAreShown
postings_are_shown n t ps s =
    let count : length n.messages ≡ length t.messages = ap (λ (l : List Sent). length l) s.messages
    ∙ shown_length t.messages in
    record {
      network = record {
        messages = ap (λ (l : List Sent). l ++ map sent (map posting_of ps)) s.messages
            ∙ ap (λ (l : List Sent). map shown t.messages ++ l) (sent_shown ps)
            ∙ sym (shown_all t.messages (map fresh_post ps));
        kept = ap (λ (k : ℕ). k + sum_by cost (map posting_of ps)) s.kept
            ∙ ap (λ (k : ℕ). t.kept + k) (costs_from 0 ps);
      };
      lines_are = ap (λ (k : ℕ). lines_from k (map posting_of ps)) count ∙ lines_shown (length t.messages) ps;
      cut_lines_are = ap (λ (k : ℕ). lines_from k (fitting (MAX_KEPT - n.kept) (map posting_of ps))) count
          ∙ ap (λ (k : ℕ). lines_from (length t.messages) (fitting (MAX_KEPT - k) (map posting_of ps))) s.kept
          ∙ ap (λ (l : List Posting). lines_from (length t.messages) l) (fitting_shown (MAX_KEPT - t.kept) ps)
          ∙ lines_shown (length t.messages) (fitting_there (MAX_KEPT - t.kept) ps);
      costs = costs_from 0 ps;
    }
