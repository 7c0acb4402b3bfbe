-- The network of the code shows that of a world.
use Rattle.std.proofs.Common.{◌≡◌, ℕ, zero, suc, ◌+◌, ◌≤◌, ◌<◌, ◌++◌, ◌∷◌, ◌&&◌, [], List, true, false, Option, Some, None, length, map, slice_get, slice_set, refl, sym, ap, subst, ◌∙◌, arith, nat_le, add-zero}
use Rattle.std.proofs.lemmas.Bool.Decides.{nat_tests}
use Rattle.scenario_text.specs.declared.line.Line.TheVariants as line
use Rattle.world_history.specs.declared.messages.Posted.{Posted}
use Rattle.world_history.specs.declared.messages.Sent.{Sent}
use Rattle.world_history.specs.State.{World}
use Rattle.world_history.specs.Moves.{with_message}
use Rattle.world_history.specs.Sending.{fresh as fresh_post, cost}
use Rattle.world_history.specs.Reading.{arrived, left_out}
use Rattle.world_history.specs.Plans.{is_pending as is_pending_there, pending_from}
use Rattle.world_history.specs.Laws.{shown}
use Rattle.world_history.proofs.Pending.{passed_over}
use Rattle.world_history.proofs.ReadMessages.{shown_set, shown_get}
use Rattle.world_network.specs.Network.{NetworkState, Changes, is_pending, PendingIs}
use Rattle.world_network.specs.Shows.{Shows, PendingIsShown, PostsAreShown, AllMarksAreShown}

-- ---- lists

pub shown_length : (ps : List Posted) → length (map shown ps) ≡ length ps
shown_length [] = refl
shown_length (p ∷ ps) = ap (λ (n : ℕ). suc n) (shown_length ps)

shown_more : (ps : List Posted) (p : Posted) → map shown (ps ++ p ∷ []) ≡ map shown ps ++ shown p ∷ []
shown_more [] p = refl
shown_more (x ∷ ps) p = ap (λ (l : List Sent). shown x ∷ l) (shown_more ps p)

-- ---- pending messages

-- none of a list's messages below a place is pending, where the list begins with number k
abbrev Past : (first k place : ℕ) → List Posted → Type 0
Past first k place ps = (j : ℕ) (p : Sent) → first ≤ k + j → j < place → slice_get (map shown ps) j ≡ Some p
    → is_pending p ≡ false

past_next : (first k place : ℕ) (x : Posted) (ps : List Posted) → Past first k (suc place) (x ∷ ps)
    → Past first (k + 1) place ps
past_next first k place x ps h j p f l e = h (suc j) p (omega (arith, f)) (omega (arith, l)) e

found : (first k place : ℕ) (ps : List Posted) (p : Sent) → first ≤ k + place
    → slice_get (map shown ps) place ≡ Some p → is_pending p ≡ true
    → Past first k place ps → pending_from first k ps ≡ Some (k + place)
unfolding pending_from
found first k place [] p f e t h = absurd (cc e)
found first k zero (x ∷ ps) p f e t h =
    let same : shown x ≡ p = cc in
    let low : first ≤ k = omega (arith, f) in
    let pends : is_pending_there x ≡ true = ap (λ (q : Sent). is_pending q) same ∙ t in
    let test : (nat_le first k && is_pending_there x) ≡ true = grind (arith, nat_tests, low, pends) in
    rw (test, add-zero) refl
found first k (suc place) (x ∷ ps) p f e t h =
    let test : (nat_le first k && is_pending_there x) ≡ false =
    passed_over first k x (λ l. h 0 (shown x) (omega (arith, l)) (omega arith) refl) in
    let rest : pending_from first (k + 1) ps ≡ Some (k + 1 + place) =
    found first (k + 1) place ps p (omega (arith, f)) e t (past_next first k place x ps h) in
    let number : k + 1 + place ≡ k + suc place = omega arith in
    rw test (rest ∙ ap (λ (n : ℕ). Some n) number)

none : (first k : ℕ) (ps : List Posted) → Past first k (length (map shown ps)) ps → pending_from first k ps ≡ None
unfolding pending_from
none first k [] h = refl
none first k (x ∷ ps) h =
    let test : (nat_le first k && is_pending_there x) ≡ false =
    passed_over first k x (λ l. h 0 (shown x) (omega (arith, l)) (omega arith) refl) in
    rw test (none first (k + 1) ps (past_next first k (length (map shown ps)) x ps h))

pending_at : (w : World) (first : ℕ) (r : Option ℕ) → PendingIs first (map shown w.network.messages) r
    → pending_from first 0 w.network.messages ≡ r
pending_at w first None h = none first 0 w.network.messages (λ j p f b e. h j p (omega (arith, f)) b e)
pending_at w first (Some number) l =
    let here : 0 + number ≡ number = omega arith in
    found first 0 number w.network.messages l.message (omega (arith, l.from)) l.found l.pending
    (λ j p f b e. l.below j p (omega (arith, f)) b e) ∙ ap (λ (n : ℕ). Some n) here

pub pending_is_shown : PendingIsShown
pending_is_shown n w first r s h = pending_at w first r (subst (λ (ms : List Sent). PendingIs first ms r) s.messages h)

-- ---- sending

pub posts_are_shown : PostsAreShown
posts_are_shown n t p s =
    let sum : t.kept + cost p ≡ t.kept + (0 + cost p) = omega arith in
    record {
      network = record {
        messages = ap (λ (ms : List Sent). ms ++ shown (fresh_post p) ∷ []) s.messages
            ∙ sym (shown_more t.messages (fresh_post p));
        kept = ap (λ (k : ℕ). k + cost p) s.kept ∙ sum;
      };
      line_is =
          ap (λ (k : ℕ). line.Message k (shown (fresh_post p)).from (shown (fresh_post p)).to (shown
          (fresh_post p)).bytes)
          (ap (λ (ms : List Sent). length ms) s.messages ∙ shown_length t.messages);
    }

-- ---- marks

mark_shown : (n n' : NetworkState) (w : World) (number : ℕ) (p q : Posted) (change : Sent → Sent)
    → change (shown p) ≡ shown q
    → Shows n w.network → slice_get w.network.messages number ≡ Some p → Changes n number change n'
    → Shows n' (with_message w number q).network
mark_shown n n' w number p q change c s e d =
    let here : Some d.message ≡ Some (shown p) =
    sym d.found ∙ ap (λ (ms : List Sent). slice_get ms number) s.messages ∙ shown_get w.network.messages number p e in
    let same : d.message ≡ shown p = cc in
    record {
      messages = ap (λ (t : NetworkState). t.messages) d.state
          ∙ ap (λ (ms : List Sent). slice_set ms number (change d.message)) s.messages
          ∙ ap (λ (x : Sent). slice_set (map shown w.network.messages) number (change x)) same
          ∙ ap (λ (x : Sent). slice_set (map shown w.network.messages) number x) c
          ∙ sym (shown_set w.network.messages number q);
      kept = ap (λ (t : NetworkState). t.kept) d.state ∙ s.kept;
    }

pub marks_are_shown : AllMarksAreShown
marks_are_shown n n' w number p s e = record {
  delivers = λ d. mark_shown n n' w number p (record p { delivered = true }) arrived refl s e d;
  drops = λ d. mark_shown n n' w number p (record p { dropped = true }) left_out refl s e d;
}
