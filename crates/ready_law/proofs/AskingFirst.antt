-- The call's first LAYOUTGET: the grant is given at once, or conflicting ones are recalled first.
use Rattle.std.proofs.Common.{◌≡◌, ◌+◌, ◌==◌, ◌<◌, ℕ, suc, nat_lt, not, List, [], ◌∷◌, ◌++◌, length, refl, sym, ap, subst, ◌∙◌, arith, inl, inr}
use Rattle.std.proofs.lemmas.List.{length-append}
use Rattle.scenario_text.specs.declared.names.TheConstants.{CLIENTS}
use Rattle.scenario_text.specs.declared.line.Line.{Line}
use Rattle.server_rules.specs.Grants.{without}
use Rattle.server_rules.specs.Laws.{In}
use Rattle.server_rules.proofs.Members.{in_filtered}
use Rattle.world_history.specs.ServerNames.{Grant}
use Rattle.world_history.specs.declared.messages.Message.{Message}
use Rattle.world_history.specs.State.{World}
use Rattle.world_history.specs.Sending.{Move, move}
use Rattle.history_law.specs.BookMoments.{lines_in}
use Rattle.ready_law.proofs.Calls.{ReadyCall, kept_at, opposed_at, IsIn, DeliversHead, request_message, answer_message}
use Rattle.ready_law.proofs.Going.{GoesOnBy}
use Rattle.ready_law.proofs.Stages.{Asking, Recalls, GoesOn, Further}
use Rattle.ready_law.proofs.ServingForms.{recall_messages}
use Rattle.ready_law.proofs.ServingGets.{held_off}
use Rattle.component_law.proofs.Without.{no_grant, other_grant}
use Rattle.ready_law.proofs.AskingForms.{AskingLaws}
use Rattle.ready_law.proofs.AskingFrames.{against_others, opposed_yields, caller_stays, sent_more, opposed_in}
use Rattle.ready_law.proofs.AskingGives.{caller_named, are_recalls_of, its_arrival, sent, file, gives_goes_on, refused}
use Rattle.ready_law.proofs.AskingServed.{served_silent, served_queue, served_client, served_answer, served_file}

as_many : (n : ℕ) (gs : List Grant) → length (recall_messages n gs) ≡ length gs
as_many n [] = refl
as_many n (g ∷ gs) = ap (λ (k : ℕ). suc k) (as_many (n + 1) gs)

module _ (laws : AskingLaws) (s : ReadyCall) (w : World) (h : List Line) (k : IsIn s w h) (m : Move)
    (next : IsIn s (move w m).world (h ++ lines_in w m)) (a : Asking s w) (rest : List Message)
    (d : DeliversHead s w m (request_message a.request) rest) (none_else : rest ≡ []) (named : s.client < CLIENTS) where
  abbrev v : World
  v = (move w m).world

  abbrev grants : List Grant
  grants = without (kept_at s).grants s.client

  by : (gs : List Grant) → opposed_at s ≡ gs → GoesOn s v (lines_in w m)
  by [] is =
      gives_goes_on laws s w h k m next a.request grants 0 a.asks a.asked rest d (no_grant (kept_at s).grants s.client)
      named (λ g i. (in_filtered (λ (x : Grant). not (x.client == s.client)) g (kept_at s).grants i).0)
      (against_others s a.asks.uncovered ∙ is) [] [] tt tt none_else 3 a.sent (omega arith) (λ g i. absurd i)
      (λ g i. absurd i)
      (λ e other. inr (inl (record {
        client = a.untouched e other;
        grant = other_grant (kept_at s).grants e s.client other;
      })))
  by (first ∷ more) is =
      let own = no_grant (kept_at s).grants s.client in
      let arrival = its_arrival laws s w h k m next a.request grants 0 a.asks a.asked rest d own named in
      let it = sent laws s w h k m next a.request grants 0 a.asks a.asked rest d own named in
      let done =
      refused laws s w h k m next a.request grants 0 a.asks a.asked rest d own named first more
      (against_others s a.asks.uncovered ∙ is)
      (λ g i. ap (λ (now : ℕ). nat_lt g.expiry now) a.asks.server.clock
      ∙ (opposed_yields s g (subst (In g) (sym is) i)).unexpired) in
      let answer =
      (held_off a.request.client a.request (file laws s w h k m next a.request grants 0 a.asks a.asked rest d own named)
      first.client (first ∷ more)).answer in
      Further (Recalls (record {
        request = a.request;
        answer = answer;
        asks = record {
          args_are = a.asks.args_are;
          caller = caller_stays s w v _ _ (served_client laws arrival a.request _ it done s.client) a.asks.caller;
          released = a.asks.released;
          uncovered = a.asks.uncovered;
          server = served_file laws arrival a.request _ it done grants a.asks.server.high refl;
          drives = done.drives ∙ a.asks.drives;
        };
        answered = served_answer laws arrival a.request _ it done a.asked.client_is refl refl;
        status = refl;
        done = [];
        left = first ∷ more;
        all = is;
        some = λ e. absurd (cc (sym e ∙ is));
        recalls = recall_messages w.server.next_recall (first ∷ more);
        returns = [];
        are_recalls = are_recalls_of w.server.next_recall (first ∷ more);
        are_returns = tt;
        untouched = λ g i.
            served_client laws arrival a.request _ it done g.client
            ∙ a.untouched g.client (opposed_in s g (subst (In g) (sym is) i)).1;
        aside = λ e other. inr (served_client laws arrival a.request _ it done e ∙ a.untouched e other);
        queue =
            served_queue laws arrival a.request _ it done
            ∙ ap (λ (ms : List Message). ms ++ (recall_messages w.server.next_recall (first ∷ more)
            ++ answer_message answer ∷ [])) none_else;
        sent =
            sent_more s w m _ _ _ a.sent d.count_is done.posts
            (omega (
              arith,
              ap length is,
              as_many w.server.next_recall (first ∷ more),
              length-append (recall_messages w.server.next_recall (first ∷ more)) (answer_message answer ∷ []),
            ));
      })) (served_silent laws arrival a.request _ it done s.client)

pub asking_goes_on : AskingLaws → GoesOnBy Asking
asking_goes_on laws s w h k m next a x rest queue d =
    let is : x ∷ rest ≡ request_message a.request ∷ [] = sym queue ∙ a.queue in
    let head : x ≡ request_message a.request = cc is in
    let tail : rest ≡ [] = cc is in
    by laws s w h k m next a rest (subst (λ (y : Message). DeliversHead s w m y rest) head d) tail
    (caller_named s w h k x rest queue) (opposed_at s) refl
