-- What the server sends in a step goes to others, but for the answer to its own order.
use Rattle.std.proofs.Common.{ℕ, ◌+◌, ◌++◌, ◌∷◌, [], List, flat_map, subst}
use Rattle.osd_lists.specs.declared.node.Node.{Node}
use Rattle.osd_lists.specs.declared.node.Node.TheVariants as node
use Rattle.server_rules.specs.Answers.{recalls_from}
use Rattle.server_rules.specs.Envelopes.{receiver}
use Rattle.server_rules.specs.Files.{Step, at_file, to_drives}
use Rattle.server_rules.specs.Jobs.{fence_begins}
use Rattle.server_rules.specs.Served.{Served}
use Rattle.server_rules.specs.Requests.{serves, on_request}
use Rattle.server_rules.specs.Messages.{awaited_by}
use Rattle.server_rules.specs.Orders.{declare}
use Rattle.server_rules.specs.History.{Input, Hears, step}
use Rattle.world_history.specs.ServerNames.{Server, File, Drive, Grant, Awaited, Outgoing, ClientRequest}
use Rattle.history_law.specs.Steps.{answered_file}
use Rattle.history_law.proofs.Steps.{each_request, each_step}
use Rattle.component_law.specs.Words.{Each}

-- another than the server
abbrev pub IsOther : Node → Type 0
IsOther node.Server = ⊥
IsOther n = Unit {0}

-- each of these goes to another
abbrev pub GoOut : List Outgoing → Type 0
GoOut os = Each (λ (o : Outgoing). IsOther (receiver o)) os

out_more : (xs ys : List Outgoing) → GoOut xs → GoOut ys → GoOut (xs ++ ys)
out_more [] ys h g = g
out_more (x ∷ xs) ys h g = (h.0, out_more xs ys h.1 g)

out_drives : (ds : List Drive) (cs : List Awaited) → GoOut (to_drives ds cs)
out_drives ds [] = tt
out_drives ds (c ∷ cs) = (tt, out_drives ds cs)

out_recalls : (n : ℕ) (gs : List Grant) → GoOut (recalls_from n gs)
unfolding recalls_from
out_recalls n [] = tt
out_recalls n (g ∷ gs) = (tt, out_recalls (n + 1) gs)

out_again : (ds : List Drive) (fs : List File) → GoOut (flat_map (λ (f : File). to_drives ds (awaited_by f.job)) fs)
out_again ds [] = tt
out_again ds (f ∷ fs) =
    out_more (to_drives ds (awaited_by f.job)) (flat_map (λ (x : File). to_drives ds (awaited_by x.job)) fs)
    (out_drives ds (awaited_by f.job)) (out_again ds fs)

-- ---- each step

out_request : (s : Server) (now : ℕ) (chosen : List ℕ) (q : ClientRequest) → GoOut (on_request s now chosen q).sends
out_request s now chosen q = each_request s now chosen q (λ (t : Step). GoOut t.sends) (record {
  again = λ kept is. (tt, tt);
  misordered = λ expected is. (tt, tt);
  without = λ new none. (tt, tt);
  served = λ new f found.
      let v : Served = serves (at_file s chosen f) s.next_grant s.format now q.client q.args in
      out_more (to_drives s.drives v.going.effects.sent) _ (out_drives s.drives v.going.effects.sent)
      (out_more (recalls_from s.next_recall v.recalled) _ (out_recalls s.next_recall v.recalled) (tt, tt));
})

out_declared : (s : Server) (chosen : List ℕ) (drive : ℕ) → GoOut (declare s chosen drive).sends
unfolding declare
out_declared s chosen drive = out_drives _ _

-- it isn't an order that the server sent to itself
abbrev pub IsOutward : Input → Type 0
IsOutward (Hears now from m) = IsOther from
IsOutward i = Unit {0}

pub out_step : (s : Server) (chosen : List ℕ) (i : Input) → IsOutward i → GoOut (step s chosen i).sends
out_step s chosen i outward = each_step s chosen i (λ (t : Step). GoOut t.sends) (record {
  rests = tt;
  asked = λ now q is. out_request s now chosen q;
  answered = λ x is. out_drives s.drives (answered_file s chosen x).effects.sent;
  recalled = λ f is. out_recalls s.next_recall f.kept.grants;
  refused = λ f is n why. tt;
  fenced = λ f is kind none low. out_drives s.drives (fence_begins kind s.format (at_file s chosen f)).effects.sent;
  declared = λ d known. out_declared s chosen d;
  told = λ t now o is result out. absurd (subst IsOutward is outward);
  made = λ n m tag zoned is none. out_drives s.drives _;
  added = λ d is. tt;
  zoned = λ d zone is. tt;
  formats = λ n is. tt;
  resends = λ is. out_again s.drives s.files;
  crashes = λ is. tt;
  opened = λ is low. out_drives s.drives _;
})
