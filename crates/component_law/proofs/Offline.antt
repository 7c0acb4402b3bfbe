-- A drive that is offline stays so.
use Rattle.std.proofs.Common.{◌≡◌, ◌==◌, ◌&&◌, not, ℕ, Bool, true, false, List, [], ◌∷◌, is_some, find, nat_lt, inl, inr, refl, ◌∙◌, if◌then◌else◌}
use Rattle.std.proofs.lemmas.Bool.{cases_Bool}
use Rattle.world_history.specs.ServerNames.{Server, Drive}
use Rattle.server_rules.specs.Files.{Step}
use Rattle.server_rules.specs.History.{Input, step}
use Rattle.server_rules.specs.Making.{add_drive}
use Rattle.server_rules.specs.Orders.{offline, declare}
use Rattle.server_rules.specs.Zoning.{put_in_zone}
use Rattle.history_law.specs.Steps.{StepCases}
use Rattle.history_law.proofs.Steps.{each_step, each_request}
use Rattle.component_law.specs.Listed.{is_offline, IsOffline}

pub out_more : (b : Bool) (x y : Bool) → (x ≡ true → y ≡ true) → (if b then true else x) ≡ true
    → (if b then true else y) ≡ true
out_more true x y on e = refl
out_more false x y on e = on e

out_behind : (b x : Bool) → x ≡ true → (if b then true else x) ≡ true
out_behind true x e = refl
out_behind false x e = e

added : (ds : List Drive) (d : Drive) (n : ℕ) → IsOffline ds n → IsOffline (add_drive ds d) n
unfolding is_offline add_drive
added [] d n e = absurd (cc e)
added (x ∷ ds) d n e = elim (cases_Bool (nat_lt x.number d.number)) [
  | inl t ↦ rw t (out_more ((x.number == n) && not x.online) _ _ (added ds d n) e)
  | inr z ↦ rw z (out_behind ((d.number == n) && not d.online) _ e)
]

one_kept : (d : Drive) (b : Bool) (n : ℕ) (x y : Bool) → (x ≡ true → y ≡ true)
    → (if (d.number == n) && not d.online then true else x) ≡ true
    → (if ((if b then record d { online = false } else d).number == n)
    && not (if b then record d { online = false } else d).online then true else y) ≡ true
one_kept d false n x y on e = out_more ((d.number == n) && not d.online) x y on e
one_kept d true n x y on e = elim (cases_Bool (d.number == n)) [
  | inl t ↦ rw t refl
  | inr z ↦ rw z (on (rw z at e))
]

kept_out : (ds : List Drive) (drive n : ℕ) → IsOffline ds n → IsOffline (offline ds drive) n
unfolding is_offline offline
kept_out [] drive n e = e
kept_out (d ∷ ds) drive n e = one_kept d (d.number == drive) n _ _ (kept_out ds drive n) e

-- and none is by being put into a zone
pub zoned_out : (ds : List Drive) (d z n : ℕ) → is_offline n (put_in_zone ds d z) ≡ is_offline n ds
unfolding is_offline put_in_zone
zoned_out [] d z n = refl
zoned_out (x ∷ ds) d z n = elim (cases_Bool (x.number == d)) [
  | inl t ↦ rw (t, zoned_out ds d z n) refl
  | inr o ↦ rw (o, zoned_out ds d z n) refl
]

-- one that is declared is offline
pub now_out : (ds : List Drive) (drive : ℕ) → is_some (find (λ (d : Drive). d.number == drive) ds) ≡ true
    → IsOffline (offline ds drive) drive
unfolding is_offline offline
now_out [] drive e = absurd (cc e)
now_out (d ∷ ds) drive e = elim (cases_Bool (d.number == drive)) [
  | inl t ↦ rw (t, t) refl
  | inr z ↦ rw (z, z) (now_out ds drive (rw z at e))
]

-- ---- a step

abbrev Knows : Server → Step → Type 0
Knows s did = (n : ℕ) → IsOffline s.drives n → IsOffline did.state.drives n

cases : (s : Server) (chosen : List ℕ) (i : Input) → StepCases s chosen i (Knows s)
unfolding declare
cases s chosen i = record {
  rests = λ n o. o;
  asked = λ now q is. each_request s now chosen q (Knows s) (record {
    again = λ kept is n o. o;
    misordered = λ expected is n o. o;
    without = λ new found n o. o;
    served = λ new f found n o. o;
  });
  answered = λ x is n o. o;
  recalled = λ f is n o. o;
  refused = λ f is k why n o. o;
  fenced = λ f is kind free low n o. o;
  declared = λ d known. kept_out s.drives d;
  told = λ t now order is result out. out;
  made = λ k m tag zoned is free n o. o;
  added = λ d is. added s.drives d;
  zoned = λ d zone is n o. zoned_out s.drives d zone n ∙ o;
  formats = λ k is n o. o;
  resends = λ is n o. o;
  crashes = λ is n o. o;
  opened = λ is low n o. o;
}

pub step_knows : (s : Server) (chosen : List ℕ) (i : Input) → Knows s (step s chosen i)
step_knows s chosen i = each_step s chosen i (Knows s) (cases s chosen i)
