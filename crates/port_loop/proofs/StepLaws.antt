-- What a step more leaves of other connections, and that a loop that goes is settled.
use Rattle.std.proofs.Common.{◌≡◌, inl, ℕ, true, false, nat_eq, List, ◌∷◌, map, Option, None, Some, refl, sym, ap, subst, ◌∙◌}
use Rattle.std.proofs.lemmas.List.{append-nil}
use Rattle.port_loop.specs.Points.{Around, Goes, IsHeld, Rests, Unused, Work, calm}
use Rattle.port_loop.specs.Ports.{came_on, is_full, is_known, is_open, went_on}
use Rattle.port_loop.specs.declared.ports.Happening.{Happening}
use Rattle.port_loop.specs.declared.ports.Happening.TheVariants.{Began, Opened, Refused, Came, Went, Failed, Drained, Ended, Closed, Passed}
use Rattle.port_loop.specs.declared.handler.Handler.{Ghosts}
use Rattle.port_loop.specs.Serving.{Desk, Ran}
use Rattle.port_loop.specs.Sessions.{Sess}
use Rattle.port_loop.specs.Steps.{Answer, Change, IsServed, Settled, Step, frames_on, handled_in, happened, record_of}
use Rattle.port_loop.specs.Steps.Step.{Happens}
use Rattle.port_loop.proofs.FrontLaws.{fronts}
use Rattle.port_loop.proofs.ListLaws.{other}

pub record Alike {S : Type 0} (reply : Answer S) (step : Change S) (first : S) (q : ℕ) (new old : List Step) : Type 0 where
  pub stays : is_open q (happened new) ≡ is_open q (happened old)
  pub came : came_on q (happened new) ≡ came_on q (happened old)
  pub went : went_on q (happened new) ≡ went_on q (happened old)
  pub frames : frames_on reply step q first (handled_in new) ≡ frames_on reply step q first (handled_in old)

pub stands-alike : {S : Type 0} {reply : Answer S} {step : Change S} {first : S} {q : ℕ} {new old : List Step} (o : Option Sess)
    → Alike reply step first q new old → IsHeld reply step first old q o → IsHeld reply step first new q o
stands-alike None a s = a.stays ∙ s
stands-alike (Some x) a s = (a.stays ∙ s.0, rw a.came s.1, rw (a.frames, a.went) s.2)

pub rests-alike : (q : ℕ) (new old : List Step) (o : Option Sess)
    → is_full q (happened new) ≡ is_full q (happened old) → Rests old q o → Rests new q o
rests-alike q new old None e r = tt
rests-alike q new old (Some s) e r = record { begun = r.begun; bound = r.bound; all = λ f. r.all (sym e ∙ f) }

abbrev pub port_of : Happening → ℕ
port_of (Began p) = p
port_of (Opened p to) = p
port_of (Refused to) = 0
port_of (Came p bytes) = p
port_of (Went p bytes full) = p
port_of (Failed p) = p
port_of (Drained p) = p
port_of (Ended p) = p
port_of (Closed p) = p
port_of Passed = 0

pub alike-other : {S : Type 0} {reply : Answer S} {step : Change S} {first : S} (q : ℕ) (x : Happening) (steps : List Step)
    → nat_eq (port_of x) q ≡ false → Alike reply step first q (Happens x ∷ steps) steps
alike-other q (Began p) steps ne = record { stays = rw ne refl; came = refl; went = refl; frames = refl }
alike-other q (Opened p to) steps ne = record { stays = rw ne refl; came = refl; went = refl; frames = refl }
alike-other q (Refused to) steps ne = record { stays = refl; came = refl; went = refl; frames = refl }
alike-other q (Came p bytes) steps ne = record { stays = refl; came = rw ne refl; went = refl; frames = refl }
alike-other q (Went p bytes full) steps ne = record { stays = refl; came = refl; went = rw ne refl; frames = refl }
alike-other q (Failed p) steps ne = record { stays = refl; came = refl; went = refl; frames = refl }
alike-other q (Drained p) steps ne = record { stays = refl; came = refl; went = refl; frames = refl }
alike-other q (Ended p) steps ne = record { stays = rw ne refl; came = refl; went = refl; frames = refl }
alike-other q (Closed p) steps ne = record { stays = rw ne refl; came = refl; went = refl; frames = refl }
alike-other q Passed steps ne = record { stays = refl; came = refl; went = refl; frames = refl }

pub full-other : (q : ℕ) (x : Happening) (steps : List Step) → nat_eq (port_of x) q ≡ false →
    is_full q (happened (Happens x ∷ steps)) ≡ is_full q (happened steps)
full-other q (Began p) steps ne = refl
full-other q (Opened p to) steps ne = refl
full-other q (Refused to) steps ne = refl
full-other q (Came p bytes) steps ne = refl
full-other q (Went p bytes full) steps ne = rw ne refl
full-other q (Failed p) steps ne = refl
full-other q (Drained p) steps ne = rw ne refl
full-other q (Ended p) steps ne = refl
full-other q (Closed p) steps ne = refl
full-other q Passed steps ne = refl

known-other : (q : ℕ) (x : Happening) (steps : List Step) → nat_eq (port_of x) q ≡ false →
    is_known q (happened (Happens x ∷ steps)) ≡ is_known q (happened steps)
known-other q (Began p) steps ne = rw ne refl
known-other q (Opened p to) steps ne = rw ne refl
known-other q (Refused to) steps ne = refl
known-other q (Came p bytes) steps ne = refl
known-other q (Went p bytes full) steps ne = refl
known-other q (Failed p) steps ne = refl
known-other q (Drained p) steps ne = refl
known-other q (Ended p) steps ne = refl
known-other q (Closed p) steps ne = refl
known-other q Passed steps ne = refl

pub unused-other : {S : Type 0} {reply : Answer S} {step : Change S} {first : S} (q : ℕ) (x : Happening) (steps : List Step)
    → nat_eq (port_of x) q ≡ false → Unused reply step first steps q → Unused reply step first (Happens x ∷ steps) q
unused-other {S} {reply} {step} {first} q x steps ne u =
    let a : Alike reply step first q (Happens x ∷ steps) steps = alike-other q x steps ne in record {
      unknown = known-other q x steps ne ∙ u.unknown;
      shut = a.stays ∙ u.shut;
      came = a.came ∙ u.came;
      went = a.went ∙ u.went;
      empty = full-other q x steps ne ∙ u.empty;
      frames = a.frames ∙ u.frames;
    }

-- an open connection isn't among those of which nothing is known
pub apart : {S : Type 0} {reply : Answer S} {step : Change S} {first : S} {steps : List Step} (p q : ℕ)
    → is_open p (happened steps) ≡ true → Unused reply step first steps q → nat_eq p q ≡ false
apart {S} {reply} {step} {first} {steps} p q stands u =
    other p q (λ e. absurd (cc (sym stands ∙ ap (λ (x : ℕ). is_open x (happened steps)) e ∙ u.shut)))

pub opens : {S : Type 0} (reply : Answer S) (step : Change S) (first : S) (steps : List Step) (p : ℕ) (s : Sess) (o : Option Sess)
    → o ≡ Some s → IsHeld reply step first steps p o → IsHeld reply step first steps p (Some s)
opens reply step first steps p s o e h =
    subst (λ (x : Option Sess). IsHeld reply step first steps p x) e h

-- ---- what a loop that goes shows

pub goes-settled : {H : Type 0} {v : Ghosts H} {first : v.State} {since : Desk H} {a : Around H}
    {at : ℕ → Option Sess} {steps : List Step}
    → Goes v first since a calm at steps → Settled v.reply_to v.state_after first steps
goes-settled {H} {v} {first} {since} {a} {at} {steps} g = record {
  handled = sym (g.records ∙ append-nil (map record_of (handled_in steps)));
  served = λ p is. by_session p (at p) (g.each p) (g.rests p refl) is;
}
  where
    by_session : (p : ℕ) (o : Option Sess) → IsHeld v.reply_to v.state_after first steps p o → Rests steps p o →
        is_open p (happened steps) ≡ true → IsServed v.reply_to v.state_after first p steps
    by_session p None s r is = absurd (cc (sym is ∙ s))
    by_session p (Some x) s r is = record {
      begun = r.begun.0;
      reads = s.1 ∙ r.begun.1;
      unsent = x.unsent;
      waits = s.2;
      bound = r.bound;
      all = r.all;
    }

pub goes-ran : {H : Type 0} {v : Ghosts H} {first : v.State} {since : Desk H} {a : Around H} {w : Work}
    {at : ℕ → Option Sess} {steps : List Step}
    → Goes v first since a w at steps → Ran v first since a.desk steps
goes-ran {H} {v} {first} {since} {a} {w} {at} {steps} g = record {
  lawful = g.lawful;
  fronts = fronts v.reply_to v.state_after first steps g.lawful;
  state = g.state;
  desk = inl g.desk;
}
