-- Whatever comes to the server, its answers and recalls fit.
use Rattle.std.proofs.Common.{◌≡◌, ℕ, ◌+◌, ◌++◌, List, [], ◌∷◌, flat_map, refl, sym, subst}
use Rattle.world_history.specs.ServerNames.{Server, File, Drive, Awaited, Outgoing, ToDrive, Recalls, Answers, AnswersOrder}
use Rattle.server_rules.specs.Going.{noting}
use Rattle.server_rules.specs.Jobs.{fence_begins, making}
use Rattle.server_rules.specs.Files.{Step, still, begins, at_file, to_drives}
use Rattle.server_rules.specs.Messages.{Asks, awaited_by}
use Rattle.server_rules.specs.Openings.{opens_each}
use Rattle.server_rules.specs.Orders.{offline, declares_each, declare}
use Rattle.server_rules.specs.Making.{with_file}
use Rattle.server_rules.specs.History.{Input, Hears, step}
use Rattle.history_law.specs.Steps.{answered_file, new_file}
use Rattle.history_law.proofs.Steps.{each_step}
use Rattle.exchange_law.proofs.CountStepping.{ServerFits, IsGiven, StepFits}
use Rattle.exchange_law.proofs.Making.{ordered_fits, step_cases}
use Rattle.exchange_law.proofs.Answering.{SentGood, SlotsGood, StepGood, drives_good, recalls_good, more_slots, IsRead, request_good}

-- what is read of a request that comes
abbrev pub ReadsWell : Input → Type 0
ReadsWell (Hears now from (Asks q)) = IsRead q
ReadsWell i = Unit {0}

-- ---- what is sent, whatever numbers are used behind it

-- no answer is among it, and recalls fit
abbrev IsPlain : List Outgoing → Type 0
IsPlain os = (first last k : ℕ) → SentGood first last k os

none_plain : IsPlain []
none_plain first last k = tt

drives_plain : (ds : List Drive) (ws : List Awaited) → IsPlain (to_drives ds ws)
drives_plain ds ws first last k = drives_good first last k ds ws

more_plain : (xs ys : List Outgoing) (first last k : ℕ) → SentGood first last k xs → IsPlain ys
    → SentGood first last k (xs ++ ys)
more_plain [] ys first last k g p = p first last k
more_plain (ToDrive d c ∷ xs) ys first last k g p = more_plain xs ys first last (k + 1) g p
more_plain (Recalls r ∷ xs) ys first last k g p = (g.0, more_plain xs ys first last (k + 1) g.1 p)
more_plain (Answers a ∷ xs) ys first last k g p = (g.0, g.1, more_plain xs ys first last (k + 1) g.2 p)
more_plain (AnswersOrder a ∷ xs) ys first last k g p = more_plain xs ys first last (k + 1) g p

resent_plain : (ds : List Drive) (fs : List File) → IsPlain (flat_map (λ f. to_drives ds (awaited_by f.job)) fs)
resent_plain ds [] first last k = tt
resent_plain ds (f ∷ fs) first last k =
    more_plain (to_drives ds (awaited_by f.job)) _ first last k (drives_good first last k ds (awaited_by f.job))
    (resent_plain ds fs)

-- ---- any step

-- a step with no answer, which leaves the slots
silent_good : (s : Server) (t : Step) → SlotsGood s.next_object s.slots → StepFits s t → t.state.slots ≡ s.slots
    → IsPlain t.sends → StepGood s t
silent_good s t k fits same plain = record {
  slots = subst (SlotsGood t.state.next_object) (sym same)
      (more_slots s.next_object t.state.next_object s.slots fits.grows k);
  sends = plain s.next_object t.state.next_object 0;
}

declared_good : (s : Server) (chosen : List ℕ) (d : ℕ) → SlotsGood s.next_object s.slots
    → StepFits s (declare s chosen d) → StepGood s (declare s chosen d)
unfolding declare
declared_good s chosen d slots fits =
    silent_good s _ slots fits refl
    (drives_plain (offline s.drives d)
    (declares_each d (offline s.drives d) s.files (begins s) chosen).effects.sent)

pub step_good : (s : Server) (chosen : List ℕ) (i : Input) → ServerFits s → IsGiven i → ReadsWell i
    → SlotsGood s.next_object s.slots → StepGood s (step s chosen i)
step_good s chosen i k g r slots =
    let fit = step_cases s chosen i k g in
    each_step s chosen i (StepGood s) (record {
      rests = silent_good s (still s) slots fit.rests refl none_plain;
      asked = λ now q is. request_good s now chosen q k slots is.named (subst ReadsWell is.is r);
      answered = λ x is.
          silent_good s _ slots (fit.answered x is) refl (drives_plain s.drives (answered_file s chosen x).effects.sent);
      recalled = λ f is.
          let x = ordered_fits s chosen i k g f is in
          silent_good s _ slots (fit.recalled f is) refl (λ first last n.
          recalls_good first last n s.next_recall f.kept.number f.kept.map f.kept.grants x.0.number x.0.grants);
      refused = λ f is n why.
          silent_good s _ slots (fit.refused f is n why) refl
          (drives_plain s.drives (noting (at_file s chosen f) n).effects.sent);
      fenced = λ f is kind none low.
          silent_good s _ slots (fit.fenced f is kind none low) refl
          (drives_plain s.drives (fence_begins kind s.format (at_file s chosen f)).effects.sent);
      declared = λ d known. declared_good s chosen d slots (fit.declared d known);
      told = λ t now o is result good. record {
        slots = good.slots;
        sends = more_plain t.sends _ s.next_object t.state.next_object 0 good.sends (λ first last n. tt);
      };
      made = λ n m tag zoned is none.
          let f : File = new_file s chosen n m tag zoned in
          silent_good s _ slots (fit.made n m tag zoned is none) refl
          (drives_plain s.drives (making (at_file (with_file s f) [] f)).effects.sent);
      added = λ d is. silent_good s _ slots (fit.added d is) refl none_plain;
      zoned = λ d zone is. silent_good s _ slots (fit.zoned d zone is) refl none_plain;
      formats = λ n is. silent_good s _ slots (fit.formats n is) refl none_plain;
      resends = λ is. silent_good s _ slots (fit.resends is) refl (resent_plain s.drives s.files);
      crashes = λ is. silent_good s _ slots (fit.crashes is) refl none_plain;
      opened = λ is low.
          silent_good s _ slots (fit.opened is low) refl
          (drives_plain s.drives (opens_each s.format s.drives s.files (begins s)).effects.sent);
    })
