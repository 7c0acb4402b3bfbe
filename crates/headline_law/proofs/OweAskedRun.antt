-- A repair asks each present component that it reads, and writes to none twice: behind each step, and at each moment.
-- Towards `OweFollows` (`specs/Parts.antt`).
use Rattle.std.proofs.Common.{◌≡◌, ◌⊎◌, ℕ, ◌<◌, List, [], ◌∷◌, Option, Some, None, refl, sym, ap, subst, ◌∙◌, inl, inr, arith}
use Rattle.server_rules.specs.Files.{at_file, file_at}
use Rattle.server_rules.specs.History.{Input, Act, step, state_after}
use Rattle.server_rules.specs.Laws.{In, AreSafe}
use Rattle.server_rules.specs.Making.{new_server, with_file}
use Rattle.server_rules.proofs.FileLaws.{number_at}
use Rattle.relation_law.proofs.WaysSteps.{files_go}
use Rattle.server_rules.specs.Messages.{awaited_by}
use Rattle.server_rules.proofs.StepLaws.{safe_step}
use Rattle.history_law.specs.Names.{Server, File, Awaited, Job}
use Rattle.history_law.specs.Numbered.{Awaits, NumbersOn}
use Rattle.history_law.proofs.Files.{in_at}
use Rattle.history_law.proofs.Hearing.{found_in}
use Rattle.history_law.proofs.JobSteps.{step_numbers}
use Rattle.history_law.proofs.Lists.{numbered_from, numbered_alone}
use Rattle.world_history.specs.History.{OneEventMore}
use Rattle.component_law.specs.Sent.{IsSentByRun}
use Rattle.component_law.specs.Sound.{IsSound}
use Rattle.component_law.specs.Tagged.{AreNamedActs}
use Rattle.component_law.proofs.Making.{each_step_is_sound}
use Rattle.component_law.proofs.Moments.{server_sent_its_run}
use Rattle.relation_law.proofs.KeptServer.{at_place}
use Rattle.headline_law.specs.OweAsking.{AsksIn, AsksOf, RepairsAskAll}
use Rattle.headline_law.proofs.OweAsked.{AsksAt, AreAlone, asks_hears, asks_fence, asks_declares, asks_opens, asks_making}
use Rattle.headline_law.proofs.OweGoes.{OwnWays, own_goes}

-- ---- a step

ways : (s : Server) (chosen : List ℕ) (i : Input) (f : File) → AsksOf f.kept f.job →
    ((j : Job) → f.job ≡ Some j → AreAlone j.awaited) → OwnWays s chosen i f AsksAt
ways s chosen i f asks alone = record {
  stays = λ g same. subst (λ (y : File). AsksOf y.kept y.job) (sym same) asks;
  free = λ g none. subst (AsksOf g.file.kept) (sym none) tt;
  heard = λ x is same.
      let runs : f.job ≡ Some x.job = ap (λ (y : File). y.job) (sym same) ∙ is.runs in
      asks_hears (at_file s chosen x.file) x.job x.awaited x.reply is.runs (found_in _ x.job.awaited x.awaited is.awaits).0
      (alone x.job runs) _ (subst (λ (y : File). AsksIn y.kept x.job x.job.work) (sym same)
      (subst (AsksOf f.kept) runs asks));
  fenced = λ g kind format same none. asks_fence kind format g;
  declared = λ g drive same. asks_declares drive g (subst (λ (y : File). AsksOf y.kept y.job) (sym same) asks);
  opened = λ g format same. asks_opens format g (subst (λ (y : File). AsksOf y.kept y.job) (sym same) asks);
}

-- what is so of a server between two steps
record IsAsking (s : Server) : Type 0 where
  sound : IsSound s
  safe : AreSafe s.files
  low : (a : Awaited) → Awaits s.files a → a.command.nonce < s.next_nonce
  alone : (a b : Awaited) → Awaits s.files a → Awaits s.files b → a.command.nonce ≡ b.command.nonce → a ≡ b
  asks : (f : File) → In f s.files → AsksOf f.kept f.job

module _ (s : Server) (chosen : List ℕ) (i : Input) (k : IsAsking s) where
  numbers : NumbersOn s (step s chosen i)
  numbers = step_numbers s chosen i

  abbrev Known : Awaited → Type 0
  Known a = Awaits s.files a ⊎ In a numbers.fresh

  low_known : (a : Awaited) → Known a → a.command.nonce < (step s chosen i).state.next_nonce
  low_known a (inl old) = omega (arith, k.low a old, numbers.rises)
  low_known a (inr new) = omega (arith, (numbered_from s.next_nonce numbers.fresh a numbers.numbered new).1, numbers.rises)

  alone_known : (a b : Awaited) → Known a → Known b → a.command.nonce ≡ b.command.nonce → a ≡ b
  alone_known a b (inl x) (inl y) e = k.alone a b x y e
  alone_known a b (inl x) (inr y) e =
      absurd (omega (arith, e, k.low a x, (numbered_from s.next_nonce numbers.fresh b numbers.numbered y).0))
  alone_known a b (inr x) (inl y) e =
      absurd (omega (arith, e, k.low b y, (numbered_from s.next_nonce numbers.fresh a numbers.numbered x).0))
  alone_known a b (inr x) (inr y) e = numbered_alone s.next_nonce numbers.fresh a b numbers.numbered x y e

  own : (f : File) → In f s.files → (j : Job) → f.job ≡ Some j → (a : Awaited) → In a j.awaited → Awaits s.files a
  own f x j runs a y = (f, x, subst (λ (o : Option Job). In a (awaited_by o)) (sym runs) y)

  one_file : (f g : File) → file_at s.files f.kept.number ≡ Some f →
      file_at (step s chosen i).state.files f.kept.number ≡ Some g → AsksOf g.kept g.job
  one_file f g there behind =
      let x : In f s.files = in_at s.files f.kept.number f there in
      let r = own_goes s chosen i f AsksAt (ways s chosen i f (k.asks f x)
      (λ j runs a b y z e. k.alone a b (own f x j runs a y) (own f x j runs b z) e)) k.safe k.sound.distinct there g
      behind in
      subst (λ (y : File). AsksOf y.kept y.job) r.1 r.2

  -- one that wasn't there is new
  new_file : (g : File) → file_at s.files g.kept.number ≡ None →
      file_at (step s chosen i).state.files g.kept.number ≡ Some g → AsksOf g.kept g.job
  new_file g none behind =
      elim (files_go s chosen i (λ x y. Unit {0}) (λ y. AsksOf y.kept y.job) (record {
        stays = λ x y j same. tt;
        alike = λ x y z a p. tt;
        heard = λ x is. tt;
        fenced = λ x y kind format j same. tt;
        declared = λ x y drive j same. tt;
        crashed = λ x y j same. tt;
        opened = λ x y format j same. tt;
        made = λ x there none_. asks_making (at_file (with_file s x) [] x);
      }) k.sound.distinct g.kept.number g behind) [
        | inl old ↦ absurd (cc (sym none ∙ old.there))
        | inr new ↦ new
      ]

  by_before : (g : File) (o : Option File) → file_at s.files g.kept.number ≡ o →
      file_at (step s chosen i).state.files g.kept.number ≡ Some g → AsksOf g.kept g.job
  by_before g None there behind = new_file g there behind
  by_before g (Some f) there behind =
      let number : f.kept.number ≡ g.kept.number = number_at s.files g.kept.number f there in
      one_file f g (ap (file_at s.files) number ∙ there)
      (ap (file_at (step s chosen i).state.files) number ∙ behind)

  asking_on : IsSound (step s chosen i).state → IsAsking (step s chosen i).state
  asking_on sound = record {
    sound = sound;
    safe = safe_step s chosen i k.safe;
    low = λ a x. low_known a (numbers.waits a x);
    alone = λ a b x y e. alone_known a b (numbers.waits a x) (numbers.waits b y) e;
    asks = λ g x. by_before g (file_at s.files g.kept.number) refl (at_place (step s chosen i).state.files g sound.distinct x);
  }

asking_run : (s : Server) (acts : List Act) → AreNamedActs acts → IsAsking s → IsAsking (state_after s acts)
asking_run s [] named k = k
asking_run s (a ∷ acts) named k =
    asking_run (step s a.chosen a.input).state acts named.1
    (asking_on s a.chosen a.input k (each_step_is_sound s a.chosen a.input k.sound named.0))

asking_first : IsAsking (new_server [])
asking_first = record {
  sound = record { distinct = tt; components = tt; aimed = tt; files = tt; drives = tt };
  safe = tt;
  low = λ a x. absurd x.1;
  alone = λ a b x y e. absurd x.1;
  asks = λ f x. absurd x;
}

pub repairs_ask_all : OneEventMore → RepairsAskAll
repairs_ask_all more w h k named f i =
    let r : IsSentByRun w = server_sent_its_run more w h k named in
    (asking_run (new_server []) r.acts r.named asking_first).asks f (subst (λ (s : Server). In f s.files) r.server i)
