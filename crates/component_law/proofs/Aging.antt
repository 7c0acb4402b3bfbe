-- In each world, what the server answered gives grants of files that are there still, whose tags haven't fallen since.
use Rattle.std.proofs.Common.{◌≡◌, ◌⊎◌, ℕ, ◌≤◌, ◌^◌, List, map, Some, refl, sym, ap, subst, ◌∙◌, arith, inl, inr}
use Rattle.osd_lists.specs.declared.node.Node.TheVariants as node
use Rattle.layout_ops.specs.declared.envelope.Envelope.{Envelope}
use Rattle.layout_ops.specs.declared.envelope.Envelope.TheVariants as envelope
use Rattle.layout_ops.specs.declared.results.LayoutGetOk.{LayoutGetOk}
use Rattle.layout_ops.specs.declared.results.LayoutGetResult.TheVariants as get
use Rattle.layout_ops.specs.declared.results.Results.{Results}
use Rattle.layout_ops.specs.declared.results.Results.TheVariants as results
use Rattle.server_rules.specs.Files.{Step, file_at}
use Rattle.server_rules.specs.History.{Input, step}
use Rattle.server_rules.specs.Layouts.{granted}
use Rattle.server_rules.specs.Laws.{In, FilesArePut}
use Rattle.server_rules.proofs.Members.{in_either, in_mapped, in_filtered, one_in}
use Rattle.world_history.specs.ServerNames.{Server, Slot, File, Drive, Kept, Grant, Answer, Outgoing, ToDrive, Recalls, Answers, AnswersOrder}
use Rattle.world_history.specs.declared.messages.Message.{Message}
use Rattle.world_history.specs.declared.messages.Body.{Body}
use Rattle.world_history.specs.declared.messages.Body.TheVariants.{Envelope as OfEnvelope}
use Rattle.world_history.specs.State.{World, empty_world}
use Rattle.world_history.specs.Handed.{Post, is_addressed, server_post}
use Rattle.world_history.specs.Moves.{Act}
use Rattle.world_history.specs.Sending.{sends_all}
use Rattle.component_law.specs.Sound.{IsSound}
use Rattle.component_law.specs.Tags.{EachStepRaisesTags}
use Rattle.history_law.specs.Granted.{NumbersFit}
use Rattle.history_law.proofs.JobFiles.{found_file}
use Rattle.exchange_law.specs.Files.{GrantFits, KeptFits}
use Rattle.exchange_law.proofs.CountStepping.{FileFits, ServerFits}
use Rattle.exchange_law.proofs.Layouts.{numbers_fit}
use Rattle.history_law.proofs.FencingMoves.{messages_in, posts_of, NoneOfServer, Acts, Others, Serves}
use Rattle.history_law.proofs.Numbers.{messages_sent}
use Rattle.component_law.specs.Live.{GivesLive, GrantsFit}
use Rattle.component_law.proofs.Saying.{Known, Says, says_step, only_in}

-- ---- what is given

-- a grant of a file that is there still, whose tag hasn't fallen; where Short holds, its numbers fit their places
pub record IsUpTo (Short : Type 0) (fs : List File) (file : ℕ) (ok : LayoutGetOk) : Type 0 where
  pub drives : List Drive
  pub old : Kept
  pub grant : Grant
  pub is : ok ≡ granted drives old grant
  pub now : File
  pub there : file_at fs file ≡ Some now
  pub rises : old.tag ≤ now.kept.tag
  pub numbers : Short → NumbersFit drives old grant

abbrev pub GivesUpTo : Type 0 → List File → (file : ℕ) → Results → Type 0
GivesUpTo Short fs n (results.LayoutGet (get.Granted ok)) = IsUpTo Short fs n ok
GivesUpTo Short fs n r = Unit {0}

abbrev pub UpTo : Type 0 → List File → Answer → Type 0
UpTo Short fs a = GivesUpTo Short fs a.file a.results

-- the files' numbers fit their places, and few objects were numbered
pub record IsLow (s : Server) : Type 0 where
  pub fits : ServerFits s
  pub objects : s.next_object ≤ 2 ^ 63

pub grants_fit : (book : Server) → IsLow book → GrantsFit book
grants_fit book low n f g found live =
    let k : KeptFits book.next_object f.kept =
    (one_in (FileFits book.next_object) book.files f low.fits.files (found_file book.files n f found).0).0 in
    numbers_fit book.drives book.next_object f.kept g low.objects k
    (one_in (GrantFits f.kept.number f.kept.map) f.kept.grants g k.grants live)

-- so is what is live
live_up : (Short : Type 0) (book : Server) (n c : ℕ) (r : Results) → (Short → IsLow book) → GivesLive book n c r
    → GivesUpTo Short book.files n r
live_up Short book n c (results.LayoutGet (get.Granted ok)) low k = record {
  drives = book.drives;
  old = k.file.kept;
  grant = k.grant;
  is = k.is;
  now = k.file;
  there = k.found;
  rises = omega arith;
  numbers = λ short. grants_fit book (low short) n k.file k.grant k.found k.live;
}
live_up Short book n c (results.LayoutGet (get.TryLater b)) low k = tt
live_up Short book n c (results.LayoutGet (get.Refused s)) low k = tt
live_up Short book n c (results.LayoutCommit r) low k = tt
live_up Short book n c (results.LayoutReturn r) low k = tt

-- ---- what is known

-- a message of the server to a client
abbrev pub to_client : (client : ℕ) → Body → Message
to_client c b = record { from = node.Server; to = node.Client c; body = b }

abbrev pub EnvelopeUpTo : Type 0 → List File → Envelope → Type 0
EnvelopeUpTo Short fs (envelope.Answer a) = UpTo Short fs a
EnvelopeUpTo Short fs e = Unit {0}

-- of what slots keep, and of what was sent
pub record Aged (Short : Type 0) (w : World) : Type 0 where
  pub slots : (x : Slot) → In x w.server.slots → UpTo Short w.server.files x.kept
  pub sent : (c : ℕ) (b : Body) → In (to_client c b) (messages_in w) →
      (e : Envelope) × (b ≡ OfEnvelope e) × EnvelopeUpTo Short w.server.files e

-- ---- tags rise

-- each file is there still, and its tag hasn't fallen
abbrev pub Rises : List File → List File → Type 0
Rises fs gs = (n : ℕ) (f : File) → file_at fs n ≡ Some f
    → (g : File) × (file_at gs n ≡ Some g) × (f.kept.tag ≤ g.kept.tag)

module _ (Short Later : Type 0) (back : Later → Short) where
  gives_on : (fs gs : List File) (n : ℕ) (r : Results) → Rises fs gs → GivesUpTo Short fs n r → GivesUpTo Later gs n r
  gives_on fs gs n (results.LayoutGet (get.Granted ok)) rise up =
      let on = rise n up.now up.there in
      record {
        drives = up.drives;
        old = up.old;
        grant = up.grant;
        is = up.is;
        now = on.0;
        there = on.1;
        rises = omega (arith, up.rises, on.2);
        numbers = λ later. up.numbers (back later);
      }
  gives_on fs gs n (results.LayoutGet (get.TryLater b)) rise up = tt
  gives_on fs gs n (results.LayoutGet (get.Refused s)) rise up = tt
  gives_on fs gs n (results.LayoutCommit r) rise up = tt
  gives_on fs gs n (results.LayoutReturn r) rise up = tt

  envelope_on : (fs gs : List File) (e : Envelope) → Rises fs gs → EnvelopeUpTo Short fs e → EnvelopeUpTo Later gs e
  envelope_on fs gs (envelope.Answer a) rise up = gives_on fs gs a.file a.results rise up
  envelope_on fs gs (envelope.Recall r) rise up = tt
  envelope_on fs gs (envelope.Request r) rise up = tt
  envelope_on fs gs (envelope.RecallAnswer r) rise up = tt
  envelope_on fs gs (envelope.Order r) rise up = tt
  envelope_on fs gs (envelope.OrderAnswer r) rise up = tt

-- ---- what is sent

pub envelopes_only : (o : Outgoing) (c : ℕ) (b : Body) → to_client c b ≡ (server_post o).message
    → (e : Envelope) × (b ≡ OfEnvelope e) × ((a : Answer) → e ≡ envelope.Answer a → o ≡ Answers a)
envelopes_only (ToDrive d x) c b e = absurd (cc (ap (λ (m : Message). m.to) e))
envelopes_only (Recalls r) c b e = (envelope.Recall r, ap (λ (m : Message). m.body) e, λ a is. absurd (cc is))
envelopes_only (Answers x) c b e = (
  envelope.Answer x,
  ap (λ (m : Message). m.body) e,
  λ a is. ap (λ (y : Answer). Answers y) (same x a is),
)
  where
    same : (x a : Answer) → envelope.Answer x ≡ envelope.Answer a → x ≡ a
    same x a is = cc is
envelopes_only (AnswersOrder x) c b e =
    (envelope.OrderAnswer x, ap (λ (m : Message). m.body) e, λ a is. absurd (cc is))

pub sent_anew : (os : List Outgoing) (c : ℕ) (b : Body) → In (to_client c b) (map (λ (p : Post). p.message) (posts_of os))
    → (e : Envelope) × (b ≡ OfEnvelope e) × ((a : Answer) → e ≡ envelope.Answer a → In (Answers a) os)
sent_anew os c b i =
    let p = in_mapped (λ (p : Post). p.message) (to_client c b) (posts_of os) i in
    let o = in_mapped server_post p.0 os (in_filtered is_addressed p.0 (map server_post os) p.1).0 in
    let r = envelopes_only o.0 c b (p.2 ∙ ap (λ (x : Post). x.message) o.2) in
    (r.0, r.1, λ a is. subst (λ (x : Outgoing). In x os) (r.2 a is) o.1)

pub none_anew : (ps : List Post) (c : ℕ) (b : Body) → NoneOfServer ps
    → In (to_client c b) (map (λ (p : Post). p.message) ps) → ⊥
none_anew ps c b none i =
    let p = in_mapped (λ (p : Post). p.message) (to_client c b) ps i in
    none p.0 p.1 (ap (λ (m : Message). m.from) (sym p.2))

by_answer : (Short : Type 0) (fs : List File) (e : Envelope) → ((a : Answer) → e ≡ envelope.Answer a → UpTo Short fs a)
    → EnvelopeUpTo Short fs e
by_answer Short fs (envelope.Answer a) up = up a refl
by_answer Short fs (envelope.Recall r) up = tt
by_answer Short fs (envelope.Request r) up = tt
by_answer Short fs (envelope.RecallAnswer r) up = tt
by_answer Short fs (envelope.Order r) up = tt
by_answer Short fs (envelope.OrderAnswer r) up = tt

-- ---- a move

pub split : (w : World) (a : Act) (c : ℕ) (b : Body) → messages_in a.world ≡ messages_in w
    → In (to_client c b) (messages_in (sends_all a).world)
    → In (to_client c b) (messages_in w) ⊎ In (to_client c b) (map (λ (p : Post). p.message) a.posts)
split w a c b messages i =
    elim (in_either (to_client c b) (messages_in a.world) (map (λ (p : Post). p.message) a.posts)
    (subst (In (to_client c b)) (messages_sent a.world.network.messages a.posts) i)) [
      | inl j ↦ inl (subst (In (to_client c b)) messages j)
      | inr j ↦ inr j
    ]

module _ (raise : EachStepRaisesTags) (put : FilesArePut) where
  rises_step : (s : Server) (chosen : List ℕ) (i : Input) → IsSound s → Rises s.files (step s chosen i).state.files
  rises_step s chosen i sound n f e =
      let r = raise s chosen i sound n f e in (r.behind, r.there, r.rises)

  module _ (Short Later : Type 0) (back : Later → Short) where
    known_up : (s : Server) (t : Step) (a : Answer) → (Later → IsLow t.state)
        → ((x : Slot) → In x s.slots → UpTo Short s.files x.kept) → Rises s.files t.state.files → Known s t a
        → UpTo Later t.state.files a
    known_up s t a low slots rise (inl (x, i, e)) =
        subst (UpTo Later t.state.files) (sym e)
        (gives_on Short Later back s.files t.state.files x.kept.file x.kept.results rise (slots x i))
    known_up s t a low slots rise (inr live) = live_up Later t.state a.file a.client a.results low live

    -- what a slot keeps behind a step
    kept_up : (s : Server) (t : Step) (x : Slot) → (Later → IsLow t.state) → Says s t
        → ((y : Slot) → In y s.slots → UpTo Short s.files y.kept) → Rises s.files t.state.files
        → In x s.slots ⊎ In (Answers x.kept) t.sends → UpTo Later t.state.files x.kept
    kept_up s t x low says slots rise (inl i) =
        gives_on Short Later back s.files t.state.files x.kept.file x.kept.results rise (slots x i)
    kept_up s t x low says slots rise (inr i) =
        known_up s t x.kept low slots rise (only_in (Known s t) t.sends x.kept says.sends i)

    stays : (fs : List File) → Rises fs fs
    stays fs n f e = (f, e, omega arith)

    pub aged_by : (w : World) (a : Act) → Aged Short w → IsSound w.server → (Later → IsLow a.world.server)
        → Acts w a.world a.told a.posts → Aged Later (sends_all a).world
    aged_by w a k sound low (Others server messages told others) = record {
      slots = λ x i.
          subst (λ (s : Server). UpTo Later s.files x.kept) (sym server)
          (gives_on Short Later back w.server.files w.server.files x.kept.file x.kept.results (stays w.server.files)
          (k.slots x (subst (λ (s : Server). In x s.slots) server i)));
      sent = λ c b i. elim (split w a c b messages i) [
        | inl j ↦
            let r = k.sent c b j in (
              r.0,
              r.1,
              subst (λ (s : Server). EnvelopeUpTo Later s.files r.0) (sym server)
                  (envelope_on Short Later back w.server.files w.server.files r.0 (stays w.server.files) r.2),
            )
        | inr j ↦ absurd (none_anew a.posts c b others j)
      ];
    }
    aged_by w a k sound low (Serves chosen i sent server messages told posts) =
        let t : Step = step w.server chosen i in
        let says : Says w.server t = says_step put w.server chosen i in
        let rise : Rises w.server.files t.state.files = rises_step w.server chosen i sound in
        let lower : Later → IsLow t.state = λ later. subst IsLow server (low later) in
        record {
          slots = λ x j.
              subst (λ (s : Server). UpTo Later s.files x.kept) (sym server)
              (kept_up w.server t x lower says k.slots rise
              (says.slots x (subst (λ (s : Server). In x s.slots) server j)));
          sent = λ c b j. elim (split w a c b messages j) [
            | inl old ↦
                let r = k.sent c b old in (
                  r.0,
                  r.1,
                  subst (λ (s : Server). EnvelopeUpTo Later s.files r.0) (sym server)
                      (envelope_on Short Later back w.server.files t.state.files r.0 rise r.2),
                )
            | inr new ↦
                let r = sent_anew t.sends c b
                (subst (λ (ps : List Post). In (to_client c b) (map (λ (p : Post). p.message) ps)) posts new) in (
                  r.0,
                  r.1,
                  subst (λ (s : Server). EnvelopeUpTo Later s.files r.0) (sym server)
                      (by_answer Later t.state.files r.0 (λ x is.
                      known_up w.server t x lower k.slots rise
                      (only_in (Known w.server t) t.sends x says.sends (r.2 x is)))),
                )
          ];
        }

pub aged_first : (Short : Type 0) → Aged Short empty_world
aged_first Short = record { slots = λ x i. absurd i; sent = λ c b i. absurd i }
