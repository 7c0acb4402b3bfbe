-- What was sent was told at some line. So a credential that was given leads back to the line at which its answer was first
-- sent, and to the grant that the book had live then.
use Rattle.std.proofs.Common.{◌≡◌, ℕ, zero, suc, ◌≤◌, List, [], ◌∷◌, ◌++◌, length, slice_get, Some, Ok, refl, sym, ap, subst, ◌∙◌, append_assoc, arith, inl, inr}
use Rattle.std.proofs.lemmas.List.{append-nil, length-append}
use Rattle.osd_lists.proofs.Slices.{found_more}
use Rattle.layout_types.specs.declared.cred.ObjectCred.{ObjectCred}
use Rattle.layout_ops.specs.declared.envelope.Envelope.TheVariants as envelope
use Rattle.layout_ops.specs.declared.results.LayoutGetOk.{LayoutGetOk}
use Rattle.layout_ops.specs.declared.results.LayoutGetResult.TheVariants as get
use Rattle.layout_ops.specs.declared.results.Results.{Results}
use Rattle.layout_ops.specs.declared.results.Results.TheVariants as results
use Rattle.layout_ops.specs.Reading.{envelope_of}
use Rattle.layout_ops.proofs.Whole.{all_again}
use Rattle.client_rules.specs.Results.{layouts_in}
use Rattle.scenario_text.specs.declared.line.Line.{Line}
use Rattle.scenario_text.specs.declared.line.Line.TheVariants as line
use Rattle.scenario_text.specs.declared.line.Party.{Party}
use Rattle.scenario_text.specs.declared.line.Party.TheVariants as party
use Rattle.world_history.specs.declared.messages.Sent.{Sent}
use Rattle.world_history.specs.ServerNames.{Server}
use Rattle.world_history.specs.Reading.{sent_after, sent_in}
use Rattle.world_history.specs.Book.{server_after}
use Rattle.history_law.specs.Listed.{WasGiven}
use Rattle.history_law.specs.StepEnds.{BehindStep}
use Rattle.history_law.proofs.Coming.{sent_behind}
use Rattle.history_law.proofs.Exact.{same_ok, capability_read}
use Rattle.history_law.proofs.Messages.{WasIn, arrived_was, event_was}
use Rattle.exchange_law.proofs.CountWorlds.{text_written}
use Rattle.component_law.specs.Live.{IsLive, GivesLive, LiveIn, AreShort, SpellsLive, WasTold, TellsLive, AnswersAreLive, EachAnswerIsLive}
use Rattle.component_law.specs.Handed.{EachGivenWasLive}
use Rattle.component_law.proofs.Bodies.{shorter}

-- ---- the line of a message

record IsTold (h : List Line) (m : Sent) : Type 0 where
  front : List Line
  number : ℕ
  middle : List Line
  place : h ≡ front ++ line.Message number m.from m.to m.bytes ∷ middle

abbrev AllTold : List Line → Type 0
AllTold h = (n : ℕ) (m : Sent) → slice_get (sent_in h) n ≡ Some m → IsTold h m

told_longer : (h : List Line) (l : Line) (m : Sent) → IsTold h m → IsTold (h ++ l ∷ []) m
told_longer h l m t = record {
  front = t.front;
  number = t.number;
  middle = t.middle ++ l ∷ [];
  place =
      ap (λ (ls : List Line). ls ++ l ∷ []) t.place
      ∙ append_assoc t.front (line.Message t.number m.from m.to m.bytes ∷ t.middle) (l ∷ []);
}

told_was : (h : List Line) → AllTold h → (m : Sent) → WasIn (sent_in h) m → IsTold h m
told_was h all m w =
    let t = all w.number w.old w.there in
    record {
      front = t.front;
      number = t.number;
      middle = t.middle;
      place =
          t.place
          ∙ ap (λ (p : Party). t.front ++ line.Message t.number p w.old.to w.old.bytes ∷ t.middle) w.from_is
          ∙ ap (λ (p : Party). t.front ++ line.Message t.number m.from p w.old.bytes ∷ t.middle) w.to_is
          ∙ ap (λ (bs : List ℕ). t.front ++ line.Message t.number m.from m.to bs ∷ t.middle) w.bytes_are;
    }

told_by : (h : List Line) (l : Line) → AllTold h → (n : ℕ) (m : Sent) → slice_get (sent_after (sent_in h) l) n ≡ Some m
    → IsTold (h ++ l ∷ []) m
told_by h (line.Message k from to bytes) all n m found = elim (found_more (sent_in h) _ n m found) [
  | inl old ↦ told_longer h (line.Message k from to bytes) m (all n m old)
  | inr same ↦ record {
    front = h;
    number = k;
    middle = [];
    place = ap (λ (x : Sent). h ++ line.Message k x.from x.to x.bytes ∷ []) same;
  }
]
told_by h (line.Event e) all n m found =
    told_longer h (line.Event e) m (told_was h all m (event_was (sent_in h) e n m found))
told_by h (line.Delivered k d) all n m found =
    told_longer h (line.Delivered k d) m
    (told_was h all m (arrived_was (sent_in h) k (slice_get (sent_in h) k) n m refl found))
told_by h l all n m found = told_longer h l m (all n m found)

told_more : (h lines : List Line) → AllTold h → AllTold (h ++ lines)
told_more h [] all = subst AllTold (sym (append-nil h)) all
told_more h (l ∷ lines) all =
    subst AllTold (append_assoc h (l ∷ []) lines)
    (told_more (h ++ l ∷ []) lines
    (λ n m found. told_by h l all n m (ap (λ (ss : List Sent). slice_get ss n) (sym (sent_behind h l)) ∙ found)))

none_told : AllTold []
unfolding sent_in
none_told n m found = absurd (cc found)

all_told : (h : List Line) → AllTold h
all_told h = told_more [] h none_told

-- ---- the first such line

-- the line of these bytes of the server to the client
abbrev told_line : (number client : ℕ) → (bytes : List ℕ) → Line
told_line number c bytes = line.Message number party.Server (party.Client c) bytes

record IsFirst (before after : List Line) (c : ℕ) (bytes : List ℕ) : Type 0 where
  front : List Line
  number : ℕ
  middle : List Line
  place : before ≡ front ++ told_line number c bytes ∷ middle
  step : BehindStep (λ lines upto. SpellsLive (AreShort upto) (server_after upto) c bytes) front
      (told_line number c bytes) (middle ++ after)

module _ (h : List Line) (live : AnswersAreLive h) (c : ℕ) (bytes : List ℕ) where
  none_before : WasTold [] c bytes → ⊥
  unfolding sent_in
  none_before t = cc t.there

  first_line : (n : ℕ) (before after : List Line) → length before ≤ n → h ≡ before ++ after → WasTold before c bytes
      → IsFirst before after c bytes
  first_line n [] after short is t = absurd (none_before t)
  first_line zero (x ∷ before) after short is t = absurd (omega (arith, short))
  first_line (suc n) (x ∷ xs) after short is t =
      let before : List Line = x ∷ xs in
      let r = all_told before t.number t.message t.there in
      let l : Line = told_line r.number c bytes in
      let place : before ≡ r.front ++ l ∷ r.middle =
      r.place
      ∙ ap (λ (p : Party). r.front ++ line.Message r.number p t.message.to t.message.bytes ∷ r.middle) t.sender
      ∙ ap (λ (p : Party). r.front ++ line.Message r.number party.Server p t.message.bytes ∷ r.middle) t.receiver
      ∙ ap (λ (bs : List ℕ). r.front ++ told_line r.number c bs ∷ r.middle) t.bytes_are in
      let split : h ≡ r.front ++ l ∷ (r.middle ++ after) =
      is ∙ ap (λ (ls : List Line). ls ++ after) place ∙ append_assoc r.front (l ∷ r.middle) after in
      let e : BehindStep (TellsLive l) r.front l (r.middle ++ after) = live r.front l (r.middle ++ after) split tt in
      let less : length r.front ≤ n =
      fewer before r.front r.middle l n (ap (λ (ls : List Line). length ls) place) short in
      elim e.holds [
        | inr spells ↦ record {
          front = r.front;
          number = r.number;
          middle = r.middle;
          place = place;
          step = record { rest = e.rest; more = e.more; cut = e.cut; of_step = e.of_step; ends = e.ends; holds = spells };
        }
        | inl earlier ↦
            let f = first_line n r.front (l ∷ (r.middle ++ after)) less split earlier in
            record {
              front = f.front;
              number = f.number;
              middle = f.middle ++ l ∷ r.middle;
              place =
                  place ∙ ap (λ (ls : List Line). ls ++ l ∷ r.middle) f.place
                  ∙ append_assoc f.front (told_line f.number c bytes ∷ f.middle) (l ∷ r.middle);
              step =
                  subst
                  (BehindStep (λ lines upto. SpellsLive (AreShort upto) (server_after upto) c bytes) f.front
                  (told_line f.number c bytes)) (sym (append_assoc f.middle (l ∷ r.middle) after)) f.step;
            }
      ]
    where
      fewer : (before front middle : List Line) (l : Line) (k : ℕ)
          → length before ≡ length (front ++ l ∷ middle) → length before ≤ suc k → length front ≤ k
      fewer before front middle l k same bound = omega (arith, same, bound, length-append front (l ∷ middle))

-- ---- what was given

live_given : (book : Server) (n c : ℕ) (r : Results) (given : LayoutGetOk) → layouts_in r ≡ Some given
    → GivesLive book n c r → IsLive book n c given
live_given book n c (results.LayoutGet (get.Granted ok)) given e k =
    let same : ok ≡ given = cc e in subst (IsLive book n c) same k
live_given book n c (results.LayoutGet (get.TryLater signal)) given e k = absurd (cc e)
live_given book n c (results.LayoutGet (get.Refused status)) given e k = absurd (cc e)
live_given book n c (results.LayoutCommit r) given e k = absurd (cc e)
live_given book n c (results.LayoutReturn r) given e k = absurd (cc e)

-- what is read in such an answer is a live grant
read_live : (Short : Type 0) → Short → (book : Server) (ss : List Sent) (client : ℕ) (o : ObjectCred)
    (g : WasGiven ss client o) → SpellsLive Short book client g.message.bytes
    → IsLive book g.lists.answer.file client g.lists.given
read_live Short short book ss client o g s =
    let l = g.lists in
    let again : envelope_of g.message.bytes ≡ Ok s.message =
    ap envelope_of s.bytes_are ∙ all_again s.message (s.fits short) in
    let same : s.message ≡ envelope.Answer l.answer =
    same_ok s.message (envelope.Answer l.answer) (envelope_of g.message.bytes) again l.read in
    let it : LiveIn book client (envelope.Answer l.answer) = subst (LiveIn book client) same s.live in
    subst (λ (c : ℕ). IsLive book l.answer.file c l.given) it.0
    (live_given book l.answer.file l.answer.client l.answer.results l.given l.gives it.1)

pub each_given_was_live : EachAnswerIsLive → EachGivenWasLive
each_given_was_live answers w h s text few before after is client o g =
    let bytes : List ℕ = g.message.bytes in
    let f = first_line h (answers w h s (text_written h text)) client bytes (length before) before after (omega arith) is
    (record {
      number = g.number;
      message = g.message;
      there = g.there;
      sender = g.sender;
      receiver = g.receiver;
      bytes_are = refl;
    }) in
    let l : Line = told_line f.number client bytes in
    let upto : List Line = f.front ++ l ∷ f.step.rest in
    let split : h ≡ upto ++ f.step.more =
    is ∙ ap (λ (ls : List Line). ls ++ after) f.place ∙ append_assoc f.front (l ∷ f.middle) after
    ∙ ap (λ (ls : List Line). f.front ++ l ∷ ls) f.step.cut
    ∙ sym (append_assoc f.front (l ∷ f.step.rest) f.step.more) in
    let short : AreShort upto = shorter upto f.step.more (subst AreShort split (record { text = text; few = few })) in
    let live : IsLive (server_after upto) g.lists.answer.file client g.lists.given =
    read_live (AreShort upto) short (server_after upto) (sent_in before) client o g f.step.holds in
    record {
      front = f.front;
      number = f.number;
      middle = f.middle;
      place = f.place;
      step = record {
        rest = f.step.rest;
        more = f.step.more;
        cut = f.step.cut;
        of_step = f.step.of_step;
        ends = f.step.ends;
        holds = live;
      };
      capability = λ c read.
          let x = capability_read bytes g.component o g.lists (server_after upto).drives live.file.kept live.grant live.is
          (f.step.holds.grants short g.lists.answer.file live.file live.grant live.found live.live) c read in
          record { at = x.at; found = x.found; present = x.present; is = x.is };
    }
