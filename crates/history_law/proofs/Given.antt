-- What is read of an answer that the server spelled: the layout that it gives is the one of a grant of the client.
use Rattle.std.proofs.Common.{◌≡◌, Bool, ℕ, eqb, List, [], ◌∷◌, ◌++◌, length, Some, Result, Ok, sym, ap, subst, ◌∙◌, arith, inl, inr}
use Rattle.std.specs.List.{flat_map}
use Rattle.std.proofs.lemmas.List.Concat.{flat_map-cons}
use Rattle.std.proofs.lemmas.List.{append-nil}
use Rattle.xdr_codec.specs.Items.{u32_item, opaque_item}
use Rattle.xdr_codec.specs.Reading.{Rest, ◌>>=◌, bool_in}
use Rattle.xdr_codec.proofs.ItemLaws.{bind_ok, ok_is, chosen}
use Rattle.layout_types.specs.Grammar.{lifted, list_item, bool_part}
use Rattle.layout_ops.specs.declared.err.OpErr.{OpErr}
use Rattle.layout_ops.specs.declared.operation.Operation.{Operation}
use Rattle.layout_ops.specs.declared.results.LayoutSegment.{LayoutSegment}
use Rattle.layout_ops.specs.declared.results.LayoutGetOk.{LayoutGetOk}
use Rattle.layout_ops.specs.declared.results.LayoutGetResult.{LayoutGetResult}
use Rattle.layout_ops.specs.declared.results.LayoutGetResult.TheVariants as get
use Rattle.layout_ops.specs.declared.results.Results.{Results}
use Rattle.layout_ops.specs.declared.results.Results.TheVariants as results
use Rattle.layout_ops.specs.declared.messages.Answer.{Answer}
use Rattle.layout_ops.specs.declared.envelope.Envelope.{Envelope}
use Rattle.layout_ops.specs.declared.envelope.Envelope.TheVariants as envelope
use Rattle.layout_ops.specs.Grammar.{bool_field, list_in, members}
use Rattle.layout_ops.specs.Spelling.{StateIdFits, segment_item, get_ok_item, get_result_item, results_item, operation_of_results, answer_item, envelope_item}
use Rattle.layout_ops.specs.Reading.{segment_in, get_ok_in, get_behind, get_result_in, commit_result_in, return_result_in, results_in, answer_in, request_in, recall_in, recall_answer_in, order_in, order_answer_in, envelope_behind, envelope_in, envelope_of}
use Rattle.layout_ops.proofs.Fields.{u32_law, bool_law, count_law, operation_law, layout_type_law, stateid_law}
use Rattle.layout_ops.proofs.Steps.{named}
use Rattle.client_rules.specs.Results.{layouts_in}
use Rattle.history_law.proofs.Fronts.{codec_gets, next, number_needs}
use Rattle.history_law.proofs.Parts.{field_32, field_64, body_gets, carried_ok, lifted_ok, message_ends}

-- ---- a layout that is given

-- the body of its segment is read again, with nothing behind it
segment_read : (s : LayoutSegment) (i : Rest) (x : LayoutSegment × Rest) → i.left ≡ segment_item s ++ []
    → segment_in i ≡ Ok x → x.1.left ≡ [] → x.0.body ≡ s.body
unfolding segment_in
segment_read s i x at e ends =
    next _ i _ _ x (field_64 s.offset) (at ∙ append-nil (segment_item s)) e (λ a i1 af a1 r1.
    next _ i1 _ _ x (field_64 s.length) a1 r1 (λ b i2 bf a2 r2.
    next _ i2 _ _ x (field_32 s.iomode) a2 r2 (λ c i3 cf a3 r3.
    next _ i3 _ _ x (codec_gets layout_type_law tt tt) a3 r3 (λ d i4 df a4 r4.
    let last = bind_ok _ _ x r4 in
    let same = ok_is _ x last.2 in
    ap (λ (p : LayoutSegment × Rest). p.0.body) (sym same)
    ∙ body_gets s.body i4 [] last.0 (a4 ∙ sym (append-nil (opaque_item s.body))) last.1
    (ap (λ (p : LayoutSegment × Rest). p.1.left) same ∙ ends)))))

-- the only one of them
abbrev GivesBody : List ℕ → List LayoutSegment → Type 0
GivesBody body ss = (t : LayoutSegment) → ss ≡ t ∷ [] → t.body ≡ body

one_read : (s : LayoutSegment) (i : Rest) (x : List LayoutSegment × Rest) → i.left ≡ segment_item s ++ []
    → members segment_in 1 i ≡ Ok x → x.1.left ≡ [] → GivesBody s.body x.0
unfolding members
one_read s i x at e ends t one =
    let first = bind_ok _ _ x e in
    let same = ok_is _ x first.2 in
    let it : first.0.0 ≡ t = cc (ap (λ (p : List LayoutSegment × Rest). p.0) same ∙ one) in
    ap (λ (y : LayoutSegment). y.body) (sym it)
    ∙ segment_read s i first.0 at first.1 (ap (λ (p : List LayoutSegment × Rest). p.1.left) same ∙ ends)

get_ok_read : (ok : LayoutGetOk) (s : LayoutSegment) (i : Rest) (x : LayoutGetOk × Rest) → ok.layouts ≡ s ∷ []
    → StateIdFits ok.stateid → i.left ≡ get_ok_item ok → get_ok_in i ≡ Ok x → x.1.left ≡ []
    → GivesBody s.body x.0.layouts
unfolding get_ok_in list_in list_item
get_ok_read ok s i x one fits at e ends =
    next _ i _ _ x (codec_gets bool_law ok.return_on_close tt) at e (λ a i1 af a1 r1.
    next _ i1 _ _ x (codec_gets stateid_law ok.stateid fits) a1 r1 (λ b i2 bf a2 r2.
    let list = bind_ok _ _ x r2 in
    let same = ok_is _ x list.2 in
    let spelled : i2.left ≡ u32_item 1 ++ (segment_item s ++ []) =
    a2 ∙ ap (λ (ss : List LayoutSegment). u32_item (length ss) ++ flat_map segment_item ss) one
    ∙ ap (λ (t : List ℕ). u32_item 1 ++ t) (flat_map-cons segment_item s []) in
    let ended : list.0.1.left ≡ [] = ap (λ (p : LayoutGetOk × Rest). p.1.left) same ∙ ends in
    subst (GivesBody s.body) (ap (λ (p : LayoutGetOk × Rest). p.0.layouts) same)
    (next _ i2 _ _ list.0 (codec_gets count_law 1 (omega arith)) spelled list.1 (λ n i3 is a3 r3.
    one_read s i3 list.0 a3 (subst (λ (k : ℕ). members segment_in k i3 ≡ Ok list.0) is r3) ended))))

-- ---- a result

-- where a layout is read, it is from one that was given
abbrev GivenIn : Results → (given : LayoutGetOk) → Type 0
GivenIn (results.LayoutGet (get.Granted ok)) given =
    (s : LayoutSegment) → ok.layouts ≡ s ∷ [] → StateIdFits ok.stateid → GivesBody s.body given.layouts
GivenIn r given = ⊥

-- nothing is read in no bytes
pub bool_needs : (i : Rest) (x : Bool × Rest) → bool_in i ≡ Ok x → i.left ≡ [] → ⊥
unfolding bool_in
bool_needs i x e none = let b = bind_ok _ _ x e in number_needs i b.0 b.1 none

pub none_left : (i : Rest) (x : LayoutGetOk × Rest) → get_ok_in i ≡ Ok x → i.left ≡ [] → ⊥
unfolding get_ok_in bool_field bool_part
none_left i x e none =
    let b = bind_ok _ _ x e in
    bool_needs i b.0 (lifted_ok (bool_in i) b.0 (carried_ok (lifted (bool_in i)) b.0 b.1)) none

get_read : (r : LayoutGetResult) (i : Rest) (x : LayoutGetResult × Rest) (given : LayoutGetOk)
    → i.left ≡ get_result_item r → get_result_in i ≡ Ok x → x.1.left ≡ []
    → layouts_in (results.LayoutGet x.0) ≡ Some given → GivenIn (results.LayoutGet r) given
unfolding get_result_in
get_read (get.Granted ok) i x given at e ends gives = λ s one fits.
    next _ i _ _ x (codec_gets u32_law 0 (omega arith)) at e (λ n i1 is a1 r1.
    let read = bind_ok _ _ x (subst (λ (k : ℕ). get_behind (k, i1) ≡ Ok x) is r1) in
    let same = ok_is _ x read.2 in
    let it : Some read.0.0 ≡ Some given =
    ap (λ (p : LayoutGetResult × Rest). layouts_in (results.LayoutGet p.0)) same ∙ gives in
    let given_is : read.0.0 ≡ given = cc it in
    subst (λ (y : LayoutGetOk). GivesBody s.body y.layouts) given_is
    (get_ok_read ok s i1 read.0 one fits a1 read.1 (ap (λ (p : LayoutGetResult × Rest). p.1.left) same ∙ ends)))
get_read (get.TryLater signal) i x given at e ends gives =
    next _ i _ _ x (codec_gets u32_law 10058 (omega arith)) at e (λ n i1 is a1 r1.
    let read = bind_ok (bool_field i1) (named get.TryLater) x
    (subst (λ (k : ℕ). get_behind (k, i1) ≡ Ok x) is r1) in
    let same : (get.TryLater read.0.0, read.0.1) ≡ x = ok_is (get.TryLater read.0.0, read.0.1) x read.2 in
    absurd (cc (ap (λ (p : LayoutGetResult × Rest). layouts_in (results.LayoutGet p.0)) same ∙ gives)))
get_read (get.Refused status) i x given at e ends gives =
    next _ i [] _ x (field_32 status) (at ∙ sym (append-nil (u32_item status))) e (λ n i1 is a1 r1.
    elim (chosen (eqb n 0) _ _ _ r1) [
      | inl p ↦ let read = bind_ok _ _ x p.1 in absurd (none_left i1 read.0 read.1 a1)
      | inr p ↦ elim (chosen (eqb n 10058) _ _ _ p.1) [
        | inl q ↦
            let read = bind_ok (bool_field i1) (named get.TryLater) x q.1 in
            let same : (get.TryLater read.0.0, read.0.1) ≡ x = ok_is (get.TryLater read.0.0, read.0.1) x read.2 in
            absurd (cc (ap (λ (p : LayoutGetResult × Rest). layouts_in (results.LayoutGet p.0)) same ∙ gives))
        | inr q ↦
            let same : (get.Refused n, i1) ≡ x = ok_is (get.Refused n, i1) x q.1 in
            absurd (cc (ap (λ (p : LayoutGetResult × Rest). layouts_in (results.LayoutGet p.0)) same ∙ gives))
      ]
    ])

results_read : (r : Results) (i : Rest) (x : Results × Rest) (given : LayoutGetOk) → i.left ≡ results_item r
    → results_in (operation_of_results r) i ≡ Ok x → x.1.left ≡ [] → layouts_in x.0 ≡ Some given → GivenIn r given
results_read (results.LayoutGet r) i x given at e ends gives =
    let read = bind_ok _ _ x e in
    let same = ok_is _ x read.2 in
    get_read r i read.0 given at read.1 (ap (λ (p : Results × Rest). p.1.left) same ∙ ends)
    (ap (λ (p : Results × Rest). layouts_in p.0) same ∙ gives)
results_read (results.LayoutCommit r) i x given at e ends gives =
    let read = bind_ok (commit_result_in i) (named results.LayoutCommit) x e in
    let same : (results.LayoutCommit read.0.0, read.0.1) ≡ x =
    ok_is (results.LayoutCommit read.0.0, read.0.1) x read.2 in
    absurd (cc (ap (λ (p : Results × Rest). layouts_in p.0) same ∙ gives))
results_read (results.LayoutReturn r) i x given at e ends gives =
    let read = bind_ok (return_result_in i) (named results.LayoutReturn) x e in
    let same : (results.LayoutReturn read.0.0, read.0.1) ≡ x =
    ok_is (results.LayoutReturn read.0.0, read.0.1) x read.2 in
    absurd (cc (ap (λ (p : Results × Rest). layouts_in p.0) same ∙ gives))

-- ---- an answer

answer_read : (a : Answer) (i : Rest) (x : Answer × Rest) (given : LayoutGetOk) → i.left ≡ answer_item a
    → answer_in i ≡ Ok x → x.1.left ≡ [] → layouts_in x.0.results ≡ Some given → GivenIn a.results given
unfolding answer_in
answer_read a i x given at e ends gives =
    next _ i _ _ x (field_32 a.client) at e (λ n1 i1 f1 a1 r1.
    next _ i1 _ _ x (field_32 a.sequence) a1 r1 (λ n2 i2 f2 a2 r2.
    next _ i2 _ _ x (field_32 a.file) a2 r2 (λ n3 i3 f3 a3 r3.
    next _ i3 _ _ x (codec_gets operation_law (operation_of_results a.results) tt) a3 r3 (λ n4 i4 op a4 r4.
    next _ i4 _ _ x (field_32 a.detail) a4 r4 (λ n5 i5 f5 a5 r5.
    next _ i5 _ _ x (field_64 a.size) a5 r5 (λ n6 i6 f6 a6 r6.
    let last = bind_ok _ _ x r6 in
    let same = ok_is _ x last.2 in
    results_read a.results i6 last.0 given a6 (subst (λ (o : Operation). results_in o i6 ≡ Ok last.0) op last.1)
    (ap (λ (p : Answer × Rest). p.1.left) same ∙ ends)
    (ap (λ (p : Answer × Rest). layouts_in p.0.results) same ∙ gives)))))))

-- ---- a message

-- what a message gives where it is an answer
abbrev pub GivenBy : Envelope → (given : LayoutGetOk) → Type 0
GivenBy (envelope.Answer a) given = GivenIn a.results given
GivenBy e given = ⊥

-- no other message is read as an answer
pub other_kind : {V : Type 0} (read : Rest → Result (V × Rest) OpErr) (name : V → Envelope) (i : Rest) (a : Answer)
    (j : Rest) → ((v : V) → name v ≡ envelope.Answer a → ⊥)
    → (read i >>= named name) ≡ Ok (envelope.Answer a, j) → ⊥
other_kind read name i a j not e =
    let b = bind_ok (read i) (named name) (envelope.Answer a, j) e in
    not b.0.0 (ap (λ (p : Envelope × Rest). p.0) (ok_is _ (envelope.Answer a, j) b.2))

kind_read : (m : Envelope) (i : Rest) (a : Answer) (j : Rest) (given : LayoutGetOk) → i.left ≡ envelope_item m
    → envelope_in i ≡ Ok (envelope.Answer a, j) → j.left ≡ [] → layouts_in a.results ≡ Some given → GivenBy m given
unfolding envelope_in
kind_read (envelope.Answer v) i a j given at e ends gives =
    next _ i _ _ (envelope.Answer a, j) (codec_gets u32_law 2 (omega arith)) at e (λ n i1 is a1 r1.
    let read = bind_ok _ _ (envelope.Answer a, j)
    (subst (λ (k : ℕ). envelope_behind i.at (k, i1) ≡ Ok (envelope.Answer a, j)) is r1) in
    let same = ok_is _ (envelope.Answer a, j) read.2 in
    let answer : read.0.0 ≡ a = cc (ap (λ (p : Envelope × Rest). p.0) same) in
    answer_read v i1 read.0 given a1 read.1 (ap (λ (p : Envelope × Rest). p.1.left) same ∙ ends)
    (ap (λ (y : Answer). layouts_in y.results) answer ∙ gives))
kind_read (envelope.Request v) i a j given at e ends gives =
    next _ i _ _ (envelope.Answer a, j) (codec_gets u32_law 1 (omega arith)) at e (λ n i1 is a1 r1.
    other_kind request_in envelope.Request i1 a j (λ w f. absurd (cc f))
    (subst (λ (k : ℕ). envelope_behind i.at (k, i1) ≡ Ok (envelope.Answer a, j)) is r1))
kind_read (envelope.Recall v) i a j given at e ends gives =
    next _ i _ _ (envelope.Answer a, j) (codec_gets u32_law 3 (omega arith)) at e (λ n i1 is a1 r1.
    other_kind recall_in envelope.Recall i1 a j (λ w f. absurd (cc f))
    (subst (λ (k : ℕ). envelope_behind i.at (k, i1) ≡ Ok (envelope.Answer a, j)) is r1))
kind_read (envelope.RecallAnswer v) i a j given at e ends gives =
    next _ i _ _ (envelope.Answer a, j) (codec_gets u32_law 4 (omega arith)) at e (λ n i1 is a1 r1.
    other_kind recall_answer_in envelope.RecallAnswer i1 a j (λ w f. absurd (cc f))
    (subst (λ (k : ℕ). envelope_behind i.at (k, i1) ≡ Ok (envelope.Answer a, j)) is r1))
kind_read (envelope.Order v) i a j given at e ends gives =
    next _ i _ _ (envelope.Answer a, j) (codec_gets u32_law 5 (omega arith)) at e (λ n i1 is a1 r1.
    other_kind order_in envelope.Order i1 a j (λ w f. absurd (cc f))
    (subst (λ (k : ℕ). envelope_behind i.at (k, i1) ≡ Ok (envelope.Answer a, j)) is r1))
kind_read (envelope.OrderAnswer v) i a j given at e ends gives =
    next _ i _ _ (envelope.Answer a, j) (codec_gets u32_law 6 (omega arith)) at e (λ n i1 is a1 r1.
    other_kind order_answer_in envelope.OrderAnswer i1 a j (λ w f. absurd (cc f))
    (subst (λ (k : ℕ). envelope_behind i.at (k, i1) ≡ Ok (envelope.Answer a, j)) is r1))

-- so it is of all the bytes of a message
pub given_read : (m : Envelope) (bytes : List ℕ) (a : Answer) (given : LayoutGetOk) → bytes ≡ envelope_item m
    → envelope_of bytes ≡ Ok (envelope.Answer a) → layouts_in a.results ≡ Some given → GivenBy m given
unfolding envelope_of
given_read m bytes a given is e gives =
    let ends = message_ends envelope_in bytes (envelope.Answer a) e in
    kind_read m (record { left = bytes; at = 0 }) a ends.rest given is ends.read ends.none gives
