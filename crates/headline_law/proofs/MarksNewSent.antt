-- Which messages a move sends: those that no client sends, or all are of one client, which was handed something.
-- Towards `NoneNew` (`proofs/MarksNew.antt`).
use Rattle.std.proofs.Common.{◌≡◌, ◌≤◌, ◌+◌, ◌++◌, ℕ, zero, suc, Bool, List, [], ◌∷◌, length, map, filter, slice_get, Some, refl, sym, ap, subst, ◌∙◌, arith, inl, inr}
use Rattle.osd_lists.specs.declared.node.Node.TheVariants as node
use Rattle.osd_commands.specs.declared.commands.Command.{Command}
use Rattle.server_rules.specs.Laws.{In}
use Rattle.server_rules.specs.History as server
use Rattle.client_rules.specs.History as client
use Rattle.world_history.specs.declared.messages.Message.{Message}
use Rattle.world_history.specs.declared.messages.Posted.{Posted}
use Rattle.world_history.specs.Handed.{Post, client_posts, server_post, is_addressed, wrote_in, data_in, op_in}
use Rattle.world_history.specs.ClientNames.{Outgoing}
use Rattle.world_history.specs.State.{World, ClientAt, at_number}
use Rattle.world_history.specs.Moves.{Act, Action, acts}
use Rattle.world_history.specs.Sending.{Move, move, fresh}
use Rattle.history_law.specs.Moves.{MoveCases, IsForClient}
use Rattle.history_law.proofs.Moves.{each_act, said_length}
use Rattle.history_law.proofs.Goes.{moves_are_steps}
use Rattle.history_law.specs.Said.{posted}
use Rattle.exchange_law.specs.InStep.{state_of}
use Rattle.exchange_law.proofs.Each.{put_same}
use Rattle.exchange_law.proofs.Replied.{from_server}
use Rattle.server_rules.proofs.Members.{in_filtered}
use Rattle.file_simulation.specs.Relation.{client_of}
use Rattle.file_simulation.specs.Tied.{WasPosted}
use Rattle.headline_law.proofs.MarksWrites.{IsNew}

-- ---- the place of a message among those that a move sends

-- message n is one of these
pub record IsPostAt (w : World) (a : Act) (n : ℕ) (b : Message) : Type 0 where
  pub place : ℕ
  pub number : n ≡ length w.network.messages + place
  pub post : Post
  pub there : slice_get a.posts place ≡ Some post
  pub message : b ≡ post.message

in_posts : (ps : List Post) (n : ℕ) (p : Post) → slice_get ps n ≡ Some p → In p ps
in_posts [] n p there = absurd (cc there)
in_posts (q ∷ ps) zero p there = inl (let same : q ≡ p = cc there in sym same)
in_posts (q ∷ ps) (suc n) p there = inr (in_posts ps n p there)

behind_all : (xs ys : List Posted) (n : ℕ) (p : Posted) → length xs ≤ n → slice_get (xs ++ ys) n ≡ Some p →
    (k : ℕ) × (n ≡ length xs + k) × (slice_get ys k ≡ Some p)
behind_all [] ys n p past there = (n, omega arith, there)
behind_all (x ∷ xs) ys zero p past there = absurd (omega (arith, past))
behind_all (x ∷ xs) ys (suc n) p past there =
    let r = behind_all xs ys n p (let l : suc (length xs) ≤ suc n = past in omega (arith, l)) there in
    (r.0, (let e : n ≡ length xs + r.0 = r.1 in omega (arith, e)), r.2)

freshly : (ps : List Post) (k : ℕ) (p : Posted) → slice_get (map fresh ps) k ≡ Some p →
    (q : Post) × (slice_get ps k ≡ Some q) × (p.message ≡ q.message)
freshly [] k p there = absurd (cc there)
freshly (q ∷ ps) zero p there =
    (q, refl, (let same : fresh q ≡ p = cc there in ap (λ (y : Posted). y.message) (sym same)))
freshly (q ∷ ps) (suc k) p there = freshly ps k p there

module _ (w : World) (m : Move) where
  abbrev a : Act
  a = acts w m.chosen m.action

  pub count_is : length (acts w m.chosen m.action).world.network.messages ≡ length w.network.messages
  count_is =
      said_length (acts w m.chosen m.action).world.network.messages w.network.messages
      (moves_are_steps w m.chosen m.action).said

  -- a message that the move sends
  pub post_at : (n c d : ℕ) (x : Command) → IsNew w n → (p : WasPosted (move w m).world n c d x) →
      IsPostAt w (acts w m.chosen m.action) n p.posted.message
  post_at n c d x new p =
      let r = behind_all a.world.network.messages (map fresh a.posts) n p.posted
      (subst (λ (l : ℕ). l ≤ n) (sym count_is) new) p.there in
      let q = freshly a.posts r.0 p.posted r.2 in
      record {
        place = r.0;
        number = r.1 ∙ ap (λ (l : ℕ). l + r.0) count_is;
        post = q.0;
        there = q.1;
        message = q.2;
      }

  pub post_in : (n : ℕ) (b : Message) → (p : IsPostAt w (acts w m.chosen m.action) n b) →
      In p.post (acts w m.chosen m.action).posts
  post_in n b p = in_posts (acts w m.chosen m.action).posts p.place p.post p.there

-- ---- of whom they are

-- all are of client c, which is handed this
pub record AreOfClient (w : World) (action : Action) (c : ℕ) (a : Act) : Type 0 where
  pub at : ClientAt
  pub found : at_number w.clients c ≡ Some at
  pub input : client.Input
  pub asked : IsForClient w action c at input
  pub behind : client_of a.world c ≡ (client.step at.state input).client
  pub posts : a.posts
      ≡ filter is_addressed
      (client_posts c (wrote_in at input) (data_in (op_in at.state input)) (client.step at.state input).sends)

not_server : (c : ℕ) → node.Client c ≡ node.Server → ⊥
not_server c e = cc e

not_drive : (c d : ℕ) → node.Client c ≡ node.Drive d → ⊥
not_drive c d e = cc e

pub posts_from : (n : ℕ) (wrote : Bool) (logged : ℕ) (os : List Outgoing) (p : Post) → In p (client_posts n wrote logged os) →
    p.message.from ≡ node.Client n
posts_from n wrote logged [] p i = absurd i
posts_from n wrote logged (o ∷ os) p (inl e) = ap (λ (q : Post). q.message.from) e
posts_from n wrote logged (o ∷ os) p (inr i) = posts_from n _ logged os p i

in_said : (ps : List Post) (p : Post) → In p ps → In p.message (posted ps)
in_said [] p i = absurd i
in_said (q ∷ ps) p (inl e) = inl (ap (λ (y : Post). y.message) e)
in_said (q ∷ ps) p (inr i) = inr (in_said ps p i)

module _ (w : World) (chosen : List ℕ) (action : Action) where
  Posts : Act → Type 0
  Posts a = (p : Post) (c : ℕ) → In p a.posts → p.message.from ≡ node.Client c → AreOfClient w action c a

  cases : MoveCases w chosen action Posts
  unfolding Posts
  cases = record {
    rests = λ ms same told quiet p c i. absurd i;
    refused = λ n a there op is e why p c i. absurd i;
    clock = λ time p c i. absurd i;
    serves = λ ms same i is p c n e.
        absurd
        (not_server c
        (sym e
        ∙ from_server p.message (server.step w.server chosen i).sends
        (in_said (filter is_addressed (map server_post (server.step w.server chosen i).sends)) p n)));
    goes = λ ms same n a there i is p c j e. goes n a there i is p c j e _ refl
        (ap (state_of n) (put_same w.clients n a _ there));
    comes = λ n is p c i. absurd i;
    stops = λ n a there p c i. absurd i;
    judged = λ ms same k a there hears m number p c i e. elim i [
      | inl is ↦ absurd (not_drive c k (sym e ∙ ap (λ (y : Post). y.message.from) is))
      | inr none ↦ absurd none
    ];
    injected = λ k bytes is a there p c i. absurd i;
    turns = λ k a b there turns p c i. absurd i;
    known = λ k key capacity stored is knows p c i. absurd i;
    adds = λ k key capacity stored is knows p c i. absurd i;
  }
    where
      goes : (n : ℕ) (a : ClientAt) → at_number w.clients n ≡ Some a → (i : client.Input) →
          IsForClient w action n a i → (p : Post) (c : ℕ) →
          In p (filter is_addressed
          (client_posts n (wrote_in a i) (data_in (op_in a.state i)) (client.step a.state i).sends)) →
          p.message.from ≡ node.Client c → (v : Act) → v.posts ≡ filter is_addressed
          (client_posts n (wrote_in a i) (data_in (op_in a.state i)) (client.step a.state i).sends) →
          client_of v.world n ≡ (client.step a.state i).client → AreOfClient w action c v
      goes n a there i is p c j e v ps now =
          let from : p.message.from ≡ node.Client n =
          posts_from n (wrote_in a i) (data_in (op_in a.state i)) (client.step a.state i).sends p
          (in_filtered is_addressed p
          (client_posts n (wrote_in a i) (data_in (op_in a.state i)) (client.step a.state i).sends) j).0 in
          let both : node.Client n ≡ node.Client c = sym from ∙ e in
          let same : n ≡ c = cc both in
          subst (λ (q : ℕ). AreOfClient w action q v) same (record {
            at = a;
            found = there;
            input = i;
            asked = is;
            behind = now;
            posts = ps;
          })

  pub posts_of : (p : Post) (c : ℕ) → In p (acts w chosen action).posts → p.message.from ≡ node.Client c →
      AreOfClient w action c (acts w chosen action)
  unfolding Posts
  posts_of = each_act w chosen Posts action cases
