-- What is known of links and their connections.
use Rattle.std.specs.Prelude.{◌≡◌, ℕ, ◌-◌, ◌<◌, ◌≤◌, Bool, List, [], ◌∷◌, ◌++◌, length, take, drop, slice_get, slice_set, unwrap_or, option_map, Option, None, Some, Result, Ok, Err}
use Rattle.osd_lists.specs.declared.node.Node.{Node}
use Rattle.osd_bytes.specs.declared.source.Fault.{Fault}
use Rattle.osd_bytes.specs.declared.links.Peer.{Peer}

-- where links listen and whom they know, whether there is an accepted connection, and which node the asking one asks
pub record Standing : Type 0 where
  pub listen : List ℕ
  pub peers : List Peer
  pub accepted : Bool
  pub asked : Option Node

-- the node that is asked after a connect
abbrev pub connected_to : Node → Result (Unit {0}) Fault → Option Node
connected_to to (Ok x) = Some to
connected_to to (Err e) = None

-- the bytes that are still to come on a connection, and those that went out on it
pub record Talk : Type 0 where
  pub left : List ℕ
  pub put : List ℕ

-- what comes on the connections that are still to be accepted, the accepted ones, what comes on those still to be
-- asked for, the asking ones, whom these asked, and the notes that were told beside them; the oldest first
pub record Traffic : Type 0 where
  pub to_accept : List (List ℕ)
  pub accepted : List Talk
  pub to_ask : List (List ℕ)
  pub asked : List Talk
  pub nodes : List Node
  pub notes : List (List ℕ)

-- past the end of a list a connection gives no bytes
abbrev pub next_stream : List (List ℕ) → List ℕ
next_stream streams = unwrap_or (slice_get streams 0) []

abbrev pub begin : List ℕ → Talk
begin stream = record { left = stream; put = [] }

abbrev pub newest : List Talk → Talk
newest talks = unwrap_or (slice_get talks (length talks - 1)) (begin [])

abbrev pub with_newest : List Talk → Talk → List Talk
with_newest talks talk = slice_set talks (length talks - 1) talk

-- ---- what each call does to the connections that are told

abbrev pub with_accepted : Traffic → Traffic
with_accepted a = record a {
  to_accept = drop 1 a.to_accept;
  accepted = a.accepted ++ begin (next_stream a.to_accept) ∷ [];
}

-- a connect, whether it fails or not, is the one for which the next stream was meant
abbrev pub without_stream : Traffic → Traffic
without_stream a = record a { to_ask = drop 1 a.to_ask }

abbrev pub with_asked : Node → Talk → Traffic → Traffic
with_asked to talk a = record a { to_ask = drop 1 a.to_ask; asked = a.asked ++ talk ∷ []; nodes = a.nodes ++ to ∷ [] }

abbrev pub Accepts : Option Traffic → Option Traffic → Result (Unit {0}) Fault → Type 0
Accepts None new result = new ≡ None
Accepts (Some a) new (Ok x) = new ≡ Some (with_accepted a)
Accepts (Some a) new (Err e) = new ≡ Some a

abbrev pub Connects : Node → Option Traffic → Option Traffic → Result (Unit {0}) Fault → Type 0
Connects to None new result = new ≡ None
Connects to (Some a) new (Ok x) = new ≡ Some (with_asked to (begin (next_stream a.to_ask)) a)
Connects to (Some a) new (Err e) = new ≡ Some (without_stream a)

-- the first n bytes of the buffer are the next that come, and none only at their end or where there is no room
abbrev pub Comes : Talk → ℕ → List ℕ → Type 0
Comes talk n buf = (n ≤ length talk.left) × (take n buf ≡ take n talk.left) × (n ≡ 0 → 0 < length buf → talk.left ≡ [])

abbrev pub after_taking : ℕ → List Talk → List Talk
after_taking n talks = with_newest talks (record (newest talks) { left = drop n (newest talks).left })

abbrev pub after_putting : List ℕ → List Talk → List Talk
after_putting bytes talks = with_newest talks (record (newest talks) { put = (newest talks).put ++ bytes })

abbrev pub Takes : Option Traffic → Option Traffic → Result ℕ Fault → List ℕ → Type 0
Takes None new result buf = new ≡ None
Takes (Some a) new (Ok n) buf = (0 < length a.accepted) × Comes (newest a.accepted) n buf ×
    (new ≡ Some (record a { accepted = after_taking n a.accepted }))
Takes (Some a) new (Err e) buf = new ≡ Some a

abbrev pub Puts : Option Traffic → Option Traffic → Result ℕ Fault → List ℕ → Type 0
Puts None new result bytes = new ≡ None
Puts (Some a) new (Ok n) bytes =
    (0 < length a.accepted) × (new ≡ Some (record a { accepted = after_putting (take n bytes) a.accepted }))
Puts (Some a) new (Err e) bytes = new ≡ Some a

abbrev pub Receives : Option Traffic → Option Traffic → Result ℕ Fault → List ℕ → Type 0
Receives None new result buf = new ≡ None
Receives (Some a) new (Ok n) buf =
    (0 < length a.asked) × Comes (newest a.asked) n buf × (new ≡ Some (record a { asked = after_taking n a.asked }))
Receives (Some a) new (Err e) buf = new ≡ Some a

abbrev pub Sends : Option Traffic → Option Traffic → Result ℕ Fault → List ℕ → Type 0
Sends None new result bytes = new ≡ None
Sends (Some a) new (Ok n) bytes =
    (0 < length a.asked) × (new ≡ Some (record a { asked = after_putting (take n bytes) a.asked }))
Sends (Some a) new (Err e) bytes = new ≡ Some a

-- ---- notes

-- so many more notes were told
abbrev pub with_notes : List (List ℕ) → Traffic → Traffic
with_notes lines a = record a { notes = a.notes ++ lines }

abbrev pub after_notes : List (List ℕ) → Option Traffic → Option Traffic
after_notes lines told = option_map (with_notes lines) told

-- ---- one end of a connection, where the links tell it

abbrev pub accepted_left : Option Traffic → Option (List ℕ)
accepted_left told = option_map (λ a. (newest a.accepted).left) told

abbrev pub accepted_put : Option Traffic → Option (List ℕ)
accepted_put told = option_map (λ a. (newest a.accepted).put) told

abbrev pub asked_left : Option Traffic → Option (List ℕ)
asked_left told = option_map (λ a. (newest a.asked).left) told

abbrev pub asked_put : Option Traffic → Option (List ℕ)
asked_put told = option_map (λ a. (newest a.asked).put) told
