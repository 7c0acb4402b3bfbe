-- What an exchange of a message for a record does.
use Rattle.std.specs.Prelude.{◌≡◌, ◌⊎◌, ℕ, List, [], ◌∷◌, ◌++◌, ⊤, Option, None, Some, Result, Ok, Err}
use Rattle.osd_bytes.specs.Causes.{Rose}
use Rattle.osd_bytes.specs.Connections.{Talk, Traffic, next_stream, with_asked, without_stream}
use Rattle.osd_bytes.specs.Counts.{Faults, NoFewer}
use Rattle.osd_bytes.specs.Records.{Begun, fresh, split, framed}
use Rattle.osd_lists.specs.declared.node.Node.{Node}
use Rattle.osd_bytes.specs.declared.exchanges.ExchangeErr.{ExchangeErr}
use Rattle.osd_bytes.specs.declared.exchanges.ExchangeErr.TheVariants.{LinkFault, Ended, TooLong, Memory}

abbrev pub first_or : List (List ℕ) → Option Begun → Result (List ℕ) ExchangeErr
first_or (r ∷ rs) begun = Ok r
first_or [] None = Err TooLong
first_or [] (Some b) = Err Ended

-- the first record of a stream, or why there is none
abbrev pub first_record : List ℕ → Result (List ℕ) ExchangeErr
first_record stream = first_or (split fresh stream).records (split fresh stream).begun

-- what an answer says of the stream that comes
abbrev pub IsFirst : List ℕ → Result (List ℕ) ExchangeErr → Type 0
IsFirst stream (Ok r) = first_record stream ≡ Ok r
IsFirst stream (Err Ended) = first_record stream ≡ Err Ended
IsFirst stream (Err TooLong) = first_record stream ≡ Err TooLong
IsFirst stream (Err LinkFault) = ⊤
IsFirst stream (Err Memory) = ⊤

-- one connection more asks a node: these bytes went out on it, and some of those that come were taken
pub record Asks (to : Node) (sent : List ℕ) (before : Traffic) (now : Option Traffic) : Type 0 where
  pub got : List ℕ
  pub left : List ℕ
  pub stream : next_stream before.to_ask ≡ got ++ left
  pub told : now ≡ Some (with_asked to (record { left = left; put = sent }) before)

-- the exchange was cut off: before it connected, by that, or on the connection
abbrev pub CutOff : Node → List ℕ → Traffic → Option Traffic → Type 0
CutOff to message a now =
    (now ≡ Some a) ⊎ (now ≡ Some (without_stream a)) ⊎
    ((sent more : List ℕ) × (framed message ≡ sent ++ more) × Asks to sent a now)

-- the frame of the message went out, and the answer is the first record that came, or why there is none
abbrev pub Exchanges : Node → List ℕ → Option Traffic → Option Traffic → Result (List ℕ) ExchangeErr → Type 0
Exchanges to message None now result = now ≡ None
Exchanges to message (Some a) now (Ok r) = Asks to (framed message) a now × (first_record (next_stream a.to_ask) ≡ Ok r)
Exchanges to message (Some a) now (Err Ended) =
    Asks to (framed message) a now × (first_record (next_stream a.to_ask) ≡ Err Ended)
Exchanges to message (Some a) now (Err TooLong) =
    Asks to (framed message) a now × (first_record (next_stream a.to_ask) ≡ Err TooLong)
Exchanges to message (Some a) now (Err LinkFault) = CutOff to message a now
Exchanges to message (Some a) now (Err Memory) = CutOff to message a now

-- a fault is told only where the count of asking that node rose; any other answer leaves all four counts
abbrev pub HasExchangeCause : (Faults → ℕ) → Faults → Faults → Result (List ℕ) ExchangeErr → Type 0
HasExchangeCause count before now (Err LinkFault) = NoFewer before now × Rose (count before) (count now)
HasExchangeCause count before now (Ok r) = now ≡ before
HasExchangeCause count before now (Err Ended) = now ≡ before
HasExchangeCause count before now (Err TooLong) = now ≡ before
HasExchangeCause count before now (Err Memory) = now ≡ before

-- ---- parts of an exchange, on the newest connection that asks

-- these bytes went out on it
pub record WasSent (before now : Option Traffic) (sent : List ℕ) : Type 0 where
  pub none : before ≡ None → now ≡ None
  pub some : (a : Traffic) (to : Node) (t : Talk) → before ≡ Some (with_asked to t a) →
      now ≡ Some (with_asked to (record t { put = t.put ++ sent }) a)

-- these bytes came of it
abbrev pub LeftOf : Traffic → Node → Talk → Option Traffic → List ℕ → Type 0
LeftOf a to t now got =
    (left : List ℕ) × (t.left ≡ got ++ left) × (now ≡ Some (with_asked to (record t { left = left }) a))

pub record WasReceived (before now : Option Traffic) (got : List ℕ) : Type 0 where
  pub none : before ≡ None → now ≡ None
  pub some : (a : Traffic) (to : Node) (t : Talk) → before ≡ Some (with_asked to t a) → LeftOf a to t now got

-- the first record came of it, or there is none
pub record ReceivesFirst (before now : Option Traffic) (result : Result (List ℕ) ExchangeErr) : Type 0 where
  pub none : before ≡ None → now ≡ None
  pub some : (a : Traffic) (to : Node) (t : Talk) → before ≡ Some (with_asked to t a) →
      ((got : List ℕ) × LeftOf a to t now got) × IsFirst t.left result
