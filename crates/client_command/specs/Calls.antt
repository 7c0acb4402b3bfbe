-- A call of a client over links, and the returns behind it.
use Rattle.std.specs.Prelude.{◌≡◌, ◌⊎◌, ⊤, List, Option, None, Ok, Err}
use Rattle.osd_bytes.specs.Connections.{Traffic}
use Rattle.osd_bytes.specs.Counts.{Faults}
use Rattle.client_rules.specs.declared.calls.CallOp.{CallOp}
use Rattle.client_rules.specs.declared.client.Client.{Client}
use Rattle.client_rules.specs.Messages.{Step}
use Rattle.client_rules.specs.Steps.{calls, leaves}
use Rattle.stripe_client.specs.declared.sending.CStep.{CStep}
use Rattle.stripe_client.specs.Sending.{IsStep, spelled}
use Rattle.client_command.specs.declared.exchanges.DealErr.{DealErr}
use Rattle.client_command.specs.declared.exchanges.DealErr.TheVariants.{LinkFault, Memory as NoMemory}
use Rattle.client_command.specs.declared.notices.Notice.{Notice}
use Rattle.client_command.specs.Exchanges.{CutsAll, Dealing, LosesAll, WorksAll, dealing, stepped}
use Rattle.client_command.specs.declared.calls.CallStop.{CallStop}
use Rattle.client_command.specs.declared.calls.CallStop.TheVariants.{Refused, Lost, Memory}

-- ---- a call that begins

-- it is taken, and that is told of its first step
abbrev pub Begins : CallOp → (old new : Client) → CStep → Type 0
Begins op old new told = (step : Step) × (calls old op ≡ Ok step) × IsStep step new told

-- it isn't taken, and changes nothing, or there is no memory
abbrev pub StopsBegin : CallOp → (old new : Client) → CallStop → Type 0
StopsBegin op old new (Refused why) = (calls old op ≡ Err why) × (new ≡ old)
StopsBegin op old new Lost = ⊥
StopsBegin op old new Memory = ⊤

-- ---- until it is over

abbrev pub stop_of_deal : DealErr → CallStop
stop_of_deal LinkFault = Lost
stop_of_deal NoMemory = Memory

-- the call is taken, and its messages and what they bring are sent until none waits
abbrev pub Deals : CallOp → (s over : Dealing) → Type 0
Deals op s over = (step : Step) × (calls s.client op ≡ Ok step) × WorksAll (stepped s step) over

-- the call isn't taken, and nothing happens; or it is, and the server's answer to one of its requests doesn't come; or there is
-- no memory, and nothing is sent, or what was sent is cut off
abbrev pub StopsDeal : CallOp → (s : Dealing) → Client → List Notice → Option Traffic → Faults → CallStop → Type 0
StopsDeal op s client notices told faults (Refused why) =
    (calls s.client op ≡ Err why) × (dealing client s.waiting notices told faults ≡ s)
StopsDeal op s client notices told faults Lost =
    (step : Step) × (calls s.client op ≡ Ok step) × LosesAll (stepped s step) client notices told faults
StopsDeal op s client notices told faults Memory =
    ((told ≡ s.told) × (faults ≡ s.faults))
    ⊎ ((step : Step) × (calls s.client op ≡ Ok step) × CutsAll (stepped s step) told faults)

-- ---- the returns behind it

-- every grant that is held is to be returned
abbrev pub leaving : Dealing → Dealing
leaving s = record s { client = (leaves s.client).client; waiting = spelled (leaves s.client).sends }

-- the server's answer to one of them doesn't come, or they are cut off
abbrev pub StopsReturn : (s : Dealing) → Client → List Notice → Option Traffic → Faults → CallStop → Type 0
StopsReturn s client notices told faults (Refused why) = ⊥
StopsReturn s client notices told faults Lost = LosesAll (leaving s) client notices told faults
StopsReturn s client notices told faults Memory = CutsAll (leaving s) told faults

-- ---- both

-- the call was carried out until it was over, and then every grant was returned
pub record Calls (op : CallOp) (s t : Dealing) : Type 0 where
  pub over : Dealing
  pub deals : Deals op s over
  pub idle : over.client.call ≡ None
  pub returns : WorksAll (leaving over) t

-- the server's answer to a return behind the call doesn't come
pub record LosesReturn (op : CallOp) (s : Dealing) (client : Client) (notices : List Notice) (told : Option Traffic)
    (faults : Faults) : Type 0 where
  pub over : Dealing
  pub deals : Deals op s over
  pub idle : over.client.call ≡ None
  pub lost : LosesAll (leaving over) client notices told faults

-- the returns behind the call are cut off
pub record CutsReturn (op : CallOp) (s : Dealing) (told : Option Traffic) (faults : Faults) : Type 0 where
  pub over : Dealing
  pub deals : Deals op s over
  pub cuts : CutsAll (leaving over) told faults

-- why not both were done
abbrev pub StopsCall : CallOp → (s : Dealing) → Client → List Notice → Option Traffic → Faults → CallStop → Type 0
StopsCall op s client notices told faults (Refused why) = StopsDeal op s client notices told faults (Refused why)
StopsCall op s client notices told faults Lost =
    StopsDeal op s client notices told faults Lost ⊎ LosesReturn op s client notices told faults
StopsCall op s client notices told faults Memory =
    StopsDeal op s client notices told faults Memory ⊎ CutsReturn op s told faults
