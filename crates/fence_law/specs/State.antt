-- What there is in the machine of one striped file, and what can happen to it.
-- It is one flat record of functions. Numbers name what there is: c, d clients; k, f components; z, y cells of a
-- component; p, q positions of bytes; x a column; j, i entries of the log; i a part too.
-- A column is the bytes of one stripe at one offset, with their parity; in a file without parity each byte is a column
-- of its own.
use Rattle.std.specs.Prelude.{ℕ, Bool, List, Option}

-- a layout that the server granted to a client
pub record Grant : Type 0 where
  -- its number: it rises from grant to grant
  pub number : ℕ
  -- the file's capability tag when it was granted
  pub tag : ℕ
  -- whether it is for reading and writing
  pub rw : Bool
  -- the columns of its range
  pub covers : ℕ → Bool
  -- whether a write under it may extend the file
  pub extending : Bool
  -- the components that it leaves out, since they were missing
  pub left : ℕ → Bool

-- what a client asks of the server: a layout, for writing or not, or to take one back, cleanly or with a report of
-- errors
pub data RequestKind : Type 0 where
  Get : Bool → RequestKind
  Return : Bool → RequestKind

-- a request on the wire, with its number in the client's session slot
pub record Request : Type 0 where
  pub client : ℕ
  pub sequence : ℕ
  pub kind : RequestKind

-- the server's answer to it: a grant or none, and the file's size
pub record Answer : Type 0 where
  pub client : ℕ
  pub sequence : ℕ
  pub grant : Option Grant
  pub size : ℕ

-- a WRITE on the wire: who sends it, under which grant and tag, its nonce, the component, the log's entry, and which
-- part of what that entry writes there
pub record Write : Type 0 where
  pub holder : ℕ
  pub grant : ℕ
  pub tag : ℕ
  pub nonce : ℕ
  pub at : ℕ
  pub entry : ℕ
  pub part : ℕ

-- a drive's reply to a WRITE that it performed
pub record WriteReply : Type 0 where
  pub holder : ℕ
  pub nonce : ℕ
  pub at : ℕ

-- a drive's reply to a READ of the call with this entry: its cells as they are
pub record ReadReply : Type 0 where
  pub entry : ℕ
  pub at : ℕ
  pub cells : ℕ → ℕ

-- what a client is at: nothing, the write or read of an entry, or a write that broke off
pub data Call : Type 0 where
  Idle : Call
  Writes : ℕ → Call
  Reads : ℕ → Call
  Broken : Call

-- a LAYOUTCOMMIT for the write of an entry: none, asked, carried out, refused
pub data Commit : Type 0 where
  NoCommit : Commit
  CommitAsked : ℕ → Commit
  CommitDone : ℕ → Commit
  CommitRefused : ℕ → Commit

-- a part of a running write: not sent, sent with a nonce, or known to be performed
pub data PartState : Type 0 where
  NotSent : PartState
  Sent : ℕ → PartState
  Done : PartState

-- an entry of the log, as it is fixed at its start: a client's write or read, the read before a write that gathers what
-- parity needs, or a write of the server
pub record Start : Type 0 where
  pub client : ℕ
  -- the number and the tag of its grant
  pub grant : ℕ
  pub tag : ℕ
  -- whether its tag was the file's when it started; if not, no drive performs any of it
  pub alive : Bool
  pub is_write : Bool
  pub is_read : Bool
  -- a repair's or a rebuild's write
  pub server : Bool
  -- the bytes of a write
  pub data_at : ℕ → Option ℕ
  -- the columns that it writes, and those that it may read or write
  pub touch : ℕ → Bool
  pub reach : ℕ → Bool
  -- what it writes into a component's cell
  pub content : ℕ → ℕ → Option ℕ
  -- the number of the WRITE to a component that carries a cell
  pub part : ℕ → ℕ → ℕ
  -- the positions of which a read wants the bytes
  pub wanted : ℕ → Bool
  -- the end of a write, and the file's size as the client knew it, which clips a read
  pub end_ : ℕ
  pub clip : ℕ
  -- the range that a read asks
  pub from_ : ℕ
  pub to_ : ℕ
  -- the components that its layout left out
  pub left : ℕ → Bool

-- where the bytes of a file lie
pub record Layout : Type 0 where
  -- how many components there are
  pub components : ℕ
  -- the tag with which the file is made
  pub first_tag : ℕ
  -- the position of a component: those of one position are replicas of each other
  pub position : ℕ → ℕ
  -- the column of a byte, and whether a column has parity
  pub col : ℕ → ℕ
  pub coded : ℕ → Bool
  -- whether a component has this cell, and the cell's column
  pub is_cell : ℕ → ℕ → Bool
  pub cell_col : ℕ → ℕ → ℕ
  -- whether the cell is a replica of the byte at a position
  pub copy : ℕ → ℕ → ℕ → Bool
  -- what the cell should hold for these bytes of the file: a byte, or parity
  pub word : ℕ → ℕ → (ℕ → ℕ) → ℕ

-- all that there is at a moment
pub record State : Type 0 where
  pub layout : Layout
  -- the objects: the capability tag that each wants, the last nonce that it performed of a client, its bytes
  pub object_tag : ℕ → ℕ
  pub last_nonce : ℕ → ℕ → ℕ
  pub cell : ℕ → ℕ → ℕ
  -- a component that failed, or is missing from the layout
  pub lost : ℕ → Bool
  -- one that was lost when the last fence or repair ended (a fence that ran again in the repair leaves this), or was
  -- missing when a grant was issued since, or was reported as lost: no claim is made of its cells
  pub gone : ℕ → Bool
  -- one that is missing though its drive lives
  pub dropped : ℕ → Bool
  -- one that later layouts leave out
  pub missing : ℕ → Bool
  -- the server: whether a fence runs, or the repair after it
  pub fencing : Bool
  pub repairing : Bool
  -- the tag of the grants whose writes the repair settles
  pub ended_tag : ℕ
  -- the entry before which a column was last repaired
  pub repaired_at : ℕ → ℕ
  -- the file's capability tag
  pub tag : ℕ
  -- a client's grant that is live, or that the running fence ends
  pub outstanding : ℕ → Option Grant
  -- the least number that the next grant may have
  pub next : ℕ
  -- whether a grant was issued since the last fence
  pub granted_since : Bool
  -- a client's session slot: the last number carried out, and the answer that is kept for it
  pub slot : ℕ → ℕ
  pub kept_grant : ℕ → Option Grant
  pub kept_size : ℕ → ℕ
  -- the file's size
  pub size : ℕ
  -- the clients: the number of a client's last request
  pub sequence : ℕ → ℕ
  -- whether it waits for an answer of this file, or for one of another file or to a commit
  pub waiting : ℕ → Bool
  pub away : ℕ → Bool
  -- what it asked last
  pub asked : ℕ → RequestKind
  -- the grant that it holds, its last nonce, the call that it is at
  pub held : ℕ → Option Grant
  pub nonce : ℕ → ℕ
  pub call : ℕ → Call
  -- the file's size as it knows it
  pub known_size : ℕ → ℕ
  -- its LAYOUTCOMMIT
  pub commit : ℕ → Commit
  -- by client, component and part: what it knows of that WRITE
  pub out : ℕ → ℕ → ℕ → PartState
  -- the network: all that was ever sent, newest first; it may come late, often or never
  pub requests : List Request
  pub answers : List Answer
  pub writes : List Write
  pub replies : List WriteReply
  pub shown : List ReadReply
  -- SET TAGs, each by the tag from which it lifts an object's to the next, and the objects' replies with the new tag
  pub set_tags : List ℕ
  pub tag_replies : List (ℕ × ℕ)
  -- the log: how many entries, and each as it started
  pub count : ℕ
  pub start : ℕ → Start
  -- by entry, component and cell: whether that was performed
  pub applied : ℕ → ℕ → ℕ → Bool
  -- by entry and position: whether the write's byte counts, old or new once for all
  pub chosen : ℕ → ℕ → Bool
  -- whether its commit was carried out
  pub committed : ℕ → Bool
  -- whether it was acknowledged, or its report taken as a loss, and whether its client was told so
  pub acknowledged : ℕ → Bool
  pub told_client : ℕ → Bool
  -- a read's answer
  pub answer : ℕ → Option (ℕ → ℕ)

-- what can happen
pub data Event : Type 0 where
  -- a client asks for a layout; the server grants it under a number, or refuses a request; the client takes the answer
  Asks : (c : ℕ) (rw : Bool) → Event
  Grants : (c number : ℕ) (rw : Bool) (range : ℕ → Bool) (extending : Bool) → Event
  Refuses : (c : ℕ) (kind : RequestKind) → Event
  Takes : (c : ℕ) (o : Option Grant) (s0 : ℕ) → Event
  -- a commit, or a request of another file, is asked, carried out, answered
  AsksOther : (c : ℕ) → Event
  ServesOther : (c : ℕ) → Event
  TakesOther : (c : ℕ) → Event
  -- a client gives its layout back cleanly, or with a report after a write that broke off, or forgets it
  GivesBack : (c : ℕ) (g : Grant) → Event
  Reports : (c : ℕ) (g : Grant) → Event
  Forgets : (c : ℕ) → Event
  -- the server carries out a clean return
  Frees : (c : ℕ) → Event
  -- the server begins a fence; an object sets its tag; all objects that aren't lost have, and the fence is over
  Fences : Event
  SetsTag : (k : ℕ) → Event
  Fenced : Event
  -- a fence is over that ran again, since the server had stopped before the repair after the first was over
  Refenced : Event
  -- a client starts a write: under grant g, after gather i, of bytes d that end at e1; the cells that are hit, what was
  -- seen where d has nothing, the part of each cell
  StartsWrite : (c : ℕ) (g : Grant) (i : ℕ) (d : ℕ → Option ℕ) (touch : ℕ → Bool) (hit : ℕ → ℕ → Bool) (seen : ℕ → ℕ)
      (e1 : ℕ) (part : ℕ → ℕ → ℕ) → Event
  -- it sends part i to component k under nonce v; the drive performs it; the client learns that
  Sends : (c k : ℕ) (g : Grant) (j i v : ℕ) → Event
  Performs : (m : Write) → Event
  Learns : (c k j v i : ℕ) → Event
  -- a write is acknowledged, or breaks off
  Acknowledges : (c j : ℕ) → Event
  Breaks : (c j : ℕ) → Event
  -- a client starts a read of lo to hi, or a gather; a drive shows its cells; the read is answered, or ends without an
  -- answer
  StartsRead : (c : ℕ) (g : Grant) (lo hi : ℕ) (reach : ℕ → Bool) → Event
  Shows : (j k : ℕ) → Event
  Answers : (c j : ℕ) (f : ℕ → ℕ) → Event
  EndsRead : (c j : ℕ) → Event
  -- a component fails
  Fails : (k : ℕ) → Event
  -- a component whose drive lives is dropped, as for want of space; a lost one is declared missing
  Drops : (k : ℕ) → Event
  Declares : (k : ℕ) → Event
  -- the server takes a client's report as a loss: each named component is lost, the write is acknowledged, the client
  -- leaves its grant; later it is told, and late WRITEs are performed on what is lost
  Loses : (c k : ℕ) → Event
  Leaves : (c : ℕ) (g : Grant) → Event
  Tells : (j : ℕ) → Event
  PerformsLost : (m : Write) → Event
  -- a commit is asked, carried out or refused, and its answer taken
  AsksCommit : (c j : ℕ) → Event
  Commits : (c j : ℕ) (g : Grant) → Event
  RefusesCommit : (c j : ℕ) → Event
  TakesCommit : (c j : ℕ) → Event
  TakesRefusal : (c j : ℕ) → Event
  -- a repair's WRITE of these cells is performed, words of bytes e; the repair ends, with the columns that are done
  Repairs : (k : ℕ) (cells : ℕ → Bool) (e : ℕ → ℕ) → Event
  Repaired : (done : ℕ → Bool) (e : ℕ → ℕ) → Event
  -- a lost component is made anew, with these cells
  Rebuilds : (k : ℕ) (cells : ℕ → ℕ) → Event
