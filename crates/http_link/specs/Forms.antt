-- What the link in memory tells, and what it answers.
use Rattle.std.specs.Prelude.{ℕ, ◌-◌, ◌==◌, ◌+◌, min, Bool, if◌then◌else◌, List, length, drop}
use Rattle.vec_base.specs.Forms.{is_listed, next_call}
use Rattle.vec_base.specs.declared.source.ReadOutcome.{ReadOutcome}
use Rattle.vec_base.specs.declared.source.ReadOutcome.TheVariants as read
use Rattle.vec_base.specs.declared.sink.WriteOutcome.{WriteOutcome}
use Rattle.vec_base.specs.declared.sink.WriteOutcome.TheVariants as write
use Rattle.http_link.specs.declared.link.Next.{Next}
use Rattle.http_link.specs.declared.link.Next.TheVariants as next
use Rattle.http_link.specs.declared.memory.MemoryLink.{MemoryLink}
use Rattle.http_link.specs.Links.{Told}

-- whether a connection is there
abbrev pub link_here : MemoryLink → Bool
link_here link = link.here

-- the bytes left on the connection
abbrev pub link_left : MemoryLink → List ℕ
link_left link = drop link.at link.bytes

-- the connections to come
abbrev pub link_coming : MemoryLink → List (List ℕ)
link_coming link = link.coming.items

-- the bytes sent on each connection that came
abbrev pub link_sent : MemoryLink → List (List ℕ)
link_sent link = link.sent

-- for each connection that came, whether the count rose in a read or a write on it
abbrev pub link_risen : MemoryLink → List Bool
link_risen link = link.risen

abbrev pub told_of : MemoryLink → Told
told_of link = record { left = link_left link; coming = link_coming link; sent = link_sent link; risen = link_risen link }

-- how many calls failed
abbrev pub link_faults : MemoryLink → ℕ
link_faults link = link.faults.count

-- the most bytes that a read gives
abbrev pub link_piece : MemoryLink → ℕ
link_piece link = link.piece

-- how many bytes each connection takes in all
abbrev pub link_room : MemoryLink → ℕ
link_room link = link.room

-- how many bytes the present connection has taken
abbrev pub link_taken : MemoryLink → ℕ
link_taken link = link.taken

-- the numbers of the calls that are to fail
abbrev pub link_fails : MemoryLink → List ℕ
link_fails link = link.faults.fails

-- how many calls there were
abbrev pub link_calls : MemoryLink → ℕ
link_calls link = link.faults.calls

-- the next call is to fail
abbrev pub fails_next : MemoryLink → Bool
fails_next link = is_listed (link_fails link) (next_call (link_calls link))

-- What asking for the next connection answers. The listed calls fail. Another call gives the first of those to come, or the end.
abbrev pub next_of : MemoryLink → Next
next_of link =
    if fails_next link then next.Failed
    else if length (link_coming link) == 0 then next.End
    else next.Conn

-- What the next read answers, where there is so much room. The listed calls fail. Another read gives all that is left, up to
-- the piece and the room.
abbrev pub read_of : MemoryLink → ℕ → ReadOutcome
read_of link room =
    if fails_next link then read.Failed
    else if length (link_left link) == 0 then read.End
    else read.Took (min (min (length (link_left link)) (link_piece link)) room)

-- how many of so many bytes still fit on the present connection
abbrev pub fitting : MemoryLink → ℕ → ℕ
fitting link count = min count (link_room link - link_taken link)

-- What the next write of so many bytes answers. The listed calls fail, and those where no byte fits. Another write takes what
-- fits.
abbrev pub write_of : MemoryLink → ℕ → WriteOutcome
write_of link count =
    if fails_next link then write.Failed
    else if fitting link count == 0 then write.Failed
    else write.Took (fitting link count)

-- how many bytes the present connection has taken after a write
abbrev pub taken_more : WriteOutcome → ℕ → ℕ
taken_more (write.Took n) taken = taken + n
taken_more write.Failed taken = taken
