-- What a queue holds.
use Rattle.std.specs.Prelude.{ℕ, ◌+◌, ◌-◌, cond, List, ◌++◌, length, take, drop, Option, nat_lt}
use Rattle.std.specs.List.{slice_get}
use Rattle.queue.specs.declared.ring.Queue.{Queue}
use Rattle.queue.specs.declared.iter.Iter.{Iter}

-- The slots in their order from the slot `head` on: after the last slot comes the first.
abbrev pub from_head : {T : Type 0} → ℕ → List T → List T
from_head head slots = drop head slots ++ take head slots

-- What a queue holds, the oldest first.
abbrev pub held : {T : Type 0} → Queue T → List T
held q = take q.len (from_head q.head q.slots.now)

-- How many elements a queue can hold.
abbrev pub capacity_of : {T : Type 0} → Queue T → ℕ
capacity_of q = length q.slots.now

-- The element at a place of a list, of which the first is at 0; none past the last.
abbrev pub item_at : {T : Type 0} → List T → ℕ → Option T
item_at items index = slice_get items index

-- The slot that is `offset` places after the slot `head`, of so many slots.
abbrev pub slot_of : ℕ → ℕ → ℕ → ℕ
slot_of head offset slots = cond (nat_lt offset (slots - head)) (head + offset) (offset - (slots - head))

-- The elements that an iterator over a queue has still to give.
abbrev pub left : {T : Type 0} → Iter T → List T
left i = i.first.now ++ i.rest.now
