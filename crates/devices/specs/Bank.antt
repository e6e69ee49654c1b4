-- What a device bank means.
use Rattle.std.specs.Prelude.{ℕ, ◌-◌, Bool, cond, ◌&&◌, List, [], ◌++◌, length, drop, Some, None, Option, ◌==◌, nat_le, nat_lt, slice_index}

-- For each channel: the bytes that wait to be read, the bytes kept, and the number of free places.
pub record BankMeaning : Type 0 where
  pub waiting : ℕ → List ℕ
  pub kept : ℕ → List ℕ
  pub free : ℕ → ℕ

-- Something for each channel, with that of channel c replaced.
abbrev pub with_at : {X : Type 0} → ℕ → X → (ℕ → X) → ℕ → X
with_at c x all d = cond (d == c) x (all d)

-- A bank is ready to give n bytes exactly when at least n wait, and to take n exactly when n places are free.
abbrev pub can_give : ℕ → ℕ → BankMeaning → Bool
can_give c n b = nat_le n (length (b.waiting c))

abbrev pub can_take : ℕ → ℕ → BankMeaning → Bool
can_take c n b = nat_le n (b.free c)

-- Giving drops the first n waiting bytes of a channel, and leaves all else.
abbrev pub given : ℕ → ℕ → BankMeaning → BankMeaning
given c n b = record { waiting = with_at c (drop n (b.waiting c)) b.waiting; kept = b.kept; free = b.free }

-- Taking adds bytes to the end of a channel's kept list, uses a place for each, and leaves all else.
abbrev pub taken : ℕ → List ℕ → BankMeaning → BankMeaning
taken c bytes b = record {
  waiting = b.waiting;
  kept = with_at c (b.kept c ++ bytes) b.kept;
  free = with_at c (b.free c - length bytes) b.free;
}

-- A move while the bank is not ready changes nothing.
abbrev pub give_tried : ℕ → ℕ → BankMeaning → BankMeaning
give_tried c n b = cond (can_give c n b) (given c n b) b

abbrev pub take_tried : ℕ → List ℕ → BankMeaning → BankMeaning
take_tried c bytes b = cond (can_take c (length bytes) b) (taken c bytes b) b

-- What giving hands over, if the bank is ready: the byte that waits first, or the first two, in their order.
abbrev pub byte_handed : ℕ → BankMeaning → Option ℕ
byte_handed c b = cond (can_give c 1 b) (Some (slice_index (b.waiting c) 0)) None

abbrev pub word_handed : ℕ → BankMeaning → Option (ℕ × ℕ)
word_handed c b = cond (can_give c 2 b) (Some (slice_index (b.waiting c) 0, slice_index (b.waiting c) 1)) None

-- A bank in which nothing waits and no place is free.
abbrev pub nothing : BankMeaning
nothing = record { waiting = λ c. []; kept = λ c. []; free = λ c. 0 }

-- A device serves one channel; there are only the channels 0 to 3.
abbrev pub is_served : ℕ → ℕ → Bool
is_served k c = c == k && nat_lt c 4

-- A tape on channel k, with the bytes that it has still to give.
abbrev pub tape : ℕ → List ℕ → BankMeaning
tape k bytes = record { waiting = λ c. cond (is_served k c) bytes []; kept = λ c. []; free = λ c. 0 }

-- A printer on channel k, with the bytes that it keeps and the number of places left.
abbrev pub printer : ℕ → List ℕ → ℕ → BankMeaning
printer k bytes places = record {
  waiting = λ c. [];
  kept = λ c. cond (is_served k c) bytes [];
  free = λ c. cond (is_served k c) places 0;
}

-- A bank of two: channels below k from the first, the others from the second.
abbrev pub pair : ℕ → BankMeaning → BankMeaning → BankMeaning
pair k first second = record {
  waiting = λ c. cond (nat_lt c k) (first.waiting c) (second.waiting c);
  kept = λ c. cond (nat_lt c k) (first.kept c) (second.kept c);
  free = λ c. cond (nat_lt c k) (first.free c) (second.free c);
}
