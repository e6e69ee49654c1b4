-- Delivery of an operand, and what follows at the end of a block.
use Rattle.std.specs.Prelude.{ℕ, ◌+◌, ◌-◌, ◌*◌, ◌%◌, Bool, cond, ◌==◌}
use Rattle.registers.specs.Config.{chain_of, is_misplaced, next_mar, next_dar}
use Rattle.registers.specs.Control.{is_continuing, uncontinued}
use Rattle.registers.specs.Status.{completed, ended, block_done}
use Rattle.registers.specs.declared.fault.Fault.TheVariants.{MemoryAddress, MemoryCount, BaseCount}
use Rattle.registers.specs.declared.groups.Config.{Config}
use Rattle.registers.specs.declared.groups.Counters.{Counters}
use Rattle.registers.specs.declared.groups.Table.{Table}
use Rattle.registers.specs.declared.groups.Chain.{Chain}
use Rattle.registers.specs.declared.groups.Chain.TheVariants.{Plain, Array, Linked}
use Rattle.channel.specs.State.{Channel, Idle, Fetching, Words, NoWord, OneWord, TwoWords, ThreeWords, FourWords, with_counters, with_table, with_status, with_control, with_phase, channel_failed}

-- The counter falls by one, and the addresses move on.
abbrev pub counters_moved : Config → Counters → Counters
counters_moved k n = record { mtc = n.mtc - 1; mar = next_mar k n.mar; dar = next_dar k n.dar; mfc = n.mfc }

-- The operation is complete.
abbrev pub channel_completed : Channel → Channel
channel_completed c = with_phase Idle (with_status (completed c.registers.status) c)

-- The device has ended the operation: COC and NDT are set, ACT and CNT cleared.
abbrev pub channel_ended : Channel → Channel
channel_ended c = with_phase Idle (with_control (uncontinued c.registers.control) (with_status (ended c.registers.status) c))

-- Continue mode: MAR, MFC and MTC are loaded from BAR, BFC and BTC, CNT is cleared and the block bit set.
abbrev pub base_loaded : Channel → Channel
base_loaded c =
    with_control (uncontinued c.registers.control)
    (with_status (block_done c.registers.status)
    (with_counters (record { mtc = c.registers.table.btc; mar = c.registers.table.bar; dar = c.registers.counters.dar; mfc = c.registers.table.bfc }) c))

-- A base count of 0 loads nothing and is error 15; an odd address is error 5 after the load.
abbrev pub block_continued : Channel → Channel
block_continued c =
    cond (c.registers.table.btc == 0) (channel_failed BaseCount c)
    (cond (is_misplaced c.registers.config c.registers.table.bar) (channel_failed MemoryAddress (base_loaded c)) (base_loaded c))

-- A chain goes on while something is left of it, unless the device ended it; else the operation is complete.
abbrev pub chain_continued : ℕ → Bool → Channel → Channel
chain_continued left done c =
    cond (left == 0) (channel_completed c)
    (cond done (channel_ended c) (with_phase (Fetching NoWord) c))

-- At counter 0: an unchained operation goes on if CNT stands, an array while BTC is not 0, a linked chain while BAR is
-- not 0.
abbrev pub block_ended : Chain → Bool → Channel → Channel
block_ended Plain done c = cond (is_continuing c.registers.control) (block_continued c) (channel_completed c)
block_ended Array done c = chain_continued c.registers.table.btc done c
block_ended Linked done c = chain_continued c.registers.table.bar done c

-- After a delivery: the end of the block, or the end that the device signalled, or the next operand.
abbrev pub operand_settled : Bool → Channel → Channel
operand_settled done c =
    cond (c.registers.counters.mtc == 0) (block_ended (chain_of c.registers.config) done c)
    (cond done (channel_ended c) c)

-- The step of an operand's last destination cycle delivers it.
abbrev pub operand_delivered : Bool → Channel → Channel
operand_delivered done c =
    operand_settled done (with_phase Idle (with_counters (counters_moved c.registers.config c.registers.counters) c))

-- The table registers after an entry: an array's BAR gains 6 and its BTC falls by one, a linked BAR takes the link.
abbrev pub table_moved : Chain → ℕ → Table → Table
table_moved Plain link t = t
table_moved Array link t = record { btc = t.btc - 1; bar = (t.bar + 6) % 4294967296; bfc = t.bfc }
table_moved Linked link t = record { btc = t.btc; bar = link; bfc = t.bfc }

abbrev pub entry_set : ℕ → ℕ → ℕ → Channel → Channel
entry_set mar mtc link c =
    with_phase Idle
    (with_table (table_moved (chain_of c.registers.config) link c.registers.table)
    (with_counters (record { mtc = mtc; mar = mar; dar = c.registers.counters.dar; mfc = c.registers.counters.mfc }) c))

-- An entry is loaded whole, after its last word; then an odd address is error 5, else a count of 0 is error 13.
abbrev pub entry_loaded : ℕ → ℕ → ℕ → Channel → Channel
entry_loaded mar mtc link c =
    cond (is_misplaced c.registers.config mar) (channel_failed MemoryAddress (entry_set mar mtc link c))
    (cond (mtc == 0) (channel_failed MemoryCount (entry_set mar mtc link c)) (entry_set mar mtc link c))

abbrev pub long_of : ℕ → ℕ → ℕ
long_of high low = high * 65536 + low

-- One word more of an entry. (No entry has more than five words, so a sixth is never read.)
abbrev pub words_more : ℕ → Words → Words
words_more w NoWord = OneWord w
words_more w (OneWord a) = TwoWords a w
words_more w (TwoWords a b) = ThreeWords a b w
words_more w (ThreeWords a b x) = FourWords a b x w
words_more w (FourWords a b x y) = FourWords a b x y

-- An array entry is address high, address low, count; a linked one adds link high and link low.
abbrev pub array_word : ℕ → Words → Channel → Channel
array_word w NoWord c = with_phase (Fetching (words_more w NoWord)) c
array_word w (OneWord a) c = with_phase (Fetching (words_more w (OneWord a))) c
array_word w (TwoWords a b) c = entry_loaded (long_of a b) w 0 c
array_word w (ThreeWords a b x) c = with_phase (Fetching (words_more w (ThreeWords a b x))) c
array_word w (FourWords a b x y) c = with_phase (Fetching (words_more w (FourWords a b x y))) c

abbrev pub linked_word : ℕ → Words → Channel → Channel
linked_word w NoWord c = with_phase (Fetching (words_more w NoWord)) c
linked_word w (OneWord a) c = with_phase (Fetching (words_more w (OneWord a))) c
linked_word w (TwoWords a b) c = with_phase (Fetching (words_more w (TwoWords a b))) c
linked_word w (ThreeWords a b x) c = with_phase (Fetching (words_more w (ThreeWords a b x))) c
linked_word w (FourWords a b x y) c = entry_loaded (long_of a b) x (long_of y w) c

abbrev pub word_taken : Chain → ℕ → Words → Channel → Channel
word_taken Plain w ws c = with_phase (Fetching (words_more w ws)) c
word_taken Array w ws c = array_word w ws c
word_taken Linked w ws c = linked_word w ws c

-- A word of an entry was read: the last one loads the entry, any other is held.
abbrev pub entry_word_taken : ℕ → Words → Channel → Channel
entry_word_taken w ws c = word_taken (chain_of c.registers.config) w ws c

-- How many words of an entry were read.
abbrev pub words_read : Words → ℕ
words_read NoWord = 0
words_read (OneWord a) = 1
words_read (TwoWords a b) = 2
words_read (ThreeWords a b x) = 3
words_read (FourWords a b x y) = 4
