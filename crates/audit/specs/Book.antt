-- The plain book of one channel: what its operations named and what they delivered. It is fed each call, its reply and
-- the channel's registers before it, and sees nothing of the controller's inside.
use Rattle.std.specs.Prelude.{ℕ, zero, suc, ◌+◌, ◌-◌, ◌*◌, ◌/◌, ◌%◌, Bool, true, false, cond, ◌&&◌, List, [], ◌∷◌, ◌++◌, length, Some, None, Ok, Err, Option, Result, ◌==◌, slice_index}
use Rattle.refusal.specs.declared.kinds.Refusal.{Refusal}
use Rattle.registers.specs.Bits.{any}
use Rattle.registers.specs.Config.{is_single, is_inward, is_chained, chain_of, size_of, bytes_of}
use Rattle.registers.specs.Control.{is_continuing}
use Rattle.registers.specs.Status.{is_active}
use Rattle.registers.specs.declared.fault.Fault.{Fault}
use Rattle.registers.specs.declared.groups.Chain.{Chain}
use Rattle.registers.specs.declared.groups.Chain.TheVariants.{Plain, Array, Linked}
use Rattle.registers.specs.declared.groups.Config.{Config}
use Rattle.registers.specs.declared.groups.Registers.{Registers}
use Rattle.channel.specs.declared.decode.Access.{Access}
use Rattle.channel.specs.declared.decode.Access.TheVariants.{Nowhere, Barred, To, General}
use Rattle.channel.specs.declared.decode.Register.{Register}
use Rattle.channel.specs.declared.decode.Register.TheVariants.{Csr, Cer, Dcr, Ocr, Scr, Ccr, Mtc, Mar, Dar, Btc, Bar, Niv, Eiv, Mfc, Dfc, Bfc, Cpr}
use Rattle.channel.specs.Start.{start_fault}
use Rattle.cycle.specs.declared.record.Data.{Data}
use Rattle.cycle.specs.declared.record.Data.TheVariants.{Byte as ByteOf, Word as WordOf}
use Rattle.cycle.specs.declared.record.Kind.{Kind}
use Rattle.cycle.specs.declared.record.Kind.TheVariants.{Read, Write, Entry}
use Rattle.cycle.specs.declared.record.Record.{Record}
use Rattle.cycle.specs.declared.record.Record.TheVariants.{Cycle, Error}
use Rattle.dmac.specs.declared.answer.Answer.{Answer}
use Rattle.dmac.specs.declared.answer.Answer.TheVariants.{Reset, Idle, Halted, Retry, Waiting, Recorded}
use Rattle.dmac.specs.Access.{register_of, register_after}
use Rattle.audit.specs.Operand.{Place, in_memory, device_place, bare, Operand, paired, operands, dar_after}
use Rattle.audit.specs.Calls.{Call, ReadByte, ReadWord, WriteByte, WriteWord, SetLine, Step, Store, Run, Reply, Byte, Word, Done, Stepped, Ended}

-- What was gathered of the operand or entry that the channel is inside of: where the bytes came from and went to, the
-- bytes that its source gave and those that were written, the words of the entry, and the addresses of these.
pub record Gathered : Type 0 where
  pub froms : List Place
  pub tos : List Place
  pub gave : List ℕ
  pub wrote : List ℕ
  pub words : List ℕ
  pub words_at : List ℕ

abbrev pub nothing_gathered : Gathered
nothing_gathered = record { froms = []; tos = []; gave = []; wrote = []; words = []; words_at = [] }

-- A delivered operand with the bytes that its source gave and those that were written.
pub record Delivery : Type 0 where
  pub what : Operand
  pub gave : List ℕ
  pub wrote : List ℕ

-- The book:
--   counted    no write was made to the transfer counter since the latest start that passed its checks
--   start_dar  DAR at that start
--   entry_at   where the table entry lies that comes next or is being read, in all 32 bits
--   named, delivered  the two operand lists of that operation
--   ever       all operands that any operation ever named
--   log        all deliveries of every operation
pub record Book : Type 0 where
  pub counted : Bool
  pub start_dar : ℕ
  pub entry_at : ℕ
  pub named : List Operand
  pub delivered : List Operand
  pub gathered : Gathered
  pub ever : List Operand
  pub log : List Delivery

abbrev pub empty_book : Book
empty_book = record { counted = false; start_dar = 0; entry_at = 0; named = []; delivered = []; gathered = nothing_gathered; ever = []; log = [] }

abbrev pub with_gathered : Gathered → Book → Book
with_gathered g b = record {
  counted = b.counted;
  start_dar = b.start_dar;
  entry_at = b.entry_at;
  named = b.named;
  delivered = b.delivered;
  gathered = g;
  ever = b.ever;
  log = b.log;
}

-- A write was made to the transfer counter.
abbrev pub recounted : Book → Book
recounted b = record {
  counted = false;
  start_dar = b.start_dar;
  entry_at = b.entry_at;
  named = b.named;
  delivered = b.delivered;
  gathered = b.gathered;
  ever = b.ever;
  log = b.log;
}

-- A start that passes its checks begins an operation with both lists empty. Unchained, it names as many operands as the
-- counter shows, from MAR and DAR on; chained, none yet.
abbrev pub first_block : Bool → Registers → List Operand
first_block true r = []
first_block false r = operands r.config r.counters.mfc r.counters.mar r.counters.dar r.counters.mtc

abbrev pub begun : List Operand → Registers → Book → Book
begun block r b = record {
  counted = true;
  start_dar = r.counters.dar;
  entry_at = r.table.bar;
  named = block;
  delivered = [];
  gathered = nothing_gathered;
  ever = b.ever ++ block;
  log = b.log;
}

-- A start, by the error of its checks, if there is one.
abbrev pub start_noted : Option Fault → Registers → Book → Book
start_noted None r b = begun (first_block (is_chained r.config) r) r b
start_noted (Some f) r b = b

-- A write to the control register starts with STR (bit 7), unless SAB (bit 4) aborts.
abbrev pub control_noted : ℕ → Registers → Book → Book
control_noted v r b = cond (any 0x10 v) b (cond (any 0x80 v) (start_noted (start_fault (any 0x40 v) r) r b) b)

-- A register write: the control register may start the channel; a write to the transfer counter is made unless the
-- channel is active. No other matters.
abbrev pub register_noted : Register → ℕ → Registers → Book → Book
register_noted Ccr v r b = control_noted v r b
register_noted (Mtc k) v r b = cond (is_active r.status) b (recounted b)
register_noted Csr v r b = b
register_noted Cer v r b = b
register_noted Dcr v r b = b
register_noted Ocr v r b = b
register_noted Scr v r b = b
register_noted (Mar k) v r b = b
register_noted (Dar k) v r b = b
register_noted (Btc k) v r b = b
register_noted (Bar k) v r b = b
register_noted Niv v r b = b
register_noted Eiv v r b = b
register_noted Mfc v r b = b
register_noted Dfc v r b = b
register_noted Bfc v r b = b
register_noted Cpr v r b = b

abbrev pub half_noted : Access → ℕ → Registers → Book → Book
half_noted (To x) v r b = register_noted x v r b
half_noted Nowhere v r b = b
half_noted Barred v r b = b
half_noted General v r b = b

-- A block of n operands from an address, with a function code. Their DAR is the start's, moved on once for each operand
-- named before. After a load nothing stays gathered.
unfoldable pub block_named : ℕ → ℕ → ℕ → Registers → Book → Book
block_named code mar n r b =
    let block = operands r.config code mar (dar_after r.config b.start_dar (length b.named)) n in
    record {
      counted = b.counted;
      start_dar = b.start_dar;
      entry_at = b.entry_at;
      named = b.named ++ block;
      delivered = b.delivered;
      gathered = nothing_gathered;
      ever = b.ever ++ block;
      log = b.log;
    }

-- The bytes of a cycle, the high one first.
abbrev pub bytes_told : Data → List ℕ
bytes_told (ByteOf x) = x ∷ []
bytes_told (WordOf x y) = x ∷ y ∷ []

-- So many bytes from an address as sent, one after the other.
abbrev pub bytes_from : (ℕ → Place) → ℕ → ℕ → List Place
bytes_from at a zero = []
bytes_from at a (suc n) = at a ∷ bytes_from at (a + 1) n

-- Where the n bytes of a cycle came from: a single-addressing cycle reads memory, or the device if the operation goes
-- inward; a read of dual addressing reads the memory side, or the device side inward. Other cycles read nothing.
abbrev pub places_read : Bool → Bool → Config → Kind → ℕ → ℕ → ℕ → List Place
places_read true true k kind code a n = bare n
places_read true false k kind code a n = bytes_from (in_memory code) a n
places_read false true k Read code a n = bytes_from (device_place k code) a n
places_read false false k Read code a n = bytes_from (in_memory code) a n
places_read false inward k Write code a n = []
places_read false inward k Entry code a n = []

-- And where they went.
abbrev pub places_written : Bool → Bool → Config → Kind → ℕ → ℕ → ℕ → List Place
places_written true true k kind code a n = bytes_from (in_memory code) a n
places_written true false k kind code a n = bare n
places_written false true k Write code a n = bytes_from (in_memory code) a n
places_written false false k Write code a n = bytes_from (device_place k code) a n
places_written false inward k Read code a n = []
places_written false inward k Entry code a n = []

-- Which of a cycle's bytes a source gave, and which were written to a destination: under single addressing, both.
abbrev pub bytes_given : Bool → Kind → List ℕ → List ℕ
bytes_given true kind vs = vs
bytes_given false Read vs = vs
bytes_given false Write vs = []
bytes_given false Entry vs = []

abbrev pub bytes_put : Bool → Kind → List ℕ → List ℕ
bytes_put true kind vs = vs
bytes_put false Write vs = vs
bytes_put false Read vs = []
bytes_put false Entry vs = []

-- A cycle of an operand is gathered.
unfoldable pub gathered_more : Kind → ℕ → ℕ → List ℕ → Config → Gathered → Gathered
gathered_more kind code a vs k g = record {
  froms = g.froms ++ places_read (is_single k) (is_inward k) k kind code a (length vs);
  tos = g.tos ++ places_written (is_single k) (is_inward k) k kind code a (length vs);
  gave = g.gave ++ bytes_given (is_single k) kind vs;
  wrote = g.wrote ++ bytes_put (is_single k) kind vs;
  words = g.words;
  words_at = g.words_at;
}

-- The operand gathered, at the address registers that the channel shows.
abbrev pub operand_gathered : Registers → Gathered → Operand
operand_gathered r g = record { mar = r.counters.mar; dar = r.counters.dar; moves = paired g.froms g.tos }

-- A delivery adds the operand gathered; then nothing stays gathered.
unfoldable pub operand_added : Registers → Book → Book
operand_added r b = record {
  counted = b.counted;
  start_dar = b.start_dar;
  entry_at = b.entry_at;
  named = b.named;
  delivered = b.delivered ++ operand_gathered r b.gathered ∷ [];
  gathered = nothing_gathered;
  ever = b.ever;
  log = b.log ++ record { what = operand_gathered r b.gathered; gave = b.gathered.gave; wrote = b.gathered.wrote } ∷ [];
}

-- At the last operand of an unchained block with CNT set, the next block is that of the base registers.
abbrev pub block_continued : ℕ → Chain → Bool → Registers → Book → Book
block_continued (suc n) chain continuing r b = b
block_continued zero Plain true r b = block_named r.table.bfc r.table.bar r.table.btc r b
block_continued zero Plain false r b = b
block_continued zero Array continuing r b = b
block_continued zero Linked continuing r b = b

-- A cycle that completes the operand's bytes at the destination delivers it.
abbrev pub delivery_noted : Bool → Registers → Book → Book
delivery_noted false r b = b
delivery_noted true r b =
    block_continued (r.counters.mtc - 1) (chain_of r.config) (is_continuing r.control) r (operand_added r b)

abbrev pub operand_noted : Registers → Book → Book
operand_noted r b = delivery_noted (length b.gathered.tos == bytes_of (size_of r.config)) r b

abbrev pub move_noted : Kind → ℕ → ℕ → List ℕ → Registers → Book → Book
move_noted kind code a vs r b = operand_noted r (with_gathered (gathered_more kind code a vs r.config b.gathered) b)

-- An array entry is three words: address high, address low, count. A linked entry has two more, the link.
abbrev pub words_of_entry : Chain → ℕ
words_of_entry Plain = 0
words_of_entry Array = 3
words_of_entry Linked = 5

abbrev pub entry_address : List ℕ → ℕ
entry_address ws = slice_index ws 0 * 65536 + slice_index ws 1

abbrev pub entry_count : List ℕ → ℕ
entry_count ws = slice_index ws 2

-- The entry after it: the next three words of an array; where the link points in a linked chain.
abbrev pub next_entry : Chain → List ℕ → ℕ → ℕ
next_entry Plain ws a = a
next_entry Array ws a = (a + 6) % 4294967296
next_entry Linked ws a = slice_index ws 3 * 65536 + slice_index ws 4

abbrev pub with_entry : ℕ → Book → Book
with_entry a b = record {
  counted = b.counted;
  start_dar = b.start_dar;
  entry_at = a;
  named = b.named;
  delivered = b.delivered;
  gathered = b.gathered;
  ever = b.ever;
  log = b.log;
}

-- The last word of an entry names its block; any other is gathered.
abbrev pub words_gathered : List ℕ → ℕ → Gathered → Gathered
words_gathered ws a g = record {
  froms = g.froms;
  tos = g.tos;
  gave = g.gave;
  wrote = g.wrote;
  words = ws;
  words_at = g.words_at ++ a ∷ [];
}

abbrev pub entry_noted : Bool → Chain → List ℕ → ℕ → Registers → Book → Book
entry_noted true chain ws a r b =
    block_named r.counters.mfc (entry_address ws) (entry_count ws) r (with_entry (next_entry chain ws b.entry_at) b)
entry_noted false chain ws a r b = with_gathered (words_gathered ws a b.gathered) b

abbrev pub word_told : List ℕ → ℕ
word_told vs = slice_index vs 0 * 256 + slice_index vs 1

abbrev pub word_noted : ℕ → List ℕ → Registers → Book → Book
word_noted a vs r b =
    let ws = b.gathered.words ++ word_told vs ∷ [] in
    entry_noted (length ws == words_of_entry (chain_of r.config)) (chain_of r.config) ws a r b

-- A cycle of the channel.
abbrev pub cycle_noted : Kind → ℕ → ℕ → List ℕ → Registers → Book → Book
cycle_noted Read code a vs r b = move_noted Read code a vs r b
cycle_noted Write code a vs r b = move_noted Write code a vs r b
cycle_noted Entry code a vs r b = word_noted a vs r b

-- What a step tells of channel n: only a cycle of that channel matters.
abbrev pub record_noted : Record → ℕ → Registers → Book → Book
record_noted (Cycle d kind code a v) n r b = cond (d == n) (cycle_noted kind code a (bytes_told v) r b) b
record_noted (Error d f) n r b = b

abbrev pub answer_noted : Answer → ℕ → Registers → Book → Book
answer_noted (Recorded x) n r b = record_noted x n r b
answer_noted Reset n r b = b
answer_noted Idle n r b = b
answer_noted Halted n r b = b
answer_noted Retry n r b = b
answer_noted Waiting n r b = b

abbrev pub step_noted : Result Reply Refusal → ℕ → Registers → Book → Book
step_noted (Ok (Stepped x)) n r b = answer_noted x n r b
step_noted (Ok (Byte v)) n r b = b
step_noted (Ok (Word v)) n r b = b
step_noted (Ok Done) n r b = b
step_noted (Ok (Ended x)) n r b = b
step_noted (Err x) n r b = b

abbrev pub is_done : Result Reply Refusal → Bool
is_done (Ok Done) = true
is_done (Ok (Byte v)) = false
is_done (Ok (Word v)) = false
is_done (Ok (Stepped x)) = false
is_done (Ok (Ended x)) = false
is_done (Err x) = false

-- A call and its reply. Register writes of the channel that were done, and steps, matter; other calls and refused ones
-- change nothing. (A run is its steps.)
abbrev pub call_noted : Call → Result Reply Refusal → ℕ → Registers → Book → Book
call_noted (ReadByte o) x n r b = b
call_noted (ReadWord o) x n r b = b
call_noted (WriteByte o v) x n r b = cond (is_done x && o / 64 == n) (half_noted (register_of o) v r b) b
call_noted (WriteWord o v) x n r b =
    cond (is_done x && o / 64 == n)
    (half_noted (register_after o) (v % 256) r (half_noted (register_of o) (v / 256) r b)) b
call_noted (SetLine d on) x n r b = b
call_noted (Step code done) x n r b = step_noted x n r b
call_noted (Store c a v) x n r b = b
call_noted (Run k) x n r b = b

-- While the channel is not active nothing stays gathered.
abbrev pub settled_before : Registers → Book → Book
settled_before r b = cond (is_active r.status) b (with_gathered nothing_gathered b)

-- The book of channel n, fed one call more.
unfoldable pub book_fed : Call → Result Reply Refusal → ℕ → Registers → Book → Book
book_fed c x n r b = call_noted c x n r (settled_before r b)
