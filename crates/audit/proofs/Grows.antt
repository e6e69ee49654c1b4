-- The list of all operands that were ever named only grows.
use Rattle.std.proofs.Common.{◌≡◌, ℕ, zero, suc, ◌-◌, ◌/◌, ◌%◌, Bool, true, false, cond, ◌&&◌, eqb, List, [], ◌∷◌, ◌++◌, length, Some, None, Ok, Err, Option, Result, sym, refl, ap, ◌∙◌, append_assoc, append-nil}
use Rattle.refusal.specs.declared.kinds.Refusal.{Refusal}
use Rattle.registers.specs.Bits.{any}
use Rattle.registers.specs.Config.{chain_of, size_of, bytes_of}
use Rattle.registers.specs.Control.{is_continuing}
use Rattle.registers.specs.Status.{is_active}
use Rattle.registers.specs.declared.fault.Fault.{Fault}
use Rattle.registers.specs.declared.groups.Chain.{Chain}
use Rattle.registers.specs.declared.groups.Chain.TheVariants.{Plain, Array, Linked}
use Rattle.registers.specs.declared.groups.Registers.{Registers}
use Rattle.channel.specs.declared.decode.Access.{Access}
use Rattle.channel.specs.declared.decode.Access.TheVariants.{Nowhere, Barred, To, General}
use Rattle.channel.specs.declared.decode.Register.{Register}
use Rattle.channel.specs.declared.decode.Register.TheVariants.{Csr, Cer, Dcr, Ocr, Scr, Ccr, Mtc, Mar, Dar, Btc, Bar, Niv, Eiv, Mfc, Dfc, Bfc, Cpr}
use Rattle.channel.specs.Start.{start_fault}
use Rattle.cycle.specs.declared.record.Kind.{Kind}
use Rattle.cycle.specs.declared.record.Kind.TheVariants.{Read, Write, Entry}
use Rattle.cycle.specs.declared.record.Record.{Record}
use Rattle.cycle.specs.declared.record.Record.TheVariants.{Cycle, Error}
use Rattle.dmac.specs.declared.answer.Answer.{Answer}
use Rattle.dmac.specs.declared.answer.Answer.TheVariants.{Reset, Idle, Halted, Retry, Waiting, Recorded}
use Rattle.dmac.specs.Access.{register_of, register_after}
use Rattle.audit.specs.Operand.{Operand}
use Rattle.audit.specs.Calls.{Call, ReadByte, ReadWord, WriteByte, WriteWord, SetLine, Step, Store, Run, Reply, Byte, Word, Done, Stepped, Ended}
use Rattle.audit.specs.Book.{Book, nothing_gathered, with_gathered, recounted, start_noted, control_noted, register_noted, half_noted, block_named, gathered_more, operand_added, block_continued, delivery_noted, operand_noted, move_noted, entry_noted, cycle_noted, word_told, word_noted, words_of_entry, entry_address, entry_count, next_entry, with_entry, bytes_told, record_noted, answer_noted, step_noted, is_done, call_noted, settled_before, book_fed}

abbrev pub Grows : Book → Book → Type 0
Grows b b' = (more : List Operand) × (b'.ever ≡ b.ever ++ more)

still : (b : Book) → Grows b b
still b = ([], sym (append-nil b.ever))

either : (t : Bool) (b x y : Book) → Grows b x → Grows b y → Grows b (cond t x y)
either true b x y p q = p
either false b x y p q = q

twice : (b x y : Book) → Grows b x → Grows x y → Grows b y
twice b x y p q = (p.0 ++ q.0, q.1 ∙ ap (λ (l : List Operand). l ++ q.0) p.1 ∙ append_assoc b.ever p.0 q.0)

start_grows : (f : Option Fault) (r : Registers) (b : Book) → Grows b (start_noted f r b)
start_grows None r b = (_, refl)
start_grows (Some f) r b = still b

control_grows : (v : ℕ) (r : Registers) (b : Book) → Grows b (control_noted v r b)
control_grows v r b =
    either (any 0x10 v) b b _ (still b) (either (any 0x80 v) b (start_noted (start_fault (any 0x40 v) r) r b) b (start_grows (start_fault (any 0x40 v) r) r b) (still b))

register_grows : (x : Register) (v : ℕ) (r : Registers) (b : Book) → Grows b (register_noted x v r b)
register_grows Ccr v r b = control_grows v r b
register_grows (Mtc k) v r b = either (is_active r.status) b b (recounted b) (still b) (still b)
register_grows Csr v r b = still b
register_grows Cer v r b = still b
register_grows Dcr v r b = still b
register_grows Ocr v r b = still b
register_grows Scr v r b = still b
register_grows (Mar k) v r b = still b
register_grows (Dar k) v r b = still b
register_grows (Btc k) v r b = still b
register_grows (Bar k) v r b = still b
register_grows Niv v r b = still b
register_grows Eiv v r b = still b
register_grows Mfc v r b = still b
register_grows Dfc v r b = still b
register_grows Bfc v r b = still b
register_grows Cpr v r b = still b

half_grows : (h : Access) (v : ℕ) (r : Registers) (b : Book) → Grows b (half_noted h v r b)
half_grows (To x) v r b = register_grows x v r b
half_grows Nowhere v r b = still b
half_grows Barred v r b = still b
half_grows General v r b = still b

block_grows : (f m n : ℕ) (r : Registers) (b : Book) → Grows b (block_named f m n r b)
unfolding block_named
block_grows f m n r b = (_, refl)

continue_grows : (n : ℕ) (k : Chain) (t : Bool) (r : Registers) (b : Book) → Grows b (block_continued n k t r b)
continue_grows (suc n) k t r b = still b
continue_grows zero Plain true r b = block_grows r.table.bfc r.table.bar r.table.btc r b
continue_grows zero Plain false r b = still b
continue_grows zero Array t r b = still b
continue_grows zero Linked t r b = still b

added_grows : (r : Registers) (b : Book) → Grows b (operand_added r b)
unfolding operand_added
added_grows r b = still b

delivery_grows : (t : Bool) (r : Registers) (b : Book) → Grows b (delivery_noted t r b)
delivery_grows false r b = still b
delivery_grows true r b =
    twice b (operand_added r b) (delivery_noted true r b) (added_grows r b)
    (continue_grows (r.counters.mtc - 1) (chain_of r.config) (is_continuing r.control) r (operand_added r b))

move_grows : (k : Kind) (f a : ℕ) (vs : List ℕ) (r : Registers) (b : Book) → Grows b (move_noted k f a vs r b)
move_grows k f a vs r b =
    let c = with_gathered (gathered_more k f a vs r.config b.gathered) b in
    twice b c (operand_noted r c) (still b)
    (delivery_grows (eqb (length c.gathered.tos) (bytes_of (size_of r.config))) r c)

entry_grows : (t : Bool) (k : Chain) (ws : List ℕ) (a : ℕ) (r : Registers) (b : Book) → Grows b (entry_noted t k ws a r b)
entry_grows true k ws a r b = block_grows r.counters.mfc (entry_address ws) (entry_count ws) r (with_entry (next_entry k ws b.entry_at) b)
entry_grows false k ws a r b = still b

word_grows : (a : ℕ) (vs : List ℕ) (r : Registers) (b : Book) → Grows b (word_noted a vs r b)
word_grows a vs r b =
    let ws = b.gathered.words ++ word_told vs ∷ [] in
    entry_grows (eqb (length ws) (words_of_entry (chain_of r.config))) (chain_of r.config) ws a r b

cycle_grows : (k : Kind) (f a : ℕ) (vs : List ℕ) (r : Registers) (b : Book) → Grows b (cycle_noted k f a vs r b)
cycle_grows Read f a vs r b = move_grows Read f a vs r b
cycle_grows Write f a vs r b = move_grows Write f a vs r b
cycle_grows Entry f a vs r b = word_grows a vs r b

record_grows : (x : Record) (n : ℕ) (r : Registers) (b : Book) → Grows b (record_noted x n r b)
record_grows (Cycle d k f a v) n r b = either (eqb d n) b (cycle_noted k f a (bytes_told v) r b) b (cycle_grows k f a (bytes_told v) r b) (still b)
record_grows (Error d f) n r b = still b

answer_grows : (x : Answer) (n : ℕ) (r : Registers) (b : Book) → Grows b (answer_noted x n r b)
answer_grows (Recorded x) n r b = record_grows x n r b
answer_grows Reset n r b = still b
answer_grows Idle n r b = still b
answer_grows Halted n r b = still b
answer_grows Retry n r b = still b
answer_grows Waiting n r b = still b

step_grows : (x : Result Reply Refusal) (n : ℕ) (r : Registers) (b : Book) → Grows b (step_noted x n r b)
step_grows (Ok (Stepped x)) n r b = answer_grows x n r b
step_grows (Ok (Byte v)) n r b = still b
step_grows (Ok (Word v)) n r b = still b
step_grows (Ok Done) n r b = still b
step_grows (Ok (Ended x)) n r b = still b
step_grows (Err x) n r b = still b

call_grows : (c : Call) (x : Result Reply Refusal) (n : ℕ) (r : Registers) (b : Book) → Grows b (call_noted c x n r b)
call_grows (ReadByte o) x n r b = still b
call_grows (ReadWord o) x n r b = still b
call_grows (WriteByte o v) x n r b = either (is_done x && eqb (o / 64) n) b (half_noted (register_of o) v r b) b (half_grows (register_of o) v r b) (still b)
call_grows (WriteWord o v) x n r b =
    let h = half_noted (register_of o) (v / 256) r b in
    let l = half_noted (register_after o) (v % 256) r h in
    either (is_done x && eqb (o / 64) n) b l b (twice b h l (half_grows (register_of o) (v / 256) r b) (half_grows (register_after o) (v % 256) r h)) (still b)
call_grows (SetLine d on) x n r b = still b
call_grows (Step code done) x n r b = step_grows x n r b
call_grows (Store f a v) x n r b = still b
call_grows (Run k) x n r b = still b

-- What was named before a call is named after it.
pub book_grows : (c : Call) (x : Result Reply Refusal) (n : ℕ) (r : Registers) (b : Book) → Grows b (book_fed c x n r b)
unfolding book_fed
book_grows c x n r b =
    twice b (settled_before r b) (call_noted c x n r (settled_before r b))
    (either (is_active r.status) b b (with_gathered nothing_gathered b) (still b) (still b))
    (call_grows c x n r (settled_before r b))
