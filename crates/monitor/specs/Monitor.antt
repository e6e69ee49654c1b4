-- What a script does to a controller and a memory, and what it prints.
use Rattle.std.specs.Prelude.{ℕ, cond, List, [], ◌∷◌, ◌++◌, length, take, Ok, Err, Result}
use Rattle.refusal.specs.declared.kinds.Refusal.{Refusal}
use Rattle.refusal.specs.declared.kinds.Refusal.TheVariants.{PastTheEnd, NoPlace}
use Rattle.bus.specs.Memory.{MemoryMeaning}
use Rattle.dmac.specs.declared.controller.Dmac.{Dmac}
use Rattle.cycle.specs.declared.record.Record.{Record}
use Rattle.devices.specs.Bank.{nothing}
use Rattle.dmac.specs.declared.run.Ran.{Ran}
use Rattle.dmac.specs.Access.{byte_read, byte_written}
use Rattle.dmac.specs.Run.{run_taken}
use Rattle.dmac.specs.Step.{machine_of}
use Rattle.script.specs.Command.{Said, write, read, fill, show, run, parsed}
use Rattle.script.specs.Digits.{data_bytes}
use Rattle.script.specs.Lines.{lines}
use Rattle.script.specs.Text.{newline, ok_text, byte_text, refusal_text}
use Rattle.monitor.specs.Records.{records_text, ending_text}
use Rattle.monitor.specs.Area.{is_past_the_end, takes_all, filled, area_text}

-- The controller, the memory, and the text printed so far.
pub record Session : Type 0 where
  pub dmac : Dmac
  pub memory : MemoryMeaning
  pub text : List ℕ

abbrev pub session_of : Dmac → MemoryMeaning → List ℕ → Session
session_of k m t = record { dmac = k; memory = m; text = t }

-- A session that prints more and is otherwise as it was; a refusal is such a line.
abbrev pub printed : List ℕ → Session → Session
printed t s = record { dmac = s.dmac; memory = s.memory; text = s.text ++ t }

abbrev pub refused : Refusal → Session → Session
refused r s = printed (refusal_text r) s

-- `W oo vv` writes a register byte, and prints OK or the refusal.
abbrev pub done_text : Result (Unit {0}) Refusal → List ℕ
done_text (Ok u) = ok_text
done_text (Err r) = refusal_text r

abbrev pub write_done : ℕ → ℕ → Session → Session
write_done o v s =
    let w = byte_written o v s.dmac in
    record { dmac = w.state; memory = s.memory; text = s.text ++ done_text w.answer }

-- `R oo` prints a register byte, or the refusal.
abbrev pub value_text : Result ℕ Refusal → List ℕ
value_text (Ok v) = byte_text v
value_text (Err r) = refusal_text r

abbrev pub read_done : ℕ → Session → Session
read_done o s = printed (value_text (byte_read o s.dmac)) s

-- `F aaaaaa dd..dd` fills memory and prints OK. It is refused where the area reaches past the end, and where a place
-- of it is not answered; then no byte is written.
abbrev pub fill_done : ℕ → List ℕ → Session → Session
fill_done a bytes s =
    cond (is_past_the_end a (length bytes)) (refused PastTheEnd s)
    (cond (takes_all a bytes s.memory)
    (record { dmac = s.dmac; memory = filled a bytes s.memory; text = s.text ++ ok_text })
    (refused NoPlace s))

-- `M aaaaaa nn` prints an area of memory as one line, unless it reaches past the end.
abbrev pub show_done : ℕ → ℕ → Session → Session
show_done a n s =
    cond (is_past_the_end a n) (refused PastTheEnd s) (printed newline (printed (area_text a n s.memory) s))

-- `S nn` makes a run of nn steps with devices that are never ready, into an empty trace of 128 places, and prints each record
-- and why it ended.
abbrev pub run_shown : Result Ran Refusal → List Record → Session → Session
run_shown (Ok told) trace s = printed (ending_text told.ending) (printed (records_text trace) s)
run_shown (Err r) trace s = refused r s

abbrev pub run_done : ℕ → Session → Session
run_done n s =
    let c = run_taken n 128 (machine_of s.dmac s.memory nothing) [] in
    run_shown c.answer c.trace (session_of c.machine.dmac c.machine.memory s.text)

-- A line that is a command is carried out; any other prints its refusal.
abbrev pub command_done : Result Said Refusal → Session → Session
command_done (Ok (write o v)) s = write_done o v s
command_done (Ok (read o)) s = read_done o s
command_done (Ok (fill a digits)) s = fill_done a (data_bytes digits) s
command_done (Ok (show a n)) s = show_done a n s
command_done (Ok (run n)) s = run_done n s
command_done (Err r) s = refused r s

abbrev pub line_done : List ℕ → Session → Session
line_done line s = command_done (parsed line) s

abbrev pub lines_done : List (List ℕ) → Session → Session
lines_done [] s = s
lines_done (l ∷ ls) s = lines_done ls (line_done l s)

-- A script is its first 16,384 bytes, line by line.
abbrev pub script_done : List ℕ → Session → Session
script_done script s = lines_done (lines (take 16384 script)) s
