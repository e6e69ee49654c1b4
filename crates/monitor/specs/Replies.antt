-- What a script prints of the replies to its calls. The functions inside monitor are stated by this page; what is promised
-- of a script is on the page Monitor and doesn't rest on it.
use Rattle.std.specs.Prelude.{ℕ, List, [], ◌++◌, Ok, Err, Result}
use Rattle.refusal.specs.declared.kinds.Refusal.{Refusal}
use Rattle.cycle.specs.declared.record.Record.{Record}
use Rattle.devices.specs.Bank.{nothing}
use Rattle.dmac.specs.Step.{machine_of}
use Rattle.audit.specs.declared.call.Call.{Call}
use Rattle.audit.specs.declared.call.Reply.{Reply}
use Rattle.audit.specs.declared.call.Reply.TheVariants.{Byte, Word, Done, Stepped, Ended}
use Rattle.audit.specs.Calls.{performed}
use Rattle.script.specs.Text.{ok_text, byte_text, refusal_text}
use Rattle.monitor.specs.Records.{records_text, ending_text}
use Rattle.monitor.specs.Monitor.{Session}

-- What a call replies that is no run: OK, a register byte, or the refusal. (A script asks for no word, and makes no lone
-- step.)
abbrev pub reply_text : Result Reply Refusal → List ℕ
reply_text (Ok Done) = ok_text
reply_text (Ok (Byte v)) = byte_text v
reply_text (Ok (Word v)) = []
reply_text (Ok (Stepped x)) = []
reply_text (Ok (Ended x)) = []
reply_text (Err r) = refusal_text r

-- A call that is no run is made with devices that are never ready, and its reply is printed.
abbrev pub answered : Call → Session → Session
answered c s =
    let o = performed c 0 (machine_of s.dmac s.memory nothing) [] in
    record { dmac = o.machine.dmac; memory = o.machine.memory; text = s.text ++ reply_text o.reply }

-- The records of a run and why it ended, or its refusal.
abbrev pub run_text : Result Reply Refusal → List Record → List ℕ
run_text (Ok (Ended told)) trace = records_text trace ++ ending_text told.ending
run_text (Ok (Byte v)) trace = []
run_text (Ok (Word v)) trace = []
run_text (Ok Done) trace = []
run_text (Ok (Stepped x)) trace = []
run_text (Err r) trace = refusal_text r
