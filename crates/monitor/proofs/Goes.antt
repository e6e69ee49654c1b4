-- Every line of a script goes on with the history as its calls do.
use Rattle.std.proofs.Common.{◌≡◌, ℕ, zero, suc, ◌+◌, Bool, true, false, cond, List, [], ◌∷◌, ◌++◌, length, take, IfOk, Some, None, Ok, Err, Option, Result, sym, refl, ap, ◌∙◌}
use Rattle.refusal.specs.declared.kinds.Refusal.{Refusal}
use Rattle.refusal.specs.declared.kinds.Refusal.TheVariants.{PastTheEnd, NoPlace}
use Rattle.devices.specs.Bank.{BankMeaning, nothing}
use Rattle.cycle.specs.declared.carry.End.{End}
use Rattle.cycle.specs.declared.carry.End.TheVariants.{InMemory, InDevice, InChannel}
use Rattle.cycle.specs.declared.record.Data.{Data}
use Rattle.cycle.specs.declared.record.Data.TheVariants.{Byte as ByteOf, Word as WordOf}
use Rattle.cycle.specs.Carry.{source_end, destination_end, bank_got, bank_put}
use Rattle.cycle.specs.Serve.{slot_data}
use Rattle.dmac.specs.Controller.{channel_at}
use Rattle.dmac.specs.Choice.{chosen}
use Rattle.dmac.specs.Step.{Machine, Stepped, machine_of, step_chosen, step_on}
use Rattle.dmac.specs.declared.run.Ran.{Ran}
use Rattle.dmac.specs.Run.{plain_step, run_taken}
use Rattle.cycle.specs.declared.record.Record.{Record}
use Rattle.audit.specs.declared.call.Call.TheVariants.{ReadByte, WriteByte, Store, Run}
use Rattle.audit.specs.Calls.{performed}
use Rattle.audit.specs.History.{Past, Event, beginning, stepped, is_recorded, run_made, called, passed, outcome}
use Rattle.audit.proofs.Outcome.{Outcome, quiet, failed, moved, fetched, step_is}
use Rattle.audit.proofs.Runs.{called_machine, all_lawful}
use Rattle.script.specs.Command.{Said, write, read, fill, show, run, parsed}
use Rattle.script.specs.Digits.{data_bytes}
use Rattle.script.specs.Lines.{lines}
use Rattle.script.specs.Text.{newline, ok_text}
use Rattle.monitor.specs.Area.{is_past_the_end, takes_all, filled, area_text}
use Rattle.monitor.specs.Monitor.{Session, session_of, refused, run_shown, command_done, line_done, lines_done, script_done}
use Rattle.monitor.specs.History.{machine_in, store_events, command_events, lines_events, script_events, ScriptGoesOn}

-- A bank in which nothing waits and no place is free stays so.
got_nothing : (e : End) (n : ℕ) (w : Bool) → bank_got e n w nothing ≡ nothing
got_nothing InMemory n w = refl
got_nothing InChannel n w = refl
got_nothing InDevice n true = refl
got_nothing InDevice n false = refl

put_nothing : (e : End) (v : Data) (n : ℕ) → bank_put e v n nothing ≡ nothing
put_nothing InMemory v n = refl
put_nothing InChannel v n = refl
put_nothing InDevice (ByteOf x) n = refl
put_nothing InDevice (WordOf x y) n = refl

outcome_nothing : (s : Machine) (n : ℕ) (o : Stepped) → s.bank ≡ nothing → Outcome s n o → o.machine.bank ≡ nothing
outcome_nothing s n o e (quiet w) = ap (λ (y : Stepped). y.machine.bank) w.is ∙ e
outcome_nothing s n o e (failed w) = ap (λ (y : Stepped). y.machine.bank) w.is ∙ e
outcome_nothing s n o e (fetched w) = ap (λ (y : Stepped). y.machine.bank) w.is ∙ e
outcome_nothing s n o e (moved w) =
    let k = (channel_at n s.dmac).registers.config in
    let v = slot_data w.q n w.h (channel_at n s.dmac) s.memory s.bank in
    ap (λ (y : Stepped). y.machine.bank) w.is
    ∙ ap (λ (b : BankMeaning). bank_put (destination_end w.q k) v n (bank_got (source_end w.q k) n w.q.word b)) e
    ∙ ap (λ (b : BankMeaning). bank_put (destination_end w.q k) v n b) (got_nothing (source_end w.q k) n w.q.word)
    ∙ put_nothing (destination_end w.q k) v n

chosen_nothing : (h : Option ℕ) (code : ℕ) (done : Bool) (s : Machine) → s.bank ≡ nothing → (step_chosen h code done s).machine.bank ≡ nothing
chosen_nothing None code done s e = e
chosen_nothing (Some n) code done s e = outcome_nothing s n (step_on n code done s) e (step_is n code done s)

run_nothing : (n room : ℕ) (p : Past) → p.machine.bank ≡ nothing → (run_made n room p).machine.bank ≡ nothing
run_nothing zero room p e = e
run_nothing (suc n) zero p e = e
run_nothing (suc n) (suc room) p e =
    let f : (stepped 7 false p).machine.bank ≡ nothing = chosen_nothing (chosen p.machine.dmac) 7 false p.machine e in
    go (is_recorded (plain_step p.machine).answer) f (run_nothing n room (stepped 7 false p) f)
  where
    go : (t : Bool) → (stepped 7 false p).machine.bank ≡ nothing → (run_made n room (stepped 7 false p)).machine.bank ≡ nothing
        → (cond t (run_made n room (stepped 7 false p)) (stepped 7 false p)).machine.bank ≡ nothing
    go true f g = g
    go false f g = f

-- A machine whose bank is nothing is a session's.
as_session : (s : Machine) → s.bank ≡ nothing → s ≡ machine_of s.dmac s.memory nothing
as_session s e = ap (λ (b : BankMeaning). machine_of s.dmac s.memory b) e

-- The stores of a fill.
fill_passed : (a : ℕ) (bs : List ℕ) (p : Past) → (passed (store_events a bs) p).machine ≡ machine_of p.machine.dmac (filled a bs p.machine.memory) p.machine.bank
fill_passed a [] p = refl
fill_passed a (b ∷ bs) p = fill_passed (a + 1) bs (called (Store 5 a b) 0 p)

-- What a run prints leaves the controller and the memory.
shown_machine : (a : Result Ran Refusal) (t : List Record) (s : Session) → machine_in (run_shown a t s) ≡ machine_in s
shown_machine (Ok told) t s = refl
shown_machine (Err r) t s = refl

-- A command.
command_passed : (c : Result Said Refusal) (s : Session) (p : Past) → p.machine ≡ machine_in s → (passed (command_events c s) p).machine ≡ machine_in (command_done c s)
command_passed (Ok (write o v)) s p e = ap (λ (y : Machine). (performed (WriteByte o v) 0 y []).machine) e
command_passed (Ok (read o)) s p e = ap (λ (y : Machine). (performed (ReadByte o) 0 y []).machine) e
command_passed (Ok (fill a digits)) s p e = go (is_past_the_end a (length (data_bytes digits))) (takes_all a (data_bytes digits) s.memory)
  where
    go : (t u : Bool) → (passed (cond t [] (cond u (store_events a (data_bytes digits)) [])) p).machine
        ≡ machine_in (cond t (refused PastTheEnd s) (cond u (record { dmac = s.dmac; memory = filled a (data_bytes digits) s.memory; text = s.text ++ ok_text }) (refused NoPlace s)))
    go true u = e
    go false true = fill_passed a (data_bytes digits) p ∙ ap (λ (y : Machine). machine_of y.dmac (filled a (data_bytes digits) y.memory) y.bank) e
    go false false = e
command_passed (Ok (show a n)) s p e = shown
  where
    shown : p.machine ≡ machine_in (command_done (Ok (show a n)) s)
    shown = go (is_past_the_end a n)
      where
        go : (t : Bool) → p.machine ≡ machine_in (cond t (refused PastTheEnd s) (record { dmac = s.dmac; memory = s.memory; text = (s.text ++ area_text a n s.memory) ++ newline }))
        go true = e
        go false = e
command_passed (Ok (run n)) s p e =
    let f : (run_made n 128 p).machine ≡ (performed (Run n) 128 (machine_in s) []).machine = sym (called_machine (Run n) 128 [] p) ∙ ap (λ (y : Machine). (performed (Run n) 128 y []).machine) e in
    let g : (performed (Run n) 128 (machine_in s) []).machine.bank ≡ nothing = ap (λ (y : Machine). y.bank) (sym f) ∙ run_nothing n 128 p (ap (λ (y : Machine). y.bank) e) in
    let c = run_taken n 128 (machine_in s) [] in
    f ∙ as_session (performed (Run n) 128 (machine_in s) []).machine g ∙ sym (shown_machine c.answer c.trace (session_of c.machine.dmac c.machine.memory s.text))
command_passed (Err r) s p e = e

-- A history that goes on with more events.
passed_both : (xs ys : List Event) (p : Past) → passed (xs ++ ys) p ≡ passed ys (passed xs p)
passed_both [] ys p = refl
passed_both (x ∷ xs) ys p = passed_both xs ys (called x.call x.room p)

lines_passed : (ls : List (List ℕ)) (s : Session) (p : Past) → p.machine ≡ machine_in s → (passed (lines_events ls s) p).machine ≡ machine_in (lines_done ls s)
lines_passed [] s p e = e
lines_passed (l ∷ ls) s p e =
    ap (λ (y : Past). y.machine) (passed_both (command_events (parsed l) s) (lines_events ls (line_done l s)) p)
    ∙ lines_passed ls (line_done l s) (passed (command_events (parsed l) s) p) (command_passed (parsed l) s p e)

pub script_goes : (script : List ℕ) (before after : Session) → after ≡ script_done script before → ScriptGoesOn script before after
script_goes script before after e m b es q = (
  ap (λ (y : Past). y.machine) (passed_both es (script_events script before) (beginning m b))
      ∙ lines_passed (lines (take 16384 script)) before (outcome m b es) q ∙ ap machine_in (sym e),
  all_lawful m b (es ++ script_events script before),
)

-- What follows from a result that was made, follows where it was made.
pub made_more : {X Y : Type 0} (r : Result X Y) (P Q : X → Type 0) → ((x : X) → P x → Q x) → IfOk r P → IfOk r Q
made_more (Ok x) P Q f h = f x h
made_more (Err y) P Q f h = tt
