-- A call does to the machine what the history says.
use Rattle.std.proofs.Common.{◌≡◌, ℕ, zero, suc, ◌+◌, ◌-◌, Bool, true, false, cond, not, ◌&&◌, ltb, List, [], ◌∷◌, ◌++◌, length, Err, sym, refl, ap, ◌∙◌, arith, length-append}
use Rattle.refusal.specs.declared.kinds.Refusal.TheVariants.{TraceFull}
use Rattle.std.proofs.lemmas.Bool.{ltb-false, lt-ltb, le-ltb}
use Rattle.bus.specs.Memory.{MemoryMeaning}
use Rattle.devices.specs.Bank.{BankMeaning}
use Rattle.cycle.specs.declared.record.Record.{Record}
use Rattle.dmac.specs.declared.answer.Answer.{Answer}
use Rattle.dmac.specs.declared.answer.Answer.TheVariants.{Reset, Idle, Halted, Retry, Waiting, Recorded}
use Rattle.dmac.specs.Step.{Machine}
use Rattle.dmac.specs.Run.{plain_step, turned_by, run_next, run_on, run_told, run_taken}
use Rattle.audit.specs.Calls.{Call, ReadByte, ReadWord, WriteByte, WriteWord, SetLine, Step, Store, Run, Performed, performed}
use Rattle.audit.specs.History.{Past, Event, is_recorded, stepped, run_made, called, passed, beginning, outcome}
use Rattle.audit.specs.Tie.{event_of, Lawful, GoesOn}
use Rattle.audit.proofs.Main.{law}

-- One turn of a run, by what its step answers.
turn_machine : (n made places : ℕ) (t : List Record) (p : Past) (q : Past) (a : Answer) (room : ℕ) → places - length t ≡ suc room
    → ((t' : List Record) (room' : ℕ) → places - length t' ≡ room' → (run_on n places (made + 1) q.machine t').machine ≡ (run_made n room' q).machine)
    → (run_next (turned_by a q.machine t).stop made (turned_by a q.machine t).machine (turned_by a q.machine t).trace (run_on n places)).machine
    ≡ (cond (is_recorded a) (run_made n room q) q).machine
turn_machine n made places t p q (Recorded r) room e ih = ih (t ++ r ∷ []) room (let l = length-append t (r ∷ []) in omega arith)
turn_machine n made places t p q Reset room e ih = refl
turn_machine n made places t p q Idle room e ih = refl
turn_machine n made places t p q Halted room e ih = refl
turn_machine n made places t p q Retry room e ih = refl
turn_machine n made places t p q Waiting room e ih = refl

run_machine : (n made places : ℕ) (t : List Record) (p : Past) (room : ℕ) → places - length t ≡ room
    → (run_on n places made p.machine t).machine ≡ (run_made n room p).machine
run_machine zero made places t p room e = refl
run_machine (suc n) made places t p zero e = rw (le-ltb (length t) places (omega arith)) refl
run_machine (suc n) made places t p (suc room) e =
    rw (lt-ltb (length t) places (omega arith))
    (turn_machine n made places t p (stepped 7 false p) (plain_step p.machine).answer room e
    (λ t' room' f. run_machine n (made + 1) places t' (stepped 7 false p) room' f))

-- A whole run, refused or not.
taken_machine : (n places : ℕ) (t : List Record) (p : Past) → (run_taken n places p.machine t).machine ≡ (run_made n (places - length t) p).machine
taken_machine zero places t p = refl
taken_machine (suc n) places t p = go (ltb (length t) places) refl
  where
    go : (b : Bool) → ltb (length t) places ≡ b
        → (cond (ltb 0 (suc n) && not b) (record { machine = p.machine; trace = t; answer = Err TraceFull }) (run_told (run_on (suc n) places 0 p.machine t))).machine
        ≡ (run_made (suc n) (places - length t) p).machine
    go true e = rw (lt-ltb 0 (suc n) (omega arith)) (run_machine (suc n) 0 places t p (places - length t) refl)
    go false e =
        let z : places - length t ≡ 0 = let l = ltb-false (length t) places e in omega arith in
        rw (lt-ltb 0 (suc n) (omega arith), z) refl

-- Every call.
pub called_machine : (c : Call) (places : ℕ) (t : List Record) (p : Past) → (performed c places p.machine t).machine ≡ (called c (places - length t) p).machine
called_machine (ReadByte o) places t p = refl
called_machine (ReadWord o) places t p = refl
called_machine (WriteByte o v) places t p = refl
called_machine (WriteWord o v) places t p = refl
called_machine (SetLine n on) places t p = refl
called_machine (Step code done) places t p = refl
called_machine (Store c a v) places t p = refl
called_machine (Run n) places t p = taken_machine n places t p

-- A history and one event more.
passed_more : (es : List Event) (e : Event) (p : Past) → passed (es ++ e ∷ []) p ≡ called e.call e.room (passed es p)
passed_more [] e p = refl
passed_more (x ∷ es) e p = passed_more es e (called x.call x.room p)

pub all_lawful : (m : MemoryMeaning) (b : BankMeaning) (es : List Event) → Lawful m b es
all_lawful m b es front rest e = law m b front

pub goes_on : (c : Call) (places : ℕ) (t : List Record) (before : Machine) (o : Performed) → o ≡ performed c places before t
    → GoesOn before (event_of c places t) o.machine
goes_on c places t before o e m b es q =
    let p = outcome m b es in (
      ap (λ (y : Past). y.machine) (passed_more es (event_of c places t) (beginning m b))
          ∙ sym (called_machine c places t p) ∙ ap (λ (s : Machine). (performed c places s t).machine) q ∙ sym (ap (λ (y : Performed). y.machine) e),
      all_lawful m b (es ++ event_of c places t ∷ []),
    )
