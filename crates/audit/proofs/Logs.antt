-- One turn of playing a log, and its end.
use Rattle.std.proofs.Common.{◌≡◌, ℕ, suc, ◌+◌, ◌-◌, ◌<◌, ◌≤◌, List, [], ◌∷◌, ◌++◌, length, get_or, take, drop, set, sym, refl, ap, ◌∙◌, subst, append_assoc, append-nil, add-one, arith, drop_of_length-le, take_all, drop-cons, take-suc-set, drop-set-lt}
use Rattle.cycle.specs.declared.record.Record.{Record}
use Rattle.bus.specs.Memory.{MemoryMeaning}
use Rattle.devices.specs.Bank.{BankMeaning}
use Rattle.dmac.specs.Controller.{new_controller}
use Rattle.dmac.specs.Step.{Machine, machine_of}
use Rattle.audit.specs.declared.log.Entry.{Entry}
use Rattle.audit.specs.Calls.{Call, Performed, performed}
use Rattle.audit.specs.History.{Past, beginning, called, passed}
use Rattle.audit.specs.Played.{calls_of, events_of, Played, entry_for, played, Lawfully}
use Rattle.audit.proofs.Runs.{called_machine, all_lawful}

-- What was logged, and what is still to be played.
abbrev pub joined : List Entry → Played → Played
joined es p = record { machine = p.machine; trace = p.trace; entries = es ++ p.entries }

module _ (es : List Entry) (i : ℕ) (d : Entry) (places : ℕ) (s : Machine) (t : List Record) (whole : Played) (o : Performed)
    (lt : i < length es) (e : o ≡ performed (get_or es i d).call places s t) where
  abbrev noted : Entry
  noted = record { call = (get_or es i d).call; room = places - length t; reply = o.reply }

  rest : drop (i + 1) (set es i noted) ≡ drop (suc i) es
  rest = let l : i < suc i = omega arith in ap (λ (n : ℕ). drop n (set es i noted)) (add-one i) ∙ drop-set-lt (suc i) es i noted l

  front : take (i + 1) (set es i noted) ≡ take i es ++ (noted ∷ [])
  front = ap (λ (n : ℕ). take n (set es i noted)) (add-one i) ∙ take-suc-set es i noted lt

  -- One more entry is logged.
  pub play_turn : joined (take i es) (played (calls_of (drop i es)) places s t) ≡ whole
      → joined (take (i + 1) (set es i noted)) (played (calls_of (drop (i + 1) (set es i noted))) places o.machine o.trace) ≡ whole
  play_turn h =
      let P : Performed → Played = λ (y : Performed). joined (take i es ++ (record { call = (get_or es i d).call; room = places - length t; reply = y.reply } ∷ []))
      (played (calls_of (drop (suc i) es)) places y.machine y.trace) in
      ap (λ (l : List Entry). joined l (played (calls_of (drop (i + 1) (set es i noted))) places o.machine o.trace)) front
      ∙ ap (λ (l : List Entry). joined (take i es ++ (noted ∷ [])) (played (calls_of l) places o.machine o.trace)) rest
      ∙ ap P e
      ∙ ap (λ (l : List Entry). record {
        machine = (played (calls_of (drop (suc i) es)) places (performed (get_or es i d).call places s t).machine (performed (get_or es i d).call places s t).trace).machine;
        trace = (played (calls_of (drop (suc i) es)) places (performed (get_or es i d).call places s t).machine (performed (get_or es i d).call places s t).trace).trace;
        entries = l;
      }) (append_assoc (take i es) (entry_for (get_or es i d).call places s t ∷ []) _)
      ∙ ap (λ (l : List Entry). joined (take i es) (played (calls_of l) places s t)) (sym (drop-cons es i d lt))
      ∙ h

-- All entries are logged.
pub play_end : (es : List Entry) (i places : ℕ) (s : Machine) (t : List Record) (whole : Played) → length es ≤ i
    → joined (take i es) (played (calls_of (drop i es)) places s t) ≡ whole → ◌≡◌ {A = Played} (record { machine = s; trace = t; entries = es }) whole
play_end es i places s t whole h e =
    sym (ap (λ (l : List Entry). joined (take i es) (played (calls_of l) places s t)) (drop_of_length-le es h)
    ∙ ap (λ (l : List Entry). record { machine = s; trace = t; entries = l }) (append-nil (take i es) ∙ take_all i es h))
    ∙ e

-- The same where the free places and the number of places are known by equations.
pub turn_again : (es : List Entry) (i : ℕ) (d : Entry) (places next room : ℕ) (s : Machine) (t : List Record) (whole : Played) (o : Performed)
    → i < length es → o ≡ performed (get_or es i d).call places s t → room ≡ places - length t → next ≡ places
    → joined (take i es) (played (calls_of (drop i es)) places s t) ≡ whole
    → joined (take (i + 1) (set es i (record { call = (get_or es i d).call; room = room; reply = o.reply })))
    (played (calls_of (drop (i + 1) (set es i (record { call = (get_or es i d).call; room = room; reply = o.reply })))) next o.machine o.trace) ≡ whole
turn_again es i d places next room s t whole o lt e r n h =
    let E : ℕ → Entry = λ (k : ℕ). record { call = (get_or es i d).call; room = k; reply = o.reply } in
    ap (λ (k : ℕ). joined (take (i + 1) (set es i (E room))) (played (calls_of (drop (i + 1) (set es i (E room)))) k o.machine o.trace)) n
    ∙ ap (λ (k : ℕ). joined (take (i + 1) (set es i (E k))) (played (calls_of (drop (i + 1) (set es i (E k)))) places o.machine o.trace)) r
    ∙ play_turn es i d places s t whole o lt e h

-- What a log tells is a history that leads to the machine.
log_leads : (cs : List Call) (places : ℕ) (t : List Record) (p : Past) → (passed (events_of (played cs places p.machine t).entries) p).machine ≡ (played cs places p.machine t).machine
log_leads [] places t p = refl
log_leads (c ∷ cs) places t p =
    let q = called c (places - length t) p in
    let e : (performed c places p.machine t).machine ≡ q.machine = called_machine c places t p in
    let u = (performed c places p.machine t).trace in
    ap (λ (s : Machine). (passed (events_of (played cs places s u).entries) q).machine) e
    ∙ log_leads cs places u q
    ∙ sym (ap (λ (s : Machine). (played cs places s u).machine) e)

pub played_lawfully : (cs : List Call) (places : ℕ) (t : List Record) (m : MemoryMeaning) (b : BankMeaning) (o : Played)
    → o ≡ played cs places (machine_of new_controller m b) t → Lawfully m b (events_of o.entries) o.machine
played_lawfully cs places t m b o e =
    subst (λ (y : Played). Lawfully m b (events_of y.entries) y.machine) (sym e)
    (log_leads cs places t (beginning m b), all_lawful m b _)
