-- The law.
use Rattle.std.proofs.Common.{◌≡◌, ℕ, zero, suc, Bool, false, ◌⊎◌, List, [], ◌∷◌, Some, None, Option, refl, ap, ◌∙◌, inl, inr}
use Rattle.std.proofs.lemmas.Bool.{cond_both}
use Rattle.bus.specs.Memory.{MemoryMeaning, is_word_writable}
use Rattle.bus.specs.Store.{Stored, is_storable}
use Rattle.cycle.specs.declared.carry.End.{End}
use Rattle.cycle.specs.declared.carry.End.TheVariants.{InMemory, InDevice, InChannel}
use Rattle.cycle.specs.declared.record.Data.{Data}
use Rattle.cycle.specs.declared.record.Data.TheVariants.{Byte as ByteOf, Word as WordOf}
use Rattle.cycle.specs.Carry.{destination_end, data_written, memory_put, slot_code, slot_address}
use Rattle.cycle.specs.Serve.{slot_data}
use Rattle.dmac.specs.Controller.{channel_at}
use Rattle.dmac.specs.Choice.{chosen}
use Rattle.dmac.specs.Step.{Machine, Stepped as StepDone, step_chosen, step_on}
use Rattle.dmac.specs.Run.{plain_step}
use Rattle.audit.specs.Calls.{Call, ReadByte, ReadWord, WriteByte, WriteWord, SetLine, Step, Store, Run, Called, byte_read_called, word_read_called, byte_write_called, word_write_called, line_called, step_called, store_called}
use Rattle.audit.specs.History.{Past, Event, beginning, noted, stepped, is_recorded, run_made, called, passed, registers_of, outcome}
use Rattle.audit.specs.Law.{IsMeant, LawfulAt, Law}
use Rattle.audit.proofs.Inv.{begins_named}
use Rattle.audit.proofs.Outcome.{Outcome, quiet, failed, moved, fetched, step_is}
use Rattle.audit.proofs.Steps.{step_cases, Kept}
use Rattle.audit.proofs.Calls.{read_byte_kept, read_word_kept, write_byte_kept, write_word_kept, line_kept, step_kept, store_kept, beginning_kept}
use Rattle.audit.proofs.Memory.{meant_stays, step_bytes, store_bytes}
use Rattle.audit.proofs.Cycles.{step_true}
use Rattle.audit.proofs.Errors.{errors_touch}

-- The space numbers never change.
data_space : (v : Data) (f a : ℕ) (m : MemoryMeaning) → (data_written v f a m).space ≡ m.space
data_space (ByteOf x) f a m = cond_both (m.writable f a) _ _ (λ (y : MemoryMeaning). y.space ≡ m.space) (λ _. refl) (λ _. refl)
data_space (WordOf x y) f a m = cond_both (is_word_writable f a m) _ _ (λ (y : MemoryMeaning). y.space ≡ m.space) (λ _. refl) (λ _. refl)

put_space : (e : End) (v : Data) (f a : ℕ) (m : MemoryMeaning) → (memory_put e v f a m).space ≡ m.space
put_space InMemory v f a m = data_space v f a m
put_space InDevice v f a m = refl
put_space InChannel v f a m = refl

outcome_space : (s : Machine) (n : ℕ) (o : StepDone) → Outcome s n o → o.machine.memory.space ≡ s.memory.space
outcome_space s n o (quiet w) = ap (λ (y : StepDone). y.machine.memory.space) w.is
outcome_space s n o (failed w) = ap (λ (y : StepDone). y.machine.memory.space) w.is
outcome_space s n o (fetched w) = ap (λ (y : StepDone). y.machine.memory.space) w.is
outcome_space s n o (moved w) =
    let x = channel_at n s.dmac in
    ap (λ (y : StepDone). y.machine.memory.space) w.is
    ∙ put_space (destination_end w.q x.registers.config) (slot_data w.q n w.h x s.memory s.bank) (slot_code w.q x) (slot_address w.q x) s.memory

chosen_space : (h : Option ℕ) (code : ℕ) (done : Bool) (s : Machine) → (step_chosen h code done s).machine.memory.space ≡ s.memory.space
chosen_space None code done s = refl
chosen_space (Some n) code done s = outcome_space s n (step_on n code done s) (step_is n code done s)

step_space : (code : ℕ) (done : Bool) (s : Machine) → (step_called code done s).machine.memory.space ≡ s.memory.space
step_space code done s =
    step_cases code done s (λ y. y.machine.memory.space ≡ s.memory.space) refl (chosen_space (chosen s.dmac) code done s) refl

store_space : (f a v : ℕ) (s : Machine) → (store_called f a v s).machine.memory.space ≡ s.memory.space
store_space f a v s = cond_both (is_storable f a s.memory) _ _ (λ (y : Stored). y.memory.space ≡ s.memory.space) (λ _. refl) (λ _. refl)

-- What every call keeps, since a memory m stood at the beginning.
record Holds (m : MemoryMeaning) (p : Past) : Type 0 where
  kept : Kept p.machine p.books
  spaces : p.machine.memory.space ≡ m.space
  bytes : (s a : ℕ) → (p.machine.memory.byte s a ≡ m.byte s a) ⊎ IsMeant m s a p

holds_noted : (m : MemoryMeaning) (c : Call) (o : Called) (p : Past) → Holds m p → Kept (noted c o p).machine (noted c o p).books
    → o.machine.memory.space ≡ p.machine.memory.space
    → ((s a : ℕ) → (o.machine.memory.byte s a ≡ p.machine.memory.byte s a) ⊎ IsMeant m s a (noted c o p)) → Holds m (noted c o p)
holds_noted m c o p h k e f = record {
  kept = k;
  spaces = e ∙ h.spaces;
  bytes = λ s a. go s a (f s a) (h.bytes s a);
}
  where
    go : (s a : ℕ) → (o.machine.memory.byte s a ≡ p.machine.memory.byte s a) ⊎ IsMeant m s a (noted c o p) → (p.machine.memory.byte s a ≡ m.byte s a) ⊎ IsMeant m s a p
        → (o.machine.memory.byte s a ≡ m.byte s a) ⊎ IsMeant m s a (noted c o p)
    go s a (inl x) (inl y) = inl (x ∙ y)
    go s a (inl x) (inr y) = inr (meant_stays m s a c o p y)
    go s a (inr x) y = inr x

holds_step : (m : MemoryMeaning) (code : ℕ) (done : Bool) (p : Past) → Holds m p → Holds m (stepped code done p)
holds_step m code done p h =
    holds_noted m (Step code done) (step_called code done p.machine) p h (step_kept code done p h.kept) (step_space code done p.machine)
    (step_bytes code done m p h.spaces h.kept)

holds_run : (m : MemoryMeaning) (n room : ℕ) (p : Past) → Holds m p → Holds m (run_made n room p)
holds_run m zero room p h = h
holds_run m (suc n) zero p h = h
holds_run m (suc n) (suc room) p h =
    let g = holds_step m 7 false p h in
    cond_both (is_recorded (plain_step p.machine).answer) _ _ (Holds m) (λ _. holds_run m n room (stepped 7 false p) g) (λ _. g)

holds_called : (m : MemoryMeaning) (c : Call) (room : ℕ) (p : Past) → Holds m p → Holds m (called c room p)
holds_called m (ReadByte o) room p h =
    holds_noted m (ReadByte o) (byte_read_called o p.machine) p h (read_byte_kept o (byte_read_called o p.machine) p refl h.kept) refl (λ s a. inl refl)
holds_called m (ReadWord o) room p h =
    holds_noted m (ReadWord o) (word_read_called o p.machine) p h (read_word_kept o (word_read_called o p.machine) p refl h.kept) refl (λ s a. inl refl)
holds_called m (WriteByte o v) room p h =
    holds_noted m (WriteByte o v) (byte_write_called o v p.machine) p h (write_byte_kept o v p h.kept) refl (λ s a. inl refl)
holds_called m (WriteWord o v) room p h =
    holds_noted m (WriteWord o v) (word_write_called o v p.machine) p h (write_word_kept o v p h.kept) refl (λ s a. inl refl)
holds_called m (SetLine n on) room p h =
    holds_noted m (SetLine n on) (line_called n on p.machine) p h (line_kept n on p h.kept) refl (λ s a. inl refl)
holds_called m (Step code done) room p h = holds_step m code done p h
holds_called m (Store f a v) room p h =
    holds_noted m (Store f a v) (store_called f a v p.machine) p h (store_kept f a v p h.kept) (store_space f a v p.machine) (store_bytes f a v m p h.spaces)
holds_called m (Run n) room p h = holds_run m n room p h

holds_passed : (m : MemoryMeaning) (es : List Event) (p : Past) → Holds m p → Holds m (passed es p)
holds_passed m [] p h = h
holds_passed m (e ∷ es) p h = holds_passed m es (called e.call e.room p) (holds_called m e.call e.room p h)

lawful : (m : MemoryMeaning) (p : Past) → Holds m p → LawfulAt m p
lawful m p h = record {
  lists = λ n l e. begins_named (p.books n) (registers_of n p.machine) ((h.kept.each n l).lacks e);
  faithful = λ n l. (h.kept.each n l).faithful;
  bytes = h.bytes;
  cycles = λ code done. step_true code done p.machine p.books h.kept;
  errors = λ code done n f e. errors_touch code done n f p h.kept e;
}

pub law : Law
law m b es = lawful m (outcome m b es) (holds_passed m es (beginning m b) (record { kept = beginning_kept m b; spaces = refl; bytes = λ s a. inl refl }))
