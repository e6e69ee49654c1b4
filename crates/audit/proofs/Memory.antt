-- Memory changes only at the destination of an operand that was named, or at a store's place.
use Rattle.std.proofs.Common.{◌≡◌, ℕ, suc, ◌+◌, ◌<◌, Bool, true, false, cond, ◌&&◌, eqb, ◌⊎◌, List, [], ◌∷◌, ◌++◌, length, drop, Some, None, Option, Result, sym, refl, ap, ◌∙◌, subst, inl, inr, ⊎_elim, arith}
use Rattle.refusal.specs.declared.kinds.Refusal.{Refusal}
use Rattle.std.proofs.lemmas.Bool.{and_parts, eqb-true, cond_both}
use Rattle.registers.specs.Config.{is_single, is_inward, is_device_memory}
use Rattle.registers.specs.Status.{is_active}
use Rattle.registers.specs.declared.groups.Config.{Config}
use Rattle.bus.specs.Memory.{MemoryMeaning, byte_set, low_address, is_word_writable}
use Rattle.bus.specs.Store.{Stored, is_storable}
use Rattle.channel.specs.declared.state.Channel.{Channel}
use Rattle.cycle.specs.declared.carry.End.{End}
use Rattle.cycle.specs.declared.carry.End.TheVariants.{InMemory, InDevice, InChannel}
use Rattle.cycle.specs.declared.plan.Way.{Way}
use Rattle.cycle.specs.declared.plan.Way.TheVariants.{Source, Destination, Through}
use Rattle.cycle.specs.declared.plan.Side.{Side}
use Rattle.cycle.specs.declared.plan.Side.TheVariants.{Memory, Device}
use Rattle.cycle.specs.declared.record.Data.{Data}
use Rattle.cycle.specs.declared.record.Data.TheVariants.{Byte as ByteOf, Word as WordOf}
use Rattle.cycle.specs.declared.record.Kind.TheVariants.{Write}
use Rattle.cycle.specs.Plan.{plan}
use Rattle.cycle.specs.Carry.{side_end, destination_end_by, destination_end, source_end, count_of, data_written, memory_put, slot_code, slot_address}
use Rattle.cycle.specs.Serve.{kind_by, slot_data}
use Rattle.dmac.specs.Controller.{channel_at}
use Rattle.dmac.specs.Choice.{chosen}
use Rattle.dmac.specs.Step.{Machine, Stepped as StepDone, step_chosen, step_on}
use Rattle.audit.specs.Operand.{Place, in_memory, in_device, bare_device, Move, Operand, paired, operand, operands}
use Rattle.audit.specs.Calls.{Call, ReadByte, ReadWord, WriteByte, WriteWord, SetLine, Step, Store, Run, Reply, Called, done_replied, with_memory, store_called, step_called}
use Rattle.audit.specs.Book.{Book, bytes_told, bytes_from, places_written, is_done, settled_before}
use Rattle.audit.specs.History.{Past, StoredAt, stores_noted, noted, stepped, registers_of}
use Rattle.audit.specs.Law.{SomeOf, IsByte, IsDestination, IsMeant}
use Rattle.audit.proofs.Basics.{no, some_left, some_right}
use Rattle.audit.proofs.Plan.{fits, code_at, slot_tos, all_froms, all_tos, moves_planned, even_planned}
use Rattle.audit.proofs.Inv.{InvX}
use Rattle.audit.proofs.Flow.{length_got}
use Rattle.audit.proofs.Carry.{code_same, address_same}
use Rattle.audit.proofs.Outcome.{Outcome, quiet, failed, moved, fetched, Moved, slot_made, step_is}
use Rattle.audit.proofs.Chosen.{Serves}
use Rattle.audit.proofs.Steps.{step_cases, Kept, serves, found}
use Rattle.audit.proofs.Calls.{settled_kept}
use Rattle.audit.proofs.Cycles.{moving, moving_slot, sent_below}
use Rattle.audit.proofs.Grows.{book_grows}

-- What was meant stays meant.
stores_stay : (P : StoredAt → Type 0) (c : Call) (x : Result Reply Refusal) (l : List StoredAt) → SomeOf P l → SomeOf P (stores_noted c x l)
stores_stay P (Store f a v) x l h = cond_both (is_done x) _ _ (SomeOf P) (λ _. some_left P l _ h) (λ _. h)
stores_stay P (ReadByte o) x l h = h
stores_stay P (ReadWord o) x l h = h
stores_stay P (WriteByte o v) x l h = h
stores_stay P (WriteWord o v) x l h = h
stores_stay P (SetLine n on) x l h = h
stores_stay P (Step code done) x l h = h
stores_stay P (Run n) x l h = h

pub meant_stays : (m : MemoryMeaning) (s a : ℕ) (c : Call) (o : Called) (p : Past) → IsMeant m s a p → IsMeant m s a (noted c o p)
meant_stays m s a c o p (inl h) =
    let n = h.0 in
    let g = book_grows c o.reply n (registers_of n p.machine) (p.books n) in
    inl (n, h.1, subst (λ (l : List Operand). SomeOf (IsDestination m s a) l) (sym g.1) (some_left (IsDestination m s a) (p.books n).ever g.0 h.2))
meant_stays m s a c o p (inr h) = inr (stores_stay _ c o.reply p.stores h)

-- One byte set changes that byte alone.
set_changes : (f a v : ℕ) (m : MemoryMeaning) (s b : ℕ) → ((byte_set f a v m).byte s b ≡ m.byte s b) ⊎ ((m.space f ≡ s) × (a ≡ b))
set_changes f a v m s b = go (eqb s (m.space f) && eqb b a) refl
  where
    go : (t : Bool) → (eqb s (m.space f) && eqb b a) ≡ t → (cond t v (m.byte s b) ≡ m.byte s b) ⊎ ((m.space f ≡ s) × (a ≡ b))
    go true e = let q = and_parts _ _ e in inr (sym (eqb-true s (m.space f) q.0), sym (eqb-true b a q.1))
    go false e = inl refl

-- What is written to memory changes the bytes of the cycle alone.
abbrev Changes : MemoryMeaning → MemoryMeaning → ℕ → ℕ → List Place → Type 0
Changes old new s b ps = (new.byte s b ≡ old.byte s b) ⊎ SomeOf (IsByte old s b) ps

data_changes : (v : Data) (f a : ℕ) (m : MemoryMeaning) (s b : ℕ) → a < 16777216 → Changes m (data_written v f a m) s b (bytes_from (in_memory f) a (length (bytes_told v)))
data_changes (ByteOf x) f a m s b h =
    cond_both (m.writable f a) _ _ (λ w. Changes m w s b (in_memory f a ∷ []))
    (λ _. ⊎_elim (λ e. inl e) (λ e. inr (inl e)) (set_changes f a x m s b)) (λ _. inl refl)
data_changes (WordOf x y) f a m s b h =
    let low : low_address a ≡ a + 1 = omega arith in
    cond_both (is_word_writable f a m) _ _ (λ w. Changes m w s b (in_memory f a ∷ in_memory f (a + 1) ∷ []))
    (λ _. ⊎_elim (λ e. ⊎_elim (λ q. inl (e ∙ q)) (λ q. inr (inl q)) (set_changes f a x m s b))
    (λ e. inr (inr (inl (e.0, sym low ∙ e.1)))) (set_changes f (low_address a) y (byte_set f a x m) s b))
    (λ _. inl refl)

put_changes : (e : End) (v : Data) (f a : ℕ) (m : MemoryMeaning) (s b : ℕ) → a < 16777216
    → ((memory_put e v f a m).byte s b ≡ m.byte s b) ⊎ ((e ≡ InMemory) × SomeOf (IsByte m s b) (bytes_from (in_memory f) a (length (bytes_told v))))
put_changes InMemory v f a m s b h = ⊎_elim (λ e. inl e) (λ e. inr (refl, e)) (data_changes v f a m s b h)
put_changes InDevice v f a m s b h = inl refl
put_changes InChannel v f a m s b h = inl refl

-- The places of a cycle whose destination is memory.
side_memory : (t : Bool) (P : Place → Type 0) (f a n : ℕ) → cond t InMemory InDevice ≡ InMemory → SomeOf P (bytes_from (in_memory f) a n)
    → SomeOf P (bytes_from (λ x. cond t (in_memory f x) (in_device f x)) a n)
side_memory true P f a n e h = h
side_memory false P f a n e h = absurd cc

destination_memory : (t : Bool) (s : Side) (k : Config) (P : Place → Type 0) (f a n : ℕ) → fits false t Destination s ≡ true → side_end s k ≡ InMemory
    → SomeOf P (bytes_from (in_memory f) a n) → SomeOf P (places_written false t k Write f a n)
destination_memory true Memory k P f a n u e h = h
destination_memory true Device k P f a n u e h = no u
destination_memory false Memory k P f a n u e h = no u
destination_memory false Device k P f a n u e h = side_memory (is_device_memory k) P f a n e h

through_memory : (t : Bool) (k : Config) (kind : _) (P : Place → Type 0) (f a n : ℕ) → cond t InMemory InDevice ≡ InMemory
    → SomeOf P (bytes_from (in_memory f) a n) → SomeOf P (places_written true t k kind f a n)
through_memory true k kind P f a n e h = h
through_memory false k kind P f a n e h = absurd cc

written_memory : (si : Bool) (y : Way) (s : Side) (k : Config) (P : Place → Type 0) (f a n : ℕ) → fits si (is_inward k) y s ≡ true → destination_end_by y s k ≡ InMemory
    → SomeOf P (bytes_from (in_memory f) a n) → SomeOf P (places_written si (is_inward k) k (kind_by y k) f a n)
written_memory true Source s k P f a n u e h = no u
written_memory true Destination s k P f a n u e h = no u
written_memory true Through s k P f a n u e h = through_memory (is_inward k) k (kind_by Through k) P f a n e h
written_memory false Source s k P f a n u e h = absurd cc
written_memory false Destination s k P f a n u e h = destination_memory (is_inward k) s k P f a n u e h
written_memory false Through s k P f a n u e h = no u

-- A destination of the whole plan is one of the operand.
some_paired : (P : Place → Type 0) (fs ts : List Place) → length fs ≡ length ts → SomeOf P ts → SomeOf (λ w. P w.to) (paired fs ts)
some_paired P fs [] e h = absurd h
some_paired P [] (t ∷ ts) e h = absurd (omega arith)
some_paired P (f ∷ fs) (t ∷ ts) e (inl h) = inl h
some_paired P (f ∷ fs) (t ∷ ts) e (inr h) = inr (some_paired P fs ts (omega arith) h)

-- The operand at the address registers of an active channel is named.
named_destination : (m : MemoryMeaning) (s b : ℕ) (x : Channel) (k : Book) → InvX x k → is_active x.registers.status ≡ true → (left : ℕ) → x.registers.counters.mtc ≡ suc left
    → IsDestination m s b (operand x.registers.config x.registers.counters.mfc x.registers.counters.mar x.registers.counters.dar)
    → SomeOf (IsDestination m s b) k.ever
named_destination m s b x k p a left e h =
    let c = x.registers.config in
    let n = x.registers.counters in
    let l : SomeOf (IsDestination m s b) (operands c n.mfc n.mar n.dar n.mtc) = rw e (inl h) in
    let d : SomeOf (IsDestination m s b) k.named = subst (λ (z : List Operand). SomeOf (IsDestination m s b) z) (sym (p.active a).lists) (some_right (IsDestination m s b) k.delivered _ l) in
    subst (λ (z : List Operand). SomeOf (IsDestination m s b) z) (sym p.ever) (some_right (IsDestination m s b) p.past k.named d)

-- The places of a memory by another of the same spaces.
is_byte_in : (m n : MemoryMeaning) → n.space ≡ m.space → (s b : ℕ) (q : Place) → IsByte n s b q → IsByte m s b q
is_byte_in m n e s b (in_memory f a) h = (sym (ap (λ (g : ℕ → ℕ). g f) e) ∙ h.0, h.1)
is_byte_in m n e s b (in_device f a) h = absurd h
is_byte_in m n e s b bare_device h = absurd h

some_byte_in : (m n : MemoryMeaning) → n.space ≡ m.space → (s b : ℕ) (l : List Place) → SomeOf (IsByte n s b) l → SomeOf (IsByte m s b) l
some_byte_in m n e s b [] h = absurd h
some_byte_in m n e s b (q ∷ l) (inl h) = inl (is_byte_in m n e s b q h)
some_byte_in m n e s b (q ∷ l) (inr h) = inr (some_byte_in m n e s b l h)

moved_bytes : (m : MemoryMeaning) (s : Machine) (n : ℕ) (o : StepDone) (k : Book) (w : Moved s n o) → s.memory.space ≡ m.space
    → InvX (channel_at n s.dmac) k → is_active (channel_at n s.dmac).registers.status ≡ true → (i b : ℕ)
    → ((slot_made s n w.q w.last w.k w.h w.done).memory.byte i b ≡ s.memory.byte i b) ⊎ SomeOf (IsDestination m i b) k.ever
moved_bytes m s n o k w e p a i b =
    let x = channel_at n s.dmac in
    let c = x.registers.config in
    let r = x.registers.counters in
    let q = w.q in
    let si = is_single c in
    let inw = is_inward c in
    let v = slot_data q n w.h x s.memory s.bank in
    let l = length_got (source_end q c) n (slot_code q x) (slot_address q x) q.word w.h s.memory s.bank in
    let t = moving_slot s n o k w p a in
    let f = found w.k (plan c) q w.last w.slot in
    let op = moving s n o k w p a in
    let Q : Place → Type 0 = λ z. IsByte m i b z in
    ⊎_elim (λ z. inl z)
    (λ z.
    let places : SomeOf Q (bytes_from (in_memory (slot_code q x)) (slot_address q x) (count_of q.word)) =
    subst (λ (j : ℕ). SomeOf Q (bytes_from (in_memory (slot_code q x)) (slot_address q x) j)) l (some_byte_in m s.memory e i b _ z.1) in
    let tos : SomeOf Q (places_written si inw c (kind_by q.way c) (slot_code q x) (slot_address q x) (count_of q.word)) =
    written_memory si q.way q.side c Q (slot_code q x) (slot_address q x) (count_of q.word) t.fit z.0 places in
    let here : SomeOf Q (slot_tos c r si inw q) =
    subst (λ (j : ℕ). SomeOf Q (places_written si inw c (kind_by q.way c) (code_at q.side c r) j (count_of q.word))) (address_same q.side q.offset x)
    (subst (λ (j : ℕ). SomeOf Q (places_written si inw c (kind_by q.way c) j (slot_address q x) (count_of q.word))) (code_same q.side x) tos) in
    let at : k.gathered.tos ++ all_tos c r si inw (q ∷ drop (w.k + 1) (plan c)) ≡ all_tos c r si inw (plan c) = rw f.first at op.at_to in
    let all : SomeOf Q (all_tos c r si inw (plan c)) =
    subst (λ (y : List Place). SomeOf Q y) at
    (some_right Q k.gathered.tos (all_tos c r si inw (q ∷ drop (w.k + 1) (plan c))) (some_left Q (slot_tos c r si inw q) (all_tos c r si inw (drop (w.k + 1) (plan c))) here)) in
    let moves : SomeOf (λ y. Q y.to) (operand c r.mfc r.mar r.dar).moves =
    subst (λ (y : List Move). SomeOf (λ u. Q u.to) y) (moves_planned c r op.memory_even (p.active a).device_even)
    (some_paired Q (all_froms c r si inw (plan c)) (all_tos c r si inw (plan c)) (even_planned c r) all) in
    inr (named_destination m i b x k p a op.left op.some_left moves))
    (put_changes (destination_end q c) v (slot_code q x) (slot_address q x) s.memory i b (sent_below q.side q.offset x))

-- What a step leaves of a byte: it is as it was, or a destination of an operand that a channel's book has.
abbrev Left : MemoryMeaning → (ℕ → Book) → ℕ → ℕ → Machine → Machine → Type 0
Left m B i b old new = (new.memory.byte i b ≡ old.memory.byte i b) ⊎ ((n : ℕ) × (n < 4) × SomeOf (IsDestination m i b) (B n).ever)

outcome_left : (m : MemoryMeaning) (s : Machine) (B : ℕ → Book) (n : ℕ) (o : StepDone) (i b : ℕ) → s.memory.space ≡ m.space → Kept s B → Serves s.dmac n → Outcome s n o → Left m B i b s o.machine
outcome_left m s B n o i b e g v (quiet w) = inl (ap (λ (y : StepDone). y.machine.memory.byte i b) w.is)
outcome_left m s B n o i b e g v (failed w) = inl (ap (λ (y : StepDone). y.machine.memory.byte i b) w.is)
outcome_left m s B n o i b e g v (fetched w) = inl (ap (λ (y : StepDone). y.machine.memory.byte i b) w.is)
outcome_left m s B n o i b e g v (moved w) =
    subst (λ (y : StepDone). Left m B i b s y.machine) (sym w.is)
    (⊎_elim (λ z. inl z) (λ h. inr (n, v.is_channel, h)) (moved_bytes m s n o (B n) w e (g.each n v.is_channel) v.active i b))

chosen_left : (h : Option ℕ) (code : ℕ) (done : Bool) (m : MemoryMeaning) (s : Machine) (B : ℕ → Book) (i b : ℕ) → chosen s.dmac ≡ h → s.memory.space ≡ m.space → Kept s B
    → Left m B i b s (step_chosen h code done s).machine
chosen_left None code done m s B i b q e g = inl refl
chosen_left (Some n) code done m s B i b q e g = outcome_left m s B n (step_on n code done s) i b e g (serves s B n g q) (step_is n code done s)

step_left : (code : ℕ) (done : Bool) (m : MemoryMeaning) (s : Machine) (B : ℕ → Book) (i b : ℕ) → s.memory.space ≡ m.space → Kept s B → Left m B i b s (step_called code done s).machine
step_left code done m s B i b e g =
    step_cases code done s (λ y. Left m B i b s y.machine) (inl refl) (chosen_left (chosen s.dmac) code done m s B i b refl e g) (inl refl)

-- A call's bytes: as they were, or meant.
abbrev MeantOnly : MemoryMeaning → Past → Past → Type 0
MeantOnly m p q = (i b : ℕ) → (q.machine.memory.byte i b ≡ p.machine.memory.byte i b) ⊎ IsMeant m i b q

settled_ever : (n : ℕ) (p : Past) → (settled_before (registers_of n p.machine) (p.books n)).ever ≡ (p.books n).ever
settled_ever n p = cond_both (is_active (registers_of n p.machine).status) _ _ (λ (y : Book). y.ever ≡ (p.books n).ever) (λ _. refl) (λ _. refl)

pub step_bytes : (code : ℕ) (done : Bool) (m : MemoryMeaning) (p : Past) → p.machine.memory.space ≡ m.space → Kept p.machine p.books → MeantOnly m p (stepped code done p)
step_bytes code done m p e g i b =
    ⊎_elim (λ z. inl z)
    (λ h. inr (meant_stays m i b (Step code done) (step_called code done p.machine) p (inl (h.0, h.1, subst (λ (l : List Operand). SomeOf (IsDestination m i b) l) (settled_ever h.0 p) h.2))))
    (step_left code done m p.machine (λ n. settled_before (registers_of n p.machine) (p.books n)) i b e (settled_kept p.machine p.books g))

pub store_bytes : (f a v : ℕ) (m : MemoryMeaning) (p : Past) → p.machine.memory.space ≡ m.space → MeantOnly m p (noted (Store f a v) (store_called f a v p.machine) p)
store_bytes f a v m p e i b =
    cond_both (is_storable f a p.machine.memory) _ _
    (λ (y : Stored). (y.memory.byte i b ≡ p.machine.memory.byte i b) ⊎ IsMeant m i b (noted (Store f a v) (record { machine = with_memory y.memory p.machine; reply = done_replied y.answer }) p))
    (λ _. ⊎_elim (λ z. inl z) (λ z. inr (inr (some_right _ p.stores _ (inl (sym (ap (λ (g : ℕ → ℕ). g f) e) ∙ z.0, z.1))))) (set_changes f a v p.machine.memory i b))
    (λ _. inl refl)
