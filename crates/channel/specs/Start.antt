-- Starting, continuing and aborting: what a write to the channel control register CCR does.
use Rattle.std.specs.Prelude.{ℕ, Bool, true, false, cond, not, ◌&&◌, List, [], ◌∷◌, Some, None, Option, ◌==◌}
use Rattle.registers.specs.Bits.{any, odd}
use Rattle.registers.specs.Checks.{Check, check, first_failing}
use Rattle.registers.specs.Config.{is_port16, is_single, is_chained, is_array, is_misplaced, is_unusable}
use Rattle.registers.specs.Control.{stored, continued}
use Rattle.registers.specs.Status.{is_active, is_busy, is_block_done, activated}
use Rattle.registers.specs.declared.fault.Fault.{Fault}
use Rattle.registers.specs.declared.fault.Fault.TheVariants.{Configuration, Timing, MemoryAddress, DeviceAddress, BaseAddress, MemoryCount, BaseCount, Abort}
use Rattle.registers.specs.declared.groups.Counters.{Counters}
use Rattle.registers.specs.declared.groups.Registers.{Registers}
use Rattle.channel.specs.State.{Channel, Idle, Fetching, NoWord, with_counters, with_status, with_control, with_phase, with_requests, channel_failed}

-- The checks of a start, in their order:
--   2   something of an earlier operation stands in the status
--   1   the settings are unusable (with CNT or without)
--   5   unchained, an operand above a byte, MAR odd
--   6   dual addressing, 16-bit port, an operand above a byte, DAR odd
--   7   chained, BAR odd
--  13   unchained, MTC 0
--  15   array, BTC 0
abbrev pub start_checks : Bool → Registers → List (Check Fault)
start_checks cnt r =
    check (is_busy r.status) Timing
    ∷ check (is_unusable cnt r.config) Configuration
    ∷ check (not (is_chained r.config) && is_misplaced r.config r.counters.mar) MemoryAddress
    ∷ check (not (is_single r.config) && (is_port16 r.config && is_misplaced r.config r.counters.dar)) DeviceAddress
    ∷ check (is_chained r.config && odd r.table.bar) BaseAddress
    ∷ check (not (is_chained r.config) && r.counters.mtc == 0) MemoryCount
    ∷ check (is_array r.config && r.table.btc == 0) BaseCount
    ∷ []

-- The error of a start, if it does not pass.
abbrev pub start_fault : Bool → Registers → Option Fault
start_fault cnt r = first_failing (start_checks cnt r)

-- The counters as a start leaves them: a chained start clears MTC.
abbrev pub counters_started : Bool → Counters → Counters
counters_started chained n = record { mtc = cond chained 0 n.mtc; mar = n.mar; dar = n.dar; mfc = n.mfc }

-- A start that passes: ACT is set, and CNT if it was written; a latched request is dropped, and the operation's
-- first operand is to come. A chained operation begins by fetching an entry, an unchained one with an operand.
abbrev pub started : Bool → Channel → Channel
started cnt c =
    with_phase (cond (is_chained c.registers.config) (Fetching NoWord) Idle)
    (with_counters (counters_started (is_chained c.registers.config) c.registers.counters)
    (with_requests c.line false true
    (with_control (cond cnt (continued c.registers.control) c.registers.control)
    (with_status (activated c.registers.status) c))))

abbrev pub start_tried_by : Option Fault → Bool → Channel → Channel
start_tried_by None cnt c = started cnt c
start_tried_by (Some f) cnt c = channel_failed f c

-- STR, with or without CNT: the start passes, or it is an error.
abbrev pub start_tried : Bool → Channel → Channel
start_tried cnt c = start_tried_by (start_fault cnt c.registers) cnt c

-- CNT without STR: error 2 unless active, 1 under chaining, 2 while the block bit stands; else CNT is set.
abbrev pub continue_tried : Channel → Channel
continue_tried c =
    cond (not (is_active c.registers.status)) (channel_failed Timing c)
    (cond (is_chained c.registers.config) (channel_failed Configuration c)
    (cond (is_block_done c.registers.status) (channel_failed Timing c)
    (with_control (continued c.registers.control) c)))

-- SAB aborts an active channel, and lets STR and CNT go unheeded.
abbrev pub abort_tried : Channel → Channel
abort_tried c = cond (is_active c.registers.status) (channel_failed Abort c) c

-- What SAB, STR and CNT of a written byte do; a 0 does nothing.
abbrev pub commanded : ℕ → Channel → Channel
commanded v c =
    cond (any 0x10 v) (abort_tried c)
    (cond (any 0x80 v) (start_tried (any 0x40 v) c)
    (cond (any 0x40 v) (continue_tried c) c))

-- A write to CCR stores HLT and INT, then does what its other bits say.
abbrev pub control_written : ℕ → Channel → Channel
control_written v c = commanded v (with_control (stored v c.registers.control) c)
