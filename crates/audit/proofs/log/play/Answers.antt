-- Each turn logs one entry; at the end all are logged, and tell a lawful history.
use Rattle.std.proofs.Common.{◌<◌, ◌≤◌, length, Ok, ◌∙◌, arith}
use Rattle.queue.specs.Queue.{held, capacity_of}
use Rattle.dmac.specs.Controller.{new_controller}
use Rattle.dmac.specs.Step.{machine_at, machine_of}
use Rattle.audit.specs.Calls.{ReadByte, Byte}
use Rattle.audit.specs.Played.{calls_of, played}
use Rattle.audit.proofs.Logs.{turn_again, play_end, played_lawfully}
use Rattle.audit.proofs.log.play.Goals as goal

pub loop-entry-preserved : goal.loop-entry-preserved
loop-entry-preserved g c =
    let lt : c.loop-entry.entry-index < length c.loop-entry.log = omega (arith, c.loop-entry.auto.log) in (
      turn_again c.loop-entry.log c.loop-entry.entry-index (record { call = ReadByte 0; room = 0; reply = Ok (Byte 0) })
          (capacity_of c.loop-entry.trace) (capacity_of c.perform-entry.new.trace) c.room-entry.result
          (machine_at g.M.Memory.means g.D.DeviceBank.bank c.loop-entry.dmac c.loop-entry.around)
          (held c.loop-entry.trace)
          (played (calls_of c.args.log.now) (capacity_of c.args.trace.now)
          (machine_at g.M.Memory.means g.D.DeviceBank.bank new_controller c.args.around.now) (held c.args.trace.now))
          (record {
            machine = machine_at g.M.Memory.means g.D.DeviceBank.bank c.perform-entry.new.dmac c.perform-entry.new.around;
            trace = held c.perform-entry.new.trace;
            reply = c.perform-entry.result;
          })
          lt c.perform-entry.ensures.done c.room-entry.ensures c.perform-entry.ensures.room c.loop-entry.invariant.0,
      c.perform-entry.ensures.room ∙ c.loop-entry.invariant.1,
      c.perform-entry.ensures.lent ∙ c.loop-entry.invariant.2,
    )

pub returns : goal.returns
returns g c =
    let le : length c.loop-entry.log ≤ c.loop-entry.entry-index = omega (arith, c.loop-entry.auto.log) in
    let m = g.M.Memory.means c.args.around.now.memory in
    let b = g.D.DeviceBank.bank c.args.around.now.devices in
    let whole = played (calls_of c.args.log.now) (capacity_of c.args.trace.now) (machine_of new_controller m b) (held c.args.trace.now) in
    let e = play_end c.loop-entry.log c.loop-entry.entry-index (capacity_of c.loop-entry.trace)
    (machine_at g.M.Memory.means g.D.DeviceBank.bank c.loop-entry.dmac c.loop-entry.around)
    (held c.loop-entry.trace) whole le c.loop-entry.invariant.0 in
    record {
      played = e;
      lawful = played_lawfully (calls_of c.args.log.now) (capacity_of c.args.trace.now) (held c.args.trace.now) m b
          (record {
            machine = machine_at g.M.Memory.means g.D.DeviceBank.bank c.loop-entry.dmac c.loop-entry.around;
            trace = held c.loop-entry.trace;
            entries = c.loop-entry.log;
          }) e;
      lent = c.loop-entry.invariant.2;
    }
