-- The text so far and that of the records to come is the whole text.
use Rattle.std.proofs.Common.{◌≡◌, ◌++◌, vec_items}
use Rattle.queue.specs.Queue.{held, left}
use Rattle.monitor.specs.Records.{records_text}
use Rattle.monitor.proofs.records.put_records.Given as goal

abbrev pub invariant-loop-told : goal.invariant-loop-told
invariant-loop-told l = vec_items l.out ++ records_text (left l.told-iterator) ≡ vec_items l.initial.out ++ records_text (held l.trace)
