-- The worked histories, by computing them.
use Rattle.std.proofs.Common.{refl}
use Rattle.audit.specs.Operand.{operand}
use Rattle.audit.specs.Book.{block_named, gathered_more, operand_added, book_fed}
use Rattle.audit.specs.Examples.{HistoriesHold}

pub histories_hold : HistoriesHold
unfolding operand block_named gathered_more operand_added book_fed
histories_hold = refl
