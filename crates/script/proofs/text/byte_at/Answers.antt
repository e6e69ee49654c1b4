-- The pair at the index spells the byte; past the last pair there is none.
use Rattle.std.proofs.Common.{◌/◌, [], get_or, length, refl, rules}
use Rattle.std.proofs.lemmas.List.{get_or_past}
use Rattle.std.specs.Simd.{first_chunks}
use Rattle.script.proofs.Pairs.{pair_byte, data_count}
use Rattle.script.proofs.text.byte_at.Goals as goal

pub returns-then-index-data_count : goal.returns-then-index-data_count
returns-then-index-data_count c =
    let s = c.args.digits.now in
    let i = c.args.index in
    let byte = pair_byte s i (get_or (first_chunks 2 (length s / 2) s) i []) refl in
    search (rules, byte)

pub returns-else-index-data_count : goal.returns-else-index-data_count
returns-else-index-data_count c = search (rules, data_count, get_or_past)
