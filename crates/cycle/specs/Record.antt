-- How a cycle is told.
use Rattle.std.specs.Prelude.{ℕ}
use Rattle.cycle.specs.declared.record.Kind.{Kind}
use Rattle.cycle.specs.declared.record.Kind.TheVariants.{Read, Write, Entry}

-- 82 is 'R' for a read, 87 is 'W' for a write, 66 is 'B' for a word of an entry.
abbrev pub kind_letter : Kind → ℕ
kind_letter Read = 82
kind_letter Write = 87
kind_letter Entry = 66
