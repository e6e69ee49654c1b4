-- What of a bank is lent. A caller that lends one knows by it that a call has kept the reference it was given, and so
-- that what the bank means behind that reference is what it means to the caller afterwards.
use Rattle.std.specs.Borrow.{GName}

-- Nothing is; or all is, by a reference of this ghost name, and what it lends may be lent in turn; or it is two banks,
-- and something of each.
pub data Loans : Type 0 where
  Owned : Loans
  Lent : GName → Loans → Loans
  Beside : Loans → Loans → Loans
