-- All are digits where each is.
use Rattle.std.proofs.Common.{refl, is_some, rules}
use Rattle.std.proofs.lemmas.List.Recursion.{and_is}
use Rattle.script.specs.Digits.{hex_digit, all_digits}
use Rattle.script.proofs.digits.all_digits.Goals as goal

pub returns : goal.returns
returns c = and_is all_digits (λ code. is_some (hex_digit code)) refl (λ _ _. refl) c.args.codes.now 0 _ (search rules) (search rules)
