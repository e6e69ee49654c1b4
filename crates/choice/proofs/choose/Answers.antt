-- The first that asks is the one to serve, and nothing else keeps the rule.
use Rattle.std.proofs.Common.{Some, rules}
use Rattle.choice.proofs.Rule.{chosen_is}
use Rattle.choice.proofs.choose.Goals as goal

pub returns-then-asks-clause-function : goal.returns-then-asks-clause-function
returns-then-asks-clause-function c =
    chosen_is c.args.counts c.args.priorities c.args.last (Some c.channel_at-channel.result) (search rules)
