-- The place that is found is that of the first channel inside.
use Rattle.std.proofs.Common.{rules, ◌≡◌, length, sym, ◌∙◌, arith}
use Rattle.std.proofs.lemmas.Iterator.{YieldsList-from_slice}
use Rattle.std.proofs.lemmas.Iterator.Search.{position_from_yields_List}
use borrow.Author.Tests.{tests}
use Rattle.channel.specs.Requests.{is_inside}
use Rattle.dmac.proofs.Inside.{inside_found}
use Rattle.dmac.proofs.controller.Dmac.inside.Goals as goal

pub returns-clause-value : goal.returns-clause-value
returns-clause-value c =
    let four : length c.args.self.now.channels ≡ 4 = omega arith in
    sym c.in_ok-channel.was
    ∙ position_from_yields_List is_inside _ _ _ c.position.ensures.ran (YieldsList-from_slice c.args.self.now.channels cc) (λ x b q k. search (rules, tests))
    ∙ inside_found c.args.self.now.channels four
