use Rattle.std.proofs.Common.{ap, arith, length}
use Rattle.machine_core.specs.Answers.{state_of}
use Rattle.machine_core.specs.Look.Suggest.{regions_of}
use Rattle.machine_views.proofs.Advising.{gains-named, need-named}
use Rattle.machine_views.proofs.looks.suggest.suggestion_on.Goals as goal

pub named_suggestion-requires-clause-need : goal.named_suggestion-requires-clause-need
named_suggestion-requires-clause-need c place past inside =
    let regions = regions_of c.args.tables.now.regions.items c.args.asked.now.session.now.edition in
    let named = need-named c.args.asked.now.shelved.now.book (state_of c.args.asked.now.session.now) regions
    c.in_ok-suggestion.suggestion
    c.in_ok-suggestion.ensures.suggestion place past inside in
    omega (arith, named, ap length c.as_slice.ensures, c.requires.book.suits.book.named.attributes)

pub named_suggestion-requires-clause-gains : goal.named_suggestion-requires-clause-gains
named_suggestion-requires-clause-gains c place past inside =
    let regions = regions_of c.args.tables.now.regions.items c.args.asked.now.session.now.edition in
    let named = gains-named c.args.asked.now.shelved.now.book (state_of c.args.asked.now.session.now) regions
    c.in_ok-suggestion.suggestion
    c.in_ok-suggestion.ensures.suggestion place past inside in
    omega (arith, named, ap length c.as_slice.ensures, c.requires.book.suits.book.named.attributes)
