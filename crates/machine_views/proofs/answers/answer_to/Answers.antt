use Rattle.machine_views.proofs.answers.answer_to.Goals as goal

pub decide-verdict-requires-clause-fits : goal.decide-verdict-requires-clause-fits
decide-verdict-requires-clause-fits c =
    c.in_ok-state.ensures.fits c.args.shelved.now.book c.requires.suits.typed

pub shown_state-shown-requires-clause-fits : goal.shown_state-shown-requires-clause-fits
shown_state-shown-requires-clause-fits c =
    rw c.decide-verdict.ensures.state (c.in_ok-state.ensures.fits c.args.shelved.now.book c.requires.suits.typed)
