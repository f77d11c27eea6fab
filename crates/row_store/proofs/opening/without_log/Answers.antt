use Rattle.std.proofs.Common.{refl, sym, true≢false, ◌∙◌}
use Rattle.row_store.proofs.Opened.{never, under}
use Rattle.row_store.proofs.opening.without_log.Goals as goal

pub returns-then-is_settled-clause-same : goal.returns-then-is_settled-clause-same
returns-then-is_settled-clause-same g c clean =
    let opened = (c.requires.opened clean).0 in
    record { was_clean = clean; was_open = opened.is_open; is_open = opened.is_open; now = refl }

pub returns-clause-nothing : goal.returns-clause-nothing
returns-clause-nothing g c =
    never c.copied.result _ _ (λ none. true≢false (sym (c.is_settled.ensures none) ∙ c.if-is_settled.false))

pub returns-clause-shielded : goal.returns-clause-shielded
returns-clause-shielded g c = under c.copied.result _ _ c.copied.ensures.shielded
