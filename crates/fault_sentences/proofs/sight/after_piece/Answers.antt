use Rattle.std.proofs.Common.{◌∙◌, sym, arith, rules}
use Rattle.rule_text.proofs.Strings.{gap-within, token-within}
use Rattle.fault_sentences.proofs.sight.after_piece.Goals as goal

pub overflow_add-more : goal.overflow_add-more
overflow_add-more c =
    let within = token-within _ _ _ c.requires (sym c.in_ok-more.ensures ∙ c.in-Spelled.is) in
    search (rules, within)

pub slice_bounds-rule_after-end : goal.slice_bounds-rule_after-end
slice_bounds-rule_after-end c =
    let within = token-within _ _ _ c.requires (sym c.in_ok-more.ensures ∙ c.in-Spelled.is) in
    search (rules, within)

pub returns-in-Gap-clause-within : goal.returns-in-Gap-clause-within
returns-in-Gap-clause-within c =
    let within = gap-within _ _ c.requires (sym c.in_ok-more.ensures ∙ c.in-Gap.is) in omega (arith, within)

pub returns-in-Spelled-clause-within : goal.returns-in-Spelled-clause-within
returns-in-Spelled-clause-within c =
    let within = token-within _ _ _ c.requires (sym c.in_ok-more.ensures ∙ c.in-Spelled.is) in omega (arith, within)
