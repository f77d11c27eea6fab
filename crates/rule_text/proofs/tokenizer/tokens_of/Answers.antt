use Rattle.std.proofs.Common.{◌≡◌, ◌<◌, ◌∙◌, Err, ap, sym, length, rules}
use Rattle.rule_text.proofs.Strings.{gap-within, token-within}
use Rattle.rule_text.proofs.Tokens.{goes_on-gap, goes_on-token, stops-stray, stops-token}
use Rattle.rule_text.proofs.tokenizer.tokens_of.Goals as goal
use Rattle.rule_text.proofs.tokenizer.tokens_of.Goals.{in-Gap, in-Spelled+in_ok-expected-in-Spelled}

pub split_at-requires : goal.split_at-requires
split_at-requires c =
    let some : 0 < length c.loop-rest.rest.now = search rules in
    elim c.match-branch-2.branch [
      | in-Gap w ↦ rw w.more-is (gap-within _ _ some (sym c.in_ok-more.ensures ∙ w.in-Gap.is))
      | in-Spelled+in_ok-expected-in-Spelled w ↦ rw w.more-is (token-within _ _ _ some
          (sym c.in_ok-more.ensures ∙ w.in-Spelled.is))
    ]

pub overflow_add-more : goal.overflow_add-more
overflow_add-more c =
    let some : 0 < length c.loop-rest.rest.now = search rules in
    elim c.match-branch-2.branch [
      | in-Gap w ↦ let within = gap-within _ _ some (sym c.in_ok-more.ensures ∙ w.in-Gap.is) in search rules
      | in-Spelled+in_ok-expected-in-Spelled w ↦ let within = token-within _ _ _ some
          (sym c.in_ok-more.ensures ∙ w.in-Spelled.is) in search rules
    ]

pub loop-rest-preserved : goal.loop-rest-preserved
loop-rest-preserved c =
    let some : 0 < length c.loop-rest.rest.now = search rules in
    record {
      counted = search rules;
      line = search rules;
      column = search rules;
      so_far = elim c.match-branch-2.branch [
        | in-Gap w ↦ let step = goes_on-gap _ _ _ _ _ _ some (sym c.in_ok-more.ensures ∙ w.in-Gap.is)
            c.loop-rest.invariant.so_far in search (rules, step)
        | in-Spelled+in_ok-expected-in-Spelled w ↦ let step = goes_on-token _ _ _ _ _ _ _ _ some
            (sym c.in_ok-more.ensures ∙ w.in-Spelled.is) w.in_ok-expected-in-Spelled.ensures.leads
            c.loop-rest.invariant.so_far in search (rules, step)
      ];
    }

pub returns-in_err-expected-in-Spelled-clause-fault : goal.returns-in_err-expected-in-Spelled-clause-fault
returns-in_err-expected-in-Spelled-clause-fault c =
    let some : 0 < length c.loop-rest.rest.now = search rules in
    let fault = c.in_err-expected-in-Spelled.field-0.0 in
    let is : c.from_residual-in_err-expected-in-Spelled.result ≡ Err fault = search rules in
    rw is (λ apart. let told = c.in_err-expected-in-Spelled.ensures.fault apart in
    stops-token _ _ _ _ _ _ _ some (sym c.in_ok-more.ensures ∙ c.in-Spelled.is) told.0 c.loop-rest.invariant.so_far
    ∙ ap Err (sym told.1))

pub returns-in-Stray-clause-fault : goal.returns-in-Stray-clause-fault
returns-in-Stray-clause-fault c =
    let some : 0 < length c.loop-rest.rest.now = search rules in
    λ _. stops-stray _ _ _ _ _ some (sym c.in_ok-more.ensures ∙ c.in-Stray.is) c.loop-rest.invariant.so_far
