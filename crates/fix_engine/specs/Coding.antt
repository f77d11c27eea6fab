-- How what a clause sees of a work is stored.
use Rattle.std.specs.Prelude.{ℕ, List, refl}
use Rattle.std.specs.Coded.{Coded, code_by, coded×, coded_list, coded_ℕ}
use Rattle.fix_model.specs.declared.state.Step.{Step}
use Rattle.fix_engine.specs.WorkSeen.{WorkSeen}

-- a step is the pair of its numbers
abbrev pub step_code : Coded Step
step_code = code_by (ℕ × ℕ) (coded× coded_ℕ coded_ℕ) (λ s. (s.rule, s.row)) (λ p. record { rule = p.0; row = p.1 })
    (λ _. refl)

-- the tuple of the fields
abbrev pub work_seen_code : Coded WorkSeen
work_seen_code =
    code_by (List Step × (List Step × (ℕ × ℕ)))
    (coded× (coded_list step_code) (coded× (coded_list step_code) (coded× coded_ℕ coded_ℕ)))
    (λ w. (w.first, (w.second, (w.width, w.rules))))
    (λ (first, (second, (width, rules))). record { first = first; second = second; width = width; rules = rules })
    (λ _. refl)
