use Rattle.std.proofs.Common.{◌<◌, ◌≤◌, inl, inr, rules, refl}
use Rattle.std.proofs.lemmas.Bool.{cases_lt}
use Rattle.desk_base.specs.declared.limits.TheConstants.{MAX_ENTRIES}
use Rattle.fix_model.specs.Entries.{entries}
use Rattle.clean_run.proofs.Settings.{indexed-small, indexed-wide}
use Rattle.clean_run.proofs.prepared.book_of.Goals as goal

pub returns-in-Ok-clause-book : goal.returns-in-Ok-clause-book
returns-in-Ok-clause-book c =
    let small : entries c.args.kit ≤ MAX_ENTRIES = elim (cases_lt MAX_ENTRIES (entries c.args.kit)) [
      | inl wide ↦ absurd (let refused = (c.build.ensures.too_wide (entries c.args.kit)).1 (refl, wide) in
          let built = c.in-Ok.is in cc)
      | inr small ↦ small
    ] in
    indexed-small c.args.kit _ small c.in-Ok.ensures.book

pub returns-in_ok-refused-in-Err-TooWide-clause-fault : goal.returns-in_ok-refused-in-Err-TooWide-clause-fault
returns-in_ok-refused-in-Err-TooWide-clause-fault c =
    let refused = (c.in-Err-TooWide.ensures.too_wide c.in-Err-TooWide.entries).0 (search rules) in
    let wide : MAX_ENTRIES < entries c.args.kit = rw (← refused.0) refused.1 in
    let is = indexed-wide c.args.kit wide in
    search (rules, is)
