use Rattle.std.proofs.Common.{◌∙◌, ap, sym, arith}
use Rattle.desk_base.specs.Counts.{Counts}
use Rattle.fix_model.specs.Rules.{master_of, rule_at}
use Rattle.fix_model.specs.Sought.{aims_of, Meets}
use Rattle.fix_model.specs.States.{IsCovered}
use Rattle.fix_model.proofs.Aims.{HasColumns-aims_of, Meets-agreeing, RowAgreesAt-met}
use Rattle.fix_model.proofs.Hits.{is_some-first}
use Rattle.master_index.specs.Index.{first_key}
use Rattle.master_index.proofs.Rows.{AreCandidates-rows_alike}
use Rattle.master_index.proofs.map_book.MapBookBook.agrees.Goals as goal

pub first_among-requires : goal.first_among-requires
first_among-requires g c =
    let kit = c.self.inside.inside in
    let state = c.args.state.now in
    let this = c.rule-this.result.now in
    let valid = c.rule-this.ensures.valid c.self.invariant.0 in
    let covered : IsCovered state (first_key this).0 = rw c.as_slice.ensures
    at (c.covers.ensures.0 c.if-not-covers.false) in
    record {
      columns = rw (c.master.ensures, c.at-sought.ensures) (HasColumns-aims_of kit state this valid);
      rows = rw (c.master.ensures, c.at-sought.ensures, c.rows_alike-rows.ensures, ← c.rule-this.ensures.rule)
          (AreCandidates-rows_alike kit state this valid covered);
    }

pub returns-clause-agrees : goal.returns-clause-agrees
returns-clause-agrees g c =
    let kit = c.args.self.now in
    let state = c.args.state.now in
    let rule = rule_at kit c.args.rule in
    let first = rw (c.master.ensures, c.at-sought.ensures, c.rule-this.ensures.rule, c.self.view_is)
    at c.first_among.ensures in
    let iff = is_some-first (Meets (master_of kit rule) rule (aims_of kit state rule)) c.first_among.result first in (
      λ told. let some = iff.0 (sym c.is_some.ensures ∙ told) in (some.0, RowAgreesAt-met kit state rule some.0 some.1),
      λ some. c.is_some.ensures ∙ iff.1 (some.0, Meets-agreeing kit state rule some.0 some.1),
    )

-- where the first key is not covered, the rows are gone through
pub returns-then-not-covers : goal.returns-then-not-covers
returns-then-not-covers g c = record {
  agrees = rw (c.rule-this.ensures.rule, c.self.view_is) at c.some_row_agrees.ensures;
  looks = ap (λ (counts : Counts). counts.looks) c.look.ensures;
  compares = omega (arith, ap (λ (counts : Counts). counts.compares) c.look.ensures);
}

pub rows_alike-rows-requires-clause-fits : goal.rows_alike-rows-requires-clause-fits
rows_alike-rows-requires-clause-fits g c = rw c.self.view_is c.requires.fits

pub rows_alike-rows-requires-clause-index : goal.rows_alike-rows-requires-clause-index
rows_alike-rows-requires-clause-index g c = c.self.invariant.1
