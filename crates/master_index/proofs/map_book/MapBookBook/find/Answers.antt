use Rattle.std.proofs.Common.{◌<◌, length, arith}
use Rattle.fix_model.specs.States.{IsCovered}
use Rattle.fix_model.proofs.Aims.{HasColumns-aims_of, IsFound-met}
use Rattle.master_index.specs.Index.{first_key}
use Rattle.master_index.proofs.Rows.{AreCandidates-rows_alike}
use Rattle.master_index.proofs.map_book.MapBookBook.find.Goals as goal

pub hit_among-requires : goal.hit_among-requires
hit_among-requires g c =
    let kit = c.self.inside.inside in
    let state = c.args.state.now in
    let this = c.rule-this.result.now in
    let valid = c.rule-this.ensures.valid c.self.invariant.0 in
    let some : 0 < length this.keys = omega (arith, valid.keys.some) in
    let keys = rw (← c.self.view_is, ← c.rule-this.ensures.rule) at c.requires.covered in
    let covered : IsCovered state (first_key this).0 = keys 0 (0, 0) some in
    record {
      columns = rw (c.master.ensures, c.at-sought.ensures) (HasColumns-aims_of kit state this valid);
      rows = rw (c.master.ensures, c.at-sought.ensures, c.rows_alike-rows.ensures, ← c.rule-this.ensures.rule)
          (AreCandidates-rows_alike kit state this valid covered);
    }

pub returns-clause-found : goal.returns-clause-found
returns-clause-found g c =
    let met = rw (c.master.ensures, c.at-sought.ensures, c.rule-this.ensures.rule, c.self.view_is)
    at c.hit_among.ensures in
    IsFound-met c.args.self.now c.args.state.now _ c.requires.covered c.hit_among.result met
