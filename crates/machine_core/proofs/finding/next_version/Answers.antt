use Rattle.std.proofs.Common.{◌∙◌, ◌+◌, ap, sym, arith}
use Rattle.std.proofs.lemmas.List.Sums.{count_by-le-length}
use Rattle.std.specs.Str.{bytes_eq}
use Rattle.machine_core.proofs.Newest.{version-read}
use Rattle.machine_core.proofs.finding.next_version.Goals as goal

pub overflow_add-result : goal.overflow_add-result
overflow_add-result g c =
    let version = version-read g.T.Versioned.name_of g.T.Versioned.version_of c.args.rows.now c.args.name.now
    c.requires.versions c.in-Some.place c.index-rows-place.result c.in-Some.ensures.last c.index-rows-place.is in
    omega (
      arith,
      c.version.ensures ∙ version,
      c.requires.few,
      count_by-le-length (λ row. bytes_eq (g.T.Versioned.name_of row) c.args.name.now) c.args.rows.now,
    )

pub returns-in-Some : goal.returns-in-Some
returns-in-Some g c =
    ap (λ one. one + 1) (c.version.ensures ∙ version-read g.T.Versioned.name_of g.T.Versioned.version_of
    c.args.rows.now c.args.name.now c.requires.versions c.in-Some.place c.index-rows-place.result
    c.in-Some.ensures.last c.index-rows-place.is)

pub returns-in-None : goal.returns-in-None
returns-in-None g c = ap (λ one. one + 1) (sym (c.in-None.ensures.last))
