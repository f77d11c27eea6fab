use Rattle.http_cut.proofs.Heads.{HasNoRequest-none, fields_at, overflows_none}
use Rattle.http_cut.proofs.head_fields.HeadFields.of.Goals as goal
use Rattle.http_cut.proofs.head_fields.HeadFields.of.Goals.{in-Whole, in-Unfinished, in-Never}

-- the fields are those of the head that was found, and one was found
pub returns-clause-fields : goal.returns-clause-fields
returns-clause-fields c = λ head has.
    let bytes = c.args.bytes.now in
    elim c.match-parse.branch [
      | in-Whole w ↦
          let whole = w.in-Whole.ensures in
          rw w.count-is (fields_at bytes c.parse.new.headers w.in-Whole.spans whole.0 head whole.1 has)
      | in-Unfinished w ↦ absurd (HasNoRequest-none bytes w.in-Unfinished.ensures.0 head has)
      | in-Never w ↦ absurd (overflows_none bytes w.in-Never.ensures head has)
    ]
