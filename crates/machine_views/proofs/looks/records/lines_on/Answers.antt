use Rattle.std.proofs.Common.{◌<◌, ◌≤◌, ◌∙◌, ap, arith, length, sym}
use Rattle.machine_views.proofs.Recording.{lines-all, lines-kept, lines-left}
use Rattle.machine_views.proofs.looks.records.lines_on.Goals as goal
use Rattle.machine_views.proofs.looks.records.lines_on.Goals.{then-is_on+in_ok-record_line+in_ok-push, else-is_on}

pub records-preserved : goal.records-preserved
records-preserved c =
    let own = c.args.own.now in
    let place = c.records.place in
    let row = c.row-item.result in
    let within : place < length own.records =
    omega (arith, c.records-test.true, ap length c.records-row-items.ensures) in
    let is = rw c.records-row-items.ensures at c.row-item.is in
    let test = rw c.sessions.ensures at c.is_on.ensures in
    elim c.if-is_on.branch [
      | then-is_on+in_ok-record_line+in_ok-push w ↦ lines-kept own c.args.edition place row within is c.records.lines
          c.if-is_on.lines w.in_ok-record_line.field-0 (sym test ∙ w.if-is_on.true) c.records.invariant
          w.in_ok-record_line.ensures (w.lines-is ∙ w.in_ok-push.ensures.pushed)
      | else-is_on w ↦ lines-left own c.args.edition place row within is c.records.lines c.if-is_on.lines
          (sym test ∙ w.if-is_on.false) c.records.invariant w.lines-is
    ]

pub returns : goal.returns
returns c =
    let own = c.args.own.now in
    let past : length own.records ≤ c.records.place =
    omega (arith, c.records-test.false, ap length c.records-row-items.ensures) in
    lines-all own c.args.edition c.records.place c.records.lines past c.records.invariant
