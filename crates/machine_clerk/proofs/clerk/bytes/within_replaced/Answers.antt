use Rattle.std.proofs.Common.{◌<◌, ◌-◌, ◌∙◌, ap, arith, length}
use Rattle.desk_valid.specs.Tallies.{bytes_in}
use Rattle.machine_core.proofs.ReadRows.{row-stands}
use Rattle.machine_clerk.proofs.FewTexts.{bytes-replaced, one-session}
use Rattle.machine_clerk.proofs.clerk.bytes.within_replaced.Goals as goal

pub bytes_in-gone-requires : goal.bytes_in-gone-requires
bytes_in-gone-requires c =
    let within : c.args.number - 1 < length c.args.own.now.sessions = omega (arith, c.requires.counted, c.requires.within)
    in
    let few = rw (row-stands c.sessions.ensures within c.index-sessions-number.is) at c.requires.narrow in
    omega (arith, few, ap length c.as_slice.ensures)

pub within_exchanged-requires : goal.within_exchanged-requires
within_exchanged-requires c =
    let gone = c.bytes_in-gone.ensures.bytes ∙ ap bytes_in c.as_slice.ensures in
    omega (
      arith,
      gone,
      one-session c.args.own.now.records c.sessions.ensures
          (omega (arith, c.requires.counted, c.requires.within)) c.index-sessions-number.is,
    )

pub returns-clause-finds : goal.returns-clause-finds
returns-clause-finds c =
    let gone = c.bytes_in-gone.ensures.bytes ∙ ap bytes_in c.as_slice.ensures in
    let come = c.bytes_in-come.ensures.bytes ∙ ap bytes_in c.as_slice-2.ensures in
    let replaced = bytes-replaced c.args.own.now.records c.sessions.ensures
    (omega (arith, c.requires.counted, c.requires.within)) c.index-sessions-number.is c.args.session.now in
    rw (gone, come, replaced) at c.within_exchanged.ensures.finds
