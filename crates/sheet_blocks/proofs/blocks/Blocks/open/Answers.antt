use Rattle.sheet_blocks.proofs.Standings.{IsOpened-front}
use Rattle.sheet_blocks.proofs.blocks.Blocks.open.Goals as goal

pub returns-clause-opened : goal.returns-clause-opened
returns-clause-opened g c =
    let made = c.in_ok-of_front.ensures in
    IsOpened-front c.args.delimiter (g.S.Source.left c.args.source.now) (g.S.Source.left c.front_of.new.source)
    c.in_ok-front.front.bytes.items c.in_ok-front.front.whole c.in_ok-of_front.field-0 c.in_ok-front.ensures.front
    made.text made.whole made.delimiter_is
