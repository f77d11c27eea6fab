use Rattle.tcp_door.proofs.Gathering.{gathers_piece}
use Rattle.tcp_door.proofs.held.HeldPeer.keep.Goals as goal

-- the piece is what came
pub returns-in-Ok : goal.returns-in-Ok
returns-in-Ok c = rw (← c.self.view_is) (gathers_piece _ c.args.piece.now _ _ _ c.in-Ok.ensures.items)
