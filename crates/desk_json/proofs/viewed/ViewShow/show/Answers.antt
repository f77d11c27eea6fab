use Rattle.desk_json.proofs.viewed.ViewShow.show.Goals as goal

pub returns-in-Conflict : goal.returns-in-Conflict
returns-in-Conflict c = rw c.in-Conflict.is c.show_conflict.ensures
