use Rattle.std.proofs.Common.{◌≡◌, ◌≤◌, ◌∙◌, sym, ap, [], ◌∷◌, ◌++◌}
use Rattle.std.specs.Option.{option_to_list}
use Rattle.desk_words.specs.Tables.{lists_of}
use Rattle.keeper_core.proofs.Rooms.{All-last, HasPlaces-push, lists_of-push, with_clerk-new}
use Rattle.keeper_core.proofs.lists.add_list.Goals as goal

pub returns-then-place-clerks-clause-lists : goal.returns-then-place-clerks-clause-lists
returns-then-place-clerks-clause-lists g c =
    let popped : c.args.fresh.now.items ≡ c.pop.new.self.items ++ c.unwrap-room.result ∷ [] =
    c.pop.ensures.items ∙ ap (λ last. c.pop.new.self.items ++ option_to_list last) c.unwrap-room.ensures in
    let empty : c.unwrap-room.result.items ≡ [] =
    All-last (λ room. room.items ≡ []) c.args.fresh.now.items c.pop.new.self.items c.unwrap-room.result popped
    c.requires.fresh.empty in
    ap lists_of c.push_reserved.ensures ∙ lists_of-push c.args.lists.now.items c.unwrap-room.result empty
    ∙ sym (with_clerk-new (lists_of c.args.lists.now) c.args.place c.args.clerks c.if-place-clerks.true)

pub returns-then-place-clerks-clause-room : goal.returns-then-place-clerks-clause-room
returns-then-place-clerks-clause-room g c = λ named count have places.
    let popped : c.args.fresh.now.items ≡ c.pop.new.self.items ++ c.unwrap-room.result ∷ [] =
    c.pop.ensures.items ∙ ap (λ last. c.pop.new.self.items ++ option_to_list last) c.unwrap-room.ensures in
    let enough : count ≤ c.unwrap-room.result.spare =
    All-last (λ room. count ≤ room.spare) c.args.fresh.now.items c.pop.new.self.items c.unwrap-room.result popped
    places in
    HasPlaces-push c.args.lists.now c.push_reserved.new.self c.unwrap-room.result named count c.push_reserved.ensures
    enough have
