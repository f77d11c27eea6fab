use Rattle.std.proofs.Common.{◌∙◌, [], ℕ, List, Bool, false, ap, slice_get}
use Rattle.desk_carry.proofs.Words.{map-kept}
use Rattle.desk_carry.proofs.laws.a_word_that_stays_keeps_its_text.Goals as goal

pub returns-clause-text : goal.returns-clause-text
returns-clause-text c =
    ap (λ (texts : List (List ℕ)). slice_get texts c.args.new) c.requires.moved.typed_is
    ∙ map-kept c.args.before.now c.args.after.now c.args.typed.now [] c.requires.distinct c.requires.typed_whole
    c.args.old c.args.new c.requires.old c.requires.same

pub returns-clause-flag : goal.returns-clause-flag
returns-clause-flag c =
    ap (λ (flags : List Bool). slice_get flags c.args.new) c.requires.moved.confirmed_is
    ∙ map-kept c.args.before.now c.args.after.now c.args.confirmed.now false c.requires.distinct
    c.requires.confirmed_whole c.args.old c.args.new c.requires.old c.requires.same
