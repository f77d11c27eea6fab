use Rattle.std.proofs.Common.{◌<◌, ◌∙◌, ◌++◌, ◌∷◌, [], length, map, take, ap, arith, length-take, length-set}
use Rattle.std.proofs.lemmas.List.{length-map, map-append, take_more_set}
use Rattle.fix_model.specs.Sought.{aim_of}
use Rattle.fix_model.proofs.rows.Sought.add.Goals as goal

pub bounds-self-inside-self-inside : goal.bounds-self-inside-self-inside
bounds-self-inside-self-inside c =
    let seen : length (take c.self.inside.count c.self.inside.texts) <
    8 = rw (← c.self.view_is, length-map (take c.self.inside.count c.self.inside.texts) aim_of) at c.requires in
    omega (arith, length-take c.self.inside.count c.self.inside.texts, c.self.invariant.0, c.self.invariant.1)

pub invariant_of-self : goal.invariant_of-self
invariant_of-self c =
    let seen : length (take c.self.inside.count c.self.inside.texts) <
    8 = rw (← c.self.view_is, length-map (take c.self.inside.count c.self.inside.texts) aim_of) at c.requires in (
      length-set c.self.inside.texts c.self.inside.count _ ∙ c.self.invariant.0,
      omega
          (arith, length-take c.self.inside.count c.self.inside.texts, c.self.invariant.0, c.self.invariant.1),
    )

pub returns : goal.returns
returns c =
    let seen : length (take c.self.inside.count c.self.inside.texts) <
    8 = rw (← c.self.view_is, length-map (take c.self.inside.count c.self.inside.texts) aim_of) at c.requires in
    let within : c.self.inside.count < length c.self.inside.texts = omega
    (arith, length-take c.self.inside.count c.self.inside.texts, c.self.invariant.0, c.self.invariant.1) in
    ap (λ texts. map aim_of texts) (take_more_set c.self.inside.texts c.self.inside.count
    (record { column = c.args.column; text = c.args.text; folded = c.args.folded }) within)
    ∙ map-append aim_of (take c.self.inside.count c.self.inside.texts) _ ∙ ap
    (λ seen. seen ++ (record { column = c.args.column; text = c.args.text.now; folded = c.args.folded }) ∷ [])
    c.self.view_is
