use Rattle.std.proofs.Common.{◌∙◌, sym}
use Rattle.sheet_clean.proofs.Laid.{attribute-bound, attribute-laid}
use Rattle.sheet_clean.proofs.layout.Layout.attribute_at.Goals as goal

pub returns-clause-attribute : goal.returns-clause-attribute
returns-clause-attribute c = c.index.ensures
    ∙ attribute-laid c.args.setting.now c.args.self.now c.args.column _ c.requires.laid c.requires.within

pub returns-clause-bound : goal.returns-clause-bound
returns-clause-bound c = attribute-bound c.args.setting.now _ c.index.result.now
    (sym (c.index.ensures
    ∙ attribute-laid c.args.setting.now c.args.self.now c.args.column _ c.requires.laid c.requires.within))
    c.requires.narrow
