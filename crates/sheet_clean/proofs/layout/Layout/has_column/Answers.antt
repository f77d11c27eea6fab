use Rattle.std.proofs.Common.{◌∙◌, ap, get_or}
use Rattle.std.specs.Prelude.{is_some}
use Rattle.sheet_clean.proofs.Laid.{column-laid}
use Rattle.sheet_clean.proofs.layout.Layout.has_column.Goals as goal

pub returns : goal.returns
returns c = c.is_some.ensures ∙ ap is_some (c.index.ensures
    ∙ ap (λ place. get_or c.args.self.now.columns.items place c.index.result.now) c.from.ensures
    ∙ column-laid c.args.setting.now c.args.self.now c.args.attribute _ c.requires.laid c.requires.within)
